-- How long the rows of a sheet are, all in one: the sum over its nodes, by the sum over each node's links. Assumes nothing.
use mathlib.Core.Path.{◌≡◌, refl, sym, ap, ◌∙◌}
use mathlib.Core.Bool.{Bool, true, false, cond}
use mathlib.Core.List.{List, [], ◌++◌, flat_map}
use Prim.Native.Nat.{ℕ, zero, suc, ◌+◌, ◌≤◌, ◌<◌}
use native.Mathlib.Numerals.{add-one}
use native.Mathlib.Omega.{arith}
use lib.Dec.{eqb}
use lib.ListN.{length, length-append}
use borrow.Author.Tests.{eq-eqb, ne_eqb}
use Rattle.sheet.specs.declared.accepted.Sheet.{Sheet}
use Rattle.sheet.specs.Below.{sum_below, list_below}
use Rattle.sheet.specs.Sheet.{Parts, node_count, count, parts_of}
use Rattle.sheet.proofs.Below.{sum_mono, sum_below-same, sum_below-add, sum_below-only, flat-snoc}
use Rattle.text_rows.specs.Written.{link_row, final_row, first_of, node_rows, text_of}
use Rattle.row_writer.specs.OtherRows.{other_rows}

pub sum_more : (f : ℕ → ℕ) (n : ℕ) → sum_below (n + 1) f ≡ sum_below n f + f n
unfolding sum_below
sum_more f n = ap (λ (k : ℕ). sum_below k f) (add-one n)

-- a node's rows, by the sheet and the number that its source has
pub rows-same : (s t : Sheet) (u v : ℕ) → s ≡ t → u ≡ v → node_rows (parts_of s.bytes.now) u ≡ node_rows (parts_of t.bytes.now) v
rows-same s t u v e h i = node_rows (parts_of (e i).bytes.now) (h i)

-- ---- texts for the numbers below a bound, one after the other
module _ (f : ℕ → List ℕ) where
  abbrev pub texts : ℕ → List ℕ
  texts n = flat_map f (list_below n (λ i. i))

  pub texts-none : texts 0 ≡ []
  unfolding list_below flat_map
  texts-none = refl

  texts-next : (n : ℕ) → texts (suc n) ≡ texts n ++ f n
  unfolding list_below
  texts-next n = flat-snoc f (list_below n (λ i. i)) n

  pub texts-more : (n : ℕ) → texts (n + 1) ≡ texts n ++ f n
  texts-more n = ap texts (add-one n) ∙ texts-next n

  pub length-texts : (n : ℕ) → length (texts n) ≡ sum_below n (λ i. length (f i))
  unfolding sum_below
  length-texts zero = ap length texts-none
  length-texts (suc n) = ap length (texts-next n) ∙ length-append (texts n) (f n) ∙ ap (λ (k : ℕ). k + length (f n)) (length-texts n)

  -- there is room for the next one where there is for all
  pub next_fits : (i n : ℕ) → i < n → length (texts i) + length (f i) ≤ length (texts n)
  unfolding sum_below
  next_fits i n h = omega (arith, length-texts i, length-texts n, sum_mono (λ j. length (f j)) n (suc i) h)

-- ---- of a sheet
module _ (p : Parts) where
  -- the rows of a node's links, from the first on
  abbrev pub row_from : ℕ → ℕ → ℕ → List ℕ
  row_from v first i = link_row p v (first + i)

  module _ (v first n : ℕ) (begins : first ≡ first_of p v) (are : n ≡ count p v) where
    pub node-is : node_rows p v ≡ texts (row_from v first) n ++ final_row p v
    unfolding node_rows
    node-is = λ i. texts (row_from v (sym begins i)) (sym are i) ++ final_row p v

    pub length-node : length (node_rows p v) ≡ length (texts (row_from v first) n) + length (final_row p v)
    length-node = ap length node-is ∙ length-append (texts (row_from v first) n) (final_row p v)

  -- the start's rows, and those of the others
  pub text-is : (n : ℕ) → n ≡ node_count p → text_of p ≡ node_rows p p.start ++ texts (other_rows p) n
  unfolding text_of
  text-is n e = ap (λ (k : ℕ). node_rows p p.start ++ texts (other_rows p) k) (sym e)

  in_two : length (text_of p) ≡ length (node_rows p p.start) + length (texts (other_rows p) (node_count p))
  in_two = ap length (text-is (node_count p) refl) ∙ length-append (node_rows p p.start) (texts (other_rows p) (node_count p))

  pub start_fits_lem : length (node_rows p p.start) ≤ length (text_of p)
  start_fits_lem = omega (arith, in_two)

  pub other_fits : (v : ℕ) → v < node_count p → length (node_rows p p.start) + length (texts (other_rows p) v) + length (other_rows p v) ≤ length (text_of p)
  other_fits v h = omega (arith, in_two, next_fits (other_rows p) v (node_count p) h)

  -- the start's rows, counted apart, are counted once
  pub length-text : p.start < node_count p → length (text_of p) ≡ sum_below (node_count p) (λ v. length (node_rows p v))
  length-text h =
      in_two ∙ ap (λ (k : ℕ). length (node_rows p p.start) + k) (length-texts (other_rows p) (node_count p))
      ∙ ap (λ (k : ℕ). k + sum_below (node_count p) (λ v. length (other_rows p v))) (sym only)
      ∙ sym (sum_below-add (node_count p) start_length (λ v. length (other_rows p v)))
      ∙ sum_below-same (node_count p) (λ v. start_length v + length (other_rows p v)) (λ v. length (node_rows p v)) (λ v b. either (node_rows p v) (eqb v p.start))
    where
      start_length : ℕ → ℕ
      start_length v = cond (eqb v p.start) (length (node_rows p v)) 0

      only : sum_below (node_count p) start_length ≡ length (node_rows p p.start)
      only =
          sum_below-only (node_count p) start_length p.start (λ v q. ap (λ (b : Bool). cond b (length (node_rows p v)) 0) (ne_eqb v p.start q)) h
          ∙ ap (λ (b : Bool). cond b (length (node_rows p p.start)) 0) (eq-eqb p.start p.start refl)

      either : (rows : List ℕ) (b : Bool) → cond b (length rows) 0 + length (cond b [] rows) ≡ length rows
      either rows true = omega arith
      either rows false = omega arith
