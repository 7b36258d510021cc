-- The machine of the sheet of rows is the machine that the rows say. Assumes nothing.
use mathlib.Core.Path.{◌≡◌, refl, sym, ap, ◌∙◌}
use mathlib.Core.Bool.{Bool, true, false, cond}
use mathlib.Core.Option.{none, some}
use mathlib.Core.List.{List, [], ◌∷◌, ◌++◌, flat_map}
use Prim.Native.Nat.{ℕ, zero, suc, ◌+◌, ◌*◌, ◌≤◌, ◌<◌}
use native.Mathlib.Omega.{arith}
use lib.Dec.{eqb}
use lib.Ieee.{of_bits}
use lib.ListN.{length, get_or, replicate, length-append, length-replicate}
use lib.Seq.{ext_get_or}
use borrow.Author.Tests.{eqb-true, ne_eqb}
use Rattle.tropical_weight.specs.Limits.{unit}
use Rattle.tropical_weight.specs.Tropical.{one}
use Rattle.tropical_weight.specs.Grid as Grid
use Rattle.sheet.specs.Below.{list_below}
use Rattle.sheet.specs.Sheet.{Parts, unit_of, no_start, link_count, node_count, mark, final_bits}
use Rattle.sheet.specs.Machine.{Link, weight_of, sources_below, start_of, final_of, link_of, machine_of}
use Rattle.sheet.proofs.Below.{length-list_below, get_or-list_below, list_below-same, flat-snoc}
use Rattle.sheet.proofs.Encoding.{Held, weight-back}
use Rattle.text_rows.specs.Fields.{Weight, finite, barred}
use Rattle.text_rows.specs.Rows.{Row, link, final, first_node, weight_passes, weights_pass, weighs}
use Rattle.text_rows.specs.Convert.{field_of, link_from, count_from, mark_fields, nodes_in, parts_of_rows}
use Rattle.text_rows.specs.RowMachine.{link_in, final_in, machine_of_rows}
use Rattle.text_rows.proofs.Segments.{segments, length-links}
use Rattle.text_rows.proofs.Filled.{named}
use Rattle.text_rows.proofs.Judged.{few-units, links-are, start_is, form-is, node-count, count-is, mark-is, final_bits-is, first-named}
use Rattle.sheet.proofs.Apart.{both}

-- ---- links by their sources and their words
absent : Link
absent = record { source = 0; ilabel = 0; olabel = 0; weight = one; next = 0 }

unfoldable links_by : List ℕ → List ℕ → List Link
unfolding Grid.units_of of_bits
links_by [] ws = []
links_by (s ∷ ss) [] = []
links_by (s ∷ ss) (i ∷ []) = []
links_by (s ∷ ss) (i ∷ o ∷ []) = []
links_by (s ∷ ss) (i ∷ o ∷ b ∷ []) = []
links_by (s ∷ ss) (i ∷ o ∷ b ∷ t ∷ ws) = record { source = s; ilabel = i; olabel = o; weight = weight_of unit b; next = t } ∷ links_by ss ws

-- four words a link
by_append : (ss : List ℕ) (ws : List ℕ) (ss' ws' : List ℕ) → length ws ≡ 4 * length ss → links_by (ss ++ ss') (ws ++ ws') ≡ links_by ss ws ++ links_by ss' ws'
unfolding links_by
by_append [] [] ss' ws' e = refl
by_append [] (w ∷ ws) ss' ws' e = absurd (omega arith)
by_append (s ∷ ss) [] ss' ws' e = absurd (omega arith)
by_append (s ∷ ss) (i ∷ []) ss' ws' e = absurd (omega arith)
by_append (s ∷ ss) (i ∷ o ∷ []) ss' ws' e = absurd (omega arith)
by_append (s ∷ ss) (i ∷ o ∷ b ∷ []) ss' ws' e = absurd (omega arith)
by_append (s ∷ ss) (i ∷ o ∷ b ∷ t ∷ ws) ss' ws' e = ap (λ (l : List Link). record { source = s; ilabel = i; olabel = o; weight = weight_of unit b; next = t } ∷ l) (by_append ss ws ss' ws' (omega arith))

length-by : (ss ws : List ℕ) → length ws ≡ 4 * length ss → length (links_by ss ws) ≡ length ss
unfolding links_by
length-by [] ws e = refl
length-by (s ∷ ss) [] e = absurd (omega arith)
length-by (s ∷ ss) (i ∷ []) e = absurd (omega arith)
length-by (s ∷ ss) (i ∷ o ∷ []) e = absurd (omega arith)
length-by (s ∷ ss) (i ∷ o ∷ b ∷ []) e = absurd (omega arith)
length-by (s ∷ ss) (i ∷ o ∷ b ∷ t ∷ ws) e = ap suc (length-by ss ws (omega arith))

-- link l, in the fields of a sheet of units of 1 / 2 ^ j
abbrev link_at : ℕ → List ℕ → List ℕ → ℕ → Link
link_at j ss ws l = record { source = get_or ss l 0; ilabel = get_or ws (4 * l) 0; olabel = get_or ws (4 * l + 1) 0; weight = weight_of j (get_or ws (4 * l + 2) 0); next = get_or ws (4 * l + 3) 0 }

by-at : (ss ws : List ℕ) (l : ℕ) → length ws ≡ 4 * length ss → l < length ss → get_or (links_by ss ws) l absent ≡ link_at unit ss ws l
unfolding links_by
by-at [] ws l e h = absurd (omega arith)
by-at (s ∷ ss) [] l e h = absurd (omega arith)
by-at (s ∷ ss) (i ∷ []) l e h = absurd (omega arith)
by-at (s ∷ ss) (i ∷ o ∷ []) l e h = absurd (omega arith)
by-at (s ∷ ss) (i ∷ o ∷ b ∷ []) l e h = absurd (omega arith)
by-at (s ∷ ss) (i ∷ o ∷ b ∷ t ∷ ws) zero e h = refl
by-at (s ∷ ss) (i ∷ o ∷ b ∷ t ∷ ws) (suc l) e h = by-at ss ws l (omega arith) (omega arith) ∙ λ j. record {
  source = get_or ss l 0;
  ilabel = get_or (i ∷ o ∷ b ∷ t ∷ ws) (first j) 0;
  olabel = get_or (i ∷ o ∷ b ∷ t ∷ ws) (at 1 j) 0;
  weight = weight_of unit (get_or (i ∷ o ∷ b ∷ t ∷ ws) (at 2 j) 0);
  next = get_or (i ∷ o ∷ b ∷ t ∷ ws) (at 3 j) 0;
}
  where
    first : suc (suc (suc (suc (4 * l)))) ≡ 4 * suc l
    first = omega arith

    at : (k : ℕ) → suc (suc (suc (suc (4 * l + k)))) ≡ 4 * suc l + k
    at k = omega arith

-- ---- a node's links
held : (w : Weight) → weight_passes w ≡ true → Held (weighs w)
held (finite w) e = omega (arith, few-units w e)
held barred e = tt

node-links : (v : ℕ) (rs : List Row) → weights_pass rs ≡ true → links_by (replicate (count_from v rs) v) (flat_map (link_from v) rs) ≡ flat_map (link_in v) rs
unfolding links_by count_from flat_map weights_pass
node-links v [] e = refl
node-links v (link s t i o w ∷ rs) e = go (eqb s v) refl (both (weight_passes w) (weights_pass rs) e) (node-links v rs)
  where
    go : (b : Bool) → eqb s v ≡ b → (weight_passes w ≡ true) × (weights_pass rs ≡ true) → (weights_pass rs ≡ true → links_by (replicate (count_from v rs) v) (flat_map (link_from v) rs) ≡ flat_map (link_in v) rs)
        → links_by (replicate (cond b 1 0 + count_from v rs) v) (cond b (i ∷ o ∷ field_of w ∷ t ∷ []) [] ++ flat_map (link_from v) rs) ≡ cond b (record { source = s; ilabel = i; olabel = o; weight = weighs w; next = t } ∷ []) [] ++ flat_map (link_in v) rs
    go true q h later =
        ap (λ (k : ℕ). links_by (replicate k v) (i ∷ o ∷ field_of w ∷ t ∷ flat_map (link_from v) rs)) (let z : 1 + count_from v rs ≡ suc (count_from v rs) = omega arith in z)
        ∙ λ j. record { source = sym (eqb-true s v q) j; ilabel = i; olabel = o; weight = weight-back unit (omega arith) (weighs w) (held w h.0) j; next = t } ∷ later h.1 j
    go false q h later = ap (λ (k : ℕ). links_by (replicate k v) (flat_map (link_from v) rs)) (let z : 0 + count_from v rs ≡ count_from v rs = omega arith in z) ∙ later h.1
node-links v (final u w ∷ rs) e =
    ap (λ (k : ℕ). links_by (replicate k v) (flat_map (link_from v) rs)) (let z : 0 + count_from v rs ≡ count_from v rs = omega arith in z) ∙ node-links v rs (both (weight_passes w) (weights_pass rs) e).1

-- ---- a node's final weight
final-row : (v : ℕ) (rs : List Row) → weights_pass rs ≡ true → final_of unit (get_or (mark_fields v rs) 0 0) (get_or (mark_fields v rs) 1 0) ≡ final_in v rs
unfolding mark_fields final_in weights_pass
final-row v [] e = refl
final-row v (link s t i o w ∷ rs) e = final-row v rs (both (weight_passes w) (weights_pass rs) e).1
final-row v (final u w ∷ rs) e = go (eqb u v) (both (weight_passes w) (weights_pass rs) e) (final-row v rs)
  where
    go : (b : Bool) → (weight_passes w ≡ true) × (weights_pass rs ≡ true) → (weights_pass rs ≡ true → final_of unit (get_or (mark_fields v rs) 0 0) (get_or (mark_fields v rs) 1 0) ≡ final_in v rs)
        → final_of unit (get_or (cond b (1 ∷ field_of w ∷ []) (mark_fields v rs)) 0 0) (get_or (cond b (1 ∷ field_of w ∷ []) (mark_fields v rs)) 1 0) ≡ cond b (some (weighs w)) (final_in v rs)
    go true h later = ap some (weight-back unit (omega arith) (weighs w) (held w h.0))
    go false h later = later h.1

-- ---- all of them
module _ (rs : List Row) (on : weights_pass rs ≡ true) where
  abbrev p : Parts
  p = parts_of_rows rs

  abbrev from : ℕ → List ℕ
  from v = replicate (count_from v rs) v

  abbrev fields : ℕ → List ℕ
  fields v = flat_map (link_from v) rs

  four-words : (n : ℕ) → length (segments n fields) ≡ 4 * length (segments n from)
  unfolding segments
  four-words zero = refl
  four-words (suc n) =
      omega (arith, four-words n, length-append (segments n fields) (fields n), length-append (segments n from) (from n), length-links n rs, length-replicate (count_from n rs) n)

  links-by : (n : ℕ) → links_by (segments n from) (segments n fields) ≡ flat_map (λ v. flat_map (link_in v) rs) (list_below n (λ v. v))
  unfolding segments list_below links_by flat_map
  links-by zero = refl
  links-by (suc n) =
      by_append (segments n from) (segments n fields) (from n) (fields n) (four-words n)
      ∙ (λ i. links-by n i ++ node-links n rs on i)
      ∙ sym (flat-snoc (λ v. flat_map (link_in v) rs) (list_below n (λ v. v)) n)

  sources-by : (n : ℕ) → n ≤ nodes_in rs → sources_below p n ≡ segments n from
  unfolding sources_below segments
  sources-by zero h = refl
  sources-by (suc n) h = λ i. sources-by n (omega arith) i ++ replicate (count-is rs n (omega arith) i) n

  sources-are : sources_below p (node_count p) ≡ segments (nodes_in rs) from
  sources-are = ap (sources_below p) (node-count rs) ∙ sources-by (nodes_in rs) (omega arith)

  abbrev ss : List ℕ
  ss = segments (nodes_in rs) from

  abbrev ws : List ℕ
  ws = segments (nodes_in rs) fields

  links-back : list_below (link_count p) (link_of p) ≡ flat_map (λ v. flat_map (link_in v) rs) (list_below (nodes_in rs) (λ v. v))
  links-back =
      ext_get_or absent (list_below (link_count p) (link_of p)) (links_by ss ws) (length-list_below (link_count p) (link_of p) ∙ sym (length-by ss ws (four-words (nodes_in rs)) ∙ long)) at
      ∙ links-by (nodes_in rs)
    where
      long : length ss ≡ link_count p
      long = omega (arith, four-words (nodes_in rs), ap length (links-are rs))

      at : (l : ℕ) → l < length (list_below (link_count p) (link_of p)) → get_or (list_below (link_count p) (link_of p)) l absent ≡ get_or (links_by ss ws) l absent
      at l h =
          let b : l < link_count p = omega (arith, length-list_below (link_count p) (link_of p)) in
          get_or-list_below (link_count p) (link_of p) l absent b
          ∙ (λ i. link_at (unit_of (form-is rs i)) (sources-are i) (links-are rs i) l)
          ∙ sym (by-at ss ws l (four-words (nodes_in rs)) (omega (arith, long)))

  finals-back : list_below (node_count p) (λ v. final_of (unit_of p.form) (mark p v) (final_bits p v)) ≡ list_below (nodes_in rs) (λ v. final_in v rs)
  finals-back =
      (λ i. list_below (node-count rs i) (λ v. final_of (unit_of (form-is rs i)) (mark p v) (final_bits p v)))
      ∙ list_below-same (nodes_in rs) (λ v. final_of unit (mark p v) (final_bits p v)) (λ v. final_in v rs) (λ v h. (λ i. final_of unit (mark-is rs v h i) (final_bits-is rs v h i)) ∙ final-row v rs on)

  -- The machine of their sheet is the one that they say.
  pub rows-machine : nodes_in rs < 4294967296 → machine_of p ≡ machine_of_rows rs
  unfolding machine_of machine_of_rows
  rows-machine few = λ i. record {
    links = links-back i;
    finals = finals-back i;
    start = (ap start_of (start_is rs) ∙ ap (λ (b : Bool). cond b none (some (first_node rs))) (ne_eqb (first_node rs) no_start (λ e. omega (arith, e, first-named (nodes_in rs) rs (omega arith) (named rs))))) i;
    form = form-is rs i;
  }
