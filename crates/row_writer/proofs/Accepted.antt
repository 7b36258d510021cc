-- Of an accepted sheet: what its counts, its start and its form are of its parts, the numbers of each node's links, its marks, and that its weights pass test 4, in 64ths where it is short. Assumes nothing.
use mathlib.Core.Path.{◌≡◌, refl, sym, ap, ◌∙◌, subst}
use mathlib.Core.Bool.{Bool, true, false, ◌&&◌, ◌||◌, cond, false≢true, true≢false}
use Rattle.std.proofs.Common.{Option, None, Some, is_some, unwrap_or}
use Prim.Native.Nat.{ℕ, ◌+◌, ◌*◌, ◌≤◌, ◌<◌}
use native.Mathlib.Omega.{arith}
use lib.Dec.{eqb, ltb}
use lib.ListN.{get_or}
use borrow.Author.Tests.{eqb-true, ltb-false}
use Rattle.tropical_weight.specs.Limits.{unit}
use Rattle.sheet.specs.declared.form.Form.{Form}
use Rattle.sheet.specs.declared.accepted.Sheet.{Sheet}
use Rattle.sheet.specs.declared.source.Source.{Source}
use Rattle.sheet.specs.declared.tr.Trailer.{Trailer}
use Rattle.sheet.specs.Below.{all_below, sum_below}
use Rattle.sheet.specs.Words.{word}
use Rattle.sheet.specs.Records.{count_at, first_link}
use Rattle.sheet.specs.Sheet.{link_length, Parts, link_count, node_count, ilabel, olabel, link_bits, next, count, mark, final_bits, well_marked, weight_fits, weights_fit, parts_of, read_number, sizes_fit, nodes_fit, stated_links}
use Rattle.sheet.specs.Accepted.{start_in, ending}
use Rattle.sheet.proofs.Apart.{both}
use Rattle.sheet.proofs.Below.{all_below-at, sum_below-same}
use Rattle.sheet.proofs.Fields.{get_d_words}
use Rattle.sheet.proofs.AcceptedSheet as Of
use Rattle.text_rows.specs.Written.{first_of, has_rows}
use Rattle.text_rows.proofs.Fitting as Fitting
use Rattle.text_rows.proofs.HasRows.{form-short}
use Rattle.text_rows.proofs.RowsBack.{accepted}

-- where there is no start, its field is no node
pub start-past : (nodes start : ℕ) → start_in nodes start ≡ None → nodes ≤ start
start-past nodes start e = go (ltb start nodes) refl e
  where
    go : (b : Bool) → ltb start nodes ≡ b → cond b (Some start) None ≡ None → nodes ≤ start
    go true q e = absurd (true≢false (ap is_some e))
    go false q e = ltb-false start nodes q

-- a final weight is that of a node with a mark
pub ended : (p : Parts) (v bits : ℕ) → ending p v ≡ Some bits → (eqb (mark p v) 0 ≡ false) × (bits ≡ final_bits p v)
ended p v bits e = go (eqb (mark p v) 0) refl e
  where
    go : (b : Bool) → eqb (mark p v) 0 ≡ b → cond b None (Some (final_bits p v)) ≡ Some bits → (eqb (mark p v) 0 ≡ false) × (bits ≡ final_bits p v)
    go true q e = absurd (false≢true (ap is_some e))
    go false q e = (q, sym (ap (λ (o : Option ℕ). unwrap_or o 0) e))

module _ (s : Sheet) where
  abbrev p : Parts
  p = parts_of s.bytes.now

  -- ---- the trailer
  pub links-are : s.links ≡ link_count p
  links-are = sym (Of.link-count-is s.bytes.now s.links s.nodes s.start s.form s.accepted s.stated)

  pub nodes-are : s.nodes ≡ node_count p
  nodes-are = sym (Of.node-count-is s.bytes.now s.links s.nodes s.start s.form s.accepted s.stated)

  pub start_is : s.start ≡ p.start
  start_is = Of.start-is s.bytes.now s.links s.nodes s.start s.form s.accepted s.stated

  pub form-is : s.form ≡ p.form
  unfolding parts_of
  form-is = Of.form-is s.bytes.now s.links s.nodes s.start s.form s.accepted s.stated

  -- ---- links by node
  pub count-is : (v : ℕ) → v < s.nodes → count_at s.bytes.now s.links v ≡ count p v
  count-is = Of.count-is s.bytes.now s.links s.nodes s.start s.form s.accepted s.stated

  first-is : (v : ℕ) → v ≤ s.nodes → first_link s.bytes.now s.links v ≡ first_of p v
  first-is v h = sum_below-same v (count_at s.bytes.now s.links) (count p) (λ u b. count-is u (omega arith))

  -- ---- marks
  nodes-fit : nodes_fit p ≡ true
  unfolding read_number
  nodes-fit = (accepted (sizes_fit s.bytes.now) p s.accepted).0

  -- a node has an end where its mark is 1
  pub end-marked : (v : ℕ) → v < s.nodes → is_some (ending p v) ≡ eqb (mark p v) 1
  unfolding nodes_fit
  end-marked v h =
      let all = (both (all_below (node_count p) (λ u. well_marked (mark p u) (final_bits p u))) (eqb (sum_below (node_count p) (count p)) (link_count p)) nodes-fit).0 in
      go (eqb (mark p v) 1) (eqb (mark p v) 0) refl refl (all_below-at (node_count p) (λ u. well_marked (mark p u) (final_bits p u)) all v (omega (arith, nodes-are)))
    where
      go : (a b : Bool) → eqb (mark p v) 1 ≡ a → eqb (mark p v) 0 ≡ b → a || (b && eqb (final_bits p v) 0) ≡ true → is_some (cond b None (Some (final_bits p v))) ≡ a
      go true true e f w = absurd (omega (arith, eqb-true (mark p v) 1 e, eqb-true (mark p v) 0 f))
      go true false e f w = refl
      go false true e f w = refl
      go false false e f w = absurd (false≢true w)

  -- ---- a link's next node and labels
  module _ (l : ℕ) (h : l < s.links) where
    pub next_at : word s.bytes.now (link_length * l + 12) ≡ next p l
    next_at = Of.next-is s.bytes.now s.links s.nodes s.start s.form s.accepted s.stated l h

    l-in : l < stated_links s.bytes.now
    l-in = subst (λ (n : ℕ). l < n) (ap (λ (t : Trailer). t.links) s.stated) h

    among : (i at : ℕ) → i < 4 * stated_links s.bytes.now → 4 * i ≡ at → word s.bytes.now at ≡ get_or p.links i 0
    unfolding parts_of
    among i at b e = sym (get_d_words s.bytes.now 0 (4 * stated_links s.bytes.now) i b ∙ ap (word s.bytes.now) (let z : 0 + 4 * i ≡ at = omega arith in z))

    pub ilabel-at : word s.bytes.now (link_length * l) ≡ ilabel p l
    ilabel-at = among (4 * l) (link_length * l) (omega (arith, l-in)) (omega arith)

    pub olabel-at : word s.bytes.now (link_length * l + 4) ≡ olabel p l
    olabel-at = among (4 * l + 1) (link_length * l + 4) (omega (arith, l-in)) (omega arith)

  -- ---- weights
  weights-fit : weights_fit p ≡ true
  unfolding read_number
  weights-fit = (accepted (sizes_fit s.bytes.now) p s.accepted).2

  pub link_on : s.form ≡ Form.Short → (l : ℕ) → l < s.links → weight_fits unit (link_bits p l) ≡ true
  link_on short l h = Fitting.link_on p (sym form-is ∙ short) weights-fit l (subst (λ (n : ℕ). l < n) links-are h)

  pub final-on : s.form ≡ Form.Short → (v bits : ℕ) → v < s.nodes → ending p v ≡ Some bits → weight_fits unit bits ≡ true
  final-on short v bits h e =
      let held = ended p v bits e in
      ap (weight_fits unit) held.1 ∙ ap (λ (b : Bool). b || weight_fits unit (final_bits p v)) (sym held.0) ∙ Fitting.final-on p (sym form-is ∙ short) weights-fit v (omega (arith, nodes-are))

-- one that has rows ends in the shorter trailer, and so does that of each of its sources
pub short-of : (s t : Sheet) → has_rows (parts_of s.bytes.now) ≡ true → t ≡ s → t.form ≡ Form.Short
short-of s t rows same = ap (λ (x : Sheet). x.form) same ∙ form-is s ∙ form-short (parts_of s.bytes.now) rows

-- a source's first link, by the parts
pub source-first : (r : Source) → r.first ≡ first_of (parts_of r.sheet.bytes.now) r.node
source-first r = r.begins ∙ first-is r.sheet r.node (omega (arith, r.inside))
