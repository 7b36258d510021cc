-- Of an accepted sheet's nodes: where their links begin and end, and the field of an absent final weight. Assumes nothing.
use mathlib.Core.Path.{◌≡◌, refl, sym, ap, ◌∙◌}
use mathlib.Core.Bool.{Bool, cond, true, false, ◌&&◌, ◌||◌}
use mathlib.Core.List.{List}
use Prim.Native.Nat.{ℕ, suc, ◌+◌, ◌≤◌, ◌<◌}
use native.Mathlib.Omega.{arith}
use lib.Dec.{eqb}
use Rattle.std.proofs.Common.{None, Some}
use borrow.Author.Tests.{eqb-true}
use Rattle.sheet.specs.declared.form.Form.{Form}
use Rattle.sheet.specs.Below.{all_below, sum_below}
use Rattle.sheet.specs.Sheet.{link_count, node_count, count, mark, final_bits, well_marked, nodes_fit, parts_of, sizes_fit, read_number}
use Rattle.sheet.specs.Records.{trailer_at, count_at, mark_at, final_at, first_link}
use Rattle.sheet.specs.Accepted.{trailer_in, ending_at, ending}
use Rattle.sheet.proofs.Apart.{both}
use Rattle.sheet.proofs.Below.{all_below-at, sum_below-same, sum_mono}
use Rattle.sheet.proofs.Sources.{counts-sum}
use Rattle.sheet.proofs.AcceptedSheet.{nodes-pass, link-count-is, node-count-is, count-is, mark-is, final-is}

-- a node's links begin where those of the nodes before it end
pub next-first : (bytes : List ℕ) (links v : ℕ) → first_link bytes links (suc v) ≡ first_link bytes links v + count_at bytes links v
next-first bytes links v = unfold sum_below in refl

-- by its mark, 0 or 1, and its field
mark-says : (m b : ℕ) → well_marked m b ≡ true → m ≡ 0 → b ≡ 0
mark-says m b e z = go (eqb m 1) refl e
  where
    go : (t : Bool) → eqb m 1 ≡ t → t || (eqb m 0 && eqb b 0) ≡ true → b ≡ 0
    go true q h = absurd (omega (arith, eqb-true m 1 q))
    go false q h = eqb-true b 0 (both (eqb m 0) (eqb b 0) h).1

module _ (bytes : List ℕ) (links nodes start : ℕ) (form : Form) (accepted : read_number bytes ≡ 0) (stated : trailer_in links nodes start form ≡ trailer_at bytes) where
  passed : nodes_fit (parts_of bytes) ≡ true
  unfolding read_number
  passed = nodes-pass (sizes_fit bytes) (parts_of bytes) accepted

  -- all links leave a node
  pub first-total : first_link bytes links nodes ≡ links
  first-total =
      sym (sum_below-same nodes (count (parts_of bytes)) (count_at bytes links) (λ v h. sym (count-is bytes links nodes start form accepted stated v h)))
      ∙ ap (λ (n : ℕ). sum_below n (count (parts_of bytes))) (sym (node-count-is bytes links nodes start form accepted stated))
      ∙ counts-sum (parts_of bytes) passed ∙ link-count-is bytes links nodes start form accepted stated

  -- the links of the nodes up to one are among its links
  pub first-within : (v : ℕ) → v < nodes → first_link bytes links v + count_at bytes links v ≤ links
  first-within v h = omega (arith, next-first bytes links v, sum_mono (count_at bytes links) nodes (suc v) h, first-total)

  -- where there is no mark, the field of the final weight is 0
  pub absent-zero : (v : ℕ) → v < nodes → mark_at bytes links v ≡ 0 → final_at bytes links v ≡ 0
  unfolding nodes_fit
  absent-zero v h e =
      let P = parts_of bytes in
      let all = (both (all_below (node_count P) (λ u. well_marked (mark P u) (final_bits P u))) (eqb (sum_below (node_count P) (count P)) (link_count P)) passed).0 in
      let one = all_below-at (node_count P) (λ u. well_marked (mark P u) (final_bits P u)) all v (omega (arith, node-count-is bytes links nodes start form accepted stated)) in
      final-is bytes links nodes start form accepted stated v h
      ∙ mark-says (mark P v) (final_bits P v) one (sym (mark-is bytes links nodes start form accepted stated v h) ∙ e)

  -- the field of a final weight by the bytes is the one by the parts
  pub ending-is : (v : ℕ) → v < nodes → ending_at bytes links v ≡ ending (parts_of bytes) v
  ending-is v h i = cond (eqb (mark-is bytes links nodes start form accepted stated v h i) 0) None (Some (final-is bytes links nodes start form accepted stated v h i))
