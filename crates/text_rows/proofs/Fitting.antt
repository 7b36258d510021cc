-- Where the weights of the shorter form pass test 4, each link's bars or is on the grid of 64ths, and each marked node's. Assumes nothing.
use mathlib.Core.Path.{◌≡◌, sym, ap, ◌∙◌}
use mathlib.Core.Bool.{true, ◌&&◌, ◌||◌}
use Prim.Native.Nat.{ℕ, ◌<◌}
use lib.Dec.{eqb}
use Rattle.tropical_weight.specs.Limits.{unit}
use Rattle.sheet.specs.declared.form.Form.{Form}
use Rattle.sheet.specs.Below.{all_below}
use Rattle.sheet.specs.Sheet.{Parts, unit_of, link_count, node_count, link_bits, mark, final_bits, weight_fits, weights_fit}
use Rattle.sheet.proofs.Below.{all_below-at}
use Rattle.sheet.proofs.Apart.{both}

module _ (p : Parts) (short : p.form ≡ Form.Short) (weights-fit : weights_fit p ≡ true) where
  of_64 : all_below (link_count p) (λ l. weight_fits unit (link_bits p l)) && all_below (node_count p) (λ v. eqb (mark p v) 0 || weight_fits unit (final_bits p v)) ≡ true
  unfolding weights_fit
  of_64 =
      ap (λ (f : Form). all_below (link_count p) (λ l. weight_fits (unit_of f) (link_bits p l)) && all_below (node_count p) (λ v. eqb (mark p v) 0 || weight_fits (unit_of f) (final_bits p v))) (sym short)
      ∙ weights-fit

  halves : (all_below (link_count p) (λ l. weight_fits unit (link_bits p l)) ≡ true) × (all_below (node_count p) (λ v. eqb (mark p v) 0 || weight_fits unit (final_bits p v)) ≡ true)
  halves = both (all_below (link_count p) (λ l. weight_fits unit (link_bits p l))) (all_below (node_count p) (λ v. eqb (mark p v) 0 || weight_fits unit (final_bits p v))) of_64

  pub link_on : (l : ℕ) → l < link_count p → weight_fits unit (link_bits p l) ≡ true
  link_on l h = all_below-at (link_count p) (λ l. weight_fits unit (link_bits p l)) halves.0 l h

  pub final-on : (v : ℕ) → v < node_count p → eqb (mark p v) 0 || weight_fits unit (final_bits p v) ≡ true
  final-on v h = all_below-at (node_count p) (λ v. eqb (mark p v) 0 || weight_fits unit (final_bits p v)) halves.1 v h
