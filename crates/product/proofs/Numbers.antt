-- Refusals 10, 11 and 12 by the tests that the product's fields must pass, and by the counts and sums themselves. Assumes nothing.
use mathlib.Core.Path.{◌≡◌, refl, sym, ap, ◌∙◌, subst}
use mathlib.Core.Logic.{inl}
use mathlib.Core.Bool.{Bool, true, false, not, ◌&&◌, ◌||◌, cond}
use mathlib.Core.Option.{Option, none, some}
use Prim.Native.Nat.{ℕ, ◌+◌, ◌*◌, ◌≤◌, ◌<◌}
use native.Mathlib.Omega.{arith}
use lib.Dec.{leb, eqb}
use lib.ListN.{length}
use borrow.Author.Tests.{le-leb, lt-leb, leb-true}
use Rattle.std.proofs.lemmas.Bool.{and_left, and_right}
use Rattle.tropical_weight.specs.Limits.{finest, weight_limit, sum_limit, node_limit, link_limit}
use Rattle.tropical_weight.specs.Tropical.{Tropical, ◌⊗◌, Within}
use Rattle.tropical_weight.proofs.Sums.{within-mono, within-⊗}
use Rattle.sheet.specs.declared.refusal.Refusal.{Refusal}
use Rattle.sheet.specs.Below.{all_below}
use Rattle.sheet.specs.Sheet.{unit_of, link_count, node_count, mark, final_bits, link_bits, weight_fits, weights_fit}
use Rattle.sheet.specs.Machine.{Machine, unit_in, bits_of, parts_for}
use Rattle.sheet.proofs.Apart.{both}
use Rattle.sheet.proofs.Below.{all_below-same}
use Rattle.sheet.proofs.Encoding.{links-are, nodes-are, form-is, link_bits-is, mark-some, mark-none, final_bits-some, weight-back}
use Rattle.sheet.proofs.Refusals.{Known, known-cond, known}
use Rattle.machine.specs.Readings.{no_link, link, final}
use Rattle.machine.specs.Input.{counts_fit}
use Rattle.machine.proofs.Accepted.{weight-within}
use Rattle.product.specs.Product.{nodes, pairs, product}
use Rattle.product.specs.Refusals.{labelled, product_number}
use Rattle.product.specs.Fits.{final_fits, links_fit, finals_fit, sums_fit}
use Rattle.product.proofs.Fields.{product-links, product-nodes, product-form}

-- ---- a sum of two weights that passes test 4 is within the limit
sum-held : (v w : Tropical) → Within weight_limit v → Within weight_limit w → Within sum_limit (v ⊗ w)
sum-held v w p q = within-mono (weight_limit + weight_limit) sum_limit (v ⊗ w) (omega arith) (within-⊗ weight_limit weight_limit v w p q)

pub fits-within : (j : ℕ) → j ≤ finest → (v w : Tropical) → Within weight_limit v → Within weight_limit w → weight_fits j (bits_of j (v ⊗ w)) ≡ true → Within weight_limit (v ⊗ w)
fits-within j c v w p q e = subst (Within weight_limit) (weight-back j c (v ⊗ w) (sum-held v w p q)) (weight-within j c (bits_of j (v ⊗ w)) e)

-- ---- three tests in a row, and what the number of the first that fails tells of them
abbrev first-failed : Bool → Bool → Bool → ℕ
first-failed x y z = cond (not x) 10 (cond (not y) 11 (cond (not z) 12 0))

pub record Told (x y z : Bool) (k : ℕ) : Type 0 where
  pub labels : k ≡ 10 → x ≡ false
  pub size : k ≡ 11 → (x ≡ true) × (y ≡ false)
  pub sums : k ≡ 12 → (x ≡ true) × (y ≡ true) × (z ≡ false)
  pub passes : k ≡ 0 → (x ≡ true) × (y ≡ true) × (z ≡ true)

told : (x y z : Bool) → Told x y z (first-failed x y z)
told true true true = record { labels = λ e. absurd (omega arith); size = λ e. absurd (omega arith); sums = λ e. absurd (omega arith); passes = λ e. (refl, refl, refl) }
told true true false = record { labels = λ e. absurd (omega arith); size = λ e. absurd (omega arith); sums = λ e. (refl, refl, refl); passes = λ e. absurd (omega arith) }
told true false z = record { labels = λ e. absurd (omega arith); size = λ e. (refl, refl); sums = λ e. absurd (omega arith); passes = λ e. absurd (omega arith) }
told false y z = record { labels = λ e. refl; size = λ e. absurd (omega arith); sums = λ e. absurd (omega arith); passes = λ e. absurd (omega arith) }

first-most : (x y z : Bool) → first-failed x y z ≤ 12
first-most true true true = omega arith
first-most true true false = omega arith
first-most true false z = omega arith
first-most false y z = omega arith

module _ (a b : Machine) where
  -- ---- the tests of the product's fields
  pub counts-are : counts_fit (parts_for (product a b)) ≡ leb (nodes a * nodes b) node_limit && leb (length (pairs a b)) link_limit
  counts-are = λ i. leb ((nodes-are (product a b) ∙ product-nodes a b) i) node_limit && leb ((links-are (product a b) ∙ product-links a b) i) link_limit

  -- its unit is that of the first
  unit-kept : unit_in (product a b) ≡ unit_in a
  unit-kept = ap unit_of (product-form a b)

  links-pass : all_below (link_count (parts_for (product a b))) (λ l. weight_fits (unit_in a) (link_bits (parts_for (product a b)) l)) ≡ links_fit a b
  links-pass =
      let m = product a b in
      ap (λ (n : ℕ). all_below n (λ l. weight_fits (unit_in a) (link_bits (parts_for m) l))) (links-are m ∙ product-links a b)
      ∙ all_below-same (length (pairs a b)) _ _ (λ l h. ap (weight_fits (unit_in a)) (link_bits-is m l no_link (omega (arith, product-links a b)) ∙ λ i. bits_of (unit-kept i) (link m l).weight))

  final-passes : (v : ℕ) → v < nodes a * nodes b
      → eqb (mark (parts_for (product a b)) v) 0 || weight_fits (unit_in a) (final_bits (parts_for (product a b)) v) ≡ final_fits (unit_in a) (final (product a b) v)
  final-passes v h = go (final m v) refl
    where
      m : Machine
      m = product a b

      inside : v < length m.finals
      inside = omega (arith, product-nodes a b)

      go : (o : Option Tropical) → final m v ≡ o → eqb (mark (parts_for m) v) 0 || weight_fits (unit_in a) (final_bits (parts_for m) v) ≡ final_fits (unit_in a) o
      go none e = λ i. eqb (mark-none m v inside e i) 0 || weight_fits (unit_in a) (final_bits (parts_for m) v)
      go (some w) e = λ i. eqb (mark-some m v inside w e i) 0 || weight_fits (unit_in a) ((final_bits-some m v inside w e ∙ λ k. bits_of (unit-kept k) w) i)

  finals-pass : all_below (node_count (parts_for (product a b))) (λ v. eqb (mark (parts_for (product a b)) v) 0 || weight_fits (unit_in a) (final_bits (parts_for (product a b)) v)) ≡ finals_fit a b
  finals-pass =
      let m = product a b in
      ap (λ (n : ℕ). all_below n (λ v. eqb (mark (parts_for m) v) 0 || weight_fits (unit_in a) (final_bits (parts_for m) v))) (nodes-are m ∙ product-nodes a b)
      ∙ all_below-same (nodes a * nodes b) _ _ final-passes

  pub weights-are : weights_fit (parts_for (product a b)) ≡ sums_fit a b
  unfolding weights_fit
  weights-are =
      let p = parts_for (product a b) in
      let unit : unit_of p.form ≡ unit_in a = ap unit_of (form-is (product a b)) ∙ unit-kept in
      (λ i. all_below (link_count p) (λ l. weight_fits (unit i) (link_bits p l)) && all_below (node_count p) (λ v. eqb (mark p v) 0 || weight_fits (unit i) (final_bits p v)))
      ∙ λ i. links-pass i && finals-pass i

  -- ---- the number by these tests, in their order
  -- test 5 of the product
  abbrev pub limits_fit : Bool
  limits_fit = leb (nodes a * nodes b) node_limit && leb (length (pairs a b)) link_limit

  pub limits-apart : limits_fit ≡ true → (nodes a * nodes b ≤ node_limit) × (length (pairs a b) ≤ link_limit)
  limits-apart e =
      let s = both (leb (nodes a * nodes b) node_limit) (leb (length (pairs a b)) link_limit) e in
      (leb-true (nodes a * nodes b) node_limit s.0, leb-true (length (pairs a b)) link_limit s.1)

  number-is : product_number a b ≡ first-failed (labelled a && labelled b) limits_fit (sums_fit a b)
  unfolding product_number
  number-is = λ i. first-failed (labelled a && labelled b) (counts-are i) (weights-are i)

  pub number-most : product_number a b ≤ 12
  number-most = subst (λ (n : ℕ). n ≤ 12) (sym number-is) (first-most (labelled a && labelled b) limits_fit (sums_fit a b))

  pub number-told : Told (labelled a && labelled b) limits_fit (sums_fit a b) (product_number a b)
  number-told =
      let x = labelled a && labelled b in
      let z = sums_fit a b in
      subst (Told x limits_fit z) (sym number-is) (told x limits_fit z)

  pub number-labels : labelled a && labelled b ≡ false → product_number a b ≡ 10
  number-labels e = number-is ∙ simp e

  module _ (l : labelled a && labelled b ≡ true) where
    pub number-limits : limits_fit ≡ false → product_number a b ≡ 11
    number-limits e = number-is ∙ simp (l, e)

    pub number-nodes : node_limit < nodes a * nodes b → product_number a b ≡ 11
    number-nodes h = number-limits (and_left _ _ (lt-leb (nodes a * nodes b) node_limit h))

    module _ (n : nodes a * nodes b ≤ node_limit) where
      pub number-links : link_limit < length (pairs a b) → product_number a b ≡ 11
      number-links h = number-limits (and_right _ _ (lt-leb (length (pairs a b)) link_limit h))

      module _ (t : length (pairs a b) ≤ link_limit) where
        within : limits_fit ≡ true
        within = λ i. le-leb (nodes a * nodes b) node_limit n i && le-leb (length (pairs a b)) link_limit t i

        pub number-sums : sums_fit a b ≡ false → product_number a b ≡ 12
        number-sums e = number-is ∙ simp (l, within, e)

        pub number-passes : sums_fit a b ≡ true → product_number a b ≡ 0
        number-passes e = number-is ∙ simp (l, within, e)

  pub passes-apart : product_number a b ≡ 0
      → (labelled a && labelled b ≡ true) × (nodes a * nodes b ≤ node_limit) × (length (pairs a b) ≤ link_limit) × (sums_fit a b ≡ true)
  passes-apart e = let r = number-told.passes e in let s = limits-apart r.1 in (r.0, s.0, s.1, r.2)

  pub product-known : Known (product_number a b)
  unfolding product_number
  product-known =
      let p = parts_for (product a b) in
      known-cond (not (labelled a && labelled b)) 10 (cond (not (counts_fit p)) 11 (cond (not (weights_fit p)) 12 0)) (known Refusal.Labels)
      (known-cond (not (counts_fit p)) 11 (cond (not (weights_fit p)) 12 0) (known Refusal.Product) (known-cond (not (weights_fit p)) 12 0 (known Refusal.Sum) (inl refl)))
