use mathlib.Core.Path.{◌≡◌, sym, ap, ◌∙◌}
use mathlib.Core.Bool.{true}
use Prim.Native.Nat.{ℕ, ◌+◌, ◌≤◌}
use native.Mathlib.Omega.{arith}
use lib.Ieee.{Float, binary32, of_bits, to_bits, add, eq}
use Rattle.tropical_weight.specs.Limits.{finest, weight_limit, sum_limit}
use Rattle.tropical_weight.specs.Tropical.{Tropical, one, ◌⊗◌, Within}
use Rattle.tropical_weight.specs.Grid.{of_t}
use Rattle.tropical_weight.specs.Single.{Computes}
use Rattle.tropical_weight.proofs.Exact.{eq-of_t, bits_back}
use Rattle.tropical_weight.proofs.Semiring.{eq_t-eq}
use Rattle.tropical_weight.proofs.Sums.{within-mono, within-⊗}
use Rattle.sheet.specs.Sheet.{weight_fits}
use Rattle.sheet.specs.Machine.{weight_of, bits_of}
use Rattle.sheet.proofs.Encoding.{bits-one}
use Rattle.machine.proofs.Accepted.{weight-within, weight-value}
use Rattle.two_probes.proofs.both.sum_of.Goals as goal

abbrev total : ℕ → ℕ → ℕ → Tropical
total j a b = weight_of j a ⊗ weight_of j b

-- a weight in units of 1 / 2 ^ j is small enough for a sum
module _ (j : ℕ) (c : j ≤ finest) where
  small : (bits : ℕ) → weight_fits j bits ≡ true → Within sum_limit (weight_of j bits)
  small bits e = within-mono weight_limit sum_limit (weight_of j bits) (omega arith) (weight-within j c bits e)

  -- so is the sum
  held : (a b : ℕ) → weight_fits j a ≡ true → weight_fits j b ≡ true → Within sum_limit (total j a b)
  held a b p q = within-mono (weight_limit + weight_limit) sum_limit (total j a b) (omega arith) (within-⊗ weight_limit weight_limit (weight_of j a) (weight_of j b) (weight-within j c a p) (weight-within j c b q))

  -- the sum of two values that are those of the fields
  summed : (a b : ℕ) → weight_fits j a ≡ true → weight_fits j b ≡ true → (v w x : Float) → v ≡ of_bits binary32 a → w ≡ of_bits binary32 b → Computes (add binary32) ◌⊗◌ v w x → x ≡ of_t j (total j a b)
  summed a b p q v w x e f t = t.exact j c (weight_of j a) (weight_of j b) (small a p) (small b q) (e ∙ weight-value j c a p) (f ∙ weight-value j c b q)

  -- a sum that equals 0 has the field 0
  cancelled : (w : Tropical) → Within sum_limit w → eq (of_t j w) (of_t j one) ≡ true → 0 ≡ bits_of j w
  cancelled w h e =
      let same : w ≡ one = eq_t-eq w one (sym (eq-of_t j c w one h (omega arith)) ∙ e) in
      sym (ap (bits_of j) same ∙ bits-one j c)

pub returns-then-sum : goal.returns-then-sum
returns-then-sum c j covered p q =
    let a = c.args.a in
    let b = c.args.b in
    let sum = summed j covered a b p q c.from_bits.result c.from_bits-2.result c.times-sum.result c.from_bits.ensures c.from_bits-2.ensures c.times-sum.ensures in
    let zero : of_bits binary32 0 ≡ of_t j one = ap (of_bits binary32) (sym (bits-one j covered)) ∙ bits_back j covered one in
    cancelled j covered (total j a b) (held j covered a b p q) ((λ i. eq (sym sum i) (sym zero i)) ∙ c.if-sum.true)

pub returns : goal.returns
returns c j covered p q =
    c.to_bits.ensures ∙ ap (to_bits binary32) (summed j covered c.args.a c.args.b p q c.from_bits.result c.from_bits-2.result c.times-sum.result c.from_bits.ensures c.from_bits-2.ensures c.times-sum.ensures)
