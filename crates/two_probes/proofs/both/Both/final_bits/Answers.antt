use mathlib.Core.Path.{◌≡◌, sym, ap, ◌∙◌, subst}
use mathlib.Core.Bool.{true}
use mathlib.Core.Option.{Option as Maybe, some}
use Prim.Native.Nat.{ℕ, ◌/◌, ◌%◌}
use Rattle.std.specs.Prelude.{Some}
use Rattle.tropical_weight.specs.Tropical.{Tropical}
use Rattle.sheet.specs.Sheet.{weight_fits}
use Rattle.sheet.specs.Machine.{weight_of}
use Rattle.machine.specs.Readings.{final}
use Rattle.product.specs.Product.{final_for}
use Rattle.two_probes.specs.Held.{unit_by, field_of}
use Rattle.machine.proofs.Values.{ending-none, ending-some}
use Rattle.two_probes.proofs.Kept.{b, second-unit, unit-covered, first-half, second-half, final-is}
use Rattle.two_probes.proofs.both.Both.final_bits.Goals as goal

pub returns-in_err-a : goal.returns-in_err-a
returns-in_err-a c =
    let x = c.args.self.now in
    let n = x.second.sheet.nodes in
    let v = c.args.v in
    let first = ending-none x.first (v / n) (first-half x.first.sheet.nodes n v c.requires) (sym c.final_bits.ensures.part ∙ c.in_err-a.was) in
    c.from_residual.ensures ∙ sym (ap (field_of (unit_by x)) (final-is x v c.requires ∙ ap (λ (f : Maybe Tropical). final_for f (final (b x) (v % n))) first))

pub returns-in_err-b : goal.returns-in_err-b
returns-in_err-b c =
    let x = c.args.self.now in
    let n = x.second.sheet.nodes in
    let v = c.args.v in
    let first = (ending-some x.first (v / n) c.in_ok-a.a (first-half x.first.sheet.nodes n v c.requires) (sym c.final_bits.ensures.part ∙ c.in_ok-a.was)).1 in
    let second = ending-none x.second (v % n) (second-half x.first.sheet.nodes n v c.requires) (sym c.final_bits-2.ensures.part ∙ c.in_err-b.was) in
    c.from_residual-in_err-b.ensures ∙ sym (ap (field_of (unit_by x)) (final-is x v c.requires ∙ λ i. final_for (first i) (second i)))

pub returns : goal.returns
returns c =
    let x = c.args.self.now in
    let n = x.second.sheet.nodes in
    let v = c.args.v in
    let first = ending-some x.first (v / n) c.in_ok-a.a (first-half x.first.sheet.nodes n v c.requires) (sym c.final_bits.ensures.part ∙ c.in_ok-a.was) in
    let second =
    subst (λ (j : ℕ). (weight_fits j c.in_ok-b.b ≡ true) × (final (b x) (v % n) ≡ some (weight_of j c.in_ok-b.b))) (second-unit x)
    (ending-some x.second (v % n) c.in_ok-b.b (second-half x.first.sheet.nodes n v c.requires) (sym c.final_bits-2.ensures.part ∙ c.in_ok-b.was)) in
    ap Some (c.sum_of.ensures (unit_by x) (unit-covered x) first.0 second.0) ∙ sym (ap (field_of (unit_by x)) (final-is x v c.requires ∙ λ i. final_for (first.1 i) (second.1 i)))
