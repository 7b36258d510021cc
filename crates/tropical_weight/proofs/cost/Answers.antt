use Rattle.std.proofs.Common.{◌≡◌, ℕ, ◌^◌, ◌<◌, ℤ, pos, ap, ◌∙◌, subst, sym, w32, SFits}
use lib.Ieee.{binary32, mul, of_int, to_signed}
use lib.Ieee.Casts.{to_signed_in}
use lib.Signed.{mag}
use mir.ValLaws.{to_z-of_z}
use Rattle.tropical_weight.specs.Units.{places}
use Rattle.tropical_weight.specs.Single.{cost_of}
use Rattle.tropical_weight.proofs.Finer.{covered}
use Rattle.tropical_weight.proofs.Units.{costs}
use Rattle.tropical_weight.proofs.cost.Goals as goal

pub returns : goal.returns
unfolding cost_of
returns c =
    let z = c.saturating_f32_to_i32.result in
    let u = c.args.unit in
    let is : z ≡ to_signed 31 (mul binary32 c.args.weight (of_int binary32 (pos (2 ^ places u)))) =
    c.saturating_f32_to_i32.ensures ∙ ap (λ (n : ℕ). to_signed 31 (mul binary32 c.args.weight (of_int binary32 (pos n)))) c.count.ensures in
    let fits : SFits w32 z = record { sfits = subst (λ (y : ℤ). mag y < 2 ^ 31) (sym is) (to_signed_in 31 _) } in
    costs (places u) (covered u) c.args.weight _ (to_z-of_z w32 z fits ∙ is)
