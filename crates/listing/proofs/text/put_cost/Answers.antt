use mathlib.Core.Path.{◌≡◌, ap, ◌∙◌}
use mathlib.Core.List.{List, ◌++◌}
use Rattle.std.proofs.lemmas.List.{append_assoc}
use Prim.Native.Nat.{ℕ}
use lib.IntN.{nat_abs}
use mir.Syntax.{w32}
use mir.ValLaws.{to_z-of_z}
use Rattle.decimals.specs.Decimal.{decimal, sign_text}
use Rattle.listing.proofs.Signs.{signed-is}
use Rattle.listing.proofs.text.put_cost.Goals as goal

pub returns-clause-text : goal.returns-clause-text
returns-clause-text c =
    let cost = c.args.cost in
    let old = c.args.page.now in
    let read = to_z-of_z w32 cost c.ranges.cost in
    let size : c.magnitude.result ≡ nat_abs cost = c.magnitude.ensures ∙ ap nat_abs read in
    c.put_decimal.ensures.value ∙ (λ i. (c.put_sign.ensures.value ∙ ap (λ z. old ++ sign_text z) read) i ++ decimal (size i)) ∙ append_assoc old (sign_text cost) (decimal (nat_abs cost))
    ∙ ap (λ (t : List ℕ). old ++ t) (signed-is cost)
