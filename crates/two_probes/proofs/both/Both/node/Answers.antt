use mathlib.Core.Path.{sym, ◌∙◌}
use mathlib.Core.List.{◌∷◌}
use Rattle.machine.specs.Readings.{final}
use Rattle.two_probes.specs.Held.{allowed_by, unit_by}
use Rattle.two_probes.proofs.Kept.{leaving-is}
use Rattle.two_probes.proofs.Records.{field-none, field-some}
use Rattle.two_probes.proofs.both.Both.node.Goals as goal

pub returns-in-Some : goal.returns-in-Some
returns-in-Some c =
    let x = c.args.self.now in
    let links = leaving-is x c.args.v c.first_link-2.result c.first_link.result c.first_link-2.ensures c.first_link.ensures in
    let fields = field-some (unit_by x) (final (allowed_by x) c.args.v) c.in-Some.bits (sym c.final_bits.ensures ∙ c.in-Some.is) in
    λ i. links i ∷ fields i

pub returns-in-None : goal.returns-in-None
returns-in-None c =
    let x = c.args.self.now in
    let links = leaving-is x c.args.v c.first_link-2.result c.first_link.result c.first_link-2.ensures c.first_link.ensures in
    let fields = field-none (unit_by x) (final (allowed_by x) c.args.v) (sym c.final_bits.ensures ∙ c.in-None.is) in
    λ i. links i ∷ fields i
