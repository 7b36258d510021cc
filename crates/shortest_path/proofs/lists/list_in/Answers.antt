use mathlib.Core.Path.{◌≡◌, sym, ap, ◌∙◌}
use native.Mathlib.Omega.{arith}
use lib.ListN.{length}
use Rattle.sheet.specs.Accepted.{trailer_in}
use Rattle.sheet.specs.Sheet.{parts_of}
use Rattle.sheet.specs.Machine.{machine_of}
use Rattle.list_answer.specs.ListAnswer.{slots_for, listed_in, listed_over}
use Rattle.shortest_path.proofs.Joining.{none-asked, nodes-is}
use Rattle.shortest_path.proofs.lists.list_in.Goals as goal

pub returns-in-0-clause-value : goal.returns-in-0-clause-value
returns-in-0-clause-value c =
    let m = c.args.counted.now.machine in
    let s = m.sheet in
    let none = none-asked s.bytes.now m.climbs (trailer_in s.links s.nodes s.start s.form) s.stated c.args.counted.now.finals c.args.counted.now.counted c.args.n c.in-0.is in
    c.put_none.ensures.value ∙ ap (λ r. listed_in r (length c.args.res.now)) (sym none)

pub returns-in-0-clause-res_after : goal.returns-in-0-clause-res_after
returns-in-0-clause-res_after c =
    let m = c.args.counted.now.machine in
    let s = m.sheet in
    let none = none-asked s.bytes.now m.climbs (trailer_in s.links s.nodes s.start s.form) s.stated c.args.counted.now.finals c.args.counted.now.counted c.args.n c.in-0.is in
    c.put_none.ensures.res_after ∙ ap (λ r. listed_over r c.args.res.now) (sym none)

pub single_shortest_path-requires : goal.single_shortest_path-requires
single_shortest_path-requires c =
    let m = c.args.counted.now.machine in
    let s = m.sheet in
    let given = machine_of (parts_of s.bytes.now) in
    let one : slots_for given c.args.n ≡ length given.finals = ap (slots_for given) c.in-1.is in
    omega (arith, c.requires.1, one, nodes-is s.bytes.now m.climbs (trailer_in s.links s.nodes s.start s.form) s.stated c.args.counted.now.finals c.args.counted.now.counted)
