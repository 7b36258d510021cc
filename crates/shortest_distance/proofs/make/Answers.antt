use mathlib.Core.Path.{sym, ◌∙◌, subst}
use Prim.Native.Nat.{◌*◌}
use native.Mathlib.Omega.{arith}
use Rattle.std.specs.Prelude.{Some}
use Rattle.sheet.specs.Accepted.{trailer_in}
use Rattle.sheet.specs.Machine.{unit_in, machine}
use Rattle.sheet.proofs.Forms.{covered}
use Rattle.state_order_queue.specs.Queues.{enqueued}
use Rattle.distance.specs.Held.{with_distance}
use Rattle.shortest_distance.specs.Sound.{Made}
use Rattle.shortest_distance.proofs.Making.{start-low, sound-start, made-from, made-without, start-absent}
use Rattle.shortest_distance.proofs.make.Goals as goal

pub enqueue_untested-q-requires : goal.enqueue_untested-q-requires
enqueue_untested-q-requires c =
    let m = c.args.m.now in
    let s = m.sheet in
    let given = c.in-Some.ensures.below in
    omega (arith, given, start-low s.bytes.now c.args.work.now m.climbs (trailer_in s.links s.nodes s.start s.form) s.stated c.requires _ c.prepare.ensures (omega (arith, given)))

pub relax_heads-requires : goal.relax_heads-requires
relax_heads-requires c =
    let m = c.args.m.now in
    let s = m.sheet in
    let given = c.in-Some.ensures.below in
    let named = c.put_distance.ensures ∙ λ i. with_distance c.prepare.new.work (8 * given.0 i) (Some (c.one.ensures (unit_in (machine s.bytes.now)) (covered (machine s.bytes.now).form) i)) in
    sound-start s.bytes.now c.args.work.now m.climbs (trailer_in s.links s.nodes s.start s.form) s.stated c.requires _ c.prepare.ensures (omega (arith, given))
    _ named c.enqueue_untested-q.result (c.enqueue_untested-q.ensures ∙ λ i. enqueued (c.new.ensures i) (given.0 i))

pub returns-in-Some : goal.returns-in-Some
returns-in-Some c =
    let m = c.args.m.now in
    let s = m.sheet in
    let given = c.in-Some.ensures.below in
    let named = c.put_distance.ensures ∙ λ i. with_distance c.prepare.new.work (8 * given.0 i) (Some (c.one.ensures (unit_in (machine s.bytes.now)) (covered (machine s.bytes.now).form) i)) in
    subst (λ x. Made s.bytes.now c.args.work.now x) (sym c.relax_heads.ensures)
    (made-from s.bytes.now c.args.work.now m.climbs (trailer_in s.links s.nodes s.start s.form) s.stated c.requires _ c.prepare.ensures (omega (arith, given))
    _ named c.enqueue_untested-q.result (c.enqueue_untested-q.ensures ∙ λ i. enqueued (c.new.ensures i) (given.0 i)))

pub returns-in_default : goal.returns-in_default
returns-in_default c =
    let m = c.args.m.now in
    let s = m.sheet in
    made-without s.bytes.now c.args.work.now m.climbs (trailer_in s.links s.nodes s.start s.form) s.stated c.requires _ c.prepare.ensures (start-absent s.nodes s.start (sym c.start.ensures.value ∙ c.in_default.is))
