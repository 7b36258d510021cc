use mathlib.Core.Path.{◌∙◌}
use native.Mathlib.Omega.{arith}
use Rattle.sheet.specs.Accepted.{trailer_in}
use Rattle.shortest_distance.proofs.Outcomes.{height-low, few-slots, handed-over}
use Rattle.shortest_distance.proofs.distances_of.Goals as goal

pub returns-then-work-nodes : goal.returns-then-work-nodes
returns-then-work-nodes c =
    let m = c.args.m.now in
    let s = m.sheet in
    let o = few-slots s.bytes.now c.args.work.now c.args.res.now m.climbs (trailer_in s.links s.nodes s.start s.form) s.stated c.if-work-nodes.true in record {
      value = o.answer-is;
      work_new = o.work-is;
      res_after = o.result-is;
    }

pub hand_over-answer-requires : goal.hand_over-answer-requires
hand_over-answer-requires c =
    let m = c.args.m.now in
    let s = m.sheet in
    let made = c.make in
    omega (arith, height-low s.bytes.now c.args.work.now c.args.res.now m.climbs (trailer_in s.links s.nodes s.start s.form) s.stated made.new.work made.ensures _ c.height.ensures, made.ensures.size, c.if-work-nodes.false)

pub returns : goal.returns
returns c =
    let m = c.args.m.now in
    let s = m.sheet in
    let made = c.make in
    let o = handed-over s.bytes.now c.args.work.now c.args.res.now m.climbs (trailer_in s.links s.nodes s.start s.form) s.stated made.new.work made.ensures _ c.height.ensures c.if-work-nodes.false in record {
      value = c.hand_over-answer.ensures.value ∙ o.answer-is;
      work_new = c.clear.ensures ∙ o.work-is;
      res_after = c.hand_over-answer.ensures.res_after ∙ o.result-is;
    }
