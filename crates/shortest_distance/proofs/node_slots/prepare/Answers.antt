use mathlib.Core.Path.{sym, ap, ◌∙◌}
use Prim.Native.Nat.{ℕ, ◌+◌, ◌*◌}
use lib.ListN.{set}
use borrow.Author.Rules.{rules}
use Rattle.std.specs.Prelude.{None}
use Rattle.sheet.specs.Records.{first_link}
use Rattle.distance.specs.Held.{with_distance}
use Rattle.shortest_distance.specs.ParentWords.{parent_stored}
use Rattle.shortest_distance.specs.NodeSlots.{prepared}
use Rattle.shortest_distance.proofs.Areas.{prepared-next}
use Rattle.shortest_distance.proofs.node_slots.prepare.Goals as goal

pub loop-source-init : goal.loop-source-init
unfolding prepared
loop-source-init c = record { same = search rules; set-up = search rules }

pub loop-source-preserved : goal.loop-source-preserved
loop-source-preserved c =
    let s = c.args.sheet.now in
    let turn = c.loop-source in
    let step = c.in-Some.ensures.steps in
    let source = c.in-Some.source in
    let sheet = step.1 ∙ turn.invariant.same in
    let first = source.begins ∙ λ i. first_link (sheet i).bytes.now (sheet i).links (step.2 i) in
    let put = c.put_distance.ensures ∙ λ i. with_distance (turn.invariant.set-up i) (8 * step.2 i) None in
    let stored = c.store_parent.ensures ∙ λ i. parent_stored (put i) (step.2 i) None in
    record {
      same = step.4 ∙ turn.invariant.same;
      set-up = (λ i. set (stored i) (8 * step.2 i + 4) (first i))
          ∙ sym (ap (λ (v : ℕ). prepared s.bytes.now s.links v c.args.work.now) step.5 ∙ prepared-next s.bytes.now s.links turn.source-iterator.node c.args.work.now);
    }
