use borrow.Author.Rules.{rules}
use mathlib.Core.Path.{◌≡◌, refl, sym, ap, ◌∙◌}
use mathlib.Core.Bool.{Bool, true, false}
use Prim.Native.Nat.{◌+◌}
use lib.Ieee.{lt}
use Rattle.single_path.specs.SingleWords.{Best, best_below}
use Rattle.single_path.proofs.WayTurns.{next, best-next}
use Rattle.single_path.proofs.single.best_end.Goals as goal
use Rattle.single_path.proofs.single.best_end.Goals.{then-natural_less, else-natural_less}

pub loop-v-init : goal.loop-v-init
unfolding best_below
loop-v-init c = record { end = refl; total = c.zero-least.ensures 6 (search rules) }

pub loop-v-preserved : goal.loop-v-preserved
loop-v-preserved c =
    let turn = c.loop-v in
    let sheet = c.args.machine.now.sheet in
    let bytes = sheet.bytes.now in
    let area = c.args.work.now in
    let found = best_below bytes sheet.links area (turn.v + 1) in
    let tested : (b : Bool) → c.natural_less.result ≡ b → best_below bytes sheet.links area (turn.v + 1) ≡ next bytes sheet.links area turn.v b =
    λ b e. best-next bytes sheet.links area turn.v b ((λ i. lt (sym c.total_at-total.ensures i) (sym turn.invariant.total i)) ∙ sym c.natural_less.ensures.same ∙ e) in
    elim c.if-natural_less.branch [
      | then-natural_less w ↦ record {
        end = w.best-is ∙ sym (ap (λ (b : Best). b.end) (tested true w.if-natural_less.true));
        total = w.least-is ∙ c.total_at-total.ensures ∙ sym (ap (λ (b : Best). b.least) (tested true w.if-natural_less.true));
      }
      | else-natural_less w ↦ record {
        end = w.best-is ∙ turn.invariant.end ∙ sym (ap (λ (b : Best). b.end) (tested false w.if-natural_less.false));
        total = w.least-is ∙ turn.invariant.total ∙ sym (ap (λ (b : Best). b.least) (tested false w.if-natural_less.false));
      }
    ]
