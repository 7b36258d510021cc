use mathlib.Core.Path.{sym, ap, ◌∙◌}
use mathlib.Core.List.{List, ◌++◌, flat_map, append-nil}
use Rattle.std.proofs.lemmas.List.{append_assoc}
use Prim.Native.Nat.{ℕ, ◌*◌}
use native.Mathlib.Omega.{arith}
use lib.ListN.{take, get_or}
use Rattle.sheet.specs.Words.{word}
use Rattle.listing.specs.Text.{label_text, labels_of}
use Rattle.listing.proofs.Labels.{labels-more}
use Rattle.sheet.specs.Sheet.{link_length}
use Rattle.listing.proofs.text.put_labels.Goals as goal

pub loop-l-init : goal.loop-l-init
unfolding flat_map
loop-l-init c = record { text = sym (append-nil c.args.page.now); bound = omega arith }

pub loop-l-preserved : goal.loop-l-preserved
loop-l-preserved c =
    let sheet = c.args.sheet.now in
    let run = c.args.run.now in
    let turn = c.loop-l in
    let front = flat_map label_text (labels_of sheet (take turn.l-index run)) in record {
      text =
          c.put_label.ensures.text ∙ (λ i. turn.invariant.text i ++ label_text (c.word.ensures i)) ∙ append_assoc c.args.page.now front (label_text (word sheet (link_length * get_or run turn.l-index 0)))
          ∙ ap (λ (t : List ℕ). c.args.page.now ++ t) (labels-more sheet run turn.l-index (omega arith));
      bound = omega (arith, turn.invariant.bound, c.put_label.ensures.upper_bound);
    }
