use mathlib.Core.Path.{◌≡◌}
use mathlib.Core.List.{◌++◌, flat_map}
use Prim.Native.Nat.{◌+◌, ◌*◌, ◌≤◌}
use lib.ListN.{length, take}
use Rattle.listing.specs.Text.{label_text, labels_of}
use Rattle.listing.proofs.text.put_labels.Given as goal

abbrev pub invariant-loop-l : goal.invariant-loop-l
invariant-loop-l l = record {
  text : l.page ≡ l.fn.page ++ flat_map label_text (labels_of l.sheet (take l.l-index l.run));
  bound : length l.page ≤ length l.fn.page + 11 * l.l-index;
}
