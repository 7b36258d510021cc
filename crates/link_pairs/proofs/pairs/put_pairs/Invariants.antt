use Prim.Native.Nat.{ℕ, ◌≤◌, ◌<◌}
use lib.ListN.{length, get_or, take}
use Rattle.std.specs.Prelude.{Some}
use Rattle.product.specs.Keys.{link_key, key_label}
use Rattle.link_pairs.specs.Found.{found, Put}
use Rattle.link_pairs.proofs.pairs.put_pairs.Given as goal

abbrev pub invariant-loop-key : goal.invariant-loop-key
invariant-loop-key l =
    let firsts = l.fn.firsts.keys.now in
    let seconds = l.fn.seconds.keys.now in
    Put 0 (found l.nodes seconds (take l.key-index firsts)) l.fn.pairs l.pairs (Some l.next)
    × (l.low ≤ length seconds)
    × ((i j : ℕ) → i < l.low → l.key-index ≤ j → j < length firsts → get_or seconds i 0 < link_key (key_label (get_or firsts j 0)) 0 0)
