use mathlib.Core.Path.{◌≡◌}
use mathlib.Core.List.{List, ◌++◌, map}
use Prim.Native.Nat.{ℕ, ◌+◌, ◌≤◌}
use lib.ListN.{length, drop}
use lib.Seq.{sets}
use Rattle.tropical_weight.specs.Limits.{link_limit}
use Rattle.link_pairs.specs.Found.{partners, pair_of, pairs_of}
use Rattle.link_pairs.proofs.pairs.put_partners.Given as goal

abbrev pub invariant-loop-second : goal.invariant-loop-second
invariant-loop-second l =
    (l.next ≤ link_limit)
    × ((done : List ℕ) × (l.next ≡ l.at + length done) × (l.pairs ≡ sets l.fn.pairs l.at done) × (done ++ map (pair_of l.nodes l.key) (partners l.key (drop (l.low + l.second-index) l.fn.seconds.keys.now)) ≡ pairs_of l.nodes l.fn.seconds.keys.now l.key))
