use Rattle.std.proofs.Common.{◌+◌, ◌≤◌, length}
use Rattle.stored_cases.proofs.replay.replay_text.Given as goal

abbrev pub invariant-loop-rest : goal.invariant-loop-rest
invariant-loop-rest g l = l.told.cases + length l.rest ≤ length l.fn.text

abbrev pub decreases-loop-rest : goal.decreases-loop-rest
decreases-loop-rest g l = length l.rest
