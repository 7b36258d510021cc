use mathlib.Core.Path.{◌≡◌, sym, ap, ◌∙◌}
use mathlib.Core.List.{List}
use Prim.Native.Nat.{ℕ, suc, ◌+◌}
use native.Mathlib.Omega.{arith}
use Rattle.row_reader.specs.FinalRows.{on, falling}
use Rattle.row_reader.proofs.Kept.{put-falls}
use Rattle.row_reader.proofs.FinalRows.{new-on}
use Rattle.row_reader.proofs.finals.Pass.keep.Goals as goal

pub returns-clause-after : goal.returns-clause-after
returns-clause-after c =
    let a = c.args.self.now in
    let put = c.put.ensures in
    let more : a.count + 1 ≡ suc a.count = omega arith in
    let is = (λ j. falling (put.kept_after j) (more j)) ∙ put-falls c.args.node a.kept a.count (omega arith) in
    ap (λ (xs : List ℕ). on xs a.limit) is ∙ sym (new-on c.args.node (falling a.kept a.count) a.limit (sym put.value ∙ c.if-put.false))
