use mathlib.Core.Path.{sym, ap, ◌∙◌}
use Prim.Native.Nat.{ℕ, ◌+◌}
use native.Mathlib.Omega.{arith}
use borrow.Author.Rules.{rules}
use Rattle.std.proofs.Common.{Some}
use Rattle.row_reader.proofs.Rowing.{line-most, row_is}
use Rattle.row_reader.proofs.row.row_at.Goals as goal

pub overflow_add-result : goal.overflow_add-result
overflow_add-result c =
    let most = line-most c.args.text.now c.args.at c.requires in
    let end = c.in_ok-row.ensures.end in
    search (rules, most, end)

pub returns : goal.returns
returns c =
    let text = c.args.text.now in
    let end = c.in_ok-row.ensures.end in
    let most = line-most text c.args.at c.requires in
    ap (λ (n : ℕ). Some (record { row = c.in_ok-row.row; end = n + 1 })) end
    ∙ sym (row_is text c.args.at c.in_ok-row.row (omega (arith, end)) (sym c.row_of.ensures.row ∙ c.in_ok-row.was))
