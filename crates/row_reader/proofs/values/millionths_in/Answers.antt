use mathlib.Core.Path.{◌≡◌, sym, ◌∙◌, ap}
use Prim.Native.Nat.{◌+◌, ◌*◌, min}
use native.Mathlib.Omega.{arith}
use lib.ListN.{take}
use borrow.Author.Rules.{rules}
use Rattle.std.proofs.Common.{None, Some}
use Rattle.decimals.specs.Decimal.{digits_of}
use Rattle.decimals.proofs.Holding.{held-most}
use Rattle.row_reader.specs.Reading.{most_millionths}
use Rattle.row_reader.proofs.Weighing.{part-most, whole-none, half-none, both-parts, point_at, no-point-none, no-point_is}
use Rattle.row_reader.proofs.Runs.{rest_of}
use Rattle.row_reader.proofs.values.millionths_in.Goals as goal

pub returns-in_err-whole : goal.returns-in_err-whole
returns-in_err-whole c =
    let made : c.from_residual.result ≡ None = search rules in
    made ∙ sym (no-point-none c.args.field.now (sym c.point_in.ensures ∙ c.in_default.is) (sym c.digits_in.ensures ∙ c.in_err-whole.was))

pub returns-in_default : goal.returns-in_default
returns-in_default c =
    sym (no-point_is c.args.field.now (sym c.point_in.ensures ∙ c.in_default.is) c.in_ok-whole.whole (sym c.digits_in.ensures ∙ c.in_ok-whole.was))

pub returns-in_err-whole-2 : goal.returns-in_err-whole-2
returns-in_err-whole-2 c =
    let field = c.args.field.now in
    let point = point_at field c.in-Some.p (sym c.point_in.ensures ∙ c.in-Some.is) in
    let made : c.from_residual-in_err-whole-2.result ≡ None = search rules in
    made ∙ sym (whole-none field c.in-Some.p point.0 (sym c.digits_in-2.ensures ∙ c.in_err-whole-2.was))

pub returns-in_err-part : goal.returns-in_err-part
returns-in_err-part c =
    let field = c.args.field.now in
    let point = point_at field c.in-Some.p (sym c.point_in.ensures ∙ c.in-Some.is) in
    let made : c.from_residual-in_err-part.result ≡ None = search rules in
    made ∙ sym (half-none field c.in-Some.p point.0 point.1 (sym c.part_in.ensures ∙ c.in_err-part.was))

pub overflow_add-all : goal.overflow_add-all
overflow_add-all c =
    let field = c.args.field.now in
    let most = held-most (digits_of (take c.in-Some.p field)) c.in_ok-whole-2.whole (sym c.digits_in-2.ensures ∙ c.in_ok-whole-2.was) in
    let less = part-most (rest_of (c.in-Some.p + 1) field) c.in_ok-part.part (sym c.part_in.ensures ∙ c.in_ok-part.was) in
    omega arith

pub returns : goal.returns
returns c =
    let field = c.args.field.now in
    let point = point_at field c.in-Some.p (sym c.point_in.ensures ∙ c.in-Some.is) in
    let held : c.min.result ≡ min (c.in_ok-whole-2.whole * 1000000 + c.in_ok-part.part) most_millionths = search rules in
    ap Some held
    ∙ sym (both-parts field c.in-Some.p point.0 c.in_ok-whole-2.whole c.in_ok-part.part point.1 (sym c.digits_in-2.ensures ∙ c.in_ok-whole-2.was) (sym c.part_in.ensures ∙ c.in_ok-part.was))
