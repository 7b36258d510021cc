use mathlib.Core.Path.{◌≡◌, sym, ap, ◌∙◌}
use mathlib.Core.Bool.{true, false}
use Prim.Native.Nat.{◌<◌}
use lib.ListN.{length, get_or}
use borrow.Author.Rules.{rules}
use Rattle.std.proofs.Common.{None, Some, ◌≢◌}
use Rattle.std.specs.Option.{option_map}
use Rattle.text_rows.specs.Fields.{magnitude_of}
use Rattle.row_reader.specs.Reading.{decimal_read}
use Rattle.row_reader.proofs.Grids.{signed-none, signed_is}
use Rattle.row_reader.proofs.Weighing.{decimal-minus, decimal-plus}
use Rattle.row_reader.proofs.Runs.{rest_of}
use Rattle.row_reader.proofs.values.decimal_in.Goals as goal

pub returns-in_err-millionths : goal.returns-in_err-millionths
returns-in_err-millionths c =
    let field = c.args.field.now in
    let made : c.from_residual.result ≡ None = search rules in
    let some : 0 < length field = search rules in
    let minus : get_or field 0 0 ≡ 45 = search rules in
    made ∙ sym (ap (option_map decimal_read) (decimal-minus field some minus) ∙ signed-none true (magnitude_of (rest_of 1 field)) (sym c.millionths_in.ensures ∙ c.in_err-millionths.was))

pub returns-then-eq : goal.returns-then-eq
returns-then-eq c =
    let field = c.args.field.now in
    let some : 0 < length field = search rules in
    let minus : get_or field 0 0 ≡ 45 = search rules in
    ap Some c.weight_of.ensures
    ∙ sym (ap (option_map decimal_read) (decimal-minus field some minus) ∙ signed_is true (magnitude_of (rest_of 1 field)) c.in_ok-millionths.millionths (sym c.millionths_in.ensures ∙ c.in_ok-millionths.was))

pub returns-in_err-millionths-2 : goal.returns-in_err-millionths-2
returns-in_err-millionths-2 c =
    let field = c.args.field.now in
    let made : c.from_residual-in_err-millionths-2.result ≡ None = search rules in
    let plus : get_or field 0 0 ≢ 45 = search rules in
    made ∙ sym (ap (option_map decimal_read) (decimal-plus field plus) ∙ signed-none false (magnitude_of field) (sym c.millionths_in-2.ensures ∙ c.in_err-millionths-2.was))

pub returns : goal.returns
returns c =
    let field = c.args.field.now in
    let plus : get_or field 0 0 ≢ 45 = search rules in
    ap Some c.weight_of-2.ensures
    ∙ sym (ap (option_map decimal_read) (decimal-plus field plus) ∙ signed_is false (magnitude_of field) c.in_ok-millionths-2.millionths (sym c.millionths_in-2.ensures ∙ c.in_ok-millionths-2.was))
