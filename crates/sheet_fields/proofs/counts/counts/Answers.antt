use mathlib.Core.Path.{◌≡◌, ap, ◌∙◌}
use borrow.Author.Rules.{rules}
use Rattle.std.specs.Prelude.{Err}
use Rattle.sheet.specs.Accepted.{trailer_in}
use Rattle.sheet_fields.specs.Counts.{counts_of}
use Rattle.sheet_fields.proofs.Counting.{counts-refused, counts-of-trailer}
use Rattle.sheet_fields.proofs.counts.counts.Goals as goal

pub returns-in_err-read : goal.returns-in_err-read
returns-in_err-read c =
    let r = c.in_err-read.field-0.0 in
    let bytes = c.args.sheet.now in
    let made : c.from_residual.result ≡ Err r = search rules in
    made ∙ counts-refused bytes r c.in_err-read.ensures.number

pub returns : goal.returns
returns c =
    let same : c.in_ok-read.read.bytes.now ≡ c.args.sheet.now = search rules in
    let s = c.in_ok-read.read in
    counts-of-trailer s.bytes.now (trailer_in s.links s.nodes s.start s.form) s.accepted s.stated c.count_finals-finals.result c.count_finals-finals.ensures.0 ∙ ap counts_of same
