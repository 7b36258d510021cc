use mathlib.Core.Path.{◌∙◌}
use native.Mathlib.Omega.{arith}
use lib.Seq.{sets}
use Rattle.sheet.specs.Words.{bytes_of_all}
use Rattle.sheet.specs.Accepted.{trailer_fields}
use Rattle.list_answer.proofs.NoneListed.{none-short, none-long}
use Rattle.list_answer.proofs.put_none.Goals as goal

pub returns-then-res-trailer : goal.returns-then-res-trailer
returns-then-res-trailer c =
    let told = none-short c.args.form c.args.res.now (omega (arith, c.if-res-trailer.true, c.trailer.ensures)) in
    record { value = told.0; res_after = told.1 }

pub returns : goal.returns
returns c =
    let told = none-long c.args.form c.args.res.now _ (omega (arith, c.if-res-trailer.false, c.trailer.ensures)) (c.put.ensures ∙ λ i. sets c.args.res.now 0 (bytes_of_all (trailer_fields (c.of.ensures i)))) in
    record { value = told.0; res_after = told.1 }
