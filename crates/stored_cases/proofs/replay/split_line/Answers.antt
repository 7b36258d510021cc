use Rattle.std.proofs.Common.{◌+◌, rules, sym, ap, ◌∙◌, arith, take, drop}
use Rattle.std.proofs.lemmas.List.{take_all, take_rest, drop_all}
use Rattle.std.proofs.lemmas.Iterator.{YieldsList-from_slice}
use Rattle.std.proofs.lemmas.Iterator.Search.{position_from_yields_List}
use Rattle.stored_cases.specs.Fields.{is_end}
use Rattle.stored_cases.proofs.First.{found, missed}
use borrow.Author.Tests.{tests}
use Rattle.stored_cases.proofs.replay.split_line.Goals as goal

pub returns-in-Some-clause-line : goal.returns-in-Some-clause-line
returns-in-Some-clause-line c =
    let at = position_from_yields_List is_end _ _ c.position.result c.position.ensures.ran (YieldsList-from_slice c.args.text.now c.iter.ensures.rest) (λ x b q k. search (rules, tests)) in
    ap (λ k. take k c.args.text.now) (found _ _ _ (sym at ∙ c.in-Some.is))

pub returns-in-Some-clause-rest : goal.returns-in-Some-clause-rest
returns-in-Some-clause-rest c =
    let at = position_from_yields_List is_end _ _ c.position.result c.position.ensures.ran (YieldsList-from_slice c.args.text.now c.iter.ensures.rest) (λ x b q k. search (rules, tests)) in
    take_rest c.args.text.now (c.in-Some.end + 1) ∙ ap (λ k. drop (k + 1) c.args.text.now) (found _ _ _ (sym at ∙ c.in-Some.is))

pub returns-in-None-clause-line : goal.returns-in-None-clause-line
returns-in-None-clause-line c =
    let at = position_from_yields_List is_end _ _ c.position.result c.position.ensures.ran (YieldsList-from_slice c.args.text.now c.iter.ensures.rest) (λ x b q k. search (rules, tests)) in
    sym (take_all _ c.args.text.now (missed _ _ (sym at ∙ c.in-None.is)))

pub returns-in-None-clause-rest : goal.returns-in-None-clause-rest
returns-in-None-clause-rest c =
    let at = position_from_yields_List is_end _ _ c.position.result c.position.ensures.ran (YieldsList-from_slice c.args.text.now c.iter.ensures.rest) (λ x b q k. search (rules, tests)) in
    let far = missed _ _ (sym at ∙ c.in-None.is) in
    sym (drop_all _ c.args.text.now (omega (arith, far)))
