use Rattle.std.proofs.Common.{◌+◌, rules, sym, ap, ◌∙◌, arith, drop}
use Rattle.std.proofs.lemmas.List.{take_rest, drop_all}
use Rattle.std.proofs.lemmas.Iterator.{YieldsList-from_slice}
use Rattle.std.proofs.lemmas.Iterator.Search.{position_from_yields_List}
use Rattle.stored_cases.specs.Fields.{is_space}
use Rattle.stored_cases.proofs.First.{found, missed}
use borrow.Author.Tests.{tests}
use Rattle.stored_cases.proofs.lines.behind_space.Goals as goal

pub returns-in-Some : goal.returns-in-Some
returns-in-Some c =
    let at = position_from_yields_List is_space _ _ c.position.result c.position.ensures.ran (YieldsList-from_slice c.args.text.now c.iter.ensures.rest) (λ x b q k. search (rules, tests)) in
    take_rest c.args.text.now (c.in-Some.at + 1) ∙ ap (λ k. drop (k + 1) c.args.text.now) (found _ _ _ (sym at ∙ c.in-Some.is))

pub returns-in-None : goal.returns-in-None
returns-in-None c =
    let at = position_from_yields_List is_space _ _ c.position.result c.position.ensures.ran (YieldsList-from_slice c.args.text.now c.iter.ensures.rest) (λ x b q k. search (rules, tests)) in
    let far = missed _ _ (sym at ∙ c.in-None.is) in
    sym (drop_all _ c.args.text.now (omega (arith, far)))
