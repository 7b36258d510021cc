use Rattle.std.proofs.Common.{◌≡◌, ℕ, List, [], rules, refl, ap, ◌∙◌}
use Rattle.std.specs.Prelude.{Option, Some, None, unwrap_or}
use Rattle.std.specs.Option.{option_map}
use Rattle.std.proofs.lemmas.Iterator.Consumers.{nth_from_yields_List}
use Rattle.std.proofs.lemmas.Iterator.Splits.{YieldsList-from_slice_split}
use Rattle.stored_cases.specs.Fields.{is_space, field_of}
use borrow.Author.Tests.{tests}
use denote.Ref.{Bor}
use Rattle.stored_cases.proofs.lines.Line.field.Goals as goal

read : (r : Option (Bor (List ℕ))) (d : Bor (List ℕ)) → (unwrap_or r d).now ≡ unwrap_or (option_map (λ (b : Bor (List ℕ)). b.now) r) d.now
read None d = refl
read (Some x) d = refl

pub returns : goal.returns
unfolding field_of
returns c =
    let text = c.args.self.now.text.now in
    let got = nth_from_yields_List c.nth.result c.nth.new.self c.args.spaces c.nth.ensures.ran (YieldsList-from_slice_split _ is_space text c.split.ensures.rest c.split.ensures.done c.split.ensures.closure (λ x b q k. search (rules, tests))) in
    ap (λ (b : Bor (List ℕ)). b.now) c.unwrap_or.ensures ∙ read c.nth.result _ ∙ ap (λ r. unwrap_or r []) got
