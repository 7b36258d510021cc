use Rattle.std.proofs.Common.{◌≡◌, ◌<◌, ℕ, suc, List, ◌+◌, ◌-◌, refl, ap, ◌∙◌, arith}
use Rattle.std.specs.List.{after_first}
use Rattle.stored_cases.specs.Fields.{is_space, rest_of}
use Rattle.stored_cases.proofs.lines.Line.rest.Goals as goal

-- one space more
rest-more : (line : List ℕ) (spaces turn : ℕ) → turn < spaces → rest_of (after_first is_space line) (spaces - (turn + 1)) ≡ rest_of line (spaces - turn)
unfolding rest_of
rest-more line spaces turn h = let e : suc (spaces - (turn + 1)) ≡ spaces - turn = omega arith in ap (rest_of line) e

rest-end : (line : List ℕ) → line ≡ rest_of line 0
unfolding rest_of
rest-end line = refl

pub loop-preserved : goal.loop-preserved
loop-preserved c =
    let next = c.args.spaces - (c.loop.counter + 1) in
    ap (λ line. rest_of line next) c.behind_space-rest.ensures ∙ rest-more c.loop.rest.now c.args.spaces c.loop.counter c.loop-test.true ∙ c.loop.invariant

pub returns : goal.returns
returns c =
    let end : 0 ≡ c.args.spaces - c.loop.counter = omega arith in
    rest-end c.loop.rest.now ∙ ap (rest_of c.loop.rest.now) end ∙ c.loop.invariant
