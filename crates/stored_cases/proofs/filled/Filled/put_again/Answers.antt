use Rattle.std.proofs.Common.{◌≡◌, ◌+◌, ◌-◌, [], ◌∷◌, ◌++◌, sym, ap, ◌∙◌, arith}
use Rattle.stored_cases.specs.Parts.{again}
use Rattle.stored_cases.specs.Filled.{filled}
use Rattle.stored_cases.proofs.Filling.{again-more, again-end, count-put}
use Rattle.stored_cases.proofs.filled.Filled.put_again.Goals as goal

pub loop-turn-preserved : goal.loop-turn-preserved
loop-turn-preserved c =
    let s = c.loop-turn.self in
    let back = c.args.back in
    let turn = c.loop-turn.turn in
    let inv = c.loop-turn.invariant in
    record {
      told =
          ap (again back (c.args.more - (turn + 1))) (c.put.ensures.bytes_are ∙ ap (λ b. filled s ++ b ∷ []) c.behind-value.ensures)
          ∙ sym (again-more back c.args.more turn (filled s) c.loop-turn-test.true)
          ∙ inv.told;
      count = omega (arith, count-put s c.put.new.self _ c.put.ensures, inv.count);
      room = c.put.ensures.room ∙ inv.room;
      same = c.put.ensures.same ∙ inv.same;
    }

pub returns : goal.returns
returns c =
    let s = c.loop-turn.self in
    let inv = c.loop-turn.invariant in
    let end : c.args.more - c.loop-turn.turn ≡ 0 = omega arith in
    record {
      bytes_are = sym (again-end c.args.back (filled s)) ∙ ap (λ k. again c.args.back k (filled s)) (sym end) ∙ inv.told;
      room = inv.room;
      same = inv.same;
    }
