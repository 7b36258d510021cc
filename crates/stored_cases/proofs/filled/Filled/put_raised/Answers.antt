use Rattle.std.proofs.Common.{◌≡◌, ◌-◌, ◌+◌, sym, ap, ◌∙◌, arith}
use Rattle.stored_cases.specs.Parts.{raised, raised_again}
use Rattle.stored_cases.specs.Filled.{filled}
use Rattle.stored_cases.proofs.Filling.{raised-more, raised-end, count-again, count-raised}
use Rattle.stored_cases.proofs.filled.Filled.put_raised.Goals as goal

pub raise-requires : goal.raise-requires
raise-requires c = omega (arith, count-again c.loop-turn.self c.put_again.new.self c.args.back c.args.back c.put_again.ensures)

pub loop-turn-preserved : goal.loop-turn-preserved
loop-turn-preserved c =
    let s = c.loop-turn.self in
    let p = c.put_again.new.self in
    let back = c.args.back in
    let turn = c.loop-turn.turn in
    let inv = c.loop-turn.invariant in
    record {
      told =
          ap (raised_again back (c.args.times - (turn + 1))) (c.raise.ensures.bytes_are ∙ ap raised c.put_again.ensures.bytes_are)
          ∙ sym (raised-more back c.args.times turn (filled s) c.loop-turn-test.true)
          ∙ inv.told;
      count = omega (arith, count-again s p back back c.put_again.ensures, count-raised p c.raise.new.self c.raise.ensures, inv.count);
      room = c.raise.ensures.room ∙ c.put_again.ensures.room ∙ inv.room;
      same = c.raise.ensures.same ∙ c.put_again.ensures.same ∙ inv.same;
    }

pub returns : goal.returns
returns c =
    let s = c.loop-turn.self in
    let inv = c.loop-turn.invariant in
    let end : c.args.times - c.loop-turn.turn ≡ 0 = omega arith in
    record {
      bytes_are = sym (raised-end c.args.back (filled s)) ∙ ap (λ k. raised_again c.args.back k (filled s)) (sym end) ∙ inv.told;
      room = inv.room;
      same = inv.same;
    }
