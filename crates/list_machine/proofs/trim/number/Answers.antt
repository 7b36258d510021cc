use borrow.Author.Rules.{rules}
use mathlib.Core.Path.{◌≡◌, sym, ap, ◌∙◌}
use mathlib.Core.List.{List}
use Prim.Native.Nat.{ℕ, ◌+◌, ◌-◌, ◌<◌}
use native.Mathlib.Omega.{arith}
use Rattle.list_machine.specs.TrimWords.{mark_of, mark_count, number_one, numbered}
use Rattle.list_machine.proofs.Marks.{numbered_next, count_next, mark-kept, count-le}
use Rattle.list_machine.proofs.trim.number.Goals as goal

pub loop-i-init : goal.loop-i-init
unfolding mark_count numbered
loop-i-init c = search rules

pub number_one-count-requires : goal.number_one-count-requires
number_one-count-requires c = let turn = c.loop-i in (omega arith, omega (arith, turn.invariant.counted, count-le c.args.part.now (turn.i - 1), c.requires.2))

pub loop-i-preserved : goal.loop-i-preserved
loop-i-preserved c =
    let turn = c.loop-i in
    let old = c.args.part.now in
    let call = c.number_one-count in
    let first : 0 < turn.i = omega arith in
    let back : turn.i ≡ turn.i + 1 - 1 = omega arith in record {
      counted = omega (arith, call.ensures.value, turn.invariant.counted, ap (λ (l : List ℕ). mark_of l turn.i) turn.invariant.so_far, mark-kept turn.i old first, count_next turn.i old first, ap (mark_count old) back);
      so_far = call.ensures.part_after ∙ (λ j. number_one turn.i (turn.invariant.counted j) (turn.invariant.so_far j)) ∙ sym (numbered_next turn.i old first) ∙ ap (λ (n : ℕ). numbered n old) back;
    }
