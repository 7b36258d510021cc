use Rattle.list_machine.proofs.Marks.{count_next}
use borrow.Author.Rules.{rules}
use mathlib.Core.Path.{◌≡◌, sym, ap, ◌∙◌}
use mathlib.Core.List.{List}
use Prim.Native.Nat.{ℕ, ◌+◌, ◌-◌, ◌<◌}
use native.Mathlib.Omega.{arith}
use lib.Seq.{sets}
use Rattle.sheet.specs.Words.{bytes_of_all}
use Rattle.list_machine.specs.TrimWords.{mark_count, stated_words, link_words}
use Rattle.sheet.proofs.Bytes.{stored_next}
use Rattle.list_machine.proofs.Placing.{links-next, length-links, count-mono}
use Rattle.list_machine.proofs.trim.Numbered.put_entry_links.Goals as goal

pub loop-i-init : goal.loop-i-init
unfolding mark_count link_words bytes_of_all
loop-i-init c = search rules

pub put_stated-next-requires : goal.put_stated-next-requires
put_stated-next-requires c =
    let turn = c.loop-i in
    let self = c.args.self.now in
    let part = self.part.now in
    (omega arith, omega arith, omega (arith, c.requires, turn.invariant.place, count_next turn.i part (omega arith), count-mono part (self.entries - 1) turn.i (omega arith)))

pub loop-i-preserved : goal.loop-i-preserved
loop-i-preserved c =
    let turn = c.loop-i in
    let args = c.args in
    let self = args.self.now in
    let part = self.part.now in
    let words = link_words self.sheet.bytes.now self.sheet.links part in
    let call = c.put_stated-next in
    let first : 0 < turn.i = omega arith in
    let back : turn.i ≡ turn.i + 1 - 1 = omega arith in record {
      place = omega (arith, call.ensures.value, turn.invariant.place, count_next turn.i part first, ap (mark_count part) back);
      so_far =
          stored_next args.res.now turn.res call.new.res args.at (words (turn.i - 1)) (stated_words self.sheet.bytes.now self.sheet.links part turn.i) turn.next turn.invariant.so_far call.ensures.res_after (omega (arith, turn.invariant.place, length-links self.sheet.bytes.now self.sheet.links part (turn.i - 1)))
          ∙ ap (λ (l : List ℕ). sets args.res.now args.at (bytes_of_all l)) (sym (links-next self.sheet.bytes.now self.sheet.links part turn.i first) ∙ ap words back);
    }
