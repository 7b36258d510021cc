use Rattle.std.proofs.Common.{◌≡◌, List, ℕ, length, arith, sym, ap, ◌∙◌, drop}
use Rattle.std.proofs.lemmas.List.{drop_all}
use Rattle.std.proofs.lemmas.Grind.{common_steps}
use Rattle.stored_cases.specs.Parts.{size_of, with_part, with_parts, parts_from}
use Rattle.stored_cases.specs.Filled.{filled}
use Rattle.stored_cases.proofs.Told.{with-next, with-none}
use Rattle.stored_cases.proofs.filled.Filled.put_text.Goals as goal

pub loop-part-preserved : goal.loop-part-preserved
loop-part-preserved c =
    let s = c.loop-part.self in
    let rest = c.loop-part.rest.now in
    let part = c.in-Some.part in
    let room = length c.args.self.now.area.now in
    let inv = c.loop-part.invariant in
    let left : c.unwrap_or-rest.result.now ≡ drop c.size.result rest = grind (arith, common_steps, drop_all) in
    record {
      told =
          ap (λ (xs : List ℕ). with_parts room (filled c.put_part.new.self) (parts_from 0 xs)) (left ∙ ap (λ n. drop n rest) c.size.ensures.value)
          ∙ ap (λ b. with_parts room b (parts_from 0 (drop (size_of part) rest))) (c.put_part.ensures.bytes_are ∙ ap (λ n. with_part n (filled s) part) inv.room)
          ∙ sym (with-next room (filled s) rest part (sym c.of.ensures.value ∙ c.in-Some.is))
          ∙ inv.told;
      room = c.put_part.ensures.room ∙ inv.room;
      same = c.put_part.ensures.same ∙ inv.same;
    }

pub returns : goal.returns
returns c =
    let s = c.loop-part.self in
    let inv = c.loop-part.invariant in
    record {
      bytes_are = sym (with-none (length c.args.self.now.area.now) (filled s) c.loop-part.rest.now (sym c.of.ensures.value ∙ c.in_default.is)) ∙ inv.told;
      room = inv.room;
      same = inv.same;
    }
