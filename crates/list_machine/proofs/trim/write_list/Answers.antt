use mathlib.Core.Path.{◌≡◌, sym, ap, subst, ◌∙◌}
use mathlib.Core.List.{List}
use Prim.Native.Nat.{ℕ, ◌-◌}
use native.Mathlib.Omega.{arith}
use Rattle.list_machine.specs.TrimWords.{mark_count, states, stated, kept_count, Listable}
use Rattle.list_machine.proofs.Marks.{kept-few, new-kept, new-listable}
use Rattle.list_machine.proofs.AnswerByRoom.{made-area}
use Rattle.list_machine.proofs.trim.write_list.Goals as goal

pub invariant_of-numbered : goal.invariant_of-numbered
invariant_of-numbered c =
    let args = c.args in
    let left : c.number-kept.new.part ≡ stated args.entries args.listed args.part.now = c.number-kept.ensures.part_after ∙ ap (states args.entries) c.mark.ensures in
    record { listable = subst (λ (p : List ℕ). Listable args.sheet.now.bytes.now args.sheet.now.links p args.entries args.listed) (sym left) (new-listable args.sheet.now.bytes.now args.sheet.now.links args.part.now args.entries args.listed c.requires) }

pub put_list-requires-clause-kept : goal.put_list-requires-clause-kept
put_list-requires-clause-kept c =
    let args = c.args in
    let kept : c.number-kept.result ≡ kept_count args.entries args.listed args.part.now = c.number-kept.ensures.value ∙ ap (λ (l : List ℕ). mark_count l (args.entries - 1)) c.mark.ensures in
    let left : c.number-kept.new.part ≡ stated args.entries args.listed args.part.now = c.number-kept.ensures.part_after ∙ ap (states args.entries) c.mark.ensures in
    kept ∙ sym (new-kept args.sheet.now.bytes.now args.sheet.now.links args.part.now args.entries args.listed c.requires) ∙ ap (λ (l : List ℕ). mark_count l (args.entries - 1)) (sym left)

pub overflow_cast-result : goal.overflow_cast-result
overflow_cast-result c =
    let args = c.args in
    omega (arith, c.number-kept.ensures.value, ap (λ (l : List ℕ). mark_count l (args.entries - 1)) c.mark.ensures, kept-few args.sheet.now.bytes.now args.sheet.now.links args.part.now args.entries args.listed c.requires)

pub overflow_cast-result-2 : goal.overflow_cast-result-2
overflow_cast-result-2 c =
    let args = c.args in
    omega (arith, c.number-kept.ensures.value, ap (λ (l : List ℕ). mark_count l (args.entries - 1)) c.mark.ensures, kept-few args.sheet.now.bytes.now args.sheet.now.links args.part.now args.entries args.listed c.requires)

pub returns-clause-res_after : goal.returns-clause-res_after
returns-clause-res_after c =
    let args = c.args in
    let kept : c.number-kept.result ≡ kept_count args.entries args.listed args.part.now = c.number-kept.ensures.value ∙ ap (λ (l : List ℕ). mark_count l (args.entries - 1)) c.mark.ensures in
    let left : c.number-kept.new.part ≡ stated args.entries args.listed args.part.now = c.number-kept.ensures.part_after ∙ ap (states args.entries) c.mark.ensures in
    made-area args.sheet.now.bytes.now args.sheet.now.links args.sheet.now.form args.part.now args.entries args.listed c.requires args.res.now c.number-kept.result c.trailer.result c.number-kept.new.part kept c.trailer.ensures left (omega arith) c.put_list.new.res c.put_list.ensures
