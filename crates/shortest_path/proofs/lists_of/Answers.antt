use mathlib.Core.Path.{◌≡◌, ap, ◌∙◌, subst}
use mathlib.Core.List.{◌++◌}
use Prim.Native.Nat.{ℕ, ◌*◌, ◌/◌, ◌<◌}
use native.Mathlib.Omega.{arith}
use lib.ListN.{length, drop}
use lib.Seq.{length-take-le}
use Rattle.sheet.specs.Accepted.{trailer_in}
use Rattle.sheet.specs.Sheet.{parts_of}
use Rattle.sheet.specs.Machine.{machine_of}
use Rattle.search.specs.ListMachine.{result_for}
use Rattle.machine.specs.declared.climbing.Machine.{Machine}
use Rattle.machine.specs.Finals.{final_count}
use Rattle.list_answer.specs.ListAnswer.{slots_of, slots_for, listed_in, listed_over}
use Rattle.slots.specs.Slots.{slot_length, cleared}
use Rattle.shortest_path.specs.Outcome.{slots_needed}
use Rattle.shortest_path.proofs.Joining.{few-nodes, few-links, slots_same}
use Rattle.shortest_path.proofs.Outcomes.{outcome-7, outcome-20, outcome-made, beyond-part}
use Rattle.shortest_path.proofs.lists_of.Goals as goal

-- what the slots are in number
needed : (m : Machine) (finals n k : ℕ) → let s = m.sheet in finals ≡ final_count s.bytes.now s.links s.nodes → k ≡ slots_of s.nodes s.links finals n → k ≡ slots_needed s.bytes.now n
needed m finals n k counted e = let s = m.sheet in e ∙ slots_same s.bytes.now m.climbs (trailer_in s.links s.nodes s.start s.form) s.stated finals counted n

pub returns-then-n-gt-LIST_LIMIT : goal.returns-then-n-gt-LIST_LIMIT
returns-then-n-gt-LIST_LIMIT c =
    let args = c.args in
    let m = args.machine.now in
    let o = outcome-7 m.sheet.bytes.now args.n args.work.now args.res.now m.climbs c.if-n-gt-LIST_LIMIT.true in record {
      value = o.answer-is;
      work_new = o.work-is;
      res_after = o.result-is;
    }

pub slots_needed-needed-requires : goal.slots_needed-needed-requires
slots_needed-needed-requires c =
    let m = c.args.machine.now in
    let s = m.sheet in
    let found = c.new-counted in (
      few-nodes s.bytes.now m.climbs (trailer_in s.links s.nodes s.start s.form) s.stated found.result.finals found.ensures.finals,
      few-links s.bytes.now m.climbs (trailer_in s.links s.nodes s.start s.form) s.stated found.result.finals found.ensures.finals,
      found.ensures.few,
      c.if-n-gt-LIST_LIMIT.false,
    )

pub returns-then-work-needed : goal.returns-then-work-needed
returns-then-work-needed c =
    let args = c.args in
    let m = args.machine.now in
    let same = needed m c.new-counted.result.finals args.n c.slots_needed-needed.result c.new-counted.ensures.finals c.slots_needed-needed.ensures in
    let few : length args.work.now / slot_length < slots_needed m.sheet.bytes.now args.n = subst (λ (k : ℕ). length args.work.now / slot_length < k) same c.if-work-needed.true in
    let o = outcome-20 m.sheet.bytes.now args.n args.work.now args.res.now m.climbs c.if-n-gt-LIST_LIMIT.false few in record {
      value = o.answer-is;
      work_new = o.work-is;
      res_after = o.result-is;
    }

pub list_in-answer-requires : goal.list_in-answer-requires
list_in-answer-requires c =
    let args = c.args in
    let same = needed args.machine.now c.new-counted.result.finals args.n c.slots_needed-needed.result c.new-counted.ensures.finals c.slots_needed-needed.ensures in
    let long = length-take-le (slot_length * c.slots_needed-needed.result) args.work.now (omega (arith, c.if-work-needed.false)) in
    let whole = ap (λ (m : Machine). slots_for (machine_of (parts_of m.sheet.bytes.now)) args.n) c.new-counted.ensures.same in
    (c.if-n-gt-LIST_LIMIT.false, omega (arith, long, same, whole))

pub returns : goal.returns
returns c =
    let args = c.args in
    let m = args.machine.now in
    let k = c.slots_needed-needed.result in
    let same = needed m c.new-counted.result.finals args.n k c.new-counted.ensures.finals c.slots_needed-needed.ensures in
    let whole = c.new-counted.ensures.same in
    let part = c.list_in-answer.new.part in
    let size : length part ≡ slot_length * k = c.list_in-answer.auto.part ∙ length-take-le (slot_length * k) args.work.now (omega (arith, c.if-work-needed.false)) in
    let made = part ++ drop (slot_length * k) args.work.now in
    let o = outcome-made m.sheet.bytes.now args.n args.work.now args.res.now m.climbs c.if-n-gt-LIST_LIMIT.false (omega (arith, same, c.if-work-needed.false)) made (beyond-part part args.work.now k _ same size) in record {
      value = c.list_in-answer.ensures.value ∙ ap (λ (m : Machine). listed_in (result_for (machine_of (parts_of m.sheet.bytes.now)) args.n) (length args.res.now)) whole ∙ o.answer-is;
      work_new = c.clear.ensures ∙ ap (λ (k : ℕ). cleared k made) same ∙ o.work-is;
      res_after = c.list_in-answer.ensures.res_after ∙ ap (λ (m : Machine). listed_over (result_for (machine_of (parts_of m.sheet.bytes.now)) args.n) args.res.now) whole ∙ o.result-is;
    }
