use mathlib.Core.Path.{◌≡◌, sym, ap, ◌∙◌, subst}
use mathlib.Core.Bool.{Bool, true, false, not}
use mathlib.Core.List.{List}
use Prim.Native.Nat.{ℕ, ◌+◌, ◌*◌, ◌≤◌}
use native.Mathlib.Omega.{arith}
use lib.ListN.{length}
use Rattle.tropical_weight.specs.Limits.{list_limit}
use Rattle.sheet.specs.Accepted.{trailer_in}
use Rattle.sheet.specs.declared.tr.Trailer.{Trailer}
use Rattle.sheet.specs.Sheet.{parts_of}
use Rattle.sheet.specs.Machine.{machine_of}
use Rattle.machine.proofs.Accepted.{passes, start-inside}
use Rattle.machine.proofs.SheetFields.{fields-own}
use Rattle.machine.specs.declared.climbing.Machine.{Machine}
use Rattle.machine.specs.Finals.{final_count}
use Rattle.reversed_machine.specs.Laid.{MeasuredIn, Reversal}
use Rattle.reversed_machine.specs.ReverseWords.{reversed_words}
use Rattle.reversed_machine.proofs.Reversals.{reversal}
use Rattle.list_answer.specs.ListAnswer.{slots_for, listed_in, listed_over}
use Rattle.n_shortest.specs.declared.n_best.Places.{Places}
use Rattle.n_shortest.specs.SearchWords.{Words, after_w, begun_w}
use Rattle.list_machine.specs.TrimWords.{kept_count, list_answer, list_after, Listable}
use Rattle.slots.specs.Slots.{slot_length}
use Rattle.distance.specs.Held.{Distance, reached_in}
use Rattle.shortest_path.proofs.Joining.{Sizes, sizes, start_is, begins, going, none-there, listed-done, answers, leaves}
use Rattle.shortest_path.proofs.lists.list_many.Goals as goal

-- the trailer of a machine's sheet
abbrev stated : Machine → Trailer
stated m = let s = m.sheet in trailer_in s.links s.nodes s.start s.form

-- what is asked of n and of the part
abbrev Enough : Machine → ℕ → ℕ → Type 0
Enough m n room = (2 ≤ n) × (n ≤ list_limit) × (slot_length * slots_for (machine_of (parts_of m.sheet.bytes.now)) n ≤ room)

abbrev Counted : Machine → ℕ → Type 0
Counted m finals = let s = m.sheet in finals ≡ final_count s.bytes.now s.links s.nodes

-- where the slots of nodes and links begin
abbrev heads : Machine → ℕ → ℕ → ℕ
heads m finals n = slot_length * (1 + finals + n * (m.sheet.links + 1))

abbrev chains : Machine → ℕ → ℕ → ℕ
chains m finals n = heads m finals n + slot_length * (m.sheet.nodes + 1)

few : (m : Machine) (finals n room : ℕ) → Counted m finals → Enough m n room → let s = m.sheet in Sizes s.nodes s.links finals n room
few m finals n room counted h = sizes m.sheet.bytes.now m.climbs (stated m) m.sheet.stated finals counted n h.0 h.1 room h.2

-- the machine reversed: the part after measuring, and after that
turned : (m : Machine) (finals n : ℕ) (first old part : List ℕ) → Counted m finals → Enough m n (length first) → MeasuredIn m.sheet.bytes.now (heads m finals n) first old
    → part ≡ reversed_words m.sheet.bytes.now (heads m finals n) (chains m finals n) m.sheet.nodes m.sheet.links old → Reversal (machine_of (parts_of m.sheet.bytes.now)) (heads m finals n) (chains m finals n) old part
turned m finals n first old part counted h made e =
    let f = few m finals n (length first) counted h in
    subst (Reversal (machine_of (parts_of m.sheet.bytes.now)) (heads m finals n) (chains m finals n) old) (sym e)
    (reversal m.sheet.bytes.now m.climbs (stated m) m.sheet.stated finals (heads m finals n) (chains m finals n) old counted (omega arith) (omega (arith, f.few-finals, f.few-links, f.few-nodes, f.products, f.fits, made.size)) made.measured)

-- whether the least total is reached, by the test
reached-by : (d : Distance) (b r : Bool) → reached_in d ≡ not b → b ≡ r → reached_in d ≡ not r
reached-by d b r e h = e ∙ ap not h

pub overflow_add-allowed : goal.overflow_add-allowed
overflow_add-allowed c = let f = few c.args.counted.now.machine c.args.counted.now.finals c.args.n (length c.args.part.now) c.args.counted.now.counted c.requires in omega (arith, f.few-finals, f.few-links, f.few-nodes, f.products, f.fits)

pub overflow_mul-allowed : goal.overflow_mul-allowed
overflow_mul-allowed c = let f = few c.args.counted.now.machine c.args.counted.now.finals c.args.n (length c.args.part.now) c.args.counted.now.counted c.requires in omega (arith, f.few-finals, f.few-links, f.few-nodes, f.products, f.fits)

pub overflow_add-allowed-3 : goal.overflow_add-allowed-3
overflow_add-allowed-3 c = let f = few c.args.counted.now.machine c.args.counted.now.finals c.args.n (length c.args.part.now) c.args.counted.now.counted c.requires in omega (arith, f.few-finals, f.few-links, f.few-nodes, f.products, f.fits)

pub measure-requires : goal.measure-requires
measure-requires c = let f = few c.args.counted.now.machine c.args.counted.now.finals c.args.n (length c.args.part.now) c.args.counted.now.counted c.requires in omega (arith, f.few-finals, f.few-links, f.few-nodes, f.products, f.fits)

pub reverse-requires : goal.reverse-requires
reverse-requires c =
    let f = few c.args.counted.now.machine c.args.counted.now.finals c.args.n (length c.args.part.now) c.args.counted.now.counted c.requires in
    (omega arith, omega (arith, f.few-finals, f.few-links, f.few-nodes, f.products, f.fits, c.measure.auto.part))

pub distance_at-requires : goal.distance_at-requires
distance_at-requires c =
    let f = few c.args.counted.now.machine c.args.counted.now.finals c.args.n (length c.args.part.now) c.args.counted.now.counted c.requires in
    omega (arith, f.few-finals, f.few-links, f.few-nodes, f.products, f.fits, c.reverse.auto.part, c.measure.auto.part)

pub returns-then-is_none-clause-value : goal.returns-then-is_none-clause-value
returns-then-is_none-clause-value c =
    let args = c.args in
    let m = args.counted.now.machine in
    let h = c.requires in
    let back = turned m args.counted.now.finals args.n args.part.now c.measure.new.part c.reverse.new.part c.args.counted.now.counted h c.measure.ensures c.reverse.ensures in
    let none = none-there m.sheet.bytes.now m.climbs (stated m) m.sheet.stated args.counted.now.finals c.args.counted.now.counted args.n h.0 h.1 c.are_bytes.ensures c.measure.new.part c.reverse.new.part (omega (arith, h.2, c.measure.auto.part)) back
    (ap reached_in (sym c.distance_at.ensures) ∙ reached-by _ _ true c.is_none.ensures c.if-is_none.true) in
    c.put_none.ensures.value ∙ ap (λ r. listed_in r (length args.res.now)) (sym none)

pub returns-then-is_none-clause-res_after : goal.returns-then-is_none-clause-res_after
returns-then-is_none-clause-res_after c =
    let args = c.args in
    let m = args.counted.now.machine in
    let h = c.requires in
    let back = turned m args.counted.now.finals args.n args.part.now c.measure.new.part c.reverse.new.part c.args.counted.now.counted h c.measure.ensures c.reverse.ensures in
    let none = none-there m.sheet.bytes.now m.climbs (stated m) m.sheet.stated args.counted.now.finals c.args.counted.now.counted args.n h.0 h.1 c.are_bytes.ensures c.measure.new.part c.reverse.new.part (omega (arith, h.2, c.measure.auto.part)) back
    (ap reached_in (sym c.distance_at.ensures) ∙ reached-by _ _ true c.is_none.ensures c.if-is_none.true) in
    c.put_none.ensures.res_after ∙ ap (λ r. listed_over r args.res.now) (sym none)

pub overflow_add-p : goal.overflow_add-p
overflow_add-p c =
    let args = c.args in
    let m = args.counted.now.machine in
    let h = c.requires in
    let back = turned m args.counted.now.finals args.n args.part.now c.measure.new.part c.reverse.new.part c.args.counted.now.counted h c.measure.ensures c.reverse.ensures in
    let start = start_is m.sheet.bytes.now m.climbs (stated m) m.sheet.stated args.counted.now.finals c.args.counted.now.counted args.n h.0 h.1 c.are_bytes.ensures c.measure.new.part c.reverse.new.part (omega (arith, h.2, c.measure.auto.part)) back
    (ap reached_in (sym c.distance_at.ensures) ∙ reached-by _ _ false c.is_none.ensures c.if-is_none.false) in
    let p = parts_of m.sheet.bytes.now in
    omega (arith, start-inside p (passes m.sheet.bytes.now m.climbs) m.sheet.start start.0, (fields-own m.sheet.bytes.now m.climbs).few-nodes)

pub overflow_add-sheet : goal.overflow_add-sheet
overflow_add-sheet c = let f = few c.args.counted.now.machine c.args.counted.now.finals c.args.n (length c.args.part.now) c.args.counted.now.counted c.requires in omega (arith, f.few-finals, f.few-links, f.few-nodes, f.products, f.fits)

pub n_shortest_path-c-requires : goal.n_shortest_path-c-requires
n_shortest_path-c-requires c =
    let args = c.args in
    let m = args.counted.now.machine in
    let h = c.requires in
    let back = turned m args.counted.now.finals args.n args.part.now c.measure.new.part c.reverse.new.part c.args.counted.now.counted h c.measure.ensures c.reverse.ensures in
    let there = ap reached_in (sym c.distance_at.ensures) ∙ reached-by _ _ false c.is_none.ensures c.if-is_none.false in (
      begins m.sheet.bytes.now m.climbs (stated m) m.sheet.stated args.counted.now.finals c.args.counted.now.counted args.n h.0 h.1 c.are_bytes.ensures c.measure.new.part c.reverse.new.part (omega (arith, h.2, c.measure.auto.part)) back there,
      going m.sheet.bytes.now m.climbs (stated m) m.sheet.stated args.counted.now.finals c.args.counted.now.counted args.n h.0 h.1 c.are_bytes.ensures c.measure.new.part c.reverse.new.part (omega (arith, h.2, c.measure.auto.part)) back there,
    )

-- the words that the search ends with
abbrev ended : Machine → ℕ → ℕ → List ℕ → Words
ended m finals n part =
    let p : Places = record { nodes = heads m finals n; links = chains m finals n; inputs = m.sheet.links; end = m.sheet.start + 1 } in
    after_w p n (m.sheet.links + finals) (1 + finals + n * (m.sheet.links + 1)) (begun_w p part)

pub write_list-requires : goal.write_list-requires
write_list-requires c =
    let args = c.args in
    let m = args.counted.now.machine in
    let h = c.requires in
    let back = turned m args.counted.now.finals args.n args.part.now c.measure.new.part c.reverse.new.part c.args.counted.now.counted h c.measure.ensures c.reverse.ensures in
    let there = ap reached_in (sym c.distance_at.ensures) ∙ reached-by _ _ false c.is_none.ensures c.if-is_none.false in
    let made = c.n_shortest_path-c in
    let whole : ◌≡◌ {A = Words} (record { part = made.new.part; counts = made.result }) (ended m args.counted.now.finals args.n c.reverse.new.part) = λ i. record { part = made.ensures.part_after i; counts = made.ensures.value i } in
    subst (λ (w : Words). Listable m.sheet.bytes.now m.sheet.links w.part w.counts.entries w.counts.listed) (sym whole)
    (listed-done m.sheet.bytes.now m.climbs (stated m) m.sheet.stated args.counted.now.finals c.args.counted.now.counted args.n h.0 h.1 c.are_bytes.ensures c.measure.new.part c.reverse.new.part (omega (arith, h.2, c.measure.auto.part)) back there)

pub returns-clause-value : goal.returns-clause-value
returns-clause-value c =
    let args = c.args in
    let m = args.counted.now.machine in
    let h = c.requires in
    let back = turned m args.counted.now.finals args.n args.part.now c.measure.new.part c.reverse.new.part c.args.counted.now.counted h c.measure.ensures c.reverse.ensures in
    let there = ap reached_in (sym c.distance_at.ensures) ∙ reached-by _ _ false c.is_none.ensures c.if-is_none.false in
    let made = c.n_shortest_path-c in
    let whole : ◌≡◌ {A = Words} (record { part = made.new.part; counts = made.result }) (ended m args.counted.now.finals args.n c.reverse.new.part) = λ i. record { part = made.ensures.part_after i; counts = made.ensures.value i } in
    let long = length args.res.now in
    c.write_list.ensures.value ∙ ap (λ (w : Words). list_answer m.sheet.form w.counts.listed (kept_count w.counts.entries w.counts.listed w.part) w.counts.taken long) whole
    ∙ answers m.sheet.bytes.now m.climbs (stated m) m.sheet.stated args.counted.now.finals c.args.counted.now.counted args.n h.0 h.1 c.are_bytes.ensures c.measure.new.part c.reverse.new.part (omega (arith, h.2, c.measure.auto.part)) back there long

pub returns-clause-res_after : goal.returns-clause-res_after
returns-clause-res_after c =
    let args = c.args in
    let m = args.counted.now.machine in
    let h = c.requires in
    let back = turned m args.counted.now.finals args.n args.part.now c.measure.new.part c.reverse.new.part c.args.counted.now.counted h c.measure.ensures c.reverse.ensures in
    let there = ap reached_in (sym c.distance_at.ensures) ∙ reached-by _ _ false c.is_none.ensures c.if-is_none.false in
    let made = c.n_shortest_path-c in
    let whole : ◌≡◌ {A = Words} (record { part = made.new.part; counts = made.result }) (ended m args.counted.now.finals args.n c.reverse.new.part) = λ i. record { part = made.ensures.part_after i; counts = made.ensures.value i } in
    c.write_list.ensures.res_after ∙ ap (λ (w : Words). list_after m.sheet.bytes.now m.sheet.links m.sheet.form w.part w.counts.entries w.counts.listed args.res.now) whole
    ∙ leaves m.sheet.bytes.now m.climbs (stated m) m.sheet.stated args.counted.now.finals c.args.counted.now.counted args.n h.0 h.1 c.are_bytes.ensures c.measure.new.part c.reverse.new.part (omega (arith, h.2, c.measure.auto.part)) back there args.res.now
