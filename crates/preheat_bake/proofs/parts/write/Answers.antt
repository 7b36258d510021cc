use mathlib.Core.Path.{◌≡◌, sym, ap, ◌∙◌}
use mathlib.Core.List.{List}
use Prim.Native.Nat.{ℕ, ◌+◌, ◌-◌, ◌*◌, ◌≤◌, ◌<◌}
use native.Mathlib.Omega.{arith}
use lib.ListN.{length}
use lib.Seq.{sets}
use Rattle.sheet.specs.declared.refusal.Refusal.{Refusal}
use Rattle.sheet.specs.Refusals.{number_of}
use Rattle.sheet.specs.Sheet.{node_length, trailer_length}
use Rattle.sheet.specs.Machine.{machine}
use Rattle.sheet.proofs.Bytes.{sets-append}
use Rattle.narrowing.specs.declared.Narrowing.{Narrowing}
use Rattle.narrowing.specs.Parts.{is_before, is_after, preheat, bake, numbers}
use Rattle.narrowing.proofs.Seam.{first-links}
use Rattle.preheat_bake.specs.declared.counts.Counts.{Counts}
use Rattle.preheat_bake.specs.Outcome.{part_bytes, parted, answer_of, counts_of, split_number}
use Rattle.preheat_bake.specs.Promise.{numbered_length}
use Rattle.preheat_bake.specs.Held.{whole, first_size, both_size}
use Rattle.preheat_bake.proofs.Whole.{fields, climbs, narrow, own-form, at-seam, few-before, later}
use Rattle.preheat_bake.proofs.Outcomes.{number-short, number-made, refused-answer, refused-over, made-answer, made-over, answer-length, first-length}
use Rattle.preheat_bake.proofs.parts.write.Goals as goal

module _ (x : Narrowing) where
  abbrev bytes : List ℕ
  bytes = x.machine.sheet.bytes.now

  size-is : length (answer_of bytes x.node) ≡ both_size x
  size-is = answer-length bytes x.node x.machine.climbs x.narrow ∙ λ i. numbered_length * (fields x).links-are i + node_length * ((fields x).nodes-are i + 1) + 2 * trailer_length (own-form x i)

  counts-are : ◌≡◌ {A = Counts} (record { first = x.before; second = x.machine.sheet.links - x.before }) (counts_of x.node (machine bytes))
  counts-are = λ i. record { first = (at-seam x ∙ sym (first-links x.node (whole x))) i; second = sym (later x) i }

  short : (room size : ℕ) → size ≡ both_size x → room < size → split_number bytes x.node room ≡ number_of Refusal.Room
  short room size e h = number-short bytes x.node room x.machine.climbs x.narrow (omega (arith, e, h, size-is))

  enough : (room size : ℕ) → size ≡ both_size x → size ≤ room → (split_number bytes x.node room ≡ 0) × (length (answer_of bytes x.node) ≤ room)
  enough room size e h = let long : length (answer_of bytes x.node) ≤ room = omega (arith, e, h, size-is) in (number-made bytes x.node room x.machine.climbs x.narrow long, long)

  -- the second part is stored where the first ends
  both : (old middle : List ℕ) (at : ℕ) → at ≡ first_size x
      → middle ≡ sets old 0 (part_bytes (preheat x.node (machine bytes)) (numbers (is_before x.node) (machine bytes)))
      → sets middle at (part_bytes (bake x.node (machine bytes)) (numbers (is_after x.node) (machine bytes))) ≡ sets old 0 (answer_of bytes x.node)
  unfolding parted
  both old middle at p e =
      let first = part_bytes (preheat x.node (machine bytes)) (numbers (is_before x.node) (machine bytes)) in
      let second = part_bytes (bake x.node (machine bytes)) (numbers (is_after x.node) (machine bytes)) in
      let place : at ≡ 0 + length first = omega (arith, p, first-length x.node (machine bytes) (climbs x) (narrow x).inside, at-seam x, ap trailer_length (own-form x)) in
      (λ i. sets (e i) (place i) second) ∙ sym (sets-append old 0 first second)

pub returns-then-res-size-clause-value : goal.returns-then-res-size-clause-value
returns-then-res-size-clause-value c =
    let x = c.args.whole.now in
    let old = c.args.res.now in
    refused-answer (bytes x) x.node old Refusal.Room (short x (length old) c.size.result c.size.ensures c.if-res-size.true)

pub returns-then-res-size-clause-res_after : goal.returns-then-res-size-clause-res_after
returns-then-res-size-clause-res_after c =
    let x = c.args.whole.now in
    let old = c.args.res.now in
    refused-over (bytes x) x.node old Refusal.Room (short x (length old) c.size.result c.size.ensures c.if-res-size.true)

pub put_first-requires : goal.put_first-requires
put_first-requires c = let x = c.args.whole.now in omega (arith, few-before x, c.size.ensures, c.if-res-size.false, x.inside)

pub put_second-requires : goal.put_second-requires
put_second-requires c = let x = c.args.whole.now in omega (arith, few-before x, c.size.ensures, c.if-res-size.false, x.inside, c.first_size.ensures, c.put_first.auto.res)

pub overflow_sub-result : goal.overflow_sub-result
overflow_sub-result c = few-before c.args.whole.now

pub returns-clause-value : goal.returns-clause-value
returns-clause-value c =
    let x = c.args.whole.now in
    let old = c.args.res.now in
    made-answer (bytes x) x.node old (enough x (length old) c.size.result c.size.ensures c.if-res-size.false).0 _ (counts-are x)

pub returns-clause-res_after : goal.returns-clause-res_after
returns-clause-res_after c =
    let x = c.args.whole.now in
    let old = c.args.res.now in
    let room = enough x (length old) c.size.result c.size.ensures c.if-res-size.false in
    c.put_second.ensures ∙ both x old c.put_first.new.res c.first_size.result c.first_size.ensures c.put_first.ensures ∙ made-over (bytes x) x.node old room.0 room.1
