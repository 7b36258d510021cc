use mathlib.Core.Path.{◌≡◌, sym, ap, ◌∙◌}
use mathlib.Core.List.{List}
use Prim.Native.Nat.{ℕ, ◌+◌, ◌-◌, ◌≤◌, ◌<◌}
use native.Mathlib.Omega.{arith}
use Rattle.std.specs.Prelude.{Some}
use Rattle.sheet.specs.Accepted.{ending_at}
use Rattle.machine.specs.Finals.{final_count}
use Rattle.reversed_machine.specs.ReverseWords.{finals_reversed}
use Rattle.machine.proofs.FinalCount.{count-plain, count-final, count-mono, count_most}
use Rattle.reversed_machine.proofs.Passing.{final-given, final-absent, finals-plain, finals-again, machine-fields}
use Rattle.reversed_machine.proofs.reverse.Layout.reverse_finals.Goals as goal

-- at a final node: how many are before it
before : (bytes : List ℕ) (links nodes v bits : ℕ) → 0 < v → v ≤ nodes → ending_at bytes links (v - 1) ≡ Some bits
    → (final_count bytes links v ≡ final_count bytes links (v - 1) + 1) × (final_count bytes links v ≤ final_count bytes links nodes)
before bytes links nodes v bits h b e = (count-final bytes links (v - 1) v (omega arith) (final-given bytes links (v - 1) bits e).0, count-mono bytes links v nodes b)

pub overflow_add-k : goal.overflow_add-k
overflow_add-k c =
    let counted = c.args.self.now.counted in
    let sheet = counted.machine.sheet in
    let fields = machine-fields counted.machine in
    omega (arith, counted.counted, fields.few-nodes, fields.few-links, count_most sheet.bytes.now sheet.links sheet.nodes)

pub overflow_sub-k : goal.overflow_sub-k
overflow_sub-k c =
    let sheet = c.args.self.now.counted.machine.sheet in
    omega (arith, c.loop-v.invariant.number, before sheet.bytes.now sheet.links sheet.nodes c.loop-v.v _ (omega arith) (omega arith) (sym c.final_bits.ensures.word ∙ c.in-Some.is))

pub put_in_front-requires : goal.put_in_front-requires
put_in_front-requires c =
    let s = c.args.self.now in
    let counted = s.counted in
    let sheet = counted.machine.sheet in
    let last = before sheet.bytes.now sheet.links sheet.nodes c.loop-v.v _ (omega arith) (omega arith) (sym c.final_bits.ensures.word ∙ c.in-Some.is) in
    (omega (arith, s.apart, c.requires), omega (arith, c.loop-v.invariant.number, last, counted.counted, c.requires))

pub loop-v-preserved-in-Some : goal.loop-v-preserved-in-Some
loop-v-preserved-in-Some c =
    let turn = c.loop-v in
    let at = c.args.self.now in
    let sheet = at.counted.machine.sheet in
    let bytes = sheet.bytes.now in
    let ended = sym c.final_bits.ensures.word ∙ c.in-Some.is in
    let given = final-given bytes sheet.links (turn.v - 1) _ ended in
    let some : 0 < turn.v = omega arith in
    let number : turn.k - 1 ≡ sheet.links + final_count bytes sheet.links (turn.v - 1) = omega (arith, before bytes sheet.links sheet.nodes turn.v _ some (omega arith) ended, turn.invariant.number) in record {
      number = number;
      as_all = finals-again bytes at.heads at.chains turn.part _ _ sheet.links turn.v some turn.invariant.as_all (turn.k - 1) _ given.0 number given.1 c.put_in_front.ensures;
    }

pub loop-v-preserved : goal.loop-v-preserved
loop-v-preserved c =
    let turn = c.loop-v in
    let at = c.args.self.now in
    let sheet = at.counted.machine.sheet in
    let bytes = sheet.bytes.now in
    let some : 0 < turn.v = omega arith in
    let plain = final-absent bytes sheet.links (turn.v - 1) (sym c.final_bits.ensures.word ∙ c.in_default.is) in record {
      number = omega (arith, turn.invariant.number, count-plain bytes sheet.links (turn.v - 1) turn.v (omega arith) plain);
      as_all = finals-plain bytes at.heads at.chains turn.part turn.part _ sheet.links turn.v some turn.invariant.as_all plain;
    }

pub returns : goal.returns
unfolding finals_reversed
returns c =
    let at = c.args.self.now in
    let sheet = at.counted.machine.sheet in
    let turn = c.loop-v in
    let none : 0 ≡ turn.v = omega arith in
    ap (λ (n : ℕ). finals_reversed sheet.bytes.now at.heads at.chains sheet.links n turn.part) none ∙ turn.invariant.as_all
