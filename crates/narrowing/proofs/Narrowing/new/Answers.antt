use mathlib.Core.Path.{◌≡◌, sym, ap, ◌∙◌}
use mathlib.Core.Bool.{Bool, true, false, ◌&&◌, cond}
use Prim.Native.Nat.{ℕ, ◌≤◌, ◌<◌}
use native.Mathlib.Omega.{arith}
use lib.ListN.{length}
use borrow.Author.Tests.{lt-ltb, le-ltb}
use Rattle.std.proofs.lemmas.Bool.{and_left, and_right}
use Rattle.sheet.specs.Machine.{machine}
use Rattle.machine.specs.declared.climbing.Machine.{Machine}
use Rattle.machine.proofs.Machines.{machine-fields}
use Rattle.narrowing.specs.Narrows.{starts_by, unmarked_below, none_past, narrows, narrow_number}
use Rattle.narrowing.proofs.Narrowing.new.Goals as goal

module _ (m : Machine) (c : ℕ) where
  -- the number of a test that fails
  refused : narrows c (machine m.sheet.bytes.now) ≡ false → 13 ≡ narrow_number c (machine m.sheet.bytes.now)
  refused e = sym (ap (λ (b : Bool). cond b 0 13) e)

  past-nodes : m.sheet.nodes ≤ c → narrows c (machine m.sheet.bytes.now) ≡ false
  unfolding narrows
  past-nodes h = and_left _ _ (and_left _ _ (and_left _ _ (le-ltb c (length (machine m.sheet.bytes.now).finals) (omega (arith, h, (machine-fields m).nodes-are)))))

  no-start : starts_by c (machine m.sheet.bytes.now).start ≡ false → narrows c (machine m.sheet.bytes.now) ≡ false
  unfolding narrows
  no-start e = and_left _ _ (and_left _ _ (and_right _ _ e))

  has-mark : unmarked_below c (machine m.sheet.bytes.now) ≡ false → narrows c (machine m.sheet.bytes.now) ≡ false
  unfolding narrows
  has-mark e = and_left _ _ (and_right _ _ e)

  leads-past : none_past c (machine m.sheet.bytes.now) ≡ false → narrows c (machine m.sheet.bytes.now) ≡ false
  unfolding narrows
  leads-past e = and_right _ _ e

  passes : c < m.sheet.nodes → starts_by c (machine m.sheet.bytes.now).start ≡ true → unmarked_below c (machine m.sheet.bytes.now) ≡ true → none_past c (machine m.sheet.bytes.now) ≡ true
      → narrows c (machine m.sheet.bytes.now) ≡ true
  unfolding narrows
  passes h s u n = λ i. lt-ltb c (length (machine m.sheet.bytes.now).finals) (omega (arith, h, (machine-fields m).nodes-are)) i && s i && u i && n i

pub returns-then-machine-c-clause-number : goal.returns-then-machine-c-clause-number
returns-then-machine-c-clause-number c = refused c.args.machine.now c.args.c (past-nodes c.args.machine.now c.args.c c.if-machine-c.true)

pub returns-then-not-starts_by-clause-number : goal.returns-then-not-starts_by-clause-number
returns-then-not-starts_by-clause-number c = refused c.args.machine.now c.args.c (no-start c.args.machine.now c.args.c (sym c.starts_by.ensures ∙ c.if-not-starts_by.true))

pub returns-then-not-unmarked_below-clause-number : goal.returns-then-not-unmarked_below-clause-number
returns-then-not-unmarked_below-clause-number c = refused c.args.machine.now c.args.c (has-mark c.args.machine.now c.args.c (sym c.unmarked_below.ensures ∙ c.if-not-unmarked_below.true))

pub returns-then-not-none_past-clause-number : goal.returns-then-not-none_past-clause-number
returns-then-not-none_past-clause-number c = refused c.args.machine.now c.args.c (leads-past c.args.machine.now c.args.c (sym c.none_past.ensures ∙ c.if-not-none_past.true))

pub invariant_of-result : goal.invariant_of-result
invariant_of-result c = record {
  bytes = c.are_bytes.ensures;
  inside = c.if-machine-c.false;
  narrow = passes c.args.machine.now c.args.c c.if-machine-c.false (sym c.starts_by.ensures ∙ c.if-not-starts_by.false) (sym c.unmarked_below.ensures ∙ c.if-not-unmarked_below.false) (sym c.none_past.ensures ∙ c.if-not-none_past.false);
  counted = c.links_before-before.ensures.value;
}
