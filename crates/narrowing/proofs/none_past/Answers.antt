use mathlib.Core.Path.{◌≡◌, refl, sym, ap, ◌∙◌}
use mathlib.Core.Logic.{inl, inr}
use mathlib.Core.Bool.{Bool, true, false, not, ◌&&◌}
use Prim.Native.Nat.{ℕ, ◌+◌, ◌*◌, ◌≤◌, ◌<◌}
use native.Mathlib.Omega.{arith}
use lib.Dec.{ltb}
use lib.ListN.{length}
use borrow.Author.Tests.{lt-ltb, le-ltb}
use Rattle.sheet.specs.Below.{all_below}
use Rattle.sheet.specs.Words.{word_length, word}
use Rattle.sheet.specs.Sheet.{link_length}
use Rattle.sheet.specs.Records.{first_link}
use Rattle.sheet.specs.Machine.{machine}
use Rattle.sheet.proofs.Below.{split_at, all_below-at, all_below-of, all_below-more, all_below-fails}
use Rattle.machine.specs.declared.climbing.Machine.{Machine}
use Rattle.machine.specs.Readings.{link}
use Rattle.machine.proofs.Machines.{machine-fields}
use Rattle.narrowing.specs.Narrows.{none_past}
use Rattle.narrowing.proofs.Seam.{seam, seam-in, below-seam, above-seam}
use Rattle.narrowing.proofs.Counted.{before-seam}
use Rattle.narrowing.proofs.none_past.Invariants.{stays}
use Rattle.narrowing.proofs.none_past.Goals as goal

module _ (m : Machine) (before c : ℕ) (counted : before ≡ first_link m.sheet.bytes.now m.sheet.links c) (inside : c ≤ m.sheet.nodes) where
  at-seam : before ≡ seam c (machine m.sheet.bytes.now)
  at-seam = counted ∙ before-seam m c inside

  few : before ≤ m.sheet.links
  few = omega (arith, at-seam, seam-in c (machine m.sheet.bytes.now), (machine-fields m).links-are)

  -- a link before the seam is judged by the word that says where it leads
  judged : (l next : ℕ) → l < before → next ≡ word m.sheet.bytes.now (link_length * l + 3 * word_length) → stays c (machine m.sheet.bytes.now) l ≡ not (ltb c next)
  judged l next h e =
      let f = machine-fields m in
      let w = machine m.sheet.bytes.now in
      let leads = e ∙ f.next-at l (omega (arith, h, few)) in
      λ i. not (lt-ltb (link w l).source c (below-seam c w f.climbs l (omega (arith, h, at-seam))) i && ltb c (sym leads i))

  -- and one that leads above c is found
  fails : (l next : ℕ) → l < before → next ≡ word m.sheet.bytes.now (link_length * l + 3 * word_length) → c < next → false ≡ none_past c (machine m.sheet.bytes.now)
  unfolding none_past
  fails l next h e past =
      let w = machine m.sheet.bytes.now in
      sym (all_below-fails (length w.links) (stays c w) l (omega (arith, h, few, (machine-fields m).links-are)) (judged l next h e ∙ ap (λ (b : Bool). not b) (lt-ltb c next past)))

  -- one from the seam on passes
  all-stay : all_below before (stays c (machine m.sheet.bytes.now)) ≡ true → none_past c (machine m.sheet.bytes.now) ≡ true
  unfolding none_past
  all-stay e =
      let w = machine m.sheet.bytes.now in
      all_below-of (length w.links) (stays c w) (λ l h. elim (split_at l before) [
        | inl b ↦ all_below-at before (stays c w) e l b
        | inr b ↦ ap (λ (t : Bool). not (t && ltb c (link w l).next)) (le-ltb (link w l).source c (above-seam c w (machine-fields m).climbs l (omega (arith, b, at-seam)) h))
      ])

pub loop-l-init : goal.loop-l-init
unfolding all_below
loop-l-init c = refl

pub next-requires : goal.next-requires
next-requires c = omega (arith, c.loop-l-test.true, few c.args.machine.now c.args.before c.args.c c.requires.counted c.requires.inside)

pub returns-then-c-next : goal.returns-then-c-next
returns-then-c-next c =
    let r = c.requires in
    fails c.args.machine.now c.args.before c.args.c r.counted r.inside c.loop-l.l c.next.result c.loop-l-test.true c.next.ensures.word c.if-c-next.true

pub loop-l-preserved : goal.loop-l-preserved
loop-l-preserved c =
    let m = c.args.machine.now in
    let at = c.args.c in
    let r = c.requires in
    let passes = judged m c.args.before at r.counted r.inside c.loop-l.l c.next.result c.loop-l-test.true c.next.ensures.word in
    all_below-more c.loop-l.l (stays at (machine m.sheet.bytes.now)) c.loop-l.invariant (passes ∙ ap (λ (b : Bool). not b) (le-ltb at c.next.result c.if-c-next.false))

pub returns : goal.returns
returns c =
    let all : c.loop-l.l ≡ c.args.before = omega (arith, c.loop-l-test.false, c.loop-l.auto.l-end) in
    let w = machine c.args.machine.now.sheet.bytes.now in
    sym (all-stay c.args.machine.now c.args.before c.args.c c.requires.counted c.requires.inside (sym (ap (λ (n : ℕ). all_below n (stays c.args.c w)) all) ∙ c.loop-l.invariant))
