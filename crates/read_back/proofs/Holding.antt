-- The reading that a walk along a way finds, and what the code does with it. Assumes nothing.
use mathlib.Core.Path.{◌≡◌, refl, sym, ap, ◌∙◌, subst}
use mathlib.Core.Bool.{Bool, cond}
use mathlib.Core.Option.{Option, none, some}
use Rattle.std.specs.Prelude.{Option as Maybe, Some, None}
use mathlib.Core.List.{List}
use Prim.Native.Nat.{ℕ, ◌+◌, ◌≤◌, ◌<◌}
use native.Mathlib.Omega.{arith}
use lib.IntN.{ℤ}
use lib.ListN.{length, take}
use lib.Seq.{sets, length-sets}
use borrow.Author.Tests.{lt-ltb}
use Rattle.tropical_weight.specs.Tropical.{fin}
use Rattle.sheet.specs.Accepted.{start_in}
use Rattle.sheet.specs.Machine.{Machine, machine}
use Rattle.machine.specs.declared.climbing.Machine.{Machine as Climbing}
use Rattle.machine.specs.Readings.{IsReading, reading_of, reading_cost}
use Rattle.machine.proofs.Values.{start-none, start-some}
use Rattle.read_back.specs.declared.walk.Walk.{Walk}
use Rattle.read_back.specs.Follows.{follows, ends_at, ends_from, reads_to, run_by, if_reading}
use Rattle.read_back.specs.Walks.{ended_by, outcome, Comes, Follows, Walked}
use Rattle.read_back.specs.Answers.{units_in, reading_told, run_in}
use Rattle.read_back.proofs.Ways.{stored-front}
use Rattle.read_back.proofs.Follow.{reads-is}

-- ---- what a walk from the start finds
module _ (m : Machine) where
  -- without a start there is no reading
  pub none-held : m.start ≡ none → (o : Option (List ℕ)) → if_reading m o ≡ none
  none-held e none = refl
  none-held e (some run) = ap (λ (s : Option ℕ). run_by run (ends_from m s run)) e

  module _ (s : ℕ) (starts : m.start ≡ some s) where
    abbrev reads : List ℕ → Option ℕ
    reads run = ends_at m (follows m s run)

    same : (run : List ℕ) → reads_to m run ≡ reads run
    same run = ap (λ (o : Option ℕ). ends_from m o run) starts

    pub held-not : (o : Option (List ℕ)) → outcome m s 0 o ≡ none → if_reading m o ≡ none
    held-not none f = refl
    held-not (some run) f = go (reads run) (same run) f
      where
        go : (x : Option ℕ) → reads_to m run ≡ x → ended_by 0 run x ≡ none → if_reading m (some run) ≡ none
        go none e y = ap (run_by run) e
        go (some v) e y = let q : ◌≡◌ {A = ℕ} 0 1 = cc in absurd (omega arith)

    pub held_by : (w : Walk) (o : Option (List ℕ)) → outcome m s 0 o ≡ some (w.count, w.at.node) → Follows m o w
    held_by w none f = let q : ◌≡◌ {A = ℕ} 0 1 = cc in absurd (omega arith)
    held_by w (some run) f = go (reads run) (same run) f
      where
        go : (x : Option ℕ) → reads_to m run ≡ x → ended_by 0 run x ≡ some (w.count, w.at.node) → Follows m (some run) w
        go none e y = let q : ◌≡◌ {A = ℕ} 0 1 = cc in absurd (omega arith)
        go (some v) e y =
            let r = reads-is m run v e in
            let z : (0 + length run, v) ≡ (w.count, w.at.node) = cc in
            record { is = refl; held = ap (run_by run) e; counts = omega (arith, ap (λ (p : ℕ × ℕ). p.0) z); reading = r.reading; ends = sym (ap (λ (p : ℕ × ℕ). p.1) z) ∙ r.ends }

-- ---- from the start of a machine
module _ (c : Climbing) where
  abbrev sheet : List ℕ
  sheet = c.sheet.bytes.now

  -- the machine starts there, where it is a node
  pub starts-there : (s : ℕ) → (s ≡ c.sheet.start) × (s < c.sheet.nodes) → (machine sheet).start ≡ some s
  starts-there s h = start-some c s (ap (λ (b : Bool). cond b (Some c.sheet.start) None) (lt-ltb c.sheet.start c.sheet.nodes (omega (arith, h.0, h.1))) ∙ ap Some (sym h.0))

  -- and else it has no start
  pub starts-not : ◌≡◌ {A = Maybe ℕ} None (start_in c.sheet.nodes c.sheet.start) → (machine sheet).start ≡ none
  starts-not e = start-none c (sym e)

-- what a walk from there on along a way comes to
pub walked-by : (sheet : List ℕ) (s : ℕ) → (machine sheet).start ≡ some s → (begun : Walk) → Comes sheet (some (0, s)) (Some begun) → (way : Option (List ℕ)) (r : Maybe Walk)
    → Comes begun.at.sheet.bytes.now (outcome (machine begun.at.sheet.bytes.now) begun.at.node begun.count way) r → Walked sheet way r
walked-by sheet s starts begun e way r h = go r h
  where
    place : ◌≡◌ {A = ℕ × ℕ} (0, s) (begun.count, begun.at.node)
    place = let z = e.1 in cc

    same : outcome (machine sheet) s 0 way ≡ outcome (machine begun.at.sheet.bytes.now) begun.at.node begun.count way
    same = λ i. outcome (machine (sym e.0 i)) (place i).1 (place i).0 way

    go : (r : Maybe Walk) → Comes begun.at.sheet.bytes.now (outcome (machine begun.at.sheet.bytes.now) begun.at.node begun.count way) r → Walked sheet way r
    go None h = held-not (machine sheet) s starts way (same ∙ h)
    go (Some w) h = (h.0 ∙ e.0, held_by (machine sheet) s starts w way (same ∙ h.1))

-- by the sheet that it holds
pub own : (bytes : List ℕ) (o : Option (List ℕ)) (w : Walk) → Walked bytes o (Some w) → Follows (machine w.at.sheet.bytes.now) o w
own bytes o w h = subst (λ (s : List ℕ). Follows (machine s) o w) (sym h.0) h.1

-- ---- stored, and its cost
module _ (m : Machine) (o : Option (List ℕ)) (w : Walk) (h : Follows m o w) (old : List ℕ) (room : w.count ≤ length old) (run : List ℕ) (stored : run ≡ sets old 0 (run_in o)) where
  pub front-is : take w.count run ≡ run_in o
  front-is = (λ i. take (h.counts i) (stored i)) ∙ stored-front old (run_in o) (omega (arith, room, h.counts))

  pub long : w.count ≤ length run
  long = omega (arith, room, ap length stored, length-sets old 0 (run_in o))

  pub cost-asked : record { reading : IsReading m (reading_of m (take w.count run)); end_value : w.at.node ≡ (reading_of m (take w.count run)).end }
  cost-asked = record {
    reading = subst (λ (r : List ℕ). IsReading m (reading_of m r)) (sym front-is) h.reading;
    end_value = h.ends ∙ ap (λ (r : List ℕ). (reading_of m r).end) (sym front-is);
  }

  pub told_is : (cost : ℤ) → fin cost ≡ reading_cost m (reading_of m (take w.count run)) → record { links = w.count; cost = cost; end = w.at.node } ≡ reading_told m (run_in o)
  told_is cost e =
      let units : cost ≡ units_in (reading_cost m (reading_of m (run_in o))) = ap units_in (e ∙ ap (λ (r : List ℕ). reading_cost m (reading_of m r)) front-is) in
      λ i. record { links = h.counts i; cost = units i; end = h.ends i }
