-- Of a machine that passes tests 1, 14 and 2 to 6: its weights, final weights and start, by the fields of its sheet. Assumes nothing.
use mathlib.Core.Path.{◌≡◌, refl, sym, ap, ◌∙◌}
use mathlib.Core.Bool.{Bool, true, false, ◌||◌, cond}
use mathlib.Core.Option.{none, some}
use mathlib.Core.List.{List}
use Prim.Native.Nat.{ℕ, ◌<◌}
use native.Mathlib.Omega.{arith}
use lib.Dec.{ltb, eqb}
use borrow.Author.Tests.{ltb-true, eqb-true}
use Rattle.std.specs.Prelude.{None, Some}
use Rattle.sheet.specs.declared.tr.Trailer.{Trailer}
use Rattle.sheet.specs.Sheet.{Parts, unit_of, no_start, link_count, node_count, mark, final_bits, link_bits, start_fits, weight_fits, parts_of}
use Rattle.sheet.specs.Machine.{unit_in, machine_of, machine, weight_of, start_of}
use Rattle.sheet.specs.Accepted.{start_in, ending}
use Rattle.sheet.proofs.Sources.{machine-links, machine-nodes, machine-final}
use Rattle.machine.specs.declared.climbing.Machine.{Machine}
use Rattle.machine.specs.Readings.{final}
use Rattle.machine.proofs.Accepted.{Passes, passes, link-grid, final-grid, machine-form}
use Rattle.machine.proofs.Machines.{machine-fields}

module _ (m : Machine) where
  abbrev bytes : List ℕ
  bytes = m.sheet.bytes.now

  abbrev p : Parts
  p = parts_of bytes

  t : Passes (parts_of m.sheet.bytes.now)
  t = passes bytes m.climbs

  in-links : (l : ℕ) → l < m.sheet.links → l < link_count p
  in-links l h = omega (arith, machine-links p, (machine-fields m).links-are)

  in-nodes : (v : ℕ) → v < m.sheet.nodes → v < node_count p
  in-nodes v h = omega (arith, machine-nodes p, (machine-fields m).nodes-are)

  unit-is : unit_in (machine m.sheet.bytes.now) ≡ unit_of p.form
  unit-is = ap unit_of (machine-form p)

  -- the field of a link's weight passes test 4
  pub link-fits : (l : ℕ) → l < m.sheet.links → weight_fits (unit_in (machine m.sheet.bytes.now)) (link_bits (parts_of m.sheet.bytes.now) l) ≡ true
  link-fits l h = ap (λ (j : ℕ). weight_fits j (link_bits p l)) unit-is ∙ link-grid p t l (in-links l h)

  -- so does that of a final weight, where there is one
  pub ending-none : (v : ℕ) → v < m.sheet.nodes → ending (parts_of m.sheet.bytes.now) v ≡ None → final (machine m.sheet.bytes.now) v ≡ none
  ending-none v h e = machine-final p v (in-nodes v h) ∙ go (eqb (mark p v) 0) e
    where
      go : (b : Bool) → cond b None (Some (final_bits p v)) ≡ None → cond b none (some (weight_of (unit_of p.form) (final_bits p v))) ≡ none
      go true q = refl
      go false q = let z : ◌≡◌ {A = ℕ} 0 1 = cc in absurd (omega arith)

  pub ending-some : (v k : ℕ) → v < m.sheet.nodes → ending (parts_of m.sheet.bytes.now) v ≡ Some k
      → (weight_fits (unit_in (machine m.sheet.bytes.now)) k ≡ true) × (final (machine m.sheet.bytes.now) v ≡ some (weight_of (unit_in (machine m.sheet.bytes.now)) k))
  ending-some v k h e =
      let r = go (eqb (mark p v) 0) e (final-grid p t v (in-nodes v h)) in
      (ap (λ (j : ℕ). weight_fits j k) unit-is ∙ r.0, machine-final p v (in-nodes v h) ∙ r.1 ∙ ap (λ (j : ℕ). some (weight_of j k)) (sym unit-is))
    where
      go : (b : Bool) → cond b None (Some (final_bits p v)) ≡ Some k → b || weight_fits (unit_of p.form) (final_bits p v) ≡ true
          → (weight_fits (unit_of p.form) k ≡ true) × (cond b none (some (weight_of (unit_of p.form) (final_bits p v))) ≡ some (weight_of (unit_of p.form) k))
      go true q g = let z : ◌≡◌ {A = ℕ} 0 1 = cc in absurd (omega arith)
      go false q g = let same : final_bits p v ≡ k = cc in (ap (weight_fits (unit_of p.form)) (sym same) ∙ g, ap (λ (n : ℕ). some (weight_of (unit_of p.form) n)) same)

  -- the start, where it is a node; else there is none
  start-stated : m.sheet.start ≡ p.start
  unfolding parts_of
  start-stated = ap (λ (t : Trailer). t.start) m.sheet.stated

  start-fits : start_fits m.sheet.nodes m.sheet.start ≡ true
  start-fits = (λ i. start_fits (sym (machine-fields m).nodes-are i) (start-stated i)) ∙ (λ i. start_fits (machine-nodes p i) p.start) ∙ t.start_fits_lem

  pub start-read : (machine m.sheet.bytes.now).start ≡ start_of m.sheet.start
  unfolding machine_of
  start-read = ap start_of (sym start-stated)

  pub start-none : start_in m.sheet.nodes m.sheet.start ≡ None → (machine m.sheet.bytes.now).start ≡ none
  start-none e = start-read ∙ go (ltb m.sheet.start m.sheet.nodes) (eqb m.sheet.start no_start) e start-fits
    where
      go : (b d : Bool) → cond b (Some m.sheet.start) None ≡ None → b || d ≡ true → cond d none (some m.sheet.start) ≡ none
      go true d q g = let z : ◌≡◌ {A = ℕ} 0 1 = cc in absurd (omega arith)
      go false true q g = refl
      go false false q g = let z : ◌≡◌ {A = ℕ} 0 1 = cc in absurd (omega arith)

  pub start-some : (s : ℕ) → start_in m.sheet.nodes m.sheet.start ≡ Some s → (machine m.sheet.bytes.now).start ≡ some s
  start-some s e = start-read ∙ go (ltb m.sheet.start m.sheet.nodes) (eqb m.sheet.start no_start) refl refl e
    where
      go : (b d : Bool) → ltb m.sheet.start m.sheet.nodes ≡ b → eqb m.sheet.start no_start ≡ d → cond b (Some m.sheet.start) None ≡ Some s → cond d none (some m.sheet.start) ≡ some s
      go true true f g q = absurd (omega (arith, ltb-true _ _ f, eqb-true _ _ g, (machine-fields m).few-nodes))
      go true false f g q = let same : m.sheet.start ≡ s = cc in ap (λ (n : ℕ). some n) same
      go false d f g q = let z : ◌≡◌ {A = ℕ} 0 1 = cc in absurd (omega arith)
