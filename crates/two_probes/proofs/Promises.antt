-- What the call answers and leaves is what the request asks for. Assumes nothing.
use mathlib.Core.Path.{◌≡◌, refl, sym, ap, ◌∙◌, subst}
use mathlib.Core.Option.{some}
use mathlib.Core.Bool.{Bool, true, false, cond}
use mathlib.Core.List.{List, ◌++◌}
use Prim.Native.Nat.{ℕ, ◌<◌}
use native.Mathlib.Omega.{arith}
use lib.Dec.{ltb, eqb}
use lib.ListN.{length, drop}
use lib.Seq.{take-append_seam}
use borrow.Author.Tests.{ltb-true, eqb-true, eqb-false}
use Rattle.std.specs.Prelude.{Result, Ok, Err, IfOk}
use Rattle.sheet.specs.declared.refusal.Refusal.{Refusal}
use Rattle.sheet.specs.Refusals.{number_of, number_in}
use Rattle.sheet.specs.Sheet.{unit_of, unit_fits, form_of, parts_of, stated_links, stated_nodes}
use Rattle.sheet.specs.Machine.{Machine, unit_in, machine}
use Rattle.sheet.proofs.Refusals.{answer-some, over-made, number-told, first-failed, first-zero, before-room, by-room}
use Rattle.sheet.proofs.Round.{Below}
use Rattle.machine.specs.Input.{input_number}
use Rattle.machine.proofs.Accepted.{passes, start-inside, machine-form, form-stated}
use Rattle.machine.proofs.SheetFields.{SheetFields, sheet-fields, labels-below}
use Rattle.product.specs.Halves.{OneToOne}
use Rattle.product.specs.Refusals.{product_number}
use Rattle.product.specs.Refused.{UnequalUnits, Refused}
use Rattle.product.proofs.Fields.{product-form}
use Rattle.product.proofs.Halves.{one-to-one}
use Rattle.product.proofs.Numbers.{number-most}
use Rattle.product.proofs.Refused.{refused-is, refused-units, unrefused}
use Rattle.product.proofs.Sheets.{product-accepted, product-read}
use Rattle.two_probes.specs.Outcome.{both, answer_of, one_unit, second_number, both_number, both_answer, both_over}
use Rattle.two_probes.specs.Promise.{Allowed, Reasons, Promised}
use Rattle.two_probes.proofs.Outcomes.{second-other, second-passed, second-zero, number-known, number-second, number-both, number-short}

module _ (first second old : List ℕ) (bytes : Below 256 first) where
  abbrev a : Machine
  a = machine first

  abbrev b : Machine
  b = machine second

  -- ---- where both pass tests 1, 14 and 2 to 6
  module _ (i : input_number first ≡ 0) (j : input_number second ≡ 0) where
    f : SheetFields first (stated_links first) (stated_nodes first) (machine first)
    f = sheet-fields first i

    g : SheetFields second (stated_links second) (stated_nodes second) (machine second)
    g = sheet-fields second j

    first-starts : (s : ℕ) → a.start ≡ some s → s < length a.finals
    first-starts = start-inside (parts_of first) (passes first i)

    second-starts : (s : ℕ) → b.start ≡ some s → s < length b.finals
    second-starts = start-inside (parts_of second) (passes second j)

    fits : unit_fits a.form ≡ true
    fits = ap unit_fits (machine-form (parts_of first)) ∙ (passes first i).unit_fits_lem

    -- ---- the sheet of what both allow, and the area
    module _ (k : product_number a b ≡ 0) where
      accepted : input_number (answer_of first second) ≡ 0
      accepted = product-accepted a b f.climbs g.climbs f.small g.small first-starts second-starts (labels-below f bytes) fits k

      read : machine (answer_of first second) ≡ both first second
      read = product-read a b f.climbs g.climbs f.small g.small first-starts second-starts (labels-below f bytes) fits k

      pub allowed : (rest : List ℕ) → Allowed first second (length (answer_of first second)) (answer_of first second ++ rest)
      allowed rest =
          let front = take-append_seam (answer_of first second) rest in
          let same = ap machine front ∙ read in record {
            accepted = ap input_number front ∙ accepted;
            same = same;
            form = ap form_of front ∙ sym (form-stated (answer_of first second)) ∙ ap (λ (m : Machine). m.form) read ∙ product-form a b ∙ form-stated first;
            readings = subst (OneToOne a b) (sym same) (one-to-one a b f.climbs g.climbs second-starts);
          }

    -- ---- the refusals, of one unit
    module _ (u : one_unit first second ≡ true) where
      same-unit : unit_in a ≡ unit_in b
      same-unit = ap unit_of (form-stated first) ∙ eqb-true (unit_of (form_of first)) (unit_of (form_of second)) u ∙ sym (ap unit_of (form-stated second))

      why-one : (k : ℕ) → k ≡ both_number first second (length old) → Reasons first second (length old) k
      why-one k e =
          let p = product_number a b in
          let r = refused-is a b f.climbs g.climbs f.small g.small same-unit in
          let v = unrefused a b f.climbs g.climbs f.small g.small same-unit in
          let passed = second-passed first second j u in
          let s = e ∙ number-both first second (length old) i passed in
          let t = ltb (length old) (length (answer_of first second)) in
          let down : (q : Refusal) → (number_of q ≡ 21 → ⊥) → k ≡ number_of q → p ≡ number_of q = λ q o h. before-room p t q o (sym s ∙ h) in
          let up : (q : Refusal) → p ≡ number_of q → k ≡ number_of q = λ q h. s ∙ first-failed p (cond t 21 0) q h in record {
            refused = record {
              units = (λ h. r.units.0 (down Refusal.Unit (λ z. omega (arith, z)) h), λ w. up Refusal.Unit (r.units.1 w));
              labels = (λ h. r.labels.0 (down Refusal.Labels (λ z. omega (arith, z)) h), λ w. up Refusal.Labels (r.labels.1 w));
              size = (λ h. r.size.0 (down Refusal.Product (λ z. omega (arith, z)) h), λ w. up Refusal.Product (r.size.1 w));
              sums = (λ h. r.sums.0 (down Refusal.Sum (λ z. omega (arith, z)) h), λ w. up Refusal.Sum (r.sums.1 w));
            };
            short = (
              λ h. let q = by-room p t (λ z. omega (arith, z, number-most a b)) (sym s ∙ h) in (v.0 q.0, ltb-true (length old) (length (answer_of first second)) q.1),
              λ w. e ∙ number-short first second (length old) i passed (v.1 w.0) w.1,
            );
          }

    -- and of two
    why-two : one_unit first second ≡ false → (k : ℕ) → k ≡ both_number first second (length old) → Reasons first second (length old) k
    why-two u k e =
        let apart : UnequalUnits a b = λ s. eqb-false (unit_of (form_of first)) (unit_of (form_of second)) u (sym (ap unit_of (form-stated first)) ∙ s ∙ ap unit_of (form-stated second)) in
        let n : k ≡ 14 = e ∙ number-second first second (length old) i Refusal.Unit (second-other first second u ∙ ap (λ (n : ℕ). cond (eqb n 1) 1 14) j) in record {
          refused = subst (Refused a b) (sym n) (refused-units a b apart);
          short = (λ h. absurd (omega (arith, n, h)), λ w. absurd (w.0.0 apart));
        }

    why : (k : ℕ) → k ≡ both_number first second (length old) → Reasons first second (length old) k
    why = go (one_unit first second) refl
      where
        go : (t : Bool) → one_unit first second ≡ t → (k : ℕ) → k ≡ both_number first second (length old) → Reasons first second (length old) k
        go true u = why-one u
        go false u = why-two u

  -- ---- the call
  pub promised : (r : Result ℕ Refusal) (area : List ℕ) → r ≡ both_answer first second (length old) → area ≡ both_over first second old → Promised first second (length old) r area
  unfolding both_number
  promised r area e h = record { made = made r e; why = λ i j. why i j (number_in r) (ap number_in e ∙ number-told (length (answer_of first second)) (both_number first second (length old)) (number-known first second (length old))) }
    where
      made : (r : Result ℕ Refusal) → r ≡ both_answer first second (length old) → IfOk r (λ size. Allowed first second size area)
      made (Ok size) e =
          let n = answer-some (length (answer_of first second)) (both_number first second (length old)) size e in
          made-of n.0 n.1
        where
          made-of : both_number first second (length old) ≡ 0 → size ≡ length (answer_of first second) → Allowed first second size area
          made-of z s =
              let x = first-zero (input_number first) _ z in
              let y = first-zero (second_number first second) _ x.1 in
              let w = first-zero (product_number a b) _ y.1 in
              let over : area ≡ answer_of first second ++ drop (length (answer_of first second)) old = h ∙ sym (over-made (answer_of first second) old (both_number first second (length old)) z) in
              subst (λ (n : ℕ). Allowed first second n area) (sym s) (subst (Allowed first second (length (answer_of first second))) (sym over) (allowed x.0 (second-zero first second y.0).0 w.0 _))
      made (Err q) e = tt
