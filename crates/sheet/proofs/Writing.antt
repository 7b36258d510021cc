-- What writing answers and leaves, by the tests that the code makes. Assumes nothing.
use mathlib.Core.Path.{◌≡◌, refl, sym, ap, ◌∙◌, subst}
use mathlib.Core.Bool.{Bool, true, false, not, ◌&&◌, cond}
use mathlib.Core.List.{List, ◌∷◌, ◌++◌}
use Prim.Native.Nat.{ℕ, ◌+◌, ◌*◌, ◌%◌, ◌^◌, ◌≤◌, ◌<◌}
use native.Mathlib.Nat.{zero-add}
use native.Mathlib.Omega.{arith}
use lib.Dec.{T, ltb, eqb, eqb→eq, ltb→lt}
use lib.ListN.{length, drop, length-append}
use lib.Seq.{sets, sets-eq}
use lib.Ieee.Fits.{and_l, and_r}
use Rattle.std.specs.Prelude.{Result, Ok, Err}
use Rattle.sheet.specs.declared.form.Form.{Form}
use Rattle.sheet.specs.declared.refusal.Refusal.{Refusal}
use Rattle.sheet.specs.declared.tests.NodeTests.{NodeTests}
use Rattle.sheet.specs.declared.tests.LinkTests.{LinkTests}
use Rattle.sheet.specs.Words.{bytes_of_all}
use Rattle.sheet.specs.Sheet.{link_length, Parts, link_count, node_count, count, mark, final_bits, link_bits, next, records_fit, verdict, write_number, sheet_of, sheet_length, trailer_of, trailer_length, unit_fields, unit_of}
use Rattle.sheet.specs.Tests.{node_tests, link_tests, judged}
use Rattle.sheet.specs.Refusals.{number_of}
use Rattle.sheet.specs.Answers.{written, written_over, ReadBack}
use Rattle.sheet.proofs.Apart.{not-zero}
use Rattle.sheet.proofs.Refusals.{answer-ok, answer-err, number-positive}
use Rattle.sheet.proofs.Bytes.{sets-append, bytes_of_all-append, length-bytes_of_all}
use Rattle.sheet.proofs.Fields.{Fields, verdict-judged}

-- ---- links, nodes and trailer stored one after the other are the sheet
pub sheet-stores : (l links nodes trailer : List ℕ)
    → sets (sets (sets l 0 (bytes_of_all links)) (4 * length links) (bytes_of_all nodes)) (4 * length links + 4 * length nodes) (bytes_of_all trailer) ≡ sets l 0 (bytes_of_all (links ++ nodes ++ trailer))
sheet-stores l links nodes trailer =
    let A = bytes_of_all links in
    let B = bytes_of_all nodes in
    let C = bytes_of_all trailer in
    let a : 4 * length links ≡ 0 + length A = sym (length-bytes_of_all links) ∙ sym (zero-add (length A)) in
    let b : 4 * length links + 4 * length nodes ≡ 0 + length (A ++ B) = omega (arith, length-append A B, length-bytes_of_all links, length-bytes_of_all nodes) in
    ap (λ (k : ℕ). sets (sets (sets l 0 A) k B) (4 * length links + 4 * length nodes) C) a
    ∙ ap (λ (m : List ℕ). sets m (4 * length links + 4 * length nodes) C) (sym (sets-append l 0 A B))
    ∙ ap (λ (k : ℕ). sets (sets l 0 (A ++ B)) k C) b
    ∙ sym (sets-append l 0 (A ++ B) C)
    ∙ ap (λ (m : List ℕ). sets l 0 m) (ap (λ (m : List ℕ). m ++ C) (sym (bytes_of_all-append links nodes)) ∙ sym (bytes_of_all-append (links ++ nodes) trailer))

-- ---- the number
module _ (p : Parts) where
  -- what the test of records says
  pub records : records_fit p ≡ true → (length p.links % 4 ≡ 0) × (length p.nodes % 3 ≡ 0) × (node_count p < 2 ^ 32) × (link_length * link_count p < 2 ^ 32)
  records e =
      let a = eqb (length p.links % 4) 0 in
      let b = eqb (length p.nodes % 3) 0 in
      let c = ltb (node_count p) (2 ^ 32) in
      let d = ltb (link_length * link_count p) (2 ^ 32) in
      let t : T (a && b && c && d) = subst T (sym e) tt in
      let abc = and_l (a && b && c) d t in
      let ab = and_l (a && b) c abc in
      (eqb→eq (length p.links % 4) 0 (and_l a b ab), eqb→eq (length p.nodes % 3) 0 (and_r a b ab), ltb→lt (node_count p) (2 ^ 32) (and_r (a && b) c abc), ltb→lt (link_length * link_count p) (2 ^ 32) (and_r (a && b && c) d t))

  pub trailer-size : 4 * length (trailer_of p) ≡ trailer_length p.form
  trailer-size = go p.form
    where
      go : (f : Form) → 4 * length (0 ∷ link_length * link_count p ∷ node_count p ∷ link_count p ∷ p.start ∷ unit_fields f) ≡ trailer_length f
      go Form.Short = refl
      go (Form.Long u) = refl

  pub length-sheet : records_fit p ≡ true → length (sheet_of p) ≡ sheet_length p
  unfolding sheet_of
  length-sheet e =
      let r = records e in
      omega (arith, length-bytes_of_all (p.links ++ p.nodes ++ trailer_of p), length-append (p.links ++ p.nodes) (trailer_of p), length-append p.links p.nodes, trailer-size)

  own-fields : Fields p (link_count p) (node_count p) (count p) (mark p) (final_bits p) (link_bits p) (next p)
  own-fields = record { links-are = refl; nodes-are = refl; count-is = λ v h. refl; mark-is = λ v h. refl; final-is = λ v h. refl; bits_is = λ l h. refl; next-is = λ l h. refl }

  pub write-unfit : (room : ℕ) → records_fit p ≡ false → write_number p room ≡ 1
  unfolding write_number verdict
  write-unfit room e = ap (λ (b : Bool). cond (not (eqb (verdict b p) 0)) (verdict b p) (cond (ltb room (sheet_length p)) 21 0)) e

  -- by what the passes over the words find
  pub write-judged : (room : ℕ) → records_fit p ≡ true → (n : NodeTests) (l : LinkTests) (k : ℕ)
      → n ≡ node_tests (unit_of p.form) (node_count p) (count p) (mark p) (final_bits p)
      → l ≡ link_tests (unit_of p.form) (link_count p) (node_count p) (link_bits p) (next p)
      → k ≡ judged n l (link_count p) (node_count p) p.start p.form
      → write_number p room ≡ cond (not (eqb k 0)) k (cond (ltb room (sheet_length p)) 21 0)
  unfolding write_number
  write-judged room e n l k nodes links number =
      ap (λ (b : Bool). cond (not (eqb (verdict b p) 0)) (verdict b p) (cond (ltb room (sheet_length p)) 21 0)) e
      ∙ ap (λ (x : ℕ). cond (not (eqb x 0)) x (cond (ltb room (sheet_length p)) 21 0)) (verdict-judged p (link_count p) (node_count p) (count p) (mark p) (final_bits p) (link_bits p) (next p) own-fields ∙ sym (number ∙ λ i. judged (nodes i) (links i) (link_count p) (node_count p) p.start p.form))

  -- ---- the answer, by the number
  pub refused : (old : List ℕ) (r : Refusal) → write_number p (length old) ≡ number_of r
      → (Err r ≡ written p (length old)) × ((old ≡ written_over p old) × ((size : ℕ) → ◌≡◌ {A = Result ℕ Refusal} (Err r) (Ok size) → ReadBack p size old))
  refused old r e = (
    sym (answer-err (sheet_length p) (write_number p (length old)) r e),
    (sym (not-zero (write_number p (length old)) _ old (λ z. number-positive r (sym e ∙ z))), λ size z. let no : ◌≡◌ {A = ℕ} 0 1 = cc in absurd (omega arith)),
  )

  pub stored : (old : List ℕ) → length (sheet_of p) ≡ sheet_length p → sheet_length p ≤ length old → write_number p (length old) ≡ 0
      → (Ok (sheet_length p) ≡ written p (length old)) × (sets old 0 (sheet_of p) ≡ written_over p old)
  stored old s l e = (
    sym (answer-ok (sheet_length p) (write_number p (length old)) e),
    sets-eq (sheet_of p) old 0 (omega arith) ∙ ap (λ (x : ℕ). sheet_of p ++ drop x old) (zero-add (length (sheet_of p)) ∙ s)
        ∙ sym (ap (λ (x : ℕ). cond (eqb x 0) (sheet_of p ++ drop (sheet_length p) old) old) e),
  )
