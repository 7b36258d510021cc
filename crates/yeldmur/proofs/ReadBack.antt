-- What reading a list back tells by numbers. Assumes nothing.
use mathlib.Core.Path.{◌≡◌, refl, sym, ap, ◌∙◌, subst}
use mathlib.Core.List.{List, []}
use Prim.Native.Nat.{ℕ}
use lib.IntN.{ℤ}
use lib.ListN.{length, get_or, take}
use Rattle.tropical_weight.specs.Tropical.{fin}
use Rattle.sheet.specs.Machine.{Machine, machine}
use Rattle.machine.specs.Readings.{reading_of, reading_cost}
use Rattle.search.specs.Listed.{list_of}
use Rattle.std.specs.Prelude.{Result, Ok, Err}
use Rattle.sheet.specs.declared.form.Form.TheVariants as Form
use Rattle.sheet.specs.declared.refusal.Refusal.{Refusal}
use Rattle.sheet.specs.Refusals.{answer, number_in}
use Rattle.sheet.proofs.Refusals.{number-told, number-positive}
use Rattle.read_back.specs.declared.reading.Told.{Told}
use Rattle.read_back.specs.Way.{count_in}
use Rattle.read_back.specs.Answers.{count_number, count_answer, held_reading, reading_number, reading_told, run_in, reading_answer, run_after}
use Rattle.read_back.specs.Promise.{CountsList, ReadsList, IsTrue, TellsTrue}
use Rattle.read_back.proofs.Ways.{stored-front}
use Rattle.yeldmur.proofs.Telling.{count-known, reading-known, value-number}
use Rattle.yeldmur.specs.Told.{value_told, told_reading, CountTold, ReadingTold}

-- ---- how many readings
module _ (result : List ℕ) (n states links : ℕ) where
  pub counted-all : (told : Result ℕ Refusal) (r count old : ℕ) → told ≡ count_answer result n states links → CountsList result n states links told → (r, count) ≡ value_told told old
      → (r ≡ count_number Form.Short result n states links) × (((r, count) ≡ value_told (count_answer result n states links) old) × CountTold result n states links r count)
  counted-all told r count old is list e =
      let whole = e ∙ ap (λ (t : Result ℕ Refusal). value_told t old) is in (
        value-number (count_in result states links n) (count_number Form.Short result n states links) old (count-known Form.Short result n states links) whole,
        (whole, λ sheet below h. let z = e ∙ ap (λ (t : Result ℕ Refusal). value_told t old) (list sheet below h) in (ap (λ (x : ℕ × ℕ). x.0) z, ap (λ (x : ℕ × ℕ). x.1) z)),
      )

-- ---- one of them
-- first the number
reading-first : (a : Result Told Refusal) (count : ℕ) (cost : ℤ) (end : ℕ) → (told_reading a count cost end).0 ≡ number_in a
reading-first (Ok told) count cost end = refl
reading-first (Err r) count cost end = refl

-- what is told is true, where it is no refusal
told-true : (m : Machine) (told : Result Told Refusal) (run : List ℕ) → TellsTrue m told run → (r count : ℕ) (cost : ℤ) (end c : ℕ) (z : ℤ) (v : ℕ)
    → (r, count, cost, end) ≡ told_reading told c z v → r ≡ 0 → IsTrue m count cost end run
told-true m (Ok told) run t r count cost end c z v e q =
    subst (λ (x : ℕ × ℕ × ℤ × ℕ). IsTrue m x.1 x.2 x.3 run) (sym e) t
told-true m (Err j) run t r count cost end c z v e q = absurd (number-positive j (sym (ap (λ (x : ℕ × ℕ × ℤ × ℕ). x.0) e) ∙ q))

module _ (sheet : List ℕ) (n : ℕ) (result : List ℕ) (states links k : ℕ) (old : List ℕ) (told : Result Told Refusal) (run : List ℕ) (reads : ReadsList sheet n result states links k old told run) (true_of : TellsTrue (machine sheet) told run) where
  abbrev m : Machine
  m = machine sheet

  -- of the list's own result
  listed : (r count : ℕ) (cost : ℤ) (end c : ℕ) (z : ℤ) (v : ℕ) → (r, count, cost, end) ≡ told_reading told c z v → ReadingTold sheet n result states links k old r count cost end run
  listed r count cost end c z v e h b room =
      let way = get_or (list_of m.form n states links result) k [] in
      let t = reads h b room in
      let x = e ∙ ap (λ (t : Result Told Refusal). told_reading t c z v) t.0 in
      let front = ap (take (length way)) t.1 ∙ stored-front old way room in
      let costs = (subst (λ (t : Result Told Refusal). TellsTrue m t run) t.0 true_of).costs in
      record {
        done = ap (λ (y : ℕ × ℕ × ℤ × ℕ). y.0) x;
        counts = ap (λ (y : ℕ × ℕ × ℤ × ℕ). y.1) x;
        costs = ap fin (ap (λ (y : ℕ × ℕ × ℤ × ℕ). y.2) x) ∙ costs ∙ ap (λ (r : List ℕ). reading_cost m (reading_of m r)) front;
        ends = ap (λ (y : ℕ × ℕ × ℤ × ℕ). y.3) x;
        stored = t.1;
      }

  pub reading-all : (r count : ℕ) (cost : ℤ) (end c : ℕ) (z : ℤ) (v : ℕ) → told ≡ reading_answer sheet n result states links k (length old) → run ≡ run_after sheet n result states links k old → (r, count, cost, end) ≡ told_reading told c z v
      → (r ≡ reading_number sheet n result states links k (length old))
      × (((r, count, cost, end) ≡ told_reading (reading_answer sheet n result states links k (length old)) c z v)
      × ((run ≡ run_after sheet n result states links k old)
      × ((r ≡ 0 → IsTrue (machine sheet) count cost end run) × ReadingTold sheet n result states links k old r count cost end run)))
  reading-all r count cost end c z v is s e =
      let number = reading_number sheet n result states links k (length old) in
      let answered = reading_told m (run_in (held_reading m result n states links k)) in
      let whole = e ∙ ap (λ (t : Result Told Refusal). told_reading t c z v) is in (
        ap (λ (x : ℕ × ℕ × ℤ × ℕ). x.0) whole ∙ reading-first (answer answered number) c z v ∙ number-told answered number (reading-known sheet n result states links k (length old)),
        (whole, (s, (told-true m told run true_of r count cost end c z v e, listed r count cost end c z v e))),
      )
