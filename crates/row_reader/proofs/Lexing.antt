-- Rows and fields by the runs that the code counts. Assumes nothing.
use mathlib.Core.Path.{◌≡◌, refl, sym, ap, ◌∙◌}
use mathlib.Core.Bool.{Bool, true, false, not, cond}
use mathlib.Core.List.{List, [], ◌∷◌}
use Prim.Native.Nat.{ℕ, suc, ◌<◌}
use native.Mathlib.Omega.{arith}
use lib.ListN.{length, take, drop}
use Rattle.text_rows.specs.Fields.{is_newline, is_blank, onto_first, rows_of, goes_on, fields_of}
use Rattle.row_reader.specs.Runs.{run_of, not_newline, not_blank}

-- ---- the first row is the run before a newline, and the others are those behind it
pub rows_run : (xs : List ℕ) → run_of not_newline xs < length xs → rows_of xs ≡ take (run_of not_newline xs) xs ∷ rows_of (drop (suc (run_of not_newline xs)) xs)
unfolding rows_of run_of
rows_run [] h = absurd (omega arith)
rows_run (c ∷ cs) h = go (is_newline c) h (rows_run cs)
  where
    go : (b : Bool) → cond (not b) (suc (run_of not_newline cs)) 0 < suc (length cs)
        → (run_of not_newline cs < length cs → rows_of cs ≡ take (run_of not_newline cs) cs ∷ rows_of (drop (suc (run_of not_newline cs)) cs))
        → cond b ([] ∷ rows_of cs) (onto_first c (rows_of cs)) ≡ take (cond (not b) (suc (run_of not_newline cs)) 0) (c ∷ cs) ∷ rows_of (drop (suc (cond (not b) (suc (run_of not_newline cs)) 0)) (c ∷ cs))
    go true h later = refl
    go false h later = ap (onto_first c) (later (omega arith))

-- ---- blanks before fields change nothing
pub fields-past : (xs : List ℕ) → fields_of (drop (run_of is_blank xs) xs) ≡ fields_of xs
unfolding fields_of run_of
fields-past [] = refl
fields-past (c ∷ cs) = go (is_blank c) refl (fields-past cs)
  where
    go : (b : Bool) → is_blank c ≡ b → fields_of (drop (run_of is_blank cs) cs) ≡ fields_of cs → fields_of (drop (cond (is_blank c) (suc (run_of is_blank cs)) 0) (c ∷ cs)) ≡ fields_of (c ∷ cs)
    go true e later =
        ap (λ (b : Bool). fields_of (drop (cond b (suc (run_of is_blank cs)) 0) (c ∷ cs))) e ∙ later
        ∙ sym (ap (λ (b : Bool). cond b (fields_of cs) (cond (goes_on cs) (onto_first c (fields_of cs)) ((c ∷ []) ∷ fields_of cs))) e)
    go false e later = ap (λ (b : Bool). fields_of (drop (cond b (suc (run_of is_blank cs)) 0) (c ∷ cs))) e

-- ---- where a field begins it is the run, and the other fields are those behind it
none-on : (xs : List ℕ) → goes_on xs ≡ false → run_of not_blank xs ≡ 0
unfolding run_of
none-on [] e = refl
none-on (c ∷ cs) e = ap (λ (b : Bool). cond b (suc (run_of not_blank cs)) 0) e

pub fields-run : (xs : List ℕ) → goes_on xs ≡ true → fields_of xs ≡ take (run_of not_blank xs) xs ∷ fields_of (drop (run_of not_blank xs) xs)
unfolding fields_of run_of
fields-run [] e = absurd (cc)
fields-run (c ∷ cs) e = first (is_blank c) e (on (goes_on cs) refl (fields-run cs))
  where
    on : (b : Bool) → goes_on cs ≡ b → (goes_on cs ≡ true → fields_of cs ≡ take (run_of not_blank cs) cs ∷ fields_of (drop (run_of not_blank cs) cs))
        → cond (goes_on cs) (onto_first c (fields_of cs)) ((c ∷ []) ∷ fields_of cs) ≡ (c ∷ take (run_of not_blank cs) cs) ∷ fields_of (drop (run_of not_blank cs) cs)
    on true q later = ap (λ (b : Bool). cond b (onto_first c (fields_of cs)) ((c ∷ []) ∷ fields_of cs)) q ∙ ap (onto_first c) (later q)
    on false q later =
        ap (λ (b : Bool). cond b (onto_first c (fields_of cs)) ((c ∷ []) ∷ fields_of cs)) q
        ∙ sym (ap (λ (k : ℕ). (c ∷ take k cs) ∷ fields_of (drop k cs)) (none-on cs q))

    first : (b : Bool) → not b ≡ true → cond (goes_on cs) (onto_first c (fields_of cs)) ((c ∷ []) ∷ fields_of cs) ≡ (c ∷ take (run_of not_blank cs) cs) ∷ fields_of (drop (run_of not_blank cs) cs)
        → cond b (fields_of cs) (cond (goes_on cs) (onto_first c (fields_of cs)) ((c ∷ []) ∷ fields_of cs)) ≡ take (cond (not b) (suc (run_of not_blank cs)) 0) (c ∷ cs) ∷ fields_of (drop (cond (not b) (suc (run_of not_blank cs)) 0) (c ∷ cs))
    first true q l = absurd (cc)
    first false q l = l
