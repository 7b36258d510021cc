-- A run at the front of a list is std's longest prefix that passes; a run at a place of it. Assumes nothing.
use mathlib.Core.Path.{◌≡◌, refl, ap, ◌∙◌}
use mathlib.Core.Bool.{Bool, true, false, cond}
use mathlib.Core.List.{List, [], ◌∷◌}
use Prim.Native.Nat.{ℕ, suc, ◌+◌, ◌-◌, ◌≤◌, ◌<◌}
use native.Mathlib.Omega.{arith}
use lib.ListN.{length, get_or, take, drop, length-drop, drop_of_length-le}
use lib.Seq.{take_all, drop-cons}
use Rattle.std.specs.List.{prefix_len}
use Rattle.text_rows.specs.Fields.{is_blank}
use Rattle.row_reader.specs.Runs.{run_of, in_field}
use Rattle.row_reader.specs.Places.{Spans}

-- a part of a slice to its end, as the code takes it
abbrev pub rest_of : ℕ → List ℕ → List ℕ
rest_of k l = take (length l - k) (drop k l)

pub rest-is : (k : ℕ) (l : List ℕ) → rest_of k l ≡ drop k l
rest-is k l = take_all (length l - k) (drop k l) (omega (arith, length-drop k l))

pub run-prefix : (p : ℕ → Bool) (l : List ℕ) → prefix_len p l ≡ run_of p l
unfolding run_of
run-prefix p [] = refl
run-prefix p (c ∷ cs) = go (p c) (run-prefix p cs)
  where
    go : (b : Bool) → prefix_len p cs ≡ run_of p cs → cond b (1 + prefix_len p cs) 0 ≡ cond b (suc (run_of p cs)) 0
    go true e = omega arith
    go false e = refl

pub run-most : (p : ℕ → Bool) (l : List ℕ) → run_of p l ≤ length l
unfolding run_of
run-most p [] = omega arith
run-most p (c ∷ cs) = go (p c) (run-most p cs)
  where
    go : (b : Bool) → run_of p cs ≤ length cs → cond b (suc (run_of p cs)) 0 ≤ suc (length cs)
    go true h = omega arith
    go false h = omega arith

-- a run at a place of a list: one longer where the byte there passes, else at its end
module _ (p : ℕ → Bool) (l : List ℕ) (i : ℕ) where
  run_at : i < length l → run_of p (drop i l) ≡ cond (p (get_or l i 0)) (suc (run_of p (drop (suc i) l))) 0
  unfolding run_of
  run_at h = ap (run_of p) (drop-cons l i 0 h)

  pub run_on : i < length l → p (get_or l i 0) ≡ true → i + run_of p (drop i l) ≡ i + 1 + run_of p (drop (i + 1) l)
  run_on h e =
      let more = run_at h ∙ ap (λ (b : Bool). cond b (suc (run_of p (drop (suc i) l))) 0) e in
      let same : drop (suc i) l ≡ drop (i + 1) l = ap (λ (k : ℕ). drop k l) (let z : suc i ≡ i + 1 = omega arith in z) in
      omega (arith, more, ap (run_of p) same)

  pub run-stops : i < length l → p (get_or l i 0) ≡ false → i + run_of p (drop i l) ≡ i
  run-stops h e = omega (arith, run_at h ∙ ap (λ (b : Bool). cond b (suc (run_of p (drop (suc i) l))) 0) e)

  pub run_ends : length l ≤ i → i + run_of p (drop i l) ≡ i
  unfolding run_of
  run_ends h = omega (arith, ap (run_of p) (drop_of_length-le l h))

-- a run at a place, by std's prefix of what is left
run_left : (p : ℕ → Bool) (text : List ℕ) (at n : ℕ) → n ≡ prefix_len p (rest_of at text) → n ≡ run_of p (drop at text)
run_left p text at n e = e ∙ run-prefix p (rest_of at text) ∙ ap (run_of p) (rest-is at text)

-- the blanks at a place and the field behind them
pub spans : (text : List ℕ) (at b f : ℕ) → at ≤ length text → b ≡ prefix_len is_blank (rest_of at text) → f ≡ prefix_len in_field (rest_of (at + b) text) → Spans text at (at + b) (at + b + f)
spans text at b f h p q =
    let blanks = run_left is_blank text at b p in
    let field = run_left in_field text (at + b) f q in
    record {
      begins = omega arith;
      ends = omega arith;
      order = omega arith;
      within = omega (arith, run-most is_blank (drop at text), run-most in_field (drop (at + b) text), length-drop at text, length-drop (at + b) text);
    }
