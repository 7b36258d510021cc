-- Rows and fields at places: a row's next field, its end, and the rows from there on. Assumes nothing.
use mathlib.Core.Path.{◌≡◌, refl, sym, ap, ◌∙◌}
use mathlib.Core.Bool.{Bool, true, false, not, ◌&&◌, cond}
use Rattle.std.proofs.Common.{Option, None, Some}
use mathlib.Core.List.{List, [], ◌∷◌}
use Prim.Native.Nat.{ℕ, zero, suc, ◌+◌, ◌-◌, ◌≤◌, ◌<◌}
use native.Mathlib.Omega.{arith}
use lib.Dec.{ltb}
use lib.ListN.{length, take, drop, length-take, length-drop, drop_of_length-le}
use lib.Seq.{drop-drop, take-take}
use borrow.Author.Tests.{eqb-true, lt-ltb, ltb-true, ltb-false}
use Rattle.text_rows.specs.Fields.{and_then, is_newline, is_blank, rows_of, ended, goes_on, fields_of}
use Rattle.text_rows.specs.Rows.{Row, row_of, all_rows, finals_once, read_rows}
use Rattle.row_reader.specs.Runs.{run_of, in_field, not_newline, not_blank}
use Rattle.row_reader.specs.Places.{line_of, line_end, row_fields, Spans, finished, rows_left}
use Rattle.row_reader.proofs.Lexing.{rows_run, fields-past, fields-run}

-- ---- a run within its list
run_length : (p : ℕ → Bool) (xs : List ℕ) → run_of p xs ≤ length xs
unfolding run_of
run_length p [] = omega arith
run_length p (c ∷ cs) = go (p c) (run_length p cs)
  where
    go : (b : Bool) → run_of p cs ≤ length cs → cond b (suc (run_of p cs)) 0 ≤ suc (length cs)
    go true h = omega arith
    go false h = omega arith

run-after : (p : ℕ → Bool) (xs : List ℕ) → run_of p (drop (run_of p xs) xs) ≡ 0
unfolding run_of
run-after p [] = refl
run-after p (c ∷ cs) = go (p c) refl (run-after p cs)
  where
    go : (b : Bool) → p c ≡ b → run_of p (drop (run_of p cs) cs) ≡ 0 → run_of p (drop (cond b (suc (run_of p cs)) 0) (c ∷ cs)) ≡ 0
    go true e h = h
    go false e h = ap (λ (b : Bool). cond b (suc (run_of p cs)) 0) e

-- ---- a row with its front dropped
line-drop : (k : ℕ) (xs : List ℕ) → k ≤ run_of not_newline xs → (drop k (line_of xs) ≡ line_of (drop k xs)) × (run_of not_newline xs ≡ k + run_of not_newline (drop k xs))
unfolding run_of
line-drop zero xs h = (refl, omega arith)
line-drop (suc k) [] h = absurd (omega arith)
line-drop (suc k) (c ∷ cs) h = go (is_newline c) h (line-drop k cs)
  where
    go : (b : Bool) → suc k ≤ cond (not b) (suc (run_of not_newline cs)) 0
        → (k ≤ run_of not_newline cs → (drop k (line_of cs) ≡ line_of (drop k cs)) × (run_of not_newline cs ≡ k + run_of not_newline (drop k cs)))
        → (drop (suc k) (take (cond (not b) (suc (run_of not_newline cs)) 0) (c ∷ cs)) ≡ line_of (drop k cs)) × (cond (not b) (suc (run_of not_newline cs)) 0 ≡ suc k + run_of not_newline (drop k cs))
    go true h later = absurd (omega arith)
    go false h later = let l = later (omega arith) in (l.0, omega (arith, l.1))

-- ---- runs within a row: p where no newline counts, q in the row
module _ (p q : ℕ → Bool) (same : (c : ℕ) → is_newline c ≡ false → q c ≡ p c) (out : (c : ℕ) → is_newline c ≡ true → p c ≡ false) where
  run-line : (xs : List ℕ) → (run_of q (line_of xs) ≡ run_of p xs) × (run_of p xs ≤ run_of not_newline xs)
  unfolding run_of
  run-line [] = (refl, omega arith)
  run-line (c ∷ cs) = go (is_newline c) refl (run-line cs)
    where
      go : (b : Bool) → is_newline c ≡ b → (run_of q (line_of cs) ≡ run_of p cs) × (run_of p cs ≤ run_of not_newline cs)
          → (run_of q (take (cond (not b) (suc (run_of not_newline cs)) 0) (c ∷ cs)) ≡ cond (p c) (suc (run_of p cs)) 0) × (cond (p c) (suc (run_of p cs)) 0 ≤ cond (not b) (suc (run_of not_newline cs)) 0)
      go true e h = let z = ap (λ (b : Bool). cond b (suc (run_of p cs)) 0) (out c e) in (sym z, omega (arith, z))
      go false e h = ((λ i. cond (same c e i) (suc (h.0 i)) 0), most (p c))
        where
          most : (b : Bool) → cond b (suc (run_of p cs)) 0 ≤ suc (run_of not_newline cs)
          most true = omega (arith, h.1)
          most false = omega arith

blank-out : (c : ℕ) → is_newline c ≡ true → is_blank c ≡ false
blank-out c e = ap is_blank (eqb-true c 10 e)

and-false : (b : Bool) → (b && false) ≡ false
and-false true = refl
and-false false = refl

and-true : (b : Bool) → b ≡ (b && true)
and-true true = refl
and-true false = refl

field_out : (c : ℕ) → is_newline c ≡ true → in_field c ≡ false
field_out c e = ap (λ (b : Bool). not (is_blank c) && not b) e ∙ and-false (not (is_blank c))

field-same : (c : ℕ) → is_newline c ≡ false → not_blank c ≡ in_field c
field-same c e = and-true (not (is_blank c)) ∙ sym (ap (λ (b : Bool). not (is_blank c) && not b) e)

blanks : (xs : List ℕ) → (run_of is_blank (line_of xs) ≡ run_of is_blank xs) × (run_of is_blank xs ≤ run_of not_newline xs)
blanks = run-line is_blank is_blank (λ c e. refl) blank-out

field : (xs : List ℕ) → (run_of not_blank (line_of xs) ≡ run_of in_field xs) × (run_of in_field xs ≤ run_of not_newline xs)
field = run-line in_field not_blank field-same field_out

-- ---- the fields of a row: past its blanks
past : (xs : List ℕ) → fields_of (line_of xs) ≡ fields_of (line_of (drop (run_of is_blank xs) xs))
past xs =
    sym (fields-past (line_of xs))
    ∙ ap (λ (k : ℕ). fields_of (drop k (line_of xs))) (blanks xs).0
    ∙ ap fields_of (line-drop (run_of is_blank xs) xs (blanks xs).1).0

-- a field, and those behind it
on : (zs : List ℕ) → 0 < run_of not_blank zs → goes_on zs ≡ true
unfolding run_of
on [] h = absurd (omega arith)
on (c ∷ cs) h = go (is_blank c) h
  where
    go : (b : Bool) → 0 < cond (not b) (suc (run_of not_blank cs)) 0 → not b ≡ true
    go true h = absurd (omega arith)
    go false h = refl

first : (ys : List ℕ) → 0 < run_of in_field ys → fields_of (line_of ys) ≡ take (run_of in_field ys) ys ∷ fields_of (line_of (drop (run_of in_field ys) ys))
first ys h =
    fields-run (line_of ys) (on (line_of ys) (omega (arith, (field ys).0)))
    ∙ ap (λ (k : ℕ). take k (line_of ys) ∷ fields_of (drop k (line_of ys))) (field ys).0
    ∙ (λ i. take-take (run_of in_field ys) (run_of not_newline ys) ys (field ys).1 i ∷ fields_of ((line-drop (run_of in_field ys) ys (field ys).1).0 i))

-- neither a blank nor a field at the front: nothing
nothing : (zs : List ℕ) → run_of is_blank zs ≡ 0 → run_of not_blank zs ≡ 0 → zs ≡ []
unfolding run_of
nothing [] p q = refl
nothing (c ∷ cs) p q = go (is_blank c) p q
  where
    go : (b : Bool) → cond b (suc (run_of is_blank cs)) 0 ≡ 0 → cond (not b) (suc (run_of not_blank cs)) 0 ≡ 0 → c ∷ cs ≡ []
    go true p q = absurd (omega arith)
    go false p q = absurd (omega arith)

stop : (ys : List ℕ) → run_of is_blank ys ≡ 0 → run_of in_field ys ≡ 0 → (line_of ys ≡ []) × (run_of not_newline ys ≡ 0)
stop ys p q = (empty, omega (arith, length-take (run_of not_newline ys) ys, ap length empty, run_length not_newline ys))
  where
    empty : line_of ys ≡ []
    empty = nothing (line_of ys) ((blanks ys).0 ∙ p) ((field ys).0 ∙ q)

-- ---- at places
module _ (text : List ℕ) (at from to : ℕ) (s : Spans text at from to) where
  there : drop (run_of is_blank (drop at text)) (drop at text) ≡ drop from text
  there = drop-drop (run_of is_blank (drop at text)) at text ∙ ap (λ (k : ℕ). drop k text) (sym s.begins)

  moved : row_fields text at ≡ row_fields text from
  moved = past (drop at text) ∙ ap (λ (l : List ℕ). fields_of (line_of l)) there

  same_end : line_end text at ≡ line_end text from
  same_end =
      let l = (line-drop (run_of is_blank (drop at text)) (drop at text) (blanks (drop at text)).1).1 in
      omega (arith, l, s.begins, ap (run_of not_newline) there)

  -- no field more: the row ends here
  pub none_left : from ≡ to → (row_fields text at ≡ []) × (line_end text at ≡ from)
  unfolding fields_of
  none_left e =
      let z = stop (drop from text) (sym (ap (run_of is_blank) there) ∙ run-after is_blank (drop at text)) (omega (arith, s.ends)) in
      (moved ∙ ap fields_of z.0, omega (arith, same_end, z.1))

  -- a field, and those from its end on
  pub one_more : (from ≡ to → ⊥) → (row_fields text at ≡ take (to - from) (drop from text) ∷ row_fields text to) × (line_end text at ≡ line_end text to)
  one_more ne =
      let w : to - from ≡ run_of in_field (drop from text) = omega (arith, s.ends) in
      let far : drop (run_of in_field (drop from text)) (drop from text) ≡ drop to text =
      drop-drop (run_of in_field (drop from text)) from text ∙ ap (λ (k : ℕ). drop k text) (sym s.ends) in
      let l = (line-drop (run_of in_field (drop from text)) (drop from text) (field (drop from text)).1).1 in (
        moved
            ∙ first (drop from text) (omega (arith, s.ends, s.order, ne))
            ∙ (λ i. take (sym w i) (drop from text) ∷ fields_of (line_of (far i))),
        omega (arith, same_end, l, s.ends, ap (run_of not_newline) far),
      )

-- ---- the rows from a place on
ended-step : (xs : List ℕ) → run_of not_newline xs < length xs → ended xs ≡ finished (drop (suc (run_of not_newline xs)) xs)
unfolding run_of ended
ended-step [] h = absurd (omega arith)
ended-step (c ∷ []) h = go (is_newline c) refl h
  where
    go : (b : Bool) → is_newline c ≡ b → cond (not b) 1 0 < 1 → is_newline c ≡ finished (drop (cond (not b) 1 0) [])
    go true e h = e
    go false e h = absurd (omega arith)
ended-step (c ∷ d ∷ ds) h = go (is_newline c) h (ended-step (d ∷ ds))
  where
    go : (b : Bool) → cond (not b) (suc (run_of not_newline (d ∷ ds))) 0 < suc (length (d ∷ ds))
        → (run_of not_newline (d ∷ ds) < length (d ∷ ds) → ended (d ∷ ds) ≡ finished (drop (suc (run_of not_newline (d ∷ ds))) (d ∷ ds)))
        → ended (d ∷ ds) ≡ finished (drop (cond (not b) (suc (run_of not_newline (d ∷ ds))) 0) (d ∷ ds))
    go true h later = refl
    go false h later = later (omega arith)

ended-none : (xs : List ℕ) → length xs ≤ run_of not_newline xs → ended xs ≡ false
unfolding run_of ended
ended-none [] h = refl
ended-none (c ∷ []) h = go (is_newline c) refl h
  where
    go : (b : Bool) → is_newline c ≡ b → 1 ≤ cond (not b) 1 0 → is_newline c ≡ false
    go true e h = absurd (omega arith)
    go false e h = e
ended-none (c ∷ d ∷ ds) h = go (is_newline c) h (ended-none (d ∷ ds))
  where
    go : (b : Bool) → suc (length (d ∷ ds)) ≤ cond (not b) (suc (run_of not_newline (d ∷ ds))) 0 → (length (d ∷ ds) ≤ run_of not_newline (d ∷ ds) → ended (d ∷ ds) ≡ false) → ended (d ∷ ds) ≡ false
    go true h later = absurd (omega arith)
    go false h later = later (omega arith)

module _ (text : List ℕ) (at : ℕ) (inside : at < length text) where
  -- a row that a newline ends, and the rows behind it
  rows_at : line_end text at < length text → rows_of (drop at text) ≡ line_of (drop at text) ∷ rows_of (drop (line_end text at + 1) text)
  rows_at h =
      rows_run (drop at text) (omega (arith, length-drop at text))
      ∙ ap (λ (l : List ℕ). line_of (drop at text) ∷ rows_of l) (behind h)
    where
      behind : line_end text at < length text → drop (suc (run_of not_newline (drop at text))) (drop at text) ≡ drop (line_end text at + 1) text
      behind h = drop-drop (suc (run_of not_newline (drop at text))) at text ∙ ap (λ (k : ℕ). drop k text) (let z : at + suc (run_of not_newline (drop at text)) ≡ line_end text at + 1 = omega arith in z)

  open_at : finished (drop at text) ≡ ended (drop at text)
  open_at = go (drop at text) (omega (arith, length-drop at text))
    where
      go : (l : List ℕ) → 0 < length l → finished l ≡ ended l
      go [] h = absurd (omega arith)
      go (c ∷ cs) h = refl

  finished-at : line_end text at < length text → finished (drop at text) ≡ finished (drop (line_end text at + 1) text)
  finished-at h =
      open_at
      ∙ ended-step (drop at text) (omega (arith, length-drop at text))
      ∙ ap finished (drop-drop (suc (run_of not_newline (drop at text))) at text ∙ ap (λ (k : ℕ). drop k text) (let z : at + suc (run_of not_newline (drop at text)) ≡ line_end text at + 1 = omega arith in z))

  abbrev stepped : Option (List Row)
  stepped = and_then (row_of (line_of (drop at text))) (λ r. and_then (rows_left text (line_end text at + 1)) (λ rs. Some (r ∷ rs)))

  -- the step of every pass over the rows
  pub rows_step : rows_left text at ≡ cond (ltb (line_end text at) (length text)) stepped None
  unfolding all_rows
  rows_step = go (ltb (line_end text at) (length text)) refl
    where
      both : (b : Bool) (o : Option Row) (rest : Option (List Row))
          → cond b (and_then o (λ r. and_then rest (λ rs. Some (r ∷ rs)))) None ≡ and_then o (λ r. and_then (cond b rest None) (λ rs. Some (r ∷ rs)))
      both true o rest = refl
      both false None rest = refl
      both false (Some r) rest = refl

      go : (b : Bool) → ltb (line_end text at) (length text) ≡ b → rows_left text at ≡ cond b stepped None
      go true e =
          let h = ltb-true (line_end text at) (length text) e in
          (λ i. cond (finished-at h i) (all_rows (rows_at h i)) None)
          ∙ both (finished (drop (line_end text at + 1) text)) (row_of (line_of (drop at text))) (all_rows (rows_of (drop (line_end text at + 1) text)))
      go false e =
          let h = ltb-false (line_end text at) (length text) e in
          ap (λ (b : Bool). cond b (all_rows (rows_of (drop at text))) None) (open_at ∙ ended-none (drop at text) (omega (arith, length-drop at text)))

-- at the text's end there are no rows left
pub rows_end : (text : List ℕ) (at : ℕ) → length text ≤ at → rows_left text at ≡ Some []
unfolding all_rows rows_of
rows_end text at h = ap (λ (l : List ℕ). cond (finished l) (all_rows (rows_of l)) None) (drop_of_length-le text {i = at} h)

-- the rows of a text are those from its beginning on, where it has any
pub rows-begin : (text : List ℕ) → read_rows text ≡ cond (ltb 0 (length text)) (and_then (rows_left text 0) (λ rs. cond (finals_once rs) (Some rs) None)) None
unfolding read_rows ended
rows-begin [] = refl
rows-begin (c ∷ cs) = go (ended (c ∷ cs)) ∙ sym (ap (λ (b : Bool). cond b (and_then (rows_left (c ∷ cs) 0) (λ rs. cond (finals_once rs) (Some rs) None)) None) (lt-ltb 0 (length (c ∷ cs)) (omega arith)))
  where
    go : (b : Bool) → cond b (and_then (all_rows (rows_of (c ∷ cs))) (λ rs. cond (finals_once rs) (Some rs) None)) None ≡ and_then (cond b (all_rows (rows_of (c ∷ cs))) None) (λ rs. cond (finals_once rs) (Some rs) None)
    go true = refl
    go false = refl

-- the rows from the beginning on
pub begins : (text : List ℕ) (rs : List Row) → read_rows text ≡ Some rs → (0 < length text) × (rows_left text 0 ≡ Some rs)
begins text rs e = go (ltb 0 (length text)) refl (rows_left text 0) refl (sym (rows-begin text) ∙ e)
  where
    go : (b : Bool) → ltb 0 (length text) ≡ b → (left : Option (List Row)) → rows_left text 0 ≡ left → cond b (and_then left (λ rs. cond (finals_once rs) (Some rs) None)) None ≡ Some rs → (0 < length text) × (rows_left text 0 ≡ Some rs)
    go false p left q e = absurd (cc)
    go true p None q e = absurd (cc)
    go true p (Some qs) q e = by (finals_once qs) e
      where
        by : (c : Bool) → cond c (Some qs) None ≡ Some rs → (0 < length text) × (rows_left text 0 ≡ Some rs)
        by false e = absurd (cc)
        by true e = (ltb-true 0 (length text) p, q ∙ e)
