-- A sheet that has rows has a start, and the shorter trailer. The sheet of any rows has rows: number 9 is only for sheets that no text converts to. Assumes nothing.
use mathlib.Core.Path.{◌≡◌, refl, sym, ap, ◌∙◌, subst}
use mathlib.Core.Logic.{◌⊎◌, inl, inr}
use mathlib.Core.Bool.{Bool, true, false, not, ◌&&◌, ◌||◌, cond, false≢true, true≢false}
use Rattle.std.proofs.Common.{Option, None, Some}
use mathlib.Core.List.{List, [], ◌∷◌, ◌++◌, flat_map}
use Prim.Native.Nat.{ℕ, zero, suc, ◌+◌, ◌-◌, ◌*◌, ◌≤◌, ◌<◌}
use native.Mathlib.Omega.{arith}
use lib.Dec.{eqb, ltb}
use lib.ListN.{length, get_or}
use borrow.Author.Tests.{eq-eqb, ne_eqb, eqb-true, eqb-false, lt-ltb, ltb-true, not-true, not-false}
use Rattle.sheet.specs.declared.form.Form.{Form}
use Rattle.sheet.specs.Below.{all_below}
use Rattle.sheet.specs.Sheet.{Parts, link_count, node_count, next, count, mark}
use Rattle.sheet.proofs.Below.{all_below-at}
use Rattle.sheet.proofs.Apart.{both, or-either}
use Rattle.text_rows.specs.Fields.{and_then, is_newline, onto_first, rows_of, ended}
use Rattle.text_rows.specs.Rows.{Row, link, final, highest, first_node, row_of, all_rows, finals_once, read_rows}
use Rattle.text_rows.specs.Convert.{field_of, link_from, count_from, mark_fields, nodes_in, parts_of_rows, or_no_rows}
use Rattle.text_rows.specs.Written.{is_short, has_own, is_led, has_rows}
use Rattle.text_rows.proofs.Segments.{segments}
use Rattle.text_rows.proofs.Filled.{Named, named}
use Rattle.text_rows.proofs.Judged.{Fours, EachLink, fours-segments, fours-rows, well-marked, first-named, links-are, start_is, form-is, long-links, node-count, count-is, mark-is}

module _ (p : Parts) (has : has_rows p ≡ true) where
  -- what is asked, one by one
  asked : (is_short p.form ≡ true) × (ltb p.start (node_count p) ≡ true) × (has_own p p.start ≡ true) × (has_own p (node_count p - 1) || is_led p (node_count p - 1) ≡ true)
  unfolding has_rows
  asked =
      let a = both (is_short p.form && ltb p.start (node_count p) && has_own p p.start) (has_own p (node_count p - 1) || is_led p (node_count p - 1)) has in
      let b = both (is_short p.form && ltb p.start (node_count p)) (has_own p p.start) a.0 in
      let c = both (is_short p.form) (ltb p.start (node_count p)) b.0 in
      (c.0, c.1, b.1, a.1)

  pub start-below : p.start < node_count p
  start-below = ltb-true p.start (node_count p) asked.1

  pub own-start : has_own p p.start ≡ true
  own-start = asked.2

  pub last-there : has_own p (node_count p - 1) || is_led p (node_count p - 1) ≡ true
  last-there = asked.3

  pub form-short : p.form ≡ Form.Short
  form-short = go p.form asked.0
    where
      go : (f : Form) → is_short f ≡ true → f ≡ Form.Short
      go Form.Short e = refl
      go (Form.Long u) e = absurd (false≢true e)

-- ---- from all words of links back to the rows
abbrev Whole : List ℕ → Type 0
Whole xs = Fours (λ c d. Unit {0}) xs

each-whole : (rs : List Row) → EachLink (λ c d. Unit {0}) rs
each-whole [] = tt
each-whole (link s t i o w ∷ rs) = (tt, each-whole rs)
each-whole (final v w ∷ rs) = each-whole rs

whole-rows : (v : ℕ) (rs : List Row) → Whole (flat_map (link_from v) rs)
whole-rows v rs = fours-rows (λ c d. Unit {0}) v rs (each-whole rs)

module _ (P : ℕ → ℕ → Type 0) where
  fours-by : (xs : List ℕ) → Whole xs → ((l : ℕ) → 4 * l + 3 < length xs → P (get_or xs (4 * l + 2) 0) (get_or xs (4 * l + 3) 0)) → Fours P xs
  fours-by [] w h = tt
  fours-by (a ∷ []) w h = absurd w
  fours-by (a ∷ b ∷ []) w h = absurd w
  fours-by (a ∷ b ∷ c ∷ []) w h = absurd w
  fours-by (a ∷ b ∷ c ∷ d ∷ xs) w h = (h 0 (omega arith), fours-by xs w.1 later)
    where
      later : (l : ℕ) → 4 * l + 3 < length xs → P (get_or xs (4 * l + 2) 0) (get_or xs (4 * l + 3) 0)
      later l r =
          let two : 4 * suc l + 2 ≡ suc (suc (suc (suc (4 * l + 2)))) = omega arith in
          let three : 4 * suc l + 3 ≡ suc (suc (suc (suc (4 * l + 3)))) = omega arith in
          subst (λ (k : ℕ). P (get_or (a ∷ b ∷ c ∷ d ∷ xs) k 0) (get_or xs (4 * l + 3) 0)) two
          (subst (λ (k : ℕ). P (get_or (a ∷ b ∷ c ∷ d ∷ xs) (4 * suc l + 2) 0) (get_or (a ∷ b ∷ c ∷ d ∷ xs) k 0)) three (h (suc l) (omega arith)))

  fours-split : (xs ys : List ℕ) → Whole xs → Fours P (xs ++ ys) → Fours P xs × Fours P ys
  fours-split [] ys w h = (tt, h)
  fours-split (a ∷ []) ys w h = absurd w
  fours-split (a ∷ b ∷ []) ys w h = absurd w
  fours-split (a ∷ b ∷ c ∷ []) ys w h = absurd w
  fours-split (a ∷ b ∷ c ∷ d ∷ xs) ys w h = let r = fours-split xs ys w.1 h.1 in ((h.0, r.0), r.1)

  segments-each : (n : ℕ) (f : ℕ → List ℕ) → ((v : ℕ) → Whole (f v)) → Fours P (segments n f) → (v : ℕ) → v < n → Fours P (f v)
  unfolding segments
  segments-each zero f w h v b = absurd (omega arith)
  segments-each (suc n) f w h v b = let r = fours-split (segments n f) (f n) (fours-segments (λ c d. Unit {0}) n f w) h in go r.1 (segments-each n f w r.0 v) (eqb v n) refl
    where
      go : Fours P (f n) → (v < n → Fours P (f v)) → (t : Bool) → eqb v n ≡ t → Fours P (f v)
      go r earlier true e = subst (λ (x : ℕ). Fours P (f x)) (sym (eqb-true v n e)) r
      go r earlier false e = earlier (omega (arith, eqb-false v n e))

  rows-each : (n : ℕ) (rs : List Row) → Named n rs → ((v : ℕ) → v < n → Fours P (flat_map (link_from v) rs)) → EachLink P rs
  unfolding flat_map
  rows-each n [] m h = tt
  rows-each n (link s t i o w ∷ rs) m h = (here (eqb s s) (eq-eqb s s refl) (h s m.0), rows-each n rs m.2 (λ v b. rest v (eqb s v) (h v b)))
    where
      here : (b : Bool) → b ≡ true → Fours P (cond b (i ∷ o ∷ field_of w ∷ t ∷ []) [] ++ flat_map (link_from s) rs) → P (field_of w) t
      here true e f = f.0
      here false e f = absurd (false≢true e)

      rest : (v : ℕ) (b : Bool) → Fours P (cond b (i ∷ o ∷ field_of w ∷ t ∷ []) [] ++ flat_map (link_from v) rs) → Fours P (flat_map (link_from v) rs)
      rest v true f = f.1
      rest v false f = f
  rows-each n (final v w ∷ rs) m h = rows-each n rs m.1 h

-- ---- rows that do not name h
abbrev NoName : ℕ → List Row → Type 0
NoName h [] = Unit {0}
NoName h (link s t i o w ∷ rs) = (s ≡ h → ⊥) × (t ≡ h → ⊥) × NoName h rs
NoName h (final v w ∷ rs) = (v ≡ h → ⊥) × NoName h rs

no_name : (h : ℕ) (rs : List Row) → EachLink (λ c d. d ≡ h → ⊥) rs → count_from h rs ≡ 0 → get_or (mark_fields h rs) 0 0 ≡ 0 → NoName h rs
unfolding count_from mark_fields
no_name h [] l c f = tt
no_name h (link s t i o w ∷ rs) l c f = go (eqb s h) refl c (λ k. no_name h rs l.1 k f)
  where
    go : (b : Bool) → eqb s h ≡ b → cond b 1 0 + count_from h rs ≡ 0 → (count_from h rs ≡ 0 → NoName h rs) → (s ≡ h → ⊥) × (t ≡ h → ⊥) × NoName h rs
    go true e c later = absurd (omega arith)
    go false e c later = (eqb-false s h e, l.0, later (omega arith))
no_name h (final v w ∷ rs) l c f = go (eqb v h) refl f (no_name h rs l (omega arith))
  where
    go : (b : Bool) → eqb v h ≡ b → get_or (cond b (1 ∷ field_of w ∷ []) (mark_fields h rs)) 0 0 ≡ 0 → (get_or (mark_fields h rs) 0 0 ≡ 0 → NoName h rs) → (v ≡ h → ⊥) × NoName h rs
    go true e f later = absurd (omega arith)
    go false e f later = (eqb-false v h e, later f)

-- the highest is named
never : (h : ℕ) (rs : List Row) → NoName h rs → 1 ≤ length rs → highest rs ≡ h → ⊥
unfolding highest
never h [] m l e = omega arith
never h (link s t i o w ∷ []) m l e = omega (arith, m.0, m.1)
never h (final v w ∷ []) m l e = omega (arith, m.0)
never h (link s t i o w ∷ r ∷ rs) m l e = never h (r ∷ rs) m.2 (omega arith) (omega (arith, m.0, m.1))
never h (final v w ∷ r ∷ rs) m l e = never h (r ∷ rs) m.1 (omega arith) (omega (arith, m.0))

pub or-false : (a b : Bool) → a || b ≡ false → (a ≡ false) × (b ≡ false)
or-false true b e = absurd (true≢false e)
or-false false b e = (refl, e)

module _ (rs : List Row) (rows : 1 ≤ length rs) where
  abbrev p : Parts
  p = parts_of_rows rs

  abbrev n : ℕ
  n = nodes_in rs

  -- the first row is the start's
  own_first : has_own p (first_node rs) ≡ true
  own_first = (λ i. not (eqb (count-is rs (first_node rs) in-n i) 0) || eqb (mark-is rs (first_node rs) in-n i) 1) ∙ go rs rows
    where
      in-n : first_node rs < n
      in-n = first-named n rs (omega arith) (named rs)

      go : (qs : List Row) → 1 ≤ length qs → not (eqb (count_from (first_node qs) qs) 0) || eqb (get_or (mark_fields (first_node qs) qs) 0 0) 1 ≡ true
      go [] l = absurd (omega arith)
      go (link s t i o w ∷ qs) l = ap (λ (b : Bool). not b || eqb (get_or (mark_fields s (link s t i o w ∷ qs)) 0 0) 1) (ne_eqb (count_from s (link s t i o w ∷ qs)) 0 (λ z. Some z))
        where
          Some : count_from s (link s t i o w ∷ qs) ≡ 0 → ⊥
          Some z = unfold count_from in omega (arith, z, ap {B = ℕ} (λ (b : Bool). cond b 1 0) (eq-eqb s s refl))
      go (final v w ∷ qs) l = at (not (eqb (count_from v (final v w ∷ qs)) 0)) marked
        where
          marked : get_or (mark_fields v (final v w ∷ qs)) 0 0 ≡ 1
          marked = unfold mark_fields in ap (λ (b : Bool). get_or (cond b (1 ∷ field_of w ∷ []) (mark_fields v qs)) 0 0) (eq-eqb v v refl)

          at : (b : Bool) → get_or (mark_fields v (final v w ∷ qs)) 0 0 ≡ 1 → b || eqb (get_or (mark_fields v (final v w ∷ qs)) 0 0) 1 ≡ true
          at true e = refl
          at false e = eq-eqb _ 1 e

  -- the highest node has a link, a mark or a link to it
  last-own : has_own p (highest rs) || is_led p (highest rs) ≡ true
  unfolding is_led
  last-own = go (has_own p (highest rs) || is_led p (highest rs)) refl
    where
      in-n : highest rs < n
      in-n = omega arith

      go : (b : Bool) → has_own p (highest rs) || is_led p (highest rs) ≡ b → b ≡ true
      go true e = refl
      go false e =
          let a = or-false (has_own p (highest rs)) (is_led p (highest rs)) e in
          let o = or-false (not (eqb (count p (highest rs)) 0)) (eqb (mark p (highest rs)) 1) a.0 in
          let none_from : count_from (highest rs) rs ≡ 0 = sym (count-is rs (highest rs) in-n) ∙ eqb-true (count p (highest rs)) 0 (not-false (eqb (count p (highest rs)) 0) o.0) in
          let no-mark : get_or (mark_fields (highest rs) rs) 0 0 ≡ 1 → ⊥ = λ z. eqb-false (mark p (highest rs)) 1 o.1 (mark-is rs (highest rs) in-n ∙ z) in
          absurd (never (highest rs) rs (no_name (highest rs) rs (rows-each (λ c d. d ≡ highest rs → ⊥) n rs (named rs) (segments-each (λ c d. d ≡ highest rs → ⊥) n (λ v. flat_map (link_from v) rs) (λ v. whole-rows v rs) (subst (Fours (λ c d. d ≡ highest rs → ⊥)) (links-are rs) (all a.1)))) none_from (zero-mark no-mark)) rows refl)
        where
          zero-mark : (get_or (mark_fields (highest rs) rs) 0 0 ≡ 1 → ⊥) → get_or (mark_fields (highest rs) rs) 0 0 ≡ 0
          zero-mark z = either (or-either (eqb (get_or (mark_fields (highest rs) rs) 0 0) 1) (eqb (get_or (mark_fields (highest rs) rs) 0 0) 0 && eqb (get_or (mark_fields (highest rs) rs) 1 0) 0) (well-marked (highest rs) rs))
            where
              either : (eqb (get_or (mark_fields (highest rs) rs) 0 0) 1 ≡ true) ⊎ (eqb (get_or (mark_fields (highest rs) rs) 0 0) 0 && eqb (get_or (mark_fields (highest rs) rs) 1 0) 0 ≡ true) → get_or (mark_fields (highest rs) rs) 0 0 ≡ 0
              either (inl q) = absurd (z (eqb-true (get_or (mark_fields (highest rs) rs) 0 0) 1 q))
              either (inr q) = eqb-true (get_or (mark_fields (highest rs) rs) 0 0) 0 (both (eqb (get_or (mark_fields (highest rs) rs) 0 0) 0) (eqb (get_or (mark_fields (highest rs) rs) 1 0) 0) q).0

          all : is_led p (highest rs) ≡ false → Fours (λ c d. d ≡ highest rs → ⊥) p.links
          all q =
              fours-by (λ c d. d ≡ highest rs → ⊥) p.links (subst Whole (sym (links-are rs)) (fours-segments (λ c d. Unit {0}) n (λ v. flat_map (link_from v) rs) (λ v. whole-rows v rs)))
              (λ l b. eqb-false (next p l) (highest rs) (not-true (eqb (next p l) (highest rs)) (all_below-at (link_count p) (λ l. not (eqb (next p l) (highest rs))) (not-false (all_below (link_count p) (λ l. not (eqb (next p l) (highest rs)))) q) l (omega (arith, long-links rs)))))

  -- The sheet of rows has rows.
  pub has-rows : has_rows p ≡ true
  unfolding has_rows
  has-rows =
      let last : node_count p - 1 ≡ highest rs = omega (arith, node-count rs) in
      λ i. is_short (form-is rs i) && lt-ltb p.start (node_count p) (omega (arith, node-count rs, start_is rs, first-named n rs (omega arith) (named rs))) i
      && (ap (λ (v : ℕ). has_own p v) (start_is rs) ∙ own_first) i && (ap (λ (v : ℕ). has_own p v || is_led p v) last ∙ last-own) i

-- ---- of texts: one that is read has a row
some-row : (text : List ℕ) → ended text ≡ true → 1 ≤ length (rows_of text)
unfolding ended rows_of
some-row [] e = absurd (false≢true e)
some-row (c ∷ cs) e = go (is_newline c) (rows_of cs)
  where
    go : (b : Bool) (R : List (List ℕ)) → 1 ≤ length (cond b ([] ∷ R) (onto_first c R))
    go true R = omega arith
    go false [] = omega arith
    go false (x ∷ R) = omega arith

unfoldable told : Option (List Row) → ℕ
told None = 0
told (Some x) = 1

none-some : (rs : List Row) → None ≡ Some rs → ⊥
unfolding told
none-some rs e = omega (arith, ap told e)

rows-some : (xs : List (List ℕ)) (rs : List Row) → 1 ≤ length xs → all_rows xs ≡ Some rs → 1 ≤ length rs
unfolding all_rows
rows-some [] rs l e = absurd (omega arith)
rows-some (x ∷ xs) rs l e = go (row_of x) (all_rows xs) e
  where
    go : (a : Option Row) (b : Option (List Row)) → and_then a (λ r. and_then b (λ rs. Some (r ∷ rs))) ≡ Some rs → 1 ≤ length rs
    go None b e = absurd (none-some rs e)
    go (Some r) None e = absurd (none-some rs e)
    go (Some r) (Some qs) e = omega (arith, ap (λ (o : Option (List Row)). length (or_no_rows o)) e)

read_some : (text : List ℕ) (rs : List Row) → read_rows text ≡ Some rs → 1 ≤ length rs
unfolding read_rows
read_some text rs e = go (ended text) refl (all_rows (rows_of text)) refl e
  where
    go : (b : Bool) → ended text ≡ b → (o : Option (List Row)) → all_rows (rows_of text) ≡ o → cond b (and_then o (λ qs. cond (finals_once qs) (Some qs) None)) None ≡ Some rs → 1 ≤ length rs
    go false q o r e = absurd (none-some rs e)
    go true q None r e = absurd (none-some rs e)
    go true q (Some qs) r e = once (finals_once qs) e
      where
        once : (c : Bool) → cond c (Some qs) None ≡ Some rs → 1 ≤ length rs
        once false e = absurd (none-some rs e)
        once true e = omega (arith, rows-some (rows_of text) qs (some-row text q) r, ap (λ (o : Option (List Row)). length (or_no_rows o)) e)

-- What a text says has rows again.
pub text-has-rows : (text : List ℕ) (rs : List Row) → read_rows text ≡ Some rs → has_rows (parts_of_rows rs) ≡ true
text-has-rows text rs e = has-rows rs (read_some text rs e)
