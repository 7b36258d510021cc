-- The way through the machine of a result, state by state of the code. Assumes nothing.
use mathlib.Core.Path.{◌≡◌, refl, sym, ap, ◌∙◌}
use mathlib.Core.Bool.{Bool, true, false, ◌&&◌, cond, and-false}
use mathlib.Core.Option.{Option, none, some}
use mathlib.Core.List.{List, [], ◌∷◌, ◌++◌}
use Prim.Native.Nat.{ℕ, zero, suc, ◌+◌, ◌≤◌, ◌<◌}
use native.Mathlib.Omega.{arith}
use Rattle.std.specs.Prelude.{Some, None}
use lib.Dec.{eqb, leb, ltb}
use lib.ListN.{length, take, drop}
use lib.Seq.{sets, sets-eq, take-append_seam}
use borrow.Author.Tests.{le-leb, lt-leb, lt-ltb, le-ltb, eq-eqb, ne_eqb, ltb-true}
use Rattle.sheet.specs.Sheet.{no_start}
use Rattle.sheet.specs.declared.form.Form.{Form}
use Rattle.sheet.proofs.Apart.{both}
use Rattle.sheet.proofs.Bytes.{sets-append}
use Rattle.read_back.specs.Way.{next_at, number_told, told_by, told, told_before, number_at, only_link, falls, way_from}
use Rattle.read_back.specs.Answers.{run_in}

-- ---- a number that is told
pub number-none : (number : ℕ) → number ≡ no_start → number_told number ≡ None
number-none number e = ap (λ (b : Bool). cond b None (Some number)) (eq-eqb number no_start e)

pub number-some : (number : ℕ) → (number ≡ no_start → ⊥) → number_told number ≡ Some number
number-some number e = ap (λ (b : Bool). cond b None (Some number)) (ne_eqb number no_start e)

pub told_none : (number : ℕ) → number ≡ no_start → told number ≡ []
told_none number e = ap told_by (number-none number e)

pub told-some : (number : ℕ) → (number ≡ no_start → ⊥) → told number ≡ number ∷ []
told-some number e = ap told_by (number-some number e)

-- ---- stores
-- numbers stored behind others
pub stored-all : (run whole new : List ℕ) (i j : ℕ) (xs way rest : List ℕ) → way ≡ xs ++ rest → new ≡ sets run i xs → j ≡ i + length xs → sets run i way ≡ whole → sets new j rest ≡ whole
stored-all run whole new i j xs way rest e n k w = (λ a. sets (n a) (k a) rest) ∙ sym (sets-append run i xs rest) ∙ ap (sets run i) (sym e) ∙ w

-- what is stored at the front is read there again
pub stored-front : (run way : List ℕ) → length way ≤ length run → take (length way) (sets run 0 way) ≡ way
stored-front run way h = ap (take (length way)) (sets-eq way run 0 (omega arith)) ∙ take-append_seam way (drop (0 + length way) run)

-- ---- from state to state
module _ (form : Form) (result : List ℕ) (nodes links before last : ℕ) where
  abbrev only : ℕ → ℕ
  only q = only_link result nodes links before last q

  abbrev way : ℕ → ℕ → Option (List ℕ)
  way k q = way_from form result nodes links before last k q

  abbrev ended : ℕ → Option (List ℕ)
  ended q = cond (eqb q last) (some []) none

  abbrev on : ℕ → ℕ → Option (List ℕ)
  on k q = told_before (number_at form result nodes links (only q)) (way k (next_at result (only q)))

  -- at the last state, and below it
  pub way_end : (k q : ℕ) → q ≤ last → way_from form result nodes links before last k q ≡ cond (eqb q last) (some []) none
  unfolding way_from
  way_end zero q h = refl
  way_end (suc k) q h = ap (λ (b : Bool). cond b (ended q) (cond (falls result nodes links before last q) (on k q) none)) (le-leb q last h)

  -- by the tests of the code
  pub falls-past : (q : ℕ) → nodes ≤ q → false ≡ falls result nodes links before last q
  falls-past q h = sym (ap (λ (b : Bool). b && ltb (only q) links && ltb (next_at result (only q)) q) (le-ltb q nodes h))

  pub falls-off : (q : ℕ) → links ≤ only_link result nodes links before last q → false ≡ falls result nodes links before last q
  falls-off q h = sym (ap (λ (b : Bool). ltb q nodes && b && ltb (next_at result (only q)) q) (le-ltb (only q) links h) ∙ ap (λ (b : Bool). b && ltb (next_at result (only q)) q) (and-false (ltb q nodes)))

  pub falls-by : (q next : ℕ) → q < nodes → only_link result nodes links before last q < links → next ≡ next_at result (only_link result nodes links before last q) → ltb next q ≡ falls result nodes links before last q
  falls-by q next h k e = ap (λ (u : ℕ). ltb u q) e ∙ λ i. sym (lt-ltb q nodes h) i && sym (lt-ltb (only q) links k) i && ltb (next_at result (only q)) q

  pub falls-lower : (q : ℕ) → falls result nodes links before last q ≡ true → (q < nodes) × (only q < links) × (next_at result (only q) < q)
  falls-lower q e =
      let a = both (ltb q nodes && ltb (only q) links) (ltb (next_at result (only q)) q) e in
      let b = both (ltb q nodes) (ltb (only q) links) a.0 in
      (ltb-true q nodes b.0, ltb-true (only q) links b.1, ltb-true (next_at result (only q)) q a.1)

  -- more steps change nothing
  way-more : (j k q : ℕ) → q ≤ j → q ≤ k → way j q ≡ way k q
  unfolding way_from
  way-more zero k q a b = way-zero k q a
    where
      way-zero : (k q : ℕ) → q ≤ 0 → way zero q ≡ way k q
      way-zero k q h = way_end zero q (omega arith) ∙ sym (way_end k q (omega arith))
  way-more (suc j) zero q a b = way_end (suc j) q (omega arith) ∙ sym (way_end zero q (omega arith))
  way-more (suc j) (suc k) q a b = go (falls result nodes links before last q) refl (λ u p r. way-more j k u p r)
    where
      go : (c : Bool) → falls result nodes links before last q ≡ c → ((u : ℕ) → u ≤ j → u ≤ k → way j u ≡ way k u)
          → cond (leb q last) (ended q) (cond c (on j q) none) ≡ cond (leb q last) (ended q) (cond c (on k q) none)
      go true e ih =
          let l = falls-lower q e in
          ap (λ (o : Option (List ℕ)). cond (leb q last) (ended q) (told_before (number_at form result nodes links (only q)) o)) (ih (next_at result (only q)) (omega (arith, l.2)) (omega (arith, l.2)))
      go false e ih = refl

  -- along a state's only link, and where it has none
  pub way_next : (q : ℕ) → last < q → falls result nodes links before last q ≡ true
      → way_from form result nodes links before last nodes q ≡ told_before (number_at form result nodes links (only_link result nodes links before last q)) (way_from form result nodes links before last nodes (next_at result (only_link result nodes links before last q)))
  unfolding way_from
  way_next q h e = go nodes (omega (arith, (falls-lower q e).0))
    where
      go : (k : ℕ) → q ≤ k → way k q ≡ told_before (number_at form result nodes links (only q)) (way nodes (next_at result (only q)))
      go zero b = absurd (omega arith)
      go (suc k) b =
          let l = falls-lower q e in
          ap (λ (c : Bool). cond c (ended q) (cond (falls result nodes links before last q) (on k q) none)) (lt-leb q last h)
          ∙ ap (λ (c : Bool). cond c (on k q) none) e
          ∙ ap (told_before (number_at form result nodes links (only q))) (way-more k nodes (next_at result (only q)) (omega (arith, l.2)) (omega (arith, l.2, l.0)))

  pub way-none : (q : ℕ) → last < q → falls result nodes links before last q ≡ false → way_from form result nodes links before last nodes q ≡ none
  unfolding way_from
  way-none q h e = go nodes
    where
      go : (k : ℕ) → way k q ≡ none
      go zero = ap (λ (b : Bool). cond b (some []) none) (ne_eqb q last (λ z. omega (arith, z)))
      go (suc k) =
          ap (λ (c : Bool). cond c (ended q) (cond (falls result nodes links before last q) (on k q) none)) (lt-leb q last h)
          ∙ ap (λ (c : Bool). cond c (on k q) none) e

  -- ---- a way that there is
  -- a state above the last falls, and its way is its number and the way from there
  pub record Goes (q : ℕ) (rest : List ℕ) : Type 0 where
    pub lower : (q < nodes) × (only_link result nodes links before last q < links) × (next_at result (only_link result nodes links before last q) < q)
    pub from : way_from form result nodes links before last nodes (next_at result (only_link result nodes links before last q)) ≡ some (run_in (way_from form result nodes links before last nodes (next_at result (only_link result nodes links before last q))))
    pub is : rest ≡ told (number_at form result nodes links (only_link result nodes links before last q)) ++ run_in (way_from form result nodes links before last nodes (next_at result (only_link result nodes links before last q)))

  pub way-goes : (q : ℕ) (rest : List ℕ) → last < q → way_from form result nodes links before last nodes q ≡ some rest → Goes q rest
  way-goes q rest h e = go (falls result nodes links before last q) refl
    where
      there : (o : Option (List ℕ)) → told_before (number_at form result nodes links (only q)) o ≡ some rest → (o ≡ some (run_in o)) × (rest ≡ told (number_at form result nodes links (only q)) ++ run_in o)
      there none z = let y : ◌≡◌ {A = ℕ} 0 1 = cc in absurd (omega arith)
      there (some r) z = let y : told (number_at form result nodes links (only q)) ++ r ≡ rest = cc in (refl, sym y)

      go : (c : Bool) → falls result nodes links before last q ≡ c → Goes q rest
      go true f = let t = there (way nodes (next_at result (only q))) (sym (way_next q h f) ∙ e) in record { lower = falls-lower q f; from = t.0; is = t.1 }
      go false f = let z : none ≡ some rest = sym (way-none q h f) ∙ e in let y : ◌≡◌ {A = ℕ} 0 1 = cc in absurd (omega arith)

  -- at the last state nothing is left
  pub way-over : (q : ℕ) (rest : List ℕ) → q ≤ last → way_from form result nodes links before last nodes q ≡ some rest → rest ≡ []
  way-over q rest h e = go (eqb q last) (sym (way_end nodes q h) ∙ e)
    where
      go : (b : Bool) → cond b (some []) none ≡ some rest → rest ≡ []
      go true z = let y : [] ≡ rest = cc in sym y
      go false z = let y : ◌≡◌ {A = ℕ} 0 1 = cc in absurd (omega arith)
