-- A walk along a way of a result, state by state. Assumes nothing.
use mathlib.Core.Path.{◌≡◌, sym, ap, ◌∙◌}
use mathlib.Core.Bool.{Bool, true, false, cond}
use mathlib.Core.Option.{Option, none, some}
use mathlib.Core.List.{[]}
use Prim.Native.Nat.{ℕ, ◌≤◌, ◌<◌}
use native.Mathlib.Omega.{arith}
use Rattle.std.specs.Prelude.{Option as Maybe}
use borrow.Author.Tests.{eq-eqb, ne_eqb, le-ltb}
use lib.Dec.{ltb}
use Rattle.sheet.specs.Machine.{Machine}
use Rattle.read_back.specs.declared.way.HeldList.{HeldList}
use Rattle.read_back.specs.Way.{next_at, number_told, told_before, number_at, only_link, last_state, falls, first_state, start_state, links_before, way_from}
use Rattle.read_back.specs.Walks.{goes_to, outcome, way_in, way_to}
use Rattle.read_back.proofs.Ways.{way_end, way_next, way-none}
use Rattle.read_back.proofs.Follow.{outcome_from, outcome-goes}

-- past the links no reading begins: with n over 1 no way ends at state 0
pub begins-none : (l : HeldList) (k : ℕ) → (l.n ≡ 1 → ⊥) → l.links ≤ k → way_to l k ≡ none
begins-none l k d h =
    let zero : first_state l.res.now l.nodes l.links l.n k ≡ 0 =
    ap (λ (b : Bool). cond b (start_state l.res.now l.nodes l.links) (cond (ltb k l.links) (next_at l.res.now k) 0)) (ne_eqb l.n 1 d) ∙ ap (λ (b : Bool). cond b (next_at l.res.now k) 0) (le-ltb k l.links h) in
    let last : last_state l.n ≡ 1 = ap (λ (b : Bool). cond b 0 1) (ne_eqb l.n 1 d) in
    let before = links_before l.res.now l.nodes l.links l.n in
    (λ i. way_from l.form l.res.now l.nodes l.links before (last i) l.nodes (zero i))
    ∙ way_end l.form l.res.now l.nodes l.links before 1 l.nodes 0 (omega arith)
    ∙ ap (λ (b : Bool). cond b (some []) none) (ne_eqb 0 1 (λ z. omega (arith, z)))

module _ (m : Machine) (u count : ℕ) (whole : Option (ℕ × ℕ)) (l : HeldList) (q : ℕ) (inv : outcome m u count (way_in l q) ≡ whole) where
  abbrev only : ℕ
  only = only_link l.res.now l.nodes l.links l.before (last_state l.n) q

  abbrev numbered : ℕ
  numbered = number_at l.form l.res.now l.nodes l.links only

  -- above the last state: no link leads lower
  pub stops-here : last_state l.n < q → falls l.res.now l.nodes l.links l.before (last_state l.n) q ≡ false → whole ≡ none
  stops-here h f = sym inv ∙ ap (outcome m u count) (way-none l.form l.res.now l.nodes l.links l.before (last_state l.n) q h f)

  -- one does, and its number is told
  pub goes_on : last_state l.n < q → falls l.res.now l.nodes l.links l.before (last_state l.n) q ≡ true → (x : ℕ) → x ≡ only_link l.res.now l.nodes l.links l.before (last_state l.n) q
      → (number : Maybe ℕ) → number ≡ number_told (number_at l.form l.res.now l.nodes l.links x) → (next : ℕ) → next ≡ next_at l.res.now x → (place : Option (ℕ × ℕ)) → goes_to m u count number ≡ place
      → outcome_from m place (way_in l next) ≡ whole
  goes_on h f x e number is next leads place goes =
      (λ i. outcome_from m (sym goes i) (way_in l next))
      ∙ (λ i. outcome_from m (goes_to m u count (is i)) (way_in l next))
      ∙ sym (outcome-goes m u count (number_at l.form l.res.now l.nodes l.links x) (way_in l next))
      ∙ (λ i. outcome m u count (told_before (number_at l.form l.res.now l.nodes l.links (e i)) (way_in l ((leads ∙ ap (next_at l.res.now) e) i))))
      ∙ ap (outcome m u count) (sym (way_next l.form l.res.now l.nodes l.links l.before (last_state l.n) q h f)) ∙ inv

  -- below the last state there is no way, and at it nothing is left
  pub stops-below : q < last_state l.n → whole ≡ none
  stops-below h =
      sym inv ∙ ap (outcome m u count) (way_end l.form l.res.now l.nodes l.links l.before (last_state l.n) l.nodes q (omega arith) ∙ ap (λ (b : Bool). cond b (some []) none) (ne_eqb q (last_state l.n) (λ z. omega (arith, z))))

  pub ends_there : q ≡ last_state l.n → whole ≡ outcome m u count (some [])
  ends_there h =
      sym inv ∙ ap (outcome m u count) (way_end l.form l.res.now l.nodes l.links l.before (last_state l.n) l.nodes q (omega (arith, h)) ∙ ap (λ (b : Bool). cond b (some []) none) (eq-eqb q (last_state l.n) h))
