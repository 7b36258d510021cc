-- What the passes of the reversal leave alone: every word but heads, visits and the slots of links. Assumes nothing.
use mathlib.Core.Path.{◌≡◌, refl, ap, ◌∙◌}
use mathlib.Core.Logic.{◌⊎◌, inl, inr}
use mathlib.Core.Bool.{Bool, true, false, cond}
use mathlib.Core.List.{List}
use Prim.Native.Nat.{ℕ, zero, suc, ◌+◌, ◌*◌, ◌≤◌, ◌<◌}
use native.Mathlib.Nat.{eq-or-lt_of_le}
use native.Mathlib.Omega.{arith}
use lib.Dec.{eqb}
use lib.ListN.{length, get_or, set, length-set}
use lib.Seq.{get_or-set_same, get_or-set_other}
use borrow.Author.Tests.{eqb-false}
use Rattle.sheet.specs.Below.{sum_below}
use Rattle.sheet.specs.Words.{word}
use Rattle.sheet.specs.Records.{count_at, first_link, mark_at, final_at}
use Rattle.sheet.specs.Machine.{Machine}
use Rattle.sheet.proofs.Below.{sum_mono}
use Rattle.slots.specs.Slots.{slot_length, nothing}
use Rattle.search_slots.specs.Slots.{head_word, visits_word}
use Rattle.machine.specs.Finals.{final_count}
use Rattle.reversed_machine.specs.ReverseWords.{heads_cleared, chained, link_put, links_put, links_reversed, final_put, finals_reversed}
use Rattle.machine.proofs.FinalCount.{count-final, count-mono}
use Rattle.machine.proofs.SheetFields.{SheetFields}
use Rattle.sheet.specs.Sheet.{link_length}

-- ---- heads cleared
module _ (nodes : ℕ) (part : List ℕ) where
  pub cleared-size : (n : ℕ) → length (heads_cleared nodes n part) ≡ length part
  unfolding heads_cleared
  cleared-size zero = refl
  cleared-size (suc q) = simp length-set (cleared-size q)

  -- any word but a head or a visits word
  pub cleared-spared : (n i : ℕ) → ((q : ℕ) → q < n → i ≡ nodes + slot_length * q + 2 → ⊥) → ((q : ℕ) → q < n → i ≡ nodes + slot_length * q + 3 → ⊥) → get_or (heads_cleared nodes n part) i 0 ≡ get_or part i 0
  unfolding heads_cleared
  cleared-spared zero i a b = refl
  cleared-spared (suc n) i a b =
      let c = heads_cleared nodes n part in
      get_or-set_other (set c (nodes + slot_length * n + 2) nothing) (nodes + slot_length * n + 3) i 0 0 (b n (omega arith))
      ∙ get_or-set_other c (nodes + slot_length * n + 2) i nothing 0 (a n (omega arith))
      ∙ cleared-spared n i (λ q h. a q (omega arith)) (λ q h. b q (omega arith))

  pub cleared-words : (n q : ℕ) → q < n → nodes + slot_length * n ≤ length part → (head_word (heads_cleared nodes n part) nodes q ≡ nothing) × (visits_word (heads_cleared nodes n part) nodes q ≡ 0)
  unfolding heads_cleared
  cleared-words zero q h room = absurd (omega arith)
  cleared-words (suc n) q h room = go (eq-or-lt_of_le (let k : q ≤ n = omega arith in k)) (λ l. cleared-words n q l (omega arith))
    where
      old : List ℕ
      old = heads_cleared nodes n part

      mid : List ℕ
      mid = set old (nodes + slot_length * n + 2) nothing

      new : List ℕ
      new = set mid (nodes + slot_length * n + 3) 0

      go : (q ≡ n) ⊎ (q < n) → (q < n → (head_word old nodes q ≡ nothing) × (visits_word old nodes q ≡ 0)) → (head_word new nodes q ≡ nothing) × (visits_word new nodes q ≡ 0)
      go (inl e) r = (
        ap (head_word new nodes) e
            ∙ get_or-set_other mid (nodes + slot_length * n + 3) (nodes + slot_length * n + 2) 0 0 (λ z. omega arith)
            ∙ get_or-set_same old (nodes + slot_length * n + 2) nothing 0 (omega (arith, cleared-size n)),
        ap (visits_word new nodes) e ∙ get_or-set_same mid (nodes + slot_length * n + 3) 0 0 (omega (arith, length-set old (nodes + slot_length * n + 2) nothing, cleared-size n)),
      )
      go (inr l) r = (
        get_or-set_other mid (nodes + slot_length * n + 3) (nodes + slot_length * q + 2) 0 0 (λ z. omega arith) ∙ get_or-set_other old (nodes + slot_length * n + 2) (nodes + slot_length * q + 2) nothing 0 (λ z. omega arith) ∙ (r l).0,
        get_or-set_other mid (nodes + slot_length * n + 3) (nodes + slot_length * q + 3) 0 0 (λ z. omega arith) ∙ get_or-set_other old (nodes + slot_length * n + 2) (nodes + slot_length * q + 3) nothing 0 (λ z. omega arith) ∙ (r l).1,
      )

-- ---- no head of the nodes up to N, and no word of the slots of `top` links
abbrev pub Free : ℕ → ℕ → ℕ → ℕ → ℕ → Type 0
Free nodes links N top i = ((q : ℕ) → q ≤ N → i ≡ nodes + slot_length * q + 2 → ⊥) × ((i < links) ⊎ (links + slot_length * top ≤ i))

chained-free : (nodes links N top q k next bits head : ℕ) (part : List ℕ) → q ≤ N → k < top → head ≡ nodes + slot_length * q + 2 → (i : ℕ) → Free nodes links N top i
    → get_or (chained head (links + slot_length * k) k next bits part) i 0 ≡ get_or part i 0
chained-free nodes links N top q k next bits head part hq hk e i f =
    let one = set part (links + slot_length * k) next in
    let two = set one (links + slot_length * k + 1) bits in
    let three = set two (links + slot_length * k + 2) (get_or part head 0) in
    get_or-set_other three head i k 0 (λ z. f.0 q hq (z ∙ e))
    ∙ get_or-set_other two (links + slot_length * k + 2) i (get_or part head 0) 0 (λ z. outside f.1 2 (omega arith) z)
    ∙ get_or-set_other one (links + slot_length * k + 1) i bits 0 (λ z. outside f.1 1 (omega arith) z)
    ∙ get_or-set_other part (links + slot_length * k) i next 0 (λ z. outside f.1 0 (omega arith) (omega arith))
  where
    outside : (i < links) ⊎ (links + slot_length * top ≤ i) → (j : ℕ) → j < 8 → i ≡ links + slot_length * k + j → ⊥
    outside (inl a) j b z = omega arith
    outside (inr a) j b z = omega arith

module _ (bytes : List ℕ) (nodes links : ℕ) where
  -- ---- lengths
  links-size : (v first n : ℕ) (part : List ℕ) → length (links_put bytes nodes links v first n part) ≡ length part
  unfolding links_put
  links-size v first zero part = refl
  links-size v first (suc n) part = links-size v first n (link_put bytes nodes links v (first + n) part) ∙ simp length-set

  pub reversed-size : (T n : ℕ) (part : List ℕ) → length (links_reversed bytes nodes links T n part) ≡ length part
  unfolding links_reversed
  reversed-size T zero part = refl
  reversed-size T (suc v) part = reversed-size T v (links_put bytes nodes links v (first_link bytes T v) (count_at bytes T v) part) ∙ links-size v (first_link bytes T v) (count_at bytes T v) part

  pub finals-size : (T n : ℕ) (part : List ℕ) → length (finals_reversed bytes nodes links T n part) ≡ length part
  unfolding finals_reversed
  finals-size T zero part = refl
  finals-size T (suc v) part = finals-size T v (final_put bytes nodes links T v part) ∙ one (eqb (mark_at bytes T v) 0)
    where
      one : (b : Bool) → length (cond b part (chained (nodes + 2) (links + slot_length * (T + final_count bytes T v)) (T + final_count bytes T v) (v + 1) (final_at bytes T v) part)) ≡ length part
      one true = refl
      one false = simp length-set

  -- ---- free words
  module _ (T N : ℕ) (m : Machine) (s : SheetFields bytes T N m) (top : ℕ) (whole : T + final_count bytes T N ≡ top) where
    links-free : (v first n : ℕ) (part : List ℕ) → first + n ≤ T → (i : ℕ) → Free nodes links N top i → get_or (links_put bytes nodes links v first n part) i 0 ≡ get_or part i 0
    unfolding links_put
    links-free v first zero part h i f = refl
    links-free v first (suc n) part h i f =
        let l = first + n in
        let in-links : l < T = omega arith in
        let inside : word bytes (link_length * l + 12) + 1 ≤ N = omega (arith, s.next-at l in-links, s.next-in l in-links) in
        links-free v first n (link_put bytes nodes links v l part) (omega arith) i f
        ∙ chained-free nodes links N top (word bytes (link_length * l + 12) + 1) l (v + 1) (word bytes (link_length * l + 8)) (nodes + slot_length * (word bytes (link_length * l + 12) + 1) + 2) part inside (omega arith) refl i f

    pub reversed-free : (n : ℕ) → n ≤ N → (part : List ℕ) (i : ℕ) → Free nodes links N top i → get_or (links_reversed bytes nodes links T n part) i 0 ≡ get_or part i 0
    unfolding links_reversed sum_below
    reversed-free zero h part i f = refl
    reversed-free (suc v) h part i f =
        reversed-free v (omega arith) (links_put bytes nodes links v (first_link bytes T v) (count_at bytes T v) part) i f
        ∙ links-free v (first_link bytes T v) (count_at bytes T v) part (omega (arith, sum_mono (count_at bytes T) N (suc v) h, s.counted)) i f

    pub finals-free : (n : ℕ) → n ≤ N → (part : List ℕ) (i : ℕ) → Free nodes links N top i → get_or (finals_reversed bytes nodes links T n part) i 0 ≡ get_or part i 0
    unfolding finals_reversed
    finals-free zero h part i f = refl
    finals-free (suc v) h part i f = finals-free v (omega arith) (final_put bytes nodes links T v part) i f ∙ one (eqb (mark_at bytes T v) 0) refl
      where
        one : (b : Bool) → eqb (mark_at bytes T v) 0 ≡ b → get_or (cond b part (chained (nodes + 2) (links + slot_length * (T + final_count bytes T v)) (T + final_count bytes T v) (v + 1) (final_at bytes T v) part)) i 0 ≡ get_or part i 0
        one true e = refl
        one false e =
            chained-free nodes links N top 0 (T + final_count bytes T v) (v + 1) (final_at bytes T v) (nodes + 2) part (omega arith)
            (omega (arith, whole, count-final bytes T v (suc v) refl (eqb-false (mark_at bytes T v) 0 e), count-mono bytes T (suc v) N h)) (omega arith) i f
