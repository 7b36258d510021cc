-- The passes of the reversal, a turn at a time. Assumes nothing.
use mathlib.Core.Path.{◌≡◌, refl, sym, ap, ◌∙◌}
use mathlib.Core.Bool.{Bool, true, false, cond}
use mathlib.Core.List.{List}
use Prim.Native.Nat.{ℕ, suc, ◌+◌, ◌-◌, ◌*◌, ◌<◌}
use native.Mathlib.Numerals.{add-one}
use native.Mathlib.Omega.{arith}
use lib.Dec.{eqb}
use lib.ListN.{set}
use lib.Ieee.{Float}
use borrow.Author.Tests.{eq-eqb, eqb-true, eqb-false, ne_eqb}
use Rattle.std.specs.Prelude.{Some, None}
use Rattle.tropical_weight.specs.Single.{lesser}
use Rattle.sheet.specs.Below.{sum_below}
use Rattle.sheet.specs.Words.{word}
use Rattle.sheet.specs.Records.{count_at, first_link, mark_at, final_at}
use Rattle.slots.specs.Slots.{slot_length, nothing}
use Rattle.distance.specs.Held.{Distance}
use Rattle.distance.specs.Held.{total_in, distance_in, with_distance}
use Rattle.machine.specs.Finals.{final_count}
use Rattle.reversed_machine.specs.ReverseWords.{heads_cleared, chained, links_put, links_reversed, finals_reversed, least_total, least_distance, chains_put, reversed_words}
use Rattle.sheet.specs.Accepted.{trailer_in, ending_at}
use Rattle.sheet.specs.Machine.{machine}
use Rattle.machine.specs.declared.climbing.Machine.{Machine}
use Rattle.machine.proofs.SheetFields.{SheetFields, fields-for}
use Rattle.sheet.specs.Sheet.{link_length}

-- ---- heads
pub cleared-next : (nodes q : ℕ) (part : List ℕ) → heads_cleared nodes (q + 1) part ≡ set (set (heads_cleared nodes q part) (nodes + slot_length * q + 2) nothing) (nodes + slot_length * q + 3) 0
unfolding heads_cleared
cleared-next nodes q part = ap (λ (k : ℕ). heads_cleared nodes k part) (add-one q)

-- ---- links and finals, from the last down
pub first_below : (bytes : List ℕ) (T v : ℕ) → 0 < v → first_link bytes T v ≡ first_link bytes T (v - 1) + count_at bytes T (v - 1)
unfolding sum_below
first_below bytes T v h = ap (first_link bytes T) (let z : v ≡ suc (v - 1) = omega arith in z)

-- a node's final weight by the bytes: where there is one, and where there is none
module _ (bytes : List ℕ) (T v : ℕ) where
  pub final-given : (bits : ℕ) → ending_at bytes T v ≡ Some bits → (mark_at bytes T v ≡ 0 → ⊥) × (bits ≡ final_at bytes T v)
  final-given bits = go (eqb (mark_at bytes T v) 0) refl
    where
      go : (t : Bool) → eqb (mark_at bytes T v) 0 ≡ t → cond t None (Some (final_at bytes T v)) ≡ Some bits → (mark_at bytes T v ≡ 0 → ⊥) × (bits ≡ final_at bytes T v)
      go true q e = absurd (cc)
      go false q e = (eqb-false (mark_at bytes T v) 0 q, cc)

  pub final-absent : ending_at bytes T v ≡ None → mark_at bytes T v ≡ 0
  final-absent = go (eqb (mark_at bytes T v) 0) refl
    where
      go : (t : Bool) → eqb (mark_at bytes T v) 0 ≡ t → cond t None (Some (final_at bytes T v)) ≡ None → mark_at bytes T v ≡ 0
      go true q e = eqb-true (mark_at bytes T v) 0 q
      go false q e = absurd (cc)

module _ (bytes : List ℕ) (nodes links : ℕ) (part new whole : List ℕ) where
  -- a link of node v, by what the calls answer
  pub links-again : (v first i next bits : ℕ) → 0 < i → next ≡ word bytes (link_length * (first + (i - 1)) + 12) → bits ≡ word bytes (link_length * (first + (i - 1)) + 8)
      → new ≡ chained (nodes + slot_length * (next + 1) + 2) (links + slot_length * (first + (i - 1))) (first + (i - 1)) (v + 1) bits part
      → links_put bytes nodes links v first i part ≡ whole → links_put bytes nodes links v first (i - 1) new ≡ whole
  unfolding links_put
  links-again v first i next bits h n b e w =
      let l = first + (i - 1) in
      let top : suc (i - 1) ≡ i = omega arith in
      ap (links_put bytes nodes links v first (i - 1)) (e ∙ λ j. chained (nodes + slot_length * (n j + 1) + 2) (links + slot_length * l) l (v + 1) (b j) part)
      ∙ ap (λ (k : ℕ). links_put bytes nodes links v first k part) top ∙ w

  -- a node of a sheet with T links
  pub nodes-again : (T v : ℕ) → 0 < v → new ≡ links_put bytes nodes links (v - 1) (first_link bytes T (v - 1)) (count_at bytes T (v - 1)) part
      → links_reversed bytes nodes links T v part ≡ whole → links_reversed bytes nodes links T (v - 1) new ≡ whole
  unfolding links_reversed
  nodes-again T v h e w =
      let top : suc (v - 1) ≡ v = omega arith in
      ap (links_reversed bytes nodes links T (v - 1)) e ∙ ap (λ (k : ℕ). links_reversed bytes nodes links T k part) top ∙ w

  module _ (T v : ℕ) (h : 0 < v) (w : finals_reversed bytes nodes links T v part ≡ whole) where
    -- the pass over the node before, with its mark tested
    finals-down : (b : Bool) → eqb (mark_at bytes T (v - 1)) 0 ≡ b
        → let k = T + final_count bytes T (v - 1) in finals_reversed bytes nodes links T (v - 1) (cond b part (chained (nodes + 2) (links + slot_length * k) k (v - 1 + 1) (final_at bytes T (v - 1)) part)) ≡ whole
    unfolding finals_reversed
    finals-down b e =
        let k = T + final_count bytes T (v - 1) in
        ap (λ (t : Bool). finals_reversed bytes nodes links T (v - 1) (cond t part (chained (nodes + 2) (links + slot_length * k) k (v - 1 + 1) (final_at bytes T (v - 1)) part))) (sym e)
        ∙ ap (λ (n : ℕ). finals_reversed bytes nodes links T n part) (let z : suc (v - 1) ≡ v = omega arith in z) ∙ w

    pub finals-plain : mark_at bytes T (v - 1) ≡ 0 → finals_reversed bytes nodes links T (v - 1) part ≡ whole
    finals-plain e = finals-down true (eq-eqb (mark_at bytes T (v - 1)) 0 e)

    pub finals-again : (k bits : ℕ) → (mark_at bytes T (v - 1) ≡ 0 → ⊥) → k ≡ T + final_count bytes T (v - 1) → bits ≡ final_at bytes T (v - 1)
        → new ≡ chained (nodes + 2) (links + slot_length * k) k (v - 1 + 1) bits part → finals_reversed bytes nodes links T (v - 1) new ≡ whole
    finals-again k bits n a b e = ap (finals_reversed bytes nodes links T (v - 1)) (e ∙ λ j. chained (nodes + 2) (links + slot_length * a j) (a j) (v - 1 + 1) (b j) part) ∙ finals-down false (ne_eqb (mark_at bytes T (v - 1)) 0 n)

-- ---- the least total, one node more
module _ (bytes : List ℕ) (nodes T v : ℕ) (part : List ℕ) where
  total-next : (b : Bool) → eqb (mark_at bytes T v) 0 ≡ b
      → least_total bytes nodes T (v + 1) part ≡ cond b (least_total bytes nodes T v part) (lesser (least_total bytes nodes T v part) (total_in (distance_in part (nodes + slot_length * (v + 1))) (final_at bytes T v)))
  unfolding least_total
  total-next b e =
      ap (λ (k : ℕ). least_total bytes nodes T k part) (add-one v)
      ∙ ap (λ (t : Bool). cond t (least_total bytes nodes T v part) (lesser (least_total bytes nodes T v part) (total_in (distance_in part (nodes + slot_length * (v + 1))) (final_at bytes T v)))) e

  pub total-plain : (least : Float) → least ≡ least_total bytes nodes T v part → ending_at bytes T v ≡ None → least ≡ least_total bytes nodes T (v + 1) part
  total-plain least h e = h ∙ sym (total-next true (eq-eqb (mark_at bytes T v) 0 (final-absent bytes T v e)))

  pub total-final : (least s r : Float) (d : Distance) (bits : ℕ) → least ≡ least_total bytes nodes T v part → ending_at bytes T v ≡ Some bits → d ≡ distance_in part (nodes + slot_length * (v + 1))
      → s ≡ total_in d bits → r ≡ lesser least s → r ≡ least_total bytes nodes T (v + 1) part
  total-final least s r d bits h n a e f =
      let given = final-given bytes T v bits n in
      f ∙ (λ i. lesser (h i) ((e ∙ λ j. total_in (a j) (given.1 j)) i)) ∙ sym (total-next false (ne_eqb (mark_at bytes T v) 0 given.0))

-- ---- one pass after the other
pub passes-made : (bytes : List ℕ) (nodes links N T : ℕ) (part a b d new : List ℕ) (least : Distance) → a ≡ heads_cleared nodes (N + 1) part → b ≡ links_reversed bytes nodes links T N a → d ≡ finals_reversed bytes nodes links T N b
    → least ≡ least_distance bytes nodes T N d → new ≡ with_distance d nodes least → new ≡ reversed_words bytes nodes links N T part
unfolding reversed_words chains_put
passes-made bytes nodes links N T part a b d new least ea eb ed el ew =
    let put : d ≡ chains_put bytes nodes links N T part = ed ∙ ap (finals_reversed bytes nodes links T N) (eb ∙ ap (links_reversed bytes nodes links T N) ea) in
    ew ∙ λ i. with_distance (put i) nodes ((el ∙ ap (least_distance bytes nodes T N) put) i)

-- ---- what a machine's value gives
pub machine-fields : (m : Machine) → SheetFields m.sheet.bytes.now m.sheet.links m.sheet.nodes (machine m.sheet.bytes.now)
machine-fields m = let s = m.sheet in fields-for s.bytes.now m.climbs (trailer_in s.links s.nodes s.start s.form) s.stated
