-- A link put in front of a chain, word by word, and chains that list links. Assumes nothing.
use mathlib.Core.Path.{◌≡◌, refl, sym, ap, ◌∙◌, subst}
use mathlib.Core.Logic.{◌⊎◌, inl, inr}
use mathlib.Core.Bool.{Bool, cond}
use mathlib.Core.List.{List, [], ◌∷◌, map}
use Prim.Native.Nat.{ℕ, zero, suc, ◌+◌, ◌-◌, ◌*◌, ◌≤◌, ◌<◌}
use native.Mathlib.Omega.{arith}
use lib.ListN.{length, get_or, set, length-set}
use lib.Seq.{get_or-set_same, get_or-set_other}
use lib.Ieee.{binary32, of_bits}
use borrow.Author.Tests.{eq-eqb, ne_eqb}
use Rattle.tropical_weight.specs.Grid.{of_t}
use Rattle.sheet.specs.Machine.{weight_of}
use Rattle.search.specs.Reversed.{Back}
use Rattle.slots.specs.Slots.{slot_length, nothing}
use Rattle.search_slots.specs.Slots.{head_word, next_word, weight_word, chain_word}
use Rattle.reversed_machine.specs.ReverseWords.{chained, chain_of, back_of}

-- ---- link k in front of the chain of node q, where the slots of links lie above those of nodes
module _ (nodes links q k next bits : ℕ) (part : List ℕ) (below : nodes + slot_length * (q + 1) ≤ links) (room : links + slot_length * k + 8 ≤ length part) (head : ℕ) (at_head : head ≡ nodes + slot_length * q + 2) where
  abbrev at : ℕ
  at = links + slot_length * k

  abbrev one : List ℕ
  one = set part (links + slot_length * k) next

  abbrev two : List ℕ
  two = set one (links + slot_length * k + 1) bits

  abbrev three : List ℕ
  three = set two (links + slot_length * k + 2) (get_or part head 0)

  abbrev new : List ℕ
  new = chained head (links + slot_length * k) k next bits part

  pub front-size : length new ≡ length part
  front-size = simp length-set

  pub front-next : next_word new links k ≡ next
  front-next =
      get_or-set_other three head at k 0 (λ e. omega arith)
      ∙ get_or-set_other two (at + 2) at (get_or part head 0) 0 (λ e. omega arith)
      ∙ get_or-set_other one (at + 1) at bits 0 (λ e. omega arith)
      ∙ get_or-set_same part at next 0 (omega arith)

  pub front-weight : weight_word new links k ≡ bits
  front-weight =
      get_or-set_other three head (at + 1) k 0 (λ e. omega arith)
      ∙ get_or-set_other two (at + 2) (at + 1) (get_or part head 0) 0 (λ e. omega arith)
      ∙ get_or-set_same one (at + 1) bits 0 (simp length-set (omega arith))

  pub front-chain : chain_word new links k ≡ head_word part nodes q
  front-chain =
      get_or-set_other three head (at + 2) k 0 (λ e. omega arith)
      ∙ get_or-set_same two (at + 2) (get_or part head 0) 0 (simp length-set (omega arith))
      ∙ ap (λ (i : ℕ). get_or part i 0) at_head

  pub front-head : head_word new nodes q ≡ k
  front-head = ap (λ (i : ℕ). get_or new i 0) (sym at_head) ∙ get_or-set_same three head k 0 (simp length-set (omega arith))

  -- any other word
  pub front-spared : (i : ℕ) → (i ≡ nodes + slot_length * q + 2 → ⊥) → (i ≡ links + slot_length * k → ⊥) → (i ≡ links + slot_length * k + 1 → ⊥) → (i ≡ links + slot_length * k + 2 → ⊥) → get_or new i 0 ≡ get_or part i 0
  front-spared i a b c d =
      get_or-set_other three head i k 0 (λ e. a (e ∙ at_head))
      ∙ get_or-set_other two (at + 2) i (get_or part head 0) 0 d
      ∙ get_or-set_other one (at + 1) i bits 0 c
      ∙ get_or-set_other part at i next 0 b

-- ---- the slots of the links from `low` up to `top` agree
module _ (links top : ℕ) where
  pub record Same (low : ℕ) (part new : List ℕ) : Type 0 where
    pub next : (k : ℕ) → low ≤ k → k < top → next_word new links k ≡ next_word part links k
    pub weight : (k : ℕ) → low ≤ k → k < top → weight_word new links k ≡ weight_word part links k
    pub chain : (k : ℕ) → low ≤ k → k < top → chain_word new links k ≡ chain_word part links k

  same-higher : (low high : ℕ) (part new : List ℕ) → low ≤ high → Same low part new → Same high part new
  same-higher low high part new h s = record { next = λ k a b. s.next k (omega arith) b; weight = λ k a b. s.weight k (omega arith) b; chain = λ k a b. s.chain k (omega arith) b }

-- ---- from k on the chain lists these links, at rising numbers from `low` up to `top`
module _ (unit links T top : ℕ) where
  abbrev pub Lists : List ℕ → ℕ → ℕ → List Back → Type 0
  Lists part low k [] = k ≡ nothing
  Lists part low k (b ∷ bs) = (low ≤ k) × (k < top) × (back_of unit part links T k ≡ b) × Lists part (suc k) (chain_word part links k) bs

  pub lists-lower : (part : List ℕ) (low lower k : ℕ) (bs : List Back) → lower ≤ low → Lists part low k bs → Lists part lower k bs
  lists-lower part low lower k [] h l = l
  lists-lower part low lower k (b ∷ bs) h l = (omega (arith, l.0), l.1, l.2, l.3)

  pub lists-kept : (part new : List ℕ) (low k : ℕ) (bs : List Back) → Same links top low part new → Lists part low k bs → Lists new low k bs
  lists-kept part new low k [] s l = l
  lists-kept part new low k (b ∷ bs) s l =
      let same : back_of unit new links T k ≡ back_of unit part links T k = λ i. record { input = (back_of unit part links T k).input; weight = weight_of unit (s.weight k l.0 l.1 i); next = s.next k l.0 l.1 i } in
      (l.0, l.1, same ∙ l.2, subst (λ (j : ℕ). Lists new (suc k) j bs) (sym (s.chain k l.0 l.1)) (lists-kept part new (suc k) (chain_word part links k) bs (same-higher links top low (suc k) part new (omega (arith, l.0)) s) l.3))

  pub lists_length : (part : List ℕ) (low k : ℕ) (bs : List Back) → Lists part low k bs → length bs ≤ top - low
  lists_length part low k [] l = omega arith
  lists_length part low k (b ∷ bs) l = omega (arith, l.0, l.1, lists_length part (suc k) (chain_word part links k) bs l.3)

  -- read off, in steps enough
  pub lists-read : top ≤ nothing → (part : List ℕ) (low k : ℕ) (bs : List Back) (n : ℕ) → length bs ≤ n → Lists part low k bs → map (back_of unit part links T) (chain_of part links k n) ≡ bs
  unfolding chain_of
  lists-read few part low k [] zero h l = refl
  lists-read few part low k [] (suc n) h l = ap (λ (t : Bool). map (back_of unit part links T) (cond t [] (k ∷ chain_of part links (chain_word part links k) n))) (eq-eqb k nothing l)
  lists-read few part low k (b ∷ bs) zero h l = absurd (omega arith)
  lists-read few part low k (b ∷ bs) (suc n) h l =
      ap (λ (t : Bool). map (back_of unit part links T) (cond t [] (k ∷ chain_of part links (chain_word part links k) n))) (ne_eqb k nothing (λ e. omega (arith, l.1)))
      ∙ λ i. l.2 i ∷ lists-read few part (suc k) (chain_word part links k) bs n (omega arith) l.3 i

  -- where a chain that lists links begins
  pub lists-first : (part : List ℕ) (low k : ℕ) (bs : List Back) → Lists part low k bs → (k ≡ nothing) ⊎ ((low ≤ k) × (k < top))
  lists-first part low k [] l = inl l
  lists-first part low k (b ∷ bs) l = inr (l.0, l.1)

  -- ---- the slot of a link: it leads on to a higher one or to none, and to one of N old nodes, and its weight is a value in single precision
  pub record Filled (N : ℕ) (part : List ℕ) (k : ℕ) : Type 0 where
    pub rises : (chain_word part links k ≡ nothing) ⊎ ((k < chain_word part links k) × (chain_word part links k < top))
    pub inside : (0 < next_word part links k) × (next_word part links k ≤ N)
    pub valued : of_bits binary32 (weight_word part links k) ≡ of_t unit (weight_of unit (weight_word part links k))

  pub filled-kept : (N low : ℕ) (part new : List ℕ) → Same links top low part new → (k : ℕ) → low ≤ k → k < top → Filled N part k → Filled N new k
  filled-kept N low part new s k a b f = record {
    rises = subst (λ (j : ℕ). (j ≡ nothing) ⊎ ((k < j) × (j < top))) (sym (s.chain k a b)) f.rises;
    inside = subst (λ (j : ℕ). (0 < j) × (j ≤ N)) (sym (s.next k a b)) f.inside;
    valued = subst (λ (w : ℕ). of_bits binary32 w ≡ of_t unit (weight_of unit w)) (sym (s.weight k a b)) f.valued;
  }

  pub filled-by : (N : ℕ) (part : List ℕ) (k chain next bits : ℕ) → chain_word part links k ≡ chain → next_word part links k ≡ next → weight_word part links k ≡ bits
      → (chain ≡ nothing) ⊎ ((suc k ≤ chain) × (chain < top)) → 0 < next → next ≤ N → of_bits binary32 bits ≡ of_t unit (weight_of unit bits) → Filled N part k
  filled-by N part k chain next bits c n w r a b v = record {
    rises = subst (λ (j : ℕ). (j ≡ nothing) ⊎ ((k < j) × (j < top))) (sym c) r;
    inside = subst (λ (j : ℕ). (0 < j) × (j ≤ N)) (sym n) (a, b);
    valued = subst (λ (x : ℕ). of_bits binary32 x ≡ of_t unit (weight_of unit x)) (sym w) v;
  }
