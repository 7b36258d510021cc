-- Among keys in order those with one label stand together, from the first that is not below that label's least key. Assumes nothing.
use mathlib.Core.Path.{◌≡◌, sym, ap, ◌∙◌, subst}
use mathlib.Core.Bool.{Bool, false, cond}
use mathlib.Core.List.{List, [], ◌∷◌, ◌++◌}
use Prim.Native.Nat.{ℕ, ◌+◌, ◌-◌, ◌≤◌, ◌<◌}
use native.Mathlib.Numerals.{add-one}
use native.Mathlib.Omega.{arith}
use lib.Dec.{eqb}
use lib.ListN.{length, get_or, take, drop, take-append-drop, length-drop, drop_of_length-le}
use lib.Seq.{length-take-le, get_or-take, get_or-drop, drop-cons}
use borrow.Author.Tests.{eq-eqb, ne_eqb}
use Rattle.machine.specs.Readings.{keep}
use Rattle.machine.proofs.Lists.{mem-get_or, keep_append, keep-none}
use Rattle.sorted_keys.specs.Sorted.{Rising, FirstAtLeast}
use Rattle.product.specs.Keys.{link_key, key_label}
use Rattle.link_pairs.specs.Found.{partners}

-- a key of those from a place on, by its place among all
pub key-behind : (keys : List ℕ) (low i : ℕ) → low + i < length keys → get_or (take (length keys - low) (drop low keys)) i 0 ≡ get_or keys (low + i) 0
key-behind keys low i h = get_or-take (length keys - low) (drop low keys) i 0 (omega arith) ∙ get_or-drop low keys i 0

module _ (key : ℕ) where
  -- none below the label's least key
  below-label : (x : ℕ) → x < link_key (key_label key) 0 0 → eqb (key_label x) (key_label key) ≡ false
  below-label x h = ne_eqb (key_label x) (key_label key) (λ e. omega (arith, e))

  partners-late : (l : List ℕ) (low : ℕ) → low ≤ length l → ((i : ℕ) → i < low → get_or l i 0 < link_key (key_label key) 0 0) → partners key l ≡ partners key (drop low l)
  unfolding partners
  partners-late l low h f =
      let p : ℕ → Bool = λ k. eqb (key_label k) (key_label key) in
      ap (keep p) (sym (take-append-drop low l)) ∙ keep_append p (take low l) (drop low l)
      ∙ ap (λ (k : List ℕ). k ++ keep p (drop low l)) (keep-none p (take low l) (λ x m.
      let r = mem-get_or 0 m in
      let n = length-take-le low l h in
      below-label x (subst (λ (y : ℕ). y < link_key (key_label key) 0 0) (sym (get_or-take low l r.0 0 (omega (arith, r.1, n))) ∙ r.2) (f r.0 (omega (arith, r.1, n))))))

  -- one with the label is the next
  pub partners-here : (l : List ℕ) (k : ℕ) → k < length l → key_label (get_or l k 0) ≡ key_label key → partners key (drop k l) ≡ get_or l k 0 ∷ partners key (drop (k + 1) l)
  unfolding partners keep
  partners-here l k h e =
      let p : ℕ → Bool = λ k. eqb (key_label k) (key_label key) in
      ap (keep p) (drop-cons l k 0 h ∙ ap (λ (n : ℕ). get_or l k 0 ∷ drop n l) (sym (add-one k))) ∙ ap (λ (b : Bool). cond b (get_or l k 0 ∷ keep p (drop (k + 1) l)) (keep p (drop (k + 1) l))) (eq-eqb (key_label (get_or l k 0)) (key_label key) e)

  -- and behind one with a higher label there is none
  partners-past : (l : List ℕ) (k : ℕ) → ((i : ℕ) → k ≤ i → i < length l → get_or l k 0 ≤ get_or l i 0) → link_key (key_label key) 0 0 ≤ get_or l k 0 → (key_label (get_or l k 0) ≡ key_label key → ⊥) → partners key (drop k l) ≡ []
  unfolding partners
  partners-past l k up low ne =
      keep-none (λ k. eqb (key_label k) (key_label key)) (drop k l) (λ x m.
      let r = mem-get_or 0 m in
      let at : get_or l (k + r.0) 0 ≡ x = sym (get_or-drop k l r.0 0) ∙ r.2 in
      let far = up (k + r.0) (omega arith) (omega (arith, r.1, length-drop k l)) in
      let above : key_label key < key_label (get_or l k 0) = omega (arith, low, ne) in
      let apart : key_label x ≡ key_label key → ⊥ = λ e. omega (arith, far, at, above, e) in
      ne_eqb (key_label x) (key_label key) apart)

  pub partners-from : (l : List ℕ) (low : ℕ) → FirstAtLeast (length l) l (link_key (key_label key) 0 0) low → partners key (drop low l) ≡ partners key l
  partners-from l low f = sym (partners-late l low f.within f.below)

  pub partners-over : (l : List ℕ) → Rising (length l) l → (k : ℕ) → k < length l → link_key (key_label key) 0 0 ≤ get_or l k 0 → (key_label (get_or l k 0) ≡ key_label key → ⊥) → partners key (drop k l) ≡ []
  partners-over l up k h low ne = partners-past l k (λ i a b. up k i a b) low ne

  pub partners-end : (l : List ℕ) (k : ℕ) → length l ≤ k → partners key (drop k l) ≡ []
  unfolding partners keep
  partners-end l k h = ap (partners key) (drop_of_length-le l {i = k} h)
