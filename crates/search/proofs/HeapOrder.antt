-- The order of the heap: nothing comes before what stands at its parent's place. Putting in and removing keep that, and so nothing comes before the
-- head. Assumes nothing.
use mathlib.Core.Path.{◌≡◌, refl, sym, ap, ◌∙◌, subst}
use mathlib.Core.Bool.{Bool, true, false, cond, ◌&&◌}
use mathlib.Core.List.{List, [], ◌∷◌, ◌++◌}
use Prim.Native.Nat.{ℕ, zero, suc, ◌+◌, ◌-◌, ◌*◌, ◌/◌, ◌≤◌, ◌<◌}
use native.Mathlib.Decide.{ℕ_discrete}
use native.Mathlib.Omega.{arith}
use lib.Dec.{ltb, leb, eqb}
use lib.ListN.{length, get_or, set, take, length-set, length-take, length-append, get_or-append}
use lib.Seq.{get_or-set_same, get_or-set_other, get_or-take}
use borrow.Author.Tests.{ltb-false, leb-true, leb-false, eqb-true, eqb-false}
use Rattle.machine.specs.Demand.{◌∈◌}
use Rattle.machine.proofs.Lists.{mem-get_or}
use Rattle.search.specs.Heap.{swapped, second_first, child, stays, sift_up, sift_down, pushed, popped}
use Rattle.search.proofs.Contents.{length-swapped, child-above, child-in, popped-one, popped-more}

-- what stands at a place, and the place of the parent
abbrev at : List ℕ → ℕ → ℕ
at h i = get_or h i 0

abbrev up : ℕ → ℕ
up i = (i - 1) / 2

module _ (before : ℕ → ℕ → Bool) where
  -- x may stand above y: y does not come before it
  pub record Above (x y : ℕ) : Type 0 where
    pub not-before : before y x ≡ false

  -- what is asked of the test
  pub record Strict : Type 0 where
    pub chain : (x y z : ℕ) → Above x y → Above y z → Above x z
    pub other_way : (x y : ℕ) → before x y ≡ true → Above x y

  abbrev pub Ordered : List ℕ → Type 0
  Ordered h = (j : ℕ) → 0 < j → j < length h → Above (at h (up j)) (at h j)

  -- by what the places hold
  held : {x y a b : ℕ} → a ≡ x → b ≡ y → Above x y → Above a b
  held p q k = record { not-before = (λ i. before (q i) (p i)) ∙ k.not-before }

  -- ---- two places swapped
  module _ (h : List ℕ) (i j : ℕ) (a : i < length h) (b : j < length h) (apart : i ≡ j → ⊥) where
    at_first : at (swapped before h i j) i ≡ at h j
    at_first = get_or-set_other (set h i (at h j)) j i (at h i) 0 apart ∙ get_or-set_same h i (at h j) 0 a

    at_second : at (swapped before h i j) j ≡ at h i
    at_second = get_or-set_same (set h i (at h j)) j (at h i) 0 (subst (λ (n : ℕ). j < n) (sym (length-set h i (at h j))) b)

    at_other : (k : ℕ) → (k ≡ i → ⊥) → (k ≡ j → ⊥) → at (swapped before h i j) k ≡ at h k
    at_other k p q = get_or-set_other (set h i (at h j)) j k (at h i) 0 q ∙ get_or-set_other h i k (at h j) 0 p

  -- ---- a heap in order but around place i: where two places do not touch it, and from its parent to its children
  record Gap (h : List ℕ) (i : ℕ) : Type 0 where
    inside : i < length h
    away : (j : ℕ) → 0 < j → j < length h → (j ≡ i → ⊥) → (up j ≡ i → ⊥) → Above (at h (up j)) (at h j)
    over : (j : ℕ) → 0 < j → j < length h → up j ≡ i → 0 < i → Above (at h (up i)) (at h j)

  -- order from place i to its children, and to it from its parent
  abbrev Below : List ℕ → ℕ → Type 0
  Below h i = (j : ℕ) → 0 < j → j < length h → up j ≡ i → Above (at h i) (at h j)

  abbrev Hangs : List ℕ → ℕ → Type 0
  Hangs h i = 0 < i → Above (at h (up i)) (at h i)

  closed : (h : List ℕ) (i : ℕ) → Gap h i → Below h i → Hangs h i → Ordered h
  closed h i g b u j p q = elim (ℕ_discrete j i) [
    | yes e ↦ held (ap (λ (k : ℕ). at h (up k)) e) (ap (at h) e) (u (omega (arith, e)))
    | no n ↦ elim (ℕ_discrete (up j) i) [
      | yes e ↦ held (ap (at h) e) refl (b j p q e)
      | no m ↦ g.away j p q n m
    ]
  ]

  module _ (o : Strict) where
    -- ---- one step up
    module _ (h : List ℕ) (i : ℕ) (g : Gap h i) (b : Below h i) (pos : 0 < i) (ahead : before (at h i) (at h (up i)) ≡ true) where
      abbrev up_to : List ℕ
      up_to = swapped before h i (up i)

      p-in : up i < length h
      p-in = omega (arith, g.inside)

      not_own : i ≡ up i → ⊥
      not_own e = omega (arith, e)

      up-size : length (swapped before h i (up i)) ≡ length h
      up-size = length-swapped before h i (up i)

      up-other : (k : ℕ) → (k ≡ i → ⊥) → (k ≡ up i → ⊥) → at up_to k ≡ at h k
      up-other = at_other h i (up i) g.inside p-in not_own

      up_first : at up_to i ≡ at h (up i)
      up_first = at_first h i (up i) g.inside p-in not_own

      up_second : at up_to (up i) ≡ at h i
      up_second = at_second h i (up i) g.inside p-in not_own

      -- the other children of the parent
      sibling : (j : ℕ) → 0 < j → j < length h → up j ≡ up i → (j ≡ i → ⊥) → Above (at h (up i)) (at h j)
      sibling j p q e n = held (ap (at h) (sym e)) refl (g.away j p q n (λ z. omega (arith, z, e)))

      up-gap : Gap (swapped before h i (up i)) (up i)
      up-gap = record {
        inside = omega (arith, up-size, p-in);
        away = λ j p q n m. elim (ℕ_discrete (up j) i) [
          | yes e ↦ held (ap (at up_to) e ∙ up_first) (up-other j (λ z. omega (arith, z, e)) n) (g.over j p (omega (arith, up-size)) e pos)
          | no k ↦ held (up-other (up j) k m) (up-other j (λ z. m (ap up z)) n) (g.away j p (omega (arith, up-size)) (λ z. m (ap up z)) k)
        ];
        over = λ j p q e r.
            let top : at up_to (up (up i)) ≡ at h (up (up i)) = up-other (up (up i)) (λ z. omega (arith, z)) (λ z. omega (arith, z)) in
            let edge : Above (at h (up (up i))) (at h (up i)) = g.away (up i) r p-in (λ z. omega (arith, z)) (λ z. omega (arith, z)) in
            elim (ℕ_discrete j i) [
              | yes z ↦ held top (ap (at up_to) z ∙ up_first) edge
              | no n ↦ held top (up-other j n (λ z. omega (arith, z, e))) (o.chain _ _ _ edge (sibling j p (omega (arith, up-size)) e n))
            ];
      }

      up-below : Below (swapped before h i (up i)) (up i)
      up-below j p q e = elim (ℕ_discrete j i) [
        | yes z ↦ held up_second (ap (at up_to) z ∙ up_first) (o.other_way (at h i) (at h (up i)) ahead)
        | no n ↦ held up_second (up-other j n (λ z. omega (arith, z, e))) (o.chain _ _ _ (o.other_way (at h i) (at h (up i)) ahead) (sibling j p (omega (arith, up-size)) e n))
      ]

    up-ordered : (steps : ℕ) (h : List ℕ) (i : ℕ) → i ≤ steps → Gap h i → Below h i → Ordered (sift_up before steps h i)
    unfolding sift_up
    up-ordered zero h i s g b = closed h i g b (λ p. absurd (omega arith))
    up-ordered (suc steps) h i s g b = go (eqb i 0) (before (at h i) (at h (up i))) refl refl (up-ordered steps (swapped before h i (up i)) (up i) (omega arith))
      where
        go : (x y : Bool) → eqb i 0 ≡ x → before (at h i) (at h (up i)) ≡ y
            → (Gap (swapped before h i (up i)) (up i) → Below (swapped before h i (up i)) (up i) → Ordered (sift_up before steps (swapped before h i (up i)) (up i)))
            → Ordered (cond x h (cond y (sift_up before steps (swapped before h i (up i)) (up i)) h))
        go true y p q f = closed h i g b (λ r. absurd (omega (arith, eqb-true i 0 p)))
        go false true p q f = let pos : 0 < i = omega (arith, eqb-false i 0 p) in f (up-gap h i g b pos q) (up-below h i g b pos q)
        go false false p q f = closed h i g b (λ r. record { not-before = q })

    pub pushed-ordered : (x : ℕ) (h : List ℕ) → Ordered h → Ordered (pushed before x h)
    unfolding pushed
    pushed-ordered x h k =
        up-ordered (length h) (h ++ (x ∷ [])) (length h) (omega arith)
        (record {
          inside = omega (arith, size);
          away = λ j p q n m. held (get_or-append h (x ∷ []) 0 (up j) (omega (arith, size, n))) (get_or-append h (x ∷ []) 0 j (omega (arith, size, n))) (k j p (omega (arith, size, n)));
          over = λ j p q e r. absurd (omega (arith, size, e));
        })
        (λ j p q e. absurd (omega (arith, size, e)))
      where
        size : length (h ++ (x ∷ [])) ≡ length h + 1
        size = length-append h (x ∷ [])

    -- ---- children
    self : (x : ℕ) → Above x x
    self x = go (before x x) refl
      where
        go : (b : Bool) → before x x ≡ b → Above x x
        go true e = o.other_way x x e
        go false e = record { not-before = e }

    child-up : (h : List ℕ) (n i : ℕ) → up (child before h n i) ≡ i
    child-up h n i = go (ltb (2 * i + 2) n && second_first before h i)
      where
        go : (b : Bool) → up (cond b (2 * i + 2) (2 * i + 1)) ≡ i
        go true = omega arith
        go false = omega arith

    child-least : (h : List ℕ) (n i j : ℕ) → 0 < j → j < n → up j ≡ i → Above (at h (child before h n i)) (at h j)
    child-least h n i j p q e = elim (ℕ_discrete j (2 * i + 1)) [
      | yes z ↦ held refl (ap (at h) z) (first (ltb (2 * i + 2) n) (second_first before h i) refl)
      | no m ↦
          let z : j ≡ 2 * i + 2 = omega (arith, m, e) in
          held refl (ap (at h) z) (second (ltb (2 * i + 2) n) (second_first before h i) refl refl (omega (arith, z)))
    ]
      where
        first : (x y : Bool) → second_first before h i ≡ y → Above (at h (cond (x && y) (2 * i + 2) (2 * i + 1))) (at h (2 * i + 1))
        first true true k = o.other_way (at h (2 * i + 2)) (at h (2 * i + 1)) k
        first true false k = self (at h (2 * i + 1))
        first false y k = self (at h (2 * i + 1))

        second : (x y : Bool) → ltb (2 * i + 2) n ≡ x → second_first before h i ≡ y → 2 * i + 2 < n → Above (at h (cond (x && y) (2 * i + 2) (2 * i + 1))) (at h (2 * i + 2))
        second true true k l r = self (at h (2 * i + 2))
        second true false k l r = record { not-before = l }
        second false y k l r = absurd (omega (arith, ltb-false (2 * i + 2) n k))

    -- ---- one step down, to a child c that may stand above i and the other children
    module _ (h : List ℕ) (i c : ℕ) (g : Gap h i) (u : Hangs h i) (c-in : c < length h) (c-up : up c ≡ i) (i-c : i < c)
        (least : (j : ℕ) → 0 < j → j < length h → up j ≡ i → Above (at h c) (at h j)) (falls : Above (at h c) (at h i)) where
      abbrev down_to : List ℕ
      down_to = swapped before h i c

      not-child : i ≡ c → ⊥
      not-child e = omega (arith, e)

      down-size : length (swapped before h i c) ≡ length h
      down-size = length-swapped before h i c

      down-first : at down_to i ≡ at h c
      down-first = at_first h i c g.inside c-in not-child

      down-second : at down_to c ≡ at h i
      down-second = at_second h i c g.inside c-in not-child

      down-other : (k : ℕ) → (k ≡ i → ⊥) → (k ≡ c → ⊥) → at down_to k ≡ at h k
      down-other = at_other h i c g.inside c-in not-child

      down-gap : Gap (swapped before h i c) c
      down-gap = record {
        inside = omega (arith, down-size, c-in);
        away = λ j p q n m. elim (ℕ_discrete j i) [
          | yes e ↦ held (ap (λ (k : ℕ). at down_to (up k)) e ∙ down-other (up i) (λ z. omega (arith, z, e)) (λ z. omega (arith, z))) (ap (at down_to) e ∙ down-first) (g.over c (omega arith) c-in c-up (omega (arith, e)))
          | no k ↦ elim (ℕ_discrete (up j) i) [
            | yes e ↦ held (ap (at down_to) e ∙ down-first) (down-other j k n) (least j p (omega (arith, down-size)) e)
            | no l ↦ held (down-other (up j) l m) (down-other j k n) (g.away j p (omega (arith, down-size)) k l)
          ]
        ];
        over = λ j p q e r.
            held (ap (at down_to) c-up ∙ down-first) (down-other j (λ z. omega (arith, z, e)) (λ z. omega (arith, z, e)))
            (held (ap (at h) (sym e)) refl (g.away j p (omega (arith, down-size)) (λ z. omega (arith, z, e)) (λ z. omega (arith, z, e))));
      }

      down-hangs : Hangs (swapped before h i c) c
      down-hangs r = held (ap (at down_to) c-up ∙ down-first) down-second falls

    down-ordered : (steps n : ℕ) (h : List ℕ) (i : ℕ) → n ≡ length h → n - i ≤ steps → Gap h i → Hangs h i → Ordered (sift_down before steps n h i)
    unfolding sift_down
    down-ordered zero n h i s r g u = absurd (omega (arith, g.inside))
    down-ordered (suc steps) n h i s r g u =
        let c = child before h n i in
        go (leb n (2 * i + 1)) (stays before h i c) refl refl
        (down-ordered steps n (swapped before h i c) c (s ∙ sym (length-swapped before h i c)) (omega (arith, child-above before h n i)))
      where
        below : (j : ℕ) → 0 < j → j < length h → up j ≡ i → Above (at h (child before h n i)) (at h j)
        below j p q e = child-least h n i j p (omega arith) e

        go : (x y : Bool) → leb n (2 * i + 1) ≡ x → stays before h i (child before h n i) ≡ y
            → (Gap (swapped before h i (child before h n i)) (child before h n i) → Hangs (swapped before h i (child before h n i)) (child before h n i)
            → Ordered (sift_down before steps n (swapped before h i (child before h n i)) (child before h n i)))
            → Ordered (cond x h (cond y h (sift_down before steps n (swapped before h i (child before h n i)) (child before h n i))))
        go true y p q f = closed h i g (λ j a b e. absurd (omega (arith, leb-true n (2 * i + 1) p, e))) u
        go false true p q f = closed h i g (λ j a b e. o.chain _ _ _ (o.other_way (at h i) (at h (child before h n i)) q) (below j a b e)) u
        go false false p q f =
            let c = child before h n i in
            let c-in : c < length h = omega (arith, child-in before h n i (leb-false n (2 * i + 1) p)) in
            f (down-gap h i c g u c-in (child-up h n i) (child-above before h n i) below (record { not-before = q }))
            (down-hangs h i c g u c-in (child-up h n i) (child-above before h n i) below (record { not-before = q }))

    pub popped-ordered : (a : ℕ) (l : List ℕ) → Ordered (a ∷ l) → Ordered (popped before (a ∷ l))
    popped-ordered a [] k = subst Ordered (sym (popped-one before a)) (λ j p q. absurd (omega arith))
    popped-ordered a (b ∷ l) k =
        let n = length l in
        subst Ordered (sym (popped-more before a (b ∷ l) n refl))
        (down-ordered (suc n) (suc n) (at (b ∷ l) n ∷ take n (b ∷ l)) 0 (sym size) (omega arith)
        (record { inside = omega (arith, size); away = λ j p q d m. rest j p (omega (arith, size)) m; over = λ j p q e r. absurd (omega arith) })
        (λ r. absurd (omega arith)))
      where
        size : suc (length (take (length l) (b ∷ l))) ≡ suc (length l)
        size = simp length-take (omega arith)

        kept : (x j : ℕ) → 0 < j → j < suc (length l) → at (x ∷ take (length l) (b ∷ l)) j ≡ at (a ∷ b ∷ l) j
        kept x zero p q = absurd (omega arith)
        kept x (suc j) p q = get_or-take (length l) (b ∷ l) j 0 (omega arith)

        rest : (j : ℕ) → 0 < j → j < suc (length l) → (up j ≡ 0 → ⊥) → Above (at (at (b ∷ l) (length l) ∷ take (length l) (b ∷ l)) (up j)) (at (at (b ∷ l) (length l) ∷ take (length l) (b ∷ l)) j)
        rest j p q m = held (kept (at (b ∷ l) (length l)) (up j) (omega (arith, m)) (omega arith)) (kept (at (b ∷ l) (length l)) j p q) (k j p (omega arith))

    -- ---- the head
    over-all : (steps : ℕ) (h : List ℕ) → Ordered h → (j : ℕ) → j ≤ steps → j < length h → Above (at h 0) (at h j)
    over-all zero h k j s q = held refl (ap (at h) (let z : j ≡ 0 = omega arith in z)) (self (at h 0))
    over-all (suc steps) h k j s q = go (ℕ_discrete j 0) (λ p. over-all steps h k (up j) (omega arith) (omega arith))
      where
        go : Dec (j ≡ 0) → (0 < j → Above (at h 0) (at h (up j))) → Above (at h 0) (at h j)
        go (yes e) f = held refl (ap (at h) e) (self (at h 0))
        go (no n) f = o.chain (at h 0) (at h (up j)) (at h j) (f (omega (arith, n))) (k j (omega (arith, n)) q)

    pub head_first : (a : ℕ) (l : List ℕ) → Ordered (a ∷ l) → (x : ℕ) → x ∈ (a ∷ l) → Above a x
    head_first a l k x m = let r = mem-get_or 0 m in held refl (sym r.2) (over-all r.0 (a ∷ l) k r.0 (omega arith) r.1)
