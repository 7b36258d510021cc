-- The list of all pairs from two lists, put together by a function. Assumes nothing.
use mathlib.Core.Path.{◌≡◌, refl, sym, ap, ap₂, ◌∙◌}
use mathlib.Core.Logic.{inl, inr}
use mathlib.Core.List.Memᴰ
use mathlib.Core.List.{List, [], ◌∷◌, ◌++◌, map, map-map}
use Rattle.tropical_weight.specs.Tropical.{Tropical, ◌⊗◌}
use Rattle.machine.specs.Demand.{◌∈◌, NoDup}
use Rattle.machine.proofs.Lists.{here, mem-eq, mem-map, map-mem, map-append, map_same, nodup_append, nodup-map-in}
use Rattle.narrowing.specs.Sums.{sums}

-- each of the first list with each of the second, in the order of `sums`
unfoldable pub across : {A B C : Type 0} → (A → B → C) → List A → List B → List C
across f [] ys = []
across f (x ∷ xs) ys = map (f x) ys ++ across f xs ys

-- ---- members
pub mem-across : {A B C : Type 0} (f : A → B → C) (xs : List A) (ys : List B) {c : C} → c ∈ across f xs ys → (a : A) × (b : B) × (a ∈ xs) × (b ∈ ys) × (c ≡ f a b)
unfolding across
mem-across f [] ys h = absurd (Memᴰ.not-nil h)
mem-across f (x ∷ xs) ys h = elim (Memᴰ.append_cases (map (f x) ys) h) [
  | inl q ↦ let r = mem-map (f x) ys q in (x, r.0, here x xs, r.1, r.2)
  | inr q ↦ let r = mem-across f xs ys q in (r.0, r.1, Memᴰ.tail r.2, r.3, r.4)
]

pub across-mem : {A B C : Type 0} (f : A → B → C) {a : A} {b : B} {xs : List A} (ys : List B) → a ∈ xs → b ∈ ys → f a b ∈ across f xs ys
unfolding across
across-mem f {b} ys (Memᴰ.head {x} {xs} e) h = Memᴰ.append_left (across f xs ys) (mem-eq (ap (λ z. f z b) (sym e)) (map-mem (f x) h))
across-mem f ys (Memᴰ.tail {x} p) h = Memᴰ.append_right (map (f x) ys) (across-mem f ys p h)

-- no repeats, where f tells the pairs apart
pub across-nodup : {A B C : Type 0} (f : A → B → C) (xs : List A) (ys : List B) → ((a c : A) (b d : B) → a ∈ xs → c ∈ xs → b ∈ ys → d ∈ ys → f a b ≡ f c d → (a ≡ c) × (b ≡ d)) → NoDup xs → NoDup ys → NoDup (across f xs ys)
unfolding across
across-nodup f [] ys inj n o = tt
across-nodup f (x ∷ xs) ys inj n o =
    nodup_append (map (f x) ys) (across f xs ys)
    (nodup-map-in (f x) ys (λ b d p q e. (inj x x b d (here x xs) (here x xs) p q e).1) o)
    (across-nodup f xs ys (λ a c b d p q. inj a c b d (Memᴰ.tail p) (Memᴰ.tail q)) n.1 o)
    (λ z p q.
    let u = mem-map (f x) ys p in
    let v = mem-across f xs ys q in
    n.0 (mem-eq (sym (inj x v.0 u.0 v.1 (here x xs) (Memᴰ.tail v.2) u.1 v.3 (sym u.2 ∙ v.4)).0) v.2))

-- ---- costs
-- where each costs the sum of its two, the costs are the sums
pub across-sums : {A B C : Type 0} (f : A → B → C) (g : A → Tropical) (h : B → Tropical) (k : C → Tropical) (xs : List A) (ys : List B)
    → ((a : A) (b : B) → a ∈ xs → b ∈ ys → k (f a b) ≡ g a ⊗ h b) → map k (across f xs ys) ≡ sums (map g xs) (map h ys)
unfolding across sums
across-sums f g h k [] ys e = refl
across-sums f g h k (x ∷ xs) ys e =
    map-append k (map (f x) ys) (across f xs ys)
    ∙ ap₂ ◌++◌ (map-map k (f x) ys ∙ map_same (λ y. k (f x y)) (λ y. g x ⊗ h y) ys (λ y q. e x y (here x xs) q) ∙ sym (map-map (λ c. g x ⊗ c) h ys))
    (across-sums f g h k xs ys (λ a b p q. e a b (Memᴰ.tail p) q))
