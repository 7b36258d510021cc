-- What test 13 lets through, and where the links of a machine that climbs part at node c: those that leave nodes below it come first. Assumes nothing.
use mathlib.Core.Path.{◌≡◌, refl, sym, ap, ap₂, ◌∙◌}
use mathlib.Core.Logic.{inl, inr}
use mathlib.Core.Bool.{Bool, true, false≢true, not, ◌&&◌}
use mathlib.Core.Option.{Option, none, some, none-ne-some}
use mathlib.Core.List.Memᴰ
use mathlib.Core.List.{List, [], ◌∷◌, ◌++◌, append-nil}
use Prim.Native.Nat.{ℕ, suc, ◌+◌, ◌-◌, ◌≤◌, ◌<◌}
use native.Mathlib.Omega.{arith}
use lib.Dec.{ltb}
use lib.ListN.{length, get_or, take, drop, length-map, length-append, length-drop, get_or-append, take-append-drop}
use lib.Seq.{get_or-take, get_or-drop, get_or-append_seam, length-take-le}
use borrow.Author.Tests.{ltb-true, ltb-false, leb-true, lt-ltb, le-ltb, le-leb, lt-leb, not-true}
use Rattle.std.proofs.lemmas.Bool.{and_cases}
use Rattle.tropical_weight.specs.Tropical.{Tropical, one}
use Rattle.sheet.specs.Below.{list_below}
use Rattle.sheet.specs.Machine.{Link, Machine}
use Rattle.sheet.proofs.Apart.{both}
use Rattle.sheet.proofs.Below.{all_below-at, split_at}
use Rattle.machine.specs.Readings.{no_link, link, final, keep}
use Rattle.machine.specs.Climbs.{Climbs}
use Rattle.machine.specs.Demand.{◌∈◌}
use Rattle.machine.proofs.Lists.{get_or-mem, mem-get_or, get_d_map, mem_below, below-append, keep_append, keep-all, keep-none, keep-length}
use Rattle.machine.proofs.Readings.{final-in}
use Rattle.narrowing.specs.Narrows.{starts_by, unmarked, narrows}
use Rattle.narrowing.specs.Parts.{is_before, is_after, preheat, from_node, bake, numbers}

-- ---- what test 13 lets through
pub record Narrows (c : ℕ) (m : Machine) : Type 0 where
  pub inside : c < length m.finals
  pub from : ℕ
  pub starts : m.start ≡ some from
  pub by : from ≤ c
  pub unmarked-below : (v : ℕ) → v < c → final m v ≡ none
  pub through : (l : ℕ) → l < length m.links → (link m l).source < c → (link m l).next ≤ c

start-told : (c : ℕ) (s : Option ℕ) → starts_by c s ≡ true → (v : ℕ) × (s ≡ some v) × (v ≤ c)
start-told c none e = absurd (false≢true e)
start-told c (some v) e = (v, refl, leb-true v c e)

no-mark : (f : Option Tropical) → unmarked f ≡ true → f ≡ none
no-mark none e = refl
no-mark (some w) e = absurd (false≢true e)

pub narrowing : (c : ℕ) (m : Machine) → narrows c m ≡ true → Narrows c m
unfolding narrows
narrowing c m e =
    let x = both _ _ e in
    let y = both _ _ x.0 in
    let z = both _ _ y.0 in
    let s = start-told c m.start z.1 in
    record {
      inside = ltb-true c (length m.finals) z.0;
      from = s.0;
      starts = s.1;
      by = s.2;
      unmarked-below = λ v h. no-mark (final m v) (all_below-at c (λ v. unmarked (final m v)) y.1 v h);
      through = λ l h b. elim (and_cases (ltb (link m l).source c) (ltb c (link m l).next) (not-true _ (all_below-at (length m.links) (λ l. not (ltb (link m l).source c && ltb c (link m l).next)) x.1 l h))) [
        | inl q ↦ absurd (omega (arith, b, ltb-false (link m l).source c q))
        | inr q ↦ ltb-false c (link m l).next q
      ];
    }

-- ---- of any machine: the parts' nodes, starts and form, and the number of links of the first part
abbrev pub seam : ℕ → Machine → ℕ
seam c m = length (keep (is_before c) m.links)

pub seam-in : (c : ℕ) (m : Machine) → seam c m ≤ length m.links
seam-in c m = keep-length (is_before c) m.links

module _ (c : ℕ) (m : Machine) where
  pub first-links : length (preheat c m).links ≡ seam c m
  unfolding preheat
  first-links = refl

  pub in-first : (l : ℕ) → l < length (preheat c m).links → (l < seam c m) × (l < length m.links)
  in-first l h = (omega (arith, h, first-links), omega (arith, h, first-links, seam-in c m))

  pub first-start : (preheat c m).start ≡ m.start
  unfolding preheat
  first-start = refl

  pub first-form : (preheat c m).form ≡ m.form
  unfolding preheat
  first-form = refl

  pub second-start : (bake c m).start ≡ some 0
  unfolding bake
  second-start = refl

  pub second-form : (bake c m).form ≡ m.form
  unfolding bake
  second-form = refl

  pub second-nodes : length (bake c m).finals ≡ length m.finals - c
  unfolding bake
  second-nodes = length-drop c m.finals

  pub second-final : (v : ℕ) → final (bake c m) v ≡ final m (c + v)
  unfolding bake
  second-final v = get_or-drop c m.finals v none

  module _ (inside : c < length m.finals) where
    nodes-below : length (take c m.finals) ≡ c
    nodes-below = length-take-le c m.finals (omega arith)

    pub first-nodes : length (preheat c m).finals ≡ c + 1
    unfolding preheat
    first-nodes = length-append (take c m.finals) (some one ∷ []) ∙ omega (arith, nodes-below)

    pub first-final : final (preheat c m) c ≡ some one
    unfolding preheat
    first-final = ap (λ n. get_or (preheat c m).finals n none) (sym nodes-below) ∙ get_or-append_seam (take c m.finals) (some one) [] none

    -- below c they are the machine's
    pub first-below : (v : ℕ) → v < c → final (preheat c m) v ≡ final m v
    unfolding preheat
    first-below v h = get_or-append (take c m.finals) (some one ∷ []) none v (omega (arith, nodes-below)) ∙ get_or-take c m.finals v none h

-- where the machine narrows to c, no other node has mark 1 in the first part
pub first-marked : (c : ℕ) (m : Machine) → Narrows c m → (v : ℕ) (w : Tropical) → final (preheat c m) v ≡ some w → v ≡ c
first-marked c m t v w e = elim (split_at v c) [
  | inl h ↦ absurd (none-ne-some w (sym (t.unmarked-below v h) ∙ sym (first-below c m t.inside v h) ∙ e))
  | inr h ↦ omega (arith, h, final-in (preheat c m) v w e, first-nodes c m t.inside)
]

-- ---- where sources never fall, the links that leave nodes below c come first
module _ (c : ℕ) where
  abbrev Sorted : List Link → Type 0
  Sorted ks = (i j : ℕ) → i ≤ j → j < length ks → (get_or ks i no_link).source ≤ (get_or ks j no_link).source

  -- the links before `at` leave nodes below c, and the others do not
  record Cut (ks : List Link) : Type 0 where
    at : ℕ
    in-list : at ≤ length ks
    low : (x : Link) → x ∈ take at ks → x.source < c
    high : (x : Link) → x ∈ drop at ks → c ≤ x.source

  cut : (ks : List Link) → Sorted ks → Cut ks
  cut [] s = record { at = 0; in-list = omega arith; low = λ x h. absurd (Memᴰ.not-nil h); high = λ x h. absurd (Memᴰ.not-nil h) }
  cut (k ∷ ks) s = elim (split_at k.source c) [
    | inl h ↦ let r = cut ks (λ i j a b. s (suc i) (suc j) (omega arith) (omega arith)) in record {
      at = suc r.at;
      in-list = omega (arith, r.in-list);
      low = λ x o. elim (Memᴰ.cases_cons o) [ inl e ↦ omega (arith, h, ap (λ (y : Link). y.source) e) | inr q ↦ r.low x q ];
      high = r.high;
    }
    | inr h ↦ record {
      at = 0;
      in-list = omega arith;
      low = λ x o. absurd (Memᴰ.not-nil o);
      high = λ x o. let r = mem-get_or no_link o in omega (arith, h, s 0 r.0 (omega arith) r.1, ap (λ (y : Link). y.source) r.2);
    }
  ]

module _ (c : ℕ) (m : Machine) (k : Climbs m) where
  parted : Cut c m.links
  parted = cut c m.links k.sorted

  low : List Link
  low = take parted.at m.links

  high : List Link
  high = drop parted.at m.links

  sides : (p : Link → Bool) → keep p m.links ≡ keep p low ++ keep p high
  unfolding low high
  sides p = ap (keep p) (sym (take-append-drop parted.at m.links)) ∙ keep_append p low high

  front : keep (is_before c) m.links ≡ low
  unfolding low high
  front =
      sides (is_before c)
      ∙ ap₂ ◌++◌ (keep-all (is_before c) low (λ x h. lt-ltb x.source c (parted.low x h))) (keep-none (is_before c) high (λ x h. le-ltb x.source c (parted.high x h)))
      ∙ append-nil low

  seam-is : seam c m ≡ parted.at
  unfolding low
  seam-is = ap length front ∙ length-take-le parted.at m.links parted.in-list

  pub before-take : keep (is_before c) m.links ≡ take (seam c m) m.links
  unfolding low
  before-take = front ∙ ap (λ n. take n m.links) (sym seam-is)

  pub after-drop : keep (is_after c) m.links ≡ drop (seam c m) m.links
  unfolding low high
  after-drop =
      sides (is_after c)
      ∙ ap₂ ◌++◌ (keep-none (is_after c) low (λ x h. lt-leb c x.source (parted.low x h))) (keep-all (is_after c) high (λ x h. le-leb c x.source (parted.high x h)))
      ∙ ap (λ n. drop n m.links) (sym seam-is)

  pub below-seam : (l : ℕ) → l < seam c m → (link m l).source < c
  unfolding low
  below-seam l h =
      let b : l < length low = omega (arith, h, ap length front) in
      omega (arith, parted.low (get_or low l no_link) (get_or-mem low l no_link b), ap (λ (x : Link). x.source) (get_or-take parted.at m.links l no_link (omega (arith, h, seam-is))))

  pub above-seam : (l : ℕ) → seam c m ≤ l → l < length m.links → c ≤ (link m l).source
  unfolding high
  above-seam l h b =
      let j : ℕ = l - parted.at in
      let n : parted.at + j ≡ l = omega (arith, h, seam-is) in
      omega (arith, parted.high (get_or high j no_link) (get_or-mem high j no_link (omega (arith, n, b, length-drop parted.at m.links))), ap (λ (x : Link). x.source) (get_or-drop parted.at m.links j no_link ∙ ap (link m) n))

  pub from-below : (l : ℕ) → l < length m.links → (link m l).source < c → l < seam c m
  from-below l b h = elim (split_at l (seam c m)) [ inl q ↦ q | inr q ↦ absurd (omega (arith, h, above-seam l q b)) ]

  -- ---- the numbers of those links
  numbered : (p : Link → Bool) → numbers p m ≡ keep (λ l. p (link m l)) (list_below (seam c m) (λ l. l)) ++ keep (λ l. p (link m l)) (list_below (length m.links - seam c m) (λ l. seam c m + l))
  unfolding numbers
  numbered p =
      let n : length m.links ≡ seam c m + (length m.links - seam c m) = omega (arith, seam-in c m) in
      ap (λ n. keep (λ l. p (link m l)) (list_below n (λ l. l))) n
      ∙ ap (keep (λ l. p (link m l))) (below-append (λ l. l) (seam c m) (length m.links - seam c m))
      ∙ keep_append (λ l. p (link m l)) (list_below (seam c m) (λ l. l)) (list_below (length m.links - seam c m) (λ l. seam c m + l))

  low-number : (l : ℕ) → l ∈ list_below (seam c m) (λ l. l) → (link m l).source < c
  low-number l h = let r = mem_below (λ l. l) (seam c m) h in below-seam l (omega (arith, r.1, r.2))

  high-number : (l : ℕ) → l ∈ list_below (length m.links - seam c m) (λ l. seam c m + l) → c ≤ (link m l).source
  high-number l h = let r = mem_below (λ l. seam c m + l) (length m.links - seam c m) h in above-seam l (omega (arith, r.2)) (omega (arith, r.1, r.2))

  pub numbers-before : numbers (is_before c) m ≡ list_below (seam c m) (λ l. l)
  numbers-before =
      let low = list_below (seam c m) (λ l. l) in
      numbered (is_before c)
      ∙ ap₂ ◌++◌ (keep-all _ low (λ l h. lt-ltb (link m l).source c (low-number l h))) (keep-none _ _ (λ l h. le-ltb (link m l).source c (high-number l h)))
      ∙ append-nil low

  pub numbers-after : numbers (is_after c) m ≡ list_below (length m.links - seam c m) (λ l. seam c m + l)
  numbers-after =
      numbered (is_after c)
      ∙ ap₂ ◌++◌ (keep-none _ _ (λ l h. lt-leb c (link m l).source (low-number l h))) (keep-all _ _ (λ l h. le-leb c (link m l).source (high-number l h)))

  -- ---- the parts' links are the machine's
  pub first-link : (l : ℕ) → l < seam c m → link (preheat c m) l ≡ link m l
  unfolding preheat
  first-link l h = ap (λ ks. get_or ks l no_link) before-take ∙ get_or-take (seam c m) m.links l no_link h

  pub second-links : length (bake c m).links ≡ length m.links - seam c m
  unfolding bake
  second-links = length-map (keep (is_after c) m.links) (from_node c) ∙ ap length after-drop ∙ length-drop (seam c m) m.links

  pub in-second : (l : ℕ) → l < length (bake c m).links → (l < length m.links - seam c m) × (seam c m + l < length m.links)
  in-second l h = (omega (arith, h, second-links), omega (arith, h, second-links))

  pub second-link : (l : ℕ) → l < length m.links - seam c m → link (bake c m) l ≡ from_node c (link m (seam c m + l))
  unfolding bake
  second-link l h =
      get_d_map (from_node c) (keep (is_after c) m.links) l no_link no_link (omega (arith, ap length after-drop, length-drop (seam c m) m.links))
      ∙ ap (λ ks. from_node c (get_or ks l no_link)) after-drop ∙ ap (from_node c) (get_or-drop (seam c m) m.links l no_link)
