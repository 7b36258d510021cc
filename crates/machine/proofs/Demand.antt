-- Demand 3 and the equation of costs say the same of a list of readings without repeats. Assumes nothing.
use mathlib.Core.Path.{◌≡◌, refl, sym, ap, ◌∙◌, subst, subst₂}
use mathlib.Core.Logic.{◌⊎◌, inl, inr}
use mathlib.Core.Option.{some}
use mathlib.Core.List.Memᴰ
use mathlib.Core.List.{List, [], ◌∷◌, ◌++◌, map, append-nil}
use Prim.Native.Nat.{ℕ, ◌+◌, ◌≤◌, ◌<◌, min}
use native.Mathlib.Decide.{ℕ_discrete}
use native.Mathlib.Omega.{arith}
use lib.ListN.{length, take, drop, length-map, length-append, length-take, take-append-drop}
use lib.Seq.{take_at, take_all}
use Rattle.tropical_weight.specs.Tropical.{Tropical, ◌≼◌}
use Rattle.tropical_weight.proofs.Semiring.{≼-eq, ≼_trans}
use Rattle.sheet.specs.Machine.{Machine}
use Rattle.machine.specs.Readings.{Reading, IsReading, reading_cost, readings}
use Rattle.machine.specs.Climbs.{Climbs}
use Rattle.machine.specs.Parents.{best}
use Rattle.machine.specs.Demand.{◌∈◌, NoDup, Demand, sort}
use Rattle.machine.proofs.Lists.{Perm, perm-mem, perm-sym, perm-length, perm-map, perm-nodup, here, map-mem, mem-map, map-append, leftover, nodup-apart, nodup-fills}
use Rattle.machine.proofs.Sort.{Ordered, sort-perm, sort-keeps, sort-ordered, ordered-rises, rises-ordered, ordered-front, ordered-across, sort-front, sort-rest}
use Rattle.machine.proofs.Readings.{readings-are, readings-once}
use Rattle.machine.proofs.Distance.{total-le}
use Rattle.machine.proofs.Parents.{best-is}

module _ (m : Machine) (c : Climbs m) where
  abbrev cost : Reading → Tropical
  cost = reading_cost m

  -- the costs of all readings, in order
  abbrev pub sorted : List Tropical
  sorted = sort (map cost (readings m))

  module _ (listed : List Reading) (each : (x : Reading) → x ∈ listed → IsReading m x) (apart : NoDup listed) where
    -- the readings that are not listed
    rest : List Reading
    rest = (leftover listed (readings m) apart (λ x h. (readings-are m c x).1 (each x h))).0

    split : Perm (readings m) (listed ++ rest)
    unfolding rest
    split = (leftover listed (readings m) apart (λ x h. (readings-are m c x).1 (each x h))).1

    in_rest : (y : Reading) → IsReading m y → (y ∈ listed → ⊥) → y ∈ rest
    in_rest y i n = elim (Memᴰ.append_cases listed (perm-mem split ((readings-are m c y).1 i))) [ inl q ↦ absurd (n q) | inr q ↦ q ]

    rest-reads : (y : Reading) → y ∈ rest → IsReading m y
    rest-reads y h = (readings-are m c y).0 (perm-mem (perm-sym split) (Memᴰ.append_right listed h))

    rest-new : (y : Reading) → y ∈ rest → y ∈ listed → ⊥
    rest-new y h k = nodup-apart listed rest (perm-nodup split (readings-once m c)) y k h

    sorted-is : sorted ≡ sort (map cost listed ++ map cost rest)
    sorted-is = sort-perm (perm-map cost split) ∙ ap sort (map-append cost listed rest)

    -- the cheapest n, as one equation of costs, is what demand 3 asks
    pub demand : (n : ℕ) → map cost listed ≡ take n sorted → Demand m n listed
    demand n e = record {
      size = sym (length-map listed cost) ∙ ap length e ∙ length-take n sorted ∙ ap (min n) (perm-length (sort-keeps (map cost (readings m))) ∙ length-map (readings m) cost);
      each = each;
      apart = apart;
      order = ordered-rises (map cost listed) (ordered-front (map cost listed) (drop n sorted) in_order);
      left = λ x y h i k. ordered-across (map cost listed) (drop n sorted) in_order (cost x) (cost y) (map-mem cost h)
          (subst (λ l. cost y ∈ l) dropped (perm-mem (perm-sym (sort-keeps (map cost rest))) (map-mem cost (in_rest y i k))));
    }
      where
        parts : sorted ≡ map cost listed ++ drop n sorted
        parts = sym (take-append-drop n sorted) ∙ ap (λ l. l ++ drop n sorted) (sym e)

        in_order : Ordered (map cost listed ++ drop n sorted)
        in_order = subst Ordered parts (sort-ordered (map cost (readings m)))

        dropped : sort (map cost rest) ≡ drop n sorted
        dropped = sort-rest (map cost listed) (map cost rest) (drop n sorted) (sym sorted-is ∙ parts)

  -- and demand 3 fixes the costs
  pub demand-costs : (n : ℕ) (listed : List Reading) → Demand m n listed → map cost listed ≡ take n sorted
  unfolding sort
  demand-costs n listed d = go (ℕ_discrete (length listed) n) ∙ ap (take n) (sym (sorted-is listed d.each d.apart ∙ front))
    where
      r : List Reading
      r = rest listed d.each d.apart

      front : sort (map cost listed ++ map cost r) ≡ map cost listed ++ sort (map cost r)
      front = sort-front (map cost listed) (map cost r) (rises-ordered (map cost listed) d.order) (λ a b p q.
          let x = mem-map cost listed p in
          let y = mem-map cost r q in
          subst₂ ◌≼◌ (sym x.2) (sym y.2) (d.left x.0 y.0 x.1 (rest-reads listed d.each d.apart y.0 y.1) (rest-new listed d.each d.apart y.0 y.1)))

      count : length (readings m) ≡ length listed + length r
      count = perm-length (split listed d.each d.apart) ∙ length-append listed r

      nil : (l : List Reading) → length l ≡ 0 → l ≡ []
      nil [] e = refl
      nil (x ∷ l) e = absurd (omega (arith, e))

      go : Dec (length listed ≡ n) → map cost listed ≡ take n (map cost listed ++ sort (map cost r))
      go (yes e) = sym (take_at (map cost listed) (sort (map cost r)) n (length-map listed cost ∙ e))
      go (no e) =
          let z : r ≡ [] = nil r (omega (arith, d.size, count, e)) in
          let s : length (map cost listed) ≤ n = omega (arith, length-map listed cost, d.size) in
          sym (ap (λ l. take n (map cost listed ++ sort (map cost l))) z ∙ ap (take n) (append-nil (map cost listed)) ∙ take_all n (map cost listed) s)

  -- every reading is listed, or costs at least as much as each that is
  pub listed-or : (n : ℕ) (listed : List Reading) → Demand m n listed → (y : Reading) → IsReading m y → (y ∈ listed) ⊎ ((x : Reading) → x ∈ listed → cost x ≼ cost y)
  listed-or n listed d y i = elim (Memᴰ.append_cases listed (perm-mem (split listed d.each d.apart) ((readings-are m c y).1 i))) [
    | inl h ↦ inl h
    | inr h ↦ inr (λ x q. d.left x y q i (rest-new listed d.each d.apart y h))
  ]

  -- a list with room left holds every reading
  pub all-listed : (n : ℕ) (listed : List Reading) → Demand m n listed → length listed < n → (y : Reading) → IsReading m y → y ∈ listed
  all-listed n listed d h y i = nodup-fills listed (readings m) d.apart (λ x q. (readings-are m c x).1 (d.each x q)) (omega (arith, d.size, h)) y ((readings-are m c y).1 i)

  -- ---- n = 1: the reading that the parents give, or none where there is none
  pub demand-best : (x : Reading) → best m ≡ some x → Demand m 1 (x ∷ [])
  demand-best x e =
      let b = best-is m c x e in
      let same : (y : Reading) → y ∈ (x ∷ []) → x ≡ y = λ y h. sym (Memᴰ.eq_of_singleton h) in
      record {
        size = go (readings m) ((readings-are m c x).1 b.0);
        each = λ y h. subst (IsReading m) (same y h) b.0;
        apart = (λ h. Memᴰ.not-nil h, tt);
        order = tt;
        left = λ y z h i k. ≼_trans (≼-eq (ap cost (sym (same y h)) ∙ b.1)) (total-le m c z i);
      }
    where
      go : (l : List Reading) → x ∈ l → 1 ≡ min 1 (length l)
      go [] h = absurd (Memᴰ.not-nil h)
      go (y ∷ l) h = omega arith

  pub demand-none : (n : ℕ) → ((x : Reading) → IsReading m x → ⊥) → Demand m n []
  demand-none n f = record {
    size = go (readings m) (λ x h. f x ((readings-are m c x).0 h));
    each = λ x h. absurd (Memᴰ.not-nil h);
    apart = tt;
    order = tt;
    left = λ x y h i k. absurd (Memᴰ.not-nil h);
  }
    where
      go : (l : List Reading) → ((x : Reading) → x ∈ l → ⊥) → 0 ≡ min n (length l)
      go [] g = omega arith
      go (x ∷ l) g = absurd (g x (here x l))
