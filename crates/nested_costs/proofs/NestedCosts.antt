-- The costs listed for k are the first k of those listed for n, where k is at most n; and which readings may differ. Assumes nothing.
use mathlib.Core.Path.{◌≡◌, sym, ap, ◌∙◌, subst}
use mathlib.Core.Logic.{◌⊎◌, inl, inr}
use mathlib.Core.Option.{Option, none, some}
use mathlib.Core.List.Memᴰ
use mathlib.Core.List.{List, [], ◌∷◌, ◌++◌}
use Prim.Native.Nat.{ℕ, ◌≤◌, ◌<◌}
use native.Mathlib.Decide.{ℕ_discrete}
use native.Mathlib.Omega.{arith}
use lib.ListN.{length, take, drop, get_or, length-map, length-append, length-take, take-append-drop}
use lib.Seq.{take-take}
use Rattle.std.specs.Prelude.{Result}
use Rattle.std.proofs.lemmas.List.{take-map, get_or-take}
use Rattle.tropical_weight.specs.Tropical.{Tropical, inf, ◌≼◌}
use Rattle.tropical_weight.proofs.Semiring.{≼-eq, ≼_trans, ≼-antisym}
use Rattle.sheet.specs.declared.refusal.Refusal.{Refusal}
use Rattle.sheet.specs.Machine.{Machine, machine}
use Rattle.sheet.proofs.Refusals.{answer-some}
use Rattle.sheet.proofs.Round.{Below}
use Rattle.machine.specs.Readings.{Reading, IsReading, reading_cost}
use Rattle.machine.specs.Climbs.{Climbs}
use Rattle.machine.specs.Parents.{best}
use Rattle.machine.specs.Demand.{◌∈◌, NoDup, Demand}
use Rattle.machine.specs.Input.{input_number}
use Rattle.machine.proofs.Demand.{sorted, demand-costs, demand-best, demand-none, listed-or, all-listed}
use Rattle.machine.proofs.Lists.{here, map-mem, mem-map, map-append, nodup-only, nodup-fills, same-by, get_or-mem, get_d_map}
use Rattle.machine.proofs.Parents.{no-best}
use Rattle.machine.proofs.Sort.{Ordered, rises-ordered, ordered-across}
use Rattle.search.proofs.Lists.{accepted}
use Rattle.list_answer.specs.declared.Listed.{Listed}
use Rattle.shortest_path.specs.Outcome.{result_of, counts_of, list_number, result_after}
use Rattle.shortest_path.specs.Promise.{if_any, Promised}
use Rattle.shortest_path.proofs.Outcomes.{number-zero}
use Rattle.shortest_path.proofs.Promises.{promised}
use Rattle.nested_costs.specs.NestedCosts.{costs, best_cost, Cheaper, Untied, Parted, reading_at, NestedCosts, ListFor, ShorterLists, Made, readings_for}

module _ (m : Machine) (c : Climbs m) where
  abbrev cost : Reading → Tropical
  cost = reading_cost m

  -- the best reading, or none where there is none, is a list for n = 1
  best-listed : (o : Option Reading) → best m ≡ o → Demand m 1 (if_any o)
  best-listed none e = demand-none m c 1 (no-best m c e)
  best-listed (some x) e = demand-best m c x e

  best-sorted : best_cost m ≡ take 1 (sorted m c)
  best-sorted = demand-costs m c 1 (if_any (best m)) (best-listed (best m) (λ i. best m))

  -- two lists that are complete and in order
  module _ (k n : ℕ) (short long : List Reading) (d : Demand m k short) (e : Demand m n long) (one : 1 ≤ k) (h : k ≤ n) where
    front : costs m short ≡ take k (costs m long)
    front = demand-costs m c k short d ∙ sym (take-take k n (sorted m c) h) ∙ ap (take k) (sym (demand-costs m c n long e))

    head : (n : ℕ) (l : List Reading) → Demand m n l → 1 ≤ n → take 1 (costs m l) ≡ best_cost m
    head n l d b = ap (take 1) (demand-costs m c n l d) ∙ take-take 1 n (sorted m c) b ∙ sym best-sorted

    -- ---- the longer list in two: its first k readings, which cost what the shorter list does, and the rest
    abbrev first : List Reading
    first = take k long

    abbrev rest : List Reading
    rest = drop k long

    first-costs : costs m short ≡ costs m first
    first-costs = front ∙ take-map cost k long

    first-length : length short ≡ length first
    first-length = sym (length-map short cost) ∙ ap length first-costs ∙ length-map first cost

    cut : {x : Reading} → x ∈ long → (x ∈ first) ⊎ (x ∈ rest)
    cut {x} q = Memᴰ.append_cases first (subst (λ l. x ∈ l) (sym (take-append-drop k long)) q)

    first-long : {x : Reading} → x ∈ first → x ∈ long
    first-long {x} q = subst (λ l. x ∈ l) (take-append-drop k long) (Memᴰ.append_left rest q)

    rest-long : {x : Reading} → x ∈ rest → x ∈ long
    rest-long {x} q = subst (λ l. x ∈ l) (take-append-drop k long) (Memᴰ.append_right first q)

    in_order : Ordered (costs m first ++ costs m rest)
    in_order = subst Ordered (ap (costs m) (sym (take-append-drop k long)) ∙ map-append cost first rest) (rises-ordered (costs m long) e.order)

    rest-dearer : (x y : Reading) → x ∈ first → y ∈ rest → cost x ≼ cost y
    rest-dearer x y p q = ordered-across (costs m first) (costs m rest) in_order (cost x) (cost y) (map-mem cost p) (map-mem cost q)

    -- one on the shorter list costs what one of the first k does
    partner : (x : Reading) → x ∈ short → (y : Reading) × (y ∈ first) × (cost x ≡ cost y)
    partner x q = mem-map cost first (subst (λ l. cost x ∈ l) first-costs (map-mem cost q))

    -- ---- which readings may differ
    cheaper : (x y : Reading) → IsReading m x → y ∈ short → Cheaper m x y → (x ∈ short) × (x ∈ first)
    cheaper x y i q less = (
      elim (listed-or m c k short d x i) [ inl p ↦ p | inr f ↦ absurd (less (f y q)) ],
      elim (listed-or m c n long e x i) [
        | inl p ↦ elim (cut p) [ inl b ↦ b | inr r ↦ absurd (less (≼_trans (≼-eq z.2) (rest-dearer z.0 x z.1 r))) ]
        | inr f ↦ absurd (less (≼_trans (≼-eq z.2) (f z.0 (first-long z.1))))
      ],
    )
      where
        z : (y' : Reading) × (y' ∈ first) × (cost y ≡ cost y')
        z = partner y q

    ranked : (place : ℕ) → place < length short → Untied m (reading_at long place) → reading_at short place ≡ reading_at long place
    ranked place b u = u (reading_at short place) (d.each (reading_at short place) (get_or-mem short place _ b)) (
        sym (get_d_map cost short place _ inf b)
        ∙ ap (λ l. get_or l place inf) first-costs
        ∙ get_d_map cost first place _ inf (omega (arith, b, first-length))
        ∙ ap cost (get_or-take k long place _ (omega (arith, b, first-length, length-take k long)))
        )

    kept : (x : Reading) → x ∈ short → (x ∈ long) ⊎ ((length long ≡ n) × ((y : Reading) → y ∈ long → cost y ≼ cost x))
    kept x q = elim (listed-or m c n long e x (d.each x q)) [ inl p ↦ inl p | inr f ↦ go f (ℕ_discrete (length long) n) ]
      where
        go : ((y : Reading) → y ∈ long → cost y ≼ cost x) → Dec (length long ≡ n) → (x ∈ long) ⊎ ((length long ≡ n) × ((y : Reading) → y ∈ long → cost y ≼ cost x))
        go f (yes z) = inr (z, f)
        go f (no z) = inl (all-listed m c n long e (omega (arith, d.size, e.size, z)) x (d.each x q))

    -- ---- where none of the first k costs stands behind them
    module _ (b : k < n) (apart : Parted m first rest) where
      -- so none that costs what one of them does is at least as dear as all those behind them, if there are any
      untied : (x z : Reading) → z ∈ first → cost x ≡ cost z → (r : List Reading) → ((y : Reading) → y ∈ r → y ∈ rest) → (0 < length r) × ((y : Reading) → y ∈ r → cost y ≼ cost x) → ⊥
      untied x z q t [] u p = omega (arith, p.0)
      untied x z q t (w ∷ r) u p = let h = u w (here w r) in apart z w q h (≼-antisym (rest-dearer z w q h) (≼_trans (p.1 w (here w r)) (≼-eq t)))

      inside : (x : Reading) → x ∈ short → x ∈ first
      inside x q =
          let z = partner x q in
          elim (kept x q) [
            | inl p ↦ elim (cut p) [ inl f ↦ f | inr r ↦ absurd (apart z.0 x z.1 r (sym z.2)) ]
            | inr f ↦ absurd (untied x z.0 z.1 z.2 rest (λ y p. p) (more f.0, λ y p. f.1 y (rest-long p)))
          ]
        where
          more : length long ≡ n → 0 < length rest
          more e = omega (arith, b, e, length-take k long, length-append first rest, ap length (take-append-drop k long))

      whole : (x : Reading) → (x ∈ short → x ∈ first) × (x ∈ first → x ∈ short)
      whole x = (inside x, nodup-fills short first d.apart inside (omega (arith, first-length)) x)

      same : NoDup (take k (costs m long)) → short ≡ first
      same once = same-by cost short first first-costs (λ x y p q s. nodup-only cost first (subst NoDup (take-map cost k long) once) x y (inside x p) q s)

    pub demand-nested : NestedCosts m k n short long
    demand-nested = record {
      front = front;
      heads = (head k short d one, head n long e (omega arith));
      cheaper = cheaper;
      ranked = ranked;
      kept = kept;
      whole = whole;
      same = same;
    }

module _ (sheet : List ℕ) (bytes : Below 256 sheet) where
  -- what the call for lists promises of each of its results says that it is complete and in order
  beside : input_number sheet ≡ 0 → (n : ℕ) (told : Listed) (result : List ℕ) → ListFor sheet n told result → ShorterLists sheet n told result
  beside z n told result long k less other one h short = demand-nested (machine sheet) (accepted sheet bytes z).climbs k n _ _ short.demand long.demand one h

  -- a call that refuses nothing has tested the sheet
  tested : (n words : ℕ) (area : List ℕ) → Made sheet n words area → input_number sheet ≡ 0
  tested n words area made =
      let z = answer-some (counts_of (result_of sheet n)) (list_number sheet n words (length area)) made.told (sym made.answers) in
      (number-zero sheet n words (length area) z.0).0

  -- Of one call, beside every other result that keeps its promise.
  pub shorter-lists : (n words : ℕ) (area : List ℕ) (made : Made sheet n words area) (result : List ℕ) → ListFor sheet n made.told result → ShorterLists sheet n made.told result
  shorter-lists n words area made = beside (tested n words area made) n made.told

  list-for : (n words : ℕ) (area : List ℕ) (made : Made sheet n words area) → ListFor sheet n made.told (result_after sheet n words area)
  list-for n words area made = subst (λ (l : Result Listed Refusal). Promised sheet n l (result_after sheet n words area)) made.answers (promised sheet bytes n words area)

  -- Two calls on a sheet, neither refused, whatever their areas.
  pub nested-costs : (k n short_words long_words : ℕ) (short_area long_area : List ℕ) (less : Made sheet k short_words short_area) (more : Made sheet n long_words long_area)
      → 1 ≤ k
      → k ≤ n
      → NestedCosts (machine sheet) k n (readings_for sheet k short_words short_area less) (readings_for sheet n long_words long_area more)
  nested-costs k n short_words long_words short_area long_area less more one h =
      shorter-lists n long_words long_area more _ (list-for n long_words long_area more) k less.told _ one h (list-for k short_words short_area less)
