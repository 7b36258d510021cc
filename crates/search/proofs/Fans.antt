-- How many entries are put in: no more than the machine's marks and links allow, where node 0 is expanded at most once and any other at most n times. Assumes nothing.
use mathlib.Core.Path.{◌≡◌, refl, sym, ap, ◌∙◌}
use mathlib.Core.Bool.{cond}
use mathlib.Core.Option.{Option, none, some}
use mathlib.Core.List.Memᴰ
use mathlib.Core.List.{List, [], ◌∷◌, ◌++◌, map}
use Prim.Native.Nat.{ℕ, zero, suc, ◌+◌, ◌*◌, ◌≤◌, ◌<◌}
use native.Mathlib.Nat.{zero-mul, one-mul, add-mul, mul-le-mul_left, mul-le-mul_right}
use native.Mathlib.Omega.{arith}
use lib.ListN.{length, length-append, length-map}
use Rattle.tropical_weight.specs.Tropical.{Tropical}
use Rattle.sheet.specs.Below.{sum_below}
use Rattle.sheet.specs.Machine.{Link, Machine}
use Rattle.sheet.proofs.Below.{sum_below-same, sum_below-le, sum_below-add, sum_below-times, sum_below-first, sum_below-none, sum_below-only, sum_below-most}
use Rattle.machine.specs.Demand.{◌∈◌}
use Rattle.machine.specs.Readings.{is_at, marked}
use Rattle.machine.proofs.Lists.{here}
use Rattle.search.specs.Reversed.{Reversed, out_of_zero, links_into, out_of, is_end, reversed}
use Rattle.search.specs.Search.{most_taken}
use Rattle.search.proofs.Counts.{occurs, occurs-append, occurs-here, occurs-other, occurs-one}
use Rattle.search.proofs.Trails.{back, stop, moves_from}

-- ---- lists of numbers
-- fan v summed over the members v
unfoldable pub fan_sum : (ℕ → ℕ) → List ℕ → ℕ
fan_sum fan [] = 0
fan_sum fan (v ∷ l) = fan v + fan_sum fan l

pub fan-append : (fan : ℕ → ℕ) (l k : List ℕ) → fan_sum fan (l ++ k) ≡ fan_sum fan l + fan_sum fan k
unfolding fan_sum
fan-append fan [] k = omega arith
fan-append fan (v ∷ l) k = omega (arith, fan-append fan l k)

occurs-alone : (y : ℕ) → occurs y (y ∷ []) ≡ 1
unfolding occurs
occurs-alone y = occurs-here y []

occurs-not : (y v : ℕ) → (v ≡ y → ⊥) → occurs v (y ∷ []) ≡ 0
unfolding occurs
occurs-not y v n = occurs-other v y [] n

-- the same sum, by number instead of by member
by_number : (fan : ℕ → ℕ) (size : ℕ) (l : List ℕ) → ((v : ℕ) → v ∈ l → v < size) → fan_sum fan l ≡ sum_below size (λ v. occurs v l * fan v)
unfolding fan_sum
by_number fan size [] b = sym (sum_below-none size (λ v. occurs v [] * fan v) (λ v h. unfold occurs in zero-mul (fan v)))
by_number fan size (y ∷ l) b =
    omega (
      arith,
      sum_below-same size (λ v. occurs v (y ∷ l) * fan v) (λ v. alone v + rest v) (λ v h. ap (λ k. k * fan v) (occurs-append v (y ∷ []) l) ∙ add-mul (occurs v (y ∷ [])) (occurs v l) (fan v)),
      sum_below-add size alone rest,
      sum_below-only size alone y (λ v n. ap (λ k. k * fan v) (occurs-not y v n) ∙ zero-mul (fan v)) (b y (here y l)),
      ap (λ k. k * fan y) (occurs-alone y),
      one-mul (fan y),
      by_number fan size l (λ v q. b v (Memᴰ.tail q)),
    )
  where
    alone : ℕ → ℕ
    alone v = occurs v (y ∷ []) * fan v

    rest : ℕ → ℕ
    rest v = occurs v l * fan v

pub fan-sum : (fan cap : ℕ → ℕ) (size : ℕ) (l : List ℕ) → ((v : ℕ) → v ∈ l → v < size) → ((v : ℕ) → v < size → occurs v l ≤ cap v) → fan_sum fan l ≤ sum_below size (λ v. cap v * fan v)
fan-sum fan cap size l b c = omega (arith, by_number fan size l b, sum_below-le size (λ v. occurs v l * fan v) (λ v. cap v * fan v) (λ v h. mul-le-mul_right (fan v) (c v h)))

-- each member is one number, below the size or not
occurs-sum : (size : ℕ) (l : List ℕ) → sum_below size (λ v. occurs v l) ≤ length l
occurs-sum size [] = omega (arith, sum_below-none size (λ v. occurs v []) (λ v h. unfold occurs in refl))
occurs-sum size (y ∷ l) =
    omega (
      arith,
      sum_below-same size (λ v. occurs v (y ∷ l)) (λ v. occurs v (y ∷ []) + occurs v l) (λ v h. occurs-append v (y ∷ []) l),
      sum_below-add size (λ v. occurs v (y ∷ [])) (λ v. occurs v l),
      sum_below-most size (λ v. occurs v (y ∷ [])) y (occurs-not y),
      occurs-alone y,
      occurs-sum size l,
    )

-- what one expansion of a node puts in
abbrev pub fan_of : Reversed → ℕ → ℕ
fan_of r v = length (moves_from r v)

-- ---- of a machine
marks : (fs : List (Option Tropical)) (v : ℕ) → length (out_of_zero fs v) ≡ marked fs
unfolding out_of_zero marked
marks [] v = refl
marks (none ∷ fs) v = marks fs (suc v)
marks (some w ∷ fs) v = ap suc (marks fs (suc v))

-- the nodes that links lead to, in link order
abbrev nexts : List Link → List ℕ
nexts ks = map (λ k. k.next) ks

into-count : (v : ℕ) (ks : List Link) (l : ℕ) → length (links_into v ks l) ≡ occurs v (nexts ks)
unfolding links_into
into-count v [] l = unfold occurs in refl
into-count v (k ∷ ks) l = occurs-one v k.next (nexts ks) (record { input = some l; weight = k.weight; next = suc k.source }) (links_into v ks (suc l)) (into-count v ks (suc l))

-- the start, where there is one
abbrev starts : Option ℕ → List ℕ
starts none = []
starts (some s) = s ∷ []

stop-count : (o : Option ℕ) (v : ℕ) → length (cond (is_at o v) (stop ∷ []) []) ≡ occurs v (starts o)
stop-count none v = unfold occurs in refl
stop-count (some s) v = occurs-one v s [] stop [] (unfold occurs in refl)

-- the most that a node is expanded
abbrev pub cap : ℕ → ℕ → ℕ
cap n zero = 1
cap n (suc v) = n

module _ (m : Machine) where
  abbrev fan : ℕ → ℕ
  fan v = fan_of (reversed m) v

  -- node v, once for each entry that an expansion of v + 1 puts in
  abbrev targets : List ℕ
  targets = nexts m.links ++ starts m.start

  fan-zero : fan 0 ≡ marked m.finals
  fan-zero = length-append (map back (out_of m 0)) [] ∙ omega (arith, length-map (out_of m 0) back, marks m.finals 0)

  fan-suc : (v : ℕ) → fan (suc v) ≡ occurs v targets
  fan-suc v =
      length-append (map back (out_of m (suc v))) (cond (is_end m (suc v)) (stop ∷ []) [])
      ∙ omega (arith, length-map (out_of m (suc v)) back, into-count v m.links 0, stop-count m.start v, occurs-append v (nexts m.links) (starts m.start))

  few-targets : length targets ≤ length m.links + 1
  few-targets = omega (arith, length-append (nexts m.links) (starts m.start), length-map m.links (λ k. k.next), few m.start)
    where
      few : (o : Option ℕ) → length (starts o) ≤ 1
      few none = omega arith
      few (some s) = omega arith

  pub fans : (n : ℕ) → sum_below (suc (length m.finals)) (λ v. cap n v * fan v) ≤ marked m.finals + n * (length m.links + 1)
  fans n =
      omega (
        arith,
        sum_below-first nodes (λ v. cap n v * fan v),
        one-mul (fan 0),
        fan-zero,
        sum_below-times n nodes (λ v. fan (suc v)),
        mul-le-mul_left n below,
      )
    where
      nodes : ℕ
      nodes = length m.finals

      below : sum_below nodes (λ v. fan (suc v)) ≤ length m.links + 1
      below = omega (arith, sum_below-same nodes (λ v. fan (suc v)) (λ v. occurs v targets) (λ v h. fan-suc v), occurs-sum nodes targets, few-targets)

  pub put-bound : (n : ℕ) (l : List ℕ) → ((v : ℕ) → v ∈ l → v < suc (length m.finals)) → occurs 0 l ≤ 1 → ((v : ℕ) → occurs v l ≤ n) → 1 + fan_sum fan l ≤ most_taken m n
  put-bound n l b z c = omega (arith, fan-sum fan (cap n) (suc (length m.finals)) l b capped, fans n)
    where
      capped : (v : ℕ) → v < suc (length m.finals) → occurs v l ≤ cap n v
      capped zero h = z
      capped (suc v) h = c (suc v)
