-- The Rust's array heap: a list of numbers under a strict order, given as a test. Definitions only.
use Rattle.std.specs.Prelude.{Bool, cond, ◌&&◌, List, [], ◌∷◌, ◌++◌, ℕ, zero, suc, ◌+◌, ◌-◌, ◌*◌, ◌/◌, eqb, leb, ltb, get_or, set, take}
use Rattle.std.proofs.Math.ListN.{length}

module _ (before : ℕ → ℕ → Bool) where
  abbrev pub parent : ℕ → ℕ
  parent i = (i - 1) / 2

  abbrev pub swapped : List ℕ → ℕ → ℕ → List ℕ
  swapped h i j = set (set h i (get_or h j 0)) j (get_or h i 0)

  -- Up from place i: swapped with the parent where it comes strictly before it, and again from there. The first argument is at least i.
  unfoldable pub sift_up : ℕ → List ℕ → ℕ → List ℕ
  sift_up zero h i = h
  sift_up (suc steps) h i =
      let up = sift_up steps (swapped h i (parent i)) (parent i) in
      cond (eqb i 0) h (cond (before (get_or h i 0) (get_or h (parent i) 0)) up h)

  -- of the children of place i in a heap of n, the second where there is one that comes strictly before the first
  abbrev pub second_first : List ℕ → ℕ → Bool
  second_first h i = before (get_or h (2 * i + 2) 0) (get_or h (2 * i + 1) 0)

  abbrev pub child : List ℕ → ℕ → ℕ → ℕ
  child h n i = cond (ltb (2 * i + 2) n && second_first h i) (2 * i + 2) (2 * i + 1)

  -- what stands at place i stays above place j where it comes strictly before what stands there
  abbrev pub stays : List ℕ → ℕ → ℕ → Bool
  stays h i j = before (get_or h i 0) (get_or h j 0)

  -- Down from place i in a heap of n: swapped with that child unless it stays, so on ties too, and again from there. The first
  -- argument is at least n - i.
  unfoldable pub sift_down : ℕ → ℕ → List ℕ → ℕ → List ℕ
  sift_down zero n h i = h
  sift_down (suc steps) n h i =
      let down = sift_down steps n (swapped h i (child h n i)) (child h n i) in
      cond (leb n (2 * i + 1)) h (cond (stays h i (child h n i)) h down)

  -- x put in: at the end, and then up
  unfoldable pub pushed : ℕ → List ℕ → List ℕ
  unfolding sift_up
  pushed x h = sift_up (length h) (h ++ (x ∷ [])) (length h)

  -- the head removed: the last goes to the root, and then down
  unfoldable pub popped : List ℕ → List ℕ
  unfolding sift_down
  popped h = let n = length h - 1 in sift_down n n (take n (set h 0 (get_or h n 0))) 0
