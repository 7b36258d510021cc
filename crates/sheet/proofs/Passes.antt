-- What the passes find is what the tests say, and the number that follows is the verdict. Assumes nothing.
use mathlib.Core.Path.{◌≡◌, refl, sym, ap, ◌∙◌}
use mathlib.Core.Logic.{inl}
use mathlib.Core.Bool.{Bool, true, false, not, cond}
use Prim.Native.Nat.{ℕ, ◌+◌, ◌*◌, ◌≤◌, ◌<◌}
use native.Mathlib.Numerals.{add-one}
use native.Mathlib.Omega.{arith}
use Rattle.sheet.specs.declared.tests.NodeTests.{NodeTests}
use Rattle.sheet.specs.declared.tests.LinkTests.{LinkTests}
use Rattle.sheet.specs.declared.refusal.Refusal.TheVariants as Refusal
use Rattle.sheet.specs.Below.{all_below, sum_below}
use Rattle.sheet.specs.Tests.{with_node, with_link, node_tests, link_tests}
use Rattle.sheet.proofs.Refusals.{Known, known, known-cond}

-- ---- one record more, as a turn of the code's loop has it
pub node-turn : (j v : ℕ) (count mark bits : ℕ → ℕ) (t r : NodeTests) (x y z : ℕ)
    → r ≡ with_node j t x y z → t ≡ node_tests j v count mark bits → x ≡ count v → y ≡ mark v → z ≡ bits v → r ≡ node_tests j (v + 1) count mark bits
unfolding all_below sum_below
node-turn j v count mark bits t r x y z e h p q s = e ∙ (λ i. with_node j (h i) (p i) (q i) (s i)) ∙ sym (ap (λ (k : ℕ). node_tests j k count mark bits) (add-one v))

-- the links counted fit a u64, as many nodes as a u32 can number
pub node-bound : (j v : ℕ) (t r : NodeTests) (x y z : ℕ) → r ≡ with_node j t x y z → x < 4294967296 → t.links ≤ v * 4294967295 → r.links ≤ (v + 1) * 4294967295
node-bound j v t r x y z e h l = omega (arith, ap (λ (n : NodeTests). n.links) e)

pub link-turn : (j l nodes : ℕ) (bits next : ℕ → ℕ) (t r : LinkTests) (x y : ℕ)
    → r ≡ with_link j t x y nodes → t ≡ link_tests j l nodes bits next → x ≡ bits l → y ≡ next l → r ≡ link_tests j (l + 1) nodes bits next
unfolding all_below
link-turn j l nodes bits next t r x y e h p q = e ∙ (λ i. with_link j (h i) (p i) (q i) nodes) ∙ sym (ap (λ (k : ℕ). link_tests j k nodes bits next) (add-one l))

pub node_tests-none : (j : ℕ) (count mark bits : ℕ → ℕ) → record { marked = true; links = 0; weights = true } ≡ node_tests j 0 count mark bits
unfolding all_below sum_below
node_tests-none j count mark bits = refl

pub link_tests-none : (j nodes : ℕ) (bits next : ℕ → ℕ) → record { nexts = true; weights = true } ≡ link_tests j 0 nodes bits next
unfolding all_below
link_tests-none j nodes bits next = refl

-- ---- the number, by the tests in their order
module _ (A U B C D : Bool) where
  abbrev pub first_failing : ℕ
  first_failing = cond (not A) 1 (cond (not U) 14 (cond (not B) 2 (cond (not C) 3 (cond (not D) 4 0))))

  pub first-1 : A ≡ false → 1 ≡ first_failing
  first-1 a = simp a

  pub first-14 : A ≡ true → U ≡ false → 14 ≡ first_failing
  first-14 a u = simp (a, u)

  pub first-2 : A ≡ true → U ≡ true → B ≡ false → 2 ≡ first_failing
  first-2 a u b = simp (a, u, b)

  pub first-3 : A ≡ true → U ≡ true → B ≡ true → C ≡ false → 3 ≡ first_failing
  first-3 a u b c = simp (a, u, b, c)

  pub first-4 : A ≡ true → U ≡ true → B ≡ true → C ≡ true → D ≡ false → 4 ≡ first_failing
  first-4 a u b c d = simp (a, u, b, c, d)

  pub first-none : A ≡ true → U ≡ true → B ≡ true → C ≡ true → D ≡ true → 0 ≡ first_failing
  first-none a u b c d = simp (a, u, b, c, d)

pub first-known : (A U B C D : Bool) → Known (first_failing A U B C D)
first-known A U B C D =
    known-cond (not A) 1 _ (known Refusal.Layout)
    (known-cond (not U) 14 _ (known Refusal.Unit) (known-cond (not B) 2 _ (known Refusal.Start) (known-cond (not C) 3 _ (known Refusal.Next) (known-cond (not D) 4 _ (known Refusal.Weight) (inl refl)))))
