-- Refusal 13 in the user's words: from the test to the words, and back. Assumes nothing.
use mathlib.Core.Path.{◌≡◌, refl, ap, ◌∙◌}
use mathlib.Core.Logic.{◌⊎◌, inl, inr}
use mathlib.Core.Bool.{Bool, true, false, true≢false, not, ◌&&◌, cond}
use mathlib.Core.Option.{Option, none, some}
use Prim.Native.Nat.{ℕ, ◌<◌}
use native.Mathlib.Omega.{arith}
use lib.Dec.{ltb}
use lib.ListN.{length}
use borrow.Author.Tests.{not-false, ltb-true, ltb-false, leb-false, lt-ltb, le-ltb, lt-leb}
use Rattle.std.proofs.lemmas.Bool.{and_cases, and_from, and_left, and_right, not_from_true, true_from_ne_false}
use Rattle.tropical_weight.specs.Tropical.{Tropical}
use Rattle.sheet.specs.Machine.{Machine}
use Rattle.sheet.proofs.Apart.{both}
use Rattle.sheet.proofs.Below.{all_below-finds, all_below-fails}
use Rattle.machine.specs.Readings.{link, final}
use Rattle.sheet.specs.declared.refusal.Refusal.{Refusal}
use Rattle.sheet.proofs.Refusals.{Known, known, known-cond}
use Rattle.narrowing.specs.Narrows.{narrow_number, starts_by, unmarked, unmarked_below, none_past, narrows}
use Rattle.narrowing.specs.Refused.{StartsAbove, MarkedBelow, LeadsPast, Wide}

module _ (c : ℕ) (m : Machine) where
  -- ---- each test fails exactly where its words hold
  start-fails : starts_by c m.start ≡ false → (m.start ≡ none) ⊎ StartsAbove c m
  start-fails = go m.start refl
    where
      go : (s : Option ℕ) → m.start ≡ s → starts_by c s ≡ false → (m.start ≡ none) ⊎ StartsAbove c m
      go none e f = inl e
      go (some s) e f = inr (record { start = s; starts = e; above = leb-false s c f })

  fail-start : StartsAbove c m → starts_by c m.start ≡ false
  fail-start w = ap (starts_by c) w.starts ∙ lt-leb w.start c w.above

  mark-fails : unmarked_below c m ≡ false → MarkedBelow c m
  unfolding unmarked_below
  mark-fails e = let r = all_below-finds c (λ v. unmarked (final m v)) e in go r.0 r.1 (final m r.0) refl r.2
    where
      go : (v : ℕ) → v < c → (f : Option Tropical) → final m v ≡ f → unmarked f ≡ false → MarkedBelow c m
      go v h none e f = absurd (true≢false f)
      go v h (some w) e f = record { node = v; weight = w; below = h; marked = e }

  fail-mark : MarkedBelow c m → unmarked_below c m ≡ false
  unfolding unmarked_below
  fail-mark w = all_below-fails c (λ v. unmarked (final m v)) w.node w.below (ap unmarked w.marked)

  link-fails : none_past c m ≡ false → LeadsPast c m
  unfolding none_past
  link-fails e =
      let r = all_below-finds (length m.links) (λ l. not (ltb (link m l).source c && ltb c (link m l).next)) e in
      let p = both _ _ (not-false _ r.2) in
      record { at = r.0; inside = r.1; from_below = ltb-true (link m r.0).source c p.0; to_above = ltb-true c (link m r.0).next p.1 }

  fail-link : LeadsPast c m → none_past c m ≡ false
  unfolding none_past
  fail-link w =
      all_below-fails (length m.links) (λ l. not (ltb (link m l).source c && ltb c (link m l).next)) w.at w.inside
      (not_from_true _ (and_from _ _ (lt-ltb (link m w.at).source c w.from_below) (lt-ltb c (link m w.at).next w.to_above)))

  -- ---- from the number to the words, and back
  pub wide : narrows c m ≡ false → Wide c m
  unfolding narrows
  wide e = elim (and_cases _ _ e) [
    | inl x ↦ elim (and_cases _ _ x) [
      | inl y ↦ elim (and_cases _ _ y) [
        | inl z ↦ inl (ltb-false c (length m.finals) z)
        | inr z ↦ elim (start-fails z) [ inl a ↦ inr (inl a) | inr a ↦ inr (inr (inl a)) ]
      ]
      | inr y ↦ inr (inr (inr (inl (mark-fails y))))
    ]
    | inr x ↦ inr (inr (inr (inr (link-fails x))))
  ]

  pub unwide : Wide c m → narrows c m ≡ false
  unfolding narrows
  unwide (inl h) = and_left _ _ (and_left _ _ (and_left _ _ (le-ltb c (length m.finals) h)))
  unwide (inr (inl e)) = and_left _ _ (and_left _ _ (and_right _ _ (ap (starts_by c) e)))
  unwide (inr (inr (inl w))) = and_left _ _ (and_left _ _ (and_right _ _ (fail-start w)))
  unwide (inr (inr (inr (inl w)))) = and_left _ _ (and_right _ _ (fail-mark w))
  unwide (inr (inr (inr (inr w)))) = and_right _ _ (fail-link w)

-- ---- its number: what 0 and 13 tell of a test, and that it is no other
abbrev by : Bool → ℕ
by b = cond b 0 13

told : (b : Bool) → (by b ≡ 0 → b ≡ true) × (by b ≡ 13 → b ≡ false) × (by b ≡ 21 → ⊥)
told true = (λ e. refl, λ e. absurd (omega (arith, e)), λ e. omega (arith, e))
told false = (λ e. absurd (omega (arith, e)), λ e. refl, λ e. omega (arith, e))

module _ (c : ℕ) (m : Machine) where
  pub narrow-known : Known (narrow_number c m)
  narrow-known = known-cond (narrows c m) 0 13 (inl refl) (known Refusal.Narrow)

  pub number-passes : narrows c m ≡ true → narrow_number c m ≡ 0
  number-passes e = ap by e

  pub passes-number : narrow_number c m ≡ 0 → narrows c m ≡ true
  passes-number = (told (narrows c m)).0

  pub number-not-21 : narrow_number c m ≡ 21 → ⊥
  number-not-21 = (told (narrows c m)).2

  -- 13 in the user's words, and back
  pub number-wide : narrow_number c m ≡ 13 → Wide c m
  number-wide e = wide c m ((told (narrows c m)).1 e)

  pub wide-number : Wide c m → narrow_number c m ≡ 13
  wide-number w = ap by (unwide c m w)

  pub narrow-enough : (Wide c m → ⊥) → narrows c m ≡ true
  narrow-enough n = true_from_ne_false (narrows c m) (λ e. n (wide c m e))
