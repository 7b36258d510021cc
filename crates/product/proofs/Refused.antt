-- Refusals 14, 10, 11 and 12 of two machines in the user's words: from the number to the words, and back. Assumes nothing.
use mathlib.Core.Path.{◌≡◌, refl, sym, ap, ◌∙◌}
use mathlib.Core.Logic.{◌↔◌, inl, inr}
use mathlib.Core.Bool.{true, false, true≢false, not, ◌&&◌}
use mathlib.Core.Option.{Option, none, some}
use Prim.Native.Nat.{ℕ, ◌*◌, ◌/◌, ◌%◌, ◌≤◌, ◌<◌}
use native.Mathlib.Omega.{arith}
use lib.Dec.{eqb}
use lib.ListN.{length}
use borrow.Author.Tests.{not-false, lt-leb, leb-false, eqb-true, eqb-false, eq-eqb, ne_eqb}
use Rattle.std.proofs.lemmas.Bool.{and_cases, and_left, and_right, not_from_true, false_from_ne_true, true_from_ne_false}
use Rattle.tropical_weight.specs.Limits.{weight_limit, node_limit, link_limit}
use Rattle.tropical_weight.specs.Tropical.{Tropical}
use Rattle.sheet.specs.Sheet.{weight_fits}
use Rattle.sheet.specs.Machine.{Link, Machine, unit_in, bits_of}
use Rattle.sheet.proofs.Apart.{not-both}
use Rattle.sheet.proofs.Below.{all_below-fails, all_below-finds}
use Rattle.sheet.proofs.Forms.{covered}
use Rattle.machine.specs.Readings.{link, final}
use Rattle.machine.specs.Climbs.{Climbs, Small}
use Rattle.machine.proofs.Lists.{get_or-mem, mem-get_or}
use Rattle.machine.proofs.Readings.{final-in}
use Rattle.machine.proofs.SheetOf.{weight-fits}
use Rattle.product.specs.Product.{Pair, nodes, node_for, pairs, link_for, final_for, product}
use Rattle.product.specs.Refusals.{labelled, product_number}
use Rattle.product.specs.Fits.{final_fits, links_fit, finals_fit, sums_fit}
use Rattle.product.specs.Halves.{no_pair, pair_at}
use Rattle.product.specs.Refused.{Mislabelled, LinkSum, FinalSum, UnequalUnits, BadLabel, TooLarge, BadSum, Refused, Unrefused}
use Rattle.product.proofs.Nodes.{node-first, node-second, node-lt}
use Rattle.product.proofs.Pairs.{pairs-meet, meet-pairs}
use Rattle.product.proofs.PairCount.{pair-count}
use Rattle.product.proofs.Fields.{product-link, product-final}
use Rattle.product.proofs.Numbers.{fits-within, limits_fit, limits-apart, number-most, number-told, number-labels, number-limits, number-sums, number-passes}

-- ---- each test fails exactly where its words hold: labels
module _ (m : Machine) where
  mislabelled : labelled m ≡ false → Mislabelled m
  unfolding labelled
  mislabelled e =
      let r = all_below-finds (length m.links) (λ l. not (eqb (link m l).ilabel 0) && eqb (link m l).ilabel (link m l).olabel) e in
      let i = (link m r.0).ilabel in
      let o = (link m r.0).olabel in
      record {
        at = r.0;
        inside = r.1;
        wrong = elim (and_cases _ _ r.2) [ inl q ↦ inl (eqb-true i 0 (not-false _ q)) | inr q ↦ inr (λ z. eqb-false i o q (sym z)) ];
      }

  unlabelled : Mislabelled m → labelled m ≡ false
  unfolding labelled
  unlabelled w =
      let i = (link m w.at).ilabel in
      let o = (link m w.at).olabel in
      all_below-fails (length m.links) (λ l. not (eqb (link m l).ilabel 0) && eqb (link m l).ilabel (link m l).olabel) w.at w.inside
      (elim w.wrong [ inl z ↦ and_left _ _ (not_from_true _ (eq-eqb i 0 z)) | inr n ↦ and_right _ _ (ne_eqb i o (λ z. n (sym z))) ])

module _ (a b : Machine) where
  labels-fail : labelled a && labelled b ≡ false → BadLabel a b
  labels-fail e = elim (and_cases _ _ e) [ inl q ↦ inl (mislabelled a q) | inr q ↦ inr (mislabelled b q) ]

  fail-labels : BadLabel a b → labelled a && labelled b ≡ false
  fail-labels w = elim w [ inl q ↦ and_left _ _ (unlabelled a q) | inr q ↦ and_right _ _ (unlabelled b q) ]

  -- sums
  link-sum : links_fit a b ≡ false → LinkSum a b
  link-sum e =
      let r = all_below-finds (length (pairs a b)) (λ q. weight_fits (unit_in a) (bits_of (unit_in a) (link (product a b) q).weight)) e in
      let m = pairs-meet a b (get_or-mem (pairs a b) r.0 no_pair r.1) in
      record {
        first = (pair_at a b r.0).first;
        second = (pair_at a b r.0).second;
        in-first = m.in-first;
        in-second = m.in-second;
        same-label = m.same-label;
        off = λ w.
            not-both (weight-fits (unit_in a) (covered a.form) (link_for a b (pair_at a b r.0)).weight w)
            (sym (ap (λ (k : Link). weight_fits (unit_in a) (bits_of (unit_in a) k.weight)) (product-link a b r.0 r.1)) ∙ r.2);
      }

  final-sum : finals_fit a b ≡ false → FinalSum a b
  final-sum e = go (final a (v / nodes b)) (final b (v % nodes b)) refl refl (sym (ap (final_fits (unit_in a)) (product-final a b v r.1)) ∙ r.2)
    where
      r : (v : ℕ) × (v < nodes a * nodes b) × (final_fits (unit_in a) (final (product a b) v) ≡ false)
      r = all_below-finds (nodes a * nodes b) (λ v. final_fits (unit_in a) (final (product a b) v)) e

      v : ℕ
      v = r.0

      go : (f g : Option Tropical) → final a (v / nodes b) ≡ f → final b (v % nodes b) ≡ g → final_fits (unit_in a) (final_for f g) ≡ false → FinalSum a b
      go (some x) (some y) p q z = record {
        first = v / nodes b;
        second = v % nodes b;
        first_weight = x;
        second_weight = y;
        in-first = p;
        in-second = q;
        off = λ w. not-both (weight-fits (unit_in a) (covered a.form) _ w) z;
      }
      go (some x) none p q z = absurd (true≢false z)
      go none g p q z = absurd (true≢false z)

  sums-fail : sums_fit a b ≡ false → BadSum a b
  sums-fail e = elim (and_cases _ _ e) [ inl q ↦ inl (link-sum q) | inr q ↦ inr (final-sum q) ]

  -- ---- for machines that climb, and whose weights are within the limit: limits
  module _ (c : Climbs a) (d : Climbs b) (first-small : Small weight_limit a) (second-small : Small weight_limit b) where
    limits-fail : limits_fit a b ≡ false → TooLarge a b
    limits-fail e = elim (and_cases _ _ e) [
      | inl q ↦ inl (leb-false (nodes a * nodes b) node_limit q)
      | inr q ↦ inr (omega (arith, leb-false (length (pairs a b)) link_limit q, pair-count a b c d))
    ]

    fail-limits : TooLarge a b → limits_fit a b ≡ false
    fail-limits w = elim w [
      | inl h ↦ and_left _ _ (lt-leb (nodes a * nodes b) node_limit h)
      | inr h ↦ and_right _ _ (lt-leb (length (pairs a b)) link_limit (omega (arith, h, pair-count a b c d)))
    ]

    -- sums
    fail-link : LinkSum a b → links_fit a b ≡ false
    fail-link s =
        let p : Pair = record { first = s.first; second = s.second } in
        let g = mem-get_or no_pair (meet-pairs a b c d p (record { in-first = s.in-first; in-second = s.in-second; same-label = s.same-label })) in
        let small = fits-within (unit_in a) (covered a.form) (link a s.first).weight (link b s.second).weight (first-small.on_link s.first s.in-first) (second-small.on_link s.second s.in-second) in
        all_below-fails (length (pairs a b)) (λ q. weight_fits (unit_in a) (bits_of (unit_in a) (link (product a b) q).weight)) g.0 g.1
        (ap (λ (k : Link). weight_fits (unit_in a) (bits_of (unit_in a) k.weight)) (product-link a b g.0 g.1 ∙ ap (link_for a b) g.2)
        ∙ false_from_ne_true _ (λ e. s.off (small e)))

    fail-final : FinalSum a b → finals_fit a b ≡ false
    fail-final s =
        let low = final-in b s.second s.second_weight s.in-second in
        let v = node_for a b s.first s.second in
        let h = node-lt (nodes a) (nodes b) s.first s.second (final-in a s.first s.first_weight s.in-first) low in
        let f = ap (final a) (node-first (nodes b) s.first s.second low) ∙ s.in-first in
        let g = ap (final b) (node-second (nodes b) s.first s.second low) ∙ s.in-second in
        let small = fits-within (unit_in a) (covered a.form) s.first_weight s.second_weight (first-small.on_final s.first s.first_weight s.in-first) (second-small.on_final s.second s.second_weight s.in-second) in
        all_below-fails (nodes a * nodes b) (λ v. final_fits (unit_in a) (final (product a b) v)) v h
        (ap (final_fits (unit_in a)) (product-final a b v h ∙ (λ i. final_for (f i) (g i)))
        ∙ false_from_ne_true _ (λ e. s.off (small e)))

    fail-sums : BadSum a b → sums_fit a b ≡ false
    fail-sums w = elim w [ inl s ↦ and_left _ _ (fail-link s) | inr s ↦ and_right _ _ (fail-final s) ]

    pass-labels : (BadLabel a b → ⊥) → labelled a && labelled b ≡ true
    pass-labels n = true_from_ne_false (labelled a && labelled b) (λ e. n (labels-fail e))

    pass-limits : (TooLarge a b → ⊥) → (nodes a * nodes b ≤ node_limit) × (length (pairs a b) ≤ link_limit)
    pass-limits n = limits-apart a b (true_from_ne_false (limits_fit a b) (λ e. n (limits-fail e)))

    -- ---- from the number to the words, and back; of one unit
    module _ (same : unit_in a ≡ unit_in b) where
      one-unit : UnequalUnits a b → ⊥
      one-unit n = n same

      pub refused-is : Refused a b (product_number a b)
      refused-is = record {
        units = (λ e. absurd (omega (arith, e, number-most a b)), λ w. absurd (one-unit w));
        labels = (λ e. (one-unit, labels-fail ((number-told a b).labels e)), λ w. number-labels a b (fail-labels w.1));
        size = (
          λ e. let r = (number-told a b).size e in (one-unit, λ w. not-both r.0 (fail-labels w), limits-fail r.1),
          λ w. number-limits a b (pass-labels w.1) (fail-limits w.2),
        );
        sums = (
          λ e. let r = (number-told a b).sums e in (one-unit, λ w. not-both r.0 (fail-labels w), λ w. not-both r.1 (fail-limits w), sums-fail r.2),
          λ w. number-sums a b (pass-labels w.1) (pass-limits w.2).0 (pass-limits w.2).1 (fail-sums w.3),
        );
      }

      pub unrefused : product_number a b ≡ 0 ↔ Unrefused a b
      unrefused = (
        λ e. let r = (number-told a b).passes e in (one-unit, λ w. not-both r.0 (fail-labels w), λ w. not-both r.1 (fail-limits w), λ w. not-both r.2 (fail-sums w)),
        λ w. number-passes a b (pass-labels w.1) (pass-limits w.2).0 (pass-limits w.2).1 (true_from_ne_false _ (λ e. w.3 (sums-fail e))),
      )

  -- and of two units, whatever else is said of them
  pub refused-units : UnequalUnits a b → Refused a b 14
  refused-units n = record {
    units = (λ e. n, λ w. refl);
    labels = (λ e. absurd (omega arith), λ w. absurd (w.0 n));
    size = (λ e. absurd (omega arith), λ w. absurd (w.0 n));
    sums = (λ e. absurd (omega arith), λ w. absurd (w.0 n));
  }
