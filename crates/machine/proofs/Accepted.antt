-- The machine of a sheet that passes tests 1, 14 and 2 to 6 climbs, its weights are within the limit or barred, and each weight's field is its value in single
-- precision. Assumes nothing.
use mathlib.Core.Path.{◌≡◌, refl, sym, ap, ◌∙◌, subst}
use mathlib.Core.Logic.{◌⊎◌, inl, inr}
use mathlib.Core.Bool.{Bool, true, false, not, ◌&&◌, ◌||◌, cond, or-false}
use mathlib.Core.Option.{none, some}
use mathlib.Core.List.{List}
use Prim.Native.Nat.{ℕ, ◌≤◌, ◌<◌, ◌^◌}
use native.Mathlib.Omega.{arith}
use lib.Dec.{T, leb, ltb, eqb, leb→le, ltb→lt, lit≤}
use lib.ListN.{length, get_or, get_or-eq_default}
use lib.Ieee.{binary32, of_bits, to_bits, is_nan}
use lib.Ieee.Bits.{of_bits-fits, to_bits-of_bits}
use lib.Ieee.Fits.{and_l, and_r}
use borrow.Author.Tests.{eqb-true}
use Rattle.tropical_weight.specs.Limits.{finest, weight_limit, sum_limit, node_limit, link_limit}
use Rattle.tropical_weight.specs.Tropical.{Tropical, fin, inf, Within}
use Rattle.tropical_weight.specs.Grid.{of_t, grid_bits, units_of}
use Rattle.tropical_weight.proofs.Exact.{of_t-no-nan, bits_back}
use Rattle.tropical_weight.proofs.Sums.{within-mono}
use Rattle.tropical_weight.proofs.Grid.{on_grid-whole}
use Rattle.sheet.specs.Below.{all_below, sum_below}
use Rattle.sheet.specs.Sheet.{Parts, unit_of, unit_fits, no_start, link_count, node_count, count, mark, final_bits, link_bits, next, well_marked, start_fits, barred_bits, weight_fits, nodes_fit, nexts_fit, weights_fit, verdict, parts_of, sizes_fit, form_of, read_number}
use Rattle.sheet.specs.Machine.{machine_of, machine, sources_below, weight_of, bits_of, link_of}
use Rattle.sheet.proofs.Below.{all_below-at, split_at}
use Rattle.sheet.proofs.Sources.{sources-rise, length-sources, counts-sum, machine-link, machine-links, machine-final, machine-nodes}
use Rattle.sheet.proofs.Forms.{covered}
use Rattle.sheet.proofs.Passes.{first_failing}
use Rattle.sheet.proofs.Encoding.{bits-inf}
use Rattle.machine.specs.Readings.{link, final, no_link}
use Rattle.machine.specs.Climbs.{Climbs, Small}
use Rattle.sheet.proofs.Apart.{both}
use Rattle.sheet.proofs.Refusals.{first-zero}
use Rattle.machine.specs.Input.{counts_fit, links_climb, bounds_number, input_number}

-- ---- a weight's field that passes test 4, in units of 1 / 2 ^ j
module _ (j : ℕ) (c : j ≤ finest) (bits : ℕ) where
  pub weight-within : weight_fits j bits ≡ true → Within weight_limit (weight_of j bits)
  unfolding grid_bits
  weight-within e = go (eqb bits barred_bits) e
    where
      go : (t : Bool) → t || grid_bits j weight_limit bits ≡ true → Within weight_limit (cond t inf (fin (units_of j (of_bits binary32 bits))))
      go true e = tt
      go false e = (on_grid-whole j c weight_limit (lit≤ tt) (of_bits binary32 bits) (of_bits-fits binary32 bits) e).few

  pub weight-value : weight_fits j bits ≡ true → of_bits binary32 bits ≡ of_t j (weight_of j bits)
  unfolding grid_bits
  weight-value e = go (eqb bits barred_bits) refl e
    where
      go : (t : Bool) → eqb bits barred_bits ≡ t → t || grid_bits j weight_limit bits ≡ true → of_bits binary32 bits ≡ of_t j (cond t inf (fin (units_of j (of_bits binary32 bits))))
      go true q e = ap (of_bits binary32) (eqb-true bits barred_bits q ∙ sym (bits-inf j)) ∙ bits_back j c inf
      go false q e = (on_grid-whole j c weight_limit (lit≤ tt) (of_bits binary32 bits) (of_bits-fits binary32 bits) e).is

  -- the field of its weight is the field again
  pub bits-again : bits < 2 ^ 32 → weight_fits j bits ≡ true → bits_of j (weight_of j bits) ≡ bits
  bits-again h e =
      let few = within-mono weight_limit sum_limit (weight_of j bits) (let z : weight_limit ≤ sum_limit = omega arith in z) (weight-within e) in
      let value = weight-value e in
      ap (to_bits binary32) (sym value)
      ∙ to_bits-of_bits binary32 bits h (subst (λ (b : Bool). T (not b)) (sym (ap is_nan value ∙ of_t-no-nan j c (weight_of j bits) few)) tt)

-- ---- what the tests say, taken apart
pub record Passes (p : Parts) : Type 0 where
  pub nodes-fit : nodes_fit p ≡ true
  pub unit_fits_lem : unit_fits p.form ≡ true
  pub start_fits_lem : start_fits (node_count p) p.start ≡ true
  pub nexts-fit : nexts_fit p ≡ true
  pub weights-fit : weights_fit p ≡ true
  pub counts-fit : counts_fit p ≡ true
  pub climb : links_climb p ≡ true

-- five tests in a row that leave 0 all passed
all-five : (a u b c d : Bool) → first_failing a u b c d ≡ 0 → (a ≡ true) × (u ≡ true) × (b ≡ true) × (c ≡ true) × (d ≡ true)
all-five true true true true true e = (refl, refl, refl, refl, refl)
all-five true true true true false e = absurd (omega arith)
all-five true true true false d e = absurd (omega arith)
all-five true true false c d e = absurd (omega arith)
all-five true false b c d e = absurd (omega arith)
all-five false u b c d e = absurd (omega arith)

pub verdict-passes : (laidOut : Bool) (p : Parts) → verdict laidOut p ≡ 0
    → (laidOut ≡ true) × (nodes_fit p ≡ true) × (unit_fits p.form ≡ true) × (start_fits (node_count p) p.start ≡ true) × (nexts_fit p ≡ true) × (weights_fit p ≡ true)
unfolding verdict
verdict-passes laidOut p e =
    let r = all-five (laidOut && nodes_fit p) (unit_fits p.form) (start_fits (node_count p) p.start) (nexts_fit p) (weights_fit p) e in
    let s = both laidOut (nodes_fit p) r.0 in
    (s.0, s.1, r.1, r.2, r.3, r.4)

pub bounds-passes : (p : Parts) → bounds_number p ≡ 0 → (counts_fit p ≡ true) × (links_climb p ≡ true)
unfolding bounds_number
bounds-passes p = go (counts_fit p) (links_climb p)
  where
    go : (a b : Bool) → ◌≡◌ {A = ℕ} (cond (not a) 5 (cond (not b) 6 0)) 0 → (a ≡ true) × (b ≡ true)
    go true true e = (refl, refl)
    go true false e = absurd (omega arith)
    go false b e = absurd (omega arith)

-- the two parts of the input's number
pub input-read : (bytes : List ℕ) → input_number bytes ≡ 0 → (read_number bytes ≡ 0) × (bounds_number (parts_of bytes) ≡ 0)
unfolding input_number
input-read bytes e = first-zero (read_number bytes) (bounds_number (parts_of bytes)) e

pub passes : (bytes : List ℕ) → input_number bytes ≡ 0 → Passes (parts_of bytes)
unfolding read_number
passes bytes e =
    let r = input-read bytes e in
    let v = verdict-passes (sizes_fit bytes) (parts_of bytes) r.0 in
    let b = bounds-passes (parts_of bytes) r.1 in
    record { nodes-fit = v.1; unit_fits_lem = v.2; start_fits_lem = v.3; nexts-fit = v.4; weights-fit = v.5; counts-fit = b.0; climb = b.1 }

-- ---- what tests 1 and 4 say
pub read-passes : (bytes : List ℕ) → read_number bytes ≡ 0 → (nodes_fit (parts_of bytes) ≡ true) × (weights_fit (parts_of bytes) ≡ true)
unfolding read_number
read-passes bytes e = let v = verdict-passes (sizes_fit bytes) (parts_of bytes) e in (v.1, v.5)

-- of a node and of a link
module _ (p : Parts) where
  pub well_marked-at : nodes_fit p ≡ true → (v : ℕ) → v < node_count p → well_marked (mark p v) (final_bits p v) ≡ true
  unfolding nodes_fit
  well_marked-at e v h =
      all_below-at (node_count p) (λ v. well_marked (mark p v) (final_bits p v)) (both (all_below (node_count p) (λ v. well_marked (mark p v) (final_bits p v))) (eqb (sum_below (node_count p) (count p)) (link_count p)) e).0 v h

  module _ (e : weights_fit p ≡ true) where
    both_fit : (all_below (link_count p) (λ l. weight_fits (unit_of p.form) (link_bits p l)) ≡ true) × (all_below (node_count p) (λ v. eqb (mark p v) 0 || weight_fits (unit_of p.form) (final_bits p v)) ≡ true)
    unfolding weights_fit
    both_fit = both (all_below (link_count p) (λ l. weight_fits (unit_of p.form) (link_bits p l))) (all_below (node_count p) (λ v. eqb (mark p v) 0 || weight_fits (unit_of p.form) (final_bits p v))) e

    pub link_bits-fit : (l : ℕ) → l < link_count p → weight_fits (unit_of p.form) (link_bits p l) ≡ true
    link_bits-fit l h = all_below-at (link_count p) (λ l. weight_fits (unit_of p.form) (link_bits p l)) both_fit.0 l h

    pub final_bits-fit : (v : ℕ) → v < node_count p → eqb (mark p v) 0 || weight_fits (unit_of p.form) (final_bits p v) ≡ true
    final_bits-fit v h = all_below-at (node_count p) (λ v. eqb (mark p v) 0 || weight_fits (unit_of p.form) (final_bits p v)) both_fit.1 v h

-- ---- the machine
-- its form is that of the sheet
pub machine-form : (p : Parts) → (machine_of p).form ≡ p.form
unfolding machine_of
machine-form p = refl

pub form-stated : (bytes : List ℕ) → (machine bytes).form ≡ form_of bytes
unfolding parts_of
form-stated bytes = machine-form (parts_of bytes)

module _ (p : Parts) (t : Passes p) where
  pub few-nodes : node_count p ≤ node_limit
  few-nodes = leb→le (node_count p) node_limit (and_l (leb (node_count p) node_limit) (leb (link_count p) link_limit) (subst T (sym t.counts-fit) tt))

  pub few-links : link_count p ≤ link_limit
  few-links = leb→le (link_count p) link_limit (and_r (leb (node_count p) node_limit) (leb (link_count p) link_limit) (subst T (sym t.counts-fit) tt))

  sources : length (sources_below p (node_count p)) ≡ link_count p
  sources = length-sources p (node_count p) ∙ counts-sum p t.nodes-fit

  pub climb-at : (l : ℕ) → l < link_count p → get_or (sources_below p (node_count p)) l 0 < next p l
  unfolding links_climb
  climb-at l h = ltb→lt (get_or (sources_below p (node_count p)) l 0) (next p l) (subst T (sym (all_below-at (link_count p) (λ l. ltb (get_or (sources_below p (node_count p)) l 0) (next p l)) t.climb l h)) tt)

  pub next-at : (l : ℕ) → l < link_count p → next p l < node_count p
  unfolding nexts_fit
  next-at l h = ltb→lt (next p l) (node_count p) (subst T (sym (all_below-at (link_count p) (λ l. ltb (next p l) (node_count p)) t.nexts-fit l h)) tt)

  pub link_at : (l : ℕ) → l < link_count p → link (machine_of p) l ≡ link_of p l
  link_at l h = machine-link p l no_link h

  pub climbs-machine : Climbs (machine_of p)
  climbs-machine = record {
    rises = λ l h. let k : l < link_count p = omega (arith, machine-links p) in subst (λ x. x.source < x.next) (sym (link_at l k)) (climb-at l k);
    inside = λ l h. let k : l < link_count p = omega (arith, machine-links p) in subst (λ x. x.next < length (machine_of p).finals) (sym (link_at l k)) (subst (λ (n : ℕ). next p l < n) (sym (machine-nodes p)) (next-at l k));
    sorted = λ k l o h.
        let j : l < link_count p = omega (arith, machine-links p) in
        let i : k < link_count p = omega arith in
        subst (λ x. x.source ≤ (link (machine_of p) l).source) (sym (link_at k i)) (subst (λ x. get_or (sources_below p (node_count p)) k 0 ≤ x.source) (sym (link_at l j)) (sources-rise p (node_count p) k l o (omega (arith, sources))));
  }

  pub link-grid : (l : ℕ) → l < link_count p → weight_fits (unit_of p.form) (link_bits p l) ≡ true
  link-grid l h = link_bits-fit p t.weights-fit l h

  pub final-grid : (v : ℕ) → v < node_count p → eqb (mark p v) 0 || weight_fits (unit_of p.form) (final_bits p v) ≡ true
  final-grid v h = final_bits-fit p t.weights-fit v h

  -- a final weight is that of the node's field, which passes test 4
  marked : (v : ℕ) (w : Tropical) → final (machine_of p) v ≡ some w → (w ≡ weight_of (unit_of p.form) (final_bits p v)) × (weight_fits (unit_of p.form) (final_bits p v) ≡ true)
  marked v w e = inside (split_at v (node_count p))
    where
      inside : (v < node_count p) ⊎ (node_count p ≤ v) → (w ≡ weight_of (unit_of p.form) (final_bits p v)) × (weight_fits (unit_of p.form) (final_bits p v) ≡ true)
      inside (inl h) = go (eqb (mark p v) 0) (sym (machine-final p v h) ∙ e) (final-grid v h)
        where
          go : (b : Bool) → cond b none (some (weight_of (unit_of p.form) (final_bits p v))) ≡ some w → b || weight_fits (unit_of p.form) (final_bits p v) ≡ true → (w ≡ weight_of (unit_of p.form) (final_bits p v)) × (weight_fits (unit_of p.form) (final_bits p v) ≡ true)
          go true q g = let z : ◌≡◌ {A = ℕ} 0 1 = cc in absurd (omega arith)
          go false q g = (cc, g)
      inside (inr h) = let z : ◌≡◌ {A = ℕ} 0 1 = cc (get_or-eq_default (machine_of p).finals none {n = v} (omega (arith, machine-nodes p))) in absurd (omega arith)

  pub small-machine : Small weight_limit (machine_of p)
  small-machine = record {
    on_link = λ l h. let k : l < link_count p = omega (arith, machine-links p) in subst (λ x. Within weight_limit x.weight) (sym (link_at l k)) (weight-within (unit_of p.form) (covered p.form) (link_bits p l) (link-grid l k));
    on_final = λ v w e. subst (λ x. Within weight_limit x) (sym (marked v w e).0) (weight-within (unit_of p.form) (covered p.form) (final_bits p v) (marked v w e).1);
  }

  -- the start is a node
  pub start-inside : (s : ℕ) → (machine_of p).start ≡ some s → s < length (machine_of p).finals
  unfolding machine_of
  start-inside s e = subst (λ (n : ℕ). s < n) (sym (machine-nodes p)) (go (eqb p.start no_start) e t.start_fits_lem)
    where
      go : (b : Bool) → cond b none (some p.start) ≡ some s → ltb p.start (node_count p) || b ≡ true → s < node_count p
      go true q g = let z : ◌≡◌ {A = ℕ} 0 1 = cc in absurd (omega arith)
      go false q g = let z : p.start ≡ s = cc in subst (λ (x : ℕ). x < node_count p) z (ltb→lt p.start (node_count p) (subst T (sym (sym (or-false (ltb p.start (node_count p))) ∙ g)) tt))
