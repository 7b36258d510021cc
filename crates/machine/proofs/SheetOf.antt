-- A machine as a sheet: which machines have a sheet that is accepted, and which one is refused for its nodes. Read from its sheet a machine is the same.
-- The other way round, from a sheet to its machine, is Accepted, and back again from there Again. Assumes nothing.
use mathlib.Core.Path.{◌≡◌, refl, sym, ap, ◌∙◌, subst}
use mathlib.Core.Bool.{true, ◌&&◌, ◌||◌, or-true}
use mathlib.Core.Option.{Option, none, some}
use Prim.Native.Nat.{ℕ, ◌*◌, ◌^◌, ◌≤◌, ◌<◌}
use native.Mathlib.Omega.{arith}
use lib.Dec.{ltb, eqb}
use lib.ListN.{length, get_or}
use borrow.Author.Tests.{lt-ltb, le-leb, lt-leb, eq-eqb}
use Rattle.tropical_weight.specs.Limits.{finest, weight_limit, sum_limit, node_limit, link_limit}
use Rattle.tropical_weight.specs.Tropical.{Tropical, fin, inf, Within}
use Rattle.tropical_weight.proofs.Sums.{within-mono}
use Rattle.tropical_weight.proofs.Grid.{grid_bits-means}
use Rattle.sheet.specs.Sheet.{unit_of, unit_fits, no_start, link_count, node_count, link_length, next, mark, final_bits, well_marked, nodes_fit, start_fits, nexts_fit, barred_bits, weight_fits, weights_fit, sheet_of, verdict, parts_of, read_number}
use Rattle.sheet.specs.Machine.{Link, Machine, unit_in, machine_of, sources_below, bits_of, start_field, parts_for}
use Rattle.sheet.proofs.Apart.{or_left, or_right}
use Rattle.sheet.proofs.Below.{all_below-of}
use Rattle.sheet.proofs.Forms.{covered, unit-word}
use Rattle.sheet.proofs.Refusals.{first-passed}
use Rattle.sheet.proofs.Encoding.{bits-inf, form-is, LinkFits, Writable, AllHeld, Held, bits-lt, links-are, nodes-are, start_is, link_bits-is, next-is, mark-some, mark-none, final_bits-some, final_bits-none, counts-are, source_of, records-fit, number_is, fields_back, machine-read}
use Rattle.machine.specs.Readings.{no_link, link, final}
use Rattle.machine.specs.Climbs.{Climbs, Small}
use Rattle.machine.specs.Input.{links_climb, bounds_number, input_number}
use Rattle.machine.proofs.Lists.{get_d_any}

-- what tests 1, 14 and 2 to 4 ask of a machine
pub record Readable (m : Machine) : Type 0 where
  pub source_in : (l : ℕ) → l < length m.links → (link m l).source < length m.finals
  pub next-in : (l : ℕ) → l < length m.links → (link m l).next < length m.finals
  -- the links stand by source
  pub sorted : (k l : ℕ) → k ≤ l → l < length m.links → (link m k).source ≤ (link m l).source
  pub labels : (l : ℕ) → l < length m.links → ((link m l).ilabel < 2 ^ 32) × ((link m l).olabel < 2 ^ 32)
  pub small : Small weight_limit m
  pub starts : (v : ℕ) → m.start ≡ some v → v < length m.finals
  pub few-nodes : length m.finals < 2 ^ 32
  pub few-links : link_length * length m.links < 2 ^ 32
  pub unit_fits_lem : unit_fits m.form ≡ true

-- the field of a weight within the limit passes test 4
pub weight-fits : (j : ℕ) → j ≤ finest → (w : Tropical) → Within weight_limit w → weight_fits j (bits_of j w) ≡ true
weight-fits j c (fin k) s = or_right _ _ ((grid_bits-means j c weight_limit (omega arith) (bits_of j (fin k)) (bits-lt j c (fin k))).1 (k, s, refl))
weight-fits j c inf s = or_left _ _ (eq-eqb (bits_of j inf) barred_bits (bits-inf j))

module _ (m : Machine) (a : Readable m) where
  -- ---- its fields are words, and give its weights back
  same : (l : ℕ) (d : Link) → l < length m.links → get_or m.links l d ≡ link m l
  same l d h = get_d_any m.links l d no_link h

  writable : Writable m
  writable = record {
    each = λ l d h. subst (LinkFits (length m.finals)) (sym (same l d h)) (record { source_in = a.source_in l h; ilabel-fits = (a.labels l h).0; olabel-fits = (a.labels l h).1; next_fits = omega (arith, a.next-in l h, a.few-nodes) });
    by-source = λ k l d h b. omega (arith, a.sorted k l h b, ap (λ (x : Link). x.source) (same k d (omega arith)), ap (λ (x : Link). x.source) (same l d b));
    start_fits_lem = start_word m.start a.starts;
    few-nodes = a.few-nodes;
    few-links = a.few-links;
    unit-word = unit-word m.form a.unit_fits_lem;
  }
    where
      start_word : (o : Option ℕ) → ((v : ℕ) → o ≡ some v → v < length m.finals) → start_field o < 2 ^ 32
      start_word none f = omega arith
      start_word (some v) f = omega (arith, f v refl, a.few-nodes)

  held-weight : (w : Tropical) → Within weight_limit w → Held w
  held-weight w s = within-mono weight_limit sum_limit w (omega arith) s

  held : AllHeld m
  held = record {
    weights = λ l d h. subst (λ (k : Link). Held k.weight) (sym (same l d h)) (held-weight (link m l).weight (a.small.on_link l h));
    final-weights = λ v w h e. held-weight w (a.small.on_final v w e);
    start-told = λ v e. omega (arith, a.starts v e, a.few-nodes);
  }

  -- ---- the tests, one by one
  in-links : (l : ℕ) → l < link_count (parts_for m) → l < length m.links
  in-links l h = omega (arith, links-are m)

  in-nodes : (v : ℕ) → v < node_count (parts_for m) → v < length m.finals
  in-nodes v h = omega (arith, nodes-are m)

  node-marked : (v : ℕ) → v < length m.finals → well_marked (mark (parts_for m) v) (final_bits (parts_for m) v) ≡ true
  node-marked v h = go (final m v) refl
    where
      go : (o : Option Tropical) → final m v ≡ o → well_marked (mark (parts_for m) v) (final_bits (parts_for m) v) ≡ true
      go none e = λ i. well_marked (mark-none m v h e i) (final_bits-none m v h e i)
      go (some w) e = λ i. well_marked (mark-some m v h w e i) (final_bits (parts_for m) v)

  nodes-fit : nodes_fit (parts_for m) ≡ true
  unfolding nodes_fit
  nodes-fit = λ i. all_below-of (node_count (parts_for m)) _ (λ v h. node-marked v (in-nodes v h)) i && eq-eqb _ _ (counts-are m writable) i

  start_fits_lem : start_fits (node_count (parts_for m)) (parts_for m).start ≡ true
  start_fits_lem = ap (start_fits (node_count (parts_for m))) (start_is m) ∙ go m.start a.starts
    where
      go : (o : Option ℕ) → ((v : ℕ) → o ≡ some v → v < length m.finals) → start_fits (node_count (parts_for m)) (start_field o) ≡ true
      go none f = or-true (ltb no_start (node_count (parts_for m)))
      go (some v) f = λ i. lt-ltb v (node_count (parts_for m)) (omega (arith, nodes-are m, f v refl)) i || eqb v no_start

  nexts-fit : nexts_fit (parts_for m) ≡ true
  unfolding nexts_fit
  nexts-fit = all_below-of (link_count (parts_for m)) _ (λ l h. lt-ltb (next (parts_for m) l) (node_count (parts_for m)) (omega (arith, next-is m l no_link (in-links l h), a.next-in l (in-links l h), nodes-are m)))

  unit-is : unit_of (parts_for m).form ≡ unit_in m
  unit-is = ap unit_of (form-is m)

  -- the field of a weight that the machine has
  grid : (bits : ℕ) (w : Tropical) → bits ≡ bits_of (unit_in m) w → Within weight_limit w → weight_fits (unit_of (parts_for m).form) bits ≡ true
  grid bits w e s = (λ i. weight_fits (unit-is i) (e i)) ∙ weight-fits (unit_in m) (covered m.form) w s

  final-fits : (v : ℕ) → v < length m.finals → eqb (mark (parts_for m) v) 0 || weight_fits (unit_of (parts_for m).form) (final_bits (parts_for m) v) ≡ true
  final-fits v h = go (final m v) refl
    where
      go : (o : Option Tropical) → final m v ≡ o → eqb (mark (parts_for m) v) 0 || weight_fits (unit_of (parts_for m).form) (final_bits (parts_for m) v) ≡ true
      go none e = λ i. eqb (mark-none m v h e i) 0 || weight_fits (unit_of (parts_for m).form) (final_bits (parts_for m) v)
      go (some w) e = (λ i. eqb (mark-some m v h w e i) 0 || weight_fits (unit_of (parts_for m).form) (final_bits (parts_for m) v)) ∙ grid (final_bits (parts_for m) v) w (final_bits-some m v h w e) (a.small.on_final v w e)

  weights-fit : weights_fit (parts_for m) ≡ true
  unfolding weights_fit
  weights-fit =
      let on-links = all_below-of (link_count (parts_for m)) _ (λ l h. grid _ (link m l).weight (link_bits-is m l no_link (in-links l h)) (a.small.on_link l (in-links l h))) in
      let on-nodes = all_below-of (node_count (parts_for m)) _ (λ v h. final-fits v (in-nodes v h)) in
      λ i. on-links i && on-nodes i

  form-fits : unit_fits (parts_for m).form ≡ true
  form-fits = ap unit_fits (form-is m) ∙ a.unit_fits_lem

  -- ---- so its sheet passes them, and read from the sheet the machine is the same
  pub sheet-read : read_number (sheet_of (parts_for m)) ≡ 0
  unfolding verdict
  sheet-read = number_is m writable ∙ simp (records-fit m writable, nodes-fit, form-fits, start_fits_lem, nexts-fit, weights-fit)

  pub sheet-machine : machine_of (parts_of (sheet_of (parts_for m))) ≡ m
  sheet-machine = machine-read m writable held

  -- ---- tests 5 and 6
  input-is : input_number (sheet_of (parts_for m)) ≡ bounds_number (parts_for m)
  unfolding input_number
  input-is = first-passed (read_number (sheet_of (parts_for m))) (bounds_number (parts_of (sheet_of (parts_for m)))) sheet-read ∙ ap bounds_number (fields_back m writable)

  -- a machine within the limits that climbs
  pub sheet-accepted : Climbs m → length m.finals ≤ node_limit → length m.links ≤ link_limit → input_number (sheet_of (parts_for m)) ≡ 0
  unfolding bounds_number links_climb
  sheet-accepted c n t =
      let climb = all_below-of (link_count (parts_for m)) _ (λ l h.
      lt-ltb (get_or (sources_below (parts_for m) (node_count (parts_for m))) l 0) (next (parts_for m) l)
      (omega (arith, source_of m writable l no_link (in-links l h), next-is m l no_link (in-links l h), c.rises l (in-links l h)))) in
      input-is
      ∙ simp (le-leb (node_count (parts_for m)) node_limit (omega (arith, nodes-are m, n)), le-leb (link_count (parts_for m)) link_limit (omega (arith, links-are m, t)), climb)

  -- and one with more nodes, whatever else is to be said of it
  pub nodes-refused : node_limit < length m.finals → input_number (sheet_of (parts_for m)) ≡ 5
  unfolding bounds_number
  nodes-refused h = input-is ∙ simp (lt-leb (node_count (parts_for m)) node_limit (omega (arith, nodes-are m, h)))
