-- What an accepted sheet gives: its records lie in it and are those of its machine, which climbs and whose weights are small; its fields are the
-- machine's values. Assumes nothing.
use mathlib.Core.Path.{◌≡◌, refl, sym, ap, ◌∙◌, subst}
use mathlib.Core.Logic.{◌⊎◌, inl, inr}
use mathlib.Core.Bool.{Bool, true, false, ◌&&◌, ◌||◌, cond}
use mathlib.Core.Option.{none, some}
use mathlib.Core.List.{List}
use Prim.Native.Nat.{ℕ, suc, ◌+◌, ◌*◌, ◌^◌, ◌≤◌, ◌<◌}
use native.Mathlib.Nat.{le_of_lt}
use native.Mathlib.Omega.{arith}
use lib.Dec.{eqb}
use lib.ListN.{length, get_or, get_or-eq_default}
use lib.Ieee.{binary32, of_bits}
use borrow.Author.Tests.{eqb-true, eq-eqb, ne_eqb}
use Rattle.tropical_weight.specs.Limits.{finest, weight_limit, node_limit, link_limit}
use Rattle.tropical_weight.specs.Tropical.{Tropical}
use Rattle.tropical_weight.specs.Grid.{of_t}
use Rattle.sheet.specs.Below.{sum_below, list_below}
use Rattle.sheet.specs.Words.{word}
use Rattle.sheet.specs.declared.tr.Trailer.{Trailer}
use Rattle.sheet.specs.Records.{trailer_at, count_at, mark_at, final_at, first_link}
use Rattle.sheet.specs.Sheet.{Parts, link_length, node_length, trailer_length, unit_of, unit_fits, form_of, link_count, node_count, count, mark, final_bits, link_bits, weight_fits, parts_of, read_number, stated_links, stated_nodes}
use Rattle.sheet.specs.Machine.{Machine, unit_in, machine_of, machine, weight_of, bits_of, final_of, link_of}
use Rattle.sheet.proofs.Apart.{both}
use Rattle.sheet.proofs.Below.{split_at, sum_mono, list_below-same}
use Rattle.sheet.proofs.Forms.{covered}
use Rattle.sheet.proofs.Fields.{read-fields, get_d_words, length-read, read_fits}
use Rattle.sheet.proofs.Round.{Below, word_lt}
use Rattle.sheet.proofs.NodeSources.{next-first}
use Rattle.sheet.proofs.Sources.{source_is, counts-sum, machine-links, machine-nodes, machine-final}
use Rattle.machine.specs.Readings.{link, final, marked}
use Rattle.machine.specs.Finals.{final_count}
use Rattle.machine.specs.Climbs.{Climbs, Small}
use Rattle.machine.specs.Input.{input_number}
use Rattle.machine.proofs.Accepted.{Passes, passes, well_marked-at, input-read, climbs-machine, small-machine, few-nodes, few-links, link_at, link-grid, final-grid, weight-value, bits-again, machine-form, form-stated}
use Rattle.machine.proofs.FinalCount.{count-marked}
use Rattle.machine.proofs.Testing.{in-sheet, counts-total, counts-words}

-- A sheet of T links and N nodes, and its machine.
pub record SheetFields (bytes : List ℕ) (T N : ℕ) (m : Machine) : Type 0 where
  pub links-are : length m.links ≡ T
  pub nodes-are : length m.finals ≡ N
  pub few-nodes : N ≤ node_limit
  pub few-links : T ≤ link_limit
  pub laid_out : link_length * T + node_length * N ≤ length bytes
  pub form-is : m.form ≡ form_of bytes
  pub unit_fits_lem : unit_fits m.form ≡ true
  pub sized : length bytes ≡ link_length * T + node_length * N + trailer_length m.form
  pub counted : sum_below N (count_at bytes T) ≡ T
  pub climbs : Climbs m
  pub small : Small weight_limit m
  -- a link's fields
  pub source-at : (v l : ℕ) → v < N → first_link bytes T v ≤ l → l < first_link bytes T v + count_at bytes T v → (link m l).source ≡ v
  pub ilabel-at : (l : ℕ) → l < T → word bytes (link_length * l) ≡ (link m l).ilabel
  pub olabel-at : (l : ℕ) → l < T → word bytes (link_length * l + 4) ≡ (link m l).olabel
  pub weight-at : (l : ℕ) → l < T → weight_of (unit_in m) (word bytes (link_length * l + 8)) ≡ (link m l).weight
  pub next-at : (l : ℕ) → l < T → word bytes (link_length * l + 12) ≡ (link m l).next
  pub next-in : (l : ℕ) → l < T → (link m l).next < N
  pub link-value : (l : ℕ) → l < T → of_bits binary32 (word bytes (link_length * l + 8)) ≡ of_t (unit_in m) (link m l).weight
  pub link-bits : Below 256 bytes → (l : ℕ) → l < T → word bytes (link_length * l + 8) ≡ bits_of (unit_in m) (link m l).weight
  -- a node's
  pub mark-at : (v : ℕ) → v < N → (mark_at bytes T v ≡ 0) ⊎ (mark_at bytes T v ≡ 1)
  pub final-at : (v : ℕ) → v < N → final m v ≡ final_of (unit_in m) (mark_at bytes T v) (final_at bytes T v)
  pub finals-are : list_below N (λ v. final_of (unit_in m) (mark_at bytes T v) (final_at bytes T v)) ≡ m.finals
  pub final_value : (v : ℕ) → v < N → (mark_at bytes T v ≡ 0 → ⊥) → of_bits binary32 (final_at bytes T v) ≡ of_t (unit_in m) (weight_of (unit_in m) (final_at bytes T v))
  pub final-bits : Below 256 bytes → (v : ℕ) → v < N → (mark_at bytes T v ≡ 0 → ⊥) → bits_of (unit_in m) (weight_of (unit_in m) (final_at bytes T v)) ≡ final_at bytes T v

-- ---- of an accepted sheet
module _ (bytes : List ℕ) (accepted : input_number bytes ≡ 0) where
  abbrev p : Parts
  p = parts_of bytes

  abbrev m : Machine
  m = machine bytes

  abbrev T : ℕ
  T = stated_links bytes

  abbrev N : ℕ
  N = stated_nodes bytes

  read : read_number bytes ≡ 0
  read = (input-read bytes accepted).0

  t : Passes (parts_of bytes)
  t = passes bytes accepted

  nodes : length m.finals ≡ N
  nodes = machine-nodes p ∙ (read-fields bytes).nodes-are

  links : length m.links ≡ T
  links = machine-links p ∙ (read-fields bytes).links-are

  in-links : (l : ℕ) → l < T → l < link_count p
  in-links l h = subst (λ (n : ℕ). l < n) (sym (read-fields bytes).links-are) h

  in-nodes : (v : ℕ) → v < N → v < node_count p
  in-nodes v h = subst (λ (n : ℕ). v < n) (sym (read-fields bytes).nodes-are) h

  -- its unit is that of the form that was read
  unit-is : unit_in m ≡ unit_of p.form
  unit-is = ap unit_of (machine-form p)

  unit-covered : unit_in m ≤ finest
  unit-covered = covered m.form

  -- link l by its fields among the links' words
  is : (l : ℕ) → l < T → link m l ≡ link_of p l
  is l h = link_at p t l (in-links l h)

  at-word : (i at : ℕ) → i < 4 * T → 4 * i ≡ at → word bytes at ≡ get_or p.links i 0
  unfolding parts_of
  at-word i at h e = sym (get_d_words bytes 0 (4 * T) i h ∙ ap (word bytes) (let z : 0 + 4 * i ≡ at = omega arith in z))

  bits : (l : ℕ) → l < T → word bytes (link_length * l + 8) ≡ link_bits p l
  bits l h = sym ((read-fields bytes).bits_is l h)

  source : (v l : ℕ) → v < N → first_link bytes T v ≤ l → l < first_link bytes T v + count_at bytes T v → (link m l).source ≡ v
  source v l h a b =
      let k = in-nodes v h in
      let lo : sum_below v (count p) ≤ l = subst (λ (n : ℕ). n ≤ l) (sym (counts-words bytes read v (le_of_lt k))) a in
      let hi : l < sum_below (suc v) (count p) = subst (λ (n : ℕ). l < n) (sym (counts-words bytes read (suc v) k ∙ next-first bytes T v)) b in
      let inside : l < link_count p = omega (arith, sum_mono (count p) (node_count p) (suc v) k, counts-sum p t.nodes-fit) in
      ap (λ x. x.source) (link_at p t l inside) ∙ source_is p (node_count p) v l k lo hi

  mark-is : (v : ℕ) → v < N → mark p v ≡ mark_at bytes T v
  mark-is v h = (read-fields bytes).mark-is v h

  final-is : (v : ℕ) → v < N → final_bits p v ≡ final_at bytes T v
  final-is v h = (read-fields bytes).final-is v h

  marks : (v : ℕ) → v < N → (mark_at bytes T v ≡ 0) ⊎ (mark_at bytes T v ≡ 1)
  marks v h = go (eqb (mark p v) 1) refl (well_marked-at p t.nodes-fit v (in-nodes v h))
    where
      go : (b : Bool) → eqb (mark p v) 1 ≡ b → b || (eqb (mark p v) 0 && eqb (final_bits p v) 0) ≡ true → (mark_at bytes T v ≡ 0) ⊎ (mark_at bytes T v ≡ 1)
      go true q e = inr (sym (mark-is v h) ∙ eqb-true (mark p v) 1 q)
      go false q e = inl (sym (mark-is v h) ∙ eqb-true (mark p v) 0 (both (eqb (mark p v) 0) (eqb (final_bits p v) 0) e).0)

  -- the final weight of a marked node passes test 4
  grid : (v : ℕ) → v < N → (mark_at bytes T v ≡ 0 → ⊥) → weight_fits (unit_in m) (final_at bytes T v) ≡ true
  grid v h n =
      (λ i. weight_fits (unit-is i) (sym (final-is v h) i))
      ∙ ap (λ (b : Bool). b || weight_fits (unit_of p.form) (final_bits p v)) (sym (ne_eqb (mark p v) 0 (λ z. n (sym (mark-is v h) ∙ z))))
      ∙ final-grid p t v (in-nodes v h)

  finals : list_below N (λ v. final_of (unit_in m) (mark_at bytes T v) (final_at bytes T v)) ≡ m.finals
  unfolding machine_of
  finals =
      list_below-same N (λ v. final_of (unit_in m) (mark_at bytes T v) (final_at bytes T v)) (λ v. final_of (unit_of p.form) (mark p v) (final_bits p v)) (λ v h i. final_of (unit-is i) (sym (mark-is v h) i) (sym (final-is v h) i))
      ∙ ap (λ (n : ℕ). list_below n (λ v. final_of (unit_of p.form) (mark p v) (final_bits p v))) (sym (read-fields bytes).nodes-are)

  -- the field of a link's weight passes test 4
  link-fits : (l : ℕ) → l < T → weight_fits (unit_in m) (word bytes (link_length * l + 8)) ≡ true
  link-fits l h = (λ i. weight_fits (unit-is i) (bits l h i)) ∙ link-grid p t l (in-links l h)

  weight : (l : ℕ) → l < T → weight_of (unit_in m) (word bytes (link_length * l + 8)) ≡ (link m l).weight
  weight l h = (λ i. weight_of (unit-is i) (bits l h i)) ∙ sym (ap (λ x. x.weight) (is l h))

  pub sheet-fields : SheetFields bytes (stated_links bytes) (stated_nodes bytes) (machine bytes)
  sheet-fields = record {
    links-are = links;
    nodes-are = nodes;
    few-nodes = subst (λ (n : ℕ). n ≤ node_limit) (read-fields bytes).nodes-are (few-nodes p t);
    few-links = subst (λ (n : ℕ). n ≤ link_limit) (read-fields bytes).links-are (few-links p t);
    laid_out = in-sheet bytes read;
    form-is = form-stated bytes;
    unit_fits_lem = ap unit_fits (machine-form p) ∙ t.unit_fits_lem;
    sized = omega (arith, length-read bytes (read_fits bytes read), ap trailer_length (form-stated bytes));
    counted = counts-total bytes read;
    climbs = climbs-machine p t;
    small = small-machine p t;
    source-at = source;
    ilabel-at = λ l h. at-word (4 * l) (link_length * l) (omega arith) (omega arith) ∙ sym (ap (λ x. x.ilabel) (is l h));
    olabel-at = λ l h. at-word (4 * l + 1) (link_length * l + 4) (omega arith) (omega arith) ∙ sym (ap (λ x. x.olabel) (is l h));
    weight-at = weight;
    next-at = λ l h. sym (ap (λ x. x.next) (is l h) ∙ (read-fields bytes).next-is l h);
    next-in = λ l h. subst (λ (n : ℕ). (link m l).next < n) nodes ((climbs-machine p t).inside l (subst (λ (n : ℕ). l < n) (sym links) h));
    link-value = λ l h. weight-value (unit_in m) unit-covered (word bytes (link_length * l + 8)) (link-fits l h) ∙ ap (of_t (unit_in m)) (weight l h);
    link-bits = λ whole l h. sym (bits-again (unit_in m) unit-covered (word bytes (link_length * l + 8)) (word_lt bytes (link_length * l + 8) whole) (link-fits l h)) ∙ ap (bits_of (unit_in m)) (weight l h);
    mark-at = marks;
    final-at = λ v h. machine-final p v (in-nodes v h) ∙ λ i. final_of (sym unit-is i) (mark-is v h i) (final-is v h i);
    finals-are = finals;
    final_value = λ v h n. weight-value (unit_in m) unit-covered (final_at bytes T v) (grid v h n);
    final-bits = λ whole v h n. bits-again (unit_in m) unit-covered (final_at bytes T v) (word_lt bytes (link_length * T + node_length * v + 8) whole) (grid v h n);
  }

  -- by the trailer that reading found, by the machine's own number of nodes, and by both of its numbers
  pub fields-for : (t : Trailer) → t ≡ trailer_at bytes → SheetFields bytes t.links t.nodes (machine bytes)
  fields-for t same = subst (λ (t : Trailer). SheetFields bytes t.links t.nodes (machine bytes)) (sym same) sheet-fields

  pub fields-nodes : SheetFields bytes (stated_links bytes) (length (machine bytes).finals) (machine bytes)
  fields-nodes = subst (λ (N : ℕ). SheetFields bytes T N m) (sym nodes) sheet-fields

  pub fields-own : SheetFields bytes (length (machine bytes).links) (length (machine bytes).finals) (machine bytes)
  fields-own = subst (λ (T : ℕ). SheetFields bytes T (length m.finals) m) (sym links) fields-nodes

-- ---- what follows
module _ {bytes : List ℕ} {T N : ℕ} {m : Machine} (f : SheetFields bytes T N m) where
  -- the links of the nodes below one are among all
  pub first-in : (v : ℕ) → v ≤ N → first_link bytes T v ≤ T
  first-in v h = omega (arith, sum_mono (count_at bytes T) N v h, f.counted)

  -- as many nodes have mark 1 as have a final weight
  pub finals-counted : final_count bytes T N ≡ marked m.finals
  finals-counted = sym (count-marked bytes T (unit_in m) N) ∙ ap marked f.finals-are

  -- labels are words
  pub labels-below : Below 256 bytes → (l : ℕ) → l < length m.links → ((link m l).ilabel < 2 ^ 32) × ((link m l).olabel < 2 ^ 32)
  labels-below whole l h =
      let b : l < T = subst (λ (n : ℕ). l < n) f.links-are h in
      (omega (arith, f.ilabel-at l b, word_lt bytes (link_length * l) whole), omega (arith, f.olabel-at l b, word_lt bytes (link_length * l + 4) whole))

  -- a node is final where its mark is not 0, and not where it is not 1
  pub marked-final : (v : ℕ) → v < N → (mark_at bytes T v ≡ 0 → ⊥) → final m v ≡ some (weight_of (unit_in m) (final_at bytes T v))
  marked-final v h n = f.final-at v h ∙ ap (λ (b : Bool). cond b none (some (weight_of (unit_in m) (final_at bytes T v)))) (ne_eqb (mark_at bytes T v) 0 n)

  pub unmarked-final : (v : ℕ) → v < N → (mark_at bytes T v ≡ 1 → ⊥) → final m v ≡ none
  unmarked-final v h n = elim (f.mark-at v h) [
    | inl z ↦ f.final-at v h ∙ ap (λ (b : Bool). cond b none (some (weight_of (unit_in m) (final_at bytes T v)))) (eq-eqb (mark_at bytes T v) 0 z)
    | inr z ↦ absurd (n z)
  ]

  -- a final weight is that of its node's field
  pub final-word : Below 256 bytes → (v : ℕ) (w : Tropical) → final m v ≡ some w → (v < N) × (bits_of (unit_in m) w ≡ final_at bytes T v)
  final-word whole v w e = elim (split_at v N) [
    | inl h ↦ (h, go h (f.mark-at v h))
    | inr h ↦ let z : ◌≡◌ {A = ℕ} 0 1 = cc (get_or-eq_default m.finals none {n = v} (omega (arith, f.nodes-are))) in absurd (omega arith)
  ]
    where
      go : v < N → (mark_at bytes T v ≡ 0) ⊎ (mark_at bytes T v ≡ 1) → bits_of (unit_in m) w ≡ final_at bytes T v
      go h (inl z) = let q : none ≡ some w = sym (unmarked-final v h (λ y. omega (arith, z, y))) ∙ e in let z : ◌≡◌ {A = ℕ} 0 1 = cc in absurd (omega arith)
      go h (inr z) =
          let n : mark_at bytes T v ≡ 0 → ⊥ = λ y. omega (arith, z, y) in
          let same : w ≡ weight_of (unit_in m) (final_at bytes T v) = cc (marked-final v h n) in
          ap (bits_of (unit_in m)) same ∙ f.final-bits whole v h n
