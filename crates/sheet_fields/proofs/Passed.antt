-- What is told of a link or a node by its number; of a sheet that passes tests 1, 14 and 2 to 4, the fields of its machine, and past the last none. Assumes nothing.
use mathlib.Core.Path.{◌≡◌, refl, sym, ap, ◌∙◌, subst}
use mathlib.Core.Logic.{◌⊎◌, inl, inr}
use mathlib.Core.Bool.{Bool, true, ◌&&◌, ◌||◌}
use mathlib.Core.List.{List, [], ◌∷◌}
use Prim.Native.Nat.{ℕ, ◌+◌, ◌*◌, ◌≤◌, ◌<◌}
use native.Mathlib.Omega.{arith}
use lib.Dec.{leb, eqb}
use lib.ListN.{length, get_or}
use lib.Ieee.{binary32, of_bits, to_bits}
use borrow.Author.Tests.{lt-ltb, le-ltb, le-leb, eqb-true, ne_eqb}
use Rattle.sheet.specs.Words.{word}
use Rattle.sheet.specs.Records.{link_at, node_at, count_at, mark_at, final_at}
use Rattle.sheet.specs.Reading.{next_link}
use Rattle.sheet.specs.Sheet.{link_length, node_length, Parts, unit_of, link_count, node_count, link_bits, mark, well_marked, weight_fits, nodes_fit, weights_fit, form_of, parts_of, read_number, stated_links, stated_nodes, short_trailer, trailer_size}
use Rattle.sheet.specs.Machine.{Machine, unit_in, machine, weight_of, bits_of, final_of, final_fields, leaving, link_fields}
use Rattle.sheet.proofs.Apart.{both, or-either}
use Rattle.sheet.proofs.Below.{split_at}
use Rattle.sheet.proofs.Forms.{covered, size-least}
use Rattle.sheet.proofs.Fields.{read-fields, length-read, read_fits, get_d_words}
use Rattle.sheet.proofs.Reading.{gives-link, gives-end}
use Rattle.sheet.proofs.Sources.{machine-link, machine-final}
use Rattle.machine.specs.Readings.{link, final, no_link}
use Rattle.machine.proofs.Accepted.{read-passes, weight-value, well_marked-at, link_bits-fit, final_bits-fit, machine-form}
use Rattle.machine.proofs.Again.{nodes-stated, links-stated}
use Rattle.machine.proofs.Leaving.{leaving-is}
use Rattle.std.specs.Prelude.{Some, None}
use Rattle.sheet_fields.specs.Nodes.{node_by, next_node}
use Rattle.sheet_fields.specs.Fields.{link_record, node_record, fields_of_node, LinkOf, NodeOf}

-- ---- a sheet that passes tests 1, 14 and 2 to 4
module _ (bytes : List ℕ) (read : read_number bytes ≡ 0) where
  abbrev p : Parts
  p = parts_of bytes

  abbrev m : Machine
  m = machine bytes

  abbrev T : ℕ
  T = stated_links bytes

  abbrev N : ℕ
  N = stated_nodes bytes

  -- its unit, as its form says
  abbrev unit : ℕ
  unit = unit_of (parts_of bytes).form

  unit-is : unit_in m ≡ unit
  unit-is = ap unit_of (machine-form p)

  nodes-fit : nodes_fit p ≡ true
  nodes-fit = (read-passes bytes read).0

  weights-fit : weights_fit p ≡ true
  weights-fit = (read-passes bytes read).1

  in-links : (l : ℕ) → l < T → l < link_count p
  in-links l h = subst (λ (n : ℕ). l < n) (sym (read-fields bytes).links-are) h

  in-nodes : (v : ℕ) → v < N → v < node_count p
  in-nodes v h = subst (λ (n : ℕ). v < n) (sym (read-fields bytes).nodes-are) h

  -- ---- links
  -- a field among the links' words
  link-word : (i at : ℕ) → i < 4 * T → 4 * i ≡ at → word bytes at ≡ get_or p.links i 0
  unfolding parts_of
  link-word i at h e = sym (get_d_words bytes 0 (4 * T) i h ∙ ap (word bytes) (let z : 0 + 4 * i ≡ at = omega arith in z))

  link-grid : (l : ℕ) → l < T → weight_fits unit (link_bits p l) ≡ true
  link-grid l h = link_bits-fit p weights-fit l (in-links l h)

  pub link-fields : (l : ℕ) → l < T → link_record (link_at bytes l) ≡ link_fields (unit_in m) (link m l)
  link-fields l h =
      let is = machine-link p l no_link (in-links l h) in
      let input = link-word (4 * l) (link_length * l) (omega arith) (omega arith) in
      let output = link-word (4 * l + 1) (link_length * l + 4) (omega arith) (omega arith) in
      let weight : to_bits binary32 (of_bits binary32 (word bytes (link_length * l + 8))) ≡ bits_of unit (weight_of unit (link_bits p l)) =
      ap (λ (b : ℕ). to_bits binary32 (of_bits binary32 b)) (sym ((read-fields bytes).bits_is l h)) ∙ ap (to_bits binary32) (weight-value unit (covered p.form) (link_bits p l) (link-grid l h)) in
      let to = sym ((read-fields bytes).next-is l h) in
      (λ i. input i ∷ output i ∷ weight i ∷ to i ∷ []) ∙ λ i. link_fields (sym unit-is i) (sym is i)

  pub link-told : (l : ℕ) → LinkOf m l (next_link bytes l)
  link-told l = go (split_at l T)
    where
      go : (l < T) ⊎ (T ≤ l) → LinkOf m l (next_link bytes l)
      go (inl h) = subst (LinkOf m l) (sym (gives-link bytes read l h)) (subst (λ (n : ℕ). l < n) (sym (links-stated bytes)) h, link-fields l h)
      go (inr h) = subst (LinkOf m l) (sym (gives-end bytes read l h)) (subst (λ (n : ℕ). n ≤ l) (sym (links-stated bytes)) h)

  -- ---- nodes
  well-marked : (v : ℕ) → v < N → well_marked (mark_at bytes T v) (final_at bytes T v) ≡ true
  well-marked v h =
      let f = read-fields bytes in
      (λ i. well_marked (sym (f.mark-is v h) i) (sym (f.final-is v h) i)) ∙ well_marked-at p nodes-fit v (in-nodes v h)

  final-grid : (v : ℕ) → v < N → eqb (mark_at bytes T v) 0 || weight_fits unit (final_at bytes T v) ≡ true
  final-grid v h =
      let f = read-fields bytes in
      (λ i. eqb (sym (f.mark-is v h) i) 0 || weight_fits unit (sym (f.final-is v h) i)) ∙ final_bits-fit p weights-fit v (in-nodes v h)

  -- a mark and a weight's field that pass are those of the final weight
  final-words : (mark bits : ℕ) → well_marked mark bits ≡ true → eqb mark 0 || weight_fits unit bits ≡ true → mark ∷ to_bits binary32 (of_bits binary32 bits) ∷ [] ≡ final_fields unit (final_of unit mark bits)
  final-words mark bits w g = go (or-either (eqb mark 1) (eqb mark 0 && eqb bits 0) w)
    where
      zero_bits : to_bits binary32 (of_bits binary32 0) ≡ 0
      zero_bits = unfold of_bits to_bits in refl

      go : (eqb mark 1 ≡ true) ⊎ (eqb mark 0 && eqb bits 0 ≡ true) → mark ∷ to_bits binary32 (of_bits binary32 bits) ∷ [] ≡ final_fields unit (final_of unit mark bits)
      go (inl e) =
          let one = eqb-true mark 1 e in
          let grid : weight_fits unit bits ≡ true = ap (λ (b : Bool). b || weight_fits unit bits) (sym (ne_eqb mark 0 (λ z. omega (arith, one, z)))) ∙ g in
          (λ i. one i ∷ to_bits binary32 (weight-value unit (covered p.form) bits grid i) ∷ []) ∙ sym (ap (λ (k : ℕ). final_fields unit (final_of unit k bits)) one)
      go (inr e) =
          let z = both (eqb mark 0) (eqb bits 0) e in
          let none = eqb-true mark 0 z.0 in
          let empty = eqb-true bits 0 z.1 in
          (λ i. none i ∷ (ap (λ (b : ℕ). to_bits binary32 (of_bits binary32 b)) empty ∙ zero_bits) i ∷ []) ∙ sym (ap (λ (k : ℕ). final_fields unit (final_of unit k bits)) none)

  pub node-fields : (v : ℕ) → v < N → node_record (node_at bytes T v) ≡ fields_of_node m v
  node-fields v h =
      let f = read-fields bytes in
      let links : count_at bytes T v ≡ leaving m.links v = sym (leaving-is p nodes-fit v (in-nodes v h) ∙ f.count-is v h) in
      let is : final m v ≡ final_of unit (mark_at bytes T v) (final_at bytes T v) = machine-final p v (in-nodes v h) ∙ λ i. final_of unit (f.mark-is v h i) (f.final-is v h i) in
      λ i. links i ∷ (final-words (mark_at bytes T v) (final_at bytes T v) (well-marked v h) (final-grid v h) ∙ λ j. final_fields (sym unit-is j) (sym is j)) i

  pub length-is : length bytes ≡ link_length * T + node_length * N + trailer_size bytes
  length-is = length-read bytes (read_fits bytes read)

  -- a node by the tests in their order
  abbrev sized : Bool
  sized = leb (link_length * T + node_length * N + trailer_size bytes) (length bytes)

  node-past : (v : ℕ) → short_trailer ≤ length bytes → N ≤ v → None ≡ next_node bytes v
  node-past v h k = sym (λ i. node_by (le-leb short_trailer (length bytes) h i && le-ltb v N k i && sized) bytes v)

  node-there : (v : ℕ) → short_trailer ≤ length bytes → v < N → link_length * T + node_length * N + trailer_size bytes ≤ length bytes → Some (node_at bytes T v) ≡ next_node bytes v
  node-there v h k s = sym (λ i. node_by (le-leb short_trailer (length bytes) h i && lt-ltb v N k i && le-leb (link_length * T + node_length * N + trailer_size bytes) (length bytes) s i) bytes v)

  pub node-told : (v : ℕ) → NodeOf m v (next_node bytes v)
  node-told v = go (split_at v N)
    where
      long : short_trailer ≤ length bytes
      long = omega (arith, length-is, size-least (form_of bytes))

      go : (v < N) ⊎ (N ≤ v) → NodeOf m v (next_node bytes v)
      go (inl h) = subst (NodeOf m v) (node-there v long h (omega (arith, length-is))) (subst (λ (n : ℕ). v < n) (sym (nodes-stated bytes)) h, node-fields v h)
      go (inr h) = subst (NodeOf m v) (node-past v long h) (subst (λ (n : ℕ). n ≤ v) (sym (nodes-stated bytes)) h)
