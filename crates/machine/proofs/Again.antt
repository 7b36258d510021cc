-- A sheet that passes tests 1, 14 and 2 to 4 is the sheet of its machine: the same fields, and the same bytes, all of them and those of some links or nodes.
-- From a machine to its sheet and back is SheetOf. Assumes nothing.
use mathlib.Core.Path.{◌≡◌, refl, sym, ap, ap₂, ◌∙◌, subst}
use mathlib.Core.Logic.{◌⊎◌, inl, inr}
use mathlib.Core.Bool.{Bool, true, false, ◌&&◌, ◌||◌, cond}
use mathlib.Core.Option.{none, some}
use mathlib.Core.List.{List, flat_map}
use Prim.Native.Nat.{ℕ, zero, suc, ◌+◌, ◌-◌, ◌*◌, ◌/◌, ◌%◌, ◌≤◌, ◌<◌}
use native.Mathlib.Omega.{arith}
use lib.Dec.{eqb}
use lib.ListN.{length, take, drop, get_or}
use lib.Seq.{ext_get_or}
use borrow.Author.Tests.{eqb-true, ne_eqb}
use Rattle.sheet.specs.Words.{words, bytes_of_all}
use Rattle.sheet.specs.Sheet.{link_length, node_length, Parts, no_start, link_count, node_count, ilabel, olabel, count, mark, final_bits, link_bits, next, weight_fits, nodes_fit, weights_fit, parts_of, read_number, sheet_of, stated_links, stated_nodes, trailer_length, unit_of}
use Rattle.sheet.specs.Machine.{Link, Machine, unit_in, machine_of, machine, weight_of, bits_of, final_of, start_of, start_field, link_fields, node_fields, parts_for}
use Rattle.sheet.proofs.Apart.{both, or-either}
use Rattle.sheet.proofs.Forms.{covered}
use Rattle.sheet.proofs.Fields.{length-words, take-words, drop-words, read-fields, read_fits, length-read}
use Rattle.sheet.proofs.Round.{Below, words-below, bytes_of_all-words, bytes_back}
use Rattle.sheet.proofs.Sources.{machine-link, machine-links, machine-final, machine-nodes}
use Rattle.sheet.proofs.Encoding.{length-links, length-nodes, form-is, start_is, ilabel-is, olabel-is, link_bits-is, next-is, count-is, mark-some, mark-none, final_bits-some, final_bits-none}
use Rattle.machine.specs.Readings.{no_link, final}
use Rattle.machine.proofs.Accepted.{read-passes, well_marked-at, link_bits-fit, final_bits-fit, bits-again, machine-form, form-stated}
use Rattle.machine.proofs.Leaving.{leaving-is}

-- ---- words of records of four fields, or of three, are the same where each field is
module _ (l k : List ℕ) (n : ℕ) where
  abbrev Same : ℕ → Type 0
  Same j = get_or l j 0 ≡ get_or k j 0

  by_four : length l ≡ 4 * n → length k ≡ 4 * n → ((i : ℕ) → i < n → Same (4 * i) × Same (4 * i + 1) × Same (4 * i + 2) × Same (4 * i + 3)) → l ≡ k
  by_four a b h = ext_get_or 0 l k (omega (arith, a, b)) (λ j c. go j (j / 4) (j % 4) (omega arith) (omega arith) (h (j / 4) (omega (arith, a))))
    where
      go : (j i r : ℕ) → 4 * i + r ≡ j → r < 4 → Same (4 * i) × Same (4 * i + 1) × Same (4 * i + 2) × Same (4 * i + 3) → Same j
      go j i zero e b s = subst Same (let z : 4 * i ≡ j = omega arith in z) s.0
      go j i (suc zero) e b s = subst Same e s.1
      go j i (suc (suc zero)) e b s = subst Same e s.2
      go j i (suc (suc (suc zero))) e b s = subst Same e s.3
      go j i (suc (suc (suc (suc r)))) e b s = absurd (omega arith)

  by_three : length l ≡ 3 * n → length k ≡ 3 * n → ((i : ℕ) → i < n → Same (3 * i) × Same (3 * i + 1) × Same (3 * i + 2)) → l ≡ k
  by_three a b h = ext_get_or 0 l k (omega (arith, a, b)) (λ j c. go j (j / 3) (j % 3) (omega arith) (omega arith) (h (j / 3) (omega (arith, a))))
    where
      go : (j i r : ℕ) → 3 * i + r ≡ j → r < 3 → Same (3 * i) × Same (3 * i + 1) × Same (3 * i + 2) → Same j
      go j i zero e b s = subst Same (let z : 3 * i ≡ j = omega arith in z) s.0
      go j i (suc zero) e b s = subst Same e s.1
      go j i (suc (suc zero)) e b s = subst Same e s.2
      go j i (suc (suc (suc r))) e b s = absurd (omega arith)

-- the field of a start is the field again
pub start_again : (s : ℕ) → start_field (start_of s) ≡ s
start_again s = go (eqb s no_start) refl
  where
    go : (b : Bool) → eqb s no_start ≡ b → start_field (cond b none (some s)) ≡ s
    go true e = sym (eqb-true s no_start e)
    go false e = refl

-- ---- how many links and nodes the trailer states
pub links-stated : (bytes : List ℕ) → length (machine bytes).links ≡ stated_links bytes
links-stated bytes = machine-links (parts_of bytes) ∙ (read-fields bytes).links-are

pub nodes-stated : (bytes : List ℕ) → length (machine bytes).finals ≡ stated_nodes bytes
nodes-stated bytes = machine-nodes (parts_of bytes) ∙ (read-fields bytes).nodes-are

module _ (bytes : List ℕ) (below : Below 256 bytes) (read : read_number bytes ≡ 0) where
  abbrev m : Machine
  m = machine bytes

  abbrev p : Parts
  p = parts_of bytes

  abbrev q : Parts
  q = parts_for (machine bytes)

  tests : (nodes_fit p ≡ true) × (weights_fit p ≡ true)
  tests = read-passes bytes read

  unit-is : unit_in m ≡ unit_of p.form
  unit-is = ap unit_of (machine-form p)

  -- ---- the words that are read, and those that the machine gives
  links-read : p.links ≡ words bytes 0 (4 * stated_links bytes)
  unfolding parts_of
  links-read = refl

  nodes-read : p.nodes ≡ words bytes (link_length * stated_links bytes) (3 * stated_nodes bytes)
  unfolding parts_of
  nodes-read = refl

  links-for : q.links ≡ flat_map (link_fields (unit_in m)) m.links
  unfolding parts_for
  links-for = refl

  nodes-for : q.nodes ≡ node_fields (unit_in m) m.links 0 m.finals
  unfolding parts_for
  nodes-for = refl

  long : length bytes ≡ link_length * length m.links + node_length * length m.finals + trailer_length m.form
  long = omega (arith, length-read bytes (read_fits bytes read), links-stated bytes, nodes-stated bytes, ap trailer_length (form-stated bytes))

  link-word : (i : ℕ) → get_or p.links i 0 < 4294967296
  link-word i = subst (λ (l : List ℕ). get_or l i 0 < 4294967296) (sym links-read) (words-below (4 * stated_links bytes) bytes 0 below i)

  node-word : (i : ℕ) → get_or p.nodes i 0 < 4294967296
  node-word i = subst (λ (l : List ℕ). get_or l i 0 < 4294967296) (sym nodes-read) (words-below (3 * stated_nodes bytes) bytes (link_length * stated_links bytes) below i)

  -- ---- record by record they are the same
  links-again : q.links ≡ p.links
  links-again =
      by_four q.links p.links (length m.links)
      (ap length links-for ∙ length-links (unit_in m) m.links)
      (ap length links-read ∙ length-words bytes 0 (4 * stated_links bytes) ∙ ap (λ (n : ℕ). 4 * n) (sym (links-stated bytes))) fields
    where
      fields : (l : ℕ) → l < length m.links → (ilabel q l ≡ ilabel p l) × (olabel q l ≡ olabel p l) × (link_bits q l ≡ link_bits p l) × (next q l ≡ next p l)
      fields l h =
          let b : l < link_count p = omega (arith, machine-links p) in
          let is = machine-link p l no_link b in (
            ilabel-is m l no_link h ∙ ap (λ (k : Link). k.ilabel) is,
            olabel-is m l no_link h ∙ ap (λ (k : Link). k.olabel) is,
            link_bits-is m l no_link h ∙ (λ i. bits_of (unit-is i) (is i).weight) ∙ bits-again (unit_of p.form) (covered p.form) (link_bits p l) (link-word (4 * l + 2)) (link_bits-fit p tests.1 l b),
            next-is m l no_link h ∙ ap (λ (k : Link). k.next) is,
          )

  nodes-again : q.nodes ≡ p.nodes
  nodes-again =
      by_three q.nodes p.nodes (length m.finals)
      (ap length nodes-for ∙ length-nodes (unit_in m) m.links 0 m.finals)
      (ap length nodes-read ∙ length-words bytes (link_length * stated_links bytes) (3 * stated_nodes bytes) ∙ ap (λ (n : ℕ). 3 * n) (sym (nodes-stated bytes))) fields
    where
      fields : (v : ℕ) → v < length m.finals → (count q v ≡ count p v) × (mark q v ≡ mark p v) × (final_bits q v ≡ final_bits p v)
      fields v h =
          let b : v < node_count p = omega (arith, machine-nodes p) in
          let r = marks (or-either (eqb (mark p v) 1) (eqb (mark p v) 0 && eqb (final_bits p v) 0) (well_marked-at p tests.0 v b)) (machine-final p v b) (final_bits-fit p tests.1 v b) in
          (count-is m v h ∙ leaving-is p tests.0 v b, r.0, r.1)
        where
          marks : (eqb (mark p v) 1 ≡ true) ⊎ (eqb (mark p v) 0 && eqb (final_bits p v) 0 ≡ true) → final m v ≡ final_of (unit_of p.form) (mark p v) (final_bits p v) → eqb (mark p v) 0 || weight_fits (unit_of p.form) (final_bits p v) ≡ true
              → (mark q v ≡ mark p v) × (final_bits q v ≡ final_bits p v)
          marks (inl e) is fit =
              let one = eqb-true (mark p v) 1 e in
              let other : eqb (mark p v) 0 ≡ false = ne_eqb (mark p v) 0 (λ z. omega (arith, one, z)) in
              let some-is = is ∙ ap (λ (t : Bool). cond t none (some (weight_of (unit_of p.form) (final_bits p v)))) other in (
                mark-some m v h (weight_of (unit_of p.form) (final_bits p v)) some-is ∙ sym one,
                final_bits-some m v h (weight_of (unit_of p.form) (final_bits p v)) some-is ∙ ap (λ (j : ℕ). bits_of j (weight_of (unit_of p.form) (final_bits p v))) unit-is ∙ bits-again (unit_of p.form) (covered p.form) (final_bits p v) (node-word (3 * v + 2)) (ap (λ (t : Bool). t || weight_fits (unit_of p.form) (final_bits p v)) (sym other) ∙ fit),
              )
          marks (inr e) is fit =
              let z = both (eqb (mark p v) 0) (eqb (final_bits p v) 0) e in
              let none_is = is ∙ ap (λ (t : Bool). cond t none (some (weight_of (unit_of p.form) (final_bits p v)))) z.0 in
              (mark-none m v h none_is ∙ sym (eqb-true (mark p v) 0 z.0), final_bits-none m v h none_is ∙ sym (eqb-true (final_bits p v) 0 z.1))

  form-same : q.form ≡ p.form
  form-same = form-is m ∙ machine-form p

  start_same : q.start ≡ p.start
  unfolding machine_of
  start_same = start_is m ∙ start_again p.start

  -- the machine's fields are those of the sheet
  pub parts-again : parts_for (machine bytes) ≡ parts_of bytes
  parts-again = λ i. record { links = links-again i; nodes = nodes-again i; start = start_same i; form = form-same i }

  -- and so are its bytes
  pub sheet-again : sheet_of (parts_for (machine bytes)) ≡ bytes
  sheet-again = ap sheet_of parts-again ∙ bytes_back bytes below (read_fits bytes read)

  -- ---- the bytes of the first links, of the first nodes, and of the nodes from one on
  pub link-bytes : (n : ℕ) → n ≤ length (machine bytes).links → bytes_of_all (take (4 * n) (flat_map (link_fields (unit_in (machine bytes))) (machine bytes).links)) ≡ take (link_length * n) bytes
  link-bytes n h =
      let T = stated_links bytes in
      let size : 4 * (4 * n) ≡ link_length * n = omega arith in
      ap (λ (l : List ℕ). bytes_of_all (take (4 * n) l)) (sym links-for ∙ links-again ∙ links-read)
      ∙ ap bytes_of_all (take-words bytes 0 (4 * T) (4 * n) (omega (arith, links-stated bytes)))
      ∙ bytes_of_all-words (4 * n) bytes 0 below (omega (arith, long)) ∙ ap (λ (k : ℕ). take k bytes) size

  nodes-words : node_fields (unit_in m) m.links 0 m.finals ≡ words bytes (link_length * length m.links) (3 * length m.finals)
  nodes-words = sym nodes-for ∙ nodes-again ∙ nodes-read ∙ λ i. words bytes (link_length * sym (links-stated bytes) i) (3 * sym (nodes-stated bytes) i)

  pub node-bytes-take : (n : ℕ) → n ≤ length (machine bytes).finals
      → bytes_of_all (take (3 * n) (node_fields (unit_in (machine bytes)) (machine bytes).links 0 (machine bytes).finals)) ≡ take (node_length * n) (drop (link_length * length (machine bytes).links) bytes)
  node-bytes-take n h =
      let at : ℕ = link_length * length m.links in
      let size : 4 * (3 * n) ≡ node_length * n = omega arith in
      ap (λ (l : List ℕ). bytes_of_all (take (3 * n) l)) nodes-words
      ∙ ap bytes_of_all (take-words bytes at (3 * length m.finals) (3 * n) (omega arith))
      ∙ bytes_of_all-words (3 * n) bytes at below (omega (arith, long)) ∙ ap (λ (k : ℕ). take k (drop at bytes)) size

  pub node-bytes-drop : (n : ℕ) → n ≤ length (machine bytes).finals
      → bytes_of_all (drop (3 * n) (node_fields (unit_in (machine bytes)) (machine bytes).links 0 (machine bytes).finals)) ≡ take (node_length * (length (machine bytes).finals - n)) (drop (link_length * length (machine bytes).links + node_length * n) bytes)
  node-bytes-drop n h =
      let at : ℕ = link_length * length m.links in
      let from : at + 4 * (3 * n) ≡ at + node_length * n = omega arith in
      let left : 3 * length m.finals - 3 * n ≡ 3 * (length m.finals - n) = omega arith in
      let size : 4 * (3 * (length m.finals - n)) ≡ node_length * (length m.finals - n) = omega arith in
      ap (λ (l : List ℕ). bytes_of_all (drop (3 * n) l)) nodes-words
      ∙ ap bytes_of_all (drop-words bytes at (3 * length m.finals) (3 * n) (omega arith) ∙ ap₂ (words bytes) from left)
      ∙ bytes_of_all-words (3 * (length m.finals - n)) bytes (at + node_length * n) below (omega (arith, long)) ∙ ap (λ (k : ℕ). take k (drop (at + node_length * n) bytes)) size
