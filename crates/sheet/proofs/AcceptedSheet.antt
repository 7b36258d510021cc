-- Of an accepted sheet with its counts: what its records are in the words of specs/. Assumes nothing.
use mathlib.Core.Path.{◌≡◌, refl, sym, ap, ◌∙◌, subst}
use mathlib.Core.Bool.{Bool, cond, true, false, ◌&&◌}
use Rattle.std.proofs.Common.{Option, None, Some}
use Rattle.std.proofs.lemmas.Bool.{ltb-false}
use mathlib.Core.List.{List}
use Prim.Native.Nat.{ℕ, ◌+◌, ◌*◌, ◌≤◌, ◌<◌}
use native.Mathlib.Omega.{arith}
use lib.Dec.{ltb, ltb→lt, T as Holds}
use lib.ListN.{length}
use Rattle.sheet.specs.declared.form.Form.{Form}
use Rattle.sheet.specs.declared.accepted.Sheet.{Sheet}
use Rattle.sheet.specs.declared.tr.Trailer.{Trailer}
use Rattle.sheet.specs.Words.{word}
use Rattle.sheet.specs.Sheet.{link_length, node_length, Parts, link_count, node_count, count, mark, final_bits, link_bits, next, nodes_fit, start_fits, nexts_fit, weights_fit, verdict, parts_of, sizes_fit, read_number, stated_links, stated_nodes, trailer_field, short_trailer, trailer_length, trailer_size, unit_fits, form_of}
use Rattle.sheet.specs.Records.{trailer_at, count_at, mark_at, final_at}
use Rattle.sheet.specs.Accepted.{trailer_in, stated_trailer}
use Rattle.sheet.proofs.Apart.{both}
use Rattle.sheet.proofs.Below.{all_below-at}
use Rattle.sheet.proofs.Passes.{first_failing, first-known}
use Rattle.sheet.proofs.Forms.{laid-out}
use Rattle.sheet.proofs.Fields.{read-fields, read_fits, length-read}
use Rattle.sheet.proofs.Refusals.{Known}

-- ---- the numbers that reading answers
pub verdict-known : (laid : Bool) (p : Parts) → Known (verdict laid p)
unfolding verdict
verdict-known laid p = first-known (laid && nodes_fit p) (unit_fits p.form) (start_fits (node_count p) p.start) (nexts_fit p) (weights_fit p)

pub read-known : (bytes : List ℕ) → Known (read_number bytes)
unfolding read_number
read-known bytes = verdict-known (sizes_fit bytes) (parts_of bytes)

-- a verdict of 0 says of the nodes that they pass test 1
pub nodes-pass : (laid : Bool) (p : Parts) → verdict laid p ≡ 0 → nodes_fit p ≡ true
unfolding verdict
nodes-pass laid p e = (both laid (nodes_fit p) (first (laid && nodes_fit p) (unit_fits p.form) (start_fits (node_count p) p.start) (nexts_fit p) (weights_fit p) e)).1
  where
    first : (a u b c d : Bool) → first_failing a u b c d ≡ 0 → a ≡ true
    first true u b c d e = refl
    first false u b c d e = absurd (omega arith)

-- of the unit that it is one of the two
pub unit-passes : (laid : Bool) (p : Parts) → verdict laid p ≡ 0 → unit_fits p.form ≡ true
unfolding verdict
unit-passes laid p = first (laid && nodes_fit p) (unit_fits p.form) (start_fits (node_count p) p.start) (nexts_fit p) (weights_fit p)
  where
    first : (a u b c d : Bool) → first_failing a u b c d ≡ 0 → u ≡ true
    first false u b c d e = absurd (omega arith)
    first true true b c d e = refl
    first true false b c d e = absurd (omega arith)

-- and of each next node that it is one
pub nexts-pass : (laid : Bool) (p : Parts) → verdict laid p ≡ 0 → nexts_fit p ≡ true
unfolding verdict
nexts-pass laid p = first (laid && nodes_fit p) (unit_fits p.form) (start_fits (node_count p) p.start) (nexts_fit p) (weights_fit p)
  where
    first : (a u b c d : Bool) → first_failing a u b c d ≡ 0 → c ≡ true
    first false u b c d e = absurd (omega arith)
    first true false b c d e = absurd (omega arith)
    first true true false c d e = absurd (omega arith)
    first true true true true d e = refl
    first true true true false d e = absurd (omega arith)

-- ---- the trailer of a byte string, where it is long enough for one
pub stated-some : (bytes : List ℕ) (t : Trailer) → ◌≡◌ {A = Option Trailer} (Some t) (stated_trailer bytes) → (short_trailer ≤ length bytes) × (t ≡ trailer_at bytes)
stated-some bytes t e = go (ltb (length bytes) short_trailer) refl e
  where
    go : (b : Bool) → ltb (length bytes) short_trailer ≡ b → ◌≡◌ {A = Option Trailer} (Some t) (cond b None (Some (trailer_at bytes))) → (short_trailer ≤ length bytes) × (t ≡ trailer_at bytes)
    go true q h = absurd (cc)
    go false q h = (ltb-false (length bytes) short_trailer q, cc)

pub stated-none : (bytes : List ℕ) → ◌≡◌ {A = Option Trailer} None (stated_trailer bytes) → length bytes < short_trailer
stated-none bytes e = go (ltb (length bytes) short_trailer) refl e
  where
    go : (b : Bool) → ltb (length bytes) short_trailer ≡ b → ◌≡◌ {A = Option Trailer} None (cond b None (Some (trailer_at bytes))) → length bytes < short_trailer
    go true q h = ltb→lt (length bytes) short_trailer (subst Holds (sym q) tt)
    go false q h = absurd (cc)

-- ---- the trailer of a sheet that is accepted
pub trailer-stated : (bytes : List ℕ) → read_number bytes ≡ 0 → trailer_in (stated_links bytes) (stated_nodes bytes) (trailer_field bytes 4) (form_of bytes) ≡ trailer_at bytes
trailer-stated bytes accepted =
    let laid = laid-out (trailer_size bytes) bytes (read_fits bytes accepted) in
    λ i. record { link_offset = sym laid.links-at i; node_offset = sym laid.nodes-at i; nodes = stated_nodes bytes; links = stated_links bytes; start = trailer_field bytes 4; form = form_of bytes }

-- ---- a sheet's value
-- its form is that of its bytes
pub form-of-bytes : (s : Sheet) → s.form ≡ form_of s.bytes.now
form-of-bytes s = ap (λ (t : Trailer). t.form) s.stated

module _ (bytes : List ℕ) (links nodes start : ℕ) (form : Form) (accepted : read_number bytes ≡ 0) (stated : trailer_in links nodes start form ≡ trailer_at bytes) where
  pub links-are : links ≡ stated_links bytes
  links-are = ap (λ (t : Trailer). t.links) stated

  pub nodes-are : nodes ≡ stated_nodes bytes
  nodes-are = ap (λ (t : Trailer). t.nodes) stated

  pub start-is : start ≡ (parts_of bytes).start
  unfolding parts_of
  start-is = ap (λ (t : Trailer). t.start) stated

  pub form-is : form ≡ form_of bytes
  form-is = ap (λ (t : Trailer). t.form) stated

  pub length-is : length bytes ≡ link_length * links + node_length * nodes + trailer_length form
  length-is = omega (arith, length-read bytes (read_fits bytes accepted), links-are, nodes-are, ap trailer_length form-is)

  pub link-count-is : link_count (parts_of bytes) ≡ links
  link-count-is = (read-fields bytes).links-are ∙ sym links-are

  pub node-count-is : node_count (parts_of bytes) ≡ nodes
  node-count-is = (read-fields bytes).nodes-are ∙ sym nodes-are

  -- each field of a node or a link, as the part that it is
  pub count-is : (v : ℕ) → v < nodes → count_at bytes links v ≡ count (parts_of bytes) v
  count-is v h = ap (λ (k : ℕ). count_at bytes k v) links-are ∙ sym ((read-fields bytes).count-is v (omega (arith, nodes-are)))

  pub mark-is : (v : ℕ) → v < nodes → mark_at bytes links v ≡ mark (parts_of bytes) v
  mark-is v h = ap (λ (k : ℕ). mark_at bytes k v) links-are ∙ sym ((read-fields bytes).mark-is v (omega (arith, nodes-are)))

  pub final-is : (v : ℕ) → v < nodes → final_at bytes links v ≡ final_bits (parts_of bytes) v
  final-is v h = ap (λ (k : ℕ). final_at bytes k v) links-are ∙ sym ((read-fields bytes).final-is v (omega (arith, nodes-are)))

  pub bits-are : (l : ℕ) → l < links → word bytes (link_length * l + 8) ≡ link_bits (parts_of bytes) l
  bits-are l h = sym ((read-fields bytes).bits_is l (omega (arith, links-are)))

  pub next-is : (l : ℕ) → l < links → word bytes (link_length * l + 12) ≡ next (parts_of bytes) l
  next-is l h = sym ((read-fields bytes).next-is l (omega (arith, links-are)))

  -- a link leads to a node
  pub next-below : (l : ℕ) → l < links → word bytes (link_length * l + 12) < nodes
  unfolding read_number nexts_fit
  next-below l h =
      let p = parts_of bytes in
      let passes : nexts_fit p ≡ true = nexts-pass (sizes_fit bytes) p accepted in
      let below : next p l < node_count p = ltb→lt (next p l) (node_count p) (subst Holds (sym (all_below-at (link_count p) (λ k. ltb (next p k) (node_count p)) passes l (omega (arith, link-count-is)))) tt) in
      omega (arith, next-is l h, below, node-count-is)
