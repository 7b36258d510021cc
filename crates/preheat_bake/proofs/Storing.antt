-- A part is stored piece by piece: its links, its nodes, its trailer, and the numbers of its links. Assumes nothing.
use mathlib.Core.Path.{◌≡◌, sym, ap, ◌∙◌}
use mathlib.Core.List.{List, ◌∷◌, ◌++◌, flat_map}
use Prim.Native.Nat.{ℕ, ◌+◌, ◌*◌}
use native.Mathlib.Omega.{arith}
use lib.ListN.{length, length-append}
use lib.Seq.{sets}
use Rattle.sheet.specs.Words.{bytes_of_all}
use Rattle.sheet.specs.Sheet.{link_length, node_length, trailer_length, unit_fields, sheet_of, trailer_of}
use Rattle.sheet.specs.Machine.{Machine, unit_in, link_fields, node_fields, start_field, parts_for}
use Rattle.sheet.specs.Accepted.{trailer_in, trailer_fields}
use Rattle.sheet.proofs.Bytes.{bytes_of_all-append, stored_next}
use Rattle.sheet.proofs.Writing.{trailer-size}
use Rattle.sheet.proofs.Encoding.{length-links, length-nodes, links-are, nodes-are, form-is}
use Rattle.preheat_bake.specs.Outcome.{part_bytes}

module _ (part : Machine) (own : List ℕ) where
  abbrev links : List ℕ
  links = flat_map (link_fields (unit_in part)) part.links

  abbrev nodes : List ℕ
  nodes = node_fields (unit_in part) part.links 0 part.finals

  abbrev trailer : List ℕ
  trailer = trailer_fields (trailer_in (length part.links) (length part.finals) (start_field part.start) part.form)

  stated : trailer ≡ trailer_of (parts_for part)
  unfolding parts_for
  stated = λ i. 0 ∷ link_length * sym (links-are part) i ∷ sym (nodes-are part) i ∷ sym (links-are part) i ∷ start_field part.start ∷ unit_fields part.form

  trailer-long : 4 * length trailer ≡ trailer_length part.form
  trailer-long = ap (λ (t : List ℕ). 4 * length t) stated ∙ trailer-size (parts_for part) ∙ ap trailer_length (form-is part)

  all-bytes : bytes_of_all (links ++ nodes ++ trailer ++ own) ≡ part_bytes part own
  unfolding sheet_of parts_for
  all-bytes =
      bytes_of_all-append (links ++ nodes ++ trailer) own ∙ ap (λ (t : List ℕ). bytes_of_all (links ++ nodes ++ t) ++ bytes_of_all own) stated

  pub part-stores : (old first second third last : List ℕ) (at a b c : ℕ)
      → first ≡ sets old at (bytes_of_all (flat_map (link_fields (unit_in part)) part.links))
      → second ≡ sets first a (bytes_of_all (node_fields (unit_in part) part.links 0 part.finals))
      → third ≡ sets second b (bytes_of_all (trailer_fields (trailer_in (length part.links) (length part.finals) (start_field part.start) part.form)))
      → last ≡ sets third c (bytes_of_all own)
      → a ≡ at + link_length * length part.links → b ≡ a + node_length * length part.finals → c ≡ b + trailer_length part.form
      → last ≡ sets old at (part_bytes part own)
  part-stores old first second third last at a b c e f g h p q r =
      let n = length-links (unit_in part) part.links in
      let k = length-nodes (unit_in part) part.links 0 part.finals in
      let two = stored_next old first second at links nodes a e f (omega (arith, n, p)) in
      let three = stored_next old second third at (links ++ nodes) trailer b two g (omega (arith, n, k, p, q, length-append links nodes)) in
      let four = stored_next old third last at (links ++ nodes ++ trailer) own c three h (omega (arith, n, k, p, q, r, trailer-long, length-append links nodes, length-append (links ++ nodes) trailer)) in
      four ∙ ap (sets old at) all-bytes
