use mathlib.Core.Path.{◌≡◌, sym, ap, ◌∙◌}
use mathlib.Core.List.{List, [], ◌∷◌, flat_map}
use Prim.Native.Nat.{ℕ, ◌+◌, ◌-◌, ◌*◌}
use native.Mathlib.Omega.{arith}
use lib.ListN.{length, take, drop}
use lib.Seq.{sets, length-take-le}
use Rattle.sheet.specs.Below.{list_below}
use Rattle.sheet.specs.Words.{bytes_of_all}
use Rattle.sheet.specs.Sheet.{link_length, node_length, link_words, node_words, trailer_length}
use Rattle.sheet.specs.Machine.{unit_in, link_fields, node_fields, start_field}
use Rattle.sheet.specs.Accepted.{trailer_in, trailer_fields}
use Rattle.sheet.proofs.Below.{list_below-same}
use Rattle.sheet.proofs.Bytes.{stored_next}
use Rattle.sheet.proofs.Encoding.{length-nodes}
use Rattle.machine.proofs.Again.{start_again, link-bytes, node-bytes-take}
use Rattle.machine.proofs.Values.{start-read}
use Rattle.narrowing.specs.declared.Narrowing.{Narrowing}
use Rattle.narrowing.specs.Parts.{is_before, preheat, numbers}
use Rattle.narrowing.proofs.Seam.{first-links, first-start, first-nodes, numbers-before}
use Rattle.narrowing.proofs.PartWords.{first-words, first-node-words}
use Rattle.preheat_bake.specs.Held.{whole}
use Rattle.preheat_bake.proofs.Whole.{fields, climbs, narrow, preheat-form, at-seam, few-before, accepted}
use Rattle.preheat_bake.proofs.Storing.{part-stores}
use Rattle.preheat_bake.proofs.parts.put_first.Goals as goal

pub of-trailer-requires : goal.of-trailer-requires
of-trailer-requires c = let x = c.args.whole.now in omega (arith, few-before x, (fields x).few-links)

pub slice_bounds-put_bytes-end : goal.slice_bounds-put_bytes-end
slice_bounds-put_bytes-end c = let x = c.args.whole.now in sym (length-take-le (link_length * x.before) x.machine.sheet.bytes.now (omega (arith, few-before x, (fields x).laid_out)))

module _ (x : Narrowing) where
  -- the links and the nodes below c are copied
  link-words : take (link_length * x.before) x.machine.sheet.bytes.now ≡ bytes_of_all (flat_map (link_fields (unit_in (preheat x.node (whole x)))) (preheat x.node (whole x)).links)
  link-words =
      sym (link-bytes x.machine.sheet.bytes.now x.bytes (accepted x) x.before (omega (arith, few-before x, (fields x).links-are)))
      ∙ ap bytes_of_all (ap (λ (n : ℕ). take (link_words * n) (flat_map (link_fields (unit_in (whole x))) (whole x).links)) (at-seam x) ∙ sym (first-words x.node (whole x) (climbs x)))

  node-words : take (node_length * x.node) (drop (link_length * x.machine.sheet.links) x.machine.sheet.bytes.now) ≡ bytes_of_all (take (node_words * x.node) (node_fields (unit_in (whole x)) (whole x).links 0 (whole x).finals))
  node-words =
      sym (node-bytes-take x.machine.sheet.bytes.now x.bytes (accepted x) x.node (omega (arith, x.inside, (fields x).nodes-are))
      ∙ ap (λ (n : ℕ). take (node_length * x.node) (drop (link_length * n) x.machine.sheet.bytes.now)) (fields x).links-are)

  own-trailer : trailer_in x.before (x.node + 1) x.machine.sheet.start x.machine.sheet.form
      ≡ trailer_in (length (preheat x.node (whole x)).links) (length (preheat x.node (whole x)).finals) (start_field (preheat x.node (whole x)).start) (preheat x.node (whole x)).form
  own-trailer =
      let links : x.before ≡ length (preheat x.node (whole x)).links = at-seam x ∙ sym (first-links x.node (whole x)) in
      let nodes : x.node + 1 ≡ length (preheat x.node (whole x)).finals = sym (first-nodes x.node (whole x) (narrow x).inside) in
      let start : x.machine.sheet.start ≡ start_field (preheat x.node (whole x)).start = sym (start_again x.machine.sheet.start) ∙ ap start_field (sym (start-read x.machine) ∙ sym (first-start x.node (whole x))) in
      λ i. trailer_in (links i) (nodes i) (start i) (sym (preheat-form x) i)

  own-numbers : list_below x.before (λ i. 0 + i) ≡ numbers (is_before x.node) (whole x)
  own-numbers = list_below-same x.before (λ i. 0 + i) (λ i. i) (λ i h. let e : 0 + i ≡ i = omega arith in e) ∙ ap (λ (n : ℕ). list_below n (λ i. i)) (at-seam x) ∙ sym (numbers-before x.node (whole x) (climbs x))

pub returns : goal.returns
returns c =
    let x = c.args.whole.now in
    let b = x.before in
    let v = x.node in
    let old = c.args.res.now in
    let part = preheat v (whole x) in
    let j = unit_in (whole x) in
    let all-nodes = node_fields j (whole x).links 0 (whole x).finals in
    let below = take (node_words * v) all-nodes in
    let links-end = link_length * b in
    let nodes-end = links-end + node_length * v + node_length in
    let sheet-end = nodes-end + c.trailer.result in
    let links = c.put_bytes.ensures ∙ ap (sets old 0) (link-words x) in
    let from = link_length * x.machine.sheet.links in
    let span : from + node_length * v - from ≡ node_length * v = omega arith in
    let nodes = c.put_bytes-2.ensures ∙ ap (sets c.put_bytes.new.bytes links-end) (ap (λ (n : ℕ). take n (drop from x.machine.sheet.bytes.now)) span ∙ node-words x) in
    let size : length below ≡ node_words * v = length-take-le (node_words * v) all-nodes (omega (arith, length-nodes j (whole x).links 0 (whole x).finals, (narrow x).inside)) in
    let all = stored_next c.put_bytes.new.bytes c.put_bytes-2.new.bytes c.put_words.new.bytes links-end below (0 ∷ 1 ∷ 0 ∷ []) (links-end + node_length * v) nodes c.put_words.ensures (omega (arith, size)) in
    let ends = all ∙ ap (λ (w : List ℕ). sets c.put_bytes.new.bytes links-end (bytes_of_all w)) (sym (first-node-words v (whole x) (narrow x).inside)) in
    let trailer = c.put.ensures ∙ ap (λ t. sets c.put_words.new.bytes nodes-end (bytes_of_all (trailer_fields t))) (c.of-trailer.ensures ∙ own-trailer x) in
    let own = c.put_numbers.ensures ∙ ap (λ (w : List ℕ). sets c.put.new.res sheet-end (bytes_of_all w)) (own-numbers x) in
    part-stores part (numbers (is_before v) (whole x)) old c.put_bytes.new.bytes c.put_words.new.bytes c.put.new.res c.put_numbers.new.res 0 links-end nodes-end sheet-end
    links ends trailer own
    (omega (arith, at-seam x, first-links v (whole x)))
    (omega (arith, first-nodes v (whole x) (narrow x).inside))
    (ap (λ (n : ℕ). nodes-end + n) (c.trailer.ensures ∙ ap trailer_length (sym (preheat-form x))))
