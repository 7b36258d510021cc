use mathlib.Core.Path.{◌≡◌, sym, ap, ◌∙◌}
use mathlib.Core.List.{List, ◌∷◌, ◌++◌, flat_map}
use Prim.Native.Nat.{ℕ, ◌+◌, ◌*◌}
use native.Mathlib.Omega.{arith}
use lib.ListN.{length}
use lib.Seq.{sets}
use Rattle.sheet.specs.Words.{bytes_of_all}
use Rattle.sheet.specs.Sheet.{link_length, node_length, link_count, node_count, unit_fields, sheet_of}
use Rattle.sheet.specs.Machine.{link_fields, node_fields, start_field, parts_for}
use Rattle.sheet.specs.Accepted.{trailer_fields}
use Rattle.sheet.proofs.Writing.{sheet-stores}
use Rattle.sheet.proofs.Encoding.{length-links, length-nodes, links-are, nodes-are}
use Rattle.machine.proofs.Machines.{form-of}
use Rattle.product.proofs.Fields.{product-links, product-nodes, product-form}
use Rattle.two_probes.specs.Held.{allowed_by, unit_by}
use Rattle.two_probes.proofs.Kept.{a, b, allowed-unit, many-links, many-nodes}
use Rattle.two_probes.proofs.both.Both.put.Goals as goal

pub returns : goal.returns
unfolding sheet_of parts_for
returns c =
    let x = c.args.self.now in
    let m = allowed_by x in
    let t = length x.pairs.keys.now in
    let n = c.nodes-nodes.result in
    let j = unit_by x in
    let xs = flat_map (link_fields j) m.links in
    let ys = node_fields j m.links 0 m.finals in
    let links : link_count (parts_for m) ≡ t = links-are m ∙ product-links (a x) (b x) ∙ sym (many-links x) in
    let nodes : node_count (parts_for m) ≡ n = nodes-are m ∙ product-nodes (a x) (b x) ∙ many-nodes x ∙ sym c.nodes-nodes.ensures.value in
    let trailer : List ℕ = 0 ∷ link_length * link_count (parts_for m) ∷ node_count (parts_for m) ∷ link_count (parts_for m) ∷ start_field m.start ∷ unit_fields m.form in
    let first : link_length * t ≡ 4 * length xs = omega (arith, length-links j m.links, product-links (a x) (b x), many-links x) in
    let second : link_length * t + node_length * n ≡ 4 * length xs + 4 * length ys = omega (arith, first, length-nodes j m.links 0 m.finals, product-nodes (a x) (b x), many-nodes x, c.nodes-nodes.ensures.value) in
    let form : x.first.sheet.form ≡ m.form = sym (product-form (a x) (b x) ∙ form-of x.first.sheet) in
    let fields : trailer_fields c.of-trailer.result ≡ trailer = ap trailer_fields c.of-trailer.ensures ∙ λ i. 0 ∷ link_length * sym links i ∷ sym nodes i ∷ sym links i ∷ c.start.ensures i ∷ unit_fields (form i) in
    c.put.ensures ∙ ap (λ (w : List ℕ). sets c.put_nodes.new.res (link_length * t + node_length * n) (bytes_of_all w)) fields
    ∙ ap (λ (r : List ℕ). sets r (link_length * t + node_length * n) (bytes_of_all trailer))
    (c.put_nodes.ensures ∙ ap (λ (r : List ℕ). sets r (link_length * t) (bytes_of_all ys)) c.put_links.ensures)
    ∙ (λ i. sets (sets (sets c.args.res.now 0 (bytes_of_all xs)) (first i) (bytes_of_all ys)) (second i) (bytes_of_all trailer))
    ∙ sheet-stores c.args.res.now xs ys trailer
    ∙ ap (λ (j : ℕ). sets c.args.res.now 0 (bytes_of_all (flat_map (link_fields j) m.links ++ node_fields j m.links 0 m.finals ++ trailer))) (sym (allowed-unit x))
