use mathlib.Core.Path.{◌≡◌, sym, ap, ◌∙◌}
use mathlib.Core.List.{List}
use Prim.Native.Nat.{ℕ, ◌+◌, ◌-◌, ◌*◌}
use native.Mathlib.Omega.{arith}
use lib.ListN.{length, take, drop}
use lib.Seq.{sets}
use Rattle.sheet.specs.Below.{list_below}
use Rattle.sheet.specs.Words.{bytes_of_all}
use Rattle.sheet.specs.Sheet.{link_length, node_length, trailer_length}
use Rattle.sheet.specs.Machine.{unit_in, node_fields, start_field}
use Rattle.sheet.specs.Accepted.{trailer_in, trailer_fields}
use Rattle.machine.proofs.Again.{node-bytes-drop}
use Rattle.narrowing.specs.declared.Narrowing.{Narrowing}
use Rattle.narrowing.specs.Parts.{is_after, numbers}
use Rattle.narrowing.proofs.Seam.{second-start, second-nodes, numbers-after}
use Rattle.narrowing.proofs.PartWords.{second-node-words}
use Rattle.preheat_bake.specs.Held.{whole, bake_of}
use Rattle.preheat_bake.proofs.Whole.{fields, climbs, bake-form, at-seam, few-before, later, accepted}
use Rattle.preheat_bake.proofs.Storing.{part-stores}
use Rattle.preheat_bake.proofs.parts.put_second.Goals as goal

pub overflow_sub-later : goal.overflow_sub-later
overflow_sub-later c = few-before c.args.whole.now

module _ (x : Narrowing) where
  abbrev T : ℕ
  T = x.machine.sheet.links

  abbrev N : ℕ
  N = x.machine.sheet.nodes

  -- the nodes from c on are copied
  node-words : take (node_length * (N - x.node)) (drop (link_length * T + node_length * x.node) x.machine.sheet.bytes.now) ≡ bytes_of_all (node_fields (unit_in (bake_of x)) (bake_of x).links 0 (bake_of x).finals)
  node-words =
      sym (node-bytes-drop x.machine.sheet.bytes.now x.bytes (accepted x) x.node (omega (arith, x.inside, (fields x).nodes-are))
      ∙ λ i. take (node_length * ((fields x).nodes-are i - x.node)) (drop (link_length * (fields x).links-are i + node_length * x.node) x.machine.sheet.bytes.now))
      ∙ ap bytes_of_all (sym (second-node-words x.node (whole x)))

  own-trailer : trailer_in (T - x.before) (N - x.node) 0 x.machine.sheet.form ≡ trailer_in (length (bake_of x).links) (length (bake_of x).finals) (start_field (bake_of x).start) (bake_of x).form
  own-trailer =
      let nodes : N - x.node ≡ length (bake_of x).finals = sym (second-nodes x.node (whole x) ∙ ap (λ (n : ℕ). n - x.node) (fields x).nodes-are) in
      λ i. trailer_in (sym (later x) i) (nodes i) (start_field (sym (second-start x.node (whole x)) i)) (sym (bake-form x) i)

  own-numbers : list_below (T - x.before) (λ i. x.before + i) ≡ numbers (is_after x.node) (whole x)
  own-numbers = (λ j. list_below (sym (fields x).links-are j - at-seam x j) (λ i. at-seam x j + i)) ∙ sym (numbers-after x.node (whole x) (climbs x))

pub returns : goal.returns
returns c =
    let x = c.args.whole.now in
    let v = x.node in
    let old = c.args.res.now in
    let at = c.args.at in
    let links-end = at + link_length * (T x - x.before) in
    let nodes-end = links-end + node_length * (N x - v) in
    let sheet-end = nodes-end + c.trailer.result in
    let from = link_length * T x + node_length * v in
    let span : from + node_length * (N x - v) - from ≡ node_length * (N x - v) = omega arith in
    let nodes = c.put_bytes.ensures ∙ ap (sets c.put_later_links.new.res links-end) (ap (λ (n : ℕ). take n (drop from x.machine.sheet.bytes.now)) span ∙ node-words x) in
    let trailer = c.put.ensures ∙ ap (λ t. sets c.put_bytes.new.bytes nodes-end (bytes_of_all (trailer_fields t))) (c.of.ensures ∙ own-trailer x) in
    let own = c.put_numbers.ensures ∙ ap (λ (w : List ℕ). sets c.put.new.res sheet-end (bytes_of_all w)) (own-numbers x) in
    part-stores (bake_of x) (numbers (is_after v) (whole x)) old c.put_later_links.new.res c.put_bytes.new.bytes c.put.new.res c.put_numbers.new.res at links-end nodes-end sheet-end
    c.put_later_links.ensures nodes trailer own
    (omega (arith, later x))
    (omega (arith, second-nodes v (whole x), (fields x).nodes-are))
    (ap (λ (n : ℕ). nodes-end + n) (c.trailer.ensures ∙ ap trailer_length (sym (bake-form x))))
