use mathlib.Core.Path.{◌≡◌, refl, sym, ap, ◌∙◌}
use mathlib.Core.List.{List}
use Prim.Native.Nat.{ℕ, ◌*◌}
use native.Mathlib.Omega.{arith}
use lib.ListN.{length}
use lib.Seq.{sets}
use Rattle.sheet.specs.Words.{bytes_of_all}
use Rattle.product.specs.Joins.{join_below}
use Rattle.product.proofs.Fields.{product-links}
use Rattle.two_probes.specs.Held.{allowed_by, unit_by}
use Rattle.two_probes.proofs.Kept.{a, b, many-links}
use Rattle.two_probes.proofs.Records.{links-joined, records-none, records-more}
use Rattle.two_probes.proofs.both.Both.put_links.Invariants.{fields}
use Rattle.sheet.specs.Sheet.{link_length}
use Rattle.two_probes.proofs.both.Both.put_links.Goals as goal

pub loop-q-init : goal.loop-q-init
loop-q-init c = let x = c.args.self.now in records-none c.args.res.now 0 (fields (unit_by x) (allowed_by x))

pub loop-q-preserved : goal.loop-q-preserved
loop-q-preserved c =
    let x = c.args.self.now in
    let turn = c.loop-q in
    c.put_words.ensures ∙ ap (λ (w : List ℕ). sets turn.res (link_length * turn.q) (bytes_of_all w)) c.link.ensures
    ∙ records-more c.args.res.now turn.res 0 4 turn.q (link_length * turn.q) (fields (unit_by x) (allowed_by x)) (λ i. refl) turn.invariant (omega arith)

pub returns : goal.returns
returns c =
    let x = c.args.self.now in
    let m = allowed_by x in
    let all : c.loop-q.q ≡ length x.pairs.keys.now = omega arith in
    c.loop-q.invariant
    ∙ ap (λ (w : List ℕ). sets c.args.res.now 0 (bytes_of_all w)) (ap (λ (n : ℕ). join_below n (fields (unit_by x) m)) (all ∙ many-links x ∙ sym (product-links (a x) (b x))) ∙ links-joined (unit_by x) m)
