use mathlib.Core.Path.{◌≡◌, sym, ◌∙◌}
use Prim.Native.Nat.{◌+◌, ◌*◌, ◌≤◌}
use native.Mathlib.Omega.{arith}
use lib.ListN.{length}
use mathlib.Core.Bool.{true, false}
use Rattle.tropical_weight.specs.Limits.{node_limit, link_limit}
use Rattle.sheet.specs.declared.refusal.Refusal.{Refusal}
use Rattle.sheet.specs.Sheet.{link_length, node_length, trailer_length}
use Rattle.machine.proofs.Machines.{form-of}
use Rattle.product.specs.Product.{nodes, pairs}
use Rattle.product.specs.Refusals.{product_number}
use Rattle.product.specs.Fits.{sums_fit}
use Rattle.product.proofs.Numbers.{number-sums, number-passes}
use Rattle.product.proofs.Sheets.{product-length}
use Rattle.two_probes.specs.declared.both.Both.{Both}
use Rattle.two_probes.specs.Outcome.{answer_of}
use Rattle.two_probes.proofs.Kept.{a, b, second-zero, many-links, many-nodes}
use Rattle.two_probes.proofs.Outcomes.{number-product, number-short, number-made, refused-answer, refused-over, made-answer, made-over}
use Rattle.two_probes.proofs.both.Both.write.Goals as goal

module _ (x : Both) where
  few : (nodes (a x) * nodes (b x) ≤ node_limit) × (length (pairs (a x) (b x)) ≤ link_limit)
  few = (omega (arith, many-nodes x, x.few_nodes), omega (arith, many-links x, x.few_links))

  sums-off : sums_fit (a x) (b x) ≡ false → product_number (a x) (b x) ≡ 12
  sums-off e = number-sums (a x) (b x) x.labels few.0 few.1 e

  passes : sums_fit (a x) (b x) ≡ true → product_number (a x) (b x) ≡ 0
  passes e = number-passes (a x) (b x) x.labels few.0 few.1 e

  size-is : length (answer_of x.first.sheet.bytes.now x.second.sheet.bytes.now) ≡ link_length * length x.pairs.keys.now + node_length * (x.first.sheet.nodes * x.second.sheet.nodes) + trailer_length x.first.sheet.form
  size-is = product-length (a x) (b x) ∙ λ i. link_length * sym (many-links x) i + node_length * many-nodes x i + trailer_length (form-of x.first.sheet i)

pub returns-then-not-sums_fit : goal.returns-then-not-sums_fit
returns-then-not-sums_fit c =
    let x = c.args.self.now in
    let first = x.first.sheet.bytes.now in
    let second = x.second.sheet.bytes.now in
    let old = c.args.res.now in
    let n = number-product first second (length old) x.first.climbs (second-zero x) Refusal.Sum (sums-off x (sym c.sums_fit.ensures ∙ c.if-not-sums_fit.true)) in
    record { value = refused-answer first second old Refusal.Sum n; res_after = refused-over first second old Refusal.Sum n }

pub returns-then-res-size : goal.returns-then-res-size
returns-then-res-size c =
    let x = c.args.self.now in
    let first = x.first.sheet.bytes.now in
    let second = x.second.sheet.bytes.now in
    let old = c.args.res.now in
    let n = number-short first second (length old) x.first.climbs (second-zero x) (passes x (sym c.sums_fit.ensures ∙ c.if-not-sums_fit.false)) (omega (arith, c.if-res-size.true, c.size-size.ensures, size-is x)) in
    record { value = refused-answer first second old Refusal.Room n; res_after = refused-over first second old Refusal.Room n }

pub returns : goal.returns
returns c =
    let x = c.args.self.now in
    let first = x.first.sheet.bytes.now in
    let second = x.second.sheet.bytes.now in
    let old = c.args.res.now in
    let long : length (answer_of first second) ≤ length old = omega (arith, c.if-res-size.false, c.size-size.ensures, size-is x) in
    let n = number-made first second (length old) x.first.climbs (second-zero x) (passes x (sym c.sums_fit.ensures ∙ c.if-not-sums_fit.false)) long in
    record { value = made-answer first second old n c.size-size.result (c.size-size.ensures ∙ sym (size-is x)); res_after = c.put.ensures ∙ made-over first second old n long }
