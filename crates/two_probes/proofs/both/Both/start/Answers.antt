use mathlib.Core.Path.{sym, ap, ◌∙◌}
use mathlib.Core.Option.{Option}
use Prim.Native.Nat.{ℕ, ◌+◌, ◌*◌}
use Rattle.sheet.specs.Machine.{start_field}
use Rattle.product.specs.Product.{start_for}
use Rattle.product.proofs.Fields.{product-start}
use Rattle.machine.proofs.Values.{start-none, start-some}
use Rattle.two_probes.proofs.Kept.{a, b, second-nodes}
use Rattle.two_probes.proofs.both.Both.start.Goals as goal

pub returns-in_default : goal.returns-in_default
returns-in_default c =
    let x = c.args.self.now in
    let first = start-none x.first (sym c.start.ensures.value ∙ c.in_default.is) in
    sym (ap start_field (product-start (a x) (b x) ∙ ap (λ (s : Option ℕ). start_for (a x) (b x) s (b x).start) first))

pub returns-in_default-start : goal.returns-in_default-start
returns-in_default-start c =
    let x = c.args.self.now in
    let first = start-some x.first c.in-Some.i (sym c.start.ensures.value ∙ c.in-Some.is) in
    let second = start-none x.second (sym c.start-2.ensures.value ∙ c.in_default-start.is) in
    sym (ap start_field (product-start (a x) (b x) ∙ λ i. start_for (a x) (b x) (first i) (second i)))

pub returns : goal.returns
returns c =
    let x = c.args.self.now in
    let first = start-some x.first c.in-Some.i (sym c.start.ensures.value ∙ c.in-Some.is) in
    let second = start-some x.second c.in-Some-start.j (sym c.start-2.ensures.value ∙ c.in-Some-start.is) in
    c.node_for.ensures.value ∙ (λ i. c.in-Some.i * sym (second-nodes x) i + c.in-Some-start.j) ∙ sym (ap start_field (product-start (a x) (b x) ∙ λ i. start_for (a x) (b x) (first i) (second i)))
