use mathlib.Core.Path.{sym, ap, ◌∙◌}
use mathlib.Core.List.{List}
use Prim.Native.Nat.{ℕ}
use native.Mathlib.Omega.{arith}
use lib.Seq.{sets}
use Rattle.sheet.specs.declared.accepted.Sheet.{Sheet}
use Rattle.sheet.specs.declared.source.Sources.{Sources}
use Rattle.sheet.specs.Below.{list_below}
use Rattle.sheet.specs.Machine.{machine}
use Rattle.machine.proofs.Machines.{machine-fields}
use Rattle.link_pairs.specs.Found.{node_keys}
use Rattle.link_pairs.proofs.LinkKeys.{key_at, all-passed, keys-stored}
use Rattle.link_pairs.proofs.link_keys.put_link_keys.Goals as goal

pub loop-source-init : goal.loop-source-init
unfolding list_below
loop-source-init c =
    let same = c.into_iter-source-iterator.ensures.into_iter_gives in
    let made = c.new-source-items.ensures in
    let first = ap (λ (t : Sources). t.first) same ∙ made.2 in
    (ap (λ (t : Sources). t.sheet) same ∙ made.0, ap (λ (n : ℕ). sets c.args.keys.now 0 (list_below n (key_at (machine c.args.machine.now.sheet.bytes.now)))) (sym first))

pub put_node_keys-requires : goal.put_node_keys-requires
put_node_keys-requires c =
    let f = machine-fields c.args.machine.now in
    let same = c.in-Some.ensures.steps.1 ∙ c.loop-source.invariant.0 in
    let links = ap (λ (s : Sheet). s.links) same in record {
      room = omega (arith, links, c.requires, c.loop-source.auto.keys);
      few = (omega (arith, ap (λ (s : Sheet). s.nodes) same, f.few-nodes), omega (arith, links, f.few-links));
    }

pub loop-source-preserved : goal.loop-source-preserved
loop-source-preserved c =
    let turn = c.loop-source in
    let it = turn.source-iterator in
    let source = c.in-Some.source in
    let steps = c.in-Some.ensures.steps in
    let e = turn.invariant.0 in (
      steps.4 ∙ e,
      c.put_node_keys.ensures
          ∙ ap (λ (l : List ℕ). sets l source.first (node_keys source.sheet.bytes.now source.sheet.links source.node source.first)) turn.invariant.1
          ∙ keys-stored c.args.machine.now it e source c.next.new.self steps c.args.keys.now,
    )

pub returns : goal.returns
returns c =
    let turn = c.loop-source in
    turn.invariant.1 ∙ ap (λ (l : List ℕ). sets c.args.keys.now 0 l) (all-passed c.args.machine.now turn.source-iterator turn.invariant.0 c.in-None.ensures.steps.0)
