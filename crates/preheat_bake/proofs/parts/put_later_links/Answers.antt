use mathlib.Core.Path.{◌≡◌, refl, sym, ap, ◌∙◌}
use mathlib.Core.List.{List, flat_map}
use Prim.Native.Nat.{ℕ, ◌+◌, ◌*◌, ◌<◌}
use native.Mathlib.Omega.{arith}
use lib.ListN.{length, take}
use lib.Seq.{sets, take_all, length-take-le}
use Rattle.sheet.specs.Words.{word_length, bytes_of_all}
use Rattle.sheet.specs.Sheet.{link_length}
use Rattle.sheet.specs.Machine.{Link, unit_in, link_fields}
use Rattle.sheet.proofs.Bytes.{sets-words}
use Rattle.sheet.proofs.Encoding.{length-links}
use Rattle.machine.specs.Readings.{link}
use Rattle.preheat_bake.specs.Held.{bake_of}
use Rattle.preheat_bake.proofs.Whole.{few-before, later, link-more}
use Rattle.preheat_bake.proofs.parts.put_later_links.Goals as goal

pub overflow_sub-i-end : goal.overflow_sub-i-end
overflow_sub-i-end c = few-before c.args.whole.now

pub loop-i-init : goal.loop-i-init
unfolding flat_map bytes_of_all
loop-i-init c = refl

pub later_link-requires : goal.later_link-requires
later_link-requires c = omega (arith, c.loop-i-test.true)

pub loop-i-preserved : goal.loop-i-preserved
loop-i-preserved c =
    let x = c.args.whole.now in
    let turn = c.loop-i in
    let at = c.args.at in
    let ks = (bake_of x).links in
    let j = unit_in (bake_of x) in
    let i = turn.i in
    let within : i < length ks = omega (arith, c.loop-i-test.true, later x) in
    let place : at + link_length * i ≡ at + word_length * length (flat_map (link_fields j) (take i ks)) = omega (arith, length-links j (take i ks), length-take-le i ks (omega arith)) in
    c.put_words.ensures
    ∙ (λ k. sets (turn.invariant k) (at + link_length * i) (bytes_of_all (c.later_link.ensures k)))
    ∙ sets-words c.args.res.now at (flat_map (link_fields j) (take i ks)) (link_fields j (link (bake_of x) i)) (at + link_length * i) place
    ∙ ap (λ (w : List ℕ). sets c.args.res.now at (bytes_of_all w)) (sym (link-more j ks i within))

pub returns : goal.returns
returns c =
    let x = c.args.whole.now in
    let ks = (bake_of x).links in
    c.loop-i.invariant ∙ ap (λ (r : List Link). sets c.args.res.now c.args.at (bytes_of_all (flat_map (link_fields (unit_in (bake_of x))) r))) (take_all c.loop-i.i ks (omega (arith, c.loop-i-test.false, later x)))
