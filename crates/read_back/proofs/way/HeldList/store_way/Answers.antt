use mathlib.Core.Path.{◌≡◌, sym, ap, ◌∙◌, subst}
use mathlib.Core.Option.{some}
use mathlib.Core.List.{◌++◌}
use Prim.Native.Nat.{ℕ}
use native.Mathlib.Omega.{arith}
use Rattle.std.specs.Prelude.{Option as Maybe}
use lib.ListN.{length, length-append}
use lib.Seq.{sets}
use Rattle.read_back.specs.Way.{next_at, told_by, number_told, number_at, only_link, last_state}
use Rattle.read_back.specs.Answers.{run_in}
use Rattle.read_back.specs.Walks.{way_in}
use Rattle.read_back.proofs.Ways.{way-goes, way-over, stored-all}
use Rattle.read_back.proofs.way.HeldList.store_way.Goals as goal

pub number-requires : goal.number-requires
number-requires c =
    let l = c.args.self.now in
    let g = way-goes l.form l.res.now l.nodes l.links l.before (last_state l.n) c.loop-q.q _ (omega arith) c.loop-q.invariant.there in
    omega (arith, c.only_link-only.ensures, g.lower.1)

pub put_number-count-requires : goal.put_number-count-requires
put_number-count-requires c =
    let l = c.args.self.now in
    let g = way-goes l.form l.res.now l.nodes l.links l.before (last_state l.n) c.loop-q.q _ (omega arith) c.loop-q.invariant.there in
    let number = c.number.ensures ∙ ap (λ (x : ℕ). number_told (number_at l.form l.res.now l.nodes l.links x)) c.only_link-only.ensures in
    let rest = run_in (way_in l (next_at l.res.now (only_link l.res.now l.nodes l.links l.before (last_state l.n) c.loop-q.q))) in
    let is = g.is ∙ ap (λ (k : Maybe ℕ). told_by k ++ rest) (sym number) in
    omega (arith, c.loop-q.invariant.long, c.loop-q.invariant.left, ap length is, length-append (told_by c.number.result) rest, c.requires.room)

pub next-q-requires : goal.next-q-requires
next-q-requires c =
    let l = c.args.self.now in
    let g = way-goes l.form l.res.now l.nodes l.links l.before (last_state l.n) c.loop-q.q _ (omega arith) c.loop-q.invariant.there in
    omega (arith, c.only_link-only.ensures, g.lower.1)

pub loop-q-smaller : goal.loop-q-smaller
loop-q-smaller c =
    let l = c.args.self.now in
    let g = way-goes l.form l.res.now l.nodes l.links l.before (last_state l.n) c.loop-q.q _ (omega arith) c.loop-q.invariant.there in
    omega (arith, c.next-q.ensures ∙ ap (next_at l.res.now) c.only_link-only.ensures, g.lower.2)

pub loop-q-preserved : goal.loop-q-preserved
loop-q-preserved c =
    let l = c.args.self.now in
    let g = way-goes l.form l.res.now l.nodes l.links l.before (last_state l.n) c.loop-q.q _ (omega arith) c.loop-q.invariant.there in
    let put = c.put_number-count in
    let inv = c.loop-q.invariant in
    let next = c.next-q.ensures ∙ ap (next_at l.res.now) c.only_link-only.ensures in
    let number = c.number.ensures ∙ ap (λ (x : ℕ). number_told (number_at l.form l.res.now l.nodes l.links x)) c.only_link-only.ensures in
    let is : run_in (way_in l c.loop-q.q) ≡ told_by c.number.result ++ run_in (way_in l c.next-q.result) = g.is ∙ λ i. told_by (sym number i) ++ run_in (way_in l (sym next i)) in record {
      long = put.auto.run ∙ inv.long;
      there = subst (λ (k : ℕ). way_in l k ≡ some (run_in (way_in l k))) (sym next) g.from;
      left = omega (arith, ap length is, length-append (told_by c.number.result) (run_in (way_in l c.next-q.result)), put.ensures.0, inv.left);
      stored = stored-all c.loop-q.run _ _ c.loop-q.count _ (told_by c.number.result) _ _ is put.ensures.1 put.ensures.0 inv.stored;
    }

pub returns : goal.returns
returns c =
    let l = c.args.self.now in
    let none = way-over l.form l.res.now l.nodes l.links l.before (last_state l.n) c.loop-q.q _ (omega arith) c.loop-q.invariant.there in
    sym (ap (sets c.loop-q.run c.loop-q.count) none) ∙ c.loop-q.invariant.stored
