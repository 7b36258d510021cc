use mathlib.Core.Path.{◌≡◌, refl, sym, ap, ◌∙◌, subst}
use mathlib.Core.List.{List}
use Prim.Native.Nat.{ℕ}
use native.Mathlib.Omega.{arith}
use lib.ListN.{length}
use Rattle.std.specs.Prelude.{unwrap_or}
use Rattle.slots.specs.Slots.{nothing}
use Rattle.n_shortest.specs.HeapWords.{Comparable, HeapFits, push_w}
use Rattle.n_shortest.specs.SearchWords.{put_w, Sized}
use Rattle.n_shortest.specs.Goes.{words_of}
use Rattle.n_shortest.proofs.Putting.{length-stored, stored-compares, stored-fits, sized-put}
use Rattle.n_shortest.proofs.n_best.Search.put.Goals as goal

pub push-requires : goal.push-requires
push-requires c =
    let a = c.args in
    let s = words_of a.self.now in
    let p = a.self.now.places in
    let e = c.store.ensures in
    let z = a.self.now.sized in
    let long = ap length e ∙ length-stored s.part p.nodes s.counts.entries a.e a.from (unwrap_or a.input nothing) in (
      subst (λ l. HeapFits l s.counts.heap) (sym e) (stored-fits p s a.e a.from (unwrap_or a.input nothing) z c.requires.0),
      omega (arith, long, z.heap-few, z.after, z.inside, c.requires.0),
      subst (λ l. Comparable l s.counts.entries) (sym e) (stored-compares p s a.e a.from (unwrap_or a.input nothing) z c.requires.0 s.counts.entries (omega arith)),
    )

pub invariant_of-self : goal.invariant_of-self
unfolding put_w
invariant_of-self c =
    let a = c.args in
    let s = a.self.now in
    let part : c.push.new.part ≡ (put_w s.places.nodes a.e a.from (unwrap_or a.input nothing) (words_of s)).part = c.push.ensures ∙ ap (λ l. push_w l s.counts.heap s.counts.entries) c.store.ensures in
    record { sized = subst (λ (l : List ℕ). Sized s.places (record { part = l; counts = (put_w s.places.nodes a.e a.from (unwrap_or a.input nothing) (words_of s)).counts })) (sym part) (sized-put s.places (words_of s) a.e a.from (unwrap_or a.input nothing) s.sized c.requires.0) }

pub returns : goal.returns
unfolding put_w
returns c =
    let s = c.args.self.now in record {
      words = λ i. record { part = (c.push.ensures ∙ ap (λ l. push_w l s.counts.heap s.counts.entries) c.store.ensures) i; counts = (put_w s.places.nodes c.args.e c.args.from (unwrap_or c.args.input nothing) (words_of s)).counts };
      kept = record { places = refl; n = refl; most = refl; same = refl };
    }
