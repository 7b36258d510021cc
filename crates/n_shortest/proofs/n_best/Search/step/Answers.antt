use mathlib.Core.Path.{◌≡◌, sym, ◌∙◌, subst}
use mathlib.Core.List.{List}
use Prim.Native.Nat.{ℕ}
use Rattle.search_slots.specs.Slots.{heap_word}
use Rattle.n_shortest.specs.EntryWords.{entry_w}
use Rattle.n_shortest.specs.SearchWords.{Words, taken_w, without, Sized, Takes}
use Rattle.n_shortest.specs.Goes.{words_of}
use Rattle.n_shortest.proofs.Taking.{sized-without, takes-without, step_is}
use Rattle.n_shortest.proofs.n_best.Search.step.Goals as goal

pub invariant_of-self : goal.invariant_of-self
invariant_of-self c =
    let s = c.args.self.now in
    let w = words_of s in
    record { sized = subst (λ (l : List ℕ). Sized s.places (record { part = l; counts = (without w).counts })) (sym c.pop.ensures) (sized-without s.places w c.requires.0.sized c.requires.1) }

pub take-requires : goal.take-requires
take-requires c =
    let s = c.args.self.now in
    let w = words_of s in
    let z = c.requires.0.sized in
    let t = takes-without s.places w z c.requires.1 s.n (entry_w w.part (heap_word w.part 0)) c.requires.0.takes in
    let popped : ◌≡◌ {A = Words} (record { part = c.pop.new.part; counts = (without w).counts }) (without w) = λ i. record { part = c.pop.ensures i; counts = (without w).counts } in
    subst (λ v. Takes s.places s.n v c.entry_at-e.result) (sym popped) (subst (Takes s.places s.n (without w)) (sym c.entry_at-e.ensures) t)

pub returns : goal.returns
returns c =
    let s = c.args.self.now in
    let w = words_of s in
    let x = heap_word w.part 0 in
    let k = c.take.ensures.kept in record {
      words = c.take.ensures.words ∙ (λ i. taken_w s.places s.n s.most x (c.entry_at-e.ensures i) (record { part = c.pop.ensures i; counts = (without w).counts })) ∙ step_is s.places s.n s.most w;
      kept = record { places = k.places; n = k.n; most = k.most; same = k.same };
    }
