use mathlib.Core.Path.{◌≡◌, refl, sym, ◌∙◌, subst}
use lib.Ieee.{Float}
use Rattle.n_shortest.specs.declared.n_best.Places.{Places}
use Rattle.n_shortest.specs.declared.entry.Entry.{Entry}
use Rattle.n_shortest.specs.declared.entry.Entry.TheVariants.{Half}
use Prim.Native.Nat.{ℕ, ◌+◌, ◌*◌, ◌≤◌, ◌<◌}
use native.Mathlib.Omega.{arith}
use Rattle.search_slots.specs.Slots.{visits_word}
use Rattle.n_shortest.specs.SearchWords.{Words, Expands, Takes}
use Rattle.n_shortest.specs.Goes.{words_of}
use Rattle.n_shortest.proofs.Taking.{expands-visited, taken-over, taken-expanded, taken-finished}
use Rattle.slots.specs.Slots.{slot_length}
use Rattle.n_shortest.proofs.n_best.Search.take.Goals as goal

-- what taking a half-built one asks
half : (p : Places) (n : ℕ) (s : Words) {e : Entry} {v : ℕ} {cost : Float} → e ≡ Half v cost → Takes p n s e
    → (p.nodes + slot_length * v + 3 < p.links) × (visits_word s.part p.nodes v + 1 < 4294967296) × (visits_word s.part p.nodes v + 1 ≤ n → Expands p s v)
half p n s q t = subst (Takes p n s) q t

pub expand-requires : goal.expand-requires
expand-requires c =
    let s = c.args.self.now in
    let v = c.in-Half.v in
    let e = (half s.places s.n (words_of s) c.in-Half.is c.requires).2 c.if-visits-self.true in
    expands-visited s.places (words_of s) v s.sized e

pub returns-in-Finished : goal.returns-in-Finished
returns-in-Finished c =
    let a = c.args in
    let s = a.self.now in record {
      words = c.finish.ensures.words ∙ sym (taken-finished s.places s.n s.most a.x (words_of s) c.in-Finished.is);
      kept = c.finish.ensures.kept;
    }

pub returns-then-visits-self : goal.returns-then-visits-self
returns-then-visits-self c =
    let a = c.args in
    let s = a.self.now in record {
      words = c.expand.ensures.words ∙ sym (taken-expanded s.places s.n s.most a.x (words_of s) c.in-Half.is c.if-visits-self.true);
      kept = record { places = c.expand.ensures.kept.places; n = c.expand.ensures.kept.n; most = c.expand.ensures.kept.most; same = c.expand.ensures.kept.same };
    }

pub returns-else-visits-self : goal.returns-else-visits-self
returns-else-visits-self c =
    let a = c.args in
    let s = a.self.now in record {
      words = sym (taken-over s.places s.n s.most a.x (words_of s) c.in-Half.is (omega (arith, c.if-visits-self.false)));
      kept = record { places = refl; n = refl; most = refl; same = refl };
    }
