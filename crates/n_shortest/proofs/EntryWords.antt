-- Entries in their slots, by cases. Assumes nothing.
use mathlib.Core.Path.{◌≡◌, ap}
use mathlib.Core.Bool.{Bool, cond}
use mathlib.Core.List.{List}
use Prim.Native.Nat.{ℕ}
use lib.Dec.{eqb}
use lib.Ieee.{Float, binary32, of_bits}
use borrow.Author.Tests.{eq-eqb, ne_eqb}
use Rattle.n_shortest.specs.declared.entry.Entry.TheVariants.{Half, Finished}
use Rattle.slots.specs.Slots.{nothing}
use Rattle.search_slots.specs.Slots.{node_word, cost_word}
use Rattle.n_shortest.specs.EntryWords.{entry_w}

module _ (part : List ℕ) (x : ℕ) where
  abbrev cost : Float
  cost = of_bits binary32 (cost_word part x)

  pub entry-finished : node_word part x ≡ nothing → entry_w part x ≡ Finished cost
  unfolding entry_w
  entry-finished e = ap (λ (b : Bool). cond b (Finished cost) (Half (node_word part x) cost)) (eq-eqb (node_word part x) nothing e)

  pub entry-half : (node_word part x ≡ nothing → ⊥) → entry_w part x ≡ Half (node_word part x) cost
  unfolding entry_w
  entry-half e = ap (λ (b : Bool). cond b (Finished cost) (Half (node_word part x) cost)) (ne_eqb (node_word part x) nothing e)

-- the same words hold the same entry
pub entry-same : (p q : List ℕ) (x : ℕ) → node_word p x ≡ node_word q x → cost_word p x ≡ cost_word q x → entry_w p x ≡ entry_w q x
unfolding entry_w
entry-same p q x n c = λ i. cond (eqb (n i) nothing) (Finished (of_bits binary32 (c i))) (Half (n i) (of_bits binary32 (c i)))
