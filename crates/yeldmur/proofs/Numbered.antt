-- What is told of a sheet's counts, and of a link or a node by its number: of an accepted sheet, what its machine has. Assumes nothing.
use mathlib.Core.Path.{◌≡◌, refl, sym, ap, ◌∙◌}
use mathlib.Core.Bool.{Bool, cond}
use mathlib.Core.List.{List, ◌∷◌}
use Prim.Native.Nat.{ℕ, ◌≤◌, ◌<◌}
use lib.ListN.{length}
use borrow.Author.Tests.{lt-ltb, le-ltb}
use Rattle.std.specs.Prelude.{Option, None, Some, Result, Ok, Err}
use Rattle.sheet.specs.declared.refusal.Refusal.{Refusal}
use Rattle.sheet.specs.declared.tr.Link.{Link}
use Rattle.sheet.specs.declared.tr.Node.{Node}
use Rattle.sheet.specs.Refusals.{number_in}
use Rattle.sheet.specs.Machine.{Machine, unit_in, link_fields}
use Rattle.machine.specs.Readings.{link}
use Rattle.sheet_fields.specs.declared.counts.SheetCounts.{SheetCounts}
use Rattle.sheet_fields.specs.Fields.{fields_of_node, LinkOf, NodeOf}
use Rattle.yeldmur.specs.Told.{counts_told, link_told, node_told, numbered}

-- the number of the refusal, or 0
pub counts-number : (a : Result SheetCounts Refusal) (nodes links finals start : ℕ) → (counts_told a nodes links finals start).0 ≡ number_in a
counts-number (Ok c) nodes links finals start = refl
counts-number (Err r) nodes links finals start = refl

module _ (number count : ℕ) (fields old : List ℕ) where
  among : number < count → 0 ∷ fields ≡ numbered number count fields old
  among h = sym (ap (λ (b : Bool). cond b (0 ∷ fields) (31 ∷ old)) (lt-ltb number count h))

  past : count ≤ number → 31 ∷ old ≡ numbered number count fields old
  past h = sym (ap (λ (b : Bool). cond b (0 ∷ fields) (31 ∷ old)) (le-ltb number count h))

module _ (m : Machine) (number : ℕ) (old : List ℕ) where
  pub link-numbered : (s : Option Link) → LinkOf m number s → link_told s old ≡ numbered number (length m.links) (link_fields (unit_in m) (link m number)) old
  link-numbered (Some k) h = ap (λ (ws : List ℕ). 0 ∷ ws) h.1 ∙ among number (length m.links) (link_fields (unit_in m) (link m number)) old h.0
  link-numbered None h = past number (length m.links) (link_fields (unit_in m) (link m number)) old h

  pub node-numbered : (s : Option Node) → NodeOf m number s → node_told s old ≡ numbered number (length m.finals) (fields_of_node m number) old
  node-numbered (Some n) h = ap (λ (ws : List ℕ). 0 ∷ ws) h.1 ∙ among number (length m.finals) (fields_of_node m number) old h.0
  node-numbered None h = past number (length m.finals) (fields_of_node m number) old h
