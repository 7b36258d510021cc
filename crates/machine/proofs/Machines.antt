-- Of a machine: the numbers that its tests answer, and the records of its sheet. Assumes nothing.
use mathlib.Core.Path.{◌≡◌, refl, sym, ap, ◌∙◌}
use mathlib.Core.Logic.{inl}
use mathlib.Core.Bool.{Bool, true, false, not, ◌&&◌, cond, and-false}
use mathlib.Core.List.{List}
use Prim.Native.Nat.{ℕ, ◌≤◌, ◌<◌}
use lib.Dec.{leb, eqb}
use borrow.Author.Tests.{lt-leb, le-leb}
use Rattle.tropical_weight.specs.Limits.{node_limit, link_limit}
use Rattle.std.specs.Prelude.{Err}
use Rattle.sheet.specs.declared.refusal.Refusal.{Refusal}
use Rattle.sheet.specs.Refusals.{number_of, number_in, answer}
use Rattle.sheet.specs.declared.accepted.Sheet.{Sheet}
use Rattle.sheet.specs.declared.form.Form.{Form}
use Rattle.sheet.specs.declared.tr.Trailer.{Trailer}
use Rattle.sheet.specs.Sheet.{unit_of, parts_of, read_number, stated_links, stated_nodes}
use Rattle.sheet.specs.Records.{trailer_at}
use Rattle.sheet.specs.Accepted.{trailer_in}
use Rattle.sheet.specs.Machine.{unit_in, machine}
use Rattle.sheet.proofs.Refusals.{number-positive, Known, known, known-cond}
use Rattle.sheet.proofs.AcceptedSheet.{read-known, form-of-bytes}
use Rattle.machine.specs.declared.climbing.Machine.{Machine}
use Rattle.machine.specs.Answers.{nodes_climb}
use Rattle.machine.specs.Input.{counts_fit, links_climb, bounds_number, input_number}
use Rattle.machine.proofs.Accepted.{form-stated}
use Rattle.machine.proofs.Testing.{input-5, input-6, input-passes, counts-are, climb-same}
use Rattle.machine.proofs.SheetFields.{SheetFields, fields-for}

pub bounds-known : (bytes : List ℕ) → Known (bounds_number (parts_of bytes))
unfolding bounds_number
bounds-known bytes =
    known-cond (not (counts_fit (parts_of bytes))) 5 _ (known Refusal.Limits) (known-cond (not (links_climb (parts_of bytes))) 6 0 (known Refusal.Climb) (inl refl))

pub input-known : (bytes : List ℕ) → Known (input_number bytes)
unfolding input_number
input-known bytes = known-cond (not (eqb (read_number bytes) 0)) (read_number bytes) (bounds_number (parts_of bytes)) (read-known bytes) (bounds-known bytes)

-- ---- an accepted sheet with its counts
module _ (bytes : List ℕ) (links nodes start : ℕ) (form : Form) (accepted : read_number bytes ≡ 0) (stated : trailer_in links nodes start form ≡ trailer_at bytes) where
  links-are : links ≡ stated_links bytes
  links-are = ap (λ (t : Trailer). t.links) stated

  nodes-are : nodes ≡ stated_nodes bytes
  nodes-are = ap (λ (t : Trailer). t.nodes) stated

  -- what the tests of limits and of links say of its number
  limits : counts_fit (parts_of bytes) ≡ leb nodes node_limit && leb links link_limit
  limits = counts-are bytes accepted ∙ sym (λ i. leb (nodes-are i) node_limit && leb (links-are i) link_limit)

  climbing : links_climb (parts_of bytes) ≡ nodes_climb bytes links nodes
  climbing = climb-same bytes accepted ∙ sym (λ i. nodes_climb bytes (links-are i) (nodes-are i))

  pub past-limits : leb nodes node_limit && leb links link_limit ≡ false → input_number bytes ≡ 5
  past-limits h = input-5 bytes accepted (limits ∙ h)

  -- what the counts are refused for, the input is refused for
  pub past-refused : (e : Refusal) → answer {A = Unit} tt (cond (leb nodes node_limit && leb links link_limit) 0 5) ≡ Err e → input_number bytes ≡ number_of e
  past-refused e = go (leb nodes node_limit && leb links link_limit) refl
    where
      go : (b : Bool) → leb nodes node_limit && leb links link_limit ≡ b → answer {A = Unit} tt (cond b 0 5) ≡ Err e → input_number bytes ≡ number_of e
      go true q h = absurd (number-positive e (sym (ap number_in h)))
      go false q h = past-limits q ∙ ap number_in h

  -- by one count alone, as the documents have them
  pub many-nodes : node_limit < nodes → input_number bytes ≡ 5
  many-nodes h = past-limits (ap (λ (b : Bool). b && leb links link_limit) (lt-leb nodes node_limit h))

  pub many-links : link_limit < links → input_number bytes ≡ 5
  many-links h = past-limits (ap (λ (b : Bool). leb nodes node_limit && b) (lt-leb links link_limit h) ∙ and-false (leb nodes node_limit))

  module _ (few-nodes : nodes ≤ node_limit) (few-links : links ≤ link_limit) where
    within : counts_fit (parts_of bytes) ≡ true
    within = limits ∙ λ i. le-leb nodes node_limit few-nodes i && le-leb links link_limit few-links i

    pub climbs-not : nodes_climb bytes links nodes ≡ false → input_number bytes ≡ 6
    climbs-not h = input-6 bytes accepted within (climbing ∙ h)

    pub climbs-all : nodes_climb bytes links nodes ≡ true → input_number bytes ≡ 0
    climbs-all h = input-passes bytes accepted within (climbing ∙ h)

-- ---- the records of its sheet
pub machine-fields : (m : Machine) → SheetFields m.sheet.bytes.now m.sheet.links m.sheet.nodes (machine m.sheet.bytes.now)
machine-fields m = let s = m.sheet in fields-for s.bytes.now m.climbs (trailer_in s.links s.nodes s.start s.form) s.stated

-- ---- the form of a sheet's value is its machine's, and so the unit
pub form-of : (s : Sheet) → (machine s.bytes.now).form ≡ s.form
form-of s = form-stated s.bytes.now ∙ sym (form-of-bytes s)

pub unit-of : (s : Sheet) → unit_in (machine s.bytes.now) ≡ unit_of s.form
unit-of s = ap unit_of (form-of s)
