-- A machine that narrows to a node, as the code holds it: where its links part, and that they are within. Assumes nothing.
use mathlib.Core.Path.{◌≡◌, sym, ap, ◌∙◌}
use mathlib.Core.List.{List, ◌++◌, flat_map}
use Prim.Native.Nat.{ℕ, ◌+◌, ◌-◌, ◌≤◌, ◌<◌}
use native.Mathlib.Numerals.{add-one}
use native.Mathlib.Omega.{arith}
use lib.ListN.{length, get_or, take}
use lib.Seq.{take-suc}
use Rattle.sheet.specs.Sheet.{read_number}
use Rattle.sheet.specs.Machine.{Link, link_fields}
use Rattle.sheet.proofs.Below.{flat-snoc}
use Rattle.machine.specs.Climbs.{Climbs}
use Rattle.machine.specs.Readings.{no_link}
use Rattle.machine.proofs.Accepted.{input-read}
use Rattle.machine.proofs.Machines.{machine-fields, form-of}
use Rattle.machine.proofs.SheetFields.{SheetFields}
use Rattle.narrowing.specs.declared.Narrowing.{Narrowing}
use Rattle.narrowing.specs.Parts.{preheat}
use Rattle.preheat_bake.specs.Held.{whole, bake_of}
use Rattle.narrowing.proofs.Seam.{Narrows, narrowing, seam, seam-in, first-form, second-form, second-links}
use Rattle.narrowing.proofs.Counted.{before-seam}

module _ (x : Narrowing) where
  pub fields : SheetFields x.machine.sheet.bytes.now x.machine.sheet.links x.machine.sheet.nodes (whole x)
  fields = machine-fields x.machine

  pub accepted : read_number x.machine.sheet.bytes.now ≡ 0
  accepted = (input-read x.machine.sheet.bytes.now x.machine.climbs).0

  pub climbs : Climbs (whole x)
  climbs = fields.climbs

  pub narrow : Narrows x.node (whole x)
  narrow = narrowing x.node (whole x) x.narrow

  -- the parts have the sheet's form
  pub own-form : (whole x).form ≡ x.machine.sheet.form
  own-form = form-of x.machine.sheet

  pub preheat-form : (preheat x.node (whole x)).form ≡ x.machine.sheet.form
  preheat-form = first-form x.node (whole x) ∙ own-form

  pub bake-form : (bake_of x).form ≡ x.machine.sheet.form
  bake-form = second-form x.node (whole x) ∙ own-form

  -- the links of the first part are those before the seam, the others those of the second
  pub at-seam : x.before ≡ seam x.node (whole x)
  at-seam = x.counted ∙ before-seam x.machine x.node (omega (arith, x.inside))

  pub few-before : x.before ≤ x.machine.sheet.links
  few-before = omega (arith, at-seam, seam-in x.node (whole x), fields.links-are)

  pub later : length (bake_of x).links ≡ x.machine.sheet.links - x.before
  later = second-links x.node (whole x) climbs ∙ λ i. fields.links-are i - sym at-seam i

-- the fields of one link more, in units of 1 / 2 ^ j
pub link-more : (j : ℕ) (ks : List Link) (i : ℕ) → i < length ks → flat_map (link_fields j) (take (i + 1) ks) ≡ flat_map (link_fields j) (take i ks) ++ link_fields j (get_or ks i no_link)
link-more j ks i h = ap (λ (n : ℕ). flat_map (link_fields j) (take n ks)) (add-one i) ∙ ap (flat_map (link_fields j)) (take-suc ks i no_link h) ∙ flat-snoc (link_fields j) (take i ks) (get_or ks i no_link)
