use mathlib.Core.Path.{◌≡◌}
use mathlib.Core.List.{List}
use Prim.Native.Nat.{ℕ}
use lib.Seq.{sets}
use Rattle.sheet.specs.Words.{bytes_of_all}
use Rattle.sheet.specs.Machine.{Machine, link_fields}
use Rattle.machine.specs.Readings.{link}
use Rattle.product.specs.Joins.{join_below}
use Rattle.two_probes.specs.Held.{allowed_by, unit_by}
use Rattle.two_probes.proofs.both.Both.put_links.Given as goal

-- the fields of link q
abbrev pub fields : ℕ → Machine → ℕ → List ℕ
fields j m q = link_fields j (link m q)

abbrev pub invariant-loop-q : goal.invariant-loop-q
invariant-loop-q l = l.res ≡ sets l.fn.res 0 (bytes_of_all (join_below l.q (fields (unit_by l.self) (allowed_by l.self))))
