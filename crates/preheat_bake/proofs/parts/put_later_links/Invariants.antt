use mathlib.Core.Path.{◌≡◌}
use mathlib.Core.List.{flat_map}
use lib.ListN.{take}
use lib.Seq.{sets}
use Rattle.sheet.specs.Words.{bytes_of_all}
use Rattle.sheet.specs.Machine.{unit_in, link_fields}
use Rattle.preheat_bake.specs.Held.{bake_of}
use Rattle.preheat_bake.proofs.parts.put_later_links.Given as goal

abbrev pub invariant-loop-i : goal.invariant-loop-i
invariant-loop-i l = l.res ≡ sets l.fn.res l.at (bytes_of_all (flat_map (link_fields (unit_in (bake_of l.whole))) (take l.i (bake_of l.whole).links)))
