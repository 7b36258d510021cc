-- The entries of a search: their input links are links of the machine, and their numbers tell what each came from. Assumes nothing.
use mathlib.Core.Path.{◌≡◌, sym, ◌∙◌}
use mathlib.Core.Option.{some}
use mathlib.Core.List.{[], ◌∷◌}
use Prim.Native.Nat.{ℕ, zero, suc, ◌<◌}
use native.Mathlib.Omega.{arith}
use lib.ListN.{get_or, length}
use Rattle.sheet.specs.Machine.{Machine}
use Rattle.machine.specs.Climbs.{Climbs}
use Rattle.machine.specs.Demand.{◌∈◌}
use Rattle.machine.proofs.Lists.{perm-mem, get_or-mem}
use Rattle.search.specs.Reversed.{Back, reversed}
use Rattle.search.specs.Search.{first, Search, search}
use Rattle.search.proofs.Trails.{back, stop, Trail, site, Made, back_from}
use Rattle.search.proofs.Backwards.{out-final, out-link}
use Rattle.search.proofs.Mirror.{at, Mirrors, last_input, first-is}
use Rattle.search.proofs.Steps.{Holds}
use Rattle.search.proofs.Numbered.{Numbered}
use Rattle.search.proofs.Complete.{holds, put-made}

module _ (m : Machine) (c : Climbs m) (n : ℕ) where
  -- at any time each stands for a trail that was made
  pub entry-made : (z : Search) (h : Holds (reversed m) n (suc (length m.finals)) z) (i : ℕ) → i < length z.entries → Made (reversed m) (at h.trails i)
  entry-made z h i b = put-made m c n z h (at h.trails i) (perm-mem h.all (get_or-mem h.trails i [] (omega (arith, h.mirrors.size))))

  -- ---- when the search ends
  abbrev s : Search
  s = search m n

  mirrors : Mirrors (reversed m) (search m n) (holds m c n).trails
  mirrors = (holds m c n).mirrors

  pub inputs_in : (i : ℕ) → i < length s.entries → (l : ℕ) → (get_or s.entries i first).input ≡ some l → l < length m.links
  inputs_in i b l e = go (at (holds m c n).trails i) (entry-made s (holds m c n) i b) (sym (mirrors.told i).input ∙ e)
    where
      node : (v : ℕ) (b : Back) → b ∈ (reversed m).out v → b.input ≡ some l → l < length m.links
      node zero b h q = let x = out-final m b h in let y = x.3 in let z : ◌≡◌ {A = ℕ} 0 1 = cc in absurd (omega arith)
      node (suc v) b h q = let x = out-link m v b h in let y = x.3 in let z : x.0 ≡ l = cc in omega (arith, x.1)

      go : (t : Trail) → Made (reversed m) t → last_input t ≡ some l → l < length m.links
      go [] h q = let z : ◌≡◌ {A = ℕ} 0 1 = cc in absurd (omega arith)
      go (stop ∷ t) h q = let z : ◌≡◌ {A = ℕ} 0 1 = cc in absurd (omega arith)
      go (back b ∷ t) h q = let x = back_from (reversed m) (site t) b h.0 in node x.0 b x.2 q

  pub numbered : Numbered s
  numbered = record {
    some_in = omega (arith, mirrors.filled, mirrors.size);
    zeroth = first-is (reversed m) s (holds m c n).trails mirrors;
    earlier = λ i. (mirrors.told i).earlier;
    inside = λ i h. omega (arith, mirrors.in_list i h, mirrors.size);
  }
