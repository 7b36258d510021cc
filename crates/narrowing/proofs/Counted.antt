-- The links before the node, as the sheet counts them. Assumes nothing.
use mathlib.Core.Path.{◌≡◌, refl, sym, ap, ◌∙◌}
use mathlib.Core.Bool.{Bool, true, false, cond}
use mathlib.Core.List.{List, [], ◌∷◌, map}
use Prim.Native.Nat.{ℕ, suc, ◌*◌, ◌+◌, ◌≤◌}
use native.Mathlib.Omega.{arith}
use lib.Dec.{ltb}
use lib.ListN.{length}
use Rattle.sheet.specs.declared.tr.Trailer.{Trailer}
use Rattle.sheet.specs.Below.{sum_below}
use Rattle.sheet.specs.Words.{word}
use Rattle.sheet.specs.Sheet.{link_length, node_length, count, node_count, parts_of, stated_links}
use Rattle.sheet.specs.Records.{first_link}
use Rattle.sheet.specs.Machine.{Link, machine, leaving}
use Rattle.sheet.proofs.Below.{sum_below-same}
use Rattle.sheet.proofs.Encoding.{fewer, sum-leaving}
use Rattle.sheet.proofs.Sources.{machine-nodes}
use Rattle.machine.specs.declared.climbing.Machine.{Machine}
use Rattle.machine.specs.Readings.{keep}
use Rattle.machine.proofs.Accepted.{passes, input-read}
use Rattle.machine.proofs.Leaving.{leaving-is}
use Rattle.machine.proofs.Testing.{counts-words}
use Rattle.machine.proofs.Machines.{machine-fields}
use Rattle.narrowing.specs.Parts.{is_before}
use Rattle.narrowing.proofs.Seam.{seam}

-- how many sources are below c
fewer-kept : (c : ℕ) (ks : List Link) → fewer (map (λ k. k.source) ks) c ≡ length (keep (is_before c) ks)
unfolding fewer keep
fewer-kept c [] = refl
fewer-kept c (k ∷ ks) = go (ltb k.source c) (fewer-kept c ks)
  where
    go : (b : Bool) → fewer (map (λ k. k.source) ks) c ≡ length (keep (is_before c) ks)
        → cond b (suc (fewer (map (λ k. k.source) ks) c)) (fewer (map (λ k. k.source) ks) c) ≡ length (cond b (k ∷ keep (is_before c) ks) (keep (is_before c) ks))
    go true e = ap suc e
    go false e = e

-- the number of c's first link is how many links leave nodes below c
pub before-seam : (m : Machine) (c : ℕ) → c ≤ m.sheet.nodes → first_link m.sheet.bytes.now m.sheet.links c ≡ seam c (machine m.sheet.bytes.now)
before-seam m c h =
    let bytes = m.sheet.bytes.now in
    let p = parts_of bytes in
    let stated : m.sheet.links ≡ stated_links bytes = ap (λ (t : Trailer). t.links) m.sheet.stated in
    let inside : c ≤ node_count p = omega (arith, h, (machine-fields m).nodes-are, machine-nodes p) in
    ap (λ (n : ℕ). sum_below c (λ v. word bytes (link_length * n + node_length * v))) stated
    ∙ sym (counts-words bytes (input-read bytes m.climbs).0 c inside)
    ∙ sum_below-same c (count p) (leaving (machine bytes).links) (λ v i. sym (leaving-is p (passes bytes m.climbs).nodes-fit v (omega arith)))
    ∙ sum-leaving (machine bytes).links c
    ∙ fewer-kept c (machine bytes).links
