-- The machine of a sheet: its links and finals by their numbers; sources never fall along the links, and a node's links are those from its first
-- link up to the next node's. Assumes nothing.
use mathlib.Core.Path.{◌≡◌, refl, sym, ap, ◌∙◌, subst}
use mathlib.Core.Logic.{◌⊎◌, inl, inr}
use mathlib.Core.Bool.{true}
use mathlib.Core.List.{◌++◌}
use mathlib.Core.Option.{none}
use Prim.Native.Nat.{ℕ, zero, suc, ◌+◌, ◌-◌, ◌≤◌, ◌<◌}
use native.Mathlib.Nat.{eq-or-lt_of_le}
use native.Mathlib.Omega.{arith}
use lib.Dec.{T, eqb, eqb→eq}
use lib.ListN.{length, get_or, replicate, length-append, length-replicate, get_or-replicate, get_or-append}
use lib.Ieee.Fits.{and_r}
use Rattle.sheet.specs.Below.{all_below, sum_below}
use Rattle.sheet.specs.Sheet.{Parts, unit_of, link_count, node_count, count, mark, final_bits, well_marked, nodes_fit}
use Rattle.sheet.proofs.Below.{split_at, get_d_past, length-list_below, get_or-list_below, sum_mono}
use Rattle.sheet.specs.Machine.{Link, machine_of, sources_below, link_of, final_of}

-- ---- the sources
module _ (p : Parts) where
  pub length-sources : (n : ℕ) → length (sources_below p n) ≡ sum_below n (count p)
  unfolding sources_below sum_below
  length-sources zero = refl
  length-sources (suc v) = length-append (sources_below p v) (replicate (count p v) v) ∙ (λ i. length-sources v i + length-replicate (count p v) v i)

  -- the links of node v are those from the sum of the counts below it up to the next such sum
  pub source_is : (n v l : ℕ) → v < n → sum_below v (count p) ≤ l → l < sum_below (suc v) (count p) → get_or (sources_below p n) l 0 ≡ v
  unfolding sources_below sum_below
  source_is zero v l h a b = absurd (omega arith)
  source_is (suc n) v l h a b = go (eq-or-lt_of_le (let k : v ≤ n = omega arith in k)) (λ k. source_is n v l k a b)
    where
      go : (v ≡ n) ⊎ (v < n) → (v < n → get_or (sources_below p n) l 0 ≡ v) → get_or (sources_below p n ++ replicate (count p n) n) l 0 ≡ v
      go (inl e) r =
          let at : sum_below v (count p) ≡ sum_below n (count p) = ap (λ (k : ℕ). sum_below k (count p)) e in
          let of : count p v ≡ count p n = ap (count p) e in
          get_d_past (sources_below p n) (replicate (count p n) n) l 0 (omega (arith, length-sources n)) ∙ get_or-replicate (count p n) (l - length (sources_below p n)) n 0 (omega (arith, length-sources n)) ∙ sym e
      go (inr k) r = get_or-append (sources_below p n) (replicate (count p n) n) 0 l (omega (arith, length-sources n, sum_mono (count p) n (suc v) k)) ∙ r k

  -- in the list of one node more: an index among the earlier sources, or among the new ones
  earlier : (n l : ℕ) → l < length (sources_below p n) → get_or (sources_below p (suc n)) l 0 ≡ get_or (sources_below p n) l 0
  unfolding sources_below
  earlier n l h = get_or-append (sources_below p n) (replicate (count p n) n) 0 l h

  latest : (n l : ℕ) → length (sources_below p n) ≤ l → l < length (sources_below p (suc n)) → get_or (sources_below p (suc n)) l 0 ≡ n
  unfolding sources_below
  latest n l h k =
      get_d_past (sources_below p n) (replicate (count p n) n) l 0 h
      ∙ get_or-replicate (count p n) (l - length (sources_below p n)) n 0 (omega (arith, length-append (sources_below p n) (replicate (count p n) n), length-replicate (count p n) n))

  -- each source is a node
  pub sources-lt : (n l : ℕ) → l < length (sources_below p n) → get_or (sources_below p n) l 0 < n
  sources-lt zero l h = absurd (omega (arith, length-sources zero, none))
    where
      none : sum_below 0 (count p) ≡ 0
      none = unfold sum_below in refl
  sources-lt (suc n) l h = go (split_at l (length (sources_below p n))) (λ k. sources-lt n l k)
    where
      go : (l < length (sources_below p n)) ⊎ (length (sources_below p n) ≤ l) → (l < length (sources_below p n) → get_or (sources_below p n) l 0 < n) → get_or (sources_below p (suc n)) l 0 < suc n
      go (inl k) r = omega (arith, earlier n l k, r k)
      go (inr k) r = omega (arith, latest n l k h)

  -- sources never fall along the links
  pub sources-rise : (n k l : ℕ) → k ≤ l → l < length (sources_below p n) → get_or (sources_below p n) k 0 ≤ get_or (sources_below p n) l 0
  sources-rise zero k l o h = absurd (omega (arith, length-sources zero, none))
    where
      none : sum_below 0 (count p) ≡ 0
      none = unfold sum_below in refl
  sources-rise (suc n) k l o h = go (split_at l (length (sources_below p n))) (split_at k (length (sources_below p n))) (λ i. sources-rise n k l o i)
    where
      go : (l < length (sources_below p n)) ⊎ (length (sources_below p n) ≤ l) → (k < length (sources_below p n)) ⊎ (length (sources_below p n) ≤ k) → (l < length (sources_below p n) → get_or (sources_below p n) k 0 ≤ get_or (sources_below p n) l 0)
          → get_or (sources_below p (suc n)) k 0 ≤ get_or (sources_below p (suc n)) l 0
      go (inl i) j r = omega (arith, earlier n l i, earlier n k (omega arith), r i)
      go (inr i) (inl j) r = omega (arith, latest n l i h, earlier n k j, sources-lt n k j)
      go (inr i) (inr j) r = omega (arith, latest n l i h, latest n k j (omega arith))

  -- where test 1 passes of the nodes, the sum of link counts is T
  pub counts-sum : nodes_fit p ≡ true → sum_below (node_count p) (count p) ≡ link_count p
  unfolding nodes_fit
  counts-sum e = eqb→eq _ _ (and_r (all_below (node_count p) (λ v. well_marked (mark p v) (final_bits p v))) (eqb (sum_below (node_count p) (count p)) (link_count p)) (subst T (sym e) tt))

  -- ---- the machine by its numbers
  pub machine-link : (l : ℕ) (d : Link) → l < link_count p → get_or (machine_of p).links l d ≡ link_of p l
  unfolding machine_of
  machine-link l d h = get_or-list_below (link_count p) (link_of p) l d h

  pub machine-links : length (machine_of p).links ≡ link_count p
  unfolding machine_of
  machine-links = length-list_below (link_count p) (link_of p)

  pub machine-final : (v : ℕ) → v < node_count p → get_or (machine_of p).finals v none ≡ final_of (unit_of p.form) (mark p v) (final_bits p v)
  unfolding machine_of
  machine-final v h = get_or-list_below (node_count p) (λ v. final_of (unit_of p.form) (mark p v) (final_bits p v)) v none h

  pub machine-nodes : length (machine_of p).finals ≡ node_count p
  unfolding machine_of
  machine-nodes = length-list_below (node_count p) (λ v. final_of (unit_of p.form) (mark p v) (final_bits p v))
