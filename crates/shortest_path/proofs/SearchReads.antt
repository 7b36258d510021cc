-- The slots that the reversal leaves hold the reversed machine as a search reads it: chains link by link, distances, and the old start. Assumes nothing.
use mathlib.Core.Path.{◌≡◌, refl, sym, ap, ◌∙◌, subst}
use mathlib.Core.Logic.{◌⊎◌, inl, inr}
use mathlib.Core.Bool.{Bool, true, false, cond}
use mathlib.Core.Option.{Option, none, some}
use mathlib.Core.List.{List, [], ◌∷◌, map}
use Prim.Native.Nat.{ℕ, zero, suc, ◌+◌, ◌≤◌, ◌<◌}
use native.Mathlib.Nat.{le_refl}
use native.Mathlib.Decide.{ℕ_discrete}
use native.Mathlib.Omega.{arith}
use lib.Dec.{eqb, ltb, lit≤, eqb-suc-suc}
use lib.ListN.{length, length-map}
use borrow.Author.Tests.{eq-eqb, ne_eqb}
use Rattle.tropical_weight.specs.Limits.{weight_limit, node_limit, sum_limit}
use Rattle.tropical_weight.specs.Tropical.{Tropical, Within}
use Rattle.tropical_weight.proofs.Sums.{within-mono}
use Rattle.sheet.specs.Machine.{Machine, unit_in}
use Rattle.machine.specs.Readings.{link, is_at}
use Rattle.machine.specs.Climbs.{Climbs, Small}
use Rattle.machine.specs.Demand.{◌∈◌}
use Rattle.search.specs.Reversed.{Back, out_of, is_end, reversed}
use Rattle.search.proofs.Backwards.{out-final, out-link, leads-in}
use Rattle.search.proofs.Within.{togo-within}
use Rattle.n_shortest.specs.declared.n_best.Places.{Places}
use Rattle.slots.specs.Slots.{nothing}
use Rattle.search_slots.specs.Slots.{head_word, chain_word, input_field}
use Rattle.reversed_machine.specs.ReverseWords.{chain_of, back_of}
use Rattle.n_shortest.specs.SearchWords.{repeated}
use Rattle.reversed_machine.specs.Laid.{back_count, Laid}
use Rattle.n_shortest.proofs.Storing as Storing
use Rattle.n_shortest.proofs.Storing.{ChainIs}

-- ---- the old start
swapped : (a b : ℕ) → eqb a b ≡ eqb b a
swapped a b = elim (ℕ_discrete a b) [
  | yes e ↦ eq-eqb a b e ∙ sym (eq-eqb b a (sym e))
  | no n ↦ ne_eqb a b n ∙ sym (ne_eqb b a (λ e. n (sym e)))
]

end_is : (m : Machine) (s q : ℕ) → m.start ≡ some s → eqb q (suc s) ≡ is_end m q
end_is m s zero e = ne_eqb 0 (suc s) (λ z. omega arith)
end_is m s (suc v) e = eqb-suc-suc v s ∙ swapped v s ∙ ap (λ (x : Option ℕ). is_at x v) (sym e)

-- ---- the numbers along a chain
chain-few : (part : List ℕ) (links n k : ℕ) → length (chain_of part links k n) ≤ n
unfolding chain_of
chain-few part links zero k = omega arith
chain-few part links (suc n) k = go (eqb k nothing) (chain-few part links n (chain_word part links k))
  where
    go : (t : Bool) → length (chain_of part links (chain_word part links k) n) ≤ n → length (cond {A = List ℕ} t [] (k ∷ chain_of part links (chain_word part links k) n)) ≤ suc n
    go true h = omega arith
    go false h = omega arith

repeated-is : (inputs T k : ℕ) → inputs ≡ T → repeated inputs k ≡ input_field (cond (ltb k T) (some k) none)
repeated-is inputs T k e = ap (λ (n : ℕ). repeated n k) e ∙ go (ltb k T)
  where
    go : (t : Bool) → cond t k nothing ≡ input_field (cond t (some k) none)
    go true = refl
    go false = refl

-- a weight of the machine is one term of a sum
one-term : (w : Tropical) → Within weight_limit w → Within sum_limit w
one-term w h = within-mono weight_limit sum_limit w (lit≤ tt) h

module _ (m : Machine) (c : Climbs m) (b : Small weight_limit m) (few : length m.finals ≤ node_limit) (p : Places) (part : List ℕ) (inputs : p.inputs ≡ length m.links)
    (s : ℕ) (starts : m.start ≡ some s) (end : p.end ≡ suc s) (laid : Laid m p.nodes p.links part) where
  abbrev size : ℕ
  size = suc (length m.finals)

  -- ---- chains
  -- numbers rise along a chain and stay below the number of links, so that from k on so many steps are enough
  abbrev Enough : ℕ → ℕ → Type 0
  Enough n k = (k ≡ nothing) ⊎ ((k < back_count m) × (back_count m ≤ n + k))

  goes_on : (n k : ℕ) → back_count m ≤ suc n + k → (chain_word part p.links k ≡ nothing) ⊎ ((k < chain_word part p.links k) × (chain_word part p.links k < back_count m)) → Enough n (chain_word part p.links k)
  goes_on n k h (inl e) = inl e
  goes_on n k h (inr r) = inr (r.1, omega (arith, r.0))

  -- link k as its slot has it
  abbrev link_at : ℕ → Back
  link_at k = back_of (unit_in m) part p.links (length m.links) k

  -- the links read off in n steps from k on
  abbrev read_off : ℕ → ℕ → List Back
  read_off n k = map link_at (chain_of part p.links k n)

  -- the chain from k on is what one step more reads off, where the test for nothing comes out as t
  abbrev IsBy : ℕ → ℕ → Bool → Type 0
  IsBy n k t = ChainIs (unit_in m) p size (reversed m) part k (map link_at (cond t [] (k ∷ chain_of part p.links (chain_word part p.links k) n)))

  chain-is : (n k : ℕ) → Enough n k → ChainIs (unit_in m) p size (reversed m) part k (read_off n k)
  unfolding chain_of
  chain-is zero k (inl e) = e
  chain-is zero k (inr h) = absurd (omega (arith, h.0, h.1))
  chain-is (suc n) k (inl e) = subst (IsBy n k) (sym (eq-eqb k nothing e)) e
  chain-is (suc n) k (inr h) =
      let some-link : k ≡ nothing → ⊥ = λ e. omega (arith, h.0, laid.few) in
      subst (IsBy n k) (sym (ne_eqb k nothing some-link))
      (some-link, omega (arith, h.0, laid.room), refl, laid.valued k h.0, repeated-is p.inputs (length m.links) k inputs, chain-is n (chain_word part p.links k) (goes_on n k h.1 (laid.rises k h.0)))

  head-enough : (k : ℕ) → (k ≡ nothing) ⊎ (k < back_count m) → Enough (back_count m) k
  head-enough k (inl e) = inl e
  head-enough k (inr h) = inr (h, omega arith)

  out-is : (q : ℕ) → q < size → read_off (back_count m) (head_word part p.nodes q) ≡ out_of m q
  out-is q h = laid.out q (omega arith) (back_count m) (le_refl (back_count m))

  pub fan-few : (q : ℕ) → q < suc (length m.finals) → length ((reversed m).out q) ≤ back_count m
  fan-few q h =
      let numbers = chain_of part p.links (head_word part p.nodes q) (back_count m) in
      omega (arith, ap length (out-is q h), length-map numbers link_at, chain-few part p.links (back_count m) (head_word part p.nodes q))

  -- ---- what the links carry
  weight-within : (q : ℕ) (x : Back) → x ∈ out_of m q → Within sum_limit x.weight
  weight-within zero x h = let f = out-final m x h in subst (λ (y : Back). Within sum_limit y.weight) (sym f.3) (one-term f.1 (b.on_final f.0 f.1 f.2))
  weight-within (suc v) x h = let f = out-link m v x h in subst (λ (y : Back). Within sum_limit y.weight) (sym f.3) (one-term (link m f.0).weight (b.on_link f.0 f.1))

  pub lies : Storing.Laid (unit_in m) p (suc (length m.finals)) (reversed m) part
  lies = record {
    room = omega (arith, laid.apart);
    small = omega arith;
    distances = λ q h. laid.distances q (omega arith);
    within = togo-within m c b few;
    chains = λ q h. subst (ChainIs (unit_in m) p size (reversed m) part (head_word part p.nodes q)) (out-is q h) (chain-is (back_count m) (head_word part p.nodes q) (head-enough (head_word part p.nodes q) (laid.heads q (omega arith))));
    leads = λ q x h. (leads-in m c q x h, weight-within q x h);
    ends = λ q h. ap (eqb q) end ∙ end_is m s q starts;
  }
