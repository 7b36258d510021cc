-- What two machines with the pairs of their links keep: link q of the product is that of pair q. Assumes nothing.
use mathlib.Core.Path.{◌≡◌, sym, ap, ◌∙◌}
use mathlib.Core.Logic.{inl, inr}
use mathlib.Core.List.{List, [], ◌∷◌}
use Prim.Native.Nat.{ℕ, zero, suc, ◌+◌, ◌-◌, ◌*◌, ◌/◌, ◌%◌, ◌≤◌, ◌<◌}
use native.Mathlib.Nat.{mul-zero, mod-lt, div-lt_iff_lt-mul}
use native.Mathlib.Omega.{arith}
use lib.ListN.{length, get_or, length-map}
use borrow.Author.Tests.{eq-eqb}
use Rattle.tropical_weight.specs.Limits.{finest, link_limit}
use Rattle.sheet.specs.Sheet.{unit_of}
use Rattle.sheet.specs.Machine.{Machine, unit_in, machine, leaving}
use Rattle.sheet.proofs.Below.{split_at}
use Rattle.sheet.proofs.Forms.{covered}
use Rattle.sheet.proofs.AcceptedSheet.{form-of-bytes}
use Rattle.machine.specs.declared.climbing.Machine.{Machine as Given}
use Rattle.machine.specs.Readings.{link, final}
use Rattle.machine.proofs.Lists.{get_d_map}
use Rattle.machine.proofs.Machines.{machine-fields, unit-of}
use Rattle.sorted_keys.specs.Sorted.{FirstAtLeast, Rising, InOrder, Climbing}
use Rattle.sorted_keys.proofs.Orders.{order-at}
use Rattle.product.specs.Product.{Pair, nodes, source_for, pairs, link_for, final_for, product}
use Rattle.product.specs.Keys.{pair_key, pair_first, pair_second, pair_node, pair_keys}
use Rattle.product.specs.Halves.{no_pair, pair_at}
use Rattle.product.proofs.Pairs.{Meets}
use Rattle.product.proofs.Fields.{product-links, product-link, product-final, product-form, meets_at}
use Rattle.link_pairs.proofs.Finding.{pair-keys-climb}
use Rattle.two_probes.specs.declared.both.Both.{Both}
use Rattle.two_probes.specs.Outcome.{second_number}
use Rattle.two_probes.specs.Held.{allowed_by, unit_by}
use Rattle.two_probes.proofs.Outcomes.{second-passed}
use Rattle.two_probes.proofs.Records.{leaving-between}

-- a number below a product, by the second factor: its two halves
positive : (m n v : ℕ) → v < m * n → 0 < n
positive m zero v h = absurd (omega (arith, mul-zero m))
positive m (suc n) v h = omega arith

pub first-half : (m n v : ℕ) → v < m * n → v / n < m
first-half m n v h = (div-lt_iff_lt-mul {k = n} {x = v} {y = m} (positive m n v h)).1 h

pub second-half : (m n v : ℕ) → v < m * n → v % n < n
second-half m n v h = mod-lt v (positive m n v h)

-- keys that climb are in order
climbing-order : (l : List ℕ) → Climbing l → InOrder l
climbing-order [] c = tt
climbing-order (x ∷ l) c = (λ y m. omega (arith, c.0 y m), climbing-order l c.1)

-- those of the pairs of two machines are
pub pairs-rise : (m n : Given) → Rising (length (pair_keys (machine m.sheet.bytes.now) (machine n.sheet.bytes.now))) (pair_keys (machine m.sheet.bytes.now) (machine n.sheet.bytes.now))
pairs-rise m n =
    let f = machine-fields m in
    let g = machine-fields n in
    let keys = pair_keys (machine m.sheet.bytes.now) (machine n.sheet.bytes.now) in
    order-at keys (climbing-order keys (pair-keys-climb (machine m.sheet.bytes.now) (machine n.sheet.bytes.now) f.climbs g.climbs (omega (arith, f.nodes-are, f.few-nodes)) (omega (arith, g.nodes-are, g.few-nodes)) (omega (arith, f.links-are, f.few-links)) (omega (arith, g.links-are, g.few-links))))

-- two machines of one unit pass the tests of both sheets
pub second-passes : (m n : Given) → unit_of m.sheet.form ≡ unit_of n.sheet.form → second_number m.sheet.bytes.now n.sheet.bytes.now ≡ 0
second-passes m n e = second-passed m.sheet.bytes.now n.sheet.bytes.now n.climbs (eq-eqb _ _ (sym (ap unit_of (form-of-bytes m.sheet)) ∙ e ∙ ap unit_of (form-of-bytes n.sheet)))

module _ (x : Both) where
  abbrev pub a : Machine
  a = machine x.first.sheet.bytes.now

  abbrev pub b : Machine
  b = machine x.second.sheet.bytes.now

  -- each is of the one unit
  pub first-unit : unit_of x.first.sheet.form ≡ unit_by x
  first-unit = sym (unit-of x.first.sheet)

  pub second-unit : unit_in b ≡ unit_by x
  second-unit = unit-of x.second.sheet ∙ sym x.one_unit ∙ first-unit

  pub second-zero : second_number x.first.sheet.bytes.now x.second.sheet.bytes.now ≡ 0
  second-zero = second-passes x.first x.second x.one_unit

  pub unit-covered : unit_by x ≤ finest
  unit-covered = covered a.form

  pub allowed-unit : unit_in (allowed_by x) ≡ unit_by x
  allowed-unit = ap unit_of (product-form a b)

  pub many-links : length x.pairs.keys.now ≡ length (pairs a b)
  unfolding pair_keys
  many-links = ap length x.found ∙ length-map (pairs a b) (λ p. pair_key (source_for a b p.first p.second) p.first p.second)

  pub first-nodes : nodes a ≡ x.first.sheet.nodes
  first-nodes = (machine-fields x.first).nodes-are

  pub second-nodes : nodes b ≡ x.second.sheet.nodes
  second-nodes = (machine-fields x.second).nodes-are

  pub many-nodes : nodes a * nodes b ≡ x.first.sheet.nodes * x.second.sheet.nodes
  many-nodes = λ i. first-nodes i * second-nodes i

  pub final-is : (v : ℕ) → v < x.first.sheet.nodes * x.second.sheet.nodes → final (product a b) v ≡ final_for (final a (v / x.second.sheet.nodes)) (final b (v % x.second.sheet.nodes))
  final-is v h = product-final a b v (omega (arith, many-nodes)) ∙ λ i. final_for (final a (v / second-nodes i)) (final b (v % second-nodes i))

  module _ (q : ℕ) (h : q < length x.pairs.keys.now) where
    inside : q < length (pairs a b)
    inside = omega (arith, many-links)

    pub meets : Meets a b (pair_at a b q)
    meets = meets_at a b (machine-fields x.first).climbs (machine-fields x.second).climbs q inside

    pub first-in : (pair_at a b q).first < x.first.sheet.links
    first-in = omega (arith, meets.in-first, (machine-fields x.first).links-are)

    pub second-in : (pair_at a b q).second < x.second.sheet.links
    second-in = omega (arith, meets.in-second, (machine-fields x.second).links-are)

    key-is : get_or x.pairs.keys.now q 0 ≡ pair_key (source_for a b (pair_at a b q).first (pair_at a b q).second) (pair_at a b q).first (pair_at a b q).second
    unfolding pair_keys
    key-is = ap (λ l. get_or l q 0) x.found ∙ get_d_map (λ (p : Pair). pair_key (source_for a b p.first p.second) p.first p.second) (pairs a b) q no_pair 0 inside

    few-first : (pair_at a b q).first < link_limit
    few-first = omega (arith, first-in, (machine-fields x.first).few-links)

    few-second : (pair_at a b q).second < link_limit
    few-second = omega (arith, second-in, (machine-fields x.second).few-links)

    -- the key tells the node that the pair leaves, and its links
    pub node-is : pair_node (get_or x.pairs.keys.now q 0) ≡ source_for a b (pair_at a b q).first (pair_at a b q).second
    node-is = omega (arith, key-is, few-first, few-second)

    pub first-is : pair_first (get_or x.pairs.keys.now q 0) ≡ (pair_at a b q).first
    first-is = omega (arith, key-is, few-first, few-second)

    pub second-is : pair_second (get_or x.pairs.keys.now q 0) ≡ (pair_at a b q).second
    second-is = omega (arith, key-is, few-first, few-second)

    pub link-is : link (product a b) q ≡ link_for a b (pair_at a b q)
    link-is = product-link a b q inside

  -- the links that leave node v are those from its least key on, up to the next node's
  module _ (v low high : ℕ) (l : FirstAtLeast (length x.pairs.keys.now) x.pairs.keys.now (pair_key v 0 0) low) (u : FirstAtLeast (length x.pairs.keys.now) x.pairs.keys.now (pair_key (v + 1) 0 0) high) where
    -- by its key a link leaves a node below another, or not
    leaves : (q : ℕ) → q < length x.pairs.keys.now → (link (product a b) q).source ≡ pair_node (get_or x.pairs.keys.now q 0)
    leaves q h = ap (λ k. k.source) (link-is q h) ∙ sym (node-is q h)

    ordered : low ≤ high
    ordered = elim (split_at high low) [
      | inl h ↦ absurd (omega (arith, h, l.within, l.below high h, u.above high (omega arith) (omega (arith, h, l.within))))
      | inr h ↦ h
    ]

    pub leaving-is : high - low ≡ leaving (product a b).links v
    leaving-is =
        let size : length (product a b).links ≡ length x.pairs.keys.now = product-links a b ∙ sym many-links in
        sym (leaving-between (product a b).links v low high (omega (arith, size, u.within)) ordered
        (λ q h. let i : q < length x.pairs.keys.now = omega (arith, h, l.within) in omega (arith, leaves q i, l.below q h))
        (λ q h o. let i : q < length x.pairs.keys.now = omega (arith, o, u.within) in omega (arith, leaves q i, l.above q h i, u.below q o))
        (λ q h o. let i : q < length x.pairs.keys.now = omega (arith, o, size) in omega (arith, leaves q i, u.above q h i)))
