-- The product as a sheet: how long it is; and where nothing is refused, the sheet is accepted and holds the product. Assumes nothing.
use mathlib.Core.Path.{◌≡◌, refl, sym, ap, ◌∙◌, subst}
use mathlib.Core.Bool.{true}
use mathlib.Core.Option.{Option, none, some}
use mathlib.Core.List.{◌++◌}
use Prim.Native.Nat.{ℕ, ◌+◌, ◌*◌, ◌/◌, ◌%◌, ◌^◌, ◌<◌}
use native.Mathlib.Omega.{arith}
use lib.ListN.{length, length-append}
use Rattle.tropical_weight.specs.Limits.{weight_limit}
use Rattle.tropical_weight.specs.Tropical.{Tropical, ◌⊗◌, Within}
use Rattle.sheet.specs.Sheet.{link_length, node_length, trailer_length, unit_fits, weight_fits, sheet_of, parts_of, trailer_of}
use Rattle.sheet.specs.Machine.{Machine, unit_in, machine_of, bits_of, parts_for}
use Rattle.sheet.proofs.Apart.{both}
use Rattle.sheet.proofs.Below.{all_below-at}
use Rattle.sheet.proofs.Bytes.{length-bytes_of_all}
use Rattle.sheet.proofs.Writing.{trailer-size}
use Rattle.sheet.proofs.Encoding.{length-links, length-nodes}
use Rattle.sheet.proofs.Forms.{covered}
use Rattle.machine.specs.Readings.{link, final}
use Rattle.machine.specs.Climbs.{Climbs, Small}
use Rattle.machine.specs.Input.{input_number}
use Rattle.machine.proofs.Readings.{final-in}
use Rattle.machine.proofs.SheetOf.{Readable, sheet-machine, sheet-accepted}
use Rattle.product.specs.Product.{nodes, node_for, pairs, final_for, start_for, product}
use Rattle.product.specs.Refusals.{product_number}
use Rattle.product.specs.Fits.{final_fits, links_fit, finals_fit}
use Rattle.product.specs.Halves.{pair_at}
use Rattle.product.proofs.Nodes.{node-lt}
use Rattle.product.proofs.Fields.{product-links, product-link, product-nodes, product-final, product-start, product-form, meets_at, climbs-product}
use Rattle.product.proofs.Numbers.{fits-within, passes-apart}

-- ---- how long it is, for any two machines
pub product-length : (a b : Machine) → length (sheet_of (parts_for (product a b))) ≡ link_length * length (pairs a b) + node_length * (nodes a * nodes b) + trailer_length a.form
unfolding sheet_of parts_for
product-length a b =
    let m = product a b in
    let p = parts_for m in
    omega (
      arith,
      length-bytes_of_all (p.links ++ p.nodes ++ trailer_of p),
      length-append (p.links ++ p.nodes) (trailer_of p),
      length-append p.links p.nodes,
      length-links (unit_in m) m.links,
      length-nodes (unit_in m) m.links 0 m.finals,
      product-links a b,
      product-nodes a b,
      trailer-size p,
      ap trailer_length (product-form a b),
    )

-- ---- of two that are accepted and not refused
module _ (a b : Machine) (c : Climbs a) (d : Climbs b) (first-small : Small weight_limit a) (second-small : Small weight_limit b)
    (first-starts : (s : ℕ) → a.start ≡ some s → s < nodes a) (second-starts : (s : ℕ) → b.start ≡ some s → s < nodes b)
    (labels : (l : ℕ) → l < length a.links → ((link a l).ilabel < 2 ^ 32) × ((link a l).olabel < 2 ^ 32)) (unit-fits : unit_fits a.form ≡ true)
    (accepted : product_number a b ≡ 0) where
  -- ---- each sum is within the limit, as its field passes test 4
  sums-pass : (links_fit a b ≡ true) × (finals_fit a b ≡ true)
  sums-pass = both (links_fit a b) (finals_fit a b) (passes-apart a b accepted).3

  small-link : (q : ℕ) → q < length (pairs a b) → Within weight_limit (link (product a b) q).weight
  small-link q h =
      let m = meets_at a b c d q h in
      let p = pair_at a b q in
      let fits = all_below-at (length (pairs a b)) (λ q. weight_fits (unit_in a) (bits_of (unit_in a) (link (product a b) q).weight)) sums-pass.0 q h in
      subst (λ k. Within weight_limit k.weight) (sym (product-link a b q h))
      (fits-within (unit_in a) (covered a.form) (link a p.first).weight (link b p.second).weight (first-small.on_link p.first m.in-first) (second-small.on_link p.second m.in-second)
      (sym (ap (λ k. weight_fits (unit_in a) (bits_of (unit_in a) k.weight)) (product-link a b q h)) ∙ fits))

  small-final : (v : ℕ) (w : Tropical) → final (product a b) v ≡ some w → Within weight_limit w
  small-final v w e = go (final a (v / nodes b)) (final b (v % nodes b)) refl refl (sym (product-final a b v inside) ∙ e)
    where
      inside : v < nodes a * nodes b
      inside = omega (arith, final-in (product a b) v w e, product-nodes a b)

      fits : weight_fits (unit_in a) (bits_of (unit_in a) w) ≡ true
      fits = sym (ap (final_fits (unit_in a)) e) ∙ all_below-at (nodes a * nodes b) (λ v. final_fits (unit_in a) (final (product a b) v)) sums-pass.1 v inside

      go : (f g : Option Tropical) → final a (v / nodes b) ≡ f → final b (v % nodes b) ≡ g → final_for f g ≡ some w → Within weight_limit w
      go (some x) (some y) p q r =
          let sum : x ⊗ y ≡ w = cc in
          subst (Within weight_limit) sum
          (fits-within (unit_in a) (covered a.form) x y (first-small.on_final (v / nodes b) x p) (second-small.on_final (v % nodes b) y q) (ap (λ z. weight_fits (unit_in a) (bits_of (unit_in a) z)) sum ∙ fits))
      go (some x) none p q r = let z : ◌≡◌ {A = ℕ} 0 1 = cc in absurd (omega arith)
      go none g p q r = let z : ◌≡◌ {A = ℕ} 0 1 = cc in absurd (omega arith)

  -- ---- its start is a node, and its fields are words
  starts : (u : ℕ) → (product a b).start ≡ some u → u < length (product a b).finals
  starts u e = subst (λ (n : ℕ). u < n) (sym (product-nodes a b)) (go a.start b.start first-starts second-starts (sym (product-start a b) ∙ e))
    where
      go : (s t : Option ℕ) → ((i : ℕ) → s ≡ some i → i < nodes a) → ((j : ℕ) → t ≡ some j → j < nodes b) → start_for a b s t ≡ some u → u < nodes a * nodes b
      go (some i) (some j) f g r = let node : node_for a b i j ≡ u = cc in subst (λ (x : ℕ). x < nodes a * nodes b) node (node-lt (nodes a) (nodes b) i j (f i refl) (g j refl))
      go (some i) none f g r = let z : ◌≡◌ {A = ℕ} 0 1 = cc in absurd (omega arith)
      go none t f g r = let z : ◌≡◌ {A = ℕ} 0 1 = cc in absurd (omega arith)

  pub product-readable : Readable (product a b)
  product-readable =
      let climbs = climbs-product a b c d in
      let p = passes-apart a b accepted in
      let inside : (q : ℕ) → q < length (product a b).links → q < length (pairs a b) = λ q h. omega (arith, product-links a b) in
      record {
        source_in = λ q h. omega (arith, climbs.rises q h, climbs.inside q h);
        next-in = climbs.inside;
        sorted = climbs.sorted;
        labels = λ q h.
            subst (λ k. (k.ilabel < 2 ^ 32) × (k.olabel < 2 ^ 32)) (sym (product-link a b q (inside q h)))
            (labels (pair_at a b q).first (meets_at a b c d q (inside q h)).in-first);
        small = record { on_link = λ q h. small-link q (inside q h); on_final = small-final };
        starts = starts;
        unit_fits_lem = ap unit_fits (product-form a b) ∙ unit-fits;
        few-nodes = omega (arith, product-nodes a b, p.1);
        few-links = omega (arith, product-links a b, p.2);
      }

  -- its sheet passes tests 1, 14 and 2 to 6
  pub product-accepted : input_number (sheet_of (parts_for (product a b))) ≡ 0
  product-accepted =
      let p = passes-apart a b accepted in
      sheet-accepted (product a b) product-readable (climbs-product a b c d) (omega (arith, product-nodes a b, p.1)) (omega (arith, product-links a b, p.2))

  -- and read from it the product is the same
  pub product-read : machine_of (parts_of (sheet_of (parts_for (product a b)))) ≡ product a b
  product-read = sheet-machine (product a b) product-readable
