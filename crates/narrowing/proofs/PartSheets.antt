-- Both parts of a machine within the limits as sheets: they are accepted, and read from them the parts are the same. Assumes nothing.
use mathlib.Core.Path.{◌≡◌, sym, ap, ◌∙◌, subst}
use mathlib.Core.Bool.{true}
use mathlib.Core.Option.{some, some-injective}
use Prim.Native.Nat.{ℕ, ◌+◌, ◌^◌, ◌≤◌, ◌<◌}
use native.Mathlib.Omega.{arith}
use lib.ListN.{length}
use Rattle.tropical_weight.specs.Limits.{weight_limit, node_limit, link_limit}
use Rattle.tropical_weight.specs.Tropical.{one, Within}
use Rattle.tropical_weight.proofs.Sums.{within-one}
use Rattle.sheet.specs.Sheet.{unit_fits, sheet_of}
use Rattle.sheet.specs.Machine.{Link, Machine, machine, parts_for}
use Rattle.machine.specs.Readings.{link, final}
use Rattle.machine.specs.Climbs.{Climbs, Small}
use Rattle.machine.specs.Input.{input_number}
use Rattle.machine.proofs.SheetOf.{Readable, sheet-machine, sheet-accepted}
use Rattle.narrowing.specs.Parts.{preheat, bake}
use Rattle.narrowing.proofs.Seam.{Narrows, seam, seam-in, first-links, in-first, first-link, first-start, first-form, first-nodes, first-final, first-marked, second-links, in-second, second-link, second-start, second-form, second-nodes, second-final}
use Rattle.narrowing.proofs.Joined.{climbs-first, climbs-second}

module _ (c : ℕ) (m : Machine) (k : Climbs m) (t : Narrows c m) (small : Small weight_limit m)
    (labels : (l : ℕ) → l < length m.links → ((link m l).ilabel < 2 ^ 32) × ((link m l).olabel < 2 ^ 32))
    (few : length m.finals ≤ node_limit) (short : length m.links ≤ link_limit) (told : unit_fits m.form ≡ true) where
  -- ---- the first part
  readable-first : Readable (preheat c m)
  readable-first =
      let climbs = climbs-first c m k t in
      record {
        source_in = λ l h. omega (arith, climbs.rises l h, climbs.inside l h);
        next-in = climbs.inside;
        sorted = climbs.sorted;
        labels = λ l h. let b = in-first c m l h in subst (λ (x : Link). (x.ilabel < 2 ^ 32) × (x.olabel < 2 ^ 32)) (sym (first-link c m k l b.0)) (labels l b.1);
        small = record {
          on_link = λ l h. let b = in-first c m l h in subst (λ (x : Link). Within weight_limit x.weight) (sym (first-link c m k l b.0)) (small.on_link l b.1);
          on_final = λ v w e.
              let mark : some one ≡ some w = sym (first-final c m t.inside) ∙ ap (final (preheat c m)) (sym (first-marked c m t v w e)) ∙ e in
              subst (Within weight_limit) (some-injective one w mark) (within-one weight_limit);
        };
        starts = λ v e. omega (arith, some-injective t.from v (sym t.starts ∙ sym (first-start c m) ∙ e), t.by, first-nodes c m t.inside);
        few-nodes = omega (arith, first-nodes c m t.inside, t.inside, few);
        few-links = omega (arith, first-links c m, seam-in c m, short);
        unit_fits_lem = ap unit_fits (first-form c m) ∙ told;
      }

  pub first-accepted : input_number (sheet_of (parts_for (preheat c m))) ≡ 0
  first-accepted = sheet-accepted (preheat c m) readable-first (climbs-first c m k t) (omega (arith, first-nodes c m t.inside, t.inside, few)) (omega (arith, first-links c m, seam-in c m, short))

  pub first-read : machine (sheet_of (parts_for (preheat c m))) ≡ preheat c m
  first-read = sheet-machine (preheat c m) readable-first

  -- ---- the second part
  readable-second : Readable (bake c m)
  readable-second =
      let climbs = climbs-second c m k t in
      record {
        source_in = λ l h. omega (arith, climbs.rises l h, climbs.inside l h);
        next-in = climbs.inside;
        sorted = climbs.sorted;
        labels = λ l h. let b = in-second c m k l h in subst (λ (x : Link). (x.ilabel < 2 ^ 32) × (x.olabel < 2 ^ 32)) (sym (second-link c m k l b.0)) (labels (seam c m + l) b.1);
        small = record {
          on_link = λ l h. let b = in-second c m k l h in subst (λ (x : Link). Within weight_limit x.weight) (sym (second-link c m k l b.0)) (small.on_link (seam c m + l) b.1);
          on_final = λ v w e. small.on_final (c + v) w (sym (second-final c m v) ∙ e);
        };
        starts = λ v e. omega (arith, some-injective 0 v (sym (second-start c m) ∙ e), second-nodes c m, t.inside);
        few-nodes = omega (arith, second-nodes c m, few);
        few-links = omega (arith, second-links c m k, short);
        unit_fits_lem = ap unit_fits (second-form c m) ∙ told;
      }

  pub second-accepted : input_number (sheet_of (parts_for (bake c m))) ≡ 0
  second-accepted = sheet-accepted (bake c m) readable-second (climbs-second c m k t) (omega (arith, second-nodes c m, few)) (omega (arith, second-links c m k, short))

  pub second-read : machine (sheet_of (parts_for (bake c m))) ≡ bake c m
  second-read = sheet-machine (bake c m) readable-second
