-- The test of a run as a reading tells just the readings, and a walk over a sheet, link by link, makes that test. Assumes nothing.
use mathlib.Core.Path.{◌≡◌, refl, sym, ap, ◌∙◌, subst}
use mathlib.Core.Logic.{inl, inr}
use mathlib.Core.Bool.{Bool, true, false, not, ◌&&◌, cond}
use mathlib.Core.Option.{Option, none, some}
use mathlib.Core.List.{List, [], ◌∷◌, ◌++◌}
use Prim.Native.Nat.{ℕ, zero, suc, ◌+◌, ◌*◌, ◌≤◌, ◌<◌}
use native.Mathlib.Decide.{ℕ_discrete}
use native.Mathlib.Omega.{arith}
use Rattle.std.specs.Prelude.{Option as Maybe, Some, None}
use lib.Dec.{eqb, ltb}
use lib.ListN.{length}
use lib.Ieee.{binary32, of_bits}
use borrow.Author.Tests.{eq-eqb, ne_eqb, eqb-true, ltb-true, lt-ltb}
use Rattle.tropical_weight.specs.Tropical.{Tropical, fin, inf, ◌⊗◌}
use Rattle.tropical_weight.specs.Grid.{units_of}
use Rattle.tropical_weight.proofs.Semiring.{is_finite, finite-⊗, is-finite}
use Rattle.sheet.specs.Words.{word}
use Rattle.sheet.specs.Below.{sum_below}
use Rattle.sheet.specs.declared.tr.Trailer.{Trailer}
use Rattle.sheet.specs.Sheet.{link_length, no_start, barred_bits}
use Rattle.sheet.specs.Records.{count_at, mark_at, final_at, first_link}
use Rattle.sheet.specs.Accepted.{ending_at}
use Rattle.sheet.specs.Machine.{Machine, unit_in, machine, weight_of}
use Rattle.sheet.proofs.Apart.{both}
use Rattle.sheet.proofs.Below.{split_at}
use Rattle.sheet.proofs.NodeSources.{first-within}
use Rattle.machine.specs.declared.climbing.Machine.{Machine as Climbing}
use Rattle.machine.specs.Readings.{link, final, final_weight, node_or, IsRun, run_cost, IsReading, reading_of, reading_cost, end_from}
use Rattle.machine.proofs.Runs.{run_ends}
use Rattle.machine.proofs.SheetFields.{SheetFields, sheet-fields}
use Rattle.read_back.specs.declared.walk.Walk.{Walk}
use Rattle.read_back.specs.Way.{told_before, number_told}
use Rattle.read_back.specs.Follows.{leaves, goes_by, follows, is_ending, ends_at, ends_from, reads_to}
use Rattle.read_back.specs.Walks.{goes_to, ended_by, outcome}
use Rattle.read_back.proofs.Ways.{number-none, number-some, told_none, told-some}

-- ---- the test
module _ (m : Machine) where
  pub leaves-parts : (u l : ℕ) → leaves m u l ≡ true → (l < length m.links) × ((link m l).source ≡ u)
  leaves-parts u l e = let p = both (ltb l (length m.links)) (eqb (link m l).source u) e in (ltb-true l (length m.links) p.0, eqb-true (link m l).source u p.1)

  pub leaves_of : (u l : ℕ) → l < length m.links → (link m l).source ≡ u → leaves m u l ≡ true
  leaves_of u l h e = λ i. lt-ltb l (length m.links) h i && eq-eqb (link m l).source u e i

  pub goes_parts : (u l : ℕ) → goes_by m u l ≡ true → (leaves m u l ≡ true) × (is_finite (link m l).weight ≡ true)
  goes_parts u l e = both (leaves m u l) (is_finite (link m l).weight) e

  -- a run that is followed is one, of finite cost
  follows-run : (run : List ℕ) (u v : ℕ) → follows m u run ≡ some v → IsRun m u run v × (is_finite (run_cost m run) ≡ true)
  unfolding run_cost
  follows-run [] u v e = (let z : u ≡ v = cc in z, refl)
  follows-run (l ∷ run) u v e = go (goes_by m u l) refl e (λ z. follows-run run (link m l).next v z)
    where
      go : (b : Bool) → goes_by m u l ≡ b → cond b (follows m (link m l).next run) none ≡ some v
          → (follows m (link m l).next run ≡ some v → IsRun m (link m l).next run v × (is_finite (run_cost m run) ≡ true)) → IsRun m u (l ∷ run) v × (is_finite ((link m l).weight ⊗ run_cost m run) ≡ true)
      go true f z on =
          let p = goes_parts u l f in
          let q = leaves-parts u l p.0 in
          let r = on z in
          ((q.0, q.1, r.0), finite-⊗ (link m l).weight (run_cost m run) ∙ λ i. p.1 i && r.1 i)
      go false f z on = let y : ◌≡◌ {A = ℕ} 0 1 = cc in absurd (omega arith)

  run-follows : (run : List ℕ) (u v : ℕ) → IsRun m u run v → is_finite (run_cost m run) ≡ true → follows m u run ≡ some v
  unfolding run_cost
  run-follows [] u v h f = ap some h
  run-follows (l ∷ run) u v h f =
      let p = both (is_finite (link m l).weight) (is_finite (run_cost m run)) (sym (finite-⊗ (link m l).weight (run_cost m run)) ∙ f) in
      ap (λ (b : Bool). cond b (follows m (link m l).next run) none) (λ i. leaves_of u l h.0 h.1 i && p.0 i) ∙ run-follows run (link m l).next v h.2 p.1

  -- the test tells readings
  pub record Reads (run : List ℕ) (v : ℕ) : Type 0 where
    pub reading : IsReading m (reading_of m run)
    pub ends : v ≡ (reading_of m run).end

  pub reads-is : (run : List ℕ) (v : ℕ) → reads_to m run ≡ some v → Reads run v
  reads-is run v e = from m.start refl e
    where
      ended : (s : ℕ) (o : Option ℕ) → m.start ≡ some s → follows m s run ≡ o → ends_at m o ≡ some v → Reads run v
      ended s none st f z = let y : ◌≡◌ {A = ℕ} 0 1 = cc in absurd (omega arith)
      ended s (some w) st f z = at (final m w) refl z
        where
          at : (o : Option Tropical) → final m w ≡ o → cond (is_ending o) (some w) none ≡ some v → Reads run v
          at none g y = let x : ◌≡◌ {A = ℕ} 0 1 = cc in absurd (omega arith)
          at (some inf) g y = let x : ◌≡◌ {A = ℕ} 0 1 = cc in absurd (omega arith)
          at (some (fin c)) g y =
              let same : w ≡ v = cc in
              let r = follows-run run s w f in
              let end : end_from m (node_or m.start) run ≡ w = ap (λ (o : Option ℕ). end_from m (node_or o) run) st ∙ run_ends m run s w r.0 in
              let mark : final m (reading_of m run).end ≡ some (fin c) = ap (final m) end ∙ g in
              let cost = is-finite (reading_cost m (reading_of m run)) (finite-⊗ (run_cost m run) (final_weight (final m (reading_of m run).end)) ∙ λ i. r.1 i && is_finite (final_weight (mark i))) in
              record {
                reading = record { from = s; weight = fin c; starts = st; runs = subst (IsRun m s run) (sym end) r.0; marked = mark; costs = cost.0; finite = cost.1 };
                ends = sym same ∙ sym end;
              }

      from : (o : Option ℕ) → m.start ≡ o → ends_from m o run ≡ some v → Reads run v
      from none st z = let y : ◌≡◌ {A = ℕ} 0 1 = cc in absurd (omega arith)
      from (some s) st z = ended s (follows m s run) st refl z

  pub is-reads : (run : List ℕ) → IsReading m (reading_of m run) → reads_to m run ≡ some (reading_of m run).end
  is-reads run i =
      let end = (reading_of m run).end in
      let p = both (is_finite (run_cost m run)) (is_finite (final_weight (final m end))) (sym (finite-⊗ (run_cost m run) (final_weight (final m end))) ∙ ap is_finite i.finite) in
      ap (λ (o : Option ℕ). ends_from m o run) i.starts ∙ ap (ends_at m) (run-follows run i.from end i.runs p.0) ∙ ap (λ (b : Bool). cond b (some end) none) p.1

  -- ---- what a walk comes to, by a number more
  pub outcome-none : (u count number : ℕ) (o : Option (List ℕ)) → number ≡ no_start → outcome m u count (told_before number o) ≡ outcome m u count o
  outcome-none u count number none e = refl
  outcome-none u count number (some way) e = ap (λ (r : List ℕ). outcome m u count (some (r ++ way))) (told_none number e)

  pub outcome-on : (u count number : ℕ) (o : Option (List ℕ)) → (number ≡ no_start → ⊥) → goes_by m u number ≡ true → outcome m u count (told_before number o) ≡ outcome m (link m number).next (count + 1) o
  outcome-on u count number none d e = refl
  outcome-on u count number (some way) d e =
      ap (λ (r : List ℕ). outcome m u count (some (r ++ way))) (told-some number d)
      ∙ ap (λ (b : Bool). ended_by count (number ∷ way) (ends_at m (cond b (follows m (link m number).next way) none))) e
      ∙ longer (ends_at m (follows m (link m number).next way))
    where
      longer : (o : Option ℕ) → ended_by count (number ∷ way) o ≡ ended_by (count + 1) way o
      longer none = refl
      longer (some v) = ap (λ (k : ℕ). some (k, v)) (let z : count + suc (length way) ≡ count + 1 + length way = omega arith in z)

  pub outcome-off : (u count number : ℕ) (o : Option (List ℕ)) → (number ≡ no_start → ⊥) → goes_by m u number ≡ false → outcome m u count (told_before number o) ≡ none
  outcome-off u count number none d e = refl
  outcome-off u count number (some way) d e =
      ap (λ (r : List ℕ). outcome m u count (some (r ++ way))) (told-some number d)
      ∙ ap (λ (b : Bool). ended_by count (number ∷ way) (ends_at m (cond b (follows m (link m number).next way) none))) e

  -- where a walk has come to, and by what is left
  pub goes-off : (u count l : ℕ) (told : Maybe ℕ) → told ≡ Some l → goes_by m u l ≡ false → goes_to m u count told ≡ none
  goes-off u count l told is e = ap (goes_to m u count) is ∙ ap (λ (b : Bool). cond b (some (count + 1, (link m l).next)) none) e

  pub goes-on : (u count l : ℕ) (told : Maybe ℕ) → told ≡ Some l → goes_by m u l ≡ true → goes_to m u count told ≡ some (count + 1, (link m l).next)
  goes-on u count l told is e = ap (goes_to m u count) is ∙ ap (λ (b : Bool). cond b (some (count + 1, (link m l).next)) none) e

  abbrev pub outcome_from : Option (ℕ × ℕ) → Option (List ℕ) → Option (ℕ × ℕ)
  outcome_from none o = none
  outcome_from (some x) o = outcome m x.1 x.0 o

  pub outcome-goes : (u count l : ℕ) (o : Option (List ℕ)) → outcome m u count (told_before l o) ≡ outcome_from (goes_to m u count (number_told l)) o
  outcome-goes u count l o = go (ℕ_discrete l no_start)
    where
      by : (l ≡ no_start → ⊥) → (b : Bool) → goes_by m u l ≡ b → outcome m u count (told_before l o) ≡ outcome_from (goes_to m u count (number_told l)) o
      by d true e = outcome-on u count l o d e ∙ ap (λ (p : Option (ℕ × ℕ)). outcome_from p o) (sym (goes-on u count l (number_told l) (number-some l d) e))
      by d false e = outcome-off u count l o d e ∙ ap (λ (p : Option (ℕ × ℕ)). outcome_from p o) (sym (goes-off u count l (number_told l) (number-some l d) e))

      go : Dec (l ≡ no_start) → outcome m u count (told_before l o) ≡ outcome_from (goes_to m u count (number_told l)) o
      go (yes e) = outcome-none u count l o e ∙ ap (λ (p : Option (ℕ × ℕ)). outcome_from p o) (sym (ap (goes_to m u count) (number-none l e)))
      go (no d) = by d (goes_by m u l) refl

  -- at the last state
  pub ends-here : (u count : ℕ) → is_ending (final m u) ≡ true → outcome m u count (some []) ≡ some (count, u)
  ends-here u count e = ap (λ (b : Bool). ended_by count [] (cond b (some u) none)) e ∙ ap (λ (k : ℕ). some (k, u)) (let z : count + 0 ≡ count = omega arith in z)

  pub ends-not : (u count : ℕ) → is_ending (final m u) ≡ false → outcome m u count (some []) ≡ none
  ends-not u count e = ap (λ (b : Bool). ended_by count [] (cond b (some u) none)) e

-- ---- a walk over a sheet
-- a weight's field bars, or is finite
finite-bits : (j bits : ℕ) → is_finite (weight_of j bits) ≡ not (eqb bits barred_bits)
finite-bits j bits = go (eqb bits barred_bits)
  where
    go : (b : Bool) → is_finite (cond b inf (fin (units_of j (of_bits binary32 bits)))) ≡ not b
    go true = refl
    go false = refl

-- the test of a final weight's field, where there is one
abbrev pub ends_by : Maybe ℕ → Bool
ends_by None = false
ends_by (Some bits) = not (eqb bits barred_bits)

-- a number below a sum is in one of its parts
pub record InPart (f : ℕ → ℕ) (n l : ℕ) : Type 0 where
  pub at : ℕ
  pub inside : at < n
  pub from : sum_below at f ≤ l
  pub to : l < sum_below at f + f at

pub in-part : (f : ℕ → ℕ) (n l : ℕ) → l < sum_below n f → InPart f n l
unfolding sum_below
in-part f zero l h = absurd (omega arith)
in-part f (suc n) l h = elim (split_at l (sum_below n f)) [
  | inl k ↦ let p = in-part f n l k in record { at = p.at; inside = omega (arith, p.inside); from = p.from; to = p.to }
  | inr k ↦ record { at = n; inside = omega arith; from = k; to = h }
]

-- what the sheet of a machine gives, by the counts that it keeps
pub fields_in : (m : Climbing) → SheetFields m.sheet.bytes.now m.sheet.links m.sheet.nodes (machine m.sheet.bytes.now)
fields_in m = subst (λ (t : Trailer). SheetFields m.sheet.bytes.now t.links t.nodes (machine m.sheet.bytes.now)) (sym m.sheet.stated) (sheet-fields m.sheet.bytes.now m.climbs)

module _ (w : Walk) where
  abbrev sheet : List ℕ
  sheet = w.at.sheet.bytes.now

  abbrev m : Machine
  m = machine w.at.sheet.bytes.now

  abbrev T : ℕ
  T = w.at.sheet.links

  f : SheetFields sheet w.at.sheet.links w.at.sheet.nodes (machine sheet)
  f = fields_in (record { sheet = w.at.sheet; climbs = w.climbs })

  -- its node's links are those from its first on
  part_end : w.at.first + count_at sheet T w.at.node ≤ T
  part_end = omega (arith, w.at.begins, first-within sheet T w.at.sheet.nodes w.at.sheet.start w.at.sheet.form w.at.sheet.accepted w.at.sheet.stated w.at.node w.at.inside)

  pub leaves-here : (l : ℕ) → w.at.first ≤ l → l < w.at.first + count_at sheet w.at.sheet.links w.at.node → leaves (machine sheet) w.at.node l ≡ true
  leaves-here l a b = leaves_of m w.at.node l (omega (arith, part_end, f.links-are)) (f.source-at w.at.node l w.at.inside (omega (arith, w.at.begins)) (omega (arith, w.at.begins)))

  leaves_in : (l : ℕ) → leaves m w.at.node l ≡ true → (w.at.first ≤ l) × (l < w.at.first + count_at sheet T w.at.node)
  leaves_in l e =
      let p = leaves-parts m w.at.node l e in
      let q = in-part (count_at sheet T) w.at.sheet.nodes l (omega (arith, p.0, f.links-are, f.counted)) in
      let same : q.at ≡ w.at.node = sym (f.source-at q.at l q.inside q.from q.to) ∙ p.1 in
      (omega (arith, q.from, w.at.begins, ap (first_link sheet T) same), omega (arith, q.to, w.at.begins, ap (first_link sheet T) same, ap (count_at sheet T) same))

  pub leaves_none : (l : ℕ) → ((w.at.first ≤ l) → (l < w.at.first + count_at sheet w.at.sheet.links w.at.node) → ⊥) → leaves (machine sheet) w.at.node l ≡ false
  leaves_none l d = go (leaves m w.at.node l) refl
    where
      go : (b : Bool) → leaves m w.at.node l ≡ b → b ≡ false
      go true e = let p = leaves_in l e in absurd (d p.0 p.1)
      go false e = refl

  -- ---- whether it goes by a link
  pub goes-here : (l : ℕ) → w.at.first ≤ l → l < w.at.first + count_at sheet w.at.sheet.links w.at.node → (word sheet (link_length * l + 8) ≡ barred_bits → ⊥) → goes_by (machine sheet) w.at.node l ≡ true
  goes-here l a b d =
      let passable : is_finite (link m l).weight ≡ true = ap is_finite (sym (f.weight-at l (omega (arith, part_end)))) ∙ finite-bits (unit_in m) (word sheet (link_length * l + 8)) ∙ ap not (ne_eqb (word sheet (link_length * l + 8)) barred_bits d) in
      λ i. leaves-here l a b i && passable i

  pub goes_none : (l : ℕ) → ((w.at.first ≤ l) → (l < w.at.first + count_at sheet w.at.sheet.links w.at.node) → ⊥) → goes_by (machine sheet) w.at.node l ≡ false
  goes_none l d = ap (λ (b : Bool). b && is_finite (link m l).weight) (leaves_none l d)

  pub goes-barred : (l : ℕ) → w.at.first ≤ l → l < w.at.first + count_at sheet w.at.sheet.links w.at.node → word sheet (link_length * l + 8) ≡ barred_bits → goes_by (machine sheet) w.at.node l ≡ false
  goes-barred l a b e =
      let shut : is_finite (link m l).weight ≡ false = ap is_finite (sym (f.weight-at l (omega (arith, part_end)))) ∙ finite-bits (unit_in m) (word sheet (link_length * l + 8)) ∙ ap not (eq-eqb (word sheet (link_length * l + 8)) barred_bits e) in
      λ i. leaves-here l a b i && shut i

  -- what a link that leaves its node gives
  pub record OnBy (l : ℕ) : Type 0 where
    pub link-in : l < w.at.sheet.links
    pub next-is : word sheet (link_length * l + 12) ≡ (link (machine sheet) l).next
    pub rises : w.at.node < (link (machine sheet) l).next
    pub inside : (link (machine sheet) l).next < w.at.sheet.nodes

  pub on-by : (l : ℕ) → leaves (machine sheet) w.at.node l ≡ true → OnBy l
  on-by l e =
      let p = leaves-parts m w.at.node l e in
      let b : l < T = omega (arith, p.0, f.links-are) in
      record { link-in = b; next-is = f.next-at l b; rises = omega (arith, f.climbs.rises l p.0, p.1); inside = f.next-in l b }

  -- ---- whether a reading may end at its node
  pub ending-is : (o : Maybe ℕ) → o ≡ ending_at sheet w.at.sheet.links w.at.node → ends_by o ≡ is_ending (final (machine sheet) w.at.node)
  ending-is o e = ap ends_by e ∙ go (eqb (mark_at sheet T w.at.node) 0) ∙ ap is_ending (sym (f.final-at w.at.node w.at.inside))
    where
      go : (b : Bool) → ends_by (cond b None (Some (final_at sheet T w.at.node))) ≡ is_ending (cond b none (some (weight_of (unit_in m) (final_at sheet T w.at.node))))
      go true = refl
      go false = sym (finite-bits (unit_in m) (final_at sheet T w.at.node))
