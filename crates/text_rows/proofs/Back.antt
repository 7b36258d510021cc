-- The rows of a sheet convert to its parts: the highest node named is the last, the first is the start, and each node's links and final row are its
-- own. Assumes nothing.
use mathlib.Core.Path.{◌≡◌, refl, sym, ap, ◌∙◌, subst}
use mathlib.Core.Logic.{◌⊎◌, inl, inr}
use mathlib.Core.Bool.{Bool, true, false, not, ◌&&◌, ◌||◌, cond, false≢true, true≢false}
use mathlib.Core.List.{List, [], ◌∷◌, ◌++◌, flat_map, append_assoc, append-nil}
use Prim.Native.Nat.{ℕ, zero, suc, ◌+◌, ◌-◌, ◌*◌, ◌/◌, ◌%◌, ◌≤◌, ◌<◌}
use native.Mathlib.Omega.{arith}
use native.Mathlib.Decide.{ℕ_discrete}
use lib.Dec.{ltb, leb, eqb}
use lib.IntN.{ℤ, pos, negsuc, nat_abs, neg_ℤ}
use lib.ListN.{length, get_or, take, drop, length-append, length-drop}
use lib.Seq.{drop-cons, drop-drop, take-add, take_all, length-take-le}
use lib.Ieee.{binary32, of_bits}
use borrow.Author.Tests.{eq-eqb, ne_eqb, eqb-true, eqb-false, ltb-true, le-leb, not-true}
use Rattle.tropical_weight.specs.Limits.{unit, weight_limit, sum_limit}
use Rattle.tropical_weight.specs.Tropical.{fin}
use Rattle.tropical_weight.specs.Grid as Grid
use Rattle.tropical_weight.proofs.Exact.{bits_back}
use Rattle.tropical_weight.proofs.Grid.{grid_bits-means, units_of-of_k}
use Rattle.sheet.specs.declared.form.Form.{Form}
use Rattle.sheet.specs.Below.{sum_below, list_below, all_below}
use Rattle.sheet.specs.Machine.{bits_of}
use Rattle.sheet.specs.Sheet.{Parts, link_count, node_count, ilabel, olabel, link_bits, next, count, mark, final_bits, well_marked, barred_bits, on_grid_bits, weight_fits, nodes_fit, nexts_fit, weights_fit}
use Rattle.sheet.proofs.Below.{all_below-at, all_below-of, split_at, flat-snoc}
use Rattle.sheet.proofs.Apart.{both, or-either}
use Rattle.sheet.proofs.Sources.{counts-sum}
use Rattle.sheet.proofs.Encoding.{bits-inf}
use Rattle.text_rows.specs.Fields.{finite, barred}
use Rattle.text_rows.specs.Rows.{Row, link, final, highest, first_node, units_of, on_grid, weight_in, weight_passes, weights_pass, any_final, finals_once}
use Rattle.text_rows.specs.Convert.{field_of, link_from, count_from, mark_fields, nodes_in, parts_of_rows}
use Rattle.text_rows.specs.Written.{first_of, has_own, is_led, has_rows}
use Rattle.text_rows.specs.RowsFor.{in_millionths, millionths, weight_for, link_row_for, final_row_for, node_rows_for, rows_for}
use Rattle.text_rows.proofs.Segments.{segments, same-segments, sum_to, length-links}
use Rattle.text_rows.proofs.Filled.{Named, named-under, segments-flat, by-threes, finals-two, in_pieces}
use Rattle.text_rows.proofs.Fitting.{link_on, final-on}
use Rattle.text_rows.proofs.HasRows.{own-start, last-there}
use Rattle.text_rows.proofs.Judged.{Fours, fours-at, fours-segments, fours-rows, each_next, nat_abs-neg}

-- ---- a weight's field back
units-back : (k : ℤ) → units_of (in_millionths k) ≡ k
units-back (pos k) = ap pos (let e : 15625 * k * 64 / 1000000 ≡ k = omega arith in e)
units-back (negsuc k) = neg (15625 * suc k) (omega arith) ∙ ap (λ (x : ℕ). neg_ℤ (pos x)) (let e : 15625 * suc k * 64 / 1000000 ≡ suc k = omega arith in e)
  where
    neg : (x : ℕ) → 0 < x → units_of (neg_ℤ (pos x)) ≡ neg_ℤ (pos (x * 64 / 1000000))
    neg zero h = absurd (omega arith)
    neg (suc x) h = ap (λ (y : ℕ). neg_ℤ (pos (y * 64 / 1000000))) (let e : 1 + x ≡ suc x = omega arith in e)

-- a field on the grid is that of so many units
pub units_of_lem : (bits : ℕ) → bits < 4294967296 → on_grid_bits unit bits ≡ true → (nat_abs (Grid.units_of unit (of_bits binary32 bits)) ≤ weight_limit) × (bits_of unit (fin (Grid.units_of unit (of_bits binary32 bits))) ≡ bits)
units_of_lem bits h e =
    let g = (grid_bits-means unit (omega arith) weight_limit (omega arith) bits h).0 e in
    let k = g.0 in
    let few : nat_abs k ≤ sum_limit = omega (arith, g.1) in
    let units : Grid.units_of unit (of_bits binary32 bits) ≡ k =
    ap (λ (b : ℕ). Grid.units_of unit (of_bits binary32 b)) (sym g.2) ∙ ap (Grid.units_of unit) (bits_back unit (omega arith) (fin k)) ∙ units_of-of_k unit (omega arith) k few in
    (subst (λ (z : ℤ). nat_abs z ≤ weight_limit) (sym units) g.1, ap (λ (z : ℤ). bits_of unit (fin z)) units ∙ g.2)

field_back : (bits : ℕ) → bits < 4294967296 → weight_fits unit bits ≡ true → field_of (weight_for bits) ≡ bits
unfolding millionths
field_back bits h e = go (eqb bits barred_bits) refl e
  where
    go : (b : Bool) → eqb bits barred_bits ≡ b → b || on_grid_bits unit bits ≡ true → field_of (cond b barred (finite (millionths bits))) ≡ bits
    go true q e = bits-inf unit ∙ sym (eqb-true bits barred_bits q)
    go false q e = ap (λ (z : ℤ). bits_of unit (fin z)) (units-back (Grid.units_of unit (of_bits binary32 bits))) ∙ (units_of_lem bits h e).1

on-grid : (k : ℤ) → nat_abs k ≤ weight_limit → on_grid (in_millionths k) ≡ true
on-grid (pos k) h = λ i. eq-eqb (15625 * k * 64 % 1000000) 0 (omega arith) i && le-leb (15625 * k * 64 / 1000000) weight_limit (omega arith) i
on-grid (negsuc k) h =
    (λ i. eqb (nat_abs-neg (15625 * suc k) i * 64 % 1000000) 0 && leb (nat_abs-neg (15625 * suc k) i * 64 / 1000000) weight_limit)
    ∙ λ i. eq-eqb (15625 * suc k * 64 % 1000000) 0 (omega arith) i && le-leb (15625 * suc k * 64 / 1000000) weight_limit (omega arith) i

weight-passes : (bits : ℕ) → bits < 4294967296 → weight_fits unit bits ≡ true → weight_passes (weight_for bits) ≡ true
unfolding millionths
weight-passes bits h e = go (eqb bits barred_bits) e
  where
    go : (b : Bool) → b || on_grid_bits unit bits ≡ true → weight_passes (cond b barred (finite (millionths bits))) ≡ true
    go true e = refl
    go false e = on-grid (Grid.units_of unit (of_bits binary32 bits)) (units_of_lem bits h e).0

weights-append : (xs ys : List Row) → weights_pass xs ≡ true → weights_pass ys ≡ true → weights_pass (xs ++ ys) ≡ true
unfolding weights_pass
weights-append [] ys h k = k
weights-append (x ∷ xs) ys h k = let r = both (weight_passes (weight_in x)) (weights_pass xs) h in λ i. r.0 i && weights-append xs ys r.1 k i

-- ---- rows collected by node
module _ (F : Row → List ℕ) where
  pub flat-both : (xs ys : List Row) → flat_map F (xs ++ ys) ≡ flat_map F xs ++ flat_map F ys
  unfolding flat_map
  flat-both [] ys = refl
  flat-both (x ∷ xs) ys = ap (λ (l : List ℕ). F x ++ l) (flat-both xs ys) ∙ sym (append_assoc (F x) (flat_map F xs) (flat_map F ys))

  only_none : (n : ℕ) (g : ℕ → List Row) → ((u : ℕ) → u < n → flat_map F (g u) ≡ []) → flat_map F (flat_map g (list_below n (λ u. u))) ≡ []
  unfolding list_below flat_map
  only_none zero g h = refl
  only_none (suc n) g h =
      ap (flat_map F) (flat-snoc g (list_below n (λ u. u)) n) ∙ flat-both (flat_map g (list_below n (λ u. u))) (g n)
      ∙ λ i. only_none n g (λ u b. h u (omega arith)) i ++ h n (omega arith) i

  only_one : (n : ℕ) (g : ℕ → List Row) (v : ℕ) → ((u : ℕ) → u < n → (u ≡ v → ⊥) → flat_map F (g u) ≡ []) → v < n → flat_map F (flat_map g (list_below n (λ u. u))) ≡ flat_map F (g v)
  unfolding list_below
  only_one zero g v h b = absurd (omega arith)
  only_one (suc n) g v h b =
      ap (flat_map F) (flat-snoc g (list_below n (λ u. u)) n) ∙ flat-both (flat_map g (list_below n (λ u. u))) (g n)
      ∙ go (ℕ_discrete v n) (only_one n g v (λ u b. h u (omega arith)))
    where
      go : Dec (v ≡ n) → (v < n → flat_map F (flat_map g (list_below n (λ u. u))) ≡ flat_map F (g v)) → flat_map F (flat_map g (list_below n (λ u. u))) ++ flat_map F (g n) ≡ flat_map F (g v)
      go (yes e) later = ap (λ (l : List ℕ). l ++ flat_map F (g n)) (only_none n g (λ u b. h u (omega arith) (λ q. omega (arith, q, e)))) ∙ ap (λ (u : ℕ). flat_map F (g u)) (sym e)
      go (no e) later = (λ i. later (omega (arith, e)) i ++ h n (omega arith) (λ q. e (sym q)) i) ∙ append-nil (flat_map F (g v))

-- a node's mark and final weight's field, of one row
abbrev pub final_from : ℕ → Row → List ℕ
final_from v (link s t i o w) = []
final_from v (final u w) = cond (eqb u v) (1 ∷ field_of w ∷ []) []

pub finals-flat : (v : ℕ) (rs : List Row) → mark_fields v rs ≡ take 2 (flat_map (final_from v) rs ++ (0 ∷ 0 ∷ []))
unfolding mark_fields flat_map
finals-flat v [] = refl
finals-flat v (link s t i o w ∷ rs) = finals-flat v rs
finals-flat v (final u w ∷ rs) = go (eqb u v) (finals-flat v rs)
  where
    go : (b : Bool) → mark_fields v rs ≡ take 2 (flat_map (final_from v) rs ++ (0 ∷ 0 ∷ []))
        → cond b (1 ∷ field_of w ∷ []) (mark_fields v rs) ≡ take 2 (cond b (1 ∷ field_of w ∷ []) [] ++ flat_map (final_from v) rs ++ (0 ∷ 0 ∷ []))
    go true e = refl
    go false e = e

-- no node has two final rows
no-final : (v : ℕ) (rs : List Row) → length (flat_map (final_from v) rs) ≡ 0 → any_final v rs ≡ false
unfolding any_final flat_map
no-final v [] e = refl
no-final v (link s t i o w ∷ rs) e = no-final v rs e
no-final v (final u w ∷ rs) e = go (eqb u v) e (no-final v rs)
  where
    go : (b : Bool) → length (cond b (1 ∷ field_of w ∷ []) [] ++ flat_map (final_from v) rs) ≡ 0 → (length (flat_map (final_from v) rs) ≡ 0 → any_final v rs ≡ false) → b || any_final v rs ≡ false
    go true e later = absurd (omega arith)
    go false e later = later e

pub once-by-node : (rs : List Row) → ((v : ℕ) → length (flat_map (final_from v) rs) ≤ 2) → finals_once rs ≡ true
unfolding finals_once flat_map
once-by-node [] h = refl
once-by-node (link s t i o w ∷ rs) h = once-by-node rs h
once-by-node (final u w ∷ rs) h = λ i. not (no-final u rs none i) && once-by-node rs fewer i
  where
    none : length (flat_map (final_from u) rs) ≡ 0
    none = at (eqb u u) (eq-eqb u u refl) (h u)
      where
        at : (b : Bool) → b ≡ true → length (cond b (1 ∷ field_of w ∷ []) [] ++ flat_map (final_from u) rs) ≤ 2 → length (flat_map (final_from u) rs) ≡ 0
        at true q l = omega arith
        at false q l = absurd (false≢true q)

    fewer : (v : ℕ) → length (flat_map (final_from v) rs) ≤ 2
    fewer v = at (eqb u v) (h v)
      where
        at : (b : Bool) → length (cond b (1 ∷ field_of w ∷ []) [] ++ flat_map (final_from v) rs) ≤ 2 → length (flat_map (final_from v) rs) ≤ 2
        at true l = omega arith
        at false l = l

-- ---- rows of one node
abbrev pub Owned : ℕ → List Row → Type 0
Owned s [] = Unit {0}
Owned s (link u t i o w ∷ rs) = (u ≡ s) × Owned s rs
Owned s (final u w ∷ rs) = (u ≡ s) × Owned s rs

owned-append : (s : ℕ) (xs ys : List Row) → Owned s xs → Owned s ys → Owned s (xs ++ ys)
owned-append s [] ys h k = k
owned-append s (link u t i o w ∷ xs) ys h k = (h.0, owned-append s xs ys h.1 k)
owned-append s (final u w ∷ xs) ys h k = (h.0, owned-append s xs ys h.1 k)

owned-links : (s v : ℕ) (rs : List Row) → Owned s rs → (s ≡ v → ⊥) → flat_map (link_from v) rs ≡ []
unfolding flat_map
owned-links s v [] h q = refl
owned-links s v (link u t i o w ∷ rs) h q = (λ j. cond (ne_eqb u v (λ e. q (sym h.0 ∙ e)) j) (i ∷ o ∷ field_of w ∷ t ∷ []) [] ++ flat_map (link_from v) rs) ∙ owned-links s v rs h.1 q
owned-links s v (final u w ∷ rs) h q = owned-links s v rs h.1 q

owned-finals : (s v : ℕ) (rs : List Row) → Owned s rs → (s ≡ v → ⊥) → flat_map (final_from v) rs ≡ []
unfolding flat_map
owned-finals s v [] h q = refl
owned-finals s v (link u t i o w ∷ rs) h q = owned-finals s v rs h.1 q
owned-finals s v (final u w ∷ rs) h q = (λ j. cond (ne_eqb u v (λ e. q (sym h.0 ∙ e)) j) (1 ∷ field_of w ∷ []) [] ++ flat_map (final_from v) rs) ∙ owned-finals s v rs h.1 q

first-owned : (s : ℕ) (xs ys : List Row) → Owned s xs → 1 ≤ length xs → first_node (xs ++ ys) ≡ s
first-owned s [] ys h l = absurd (omega arith)
first-owned s (link u t i o w ∷ xs) ys h l = h.0
first-owned s (final u w ∷ xs) ys h l = h.0

named-append : (n : ℕ) (xs ys : List Row) → Named n xs → Named n ys → Named n (xs ++ ys)
named-append n [] ys h k = k
named-append n (link s t i o w ∷ xs) ys h k = (h.0, h.1, named-append n xs ys h.2 k)
named-append n (final v w ∷ xs) ys h k = (h.0, named-append n xs ys h.1 k)

highest-under : (n : ℕ) (rs : List Row) → 0 < n → Named n rs → highest rs < n
unfolding highest
highest-under n [] z h = z
highest-under n (link s t i o w ∷ rs) z h = omega (arith, h.0, h.1, highest-under n rs z h.2)
highest-under n (final v w ∷ rs) z h = omega (arith, h.0, highest-under n rs z h.1)

-- a node with a link or a final row is named
named-links : (n : ℕ) (rs : List Row) → Named n rs → flat_map (link_from n) rs ≡ []
unfolding flat_map
named-links n [] h = refl
named-links n (link s t i o w ∷ rs) h = (λ j. cond (ne_eqb s n (λ e. omega (arith, e, h.0)) j) (i ∷ o ∷ field_of w ∷ t ∷ []) [] ++ flat_map (link_from n) rs) ∙ named-links n rs h.2
named-links n (final v w ∷ rs) h = named-links n rs h.1

named-finals : (n : ℕ) (rs : List Row) → Named n rs → flat_map (final_from n) rs ≡ []
unfolding flat_map
named-finals n [] h = refl
named-finals n (link s t i o w ∷ rs) h = named-finals n rs h.2
named-finals n (final v w ∷ rs) h = (λ j. cond (ne_eqb v n (λ e. omega (arith, e, h.0)) j) (1 ∷ field_of w ∷ []) [] ++ flat_map (final_from n) rs) ∙ named-finals n rs h.1

-- ---- the rows of parts that fit
module _ (p : Parts) (four : length p.links ≡ 4 * link_count p) (three : length p.nodes ≡ 3 * node_count p)
    (links-below : (i : ℕ) → get_or p.links i 0 < 4294967296) (nodes-below : (i : ℕ) → get_or p.nodes i 0 < 4294967296)
    (nodes-fit : nodes_fit p ≡ true) (nexts-fit : nexts_fit p ≡ true) (short : p.form ≡ Form.Short) (weights-fit : weights_fit p ≡ true) (start-in : p.start < node_count p) where
  abbrev N : ℕ
  N = node_count p

  abbrev T : ℕ
  T = link_count p

  -- what the tests say
  sum_is : sum_below N (count p) ≡ T
  sum_is = counts-sum p nodes-fit

  well : (v : ℕ) → v < N → well_marked (mark p v) (final_bits p v) ≡ true
  unfolding nodes_fit
  well v h = all_below-at N (λ v. well_marked (mark p v) (final_bits p v)) (both (all_below N (λ v. well_marked (mark p v) (final_bits p v))) (eqb (sum_below N (count p)) T) nodes-fit).0 v h

  next-in : (l : ℕ) → l < T → next p l < N
  unfolding nexts_fit
  next-in l h = ltb-true (next p l) N (all_below-at T (λ l. ltb (next p l) N) nexts-fit l h)

  pub in-T : (v : ℕ) → v < N → first_of p v + count p v ≤ T
  in-T v h = omega (arith, sum_to (count p) v N h, sum_is)

  -- a node's rows are its own
  owned-some : (v c : ℕ) → Owned v (flat_map (λ i. link_row_for p v (first_of p v + i) ∷ []) (list_below c (λ i. i)))
  unfolding list_below flat_map
  owned-some v zero = tt
  owned-some v (suc c) =
      subst (Owned v) (sym (flat-snoc (λ i. link_row_for p v (first_of p v + i) ∷ []) (list_below c (λ i. i)) c))
      (owned-append v (flat_map (λ i. link_row_for p v (first_of p v + i) ∷ []) (list_below c (λ i. i))) (link_row_for p v (first_of p v + c) ∷ []) (owned-some v c) (refl, tt))

  owned-final : (v : ℕ) → Owned v (final_row_for p v)
  owned-final v = go (eqb (mark p v) 0)
    where
      go : (b : Bool) → Owned v (cond b [] (final v (weight_for (final_bits p v)) ∷ []))
      go true = tt
      go false = (refl, tt)

  pub owned : (v : ℕ) → Owned v (node_rows_for p v)
  unfolding node_rows_for
  owned v = owned-append v (flat_map (λ i. link_row_for p v (first_of p v + i) ∷ []) (list_below (count p v) (λ i. i))) (final_row_for p v) (owned-some v (count p v)) (owned-final v)

  -- what is collected of v's rows comes from v alone
  module _ (F : Row → List ℕ) (v : ℕ) (others : (u : ℕ) → (u ≡ v → ⊥) → flat_map F (node_rows_for p u) ≡ []) where
    skipped : (u : ℕ) → (u ≡ p.start → ⊥) → flat_map F (cond (eqb u p.start) [] (node_rows_for p u)) ≡ flat_map F (node_rows_for p u)
    skipped u q = ap (λ (b : Bool). flat_map F (cond b [] (node_rows_for p u))) (ne_eqb u p.start q)

    not-v : (u : ℕ) → (u ≡ v → ⊥) → flat_map F (cond (eqb u p.start) [] (node_rows_for p u)) ≡ []
    not-v u q = go (eqb u p.start) (others u q)
      where
        go : (b : Bool) → flat_map F (node_rows_for p u) ≡ [] → flat_map F (cond b [] (node_rows_for p u)) ≡ []
        go true e = unfold flat_map in refl
        go false e = e

    pub from-v : v < N → flat_map F (rows_for p) ≡ flat_map F (node_rows_for p v)
    unfolding rows_for
    from-v h = flat-both F (node_rows_for p p.start) (flat_map (λ u. cond (eqb u p.start) [] (node_rows_for p u)) (list_below N (λ u. u))) ∙ go (ℕ_discrete v p.start)
      where
        go : Dec (v ≡ p.start) → flat_map F (node_rows_for p p.start) ++ flat_map F (flat_map (λ u. cond (eqb u p.start) [] (node_rows_for p u)) (list_below N (λ u. u))) ≡ flat_map F (node_rows_for p v)
        go (yes e) =
            (λ i. flat_map F (node_rows_for p (sym e i)) ++ only_none F N (λ u. cond (eqb u p.start) [] (node_rows_for p u)) (λ u b. each u (ℕ_discrete u v)) i)
            ∙ append-nil (flat_map F (node_rows_for p v))
          where
            each : (u : ℕ) → Dec (u ≡ v) → flat_map F (cond (eqb u p.start) [] (node_rows_for p u)) ≡ []
            each u (yes q) = ap (λ (b : Bool). flat_map F (cond b [] (node_rows_for p u))) (eq-eqb u p.start (q ∙ e)) ∙ unfold flat_map in refl
            each u (no q) = not-v u q
        go (no e) =
            (λ i. others p.start (λ q. e (sym q)) i ++ only_one F N (λ u. cond (eqb u p.start) [] (node_rows_for p u)) v (λ u b q. not-v u q) h i)
            ∙ skipped v e

    pub from-none : N ≤ v → flat_map F (rows_for p) ≡ []
    unfolding rows_for
    from-none h =
        flat-both F (node_rows_for p p.start) (flat_map (λ u. cond (eqb u p.start) [] (node_rows_for p u)) (list_below N (λ u. u)))
        ∙ λ i. others p.start (λ q. omega (arith, q)) i ++ only_none F N (λ u. cond (eqb u p.start) [] (node_rows_for p u)) (λ u b. not-v u (λ q. omega (arith, q))) i

  -- ---- a node's links
  link-fields : (l : ℕ) → l < T → ilabel p l ∷ olabel p l ∷ field_of (weight_for (link_bits p l)) ∷ next p l ∷ [] ≡ take 4 (drop (4 * l) p.links)
  link-fields l h =
      let ls = p.links in
      let k = 4 * l in
      let one : 4 * l + 1 ≡ suc k = omega arith in
      let two : 4 * l + 2 ≡ suc (suc k) = omega arith in
      let more : 4 * l + 3 ≡ suc (suc (suc k)) = omega arith in
      (λ i. get_or ls k 0 ∷ get_or ls (one i) 0 ∷ (field_back (link_bits p l) (links-below (4 * l + 2)) (link_on p short weights-fit l h) ∙ ap (λ (x : ℕ). get_or ls x 0) two) i ∷ get_or ls (more i) 0 ∷ [])
      ∙ sym (ap (take 4) (drop-cons ls k 0 (omega (arith, four)) ∙ ap (λ (r : List ℕ). get_or ls k 0 ∷ r) (drop-cons ls (suc k) 0 (omega (arith, four))
      ∙ ap (λ (r : List ℕ). get_or ls (suc k) 0 ∷ r) (drop-cons ls (suc (suc k)) 0 (omega (arith, four))
      ∙ ap (λ (r : List ℕ). get_or ls (suc (suc k)) 0 ∷ r) (drop-cons ls (suc (suc (suc k))) 0 (omega (arith, four)))))))

  one_link : (v l : ℕ) → l < T → flat_map (link_from v) (link_row_for p v l ∷ []) ≡ take 4 (drop (4 * l) p.links)
  unfolding flat_map
  one_link v l h =
      ap (λ (b : Bool). cond b (ilabel p l ∷ olabel p l ∷ field_of (weight_for (link_bits p l)) ∷ next p l ∷ []) [] ++ []) (eq-eqb v v refl) ∙ link-fields l h

  some-links : (v c : ℕ) → first_of p v + c ≤ T → flat_map (link_from v) (flat_map (λ i. link_row_for p v (first_of p v + i) ∷ []) (list_below c (λ i. i))) ≡ take (4 * c) (drop (4 * first_of p v) p.links)
  unfolding list_below flat_map
  some-links v zero h = refl
  some-links v (suc c) h =
      let f = first_of p v in
      let X = drop (4 * f) p.links in
      let at : 4 * (f + c) ≡ 4 * f + 4 * c = omega arith in
      ap (flat_map (link_from v)) (flat-snoc (λ i. link_row_for p v (first_of p v + i) ∷ []) (list_below c (λ i. i)) c)
      ∙ flat-both (link_from v) (flat_map (λ i. link_row_for p v (first_of p v + i) ∷ []) (list_below c (λ i. i))) (link_row_for p v (first_of p v + c) ∷ [])
      ∙ (λ i. some-links v c (omega arith) i ++ one_link v (f + c) (omega arith) i)
      ∙ ap (λ (k : ℕ). take (4 * c) X ++ take 4 (drop k p.links)) at
      ∙ ap (λ (l : List ℕ). take (4 * c) X ++ take 4 l) (sym (drop-drop (4 * c) (4 * f) p.links))
      ∙ sym (take-add (4 * c) 4 X)
      ∙ ap (λ (k : ℕ). take k X) (let e : 4 * c + 4 ≡ 4 * suc c = omega arith in e)

  no-links : (v : ℕ) → flat_map (link_from v) (final_row_for p v) ≡ []
  unfolding flat_map
  no-links v = go (eqb (mark p v) 0)
    where
      go : (b : Bool) → flat_map (link_from v) (cond b [] (final v (weight_for (final_bits p v)) ∷ [])) ≡ []
      go true = refl
      go false = refl

  abbrev rows : List Row
  rows = rows_for p

  pub links-of : (v : ℕ) → v < N → flat_map (link_from v) rows ≡ take (4 * count p v) (drop (4 * first_of p v) p.links)
  unfolding node_rows_for
  links-of v h =
      from-v (link_from v) v (λ u q. owned-links u v (node_rows_for p u) (owned u) q) h
      ∙ flat-both (link_from v) (flat_map (λ i. link_row_for p v (first_of p v + i) ∷ []) (list_below (count p v) (λ i. i))) (final_row_for p v)
      ∙ (λ i. some-links v (count p v) (in-T v h) i ++ no-links v i)
      ∙ append-nil (take (4 * count p v) (drop (4 * first_of p v) p.links))

  pub count_of : (v : ℕ) → v < N → count_from v rows ≡ count p v
  count_of v h =
      let long : length (take (4 * count p v) (drop (4 * first_of p v) p.links)) ≡ 4 * count p v = length-take-le (4 * count p v) (drop (4 * first_of p v) p.links) (omega (arith, length-drop (4 * first_of p v) p.links, four, in-T v h)) in
      omega (arith, long, length-links v rows, ap length (links-of v h))

  pub links-whole : segments N (λ v. flat_map (link_from v) rows) ≡ p.links
  links-whole =
      same-segments N (λ v. flat_map (link_from v) rows) (λ v. take (4 * count p v) (drop (4 * sum_below v (count p)) p.links)) links-of
      ∙ in_pieces (count p) p.links N ∙ take_all (4 * sum_below N (count p)) p.links (omega (arith, four, sum_is))

  -- ---- its final row
  no-finals : (v c : ℕ) → flat_map (final_from v) (flat_map (λ i. link_row_for p v (first_of p v + i) ∷ []) (list_below c (λ i. i))) ≡ []
  unfolding flat_map
  no-finals v c = only_none (final_from v) c (λ i. link_row_for p v (first_of p v + i) ∷ []) (λ u h. refl)

  finals-of : (v : ℕ) → v < N → flat_map (final_from v) rows ≡ cond (eqb (mark p v) 0) [] (1 ∷ field_of (weight_for (final_bits p v)) ∷ [])
  unfolding node_rows_for
  finals-of v h =
      from-v (final_from v) v (λ u q. owned-finals u v (node_rows_for p u) (owned u) q) h
      ∙ flat-both (final_from v) (flat_map (λ i. link_row_for p v (first_of p v + i) ∷ []) (list_below (count p v) (λ i. i))) (final_row_for p v)
      ∙ (λ i. no-finals v (count p v) i ++ at (eqb (mark p v) 0) i)
    where
      at : (b : Bool) → flat_map (final_from v) (cond b [] (final v (weight_for (final_bits p v)) ∷ [])) ≡ cond b [] (1 ∷ field_of (weight_for (final_bits p v)) ∷ [])
      at true = unfold flat_map in refl
      at false = unfold flat_map in ap (λ (b : Bool). cond b (1 ∷ field_of (weight_for (final_bits p v)) ∷ []) [] ++ []) (eq-eqb v v refl)

  -- an absent mark has no weight, and a mark is 1
  unmarked : (v : ℕ) → v < N → eqb (mark p v) 0 ≡ true → final_bits p v ≡ 0
  unmarked v h e = go (or-either (eqb (mark p v) 1) (eqb (mark p v) 0 && eqb (final_bits p v) 0) (well v h))
    where
      go : (eqb (mark p v) 1 ≡ true) ⊎ (eqb (mark p v) 0 && eqb (final_bits p v) 0 ≡ true) → final_bits p v ≡ 0
      go (inl q) = absurd (omega (arith, eqb-true (mark p v) 1 q, eqb-true (mark p v) 0 e))
      go (inr q) = eqb-true (final_bits p v) 0 (both (eqb (mark p v) 0) (eqb (final_bits p v) 0) q).1

  marked : (v : ℕ) → v < N → eqb (mark p v) 0 ≡ false → mark p v ≡ 1
  marked v h e = go (or-either (eqb (mark p v) 1) (eqb (mark p v) 0 && eqb (final_bits p v) 0) (well v h))
    where
      go : (eqb (mark p v) 1 ≡ true) ⊎ (eqb (mark p v) 0 && eqb (final_bits p v) 0 ≡ true) → mark p v ≡ 1
      go (inl q) = eqb-true (mark p v) 1 q
      go (inr q) = absurd (eqb-false (mark p v) 0 e (eqb-true (mark p v) 0 (both (eqb (mark p v) 0) (eqb (final_bits p v) 0) q).0))

  pub fields-of : (v : ℕ) → v < N → mark_fields v rows ≡ mark p v ∷ final_bits p v ∷ []
  fields-of v h = finals-flat v rows ∙ ap (λ (l : List ℕ). take 2 (l ++ (0 ∷ 0 ∷ []))) (finals-of v h) ∙ go (eqb (mark p v) 0) refl
    where
      go : (b : Bool) → eqb (mark p v) 0 ≡ b → take 2 (cond b [] (1 ∷ field_of (weight_for (final_bits p v)) ∷ []) ++ (0 ∷ 0 ∷ [])) ≡ mark p v ∷ final_bits p v ∷ []
      go true e = λ i. sym (eqb-true (mark p v) 0 e) i ∷ sym (unmarked v h e) i ∷ []
      go false e = λ i. sym (marked v h e) i ∷ field_back (final_bits p v) (nodes-below (3 * v + 2)) on i ∷ []
        where
          on : weight_fits unit (final_bits p v) ≡ true
          on = sym (ap (λ (b : Bool). b || weight_fits unit (final_bits p v)) e) ∙ final-on p short weights-fit v h

  pub nodes-whole : segments N (λ v. count_from v rows ∷ mark_fields v rows) ≡ p.nodes
  nodes-whole = sym (by-threes (λ v. count_from v rows ∷ mark_fields v rows) (λ v. ap suc (finals-two v rows)) N p.nodes three each)
    where
      each : (v i : ℕ) → v < N → i < 3 → get_or p.nodes (3 * v + i) 0 ≡ get_or (count_from v rows ∷ mark_fields v rows) i 0
      each v zero h b = ap (λ (k : ℕ). get_or p.nodes k 0) (let e : 3 * v + 0 ≡ 3 * v = omega arith in e) ∙ sym (count_of v h)
      each v (suc zero) h b = sym (ap (λ (l : List ℕ). get_or l 0 0) (fields-of v h))
      each v (suc (suc zero)) h b = sym (ap (λ (l : List ℕ). get_or l 1 0) (fields-of v h))
      each v (suc (suc (suc i))) h b = absurd (omega arith)

  pub rows-once : finals_once rows ≡ true
  rows-once = once-by-node rows (λ v. go v (ℕ_discrete (N - v) 0))
    where
      at : (v : ℕ) (b : Bool) → length (cond b [] (1 ∷ field_of (weight_for (final_bits p v)) ∷ [])) ≤ 2
      at v true = omega arith
      at v false = omega arith

      go : (v : ℕ) → Dec (N - v ≡ 0) → length (flat_map (final_from v) rows) ≤ 2
      go v (yes e) = subst (λ (l : List ℕ). length l ≤ 2) (sym (from-none (final_from v) v (λ u q. owned-finals u v (node_rows_for p u) (owned u) q) (omega arith))) (omega arith)
      go v (no e) = subst (λ (l : List ℕ). length l ≤ 2) (sym (finals-of v (omega (arith, e)))) (at v (eqb (mark p v) 0))

  -- ---- every node named is below N
  named_some : (v c : ℕ) → v < N → first_of p v + c ≤ T → Named N (flat_map (λ i. link_row_for p v (first_of p v + i) ∷ []) (list_below c (λ i. i)))
  unfolding list_below flat_map
  named_some v zero b h = tt
  named_some v (suc c) b h =
      subst (Named N) (sym (flat-snoc (λ i. link_row_for p v (first_of p v + i) ∷ []) (list_below c (λ i. i)) c))
      (named-append N (flat_map (λ i. link_row_for p v (first_of p v + i) ∷ []) (list_below c (λ i. i))) (link_row_for p v (first_of p v + c) ∷ []) (named_some v c b (omega arith)) (b, next-in (first_of p v + c) (omega arith), tt))

  named-node : (v : ℕ) → v < N → Named N (node_rows_for p v)
  unfolding node_rows_for
  named-node v h = named-append N (flat_map (λ i. link_row_for p v (first_of p v + i) ∷ []) (list_below (count p v) (λ i. i))) (final_row_for p v) (named_some v (count p v) h (in-T v h)) (go (eqb (mark p v) 0))
    where
      go : (b : Bool) → Named N (cond b [] (final v (weight_for (final_bits p v)) ∷ []))
      go true = tt
      go false = (h, tt)

  named-all : (n : ℕ) (g : ℕ → List Row) → ((u : ℕ) → u < n → Named N (g u)) → Named N (flat_map g (list_below n (λ u. u)))
  unfolding list_below flat_map
  named-all zero g h = tt
  named-all (suc n) g h =
      subst (Named N) (sym (flat-snoc g (list_below n (λ u. u)) n)) (named-append N (flat_map g (list_below n (λ u. u))) (g n) (named-all n g (λ u b. h u (omega arith))) (h n (omega arith)))

  named-rows : Named N rows
  unfolding rows_for
  named-rows =
      named-append N (node_rows_for p p.start) (flat_map (λ u. cond (eqb u p.start) [] (node_rows_for p u)) (list_below N (λ u. u))) (named-node p.start start-in)
      (named-all N (λ u. cond (eqb u p.start) [] (node_rows_for p u)) (λ u h. go u (eqb u p.start) (named-node u h)))
    where
      go : (u : ℕ) (b : Bool) → Named N (node_rows_for p u) → Named N (cond b [] (node_rows_for p u))
      go u true h = tt
      go u false h = h

  -- ---- the first and the last node
  length_some : (v c : ℕ) → length (flat_map (λ i. link_row_for p v (first_of p v + i) ∷ []) (list_below c (λ i. i))) ≡ c
  unfolding list_below flat_map
  length_some v zero = refl
  length_some v (suc c) =
      ap length (flat-snoc (λ i. link_row_for p v (first_of p v + i) ∷ []) (list_below c (λ i. i)) c)
      ∙ length-append (flat_map (λ i. link_row_for p v (first_of p v + i) ∷ []) (list_below c (λ i. i))) (link_row_for p v (first_of p v + c) ∷ [])
      ∙ omega (arith, length_some v c)

  has-own : (v : ℕ) → has_own p v ≡ true → (1 ≤ count p v) ⊎ (mark p v ≡ 1)
  has-own v e = go (or-either (not (eqb (count p v) 0)) (eqb (mark p v) 1) e)
    where
      go : (not (eqb (count p v) 0) ≡ true) ⊎ (eqb (mark p v) 1 ≡ true) → (1 ≤ count p v) ⊎ (mark p v ≡ 1)
      go (inl q) = inl (let z : count p v ≡ 0 → ⊥ = eqb-false (count p v) 0 (not-true (eqb (count p v) 0) q) in omega (arith, z))
      go (inr q) = inr (eqb-true (mark p v) 1 q)

  pub own-rows : has_own p p.start ≡ true → 1 ≤ length (node_rows_for p p.start)
  unfolding node_rows_for
  own-rows e = some (has-own p.start e)
    where
      some : (1 ≤ count p p.start) ⊎ (mark p p.start ≡ 1) → 1 ≤ length (node_rows_for p p.start)
      some (inl q) =
          omega (arith, length-append (flat_map (λ i. link_row_for p p.start (first_of p p.start + i) ∷ []) (list_below (count p p.start) (λ i. i))) (final_row_for p p.start), length_some p.start (count p p.start))
      some (inr q) =
          let one : length (final_row_for p p.start) ≡ 1 = ap {B = ℕ} (λ (k : ℕ). length (cond (eqb k 0) [] (final p.start (weight_for (final_bits p p.start)) ∷ []))) q in
          omega (arith, length-append (flat_map (λ i. link_row_for p p.start (first_of p p.start + i) ∷ []) (list_below (count p p.start) (λ i. i))) (final_row_for p p.start), one)

  first-is : has_own p p.start ≡ true → first_node rows ≡ p.start
  unfolding rows_for
  first-is e =
      first-owned p.start (node_rows_for p p.start) (flat_map (λ u. cond (eqb u p.start) [] (node_rows_for p u)) (list_below N (λ u. u))) (owned p.start) (own-rows e)

  -- if no row names the last node, it has no link, no mark, and no link to it
  last-named : has_own p (N - 1) || is_led p (N - 1) ≡ true → Named (N - 1) rows → ⊥
  unfolding is_led
  last-named e m = go (or-either (has_own p (N - 1)) (is_led p (N - 1)) e)
    where
      in-N : N - 1 < N
      in-N = omega (arith, start-in)

      own : (1 ≤ count p (N - 1)) ⊎ (mark p (N - 1) ≡ 1) → ⊥
      own (inl q) = omega (arith, count_of (N - 1) in-N, length-links (N - 1) rows, ap length (named-links (N - 1) rows m))
      own (inr q) =
          let f : mark_fields (N - 1) rows ≡ 0 ∷ 0 ∷ [] = finals-flat (N - 1) rows ∙ ap (λ (l : List ℕ). take 2 (l ++ (0 ∷ 0 ∷ []))) (named-finals (N - 1) rows m) in
          let z : 0 ≡ mark p (N - 1) = ap (λ (l : List ℕ). get_or l 0 0) (sym f ∙ fields-of (N - 1) in-N) in
          omega (arith, z, q)

      lower : (l : ℕ) → l < T → next p l < N - 1
      lower l h =
          fours-at (λ c d. d < N - 1) p.links (subst (Fours (λ c d. d < N - 1)) links-whole (fours-segments (λ c d. d < N - 1) N (λ v. flat_map (link_from v) rows) (λ v. fours-rows (λ c d. d < N - 1) v rows (each_next (N - 1) rows m)))) l (omega (arith, four))

      led : is_led p (N - 1) ≡ true → ⊥
      led q =
          let all : all_below T (λ l. not (eqb (next p l) (N - 1))) ≡ true = all_below-of T (λ l. not (eqb (next p l) (N - 1))) (λ l h. ap not (ne_eqb (next p l) (N - 1) (λ z. omega (arith, z, lower l h)))) in
          true≢false (sym all ∙ not-true (all_below T (λ l. not (eqb (next p l) (N - 1)))) q)

      go : (has_own p (N - 1) ≡ true) ⊎ (is_led p (N - 1) ≡ true) → ⊥
      go (inl q) = own (has-own (N - 1) q)
      go (inr q) = led q

  nodes-same : has_own p (N - 1) || is_led p (N - 1) ≡ true → nodes_in rows ≡ N
  nodes-same e = go (split_at (highest rows) (N - 1))
    where
      go : (highest rows < N - 1) ⊎ (N - 1 ≤ highest rows) → nodes_in rows ≡ N
      go (inl h) = absurd (last-named e (named-under (N - 1) rows h))
      go (inr h) = omega (arith, highest-under N rows (omega (arith, start-in)) named-rows)

  -- The rows of a sheet that has rows convert to its links, its nodes, its start and its form.
  pub parts_again : has_rows p ≡ true → parts_of_rows rows ≡ p
  unfolding parts_of_rows
  parts_again e =
      let n = nodes-same (last-there p e) in
      λ i. record {
        links = (sym (segments-flat (nodes_in rows) (λ v. flat_map (link_from v) rows)) ∙ ap (λ (k : ℕ). segments k (λ v. flat_map (link_from v) rows)) n ∙ links-whole) i;
        nodes = (sym (segments-flat (nodes_in rows) (λ v. count_from v rows ∷ mark_fields v rows)) ∙ ap (λ (k : ℕ). segments k (λ v. count_from v rows ∷ mark_fields v rows)) n ∙ nodes-whole) i;
        start = first-is (own-start p e) i;
        form = sym short i;
      }

  -- ---- the rows' weights pass
  weights-some : (v c : ℕ) → first_of p v + c ≤ T → weights_pass (flat_map (λ i. link_row_for p v (first_of p v + i) ∷ []) (list_below c (λ i. i))) ≡ true
  unfolding list_below flat_map weights_pass
  weights-some v zero h = refl
  weights-some v (suc c) h =
      ap weights_pass (flat-snoc (λ i. link_row_for p v (first_of p v + i) ∷ []) (list_below c (λ i. i)) c)
      ∙ weights-append (flat_map (λ i. link_row_for p v (first_of p v + i) ∷ []) (list_below c (λ i. i))) (link_row_for p v (first_of p v + c) ∷ []) (weights-some v c (omega arith))
      (λ i. weight-passes (link_bits p (first_of p v + c)) (links-below (4 * (first_of p v + c) + 2)) (link_on p short weights-fit (first_of p v + c) (omega arith)) i && true)

  weights-final : (v : ℕ) → v < N → weights_pass (final_row_for p v) ≡ true
  unfolding weights_pass
  weights-final v h = go (eqb (mark p v) 0) (final-on p short weights-fit v h)
    where
      go : (b : Bool) → b || weight_fits unit (final_bits p v) ≡ true → weights_pass (cond b [] (final v (weight_for (final_bits p v)) ∷ [])) ≡ true
      go true e = refl
      go false e = λ i. weight-passes (final_bits p v) (nodes-below (3 * v + 2)) e i && true

  weights-node : (v : ℕ) → v < N → weights_pass (node_rows_for p v) ≡ true
  unfolding node_rows_for
  weights-node v h = weights-append (flat_map (λ i. link_row_for p v (first_of p v + i) ∷ []) (list_below (count p v) (λ i. i))) (final_row_for p v) (weights-some v (count p v) (in-T v h)) (weights-final v h)

  weights-all : (n : ℕ) (g : ℕ → List Row) → ((u : ℕ) → u < n → weights_pass (g u) ≡ true) → weights_pass (flat_map g (list_below n (λ u. u))) ≡ true
  unfolding list_below flat_map weights_pass
  weights-all zero g h = refl
  weights-all (suc n) g h =
      ap weights_pass (flat-snoc g (list_below n (λ u. u)) n) ∙ weights-append (flat_map g (list_below n (λ u. u))) (g n) (weights-all n g (λ u b. h u (omega arith))) (h n (omega arith))

  pub weights-rows : weights_pass rows ≡ true
  unfolding rows_for weights_pass
  weights-rows =
      weights-append (node_rows_for p p.start) (flat_map (λ u. cond (eqb u p.start) [] (node_rows_for p u)) (list_below N (λ u. u))) (weights-node p.start start-in)
      (weights-all N (λ u. cond (eqb u p.start) [] (node_rows_for p u)) (λ u h. go u (eqb u p.start) (weights-node u h)))
    where
      go : (u : ℕ) (b : Bool) → weights_pass (node_rows_for p u) ≡ true → weights_pass (cond b [] (node_rows_for p u)) ≡ true
      go u true h = refl
      go u false h = h
