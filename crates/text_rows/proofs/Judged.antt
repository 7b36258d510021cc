-- The converter's number is the writer's: marks, counts, the start and the nexts of the rows' parts fit by construction, and weights that bar
-- or are whole numbers of units within the limit have fields that pass. Assumes nothing.
use mathlib.Core.Path.{◌≡◌, refl, sym, ap, ◌∙◌, subst}
use mathlib.Core.Bool.{Bool, true, false, not, ◌&&◌, ◌||◌, cond}
use Rattle.std.proofs.Common.{Option, None, Some}
use mathlib.Core.List.{List, [], ◌∷◌, ◌++◌, flat_map}
use Prim.Native.Nat.{ℕ, zero, suc, ◌+◌, ◌*◌, ◌/◌, ◌%◌, ◌^◌, ◌≤◌, ◌<◌}
use native.Mathlib.Omega.{arith}
use lib.Dec.{ltb, leb, eqb}
use lib.IntN.{ℤ, pos, negsuc, nat_abs, neg_ℤ}
use lib.ListN.{length, get_or}
use borrow.Author.Tests.{eq-eqb, lt-ltb, leb-true}
use Rattle.tropical_weight.specs.Limits.{unit, weight_limit}
use Rattle.tropical_weight.specs.Tropical.{fin}
use lib.Ieee.{round, to_bits, of_bits}
use Rattle.tropical_weight.specs.Grid.{grid_bits, of_k}
use Rattle.tropical_weight.proofs.Grid.{grid_bits-means}
use Rattle.sheet.specs.declared.form.Form.{Form}
use Rattle.sheet.specs.Below.{sum_below, all_below}
use Rattle.sheet.specs.Sheet.{link_length, node_length, Parts, trailer_length, unit_of, unit_fits, link_count, node_count, next, link_bits, count, mark, final_bits, well_marked, barred_bits, on_grid_bits, weight_fits, nodes_fit, start_fits, nexts_fit, weights_fit, verdict, records_fit, sheet_length, write_number}
use Rattle.sheet.proofs.Below.{all_below-of, sum_below-same}
use Rattle.sheet.proofs.Apart.{both, or_left, or_right}
use Rattle.sheet.proofs.Encoding.{bits-lt, bits-inf}
use Rattle.text_rows.specs.Fields.{Weight, finite, barred}
use Rattle.text_rows.specs.Rows.{Row, link, final, first_node, on_grid, units_of, weight_passes, weights_pass, read_rows}
use Rattle.text_rows.specs.Convert.{field_of, link_from, count_from, mark_fields, links_in, nodes_in, parts_of_rows, fields_hold, length_of, number_by, rows_number, or_no_rows}
use Rattle.text_rows.proofs.Segments.{segments, lengths, length-segments, length-links}
use Rattle.text_rows.proofs.Filled.{Named, named, inside, links-by-node, segments-flat, length-threes, get_or-segments, finals-two}

-- ---- words in fours: a test of each third and fourth word
abbrev pub Fours : (ℕ → ℕ → Type 0) → List ℕ → Type 0
Fours P [] = Unit {0}
Fours P (a ∷ []) = ⊥
Fours P (a ∷ b ∷ []) = ⊥
Fours P (a ∷ b ∷ c ∷ []) = ⊥
Fours P (a ∷ b ∷ c ∷ d ∷ ws) = P c d × Fours P ws

-- the same of the links among rows
abbrev pub EachLink : (ℕ → ℕ → Type 0) → List Row → Type 0
EachLink P [] = Unit {0}
EachLink P (link s t i o w ∷ rs) = P (field_of w) t × EachLink P rs
EachLink P (final v w ∷ rs) = EachLink P rs

module _ (P : ℕ → ℕ → Type 0) where
  fours-append : (xs ys : List ℕ) → Fours P xs → Fours P ys → Fours P (xs ++ ys)
  fours-append [] ys h k = k
  fours-append (a ∷ []) ys h k = absurd h
  fours-append (a ∷ b ∷ []) ys h k = absurd h
  fours-append (a ∷ b ∷ c ∷ []) ys h k = absurd h
  fours-append (a ∷ b ∷ c ∷ d ∷ xs) ys h k = (h.0, fours-append xs ys h.1 k)

  pub fours-at : (xs : List ℕ) → Fours P xs → (l : ℕ) → 4 * l + 3 < length xs → P (get_or xs (4 * l + 2) 0) (get_or xs (4 * l + 3) 0)
  fours-at [] h l b = absurd (omega arith)
  fours-at (a ∷ []) h l b = absurd h
  fours-at (a ∷ b ∷ []) h l r = absurd h
  fours-at (a ∷ b ∷ c ∷ []) h l r = absurd h
  fours-at (a ∷ b ∷ c ∷ d ∷ xs) h zero r = h.0
  fours-at (a ∷ b ∷ c ∷ d ∷ xs) h (suc l) r =
      let two : suc (suc (suc (suc (4 * l + 2)))) ≡ 4 * suc l + 2 = omega arith in
      let three : suc (suc (suc (suc (4 * l + 3)))) ≡ 4 * suc l + 3 = omega arith in
      subst (λ (k : ℕ). P (get_or (a ∷ b ∷ c ∷ d ∷ xs) (4 * suc l + 2) 0) (get_or (a ∷ b ∷ c ∷ d ∷ xs) k 0)) three
      (subst (λ (k : ℕ). P (get_or (a ∷ b ∷ c ∷ d ∷ xs) k 0) (get_or xs (4 * l + 3) 0)) two (fours-at xs h.1 l (omega arith)))

  pub fours-segments : (n : ℕ) (f : ℕ → List ℕ) → ((v : ℕ) → Fours P (f v)) → Fours P (segments n f)
  unfolding segments
  fours-segments zero f h = tt
  fours-segments (suc n) f h = fours-append (segments n f) (f n) (fours-segments n f h) (h n)

  pub fours-rows : (v : ℕ) (rs : List Row) → EachLink P rs → Fours P (flat_map (link_from v) rs)
  unfolding flat_map
  fours-rows v [] h = tt
  fours-rows v (link s t i o w ∷ rs) h = go (eqb s v) (fours-rows v rs h.1)
    where
      go : (b : Bool) → Fours P (flat_map (link_from v) rs) → Fours P (cond b (i ∷ o ∷ field_of w ∷ t ∷ []) [] ++ flat_map (link_from v) rs)
      go true k = (h.0, k)
      go false k = k
  fours-rows v (final u w ∷ rs) h = fours-rows v rs h

-- ---- weights
pub nat_abs-neg : (x : ℕ) → nat_abs (neg_ℤ (pos x)) ≡ x
nat_abs-neg zero = refl
nat_abs-neg (suc x) = refl

pub few-units : (w : ℤ) → on_grid w ≡ true → nat_abs (units_of w) ≤ weight_limit
few-units (pos n) e = leb-true (n * 64 / 1000000) weight_limit (both (eqb (n * 64 % 1000000) 0) (leb (n * 64 / 1000000) weight_limit) e).1
few-units (negsuc n) e =
    let m : nat_abs (negsuc n) ≡ 1 + n = omega arith in
    let l : nat_abs (negsuc n) * 64 / 1000000 ≤ weight_limit = leb-true (nat_abs (negsuc n) * 64 / 1000000) weight_limit (both (eqb (nat_abs (negsuc n) * 64 % 1000000) 0) (leb (nat_abs (negsuc n) * 64 / 1000000) weight_limit) e).1 in
    subst (λ (x : ℕ). x ≤ weight_limit) (ap (λ (x : ℕ). x * 64 / 1000000) m ∙ sym (nat_abs-neg ((1 + n) * 64 / 1000000))) l

field_fits : (w : Weight) → weight_passes w ≡ true → weight_fits unit (field_of w) ≡ true
field_fits (finite w) e =
    or_right (eqb (field_of (finite w)) barred_bits) (on_grid_bits unit (field_of (finite w))) ((grid_bits-means unit (omega arith) weight_limit (omega arith) (field_of (finite w)) (bits-lt unit (omega arith) (fin (units_of w)))).1 (units_of w, few-units w e, refl))
field_fits barred e = or_left (eqb (field_of barred) barred_bits) (on_grid_bits unit (field_of barred)) (eq-eqb (field_of barred) barred_bits (bits-inf unit))

pub each_next : (n : ℕ) (rs : List Row) → Named n rs → EachLink (λ c d. d < n) rs
each_next n [] h = tt
each_next n (link s t i o w ∷ rs) h = (h.1, each_next n rs h.2)
each_next n (final v w ∷ rs) h = each_next n rs h.1

each-weight : (rs : List Row) → weights_pass rs ≡ true → EachLink (λ c d. weight_fits unit c ≡ true) rs
unfolding weights_pass
each-weight [] e = tt
each-weight (link s t i o w ∷ rs) e = let h = both (weight_passes w) (weights_pass rs) e in (field_fits w h.0, each-weight rs h.1)
each-weight (final v w ∷ rs) e = each-weight rs (both (weight_passes w) (weights_pass rs) e).1

-- ---- marks
pub well-marked : (v : ℕ) (rs : List Row) → well_marked (get_or (mark_fields v rs) 0 0) (get_or (mark_fields v rs) 1 0) ≡ true
unfolding mark_fields
well-marked v [] = refl
well-marked v (link s t i o w ∷ rs) = well-marked v rs
well-marked v (final u w ∷ rs) = go (eqb u v) (well-marked v rs)
  where
    go : (b : Bool) → well_marked (get_or (mark_fields v rs) 0 0) (get_or (mark_fields v rs) 1 0) ≡ true → well_marked (get_or (cond b (1 ∷ field_of w ∷ []) (mark_fields v rs)) 0 0) (get_or (cond b (1 ∷ field_of w ∷ []) (mark_fields v rs)) 1 0) ≡ true
    go true e = refl
    go false e = e

final-weight : (v : ℕ) (rs : List Row) → weights_pass rs ≡ true → eqb (get_or (mark_fields v rs) 0 0) 0 || weight_fits unit (get_or (mark_fields v rs) 1 0) ≡ true
unfolding mark_fields weights_pass
final-weight v [] e = refl
final-weight v (link s t i o w ∷ rs) e = final-weight v rs (both (weight_passes w) (weights_pass rs) e).1
final-weight v (final u w ∷ rs) e = go (eqb u v) (both (weight_passes w) (weights_pass rs) e) (final-weight v rs)
  where
    go : (b : Bool) → (weight_passes w ≡ true) × (weights_pass rs ≡ true) → (weights_pass rs ≡ true → eqb (get_or (mark_fields v rs) 0 0) 0 || weight_fits unit (get_or (mark_fields v rs) 1 0) ≡ true)
        → eqb (get_or (cond b (1 ∷ field_of w ∷ []) (mark_fields v rs)) 0 0) 0 || weight_fits unit (get_or (cond b (1 ∷ field_of w ∷ []) (mark_fields v rs)) 1 0) ≡ true
    go true h later = field_fits w h.0
    go false h later = later h.1

pub first-named : (n : ℕ) (rs : List Row) → 0 < n → Named n rs → first_node rs < n
first-named n [] z h = z
first-named n (link s t i o w ∷ rs) z h = h.0
first-named n (final v w ∷ rs) z h = h.0

-- ---- the parts of rows
module _ (rs : List Row) where
  abbrev p : Parts
  p = parts_of_rows rs

  abbrev n : ℕ
  n = nodes_in rs

  pub links-are : p.links ≡ segments n (λ v. flat_map (link_from v) rs)
  unfolding parts_of_rows
  links-are = sym (segments-flat n (λ v. flat_map (link_from v) rs))

  pub nodes-are : p.nodes ≡ segments n (λ v. count_from v rs ∷ mark_fields v rs)
  unfolding parts_of_rows
  nodes-are = sym (segments-flat n (λ v. count_from v rs ∷ mark_fields v rs))

  pub start_is : p.start ≡ first_node rs
  unfolding parts_of_rows
  start_is = refl

  pub form-is : p.form ≡ Form.Short
  unfolding parts_of_rows
  form-is = refl

  links-long : (u : ℕ) → lengths (λ v. flat_map (link_from v) rs) u ≡ 4 * sum_below u (λ v. count_from v rs)
  unfolding sum_below
  links-long zero = refl
  links-long (suc u) = omega (arith, links-long u, length-links u rs)

  T-is : links_in rs ≡ sum_below n (λ v. count_from v rs)
  T-is = links-by-node n rs (inside n rs (named rs))

  pub long-links : length p.links ≡ 4 * links_in rs
  long-links = ap length links-are ∙ length-segments n (λ v. flat_map (link_from v) rs) ∙ links-long n ∙ omega (arith, T-is)

  pub long-nodes : length p.nodes ≡ 3 * n
  long-nodes = ap length nodes-are ∙ length-threes (λ v. count_from v rs ∷ mark_fields v rs) (λ v. ap suc (finals-two v rs)) n

  pub link-count : link_count p ≡ links_in rs
  link-count = omega (arith, long-links)

  pub node-count : node_count p ≡ n
  node-count = omega (arith, long-nodes)

  node-field : (v i : ℕ) → v < n → i < 3 → get_or p.nodes (3 * v + i) 0 ≡ get_or (count_from v rs ∷ mark_fields v rs) i 0
  node-field v i h b = ap (λ (l : List ℕ). get_or l (3 * v + i) 0) nodes-are ∙ get_or-segments (λ v. count_from v rs ∷ mark_fields v rs) (λ v. ap suc (finals-two v rs)) n v i h b

  pub count-is : (v : ℕ) → v < n → count p v ≡ count_from v rs
  count-is v h = ap (λ (k : ℕ). get_or p.nodes k 0) (let e : 3 * v ≡ 3 * v + 0 = omega arith in e) ∙ node-field v 0 h (omega arith)

  pub mark-is : (v : ℕ) → v < n → mark p v ≡ get_or (mark_fields v rs) 0 0
  mark-is v h = node-field v 1 h (omega arith)

  pub final_bits-is : (v : ℕ) → v < n → final_bits p v ≡ get_or (mark_fields v rs) 1 0
  final_bits-is v h = node-field v 2 h (omega arith)

  pub records-hold : records_fit p ≡ fields_hold rs
  records-hold =
      λ i. eq-eqb (length p.links % 4) 0 (omega (arith, long-links)) i && eq-eqb (length p.nodes % 3) 0 (omega (arith, long-nodes)) i && ltb (node-count i) (2 ^ 32) && ltb (link_length * link-count i) (2 ^ 32)

  nodes-fit : nodes_fit p ≡ true
  unfolding nodes_fit
  nodes-fit =
      let sum : sum_below (node_count p) (count p) ≡ link_count p =
      ap (λ (k : ℕ). sum_below k (count p)) node-count ∙ sum_below-same n (count p) (λ v. count_from v rs) count-is ∙ sym T-is ∙ sym link-count in
      λ i. all_below-of (node_count p) (λ v. well_marked (mark p v) (final_bits p v)) (λ v h. each v (omega (arith, node-count))) i && eq-eqb _ _ sum i
    where
      each : (v : ℕ) → v < n → well_marked (mark p v) (final_bits p v) ≡ true
      each v h = (λ i. well_marked (mark-is v h i) (final_bits-is v h i)) ∙ well-marked v rs

  start_fits_lem : start_fits (node_count p) p.start ≡ true
  start_fits_lem = ap (λ (b : Bool). b || eqb p.start 0xffff_ffff) (lt-ltb p.start (node_count p) (omega (arith, node-count, start_is, first-named n rs (omega arith) (named rs))))

  fours-of : (P : ℕ → ℕ → Type 0) → EachLink P rs → (l : ℕ) → l < link_count p → P (link_bits p l) (next p l)
  fours-of P h l b =
      fours-at P p.links (subst (Fours P) (sym links-are) (fours-segments P n (λ v. flat_map (link_from v) rs) (λ v. fours-rows P v rs h))) l (omega (arith, long-links))

  nexts-fit : nexts_fit p ≡ true
  unfolding nexts_fit
  nexts-fit = all_below-of (link_count p) (λ l. ltb (next p l) (node_count p)) (λ l h. lt-ltb (next p l) (node_count p) (omega (arith, node-count, fours-of (λ c d. d < n) (each_next n rs (named rs)) l h)))

  weights-fit : weights_pass rs ≡ true → weights_fit p ≡ true
  unfolding weights_fit
  weights-fit e =
      ap (λ (f : Form). all_below (link_count p) (λ l. weight_fits (unit_of f) (link_bits p l)) && all_below (node_count p) (λ v. eqb (mark p v) 0 || weight_fits (unit_of f) (final_bits p v))) form-is
      ∙ λ i. all_below-of (link_count p) (λ l. weight_fits unit (link_bits p l)) (fours-of (λ c d. weight_fits unit c ≡ true) (each-weight rs e)) i
      && all_below-of (node_count p) (λ v. eqb (mark p v) 0 || weight_fits unit (final_bits p v)) (λ v h. each v (omega (arith, node-count))) i
    where
      each : (v : ℕ) → v < n → eqb (mark p v) 0 || weight_fits unit (final_bits p v) ≡ true
      each v h = (λ i. eqb (mark-is v h i) 0 || weight_fits unit (final_bits-is v h i)) ∙ final-weight v rs e

  pub length-is : sheet_length p ≡ length_of rs
  length-is = λ i. link_length * link-count i + node_length * node-count i + trailer_length (form-is i)

  pub verdict-is : (b : Bool) → weights_pass rs ≡ true → verdict b p ≡ cond b 0 1
  unfolding verdict
  verdict-is true e = (λ i. cond (not (nodes-fit i)) 1 (cond (not (unit_fits (form-is i))) 14 (cond (not (start_fits_lem i)) 2 (cond (not (nexts-fit i)) 3 (cond (not (weights-fit e i)) 4 0)))))
  verdict-is false e = refl

  -- 1 and 21 are the writer's; 4 is the text's, whose weights need not be whole numbers of units
  pub number_is : (room : ℕ) → number_by (Some rs) room ≡ cond (fields_hold rs && not (weights_pass rs)) 4 (write_number p room)
  unfolding write_number
  number_is room = go (fields_hold rs) refl (weights_pass rs) refl
    where
      go : (a : Bool) → fields_hold rs ≡ a → (b : Bool) → weights_pass rs ≡ b
          → cond (not a) 1 (cond (not b) 4 (cond (ltb room (length_of rs)) 21 0)) ≡ cond (a && not b) 4 (cond (not (eqb (verdict (records_fit p) p) 0)) (verdict (records_fit p) p) (cond (ltb room (sheet_length p)) 21 0))
      go false x b y = sym (ap (λ (k : ℕ). cond (not (eqb k 0)) k (cond (ltb room (sheet_length p)) 21 0)) (ap (λ (c : Bool). verdict c p) (records-hold ∙ x) ∙ unfold verdict in refl))
      go true x false y = refl
      go true x true y =
          ap {B = ℕ} (λ (k : ℕ). cond (ltb room k) 21 0) (sym length-is)
          ∙ sym (ap (λ (k : ℕ). cond (not (eqb k 0)) k (cond (ltb room (sheet_length p)) 21 0)) (ap (λ (c : Bool). verdict c p) (records-hold ∙ x) ∙ verdict-is true y))

-- ---- the number of a text: 8 where it has no rows, 4 where a weight does not pass, else the writer's for the rows' parts
abbrev pub number_of_rows : Option (List Row) → ℕ → ℕ
number_of_rows None room = 8
number_of_rows (Some rs) room = cond (fields_hold rs && not (weights_pass rs)) 4 (write_number (parts_of_rows rs) room)

pub rows-number : (text : List ℕ) (room : ℕ) → rows_number text room ≡ number_of_rows (read_rows text) room
unfolding rows_number
rows-number text room = go (read_rows text)
  where
    go : (r : Option (List Row)) → number_by r room ≡ number_of_rows r room
    go None = refl
    go (Some rs) = number_is rs room

-- The writer's number alone is not enough: the field of a weight off the grid is that of the units it is cut to. '0 0.3': 4, and 0 by the parts.
unfoldable off-grid : List ℕ
off-grid = 48 ∷ 32 ∷ 48 ∷ 46 ∷ 51 ∷ 10 ∷ []

cut : (rows_number off-grid 1000 ≡ 4) × (write_number (parts_of_rows (or_no_rows (read_rows off-grid))) 1000 ≡ 0)
unfolding off-grid rows_number read_rows parts_of_rows write_number of_k round to_bits of_bits grid_bits
cut = (refl, refl)
