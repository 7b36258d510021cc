-- A machine in the fields of a sheet: its counts, its links, marks and sources by number; its bytes give the same fields back, and these the same
-- machine. Assumes nothing.
use mathlib.Core.Path.{◌≡◌, refl, sym, ap, ap₂, ◌∙◌}
use mathlib.Core.Logic.{◌⊎◌, inl, inr}
use mathlib.Core.Bool.{Bool, true, false, cond, ◌&&◌}
use mathlib.Core.Option.{Option, none, some}
use mathlib.Core.List.{List, [], ◌∷◌, ◌++◌, map, flat_map}
use Prim.Native.Nat.{ℕ, zero, suc, ◌+◌, ◌*◌, ◌%◌, ◌^◌, ◌≤◌, ◌<◌}
use native.Mathlib.Decide.{ℕ_discrete}
use native.Mathlib.Omega.{arith}
use lib.Dec.{ltb, eqb}
use lib.IntN.{ℤ}
use lib.ListN.{length, get_or, length-map, get_or-append}
use lib.Seq.{get_or-append-add, ext_get_or}
use lib.Ieee.{Float, binary32, of_bits, to_bits}
use lib.Ieee.Bits.{to_bits-lt}
use borrow.Author.Tests.{lt-ltb, le-ltb, eq-eqb, ne_eqb}
use Rattle.tropical_weight.specs.Limits.{finest, sum_limit}
use Rattle.tropical_weight.specs.Tropical.{Tropical, fin, inf, one, Within}
use Rattle.tropical_weight.specs.Grid.{of_t, units_of}
use Rattle.tropical_weight.proofs.Exact.{one-of_t, of_t-fits, of_t-injective, bits_back}
use Rattle.tropical_weight.proofs.Grid.{units_of-of_k}
use Rattle.sheet.specs.Below.{sum_below, list_below}
use Rattle.sheet.specs.Sheet.{link_length, node_length, trailer_length, unit_fields, barred_bits, no_start, link_count, node_count, ilabel, olabel, link_bits, next, count, mark, final_bits, records_fit, verdict, sheet_of, parts_of, read_number}
use Rattle.sheet.specs.Machine.{Link, Machine, unit_in, sources_below, weight_of, start_of, final_of, link_of, machine_of, bits_of, link_fields, leaving, final_fields, node_fields, start_field, parts_for}
use Rattle.sheet.proofs.Below.{split_at, sum_below-same, length-list_below, get_or-list_below}
use Rattle.sheet.proofs.Forms.{covered}
use Rattle.sheet.proofs.Writing.{length-sheet}
use Rattle.sheet.proofs.Round.{Below, parts-back, number-back}
use Rattle.sheet.proofs.Sources.{length-sources, source_is}

-- ---- the fields of links and nodes by number, in units of 1 / 2 ^ j
pub length-links : (j : ℕ) (ks : List Link) → length (flat_map (link_fields j) ks) ≡ 4 * length ks
unfolding flat_map
length-links j [] = refl
length-links j (k ∷ ks) = omega (arith, length-links j ks)

two_fields : (j : ℕ) (f : Option Tropical) → length (final_fields j f) ≡ 2
two_fields j none = refl
two_fields j (some w) = refl

pub length-nodes : (j : ℕ) (ks : List Link) (v : ℕ) (fs : List (Option Tropical)) → length (node_fields j ks v fs) ≡ 3 * length fs
unfolding node_fields
length-nodes j ks v [] = refl
length-nodes j ks v (none ∷ fs) = omega (arith, length-nodes j ks (suc v) fs)
length-nodes j ks v (some w ∷ fs) = omega (arith, length-nodes j ks (suc v) fs)

link-field : (j : ℕ) (ks : List Link) (l i : ℕ) (d : Link) → l < length ks → i < 4 → get_or (flat_map (link_fields j) ks) (4 * l + i) 0 ≡ get_or (link_fields j (get_or ks l d)) i 0
unfolding flat_map
link-field j [] l i d h b = absurd (omega arith)
link-field j (k ∷ ks) zero i d h b =
    ap (λ (n : ℕ). get_or (link_fields j k ++ flat_map (link_fields j) ks) n 0) (let e : 4 * 0 + i ≡ i = omega arith in e) ∙ get_or-append (link_fields j k) (flat_map (link_fields j) ks) 0 i b
link-field j (k ∷ ks) (suc l) i d h b =
    ap (λ (n : ℕ). get_or (link_fields j k ++ flat_map (link_fields j) ks) n 0) (let e : 4 * suc l + i ≡ 4 + (4 * l + i) = omega arith in e)
    ∙ get_or-append-add (link_fields j k) (flat_map (link_fields j) ks) (4 * l + i) 0 ∙ link-field j ks l i d (omega arith) b

abbrev node_of : ℕ → List Link → ℕ → Option Tropical → List ℕ
node_of j ks v f = leaving ks v ∷ final_fields j f

node-field : (j : ℕ) (ks : List Link) (v : ℕ) (fs : List (Option Tropical)) (u i : ℕ) → u < length fs → i < 3 → get_or (node_fields j ks v fs) (3 * u + i) 0 ≡ get_or (node_of j ks (v + u) (get_or fs u none)) i 0
unfolding node_fields
node-field j ks v [] u i h b = absurd (omega arith)
node-field j ks v (f ∷ fs) zero i h b =
    ap (λ (n : ℕ). get_or (node_of j ks v f ++ node_fields j ks (suc v) fs) n 0) (let e : 3 * 0 + i ≡ i = omega arith in e)
    ∙ get_or-append (node_of j ks v f) (node_fields j ks (suc v) fs) 0 i (omega (arith, two_fields j f))
    ∙ ap (λ (n : ℕ). get_or (node_of j ks n f) i 0) (let e : v ≡ v + 0 = omega arith in e)
node-field j ks v (f ∷ fs) (suc u) i h b =
    ap (λ (n : ℕ). get_or (node_of j ks v f ++ node_fields j ks (suc v) fs) n 0) (let e : 3 * suc u + i ≡ length (node_of j ks v f) + (3 * u + i) = omega (arith, two_fields j f) in e)
    ∙ get_or-append-add (node_of j ks v f) (node_fields j ks (suc v) fs) (3 * u + i) 0 ∙ node-field j ks (suc v) fs u i (omega arith) b
    ∙ ap (λ (n : ℕ). get_or (node_of j ks n (get_or fs u none)) i 0) (let e : suc v + u ≡ v + suc u = omega arith in e)

-- ---- sources that never fall
abbrev pub sources_of : List Link → List ℕ
sources_of ks = map (λ k. k.source) ks

source-in-list : (ks : List Link) (l : ℕ) (d : Link) → l < length ks → get_or (sources_of ks) l 0 ≡ (get_or ks l d).source
source-in-list [] l d h = absurd (omega arith)
source-in-list (k ∷ ks) zero d h = refl
source-in-list (k ∷ ks) (suc l) d h = source-in-list ks l d (omega arith)

abbrev Rising : List ℕ → Type 0
Rising l = (i j : ℕ) → i ≤ j → j < length l → get_or l i 0 ≤ get_or l j 0

-- how many are below v
unfoldable pub fewer : List ℕ → ℕ → ℕ
fewer [] v = 0
fewer (x ∷ l) v = cond (ltb x v) (suc (fewer l v)) (fewer l v)

fewer-suc : (ks : List Link) (v : ℕ) → fewer (sources_of ks) (suc v) ≡ fewer (sources_of ks) v + leaving ks v
unfolding fewer leaving
fewer-suc [] v = refl
fewer-suc (k ∷ ks) v = go (split_at k.source v) (ℕ_discrete k.source v) (fewer-suc ks v)
  where
    go : (k.source < v) ⊎ (v ≤ k.source) → Dec (k.source ≡ v) → fewer (sources_of ks) (suc v) ≡ fewer (sources_of ks) v + leaving ks v
        → cond (ltb k.source (suc v)) (suc (fewer (sources_of ks) (suc v))) (fewer (sources_of ks) (suc v)) ≡ cond (ltb k.source v) (suc (fewer (sources_of ks) v)) (fewer (sources_of ks) v) + cond (eqb k.source v) (suc (leaving ks v)) (leaving ks v)
    go (inl h) (yes e) ih = absurd (omega (arith, e))
    go (inl h) (no e) ih = simp (lt-ltb k.source v h, lt-ltb k.source (suc v) (omega arith), ne_eqb k.source v e) (omega arith)
    go (inr h) (yes e) ih = simp (le-ltb k.source v h, lt-ltb k.source (suc v) (omega (arith, e)), eq-eqb k.source v e) (omega arith)
    go (inr h) (no e) ih = simp (le-ltb k.source v h, le-ltb k.source (suc v) (omega (arith, e)), ne_eqb k.source v e) (omega arith)

none_below : (l : List ℕ) → fewer l 0 ≡ 0
unfolding fewer
none_below [] = refl
none_below (x ∷ l) = simp (le-ltb x 0 (omega arith)) (none_below l)

pub sum-leaving : (ks : List Link) (v : ℕ) → sum_below v (leaving ks) ≡ fewer (sources_of ks) v
unfolding sum_below
sum-leaving ks zero = sym (none_below (sources_of ks))
sum-leaving ks (suc v) = ap (λ (n : ℕ). n + leaving ks v) (sum-leaving ks v) ∙ sym (fewer-suc ks v)

fewer-none : (l : List ℕ) (v : ℕ) → ((i : ℕ) → i < length l → v ≤ get_or l i 0) → fewer l v ≡ 0
unfolding fewer
fewer-none [] v h = refl
fewer-none (x ∷ l) v h = simp (le-ltb x v (h 0 (omega arith))) (fewer-none l v (λ i b. h (suc i) (omega arith)))

fewer-all : (l : List ℕ) (n : ℕ) → ((i : ℕ) → i < length l → get_or l i 0 < n) → fewer l n ≡ length l
unfolding fewer
fewer-all [] n h = refl
fewer-all (x ∷ l) n h = simp (lt-ltb x n (h 0 (omega arith))) (ap suc (fewer-all l n (λ i b. h (suc i) (omega arith))))

-- where they never fall, the place of one lies between how many are below it and how many are at most it
place : (l : List ℕ) (i : ℕ) → Rising l → i < length l → (fewer l (get_or l i 0) ≤ i) × (i < fewer l (suc (get_or l i 0)))
unfolding fewer
place [] i r h = absurd (omega arith)
place (x ∷ l) zero r h =
    (simp (le-ltb x x (omega arith)) (omega (arith, fewer-none l x (λ i b. r 0 (suc i) (omega arith) (omega arith)))), simp (lt-ltb x (suc x) (omega arith)) (omega arith))
place (x ∷ l) (suc i) r h = go (split_at x (get_or l i 0)) (place l i (λ a b c d. r (suc a) (suc b) (omega arith) (omega arith)) (omega arith)) (r 0 (suc i) (omega arith) h)
  where
    go : (x < get_or l i 0) ⊎ (get_or l i 0 ≤ x) → (fewer l (get_or l i 0) ≤ i) × (i < fewer l (suc (get_or l i 0))) → x ≤ get_or l i 0
        → (cond (ltb x (get_or l i 0)) (suc (fewer l (get_or l i 0))) (fewer l (get_or l i 0)) ≤ suc i) × (suc i < cond (ltb x (suc (get_or l i 0))) (suc (fewer l (suc (get_or l i 0)))) (fewer l (suc (get_or l i 0))))
    go (inl a) p q = (simp (lt-ltb x (get_or l i 0) a) (omega (arith, p.0)), simp (lt-ltb x (suc (get_or l i 0)) (omega arith)) (omega (arith, p.1)))
    go (inr a) p q = (simp (le-ltb x (get_or l i 0) a) (omega (arith, p.0)), simp (lt-ltb x (suc (get_or l i 0)) (omega arith)) (omega (arith, p.1)))

-- ---- a machine that a sheet can hold
-- what stands past the last link
absent : Link
absent = record { source = 0; ilabel = 0; olabel = 0; weight = one; next = 0 }

-- a link of a machine of so many nodes whose fields are words
pub record LinkFits (nodes : ℕ) (k : Link) : Type 0 where
  pub source_in : k.source < nodes
  pub ilabel-fits : k.ilabel < 2 ^ 32
  pub olabel-fits : k.olabel < 2 ^ 32
  pub next_fits : k.next < 2 ^ 32

pub record Writable (m : Machine) : Type 0 where
  pub each : (l : ℕ) (d : Link) → l < length m.links → LinkFits (length m.finals) (get_or m.links l d)
  -- the links stand by source
  pub by-source : (k l : ℕ) (d : Link) → k ≤ l → l < length m.links → (get_or m.links k d).source ≤ (get_or m.links l d).source
  pub start_fits_lem : start_field m.start < 2 ^ 32
  pub few-nodes : length m.finals < 2 ^ 32
  pub few-links : link_length * length m.links < 2 ^ 32
  pub unit-word : Below 4294967296 (unit_fields m.form)

pub bits-lt : (j : ℕ) → j ≤ finest → (w : Tropical) → bits_of j w < 4294967296
bits-lt j c w = to_bits-lt binary32 (of_t j w) (of_t-fits j c w)

pub links-below : (j : ℕ) → j ≤ finest → (n : ℕ) (ks : List Link) → ((l : ℕ) (d : Link) → l < length ks → LinkFits n (get_or ks l d)) → Below 4294967296 (flat_map (link_fields j) ks)
unfolding flat_map
links-below j c n [] f i = omega arith
links-below j c n (k ∷ ks) f zero = (f 0 k (omega arith)).ilabel-fits
links-below j c n (k ∷ ks) f (suc zero) = (f 0 k (omega arith)).olabel-fits
links-below j c n (k ∷ ks) f (suc (suc zero)) = bits-lt j c k.weight
links-below j c n (k ∷ ks) f (suc (suc (suc zero))) = (f 0 k (omega arith)).next_fits
links-below j c n (k ∷ ks) f (suc (suc (suc (suc i)))) = links-below j c n ks (λ l d h. f (suc l) d (omega arith)) i

leaving-le : (ks : List Link) (v : ℕ) → leaving ks v ≤ length ks
unfolding leaving
leaving-le [] v = omega arith
leaving-le (k ∷ ks) v = go (eqb k.source v) (leaving-le ks v)
  where
    go : (t : Bool) → leaving ks v ≤ length ks → cond t (suc (leaving ks v)) (leaving ks v) ≤ suc (length ks)
    go true h = omega arith
    go false h = omega arith

pub nodes-below : (j : ℕ) → j ≤ finest → (ks : List Link) (v : ℕ) (fs : List (Option Tropical)) → length ks < 4294967296 → Below 4294967296 (node_fields j ks v fs)
unfolding node_fields
nodes-below j c ks v [] h i = omega arith
nodes-below j c ks v (none ∷ fs) h zero = omega (arith, leaving-le ks v)
nodes-below j c ks v (none ∷ fs) h (suc zero) = omega arith
nodes-below j c ks v (none ∷ fs) h (suc (suc zero)) = omega arith
nodes-below j c ks v (none ∷ fs) h (suc (suc (suc i))) = nodes-below j c ks (suc v) fs h i
nodes-below j c ks v (some w ∷ fs) h zero = omega (arith, leaving-le ks v)
nodes-below j c ks v (some w ∷ fs) h (suc zero) = omega arith
nodes-below j c ks v (some w ∷ fs) h (suc (suc zero)) = bits-lt j c w
nodes-below j c ks v (some w ∷ fs) h (suc (suc (suc i))) = nodes-below j c ks (suc v) fs h i

-- ---- the fields by number, of any machine
module _ (m : Machine) where
  pub links-are : link_count (parts_for m) ≡ length m.links
  unfolding parts_for
  links-are = omega (arith, length-links (unit_in m) m.links)

  pub nodes-are : node_count (parts_for m) ≡ length m.finals
  unfolding parts_for
  nodes-are = omega (arith, length-nodes (unit_in m) m.links 0 m.finals)

  pub form-is : (parts_for m).form ≡ m.form
  unfolding parts_for
  form-is = refl

  pub start_is : (parts_for m).start ≡ start_field m.start
  unfolding parts_for
  start_is = refl

  module _ (l : ℕ) (d : Link) (h : l < length m.links) where
    pub ilabel-is : ilabel (parts_for m) l ≡ (get_or m.links l d).ilabel
    unfolding parts_for
    ilabel-is = ap (λ (n : ℕ). get_or (flat_map (link_fields (unit_in m)) m.links) n 0) (let e : 4 * l ≡ 4 * l + 0 = omega arith in e) ∙ link-field (unit_in m) m.links l 0 d h (omega arith)

    pub olabel-is : olabel (parts_for m) l ≡ (get_or m.links l d).olabel
    unfolding parts_for
    olabel-is = link-field (unit_in m) m.links l 1 d h (omega arith)

    pub link_bits-is : link_bits (parts_for m) l ≡ bits_of (unit_in m) (get_or m.links l d).weight
    unfolding parts_for
    link_bits-is = link-field (unit_in m) m.links l 2 d h (omega arith)

    pub next-is : next (parts_for m) l ≡ (get_or m.links l d).next
    unfolding parts_for
    next-is = link-field (unit_in m) m.links l 3 d h (omega arith)

  module _ (v : ℕ) (h : v < length m.finals) where
    node-is : (i : ℕ) → i < 3 → get_or (parts_for m).nodes (3 * v + i) 0 ≡ get_or (node_of (unit_in m) m.links v (get_or m.finals v none)) i 0
    unfolding parts_for
    node-is i b = node-field (unit_in m) m.links 0 m.finals v i h b ∙ ap (λ (n : ℕ). get_or (node_of (unit_in m) m.links n (get_or m.finals v none)) i 0) (let e : 0 + v ≡ v = omega arith in e)

    pub count-is : count (parts_for m) v ≡ leaving m.links v
    count-is = ap (λ (n : ℕ). get_or (parts_for m).nodes n 0) (let e : 3 * v ≡ 3 * v + 0 = omega arith in e) ∙ node-is 0 (omega arith)

    pub mark-some : (w : Tropical) → get_or m.finals v none ≡ some w → mark (parts_for m) v ≡ 1
    mark-some w e = node-is 1 (omega arith) ∙ ap (λ (f : Option Tropical). get_or (final_fields (unit_in m) f) 0 0) e

    pub mark-none : get_or m.finals v none ≡ none → mark (parts_for m) v ≡ 0
    mark-none e = node-is 1 (omega arith) ∙ ap (λ (f : Option Tropical). get_or (final_fields (unit_in m) f) 0 0) e

    pub final_bits-some : (w : Tropical) → get_or m.finals v none ≡ some w → final_bits (parts_for m) v ≡ bits_of (unit_in m) w
    final_bits-some w e = node-is 2 (omega arith) ∙ ap (λ (f : Option Tropical). get_or (final_fields (unit_in m) f) 1 0) e

    pub final_bits-none : get_or m.finals v none ≡ none → final_bits (parts_for m) v ≡ 0
    final_bits-none e = node-is 2 (omega arith) ∙ ap (λ (f : Option Tropical). get_or (final_fields (unit_in m) f) 1 0) e

-- ---- of one that a sheet can hold
module _ (m : Machine) (w : Writable m) where
  sums-are : (v : ℕ) → v ≤ length m.finals → sum_below v (count (parts_for m)) ≡ fewer (sources_of m.links) v
  sums-are v h = sum_below-same v (count (parts_for m)) (leaving m.links) (λ i b. count-is m i (omega arith)) ∙ sum-leaving m.links v

  long : length (sources_of m.links) ≡ length m.links
  long = length-map m.links (λ (k : Link). k.source)

  inside : (i : ℕ) → i < length (sources_of m.links) → get_or (sources_of m.links) i 0 < length m.finals
  inside i h = omega (arith, source-in-list m.links i absent (omega (arith, long)), (w.each i absent (omega (arith, long))).source_in)

  all : sum_below (length m.finals) (count (parts_for m)) ≡ length (sources_of m.links)
  all = sums-are (length m.finals) (omega arith) ∙ fewer-all (sources_of m.links) (length m.finals) inside

  -- the nodes' counts add up to the links
  pub counts-are : sum_below (node_count (parts_for m)) (count (parts_for m)) ≡ link_count (parts_for m)
  counts-are = ap (λ (n : ℕ). sum_below n (count (parts_for m))) (nodes-are m) ∙ all ∙ long ∙ sym (links-are m)

  pub sources-are : sources_below (parts_for m) (node_count (parts_for m)) ≡ map (λ k. k.source) m.links
  sources-are =
      ap (sources_below (parts_for m)) (nodes-are m)
      ∙ sym (ext_get_or 0 (sources_of m.links) (sources_below (parts_for m) (length m.finals)) (sym (length-sources (parts_for m) (length m.finals) ∙ all)) (λ i h. sym (at i h)))
    where
      rising : Rising (sources_of m.links)
      rising i j a b = omega (arith, w.by-source i j absent a (omega (arith, long)), source-in-list m.links i absent (omega (arith, long)), source-in-list m.links j absent (omega (arith, long)))

      at : (i : ℕ) → i < length (sources_of m.links) → get_or (sources_below (parts_for m) (length m.finals)) i 0 ≡ get_or (sources_of m.links) i 0
      at i h =
          let v = get_or (sources_of m.links) i 0 in
          let p = place (sources_of m.links) i rising h in
          source_is (parts_for m) (length m.finals) v i (inside i h) (omega (arith, p.0, sums-are v (omega (arith, inside i h)))) (omega (arith, p.1, sums-are (suc v) (inside i h)))

  pub source_of : (l : ℕ) (d : Link) → l < length m.links → get_or (sources_below (parts_for m) (node_count (parts_for m))) l 0 ≡ (get_or m.links l d).source
  source_of l d h = ap (λ (s : List ℕ). get_or s l 0) sources-are ∙ source-in-list m.links l d h

  pub records-fit : records_fit (parts_for m) ≡ true
  records-fit =
      let a : length (parts_for m).links % 4 ≡ 0 = unfold parts_for in omega (arith, length-links (unit_in m) m.links) in
      let b : length (parts_for m).nodes % 3 ≡ 0 = unfold parts_for in omega (arith, length-nodes (unit_in m) m.links 0 m.finals) in
      let c : node_count (parts_for m) < 2 ^ 32 = omega (arith, nodes-are m, w.few-nodes) in
      let d : link_length * link_count (parts_for m) < 2 ^ 32 = omega (arith, links-are m, w.few-links) in
      λ i. eq-eqb _ _ a i && eq-eqb _ _ b i && lt-ltb _ _ c i && lt-ltb _ _ d i

  -- the bytes give the same fields back
  pub fields_back : parts_of (sheet_of (parts_for m)) ≡ parts_for m
  unfolding parts_for
  fields_back = parts-back (parts_for m) records-fit (links-below (unit_in m) (covered m.form) (length m.finals) m.links w.each) (nodes-below (unit_in m) (covered m.form) m.links 0 m.finals (omega (arith, w.few-links))) w.start_fits_lem w.unit-word

  -- and the reader's verdict on them is that on the fields
  pub number_is : read_number (sheet_of (parts_for m)) ≡ verdict (records_fit (parts_for m)) (parts_for m)
  unfolding parts_for
  number_is = number-back (parts_for m) records-fit (links-below (unit_in m) (covered m.form) (length m.finals) m.links w.each) (nodes-below (unit_in m) (covered m.form) m.links 0 m.finals (omega (arith, w.few-links))) w.start_fits_lem w.unit-word

  pub sheet-length : length (sheet_of (parts_for m)) ≡ link_length * length m.links + node_length * length m.finals + trailer_length m.form
  unfolding parts_for
  sheet-length = length-sheet (parts_for m) records-fit ∙ λ i. link_length * links-are m i + node_length * nodes-are m i + trailer_length m.form

-- ---- the machine itself
-- a weight that its field gives back
abbrev pub Held : Tropical → Type 0
Held w = Within sum_limit w

pub record AllHeld (m : Machine) : Type 0 where
  pub weights : (l : ℕ) (d : Link) → l < length m.links → Held (get_or m.links l d).weight
  pub final-weights : (v : ℕ) (w : Tropical) → v < length m.finals → get_or m.finals v none ≡ some w → Held w
  -- a start at FFFFFFFF would be read as none
  pub start-told : (v : ℕ) → m.start ≡ some v → v < no_start

-- the bits of the semiring's one
pub bits-one : (j : ℕ) → j ≤ finest → bits_of j one ≡ 0
bits-one j c = ap (to_bits binary32) (sym (one-of_t j c)) ∙ unfold to_bits in refl

-- infinity's bits, and no other weight's
pub bits-inf : (j : ℕ) → bits_of j inf ≡ barred_bits
bits-inf j = unfold to_bits in refl

pub bits-finite : (j : ℕ) → j ≤ finest → (k : ℤ) → Within sum_limit (fin k) → eqb (bits_of j (fin k)) barred_bits ≡ false
bits-finite j c k h = ne_eqb (bits_of j (fin k)) barred_bits (λ e. clash (of_t-injective j c (fin k) inf h tt (sym (bits_back j c (fin k)) ∙ ap (of_bits binary32) (e ∙ sym (bits-inf j)) ∙ bits_back j c inf)))
  where
    clash : fin k ≡ inf → ⊥
    clash e = let z : ◌≡◌ {A = ℕ} 0 1 = cc in omega arith

pub weight-back : (j : ℕ) → j ≤ finest → (w : Tropical) → Held w → weight_of j (bits_of j w) ≡ w
weight-back j c (fin k) h =
    ap (λ (t : Bool). cond t inf (fin (units_of j (of_bits binary32 (bits_of j (fin k)))))) (bits-finite j c k h)
    ∙ ap (λ (x : Float). fin (units_of j x)) (bits_back j c (fin k)) ∙ ap fin (units_of-of_k j c k h)
weight-back j c inf h = ap (λ (t : Bool). cond t inf (fin (units_of j (of_bits binary32 (bits_of j inf))))) (eq-eqb (bits_of j inf) barred_bits (bits-inf j))

start_back : (o : Option ℕ) → ((v : ℕ) → o ≡ some v → v < no_start) → start_of (start_field o) ≡ o
start_back none f = refl
start_back (some v) f = ap (λ (t : Bool). cond t none (some v)) (ne_eqb v no_start (λ e. omega (arith, e, f v refl)))

-- a list by its elements
pub all_back : {A : Type 0} {n : ℕ} (f : ℕ → A) (l : List A) (d : A) → n ≡ length l → ((i : ℕ) → i < length l → f i ≡ get_or l i d) → list_below n f ≡ l
all_back {A} {n} f l d e h = ext_get_or d (list_below n f) l (length-list_below n f ∙ e) (λ i b. let c : i < n = omega (arith, length-list_below n f) in get_or-list_below n f i d c ∙ h i (omega arith))

module _ (m : Machine) (w : Writable m) (x : AllHeld m) where
  link-back : (l : ℕ) (d : Link) → l < length m.links → link_of (parts_for m) l ≡ get_or m.links l d
  unfolding parts_for
  link-back l d h =
      let weight : weight_of (unit_in m) (link_bits (parts_for m) l) ≡ (get_or m.links l d).weight = ap (weight_of (unit_in m)) (link_bits-is m l d h) ∙ weight-back (unit_in m) (covered m.form) (get_or m.links l d).weight (x.weights l d h) in
      λ i. record { source = source_of m w l d h i; ilabel = ilabel-is m l d h i; olabel = olabel-is m l d h i; weight = weight i; next = next-is m l d h i }

  final-back : (v : ℕ) → v < length m.finals → final_of (unit_in m) (mark (parts_for m) v) (final_bits (parts_for m) v) ≡ get_or m.finals v none
  final-back v h = go (get_or m.finals v none) refl
    where
      go : (o : Option Tropical) → get_or m.finals v none ≡ o → final_of (unit_in m) (mark (parts_for m) v) (final_bits (parts_for m) v) ≡ o
      go none e = ap₂ (final_of (unit_in m)) (mark-none m v h e) (final_bits-none m v h e)
      go (some y) e = ap₂ (final_of (unit_in m)) (mark-some m v h y e) (final_bits-some m v h y e) ∙ ap some (weight-back (unit_in m) (covered m.form) y (x.final-weights v y h e))

  -- the machine of its fields is the machine itself
  pub machine-is : machine_of (parts_for m) ≡ m
  unfolding machine_of parts_for
  machine-is = λ i. record { links = links i; finals = finals i; start = (ap start_of (start_is m) ∙ start_back m.start x.start-told) i; form = m.form }
    where
      links : list_below (link_count (parts_for m)) (link_of (parts_for m)) ≡ m.links
      links = all_back (link_of (parts_for m)) m.links absent (links-are m) (λ l h. link-back l absent h)

      finals : list_below (node_count (parts_for m)) (λ v. final_of (unit_in m) (mark (parts_for m) v) (final_bits (parts_for m) v)) ≡ m.finals
      finals = all_back (λ v. final_of (unit_in m) (mark (parts_for m) v) (final_bits (parts_for m) v)) m.finals none (nodes-are m) final-back

  -- and read from its bytes it is the same
  pub machine-read : machine_of (parts_of (sheet_of (parts_for m))) ≡ m
  machine-read = ap machine_of (fields_back m w) ∙ machine-is
