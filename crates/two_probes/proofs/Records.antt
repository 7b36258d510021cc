-- The links and the nodes of a machine, record by record, as they are stored; and how many links leave a node where they stand by source. Assumes
-- nothing.
use mathlib.Core.Path.{◌≡◌, refl, sym, ap, ◌∙◌}
use mathlib.Core.Bool.{Bool, true, cond}
use mathlib.Core.Option.{Option as Maybe, none, some}
use mathlib.Core.List.{List, [], ◌∷◌, ◌++◌, append_assoc, append-nil, flat_map}
use Prim.Native.Nat.{ℕ, zero, suc, ◌+◌, ◌-◌, ◌*◌, ◌≤◌, ◌<◌}
use native.Mathlib.Nat.{zero-mul, suc-mul}
use native.Mathlib.Numerals.{add-one}
use native.Mathlib.Omega.{arith}
use lib.ListN.{length, get_or, length-append}
use lib.Seq.{sets}
use borrow.Author.Tests.{eq-eqb, ne_eqb}
use Rattle.std.specs.Prelude.{None, Some}
use Rattle.tropical_weight.specs.Tropical.{Tropical}
use Rattle.sheet.specs.Words.{bytes_of_all}
use Rattle.sheet.specs.Sheet.{weight_fits}
use Rattle.sheet.specs.Machine.{Link, Machine, bits_of, link_fields, leaving, final_fields, node_fields}
use Rattle.sheet.proofs.Bytes.{sets-words}
use Rattle.sheet.proofs.Encoding.{all_back}
use Rattle.machine.specs.Readings.{no_link, link}
use Rattle.product.specs.Fits.{final_fits}
use Rattle.product.specs.Joins.{join_below}
use Rattle.product.proofs.Joins.{flat-below, join-same}
use Rattle.two_probes.specs.Held.{field_of, node_record}

-- ---- the links, and the nodes, one after the other
pub links-joined : (j : ℕ) (m : Machine) → join_below (length m.links) (λ q. link_fields j (link m q)) ≡ flat_map (link_fields j) m.links
links-joined j m = sym (flat-below (link_fields j) (length m.links) (link m)) ∙ ap (flat_map (link_fields j)) (all_back (link m) m.links no_link refl (λ i h. refl))

join-front : {A : Type 0} (n : ℕ) (f : ℕ → List A) → join_below (suc n) f ≡ f 0 ++ join_below n (λ i. f (suc i))
unfolding join_below
join-front zero f = sym (append-nil (f 0))
join-front {A} (suc n) f = ap (λ (l : List A). l ++ f (suc n)) (join-front n f) ∙ append_assoc (f 0) (join_below n (λ i. f (suc i))) (f (suc n))

abbrev node_at : ℕ → List Link → ℕ → List (Maybe Tropical) → ℕ → List ℕ
node_at j ks v fs u = leaving ks (v + u) ∷ final_fields j (get_or fs u none)

nodes-from : (j : ℕ) (ks : List Link) (v : ℕ) (fs : List (Maybe Tropical)) → join_below (length fs) (node_at j ks v fs) ≡ node_fields j ks v fs
unfolding join_below node_fields
nodes-from j ks v [] = refl
nodes-from j ks v (f ∷ fs) =
    join-front (length fs) (node_at j ks v (f ∷ fs))
    ∙ (λ i. (leaving ks (add-none i) ∷ final_fields j f) ++ join-same (length fs) (λ u. node_at j ks v (f ∷ fs) (suc u)) (node_at j ks (suc v) fs) (λ u k. leaving ks (one_on u k) ∷ final_fields j (get_or fs u none)) i)
    ∙ ap (λ (l : List ℕ). (leaving ks v ∷ final_fields j f) ++ l) (nodes-from j ks (suc v) fs)
  where
    add-none : v + 0 ≡ v
    add-none = omega arith

    one_on : (u : ℕ) → v + suc u ≡ suc v + u
    one_on u = omega arith

pub nodes-joined : (j : ℕ) (m : Machine) → join_below (length m.finals) (node_record j m) ≡ node_fields j m.links 0 m.finals
nodes-joined j m = join-same (length m.finals) (node_record j m) (node_at j m.links 0 m.finals) (λ u i. leaving m.links (at u i) ∷ final_fields j (get_or m.finals u none)) ∙ nodes-from j m.links 0 m.finals
  where
    at : (u : ℕ) → u ≡ 0 + u
    at u = omega arith

-- ---- stored one after the other, each of so many words
length-joined : (w n : ℕ) (f : ℕ → List ℕ) → ((i : ℕ) → length (f i) ≡ w) → length (join_below n f) ≡ n * w
unfolding join_below
length-joined w zero f e = sym (zero-mul w)
length-joined w (suc n) f e = length-append (join_below n f) (f n) ∙ (λ i. length-joined w n f e i + e n i) ∙ sym (suc-mul n w)

pub records-none : (l : List ℕ) (at : ℕ) (f : ℕ → List ℕ) → l ≡ sets l at (bytes_of_all (join_below 0 f))
unfolding join_below bytes_of_all
records-none l at f = refl

pub records-more : (l middle : List ℕ) (at w i place : ℕ) (f : ℕ → List ℕ) → ((i : ℕ) → length (f i) ≡ w) → middle ≡ sets l at (bytes_of_all (join_below i f)) → place ≡ at + 4 * (i * w) → sets middle place (bytes_of_all (f i)) ≡ sets l at (bytes_of_all (join_below (i + 1) f))
unfolding join_below
records-more l middle at w i place f e m p =
    ap (λ (k : List ℕ). sets k place (bytes_of_all (f i))) m
    ∙ sets-words l at (join_below i f) (f i) place (p ∙ ap (λ (n : ℕ). at + 4 * n) (sym (length-joined w i f e)))
    ∙ ap (λ (k : ℕ). sets l at (bytes_of_all (join_below k f))) (sym (add-one i))

pub length-final : (j : ℕ) (f : Maybe Tropical) → length (final_fields j f) ≡ 2
length-final j none = refl
length-final j (some w) = refl

-- ---- a final weight's fields, by the option of its field
pub field-none : (j : ℕ) (f : Maybe Tropical) → field_of j f ≡ None → 0 ∷ 0 ∷ [] ≡ final_fields j f
field-none j none e = refl
field-none j (some w) e = let z : ◌≡◌ {A = ℕ} 0 1 = cc in absurd (omega arith)

pub field-some : (j : ℕ) (f : Maybe Tropical) (k : ℕ) → field_of j f ≡ Some k → 1 ∷ k ∷ [] ≡ final_fields j f
field-some j none k e = let z : ◌≡◌ {A = ℕ} 0 1 = cc in absurd (omega arith)
field-some j (some w) k e = let z : Some k ≡ Some _ = sym e in cc

-- and whether it passes test 4
pub fits-none : (j : ℕ) (f : Maybe Tropical) → field_of j f ≡ None → final_fits j f ≡ true
fits-none j none e = refl
fits-none j (some w) e = let z : ◌≡◌ {A = ℕ} 0 1 = cc in absurd (omega arith)

pub fits-some : (j : ℕ) (f : Maybe Tropical) (k : ℕ) → field_of j f ≡ Some k → final_fits j f ≡ weight_fits j k
fits-some j none k e = let z : ◌≡◌ {A = ℕ} 0 1 = cc in absurd (omega arith)
fits-some j (some w) k e = let z : bits_of j w ≡ k = cc in ap (weight_fits j) z

-- ---- how many links leave v: they stand from place `low` up to place `high`
pub leaving-between : (ks : List Link) (v low high : ℕ) → high ≤ length ks → low ≤ high
    → ((i : ℕ) → i < low → (get_or ks i no_link).source < v) → ((i : ℕ) → low ≤ i → i < high → (get_or ks i no_link).source ≡ v) → ((i : ℕ) → high ≤ i → i < length ks → v < (get_or ks i no_link).source)
    → leaving ks v ≡ high - low
unfolding leaving
leaving-between [] v low high h o below at above = omega arith
leaving-between (k ∷ ks) v (suc low) zero h o below at above = absurd (omega arith)
leaving-between (k ∷ ks) v (suc low) (suc high) h o below at above =
    ap (λ (b : Bool). cond b (suc (leaving ks v)) (leaving ks v)) (ne_eqb k.source v (λ e. omega (arith, e, below 0 (omega arith))))
    ∙ (let r = leaving-between ks v low high (omega arith) (omega arith) (λ i d. below (suc i) (omega arith)) (λ i c d. at (suc i) (omega arith) (omega arith)) (λ i c d. above (suc i) (omega arith) (omega arith)) in omega (arith, r))
leaving-between (k ∷ ks) v zero (suc high) h o below at above =
    ap (λ (b : Bool). cond b (suc (leaving ks v)) (leaving ks v)) (eq-eqb k.source v (at 0 (omega arith) (omega arith)))
    ∙ (let r = leaving-between ks v 0 high (omega arith) (omega arith) (λ i d. absurd (omega arith)) (λ i c d. at (suc i) (omega arith) (omega arith)) (λ i c d. above (suc i) (omega arith) (omega arith)) in omega (arith, r))
leaving-between (k ∷ ks) v zero zero h o below at above =
    ap (λ (b : Bool). cond b (suc (leaving ks v)) (leaving ks v)) (ne_eqb k.source v (λ e. omega (arith, e, above 0 (omega arith) (omega arith))))
    ∙ leaving-between ks v 0 0 (omega arith) (omega arith) (λ i d. absurd (omega arith)) (λ i c d. absurd (omega arith)) (λ i c d. above (suc i) (omega arith) (omega arith))
