-- The words that the code writes are the bytes of the result. Assumes nothing.
use mathlib.Core.Path.{◌≡◌, refl, sym, ap, ◌∙◌}
use mathlib.Core.Bool.{Bool, cond}
use mathlib.Core.Option.{Option, none, some}
use mathlib.Core.List.Memᴰ
use mathlib.Core.List.{List, [], ◌∷◌, ◌++◌, flat_map, reverse}
use Prim.Native.Nat.{ℕ, zero, suc, ◌+◌, ◌-◌, ◌*◌, ◌≤◌, ◌<◌}
use native.Mathlib.Decide.{ℕ_discrete}
use native.Mathlib.Omega.{arith}
use lib.Dec.{ltb, eqb}
use lib.ListN.{length, drop, replicate, length-append, length-reverse}
use lib.Seq.{sets, sets-eq}
use borrow.Author.Tests.{le-ltb, lt-ltb, eq-eqb, ne_eqb}
use Rattle.tropical_weight.specs.Tropical.{Tropical}
use Rattle.sheet.specs.declared.form.Form.{Form}
use Rattle.sheet.specs.Words.{word_length, bytes_of_all}
use Rattle.sheet.specs.Sheet.{link_length, node_length, trailer_length, unit_fields, link_count, node_count, trailer_of, sheet_of}
use Rattle.sheet.specs.Answers.{parts}
use Rattle.sheet.specs.Machine.{Link, Machine, unit_in, weight_of, bits_of, link_fields, leaving, node_fields, parts_for}
use Rattle.sheet.proofs.Bytes.{bytes_of_all-append, length-bytes_of_all, sets-words}
use Rattle.sheet.proofs.Writing.{trailer-size}
use Rattle.sheet.proofs.Encoding.{links-are, nodes-are, form-is}
use Rattle.sheet.proofs.Round.{Below}
use Rattle.machine.specs.Readings.{Reading, final}
use Rattle.machine.specs.Demand.{◌∈◌}
use Rattle.machine.proofs.Lists.{here}
use Rattle.machine.proofs.SheetFields.{SheetFields}
use Rattle.search.specs.ListMachine.{Result, back_links, best_result, result_bytes}
use Rattle.search.proofs.BackOne.{links-long, nodes-long, words_are}
use Rattle.shortest_distance.specs.Handed.{handed_over}
use Rattle.std.specs.Prelude as Core
use Rattle.sheet.specs.declared.refusal.Refusal.{Refusal}
use Rattle.list_answer.specs.declared.Listed.{Listed}
use Rattle.single_path.specs.SingleWords.{way_links, way_nodes, way_trailer, way_words, way_length, way_listed}
use Rattle.list_answer.specs.ListAnswer.{listed_by, listed_in, listed_over, state_words}
use Rattle.list_answer.proofs.Stores.{length-states}

-- ---- how long the words are
length-way_links : (bytes : List ℕ) (s : ℕ) (way : List ℕ) → length (way_links bytes s way) ≡ 4 * length way
unfolding way_links
length-way_links bytes s [] = refl
length-way_links bytes s (l ∷ ls) = omega (arith, length-way_links bytes (suc s) ls)

module _ (bytes : List ℕ) (form : Form) (bits : ℕ) (way : List ℕ) where
  length_front : (length (way_links bytes 0 way) ≡ 4 * length way) × (length (way_nodes bits (length way)) ≡ 3 * length way + 3)
  length_front = (length-way_links bytes 0 way, omega (arith, length-states (length way)))

  length-trailer : (k : ℕ) → 4 * length (way_trailer form k) ≡ trailer_length form
  length-trailer k = trailer-size (parts [] [] 0 form)

  pub length-way_words : length (bytes_of_all (way_words bytes form bits way)) ≡ way_length form (length way)
  length-way_words =
      let a = way_links bytes 0 way in
      let b = way_nodes bits (length way) in
      let c = way_trailer form (length way) in
      omega (arith, length-bytes_of_all (way_words bytes form bits way), length-append (a ++ b ++ c) way, length-append (a ++ b) c, length-append a b, length_front.0, length_front.1, length-trailer (length way))

  -- where the parts begin behind the links, for so many
  abbrev trailer-at : ℕ → ℕ
  trailer-at k = link_length * k + node_length * k + node_length

  -- the four parts stored one after the other
  way-stores : (old : List ℕ) (k : ℕ) → k ≡ length way
      → sets (sets (sets (sets old 0 (bytes_of_all (way_links bytes 0 way))) (link_length * k) (bytes_of_all (way_nodes bits k))) (trailer-at k) (bytes_of_all (way_trailer form k))) (trailer-at k + trailer_length form) (bytes_of_all way) ≡ sets old 0 (bytes_of_all (way_words bytes form bits way))
  way-stores old k e =
      let a = way_links bytes 0 way in
      let b = way_nodes bits (length way) in
      let c = way_trailer form (length way) in
      let at = trailer-at (length way) in
      (λ i. sets (sets (sets (sets old 0 (bytes_of_all a)) (link_length * e i) (bytes_of_all (way_nodes bits (e i)))) (trailer-at (e i)) (bytes_of_all (way_trailer form (e i)))) (trailer-at (e i) + trailer_length form) (bytes_of_all way))
      ∙ ap (λ (l : List ℕ). sets (sets l at (bytes_of_all c)) (at + trailer_length form) (bytes_of_all way)) (sets-words old 0 a b (link_length * length way) (omega (arith, length_front.0)))
      ∙ ap (λ (l : List ℕ). sets l (at + trailer_length form) (bytes_of_all way)) (sets-words old 0 (a ++ b) c at (omega (arith, length-append a b, length_front.0, length_front.1)))
      ∙ sets-words old 0 (a ++ b ++ c) way (at + trailer_length form) (omega (arith, length-append (a ++ b) c, length-append a b, length_front.0, length_front.1, length-trailer (length way)))

  -- by what the calls leave
  pub way-stored : (old : List ℕ) (k field size : ℕ) (one two three four : List ℕ) → k ≡ length way → field ≡ bits → size ≡ trailer_length form → one ≡ sets old 0 (bytes_of_all (way_links bytes 0 way)) → two ≡ sets one (link_length * k) (bytes_of_all (way_nodes field k))
      → three ≡ sets two (trailer-at k) (bytes_of_all (way_trailer form k)) → four ≡ sets three (trailer-at k + size) (bytes_of_all way) → four ≡ sets old 0 (bytes_of_all (way_words bytes form bits way))
  way-stored old k field size one two three four e f g a b c d =
      d
      ∙ (λ i. sets ((c ∙ ap (λ (x : List ℕ). sets x (trailer-at k) (bytes_of_all (way_trailer form k))) (b ∙ λ i. sets (a i) (link_length * k) (bytes_of_all (way_nodes (f i) k)))) i) (trailer-at k + g i) (bytes_of_all way))
      ∙ way-stores old k e

-- ---- the links of the way as a machine's
-- one leaves each state from s on, and none a lower one
leaving-below : (m : Machine) (s : ℕ) (ls : List ℕ) (v : ℕ) → v < s → leaving (back_links m s ls) v ≡ 0
unfolding back_links leaving
leaving-below m s [] v h = refl
leaving-below m s (l ∷ ls) v h =
    ap (λ (b : Bool). cond b (suc (leaving (back_links m (suc s) ls) v)) (leaving (back_links m (suc s) ls) v)) (ne_eqb s v (λ e. omega arith)) ∙ leaving-below m (suc s) ls v (omega arith)

leaving-one : (m : Machine) (s : ℕ) (ls : List ℕ) (v : ℕ) → s ≤ v → v < s + length ls → leaving (back_links m s ls) v ≡ 1
unfolding back_links leaving
leaving-one m s [] v a b = absurd (omega arith)
leaving-one m s (l ∷ ls) v a b = go (ℕ_discrete s v) (λ p q. leaving-one m (suc s) ls v p q)
  where
    go : Dec (s ≡ v) → (suc s ≤ v → v < suc s + length ls → leaving (back_links m (suc s) ls) v ≡ 1) → cond (eqb s v) (suc (leaving (back_links m (suc s) ls) v)) (leaving (back_links m (suc s) ls) v) ≡ 1
    go (yes e) ih = ap (λ (t : Bool). cond t (suc (leaving (back_links m (suc s) ls) v)) (leaving (back_links m (suc s) ls) v)) (eq-eqb s v e) ∙ ap suc (leaving-below m (suc s) ls v (omega arith))
    go (no e) ih = ap (λ (t : Bool). cond t (suc (leaving (back_links m (suc s) ls) v)) (leaving (back_links m (suc s) ls) v)) (ne_eqb s v e) ∙ ih (omega (arith, e)) (omega arith)

states-are : (j : ℕ) (ks : List Link) (v n : ℕ) → ((i : ℕ) → v ≤ i → i < v + n → leaving ks i ≡ 1) → node_fields j ks v (replicate n none) ≡ state_words n
unfolding node_fields state_words
states-are j ks v zero h = refl
states-are j ks v (suc n) h = λ i. h v (omega arith) (omega arith) i ∷ 0 ∷ 0 ∷ states-are j ks (suc v) n (λ u a b. h u (omega arith) (omega arith)) i

-- ---- the result of a way
module _ (bytes : List ℕ) (m : Machine) (f : SheetFields bytes (length m.links) (length m.finals) m) (whole : Below 256 bytes) where
  links-are-words : (s : ℕ) (ls : List ℕ) → ((l : ℕ) → l ∈ ls → l < length m.links) → flat_map (link_fields (unit_in m)) (back_links m (suc s) ls) ≡ way_links bytes s ls
  unfolding flat_map back_links way_links
  links-are-words s [] h = refl
  links-are-words s (l ∷ ls) h =
      let b = h l (here l ls) in
      let down : suc s - 1 ≡ s = omega arith in
      λ i. (sym (f.ilabel-at l b) i ∷ sym (f.olabel-at l b) i ∷ sym (f.link-bits whole l b) i ∷ down i ∷ []) ++ links-are-words (suc s) ls (λ k q. h k (Memᴰ.tail q)) i

  module _ (x : Reading) (bits : ℕ) (way : List ℕ) (way-is : way ≡ reverse x.run) (inside : (l : ℕ) → l ∈ reverse x.run → l < length m.links) (ends : final m x.end ≡ some (weight_of (unit_in m) bits)) (same : bits_of (unit_in m) (weight_of (unit_in m) bits) ≡ bits) where
    abbrev back : List ℕ
    back = reverse x.run

    abbrev found : Machine
    found = (best_result m x).machine

    long : length back ≡ length x.run
    long = length-reverse x.run

    pub links-count : length (best_result m x).machine.links ≡ length way
    links-count = links-long m x ∙ sym (ap length way-is ∙ long)

    pub nodes-count : length (best_result m x).machine.finals ≡ length way + 1
    nodes-count = nodes-long m x ∙ (let z : suc (length x.run) ≡ length way + 1 = omega (arith, long, ap length way-is) in z)

    links-part : (parts_for found).links ≡ way_links bytes 0 way
    unfolding parts_for
    links-part = links-are-words 0 back inside ∙ ap (way_links bytes 0) (sym way-is)

    nodes-part : (parts_for found).nodes ≡ way_nodes bits (length way)
    unfolding parts_for node_fields
    nodes-part =
        ap (λ (o : Option Tropical). node_fields (unit_in m) (back_links m 1 back) 0 (o ∷ replicate (length x.run) none)) ends
        ∙ (λ i. leaving-below m 1 back 0 (omega arith) i ∷ 1 ∷ same i ∷ states-are (unit_in m) (back_links m 1 back) 1 (length x.run) (λ v a b. leaving-one m 1 back v a (omega (arith, long))) i)
        ∙ ap (λ (n : ℕ). way_nodes bits n) (sym (ap length way-is ∙ long))

    trailer-part : trailer_of (parts_for found) ≡ way_trailer m.form (length way)
    unfolding parts_for
    trailer-part =
        let l : link_count (parts_for found) ≡ length way = links-are found ∙ links-count in
        let n : node_count (parts_for found) ≡ length way + 1 = nodes-are found ∙ nodes-count in
        let s : length x.run ≡ length way = sym (ap length way-is ∙ long) in
        λ i. 0 ∷ link_length * l i ∷ n i ∷ l i ∷ s i ∷ unit_fields (form-is found i)

    pub way-bytes : result_bytes (best_result m x) ≡ bytes_of_all (way_words bytes m.form bits way)
    unfolding result_bytes sheet_of
    way-bytes =
        (λ i. bytes_of_all (links-part i ++ nodes-part i ++ trailer-part i) ++ bytes_of_all ((words_are m x ∙ sym way-is) i))
        ∙ sym (bytes_of_all-append (way_links bytes 0 way ++ way_nodes bits (length way) ++ way_trailer m.form (length way)) way)

-- ---- what is answered, by the words
abbrev pub made : ℕ → ℕ → ℕ → Core.Result Listed Refusal
made nodes links taken = Core.Ok (record { nodes = nodes; links = links; taken = taken })

pub listed-as : (r : Result) (ws : List ℕ) (nodes links : ℕ) → result_bytes r ≡ bytes_of_all ws → length r.machine.finals ≡ nodes → length r.machine.links ≡ links → r.taken ≡ 0 → (old : List ℕ)
    → (listed_by (ltb (length old) (length (bytes_of_all ws))) nodes links 0 ≡ listed_in r (length old)) × (handed_over ws old ≡ listed_over r old)
listed-as r ws nodes links e n l t old = (
  λ i. listed_by (ltb (length old) (length (sym e i))) (sym n i) (sym l i) (sym t i),
  λ i. cond (ltb (length old) (length (sym e i))) old (sym e i ++ drop (length (sym e i)) old),
)

-- the area by the test of its length
too_short : (ws old : List ℕ) (size nodes links : ℕ) → length (bytes_of_all ws) ≡ size → length old < size → (Core.Err Refusal.Room ≡ listed_by (ltb (length old) size) nodes links 0) × (old ≡ handed_over ws old)
too_short ws old size nodes links e h = (
  sym (ap (λ (b : Bool). listed_by b nodes links 0) (lt-ltb (length old) size h)),
  sym (ap (λ (b : Bool). cond b old (bytes_of_all ws ++ drop (length (bytes_of_all ws)) old)) (lt-ltb (length old) (length (bytes_of_all ws)) (omega arith))),
)

long-enough : (ws old : List ℕ) (size nodes links : ℕ) → length (bytes_of_all ws) ≡ size → size ≤ length old → (made nodes links 0 ≡ listed_by (ltb (length old) size) nodes links 0) × (sets old 0 (bytes_of_all ws) ≡ handed_over ws old)
long-enough ws old size nodes links e h = (
  sym (ap (λ (b : Bool). listed_by b nodes links 0) (le-ltb (length old) size h)),
  sets-eq (bytes_of_all ws) old 0 (omega arith) ∙ ap (λ (k : ℕ). bytes_of_all ws ++ drop k old) (let z : 0 + length (bytes_of_all ws) ≡ length (bytes_of_all ws) = omega arith in z)
      ∙ sym (ap (λ (b : Bool). cond b old (bytes_of_all ws ++ drop (length (bytes_of_all ws)) old)) (le-ltb (length old) (length (bytes_of_all ws)) (omega arith))),
)

-- a way of so many links
module _ (bytes : List ℕ) (form : Form) (bits : ℕ) (way : List ℕ) (count : ℕ) (counted : count ≡ length way) (old : List ℕ) where
  -- its bytes, by the trailer's
  way-size : (size : ℕ) → size ≡ trailer_length form → (link_length + node_length + word_length) * count + node_length + size ≡ way_length form (length way)
  way-size size e = omega (arith, counted, e)

  pub way-short : (size : ℕ) → size ≡ trailer_length form → length old < (link_length + node_length + word_length) * count + node_length + size
      → (Core.Err Refusal.Room ≡ way_listed form way (length old)) × (old ≡ handed_over (way_words bytes form bits way) old)
  way-short size e h = too_short (way_words bytes form bits way) old (way_length form (length way)) (length way + 1) (length way) (length-way_words bytes form bits way) (omega (arith, way-size size e))

  pub way_long : (new : List ℕ) (size : ℕ) → size ≡ trailer_length form → (link_length + node_length + word_length) * count + node_length + size ≤ length old → new ≡ sets old 0 (bytes_of_all (way_words bytes form bits way))
      → (made (count + 1) count 0 ≡ way_listed form way (length old)) × (new ≡ handed_over (way_words bytes form bits way) old)
  way_long new size e h w =
      let a = long-enough (way_words bytes form bits way) old (way_length form (length way)) (length way + 1) (length way) (length-way_words bytes form bits way) (omega (arith, way-size size e)) in
      (ap (λ (k : ℕ). made (k + 1) k 0) counted ∙ a.0, w ∙ a.1)
