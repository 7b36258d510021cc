-- The areas are long enough for every list, and those for one reading for the distances. Assumes nothing.
use mathlib.Core.Path.{◌≡◌, refl, sym, ap, ◌∙◌, subst}
use mathlib.Core.Bool.{Bool, true, false, not, ◌&&◌, cond, and-false}
use mathlib.Core.List.{List}
use Prim.Native.Nat.{ℕ, zero, suc, ◌+◌, ◌*◌, ◌/◌, ◌≤◌, ◌<◌}
use native.Mathlib.Omega.{arith}
use native.Mathlib.Nat.{le_of_eq, le_trans, mul-le-mul_left}
use lib.Dec.{leb, ltb}
use lib.ListN.{length}
use borrow.Author.Tests.{le-ltb, lt-ltb, le-leb, lt-leb, ltb-true, ltb-false}
use Rattle.tropical_weight.specs.Limits.{node_limit, link_limit, list_limit}
use Rattle.sheet.specs.Sheet.{long_trailer, trailer_length}
use Rattle.sheet.specs.Machine.{Machine, machine}
use Rattle.sheet.proofs.Forms.{size-most}
use Rattle.sheet.proofs.Round.{Below}
use Rattle.machine.specs.Readings.{marked}
use Rattle.machine.specs.Input.{input_number}
use Rattle.machine.specs.declared.climbing.Machine.{Machine as Climbing}
use Rattle.machine.proofs.Machines.{form-of}
use Rattle.machine.proofs.SheetFields.{finals-counted}
use Rattle.read_back.proofs.Follow.{fields_in}
use Rattle.search.specs.ListMachine.{result_for, result_bytes}
use Rattle.search.proofs.Lists.{Accepted, accepted, marked-few, result-form}
use Rattle.search.proofs.Sizes.{result-length, zero-holds, one_holds, many-holds}
use Rattle.machine.specs.Finals.{final_count}
use Rattle.sheet.specs.Sheet.{parts_of}
use Rattle.sheet.proofs.Sources.{machine-nodes}
use Rattle.slots.specs.Slots.{slot_length}
use Rattle.shortest_distance.specs.Outcome.{distance_number}
use Rattle.shortest_distance.proofs.Outcomes.{number-room}
use Rattle.shortest_path.specs.Outcome.{answer_of, slots_needed, tested_number, list_number}
use Rattle.shortest_path.proofs.Outcomes.{tested-seven, tested-last, number-areas}
use Rattle.list_answer.specs.ListAnswer.{slots_of}
use Rattle.yeldmur.specs.Areas.{entries_bytes, bytes_of, bytes_for, bytes_enough, Enough, counts_number, finals_of, Serves}

pub bytes-many : (trailer nodes links finals n : ℕ) → 2 ≤ n → bytes_of trailer nodes links finals n ≡ entries_bytes trailer (1 + finals + n * (links + 1)) n
bytes-many trailer nodes links finals zero h = absurd (omega arith)
bytes-many trailer nodes links finals (suc zero) h = absurd (omega arith)
bytes-many trailer nodes links finals (suc (suc k)) h = refl

-- a result's trailer is the machine's
own : (m : Machine) (n : ℕ) → trailer_length (result_for m n).machine.form ≡ trailer_length m.form
own m n = ap trailer_length (result-form m n)

-- the result of an accepted machine is no longer
result-short : (m : Machine) → Accepted m → (n : ℕ) → n ≤ list_limit → length (result_bytes (result_for m n)) ≤ bytes_for m n
result-short m a zero b = let s = zero-holds m a in omega (arith, result-length (result_for m 0) s.storable, own m 0, s.few-nodes, s.few-links)
result-short m a (suc zero) b = let s = one_holds m a in omega (arith, result-length (result_for m 1) s.storable, own m 1, s.few-nodes, s.few-links)
result-short m a (suc (suc k)) b = let s = many-holds m a (suc (suc k)) (omega arith) b in omega (arith, result-length (result_for m (suc (suc k))) s.storable, own m (suc (suc k)), s.few-nodes, s.few-links)

module _ (sheet : List ℕ) (below : Below 256 sheet) where
  -- neither 20 nor 21 is given, of a list
  list-fits : (n words room : ℕ) → input_number sheet ≡ 0 → n ≤ list_limit → slot_length * slots_needed sheet n ≤ words → bytes_enough sheet n ≤ room → list_number sheet n words room ≡ 0
  list-fits n words room ok few long wide =
      let roomy : slots_needed sheet n ≤ words / 8 = omega (arith, long) in
      let short : length (answer_of sheet n) ≤ room = omega (arith, wide, result-short (machine sheet) (accepted sheet below ok) n few) in
      number-areas sheet n words room ok few
      ∙ ap {B = ℕ} (λ (b : Bool). cond b 20 (cond (ltb room (length (answer_of sheet n))) 21 0)) (le-ltb (words / 8) (slots_needed sheet n) roomy)
      ∙ ap {B = ℕ} (λ (b : Bool). cond b 21 0) (le-ltb room (length (answer_of sheet n)) short)

  -- nor of distances, in areas for one reading
  distances-fit : (n words room : ℕ) → n ≡ 1 → input_number sheet ≡ 0 → slot_length * slots_needed sheet n ≤ words → bytes_enough sheet n ≤ room → distance_number sheet words room ≡ 0
  distances-fit n words room one ok long wide =
      let slots : slot_length * slots_needed sheet 1 ≤ words = subst (λ (k : ℕ). slot_length * slots_needed sheet k ≤ words) one long in
      let bytes : bytes_enough sheet 1 ≤ room = subst (λ (k : ℕ). bytes_enough sheet k ≤ room) one wide in
      number-room sheet words room ok (omega (arith, slots, machine-nodes (parts_of sheet))) (omega (arith, bytes, machine-nodes (parts_of sheet)))

  pub enough : (n slots bytes : ℕ) → input_number sheet ≡ 0 → n ≤ list_limit → slots_needed sheet n ≤ slots → bytes_enough sheet n ≤ bytes → Enough sheet n slots bytes
  enough n slots bytes ok few s b = record {
    list = λ words room long wide. list-fits n words room ok few (omega (arith, s, long)) (omega (arith, b, wide));
    distances = λ one words room long wide. distances-fit n words room one ok (omega (arith, s, long)) (omega (arith, b, wide));
  }

-- ---- more of each count needs no less
module _ (N T F nodes links finals : ℕ) (hN : N ≤ nodes) (hT : T ≤ links) (hF : F ≤ finals) where
  entries-more : (n : ℕ) → n * (T + 1) ≤ n * (links + 1)
  entries-more n = mul-le-mul_left n (omega (arith, hT))

  pub slots-more : (n : ℕ) → slots_of N T F n ≤ slots_of nodes links finals n
  slots-more zero = omega arith
  slots-more (suc zero) = hN
  slots-more (suc (suc k)) = omega (arith, hN, hT, hF, entries-more (suc (suc k)))

  pub bytes-more : (short trailer n : ℕ) → short ≤ trailer → bytes_of short N T F n ≤ bytes_of trailer nodes links finals n
  bytes-more short trailer zero h = omega (arith, h)
  bytes-more short trailer (suc zero) h = omega (arith, hN, h)
  bytes-more short trailer (suc (suc k)) h = omega (arith, hF, h, entries-more (suc (suc k)))

-- at most the lesser of the two
finals-most : (F nodes finals : ℕ) → F ≤ nodes → F ≤ finals → F ≤ finals_of nodes finals
finals-most F nodes finals h g = go (ltb nodes finals)
  where
    go : (b : Bool) → F ≤ cond b nodes finals
    go true = h
    go false = g

pub serves : (nodes links finals n slots bytes : ℕ) → n ≤ list_limit → slots ≡ slots_of nodes links (finals_of nodes finals) n → bytes ≡ bytes_of long_trailer nodes links (finals_of nodes finals) n → Serves nodes links finals n slots bytes
serves nodes links finals n slots bytes few s b sheet below ok hN hT hF =
    let m = machine sheet in
    let F = marked m.finals in
    let most : F ≤ finals_of nodes finals = finals-most F nodes finals (le_trans (marked-few m.finals) hN) hF in
    let room = slots-more (length m.finals) (length m.links) F nodes links (finals_of nodes finals) hN hT most n in
    let wide = bytes-more (length m.finals) (length m.links) F nodes links (finals_of nodes finals) hN hT most (trailer_length m.form) long_trailer n (size-most m.form) in
    enough sheet below n slots bytes ok few (le_trans room (le_of_eq (sym s))) (le_trans wide (le_of_eq (sym b)))

-- ---- the number by counts
module _ (nodes links n : ℕ) where
  pub counts-nodes : node_limit < nodes → counts_number nodes links n ≡ 5
  counts-nodes h = ap {B = ℕ} (λ (b : Bool). cond (not (b && leb links link_limit)) 5 (cond (ltb list_limit n) 7 0)) (lt-leb nodes node_limit h)

  pub counts-links : link_limit < links → counts_number nodes links n ≡ 5
  counts-links h = ap {B = ℕ} (λ (b : Bool). cond (not b) 5 (cond (ltb list_limit n) 7 0)) (ap (λ (b : Bool). leb nodes node_limit && b) (lt-leb links link_limit h) ∙ and-false (leb nodes node_limit))

  module _ (few : nodes ≤ node_limit) (fewer : links ≤ link_limit) where
    counts-fit : counts_number nodes links n ≡ cond (ltb list_limit n) 7 0
    counts-fit = λ i. cond (not (le-leb nodes node_limit few i && le-leb links link_limit fewer i)) 5 (cond (ltb list_limit n) 7 0)

    pub counts-n : list_limit < n → counts_number nodes links n ≡ 7
    counts-n h = counts-fit ∙ ap {B = ℕ} (λ (b : Bool). cond b 7 0) (lt-ltb list_limit n h)

    pub counts_zero : n ≤ list_limit → counts_number nodes links n ≡ 0
    counts_zero h = counts-fit ∙ ap {B = ℕ} (λ (b : Bool). cond b 7 0) (le-ltb list_limit n h)

-- ---- of a machine's own counts
module _ (c : Climbing) (finals : ℕ) (counted : finals ≡ final_count c.sheet.bytes.now c.sheet.links c.sheet.nodes) (n : ℕ) where
  abbrev sheet : List ℕ
  sheet = c.sheet.bytes.now

  nodes-are : c.sheet.nodes ≡ length (machine c.sheet.bytes.now).finals
  nodes-are = sym (fields_in c).nodes-are

  links-are : c.sheet.links ≡ length (machine c.sheet.bytes.now).links
  links-are = sym (fields_in c).links-are

  form-is : c.sheet.form ≡ (machine c.sheet.bytes.now).form
  form-is = sym (form-of c.sheet)

  finals-are : finals ≡ marked (machine c.sheet.bytes.now).finals
  finals-are = counted ∙ finals-counted (fields_in c)

  pub number_same : counts_number c.sheet.nodes c.sheet.links n ≡ tested_number c.sheet.bytes.now n 0
  number_same = go (ltb list_limit n) refl
    where
      nodes : c.sheet.nodes ≤ node_limit
      nodes = (fields_in c).few-nodes

      links : c.sheet.links ≤ link_limit
      links = (fields_in c).few-links

      go : (b : Bool) → ltb list_limit n ≡ b → counts_number c.sheet.nodes c.sheet.links n ≡ tested_number sheet n 0
      go true q = counts-n c.sheet.nodes c.sheet.links n nodes links (ltb-true list_limit n q) ∙ sym (tested-seven sheet n 0 c.climbs (ltb-true list_limit n q))
      go false q = counts_zero c.sheet.nodes c.sheet.links n nodes links (ltb-false list_limit n q) ∙ sym (tested-last sheet n 0 c.climbs (ltb-false list_limit n q))

  pub slots-told : slots_of c.sheet.nodes c.sheet.links finals n ≡ slots_needed c.sheet.bytes.now n
  slots-told = λ i. slots_of (nodes-are i) (links-are i) (finals-are i) n

  pub bytes-told : (trailer : ℕ) → trailer ≡ trailer_length c.sheet.form → bytes_of trailer c.sheet.nodes c.sheet.links finals n ≡ bytes_enough c.sheet.bytes.now n
  bytes-told trailer e = λ i. bytes_of ((e ∙ ap trailer_length form-is) i) (nodes-are i) (links-are i) (finals-are i) n
