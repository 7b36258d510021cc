-- What the calls answer, by the way the code goes; of an answer they tell its list, and of any bytes a reading of the sheet. Assumes nothing.
use mathlib.Core.Path.{◌≡◌, refl, sym, ap, ◌∙◌, subst}
use mathlib.Core.Bool.{Bool, true, false, not, ◌&&◌, cond}
use mathlib.Core.Option.{Option, none, some}
use Rattle.std.specs.Prelude.{Result, Ok, Err}
use mathlib.Core.List.{List, []}
use Prim.Native.Nat.{ℕ, zero, suc, ◌≤◌, ◌<◌}
use native.Mathlib.Omega.{arith}
use lib.Dec.{eqb, leb, ltb}
use lib.ListN.{length, get_or, drop, length-map}
use lib.Seq.{sets, length-sets}
use borrow.Author.Tests.{lt-ltb, le-ltb, le-leb, lt-leb, leb-true, ltb-true, ltb-false, ne_eqb, eqb-true}
use Rattle.tropical_weight.specs.Limits.{list_limit}
use Rattle.tropical_weight.specs.Tropical.{Tropical, fin}
use Rattle.sheet.specs.Sheet.{trailer_length}
use Rattle.sheet.specs.Machine.{Machine, machine}
use Rattle.sheet.proofs.Apart.{both}
use Rattle.sheet.proofs.Forms.{size-least}
use Rattle.sheet.proofs.Round.{Below}
use Rattle.machine.specs.Readings.{IsReading, reading_of, reading_cost}
use Rattle.machine.specs.Input.{input_number}
use Rattle.search.specs.ListMachine.{result_for}
use Rattle.search.specs.Listed.{list_of}
use Rattle.search.proofs.Results.{empty_back}
use Rattle.search.proofs.Lists.{Accepted, accepted, list_in, demand-result, result-form}
use Rattle.shortest_path.specs.Outcome.{tested_number, answer_of}
use Rattle.shortest_path.proofs.Joining.{zero-empty}
use Rattle.shortest_path.proofs.Outcomes.{tested-input, tested-seven, tested-last, tested-zero}
use Rattle.sheet.specs.declared.form.Form.{Form}
use Rattle.sheet.specs.declared.refusal.Refusal.{Refusal}
use Rattle.sheet.specs.Refusals.{number_of, answer_by, answer}
use Rattle.sheet.proofs.Refusals.{answer-ok, answer-err, number-positive, answer-none}
use Rattle.read_back.specs.declared.reading.Told.{Told}
use Rattle.read_back.specs.Way.{answer_bytes, count_in, is_list, way_of}
use Rattle.read_back.specs.Follows.{reads_to, run_by, if_reading}
use Rattle.read_back.specs.Answers.{count_number, count_answer, units_in, held_reading, room_number, held_number, reading_number, reading_told, run_in, held_told, held_after, reading_answer, run_after}
use Rattle.read_back.specs.Promise.{IsAnswer, CountsList, ReadsList, IsTrue, TellsTrue}
use Rattle.read_back.proofs.Ways.{stored-front}
use Rattle.read_back.proofs.Follow.{Reads, reads-is, is-reads}
use Rattle.read_back.proofs.Backs.{ReadsBack, result-reads, listed-reading}

-- ---- how many readings
module _ (form : Form) (result : List ℕ) (n nodes links : ℕ) where
  pub list-short : length result < answer_bytes form result nodes links → is_list form result nodes links n ≡ false
  list-short h = ap (λ (b : Bool). b && leb (count_in result nodes links n) n) (lt-leb (answer_bytes form result nodes links) (length result) h)

  list-by : answer_bytes form result nodes links ≤ length result → is_list form result nodes links n ≡ leb (count_in result nodes links n) n
  list-by h = ap (λ (b : Bool). b && leb (count_in result nodes links n) n) (le-leb (answer_bytes form result nodes links) (length result) h)

  pub list-more : answer_bytes form result nodes links ≤ length result → n < count_in result nodes links n → is_list form result nodes links n ≡ false
  list-more h k = list-by h ∙ lt-leb (count_in result nodes links n) n k

  pub list-is : answer_bytes form result nodes links ≤ length result → count_in result nodes links n ≤ n → is_list form result nodes links n ≡ true
  list-is h k = list-by h ∙ le-leb (count_in result nodes links n) n k

  pub list-long : is_list form result nodes links n ≡ true → answer_bytes form result nodes links ≤ length result
  list-long e = leb-true (answer_bytes form result nodes links) (length result) (both (leb (answer_bytes form result nodes links) (length result)) (leb (count_in result nodes links n) n) e).0

  pub count-large : list_limit < n → count_number form result n nodes links ≡ 7
  unfolding count_number
  count-large h = ap {B = ℕ} (λ (b : Bool). cond b 7 (cond (not (is_list form result nodes links n)) 30 0)) (lt-ltb list_limit n h)

  count-few : n ≤ list_limit → count_number form result n nodes links ≡ cond (not (is_list form result nodes links n)) 30 0
  unfolding count_number
  count-few h = ap {B = ℕ} (λ (b : Bool). cond b 7 (cond (not (is_list form result nodes links n)) 30 0)) (le-ltb list_limit n h)

  pub count_none : n ≤ list_limit → is_list form result nodes links n ≡ false → count_number form result n nodes links ≡ 30
  count_none h e = count-few h ∙ ap {B = ℕ} (λ (b : Bool). cond (not b) 30 0) e

  pub count-some : n ≤ list_limit → is_list form result nodes links n ≡ true → count_number form result n nodes links ≡ 0
  count-some h e = count-few h ∙ ap {B = ℕ} (λ (b : Bool). cond (not b) 30 0) e

  -- number 0 comes of a list for an n that is not too large
  pub count-zero : count_number form result n nodes links ≡ 0 → (n ≤ list_limit) × (is_list form result nodes links n ≡ true)
  count-zero e = go (ltb list_limit n) refl
    where
      listed : n ≤ list_limit → (b : Bool) → is_list form result nodes links n ≡ b → (n ≤ list_limit) × (is_list form result nodes links n ≡ true)
      listed h true q = (h, q)
      listed h false q = absurd (omega (arith, e, count_none h q))

      go : (b : Bool) → ltb list_limit n ≡ b → (n ≤ list_limit) × (is_list form result nodes links n ≡ true)
      go true q = absurd (omega (arith, e, count-large (ltb-true list_limit n q)))
      go false q = listed (ltb-false list_limit n q) (is_list form result nodes links n) refl

-- so the answers of the count
module _ (result : List ℕ) (n nodes links : ℕ) where
  pub counted-large : list_limit < n → Err Refusal.Count ≡ count_answer result n nodes links
  counted-large h = sym (answer-err (count_in result nodes links n) (count_number Form.Short result n nodes links) Refusal.Count (count-large Form.Short result n nodes links h))

  pub counted_none : n ≤ list_limit → is_list Form.Short result nodes links n ≡ false → Err Refusal.NoAnswer ≡ count_answer result n nodes links
  counted_none h e = sym (answer-err (count_in result nodes links n) (count_number Form.Short result n nodes links) Refusal.NoAnswer (count_none Form.Short result n nodes links h e))

  pub counted-some : n ≤ list_limit → is_list Form.Short result nodes links n ≡ true → Ok (count_in result nodes links n) ≡ count_answer result n nodes links
  counted-some h e = sym (answer-ok (count_in result nodes links n) (count_number Form.Short result n nodes links) (count-some Form.Short result n nodes links h e))

-- ---- an answer by its number
pub answer-as : {A : Type 0} (a b : A) (k : ℕ) → k ≡ 0 → a ≡ b → answer a k ≡ Ok b
answer-as a b k e h = λ i. answer (h i) (e i)

-- ---- the answer of the call for lists
module _ (sheet : List ℕ) (below : Below 256 sheet) (n : ℕ) (result : List ℕ) (nodes links : ℕ) (h : IsAnswer sheet n result nodes links) where
  abbrev m : Machine
  m = machine sheet

  a : Accepted m
  a = accepted sheet below h.accepted

  abbrev rest : List ℕ
  rest = drop (length (answer_of sheet n)) result

  abbrev list : List (List ℕ)
  list = list_in n (result_for m n) rest

  back : ReadsBack n (result_for m n) rest
  back = result-reads m a n h.few rest

  pub list_same : list_of (machine sheet).form n nodes links result ≡ list_in n (result_for (machine sheet) n) (drop (length (answer_of sheet n)) result)
  list_same = λ i. list_of (sym (result-form m n) i) n (h.nodes-are i) (h.links-are i) (h.bytes i)

  long : answer_bytes (machine sheet).form result nodes links ≤ length result
  long = omega (arith, back.long, h.nodes-are, h.links-are, ap length h.bytes, ap trailer_length (result-form m n))

  pub answer-count : count_in result nodes links n ≡ length (list_of (machine sheet).form n nodes links result)
  answer-count = (λ i. count_in (h.bytes i) (h.nodes-are i) (h.links-are i) n) ∙ back.counts ∙ ap length (sym list_same)

  -- at most n readings
  few : length list ≤ n
  few = go n h.few
    where
      go : (n : ℕ) → n ≤ list_limit → length (list_in n (result_for m n) rest) ≤ n
      go zero b = omega (arith, ap length (ap (λ r. list_in 0 r rest) (zero-empty m) ∙ empty_back m.form a.unit-word 0 rest))
      go (suc k) b = omega (arith, (demand-result m a (suc k) (omega arith) b rest).size, length-map (list_in (suc k) (result_for m (suc k)) rest) (reading_of m))

  pub answer-few : length (list_of (machine sheet).form n nodes links result) ≤ n
  answer-few = omega (arith, few, ap length list_same)

  pub answer-list : is_list (machine sheet).form result nodes links n ≡ true
  answer-list = list-is (machine sheet).form result n nodes links long (omega (arith, answer-count, answer-few))

  -- it is long enough for the shorter trailer, too
  pub answer-counted : is_list Form.Short result nodes links n ≡ true
  answer-counted = list-is Form.Short result n nodes links (omega (arith, long, size-least m.form)) (omega (arith, answer-count, answer-few))

  module _ (k : ℕ) (b : k < length (list_of (machine sheet).form n nodes links result)) where
    way : way_of (machine sheet).form result nodes links n k ≡ some (get_or (list_of (machine sheet).form n nodes links result) k [])
    way =
        (λ i. way_of (sym (result-form m n) i) (h.bytes i) (h.nodes-are i) (h.links-are i) n k) ∙ back.each k (omega (arith, ap length list_same))
        ∙ ap (λ (l : List (List ℕ)). some (get_or l k [])) (sym list_same)

    pub answer-reading : IsReading (machine sheet) (reading_of (machine sheet) (get_or (list_of (machine sheet).form n nodes links result) k []))
    answer-reading =
        subst (λ (l : List (List ℕ)). IsReading m (reading_of m (get_or l k []))) (sym list_same)
        (listed-reading m a n (omega (arith, b, answer-few)) h.few rest k (omega (arith, ap length list_same)))

    pub answer-held : held_reading (machine sheet) result n nodes links k ≡ some (get_or (list_of (machine sheet).form n nodes links result) k [])
    answer-held = ap (if_reading m) way ∙ ap (run_by (get_or (list_of (machine sheet).form n nodes links result) k [])) (is-reads m (get_or (list_of (machine sheet).form n nodes links result) k []) answer-reading)

pub counts-list : (result : List ℕ) (n nodes links : ℕ) (told : Result ℕ Refusal) → told ≡ count_answer result n nodes links → CountsList result n nodes links told
counts-list result n nodes links told e sheet below h =
    let count = answer-count sheet below n result nodes links h in
    e ∙ answer-as (count_in result nodes links n) (length (list_of (machine sheet).form n nodes links result)) (count_number Form.Short result n nodes links) (count-some Form.Short result n nodes links h.few (answer-counted sheet below n result nodes links h)) count

-- ---- one reading
module _ (sheet : List ℕ) (n : ℕ) (result : List ℕ) (nodes links k room : ℕ) where
  abbrev held : Option (List ℕ)
  held = held_reading (machine sheet) result n nodes links k

  abbrev number : ℕ
  number = reading_number sheet n result nodes links k room

  -- refused before the list is looked at, with it, and where there is no reading k
  number-input : (input_number sheet ≡ 0 → ⊥) → number ≡ input_number sheet
  unfolding reading_number
  number-input d = tested-input sheet n (held_number (machine sheet) result n nodes links k room) d

  pub number_counts : input_number sheet ≡ 0 → (count_number (machine sheet).form result n nodes links ≡ 0 → ⊥) → reading_number sheet n result nodes links k room ≡ count_number (machine sheet).form result n nodes links
  unfolding reading_number
  number_counts e d = go (ltb list_limit n) refl
    where
      listed : n ≤ list_limit → (b : Bool) → is_list (machine sheet).form result nodes links n ≡ b → tested_number sheet n (held_number (machine sheet) result n nodes links k room) ≡ count_number (machine sheet).form result n nodes links
      listed h true q = absurd (d (count-few (machine sheet).form result n nodes links h ∙ ap {B = ℕ} (λ (b : Bool). cond (not b) 30 0) q))
      listed h false q =
          tested-last sheet n (held_number (machine sheet) result n nodes links k room) e h
          ∙ ap {B = ℕ} (λ (b : Bool). cond (not b) 30 (cond (leb (count_in result nodes links n) k) 31 (room_number held room))) q
          ∙ sym (count-few (machine sheet).form result n nodes links h ∙ ap {B = ℕ} (λ (b : Bool). cond (not b) 30 0) q)

      go : (b : Bool) → ltb list_limit n ≡ b → tested_number sheet n (held_number (machine sheet) result n nodes links k room) ≡ count_number (machine sheet).form result n nodes links
      go true q = let h = ltb-true list_limit n q in tested-seven sheet n (held_number (machine sheet) result n nodes links k room) e h ∙ sym (count-large (machine sheet).form result n nodes links h)
      go false q = listed (ltb-false list_limit n q) (is_list (machine sheet).form result nodes links n) refl

  module _ (e : input_number sheet ≡ 0) (h : n ≤ list_limit) (is : is_list (machine sheet).form result nodes links n ≡ true) where
    number-listed : number ≡ cond (leb (count_in result nodes links n) k) 31 (room_number held room)
    unfolding reading_number
    number-listed =
        tested-last sheet n (held_number (machine sheet) result n nodes links k room) e h
        ∙ ap {B = ℕ} (λ (b : Bool). cond (not b) 30 (cond (leb (count_in result nodes links n) k) 31 (room_number held room))) is

    pub number-absent : count_in result nodes links n ≤ k → reading_number sheet n result nodes links k room ≡ 31
    number-absent b = number-listed ∙ ap {B = ℕ} (λ (b : Bool). cond b 31 (room_number held room)) (le-leb (count_in result nodes links n) k b)

    pub number-room : k < count_in result nodes links n → reading_number sheet n result nodes links k room ≡ room_number (held_reading (machine sheet) result n nodes links k) room
    number-room b = number-listed ∙ ap {B = ℕ} (λ (b : Bool). cond b 31 (room_number held room)) (lt-leb (count_in result nodes links n) k b)

  pub answer-input : (x : ℕ) → (x ≡ 0 → ⊥) → input_number sheet ≡ x → reading_number sheet n result nodes links k room ≡ x
  answer-input x d e = number-input (λ z. d (sym e ∙ z)) ∙ e

pub run-refused : (sheet : List ℕ) (n : ℕ) (result : List ℕ) (nodes links k x : ℕ) (run : List ℕ) → (x ≡ 0 → ⊥) → reading_number sheet n result nodes links k (length run) ≡ x → run ≡ run_after sheet n result nodes links k run
run-refused sheet n result nodes links k x run d e =
    sym (ap (λ (j : ℕ). cond (eqb j 0) (sets run 0 (run_in (held_reading (machine sheet) result n nodes links k))) run) e
    ∙ ap (λ (b : Bool). cond b (sets run 0 (run_in (held_reading (machine sheet) result n nodes links k))) run) (ne_eqb x 0 d))

-- ---- by the reading that is held
module _ (m : Machine) (o : Option (List ℕ)) (run : List ℕ) where
  pub held_none : o ≡ none → room_number o (length run) ≡ 30
  held_none e = ap (λ (o : Option (List ℕ)). room_number o (length run)) e

  pub told-refused : (r : Refusal) → room_number o (length run) ≡ number_of r → (Err r ≡ held_told m o (length run)) × (run ≡ held_after o run)
  told-refused r e = (
    answer-none (reading_told m (run_in o)) (room_number o (length run)) r (sym e),
    sym (ap (λ (b : Bool). cond b (sets run 0 (run_in o)) run) (ne_eqb (room_number o (length run)) 0 (λ z. number-positive r (sym e ∙ z)))),
  )

  module _ (way : List ℕ) (e : o ≡ some way) where
    pub held-short : length run < length way → room_number o (length run) ≡ 21
    held-short h = ap (λ (o : Option (List ℕ)). room_number o (length run)) e ∙ ap {B = ℕ} (λ (b : Bool). cond b 21 0) (lt-ltb (length run) (length way) h)

    pub told-there : length way ≤ length run → (Ok (reading_told m way) ≡ held_told m o (length run)) × (sets run 0 way ≡ held_after o run)
    told-there h =
        let zero : room_number o (length run) ≡ 0 = ap (λ (o : Option (List ℕ)). room_number o (length run)) e ∙ ap {B = ℕ} (λ (b : Bool). cond b 21 0) (le-ltb (length run) (length way) h) in
        let is = ap run_in e in (
          sym (answer-as (reading_told m (run_in o)) (reading_told m way) (room_number o (length run)) zero (ap (reading_told m) is)),
          sym (ap (λ (j : ℕ). cond (eqb j 0) (sets run 0 (run_in o)) run) zero ∙ ap (sets run 0) is),
        )

-- ---- the promises
-- of the answer of the call for lists, its list
module _ (sheet : List ℕ) (below : Below 256 sheet) (n : ℕ) (result : List ℕ) (nodes links k : ℕ) (old : List ℕ) where
  pub reads-list : (told : Result Told Refusal) (run : List ℕ) → told ≡ reading_answer sheet n result nodes links k (length old) → run ≡ run_after sheet n result nodes links k old → ReadsList sheet n result nodes links k old told run
  reads-list told run e s h b r =
      let m = machine sheet in
      let way = get_or (list_of (machine sheet).form n nodes links result) k [] in
      let held = answer-held sheet below n result nodes links h k b in
      let zero : reading_number sheet n result nodes links k (length old) ≡ 0 =
      number-room sheet n result nodes links k (length old) h.accepted h.few (answer-list sheet below n result nodes links h) (omega (arith, answer-count sheet below n result nodes links h))
      ∙ ap (λ (o : Option (List ℕ)). room_number o (length old)) held ∙ ap {B = ℕ} (λ (b : Bool). cond b 21 0) (le-ltb (length old) (length way) r) in (
        e ∙ answer-as (reading_told m (run_in (held_reading m result n nodes links k))) (reading_told m way) (reading_number sheet n result nodes links k (length old)) zero (ap (λ (o : Option (List ℕ)). reading_told m (run_in o)) held),
        s ∙ ap (λ (x : ℕ). cond (eqb x 0) (sets old 0 (run_in (held_reading m result n nodes links k))) old) zero ∙ ap (λ (o : Option (List ℕ)). sets old 0 (run_in o)) held,
      )

-- of any bytes, a reading of the sheet at its cost
module _ (sheet : List ℕ) (n : ℕ) (result : List ℕ) (nodes links k : ℕ) (old : List ℕ) where
  abbrev sm : Machine
  sm = machine sheet

  abbrev read : Option (List ℕ)
  read = held_reading sm result n nodes links k

  -- the run that is held is a reading
  held-is : (o : Option (List ℕ)) (way : List ℕ) → if_reading sm o ≡ some way → Reads sm way (reading_of sm way).end
  held-is none way e = let z : ◌≡◌ {A = ℕ} 0 1 = cc in absurd (omega arith)
  held-is (some run) way e = go (reads_to sm run) refl e
    where
      go : (o : Option ℕ) → reads_to sm run ≡ o → run_by run o ≡ some way → Reads sm way (reading_of sm way).end
      go none q z = let y : ◌≡◌ {A = ℕ} 0 1 = cc in absurd (omega arith)
      go (some v) q z =
          let same : run ≡ way = cc in
          record { reading = subst (λ (r : List ℕ). IsReading sm (reading_of sm r)) same (reads-is sm run v q).reading; ends = refl }

  -- number 0 comes of an accepted sheet, and a reading with room
  zero_held : reading_number sheet n result nodes links k (length old) ≡ 0 → (input_number sheet ≡ 0) × (room_number read (length old) ≡ 0)
  unfolding reading_number
  zero_held z =
      let t = tested-zero sheet n (held_number sm result n nodes links k (length old)) z in
      let last : held_number sm result n nodes links k (length old) ≡ 0 = sym (tested-last sheet n (held_number sm result n nodes links k (length old)) t.0 t.1) ∙ z in
      (t.0, go (is_list (machine sheet).form result nodes links n) (leb (count_in result nodes links n) k) last)
    where
      go : (b c : Bool) → cond (not b) 30 (cond c 31 (room_number read (length old))) ≡ 0 → room_number read (length old) ≡ 0
      go true true y = absurd (omega (arith, y))
      go true false y = y
      go false c y = absurd (omega (arith, y))

  room-some : (o : Option (List ℕ)) → room_number o (length old) ≡ 0 → (o ≡ some (run_in o)) × (length (run_in o) ≤ length old)
  room-some none z = absurd (omega (arith, z))
  room-some (some way) z = (refl, go (ltb (length old) (length way)) refl z)
    where
      go : (b : Bool) → ltb (length old) (length way) ≡ b → ◌≡◌ {A = ℕ} (cond b 21 0) 0 → length way ≤ length old
      go true q y = absurd (omega (arith, y))
      go false q y = ltb-false (length old) (length way) q

  is_true : input_number sheet ≡ 0 → (way : List ℕ) → read ≡ some way → length way ≤ length old → IsTrue sm (length way) (units_in (reading_cost sm (reading_of sm way))) (reading_of sm way).end (sets old 0 way)
  is_true e way r h =
      let front = stored-front old way h in
      let is = (held-is (way_of (machine sheet).form result nodes links n k) way r).reading in
      record {
        room = omega (arith, length-sets old 0 way, h);
        reading = subst (λ (x : List ℕ). IsReading sm (reading_of sm x)) (sym front) is;
        costs = ap (λ (c : Tropical). fin (units_in c)) is.finite ∙ sym is.finite ∙ ap (λ (x : List ℕ). reading_cost sm (reading_of sm x)) (sym front);
        ends = ap (λ (x : List ℕ). (reading_of sm x).end) (sym front);
      }

  pub tells-true : (told : Result Told Refusal) (run : List ℕ) → told ≡ reading_answer sheet n result nodes links k (length old) → run ≡ run_after sheet n result nodes links k old → TellsTrue (machine sheet) told run
  tells-true told run e s = go (eqb number 0) refl
    where
      number : ℕ
      number = reading_number sheet n result nodes links k (length old)

      go : (b : Bool) → eqb (reading_number sheet n result nodes links k (length old)) 0 ≡ b → TellsTrue sm told run
      go true q =
          let z = zero_held (eqb-true (reading_number sheet n result nodes links k (length old)) 0 q) in
          let r = room-some read z.1 in
          subst (λ (t : Result Told Refusal). TellsTrue sm t run) (sym (e ∙ ap (λ (b : Bool). answer_by b (reading_told sm (run_in read)) (reading_number sheet n result nodes links k (length old))) q))
          (subst (λ (x : List ℕ). TellsTrue sm (Ok (reading_told sm (run_in read))) x) (sym (s ∙ ap (λ (b : Bool). cond b (sets old 0 (run_in read)) old) q)) (is_true z.0 (run_in read) r.0 r.1))
      go false q = subst (λ (t : Result Told Refusal). TellsTrue sm t run) (sym (e ∙ ap (λ (b : Bool). answer_by b (reading_told sm (run_in read)) (reading_number sheet n result nodes links k (length old))) q)) tt

-- ---- all that the call promises
module _ (sheet : List ℕ) (below : Below 256 sheet) (n : ℕ) (result : List ℕ) (nodes links k : ℕ) (old : List ℕ) where
  abbrev pub Answered : Result Told Refusal → List ℕ → Type 0
  Answered told run = record {
    value : told ≡ reading_answer sheet n result nodes links k (length old);
    run_new : run ≡ run_after sheet n result nodes links k old;
    reads_list : ReadsList sheet n result nodes links k old told run;
    tells_true : TellsTrue (machine sheet) told run;
  }

  -- from the two equations
  whole : (told : Result Told Refusal) (run : List ℕ) → told ≡ reading_answer sheet n result nodes links k (length old) → run ≡ run_after sheet n result nodes links k old → Answered told run
  whole told run e s = record {
    value = e;
    run_new = s;
    reads_list = reads-list sheet below n result nodes links k old told run e s;
    tells_true = tells-true sheet n result nodes links k old told run e s;
  }

  -- refused by its number
  pub answered : (r : Refusal) → reading_number sheet n result nodes links k (length old) ≡ number_of r → Answered (Err r) old
  answered r e =
      whole (Err r) old (answer-none (reading_told (machine sheet) (run_in (held_reading (machine sheet) result n nodes links k))) (reading_number sheet n result nodes links k (length old)) r (sym e))
      (run-refused sheet n result nodes links k (number_of r) old (number-positive r) e)

  -- by the reading that is held
  pub answered-held : input_number sheet ≡ 0 → n ≤ list_limit → is_list (machine sheet).form result nodes links n ≡ true → k < count_in result nodes links n → (told : Result Told Refusal) (run : List ℕ)
      → told ≡ held_told (machine sheet) (held_reading (machine sheet) result n nodes links k) (length old) → run ≡ held_after (held_reading (machine sheet) result n nodes links k) old → Answered told run
  answered-held e h is b told run t s =
      let held = held_reading (machine sheet) result n nodes links k in
      let number = number-room sheet n result nodes links k (length old) e h is b in
      whole told run (t ∙ ap (λ (x : ℕ). answer (reading_told (machine sheet) (run_in held)) x) (sym number)) (s ∙ ap (λ (x : ℕ). cond (eqb x 0) (sets old 0 (run_in held)) old) (sym number))
