-- Marks and states: the lengths, the words that stay, and one turn more of each loop. Assumes nothing.
use mathlib.Core.Path.{◌≡◌, refl, sym, ap, ◌∙◌}
use mathlib.Core.Bool.{Bool, true, false, cond}
use mathlib.Core.List.{List}
use Prim.Native.Nat.{ℕ, zero, suc, ◌+◌, ◌-◌, ◌*◌, ◌%◌, ◌^◌, ◌≤◌, ◌<◌}
use native.Mathlib.Decide.{ℕ_discrete}
use native.Mathlib.Numerals.{add-one}
use native.Mathlib.Omega.{arith}
use lib.Dec.{eqb}
use lib.ListN.{length, get_or, set, length-set}
use lib.Seq.{get_or-set_same, get_or-set_other}
use borrow.Author.Tests.{eqb-true, ne_eqb}
use Rattle.search_slots.specs.Slots.{node_word, from_word, listed_word, state_word}
use Rattle.list_machine.specs.TrimWords.{unmarked, mark_listed, mark_from, mark_back, marks, mark_of, mark_count, number_one, numbered, states, stated, kept_count, Readable, Linked, Listable}
use Rattle.slots.specs.Slots.{slot_length}

-- no state's word of the entries below n
abbrev pub Other : ℕ → ℕ → Type 0
Other n a = a % 8 ≡ 7 → a < slot_length * n → ⊥

-- a state stored
set_other : (part : List ℕ) (n i x a : ℕ) → i < n → Other n a → get_or (set part (slot_length * i + 7) x) a 0 ≡ get_or part a 0
set_other part n i x a b h = get_or-set_other part (slot_length * i + 7) a x 0 (λ e. h (omega arith) (omega arith))

pub from-other : (n i : ℕ) → Other n (slot_length * i + 2)
from-other n i e b = omega arith

pub listed-other : (n i : ℕ) → Other n (slot_length * i + 6)
listed-other n i e b = omega arith

-- ---- cleared
pub length-unmarked : (k : ℕ) (part : List ℕ) → length (unmarked k part) ≡ length part
unfolding unmarked
length-unmarked zero part = refl
length-unmarked (suc k) part = length-set (unmarked k part) (slot_length * k + 7) 0 ∙ length-unmarked k part

pub unmarked-next : (k : ℕ) (part : List ℕ) → unmarked (k + 1) part ≡ set (unmarked k part) (slot_length * k + 7) 0
unfolding unmarked
unmarked-next k part = ap (λ (j : ℕ). unmarked j part) (add-one k)

pub unmarked-other : (n k : ℕ) (part : List ℕ) (a : ℕ) → k ≤ n → Other n a → get_or (unmarked k part) a 0 ≡ get_or part a 0
unfolding unmarked
unmarked-other n zero part a b h = refl
unmarked-other n (suc k) part a b h = set_other (unmarked k part) n k 0 a (omega arith) h ∙ unmarked-other n k part a (omega arith) h

-- ---- the listed
pub length-listed : (k : ℕ) (part : List ℕ) → length (mark_listed k part) ≡ length part
unfolding mark_listed
length-listed zero part = refl
length-listed (suc k) part = length-set (mark_listed k part) _ 1 ∙ length-listed k part

pub listed_next : (k : ℕ) (part : List ℕ) → mark_listed (k + 1) part ≡ set (mark_listed k part) (slot_length * listed_word (mark_listed k part) k + 7) 1
unfolding mark_listed
listed_next k part = ap (λ (j : ℕ). mark_listed j part) (add-one k)

pub listed-keeps : (n k : ℕ) (part : List ℕ) → ((j : ℕ) → j < k → listed_word part j < n) → (a : ℕ) → Other n a → get_or (mark_listed k part) a 0 ≡ get_or part a 0
unfolding mark_listed
listed-keeps n zero part b a h = refl
listed-keeps n (suc k) part b a h =
    let before : (a : ℕ) → Other n a → get_or (mark_listed k part) a 0 ≡ get_or part a 0 = listed-keeps n k part (λ j l. b j (omega arith)) in
    set_other (mark_listed k part) n (listed_word (mark_listed k part) k) 1 a (omega (arith, before (slot_length * k + 6) (listed-other n k), b k (omega arith))) h ∙ before a h

-- ---- those that they came from
pub length_from : (i : ℕ) (part : List ℕ) → length (mark_from i part) ≡ length part
length_from i part = go (eqb (state_word part i) 0)
  where
    go : (t : Bool) → length (cond t part (set part (slot_length * from_word part i + 7) 1)) ≡ length part
    go true = refl
    go false = length-set part (slot_length * from_word part i + 7) 1

pub from-keeps : (n i : ℕ) (part : List ℕ) → from_word part i < n → (a : ℕ) → Other n a → get_or (mark_from i part) a 0 ≡ get_or part a 0
from-keeps n i part b a h = go (eqb (state_word part i) 0)
  where
    go : (t : Bool) → get_or (cond t part (set part (slot_length * from_word part i + 7) 1)) a 0 ≡ get_or part a 0
    go true = refl
    go false = set_other part n (from_word part i) 1 a b h

pub length_back : (k : ℕ) (part : List ℕ) → length (mark_back k part) ≡ length part
unfolding mark_back
length_back zero part = refl
length_back (suc k) part = length_back k (mark_from (suc k) part) ∙ length_from (suc k) part

pub back_none : (part : List ℕ) → mark_back 0 part ≡ part
unfolding mark_back
back_none part = refl

pub back-next : (k : ℕ) (part : List ℕ) → 0 < k → mark_back k part ≡ mark_back (k - 1) (mark_from k part)
unfolding mark_back
back-next zero part h = absurd (omega arith)
back-next (suc k) part h = ap (λ (j : ℕ). mark_back j (mark_from (suc k) part)) (let e : k ≡ suc k - 1 = omega arith in e)

pub back-keeps : (n k : ℕ) (part : List ℕ) → ((i : ℕ) → 0 < i → i ≤ k → from_word part i < n) → (a : ℕ) → Other n a → get_or (mark_back k part) a 0 ≡ get_or part a 0
unfolding mark_back
back-keeps n zero part b a h = refl
back-keeps n (suc k) part b a h =
    let one : (a : ℕ) → Other n a → get_or (mark_from (suc k) part) a 0 ≡ get_or part a 0 = from-keeps n (suc k) part (b (suc k) (omega arith) (omega arith)) in
    back-keeps n k (mark_from (suc k) part) (λ i p l. omega (arith, one (slot_length * i + 2) (from-other n i), b i p (omega arith))) a h ∙ one a h

-- ---- numbered
pub length-one : (i count : ℕ) (part : List ℕ) → length (number_one i count part) ≡ length part
length-one i count part = go (eqb (state_word part i) 0)
  where
    go : (t : Bool) → length (cond t part (set part (slot_length * i + 7) (2 + count))) ≡ length part
    go true = refl
    go false = length-set part (slot_length * i + 7) (2 + count)

one-other : (n i count : ℕ) (part : List ℕ) (a : ℕ) → i < n → Other n a → get_or (number_one i count part) a 0 ≡ get_or part a 0
one-other n i count part a b h = go (eqb (state_word part i) 0)
  where
    go : (t : Bool) → get_or (cond t part (set part (slot_length * i + 7) (2 + count))) a 0 ≡ get_or part a 0
    go true = refl
    go false = set_other part n i (2 + count) a b h

pub length-numbered : (k : ℕ) (part : List ℕ) → length (numbered k part) ≡ length part
unfolding numbered
length-numbered zero part = refl
length-numbered (suc k) part = length-one (suc k) (mark_count part k) (numbered k part) ∙ length-numbered k part

pub numbered-other : (n k : ℕ) (part : List ℕ) (a : ℕ) → k < n → Other n a → get_or (numbered k part) a 0 ≡ get_or part a 0
unfolding numbered
numbered-other n zero part a b h = refl
numbered-other n (suc k) part a b h = one-other n (suc k) (mark_count part k) (numbered k part) a b h ∙ numbered-other n k part a (omega arith) h

-- a later entry keeps its mark
pub numbered-later : (k : ℕ) (part : List ℕ) (i : ℕ) → k < i → state_word (numbered k part) i ≡ state_word part i
numbered-later k part i h = numbered-other (suc k) k part (slot_length * i + 7) (omega arith) (λ e b. omega arith)

pub states-other : (n : ℕ) (part : List ℕ) (a : ℕ) → 0 < n → Other n a → get_or (states n part) a 0 ≡ get_or part a 0
states-other n part a b h = set_other (numbered (n - 1) part) n 0 1 a b h ∙ numbered-other n (n - 1) part a (omega arith) h

pub length-states : (n : ℕ) (part : List ℕ) → length (states n part) ≡ length part
length-states n part = length-set (numbered (n - 1) part) 7 1 ∙ length-numbered (n - 1) part

pub numbered_next : (i : ℕ) (part : List ℕ) → 0 < i → numbered i part ≡ number_one i (mark_count part (i - 1)) (numbered (i - 1) part)
unfolding numbered
numbered_next zero part h = absurd (omega arith)
numbered_next (suc k) part h = ap (λ (j : ℕ). number_one (suc k) (mark_count part j) (numbered j part)) (let e : k ≡ suc k - 1 = omega arith in e)

pub count_next : (i : ℕ) (part : List ℕ) → 0 < i → mark_count part i ≡ mark_count part (i - 1) + mark_of part i
unfolding mark_count
count_next zero part h = absurd (omega arith)
count_next (suc k) part h = ap (λ (j : ℕ). mark_count part j + mark_of part (suc k)) (let e : k ≡ suc k - 1 = omega arith in e)

-- the mark, read after the entries before it are numbered
pub mark-kept : (i : ℕ) (part : List ℕ) → 0 < i → mark_of (numbered (i - 1) part) i ≡ mark_of part i
mark-kept i part h = ap (λ (x : ℕ). cond (eqb x 0) 0 1) (numbered-later (i - 1) part i (omega arith))

pub mark-le : (part : List ℕ) (i : ℕ) → mark_of part i ≤ 1
mark-le part i = go (eqb (state_word part i) 0)
  where
    go : (t : Bool) → cond t 0 1 ≤ 1
    go true = omega arith
    go false = omega arith

pub count-le : (part : List ℕ) (k : ℕ) → mark_count part k ≤ k
unfolding mark_count
count-le part zero = omega arith
count-le part (suc k) = omega (arith, count-le part k, mark-le part (suc k))

-- ---- the states by entry
-- another entry's word stays
one_same : (i j count : ℕ) (part : List ℕ) → (i ≡ j → ⊥) → state_word (number_one j count part) i ≡ state_word part i
one_same i j count part h = go (eqb (state_word part j) 0)
  where
    go : (t : Bool) → state_word (cond t part (set part (slot_length * j + 7) (2 + count))) i ≡ state_word part i
    go true = refl
    go false = get_or-set_other part (slot_length * j + 7) (slot_length * i + 7) (2 + count) 0 (λ e. h (omega arith))

-- a mark's number
abbrev pub state_by : List ℕ → ℕ → ℕ
state_by part i = cond (eqb (state_word part i) 0) 0 (2 + mark_count part (i - 1))

one_at : (i count : ℕ) (part : List ℕ) → slot_length * i + 8 ≤ length part → state_word (number_one i count part) i ≡ cond (eqb (state_word part i) 0) 0 (2 + count)
one_at i count part h = go (eqb (state_word part i) 0) refl
  where
    go : (t : Bool) → eqb (state_word part i) 0 ≡ t → state_word (cond t part (set part (slot_length * i + 7) (2 + count))) i ≡ cond t 0 (2 + count)
    go true e = eqb-true (state_word part i) 0 e
    go false e = get_or-set_same part (slot_length * i + 7) (2 + count) 0 (omega arith)

pub numbered-at : (k : ℕ) (part : List ℕ) (i : ℕ) → 0 < i → i ≤ k → slot_length * i + 8 ≤ length part → state_word (numbered k part) i ≡ state_by part i
unfolding numbered
numbered-at zero part i a b h = absurd (omega arith)
numbered-at (suc k) part i a b h = go (ℕ_discrete i (suc k)) (λ c. numbered-at k part i a c h)
  where
    go : Dec (i ≡ suc k) → (i ≤ k → state_word (numbered k part) i ≡ state_by part i) → state_word (number_one (suc k) (mark_count part k) (numbered k part)) i ≡ state_by part i
    go (yes e) ih =
        let less : k ≡ i - 1 = omega arith in
        (λ j. state_word (number_one (sym e j) (mark_count part (less j)) (numbered k part)) i)
        ∙ one_at i (mark_count part (i - 1)) (numbered k part) (omega (arith, length-numbered k part))
        ∙ ap (λ (x : ℕ). cond (eqb x 0) 0 (2 + mark_count part (i - 1))) (numbered-later k part i (omega arith))
    go (no e) ih = one_same i (suc k) (mark_count part k) (numbered k part) e ∙ ih (omega (arith, e))

module _ (part : List ℕ) (n : ℕ) (slots : slot_length * n ≤ length part) where
  pub states-first : 0 < n → state_word (states n part) 0 ≡ 1
  states-first h = get_or-set_same (numbered (n - 1) part) 7 1 0 (omega (arith, length-numbered (n - 1) part))

  pub states-at : (i : ℕ) → 0 < i → i < n → state_word (states n part) i ≡ state_by part i
  states-at i a b = get_or-set_other (numbered (n - 1) part) 7 (slot_length * i + 7) 1 0 (λ e. omega arith) ∙ numbered-at (n - 1) part i a (omega arith) (omega arith)

  -- an entry is a state where it had a mark
  pub states-mark : (i : ℕ) → 0 < i → i < n → mark_of (states n part) i ≡ mark_of part i
  states-mark i a b = ap (λ (x : ℕ). cond (eqb x 0) 0 1) (states-at i a b) ∙ go (eqb (state_word part i) 0)
    where
      go : (t : Bool) → ◌≡◌ {A = ℕ} (cond (eqb (cond t 0 (2 + mark_count part (i - 1))) 0) 0 1) (cond t 0 1)
      go true = refl
      go false = ap (λ (t : Bool). cond t 0 1) (ne_eqb (2 + mark_count part (i - 1)) 0 (λ e. omega arith))

  pub states-count : (k : ℕ) → k < n → mark_count (states n part) k ≡ mark_count part k
  unfolding mark_count
  states-count zero h = refl
  states-count (suc k) h = omega (arith, states-count k (omega arith), states-mark (suc k) (omega arith) h)

-- ---- the bounds of each pass
module _ (part : List ℕ) (entries listed : ℕ) (x : Linked part entries listed) where
  pub listed-ready : (p : List ℕ) → p ≡ unmarked entries part → (slot_length * listed ≤ length p) × ((k : ℕ) → k < listed → slot_length * listed_word p k + 8 ≤ length p)
  listed-ready p e =
      let long : length p ≡ length part = ap length e ∙ length-unmarked entries part in (
        omega (arith, x.listed-slots),
        λ k h. omega (arith, x.slots, x.listed_in_lem k h, ap (λ (l : List ℕ). listed_word l k) e, unmarked-other entries entries part (slot_length * k + 6) (omega arith) (listed-other entries k)),
      )

  -- what the listed ones leave
  listed-left : (a : ℕ) → Other entries a → get_or (mark_listed listed (unmarked entries part)) a 0 ≡ get_or part a 0
  listed-left a h =
      listed-keeps entries listed (unmarked entries part) (λ j b. omega (arith, x.listed_in_lem j b, unmarked-other entries entries part (slot_length * j + 6) (omega arith) (listed-other entries j))) a h
      ∙ unmarked-other entries entries part a (omega arith) h

  pub back-ready : (p : List ℕ) → p ≡ mark_listed listed (unmarked entries part) → (0 < entries) × (slot_length * entries ≤ length p) × ((i : ℕ) → 0 < i → i < entries → slot_length * from_word p i + 8 ≤ length p)
  back-ready p e =
      let long : length p ≡ length part = ap length e ∙ length-listed listed (unmarked entries part) ∙ length-unmarked entries part in (
        x.some_in,
        omega (arith, x.slots),
        λ i a b. omega (arith, x.slots, x.came-in i a b, ap (λ (l : List ℕ). from_word l i) e, listed-left (slot_length * i + 2) (from-other entries i)),
      )

  -- only the words of states change
  pub marks-other : (a : ℕ) → Other entries a → get_or (marks entries listed part) a 0 ≡ get_or part a 0
  marks-other a h =
      back-keeps entries (entries - 1) (mark_listed listed (unmarked entries part)) (λ i p b. omega (arith, x.some_in, x.came-in i p (omega (arith, x.some_in)), listed-left (slot_length * i + 2) (from-other entries i))) a h ∙ listed-left a h

  pub length-marks : length (marks entries listed part) ≡ length part
  length-marks = length_back (entries - 1) (mark_listed listed (unmarked entries part)) ∙ length-listed listed (unmarked entries part) ∙ length-unmarked entries part

  pub stated-other : (a : ℕ) → Other entries a → get_or (stated entries listed part) a 0 ≡ get_or part a 0
  stated-other a h = states-other entries (marks entries listed part) a x.some_in h ∙ marks-other a h

  pub length-stated : length (stated entries listed part) ≡ length part
  length-stated = length-states entries (marks entries listed part) ∙ length-marks

-- ---- the bounds of writing, once the states are numbered
module _ (bytes : List ℕ) (links : ℕ) (part : List ℕ) (entries listed : ℕ) (x : Listable bytes links part entries listed) where
  abbrev new : List ℕ
  new = stated entries listed part

  long : length new ≡ length part
  long = length-stated part entries listed x.linked

  -- words 0 to 6 of a slot
  low : (i j : ℕ) → j < 7 → get_or new (slot_length * i + j) 0 ≡ get_or part (slot_length * i + j) 0
  low i j h = stated-other part entries listed x.linked (slot_length * i + j) (λ e b. omega arith)

  node-low : (i : ℕ) → node_word new i ≡ node_word part i
  node-low i = stated-other part entries listed x.linked (slot_length * i) (λ e b. omega arith)

  new-readable : (i : ℕ) → 0 < i → i < entries → Readable bytes links new i
  new-readable i a b =
      let r = x.readable i a b in
      let from = low i 2 (omega arith) in
      let input = low i 3 (omega arith) in
      let node = node-low i in
      record {
        slot = omega (arith, r.slot, long);
        from_in = omega (arith, r.from_in, long, from);
        input-in = λ h. omega (arith, r.input-in (λ e. h (input ∙ e)), input);
        node_in = λ e h. let q = r.node_in (sym input ∙ e) (λ f. h (node ∙ f)) in (omega (arith, q.0, node), omega (arith, q.1, node));
      }

  new-linked : Linked new entries listed
  new-linked =
      let l = x.linked in
      record {
        some_in = l.some_in;
        slots = omega (arith, l.slots, long);
        listed-slots = omega (arith, l.listed-slots, long);
        few = l.few;
        came-in = λ i a b. omega (arith, l.came-in i a b, low i 2 (omega arith));
        listed_in_lem = λ k h. omega (arith, l.listed_in_lem k h, low k 6 (omega arith));
      }

  pub kept-few : listed + kept_count entries listed part < 2 ^ 28
  kept-few = omega (arith, count-le (marks entries listed part) (entries - 1), x.linked.some_in, x.linked.few)

  pub new-kept : mark_count new (entries - 1) ≡ kept_count entries listed part
  new-kept = states-count (marks entries listed part) entries (omega (arith, x.linked.slots, length-marks part entries listed x.linked)) (entries - 1) (omega (arith, x.linked.some_in))

  pub new-listable : Listable bytes links new entries listed
  new-listable = record { linked = new-linked; readable = new-readable }
