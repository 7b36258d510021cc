-- The passes mark the entries on a way and no others, and number them as the states of the list machine. Assumes nothing.
use mathlib.Core.Path.{◌≡◌, refl, sym, ap, ◌∙◌, subst}
use mathlib.Core.Logic.{◌⊎◌, inl, inr}
use mathlib.Core.Bool.{Bool, true, false, not, cond}
use mathlib.Core.List.Memᴰ
use mathlib.Core.List.{List, [], ◌∷◌, ◌++◌}
use Prim.Native.Nat.{ℕ, zero, suc, ◌+◌, ◌-◌, ◌*◌, ◌≤◌, ◌<◌}
use native.Mathlib.Decide.{ℕ_discrete}
use native.Mathlib.Nat.{eq-or-lt_of_le}
use native.Mathlib.Omega.{arith}
use lib.Dec.{eqb}
use lib.ListN.{length, get_or, set, length-set, length-append}
use lib.Seq.{get_or-set_same, get_or-set_other}
use borrow.Author.Tests.{eqb-true, eq-eqb, ne_eqb}
use Rattle.sheet.proofs.Apart.{not-both, or-either}
use Rattle.machine.specs.Demand.{◌∈◌}
use Rattle.machine.proofs.Lists.{here, get_or-mem}
use Rattle.search.specs.Search.{Put, Search}
use Rattle.search.specs.ListMachine.{is_behind, on_way}
use Rattle.search.specs.States.{kept, state_of, later}
use Rattle.search.proofs.Numbered.{Numbered}
use Rattle.search.proofs.OnWays.{OnWay, came_from, way-listed, way-from, way-inside}
use Rattle.search_slots.specs.Slots.{from_word, listed_word, state_word}
use Rattle.list_machine.specs.TrimWords.{unmarked, mark_listed, mark_from, mark_back, marks, mark_count, stated, kept_count, Holding}
use Rattle.list_machine.proofs.Marks.{unmarked-other, length-unmarked, from-other, listed-other, states-first, states-at}
use Rattle.slots.specs.Slots.{slot_length}

-- ---- an entry on a way is listed, or one on a way came from it
module _ (s : Search) (n : Numbered s) where
  pub record Came (j : ℕ) : Type 0 where
    pub by : ℕ
    pub later-one : 0 < by
    pub on : OnWay s by
    pub leads : came_from s by ≡ j

  behind-cases : (k i j : ℕ) → OnWay s i → is_behind s.entries k i j ≡ true → (i ≡ j) ⊎ Came j
  unfolding is_behind
  behind-cases zero i j w e = inl (eqb-true i j e)
  behind-cases (suc k) i j w e = elim (or-either (eqb i j) (is_behind s.entries k (came_from s i) j) e) [
    | inl q ↦ inl (eqb-true i j q)
    | inr q ↦ go i w (behind-cases k (came_from s i) j (way-from s n i w) q)
  ]
    where
      go : (i : ℕ) → OnWay s i → (came_from s i ≡ j) ⊎ Came j → (i ≡ j) ⊎ Came j
      go zero w (inl q) = inl (sym (ap (λ (e : Put). e.from) n.zeroth) ∙ q)
      go (suc i) w (inl q) = inr (record { by = suc i; later-one = omega arith; on = w; leads = q })
      go i w (inr c) = inr c

  cases-in : (is : List ℕ) (j : ℕ) → ((i : ℕ) → i ∈ is → i ∈ s.listed) → on_way s.entries is j ≡ true → (j ∈ s.listed) ⊎ Came j
  unfolding on_way
  cases-in [] j f e = absurd (not-both e refl)
  cases-in (i ∷ is) j f e = elim (or-either (is_behind s.entries i i j) (on_way s.entries is j) e) [
    | inl q ↦ go (behind-cases i i j (way-listed s i (f i (here i is))) q)
    | inr q ↦ cases-in is j (λ k h. f k (Memᴰ.tail h)) q
  ]
    where
      go : (i ≡ j) ⊎ Came j → (j ∈ s.listed) ⊎ Came j
      go (inl q) = inl (subst (λ x. x ∈ s.listed) q (f i (here i is)))
      go (inr c) = inr c

  pub way-cases : (j : ℕ) → OnWay s j → (j ∈ s.listed) ⊎ Came j
  way-cases j e = cases-in s.listed j (λ i h. h) e

-- a listed entry has a place in the list
place_of : {i : ℕ} {l : List ℕ} → i ∈ l → (k : ℕ) × (k < length l) × (get_or l k 0 ≡ i)
place_of (Memᴰ.head e) = (0, omega arith, sym e)
place_of (Memᴰ.tail h) = let r = place_of h in (suc r.0, omega (arith, r.1), r.2)

-- ---- the passes
module _ (s : Search) (n : Numbered s) where
  abbrev size : ℕ
  size = length s.entries

  abbrev Marked : List ℕ → ℕ → Type 0
  Marked w i = state_word w i ≡ 0 → ⊥

  -- words in which only entries on a way have marks
  record Sound (w : List ℕ) : Type 0 where
    room : slot_length * size ≤ length w
    froms : (i : ℕ) → i < size → from_word w i ≡ came_from s i
    lists : (k : ℕ) → k < length s.listed → listed_word w k ≡ get_or s.listed k 0
    only : (i : ℕ) → i < size → Marked w i → OnWay s i

  -- one on a way marked
  module _ (w : List ℕ) (g : Sound w) (x : ℕ) (on : OnWay s x) where
    abbrev new : List ℕ
    new = set w (slot_length * x + 7) 1

    inside : x < size
    inside = way-inside s n x on

    self : state_word new x ≡ 1
    self = get_or-set_same w (slot_length * x + 7) 1 0 (omega (arith, inside, g.room))

    set-sound : Sound new
    set-sound = record {
      room = omega (arith, g.room, length-set w (slot_length * x + 7) 1);
      froms = λ i h. get_or-set_other w (slot_length * x + 7) (slot_length * i + 2) 1 0 (λ e. omega arith) ∙ g.froms i h;
      lists = λ k h. get_or-set_other w (slot_length * x + 7) (slot_length * k + 6) 1 0 (λ e. omega arith) ∙ g.lists k h;
      only = λ i h m. go i h m (ℕ_discrete i x);
    }
      where
        go : (i : ℕ) → i < size → Marked new i → Dec (i ≡ x) → OnWay s i
        go i h m (yes e) = subst (OnWay s) (sym e) on
        go i h m (no e) = g.only i h (λ z. m (get_or-set_other w (slot_length * x + 7) (slot_length * i + 7) 1 0 (λ q. e (omega arith)) ∙ z))

    set-marks : Marked new x
    set-marks z = omega (arith, self)

    set_keeps : (i : ℕ) → Marked w i → Marked new i
    set_keeps i m = go (ℕ_discrete i x)
      where
        go : Dec (i ≡ x) → Marked new i
        go (yes e) z = omega (arith, self, ap (state_word new) e)
        go (no e) z = m (sym (get_or-set_other w (slot_length * x + 7) (slot_length * i + 7) 1 0 (λ q. e (omega arith))) ∙ z)

  -- the listed
  listed-sound : (w : List ℕ) → Sound w → (k : ℕ) → k ≤ length s.listed → Sound (mark_listed k w) × ((j : ℕ) → j < k → Marked (mark_listed k w) (get_or s.listed j 0))
  unfolding mark_listed
  listed-sound w g zero h = (g, λ j b. absurd (omega arith))
  listed-sound w g (suc k) h =
      let r = listed-sound w g k (omega arith) in
      let x = listed_word (mark_listed k w) k in
      let e : x ≡ get_or s.listed k 0 = r.0.lists k (omega arith) in
      let on : OnWay s x = subst (OnWay s) (sym e) (way-listed s (get_or s.listed k 0) (get_or-mem s.listed k 0 (omega arith))) in
      (set-sound (mark_listed k w) r.0 x on, λ j b. go r.0 r.1 e on j (eq-or-lt_of_le (let z : j ≤ k = omega arith in z)))
    where
      go : (g : Sound (mark_listed k w)) → ((j : ℕ) → j < k → Marked (mark_listed k w) (get_or s.listed j 0)) → listed_word (mark_listed k w) k ≡ get_or s.listed k 0 → (on : OnWay s (listed_word (mark_listed k w) k))
          → (j : ℕ) → (j ≡ k) ⊎ (j < k) → Marked (set (mark_listed k w) (slot_length * listed_word (mark_listed k w) k + 7) 1) (get_or s.listed j 0)
      go g r e on j (inl q) = subst (Marked (set (mark_listed k w) (slot_length * listed_word (mark_listed k w) k + 7) 1)) (e ∙ ap (λ (i : ℕ). get_or s.listed i 0) (sym q)) (set-marks (mark_listed k w) g (listed_word (mark_listed k w) k) on)
      go g r e on j (inr b) = set_keeps (mark_listed k w) g (listed_word (mark_listed k w) k) on (get_or s.listed j 0) (r j b)

  -- down to entry k, those that entries above k on a way came from
  record Done (k : ℕ) (w : List ℕ) : Type 0 where
    sound : Sound w
    listed : (i : ℕ) → i ∈ s.listed → Marked w i
    came : (p : ℕ) → k < p → OnWay s p → Marked w (came_from s p)

  -- then the entries from k on that are on a way have marks
  done-marks : (k : ℕ) (w : List ℕ) → Done k w → (j : ℕ) → k ≤ j → OnWay s j → Marked w j
  done-marks k w d j h on = elim (way-cases s n j on) [
    | inl m ↦ d.listed j m
    | inr c ↦ let e = n.earlier c.by in subst (Marked w) c.leads (d.came c.by (omega (arith, e, c.leads, c.later-one)) c.on)
  ]

  from-done : (k : ℕ) (w : List ℕ) → suc k < size → Done (suc k) w → Done k (mark_from (suc k) w)
  from-done k w h d = go (ℕ_discrete (state_word w (suc k)) 0)
    where
      go : Dec (state_word w (suc k) ≡ 0) → Done k (mark_from (suc k) w)
      go (yes e) = subst (Done k) (sym (ap (λ (t : Bool). cond t w (set w (slot_length * from_word w (suc k) + 7) 1)) (eq-eqb (state_word w (suc k)) 0 e))) (record {
        sound = d.sound;
        listed = d.listed;
        came = λ p b on. next p on (eq-or-lt_of_le b);
      })
        where
          next : (p : ℕ) → OnWay s p → (suc k ≡ p) ⊎ (suc k < p) → Marked w (came_from s p)
          next p on (inl q) = absurd (done-marks (suc k) w d (suc k) (omega arith) (subst (OnWay s) (sym q) on) e)
          next p on (inr b) = d.came p b on
      go (no e) = subst (Done k) (sym (ap (λ (t : Bool). cond t w (set w (slot_length * from_word w (suc k) + 7) 1)) (ne_eqb (state_word w (suc k)) 0 e))) marked
        where
          marked : Done k (set w (slot_length * from_word w (suc k) + 7) 1)
          marked =
              let own : OnWay s (suc k) = d.sound.only (suc k) h e in
              let x = from_word w (suc k) in
              let to : x ≡ came_from s (suc k) = d.sound.froms (suc k) h in
              let on : OnWay s x = subst (OnWay s) (sym to) (way-from s n (suc k) own) in
              record {
                sound = set-sound w d.sound x on;
                listed = λ i m. set_keeps w d.sound x on i (d.listed i m);
                came = λ p c o. next x to on p o (eq-or-lt_of_le c);
              }
            where
              next : (x : ℕ) → x ≡ came_from s (suc k) → (on : OnWay s x) → (p : ℕ) → OnWay s p → (suc k ≡ p) ⊎ (suc k < p) → Marked (set w (slot_length * x + 7) 1) (came_from s p)
              next x to on p o (inl q) = subst (Marked (set w (slot_length * x + 7) 1)) (to ∙ ap (came_from s) q) (set-marks w d.sound x on)
              next x to on p o (inr c) = set_keeps w d.sound x on (came_from s p) (d.came p c o)

  back_done : (k : ℕ) (w : List ℕ) → k < size → Done k w → Done 0 (mark_back k w)
  unfolding mark_back
  back_done zero w h d = d
  back_done (suc k) w h d = back_done k (mark_from (suc k) w) (omega arith) (from-done k w h d)

  module _ {unit : ℕ} (part : List ℕ) (x : Holding unit part s) where
    -- no mark at first
    none_yet : (k : ℕ) → k ≤ size → (i : ℕ) → i < k → state_word (unmarked k part) i ≡ 0
    unfolding unmarked
    none_yet zero h i b = absurd (omega arith)
    none_yet (suc k) h i b = elim (eq-or-lt_of_le (let z : i ≤ k = omega arith in z)) [
      | inl e ↦ ap (state_word (set (unmarked k part) (slot_length * k + 7) 0)) e ∙ get_or-set_same (unmarked k part) (slot_length * k + 7) 0 0 (omega (arith, x.slots, length-unmarked k part))
      | inr l ↦ get_or-set_other (unmarked k part) (slot_length * k + 7) (slot_length * i + 7) 0 0 (λ e. omega arith) ∙ none_yet k (omega arith) i l
    ]

    clear : Sound (unmarked size part)
    clear = record {
      room = omega (arith, x.slots, length-unmarked size part);
      froms = λ i h. unmarked-other size size part (slot_length * i + 2) (omega arith) (from-other size i) ∙ (x.held i h).from;
      lists = λ k h. unmarked-other size size part (slot_length * k + 6) (omega arith) (listed-other size k) ∙ x.held-listed k h;
      only = λ i h m. absurd (m (none_yet size (omega arith) i h));
    }

    abbrev all : List ℕ
    all = marks size (length s.listed) part

    done : Done 0 all
    done =
        let r = listed-sound (unmarked size part) clear (length s.listed) (omega arith) in
        let w = mark_listed (length s.listed) (unmarked size part) in
        back_done (size - 1) w (omega (arith, n.some_in)) (record {
          sound = r.0;
          listed = λ i m. let q = place_of m in subst (Marked w) q.2 (r.1 q.0 q.1);
          came = λ p b on. absurd (omega (arith, way-inside s n p on));
        })

    -- an entry has a mark where it is on a way
    pub marks-are : (i : ℕ) → i < length s.entries → eqb (state_word (marks (length s.entries) (length s.listed) part) i) 0 ≡ not (on_way s.entries s.listed i)
    marks-are i h = go (on_way s.entries s.listed i) refl
      where
        go : (t : Bool) → on_way s.entries s.listed i ≡ t → eqb (state_word all i) 0 ≡ not t
        go true e = ne_eqb (state_word all i) 0 (done-marks 0 all done i (omega arith) e)
        go false e = off (ℕ_discrete (state_word all i) 0)
          where
            off : Dec (state_word all i ≡ 0) → eqb (state_word all i) 0 ≡ true
            off (yes z) = eq-eqb (state_word all i) 0 z
            off (no z) = absurd (not-both (done.sound.only i h z) e)

    -- so those counted are those kept
    pub count_kept : (k : ℕ) → k < length s.entries → mark_count (marks (length s.entries) (length s.listed) part) k ≡ length (kept s k)
    unfolding mark_count kept
    count_kept zero h = refl
    count_kept (suc k) h = ap (λ (t : Bool). mark_count all k + cond t 0 1) (marks-are (suc k) h) ∙ go (on_way s.entries s.listed (suc k)) (count_kept k (omega arith))
      where
        go : (t : Bool) → mark_count all k ≡ length (kept s k) → mark_count all k + cond (not t) 0 1 ≡ length (kept s k ++ cond t (suc k ∷ []) [])
        go true ih = omega (arith, length-append (kept s k) (suc k ∷ []))
        go false ih = omega (arith, length-append (kept s k) [])

    -- ---- the states
    pub kept-count : kept_count (length s.entries) (length s.listed) part ≡ length (later s)
    kept-count = count_kept (size - 1) (omega (arith, n.some_in))

    pub state-first : state_word (stated (length s.entries) (length s.listed) part) 0 ≡ state_of s 0
    unfolding state_of
    state-first = states-first all size done.sound.room n.some_in

    state-at : (i : ℕ) → 0 < i → i < size → (t : Bool) → on_way s.entries s.listed i ≡ t → state_word (stated size (length s.listed) part) i ≡ cond (not t) 0 (2 + length (kept s (i - 1)))
    state-at i a b t e = states-at all size done.sound.room i a b ∙ λ j. cond ((marks-are i b ∙ ap not e) j) 0 (2 + count_kept (i - 1) (omega arith) j)

    pub state-on : (i : ℕ) → i < length s.entries → OnWay s i → state_word (stated (length s.entries) (length s.listed) part) i ≡ state_of s i
    unfolding state_of
    state-on zero h on = state-first
    state-on (suc i) h on = state-at (suc i) (omega arith) h true on ∙ ap (λ (k : ℕ). 2 + length (kept s k)) (let z : suc i - 1 ≡ i = omega arith in z)

    pub state-off : (i : ℕ) → 0 < i → i < length s.entries → on_way s.entries s.listed i ≡ false → state_word (stated (length s.entries) (length s.listed) part) i ≡ 0
    state-off i a b off = state-at i a b false off
