-- Trimming: the states that stay are those on a way from the start to the final state, and the list machine is what it leaves of the machine before it. Assumes nothing.
use mathlib.Core.Path.{◌≡◌, refl, sym, ap, ap₂, ◌∙◌, subst}
use mathlib.Core.Logic.{◌⊎◌, inl, inr, ◌↔◌}
use mathlib.Core.Bool.{Bool, true, false, ◌&&◌, cond}
use mathlib.Core.Option.{Option, none, some, some-injective}
use mathlib.Core.List.Memᴰ
use mathlib.Core.List.{List, [], ◌∷◌, ◌++◌, map, map-map}
use Prim.Native.Nat.{ℕ, zero, suc, ◌+◌, ◌-◌, ◌≤◌, ◌<◌}
use native.Mathlib.Omega.{arith}
use lib.Dec.{eqb}
use lib.ListN
use lib.ListN.{length, get_or, replicate, length-append, length-map, length-replicate, get_or-append}
use lib.Seq.{get_or-append-add}
use borrow.Author.Tests.{eqb-true}
use Rattle.tropical_weight.specs.Tropical.{Tropical, one}
use Rattle.sheet.specs.Below.{sum_below, list_below}
use Rattle.sheet.specs.Machine.{Link, Machine}
use Rattle.sheet.proofs.Apart.{or-either, or_right}
use Rattle.sheet.proofs.Below.{length-list_below, get_or-list_below, split_at, sum_mono}
use Rattle.machine.specs.Readings.{no_link, link, IsRun}
use Rattle.machine.specs.Demand.{◌∈◌}
use Rattle.machine.proofs.Lists.{here, map-append, get_or-mem, mem-get_or, get_d_map}
use Rattle.search.specs.Search.{Entry, half, finished, first, Search}
use Rattle.search.specs.ListMachine.{moved, blank, is_behind, link_by, Copy, start_copy, entry_copy, copies, finals_of, untrimmed, OnStartToFinal, new_number, links_stay, finals_stay, stays_in, trimmed}
use Rattle.search.specs.States.{kept, state_of, later, start_link, entry_link, list_result}
use Rattle.search.proofs.Numbered.{Numbered}
use Rattle.search.proofs.OnWays.{came_from, is_on, OnWay, link_by-ends, way_of, of-way, behind, behind-self, way-listed, behind-first, way-first, way-from, kept_by}

map-same-one : {A B : Type 0} (b : B) (l : List A) → map (λ a. b) l ≡ replicate (length l) b
map-same-one b [] = refl
map-same-one b (x ∷ l) = ap (λ r. b ∷ r) (map-same-one b l)

-- the links of the first k entries after the first
abbrev entry_copies : Machine → Search → ℕ → List Copy
entry_copies m s k = list_below k (λ j. entry_copy m s (suc j))

-- ---- runs of the machine before trimming
module _ (m : Machine) (s : Search) (n : Numbered s) where
  abbrev whole : Machine
  whole = untrimmed m s

  -- where no link has the number
  abbrev no_copy : Copy
  no_copy = record { link = no_link; repeats = none }

  -- link l leads from u to v
  abbrev Leads : ℕ → ℕ → ℕ → Type 0
  Leads l u v = (l < length whole.links) × ((link whole l).source ≡ u) × ((link whole l).next ≡ v)

  links-count : length whole.links ≡ length s.listed + (length s.entries - 1)
  unfolding copies
  links-count =
      omega (
        arith,
        length-map (copies m s) (λ (k : Copy). k.link),
        length-append (map start_copy s.listed) (entry_copies m s (length s.entries - 1)),
        length-map s.listed start_copy,
        length-list_below (length s.entries - 1) (λ j. entry_copy m s (suc j)),
      )

  -- the first links are the start's
  start-leads : (k : ℕ) → k < length s.listed → Leads k 0 (suc (get_or s.listed k 0))
  unfolding copies
  start-leads k h = (omega (arith, links-count), ap (λ (x : Link). x.source) is, ap (λ (x : Link). x.next) is)
    where
      is : link whole k ≡ blank 0 one (suc (get_or s.listed k 0))
      is =
          ListN.get_or-map (λ (c : Copy). c.link) (copies m s) k no_copy
          ∙ ap (λ (c : Copy). c.link) (get_or-append (map start_copy s.listed) (entry_copies m s (length s.entries - 1)) no_copy k (omega (arith, length-map s.listed start_copy))
          ∙ get_d_map start_copy s.listed k 0 no_copy h)

  -- those that follow are the entries', from entry 1 on
  entry-leads : (j : ℕ) → suc j < length s.entries → Leads (length s.listed + j) (suc (suc j)) (suc (came_from s (suc j)))
  unfolding copies
  entry-leads j h =
      let e = get_or s.entries (suc j) first in
      let ends = link_by-ends m e.input e.entry (suc (suc j)) (suc e.from) in
      (omega (arith, links-count), ap (λ (x : Link). x.source) is ∙ ends.0, ap (λ (x : Link). x.next) is ∙ ends.1)
    where
      is : link whole (length s.listed + j) ≡ (entry_copy m s (suc j)).link
      is =
          ListN.get_or-map (λ (c : Copy). c.link) (copies m s) (length s.listed + j) no_copy
          ∙ ap (λ (c : Copy). c.link) (ap (λ (k : ℕ). get_or (copies m s) (k + j) no_copy) (sym (length-map s.listed start_copy))
          ∙ get_or-append-add (map start_copy s.listed) (entry_copies m s (length s.entries - 1)) j no_copy
          ∙ get_or-list_below (length s.entries - 1) (λ j. entry_copy m s (suc j)) j no_copy (omega arith))

  -- and there are no others
  record FromStart (l : ℕ) : Type 0 where
    place : l < length s.listed
    leads : Leads l 0 (suc (get_or s.listed l 0))

  record FromEntry (l : ℕ) : Type 0 where
    before : ℕ
    put-in : suc before < length s.entries
    leads : Leads l (suc (suc before)) (suc (came_from s (suc before)))

  link-kind : (l : ℕ) → l < length whole.links → FromStart l ⊎ FromEntry l
  link-kind l h = elim (split_at l (length s.listed)) [
    | inl b ↦ inl (record { place = b; leads = start-leads l b })
    | inr b ↦
        let j = l - length s.listed in
        let p : suc j < length s.entries = omega (arith, links-count) in
        let z : length s.listed + j ≡ l = omega arith in
        inr (record { before = j; put-in = p; leads = subst (λ k. Leads k (suc (suc j)) (suc (came_from s (suc j)))) z (entry-leads j p) })
  ]

  -- a run with one link more before it
  run-cons : (l u v w : ℕ) (r : List ℕ) → Leads l u v → IsRun whole v r w → IsRun whole u (l ∷ r) w
  run-cons l u v w r h k = (h.0, h.1, subst (λ x. IsRun whole x r w) (sym h.2) k)

  -- ---- going back from an entry is a run from its state
  behind-run : (k i j : ℕ) → i < length s.entries → behind s k i j ≡ true → (r : List ℕ) × IsRun whole (suc i) r (suc j)
  unfolding is_behind
  behind-run zero i j h e = ([], ap suc (eqb-true i j e))
  behind-run (suc k) i j h e = go (or-either (eqb i j) (behind s k (came_from s i) j) e) (behind-run k (came_from s i) j (omega (arith, n.earlier i)))
    where
      on : (i : ℕ) → i < length s.entries → (r : List ℕ) × IsRun whole (suc (came_from s i)) r (suc j) → (r : List ℕ) × IsRun whole (suc i) r (suc j)
      on zero h x = (x.0, subst (λ u. IsRun whole (suc u) x.0 (suc j)) (let z : came_from s 0 ≡ 0 = omega (arith, n.earlier 0) in z) x.1)
      on (suc b) h x = ((length s.listed + b) ∷ x.0, run-cons (length s.listed + b) (suc (suc b)) (suc (came_from s (suc b))) (suc j) x.0 (entry-leads b h) x.1)

      go : (eqb i j ≡ true) ⊎ (behind s k (came_from s i) j ≡ true) → (behind s k (came_from s i) j ≡ true → (r : List ℕ) × IsRun whole (suc (came_from s i)) r (suc j))
          → (r : List ℕ) × IsRun whole (suc i) r (suc j)
      go (inl q) ih = ([], ap suc (eqb-true i j q))
      go (inr q) ih = on i h (ih q)

  run-behind : (r : List ℕ) (k i j : ℕ) → i ≤ k → IsRun whole (suc i) r (suc j) → behind s k i j ≡ true
  unfolding is_behind
  run-behind [] k i j b h = subst (λ x. behind s k i x ≡ true) (let z : i ≡ j = omega (arith, h) in z) (behind-self s k i)
  run-behind (l ∷ r) k i j b h = go k b (link-kind l h.0) (run-behind r)
    where
      go : (k : ℕ) → i ≤ k → FromStart l ⊎ FromEntry l → ((k i j : ℕ) → i ≤ k → IsRun whole (suc i) r (suc j) → behind s k i j ≡ true) → behind s k i j ≡ true
      go k b (inl x) ih = absurd (omega (arith, x.leads.1, h.1))
      go zero b (inr x) ih = absurd (omega (arith, x.leads.1, h.1))
      go (suc k) b (inr x) ih =
          let z : suc x.before ≡ i = omega (arith, x.leads.1, h.1) in
          let y : (link whole l).next ≡ suc (came_from s i) = x.leads.2 ∙ ap (λ (u : ℕ). suc (came_from s u)) z in
          or_right (eqb i j) (behind s k (came_from s i) j)
          (ih k (came_from s i) j (omega (arith, n.earlier i)) (subst (λ u. IsRun whole u r (suc j)) y h.2))

  -- ---- states on a way
  -- by a run from state 0, the start, and one to state 1, which is final
  on-runs : (q : ℕ) (p w : List ℕ) → IsRun whole 0 p q → IsRun whole q w 1 → OnStartToFinal whole q
  on-runs q p w h k = record { from = 0; starts = refl; come = p; comes = h; go = w; to = 1; goes = k; weight = one; marked = refl }

  from_start : (q : ℕ) (x : OnStartToFinal whole q) → x.from ≡ 0
  from_start q x = sym (some-injective 0 x.from x.starts)

  -- each entry's state leads to the first's
  home : (i : ℕ) → i < length s.entries → (w : List ℕ) × IsRun whole (suc i) w 1
  home i h = behind-run i i 0 h (behind-first s n i i (omega arith))

  -- a run from the start goes to a listed entry first
  entry-on : (i : ℕ) → i < length s.entries → OnWay s i ↔ OnStartToFinal whole (suc i)
  entry-on i h = (there, λ x. back x.come (subst (λ u. IsRun whole u x.come (suc i)) (from_start (suc i) x) x.comes))
    where
      there : OnWay s i → OnStartToFinal whole (suc i)
      there e =
          let x = way_of s.entries s.listed i e in
          let k = mem-get_or 0 x.1 in
          let r = behind-run x.0 x.0 i (n.inside x.0 x.1) x.2 in
          let w = home i h in
          on-runs (suc i) (k.0 ∷ r.0) w.0 (run-cons k.0 0 (suc x.0) (suc i) r.0 (subst (λ u. Leads k.0 0 (suc u)) k.2 (start-leads k.0 k.1)) r.1) w.1

      back : (p : List ℕ) → IsRun whole 0 p (suc i) → OnWay s i
      back [] r = absurd (omega (arith, r))
      back (l ∷ p) r = go (link-kind l r.0)
        where
          go : FromStart l ⊎ FromEntry l → OnWay s i
          go (inl x) =
              let a = get_or s.listed l 0 in
              of-way s.entries s.listed a i (get_or-mem s.listed l 0 x.place) (run-behind p a a i (omega arith) (subst (λ u. IsRun whole u p (suc i)) x.leads.2 r.2))
          go (inr x) = absurd (omega (arith, x.leads.1, r.1))

  -- and so the start, where the list is not empty
  start-on : 0 < length s.listed → OnStartToFinal whole 0
  start-on b =
      let i = get_or s.listed 0 0 in
      let w = home i (n.inside i (get_or-mem s.listed 0 0 b)) in
      on-runs 0 [] (0 ∷ w.0) refl (run-cons 0 0 (suc i) 1 w.0 (start-leads 0 b) w.1)

  -- the states that stay are those on a way
  pub stays-is : 0 < length s.listed → (q : ℕ) → q < length (untrimmed m s).finals → (stays_in s q ≡ true) ↔ OnStartToFinal (untrimmed m s) q
  stays-is b zero h = (λ e. start-on b, λ x. refl)
  stays-is b (suc i) h = entry-on i (omega (arith, n.some_in, length-replicate {A = Option Tropical} (length s.entries - 1) none))

-- ---- the new numbers are the states of entries
module _ (s : Search) where
  -- below the state of entry k + 1 stay the start, the first and those kept up to k
  new-later : OnWay s 0 → (k : ℕ) → new_number (stays_in s) (suc (suc k)) ≡ 2 + length (kept s k)
  unfolding kept sum_below
  new-later f zero = ap {B = ℕ} (λ t. 0 + 1 + cond t 1 0) f
  new-later f (suc k) = kept_by s (λ l. new_number (stays_in s) (suc (suc k)) + cond (is_on s (suc k)) 1 0 ≡ 2 + length l) k
      (λ e. omega (arith, new-later f k, ap {B = ℕ} (λ t. cond t 1 0) e, length-append (kept s k) (suc k ∷ [])))
      (λ e. omega (arith, new-later f k, ap {B = ℕ} (λ t. cond t 1 0) e))

  -- a state's new number is the state of its entry, where the first is on a way
  pub new-number : OnWay s 0 → (j : ℕ) → new_number (stays_in s) (suc j) ≡ state_of s j
  unfolding state_of sum_below
  new-number f zero = refl
  new-number f (suc k) = new-later f k

-- ---- what links_stay and finals_stay leave
module _ (stays : ℕ → Bool) where
  stay-append : (l k : List Copy) → links_stay stays (l ++ k) ≡ links_stay stays l ++ links_stay stays k
  unfolding links_stay
  stay-append [] k = refl
  stay-append (c ∷ l) k = go (stays c.link.source && stays c.link.next) (stay-append l k)
    where
      new : Copy
      new = record { link = moved c.link (new_number stays c.link.source) (new_number stays c.link.next); repeats = c.repeats }

      go : (t : Bool) → links_stay stays (l ++ k) ≡ links_stay stays l ++ links_stay stays k
          → cond t (new ∷ links_stay stays (l ++ k)) (links_stay stays (l ++ k)) ≡ cond t (new ∷ links_stay stays l) (links_stay stays l) ++ links_stay stays k
      go true e = ap (λ r. new ∷ r) e
      go false e = e

  -- an entry's link is between the states it was made for
  stay-link_by : (m : Machine) (o : Option ℕ) (e : Entry) (u v : ℕ)
      → links_stay stays (record { link = link_by m o e u v; repeats = o } ∷ []) ≡ cond (stays u && stays v) (record { link = link_by m o e (new_number stays u) (new_number stays v); repeats = o } ∷ []) []
  unfolding links_stay
  stay-link_by m (some l) e u v = refl
  stay-link_by m none (half x c) u v = refl
  stay-link_by m none (finished c) u v = refl

  -- as many states that are not final stay as their numbers count
  stay_none : (k q : ℕ) → finals_stay stays q (replicate k none) ≡ replicate (new_number stays (q + k) - new_number stays q) none
  unfolding finals_stay sum_below
  stay_none zero q =
      let y : q + 0 ≡ q = omega arith in
      let z : 0 ≡ new_number stays (q + 0) - new_number stays q = omega (arith, ap (λ (j : ℕ). new_number stays j) y) in
      ap (λ (j : ℕ). replicate j none) z
  stay_none (suc k) q = go (stays q) refl (stay_none k (suc q))
    where
      room : new_number stays (suc q) ≤ new_number stays (suc q + k)
      room = sum_mono (λ i. cond (stays i) 1 0) (suc q + k) (suc q) (omega arith)

      same : new_number stays (suc q + k) ≡ new_number stays (q + suc k)
      same = ap (λ (j : ℕ). new_number stays j) (let y : suc q + k ≡ q + suc k = omega arith in y)

      go : (t : Bool) → stays q ≡ t → finals_stay stays (suc q) (replicate k none) ≡ replicate (new_number stays (suc q + k) - new_number stays (suc q)) none
          → cond t (none ∷ finals_stay stays (suc q) (replicate k none)) (finals_stay stays (suc q) (replicate k none)) ≡ replicate (new_number stays (q + suc k) - new_number stays q) none
      go true e ih =
          let z : new_number stays (q + suc k) - new_number stays q ≡ suc (new_number stays (suc q + k) - new_number stays (suc q)) = omega (arith, room, same, ap {B = ℕ} (λ t. cond t 1 0) e) in
          ap (λ r. none ∷ r) ih ∙ ap (λ (j : ℕ). replicate j none) (sym z)
      go false e ih =
          let z : new_number stays (suc q + k) - new_number stays (suc q) ≡ new_number stays (q + suc k) - new_number stays q = omega (arith, room, same, ap {B = ℕ} (λ t. cond t 1 0) e) in
          ih ∙ ap (λ (j : ℕ). replicate j none) z

module _ (m : Machine) (s : Search) (n : Numbered s) (some-listed : 0 < length s.listed) where
  -- the links of the list machine, each with what it repeats
  abbrev new_start : ℕ → Copy
  new_start i = record { link = start_link s i; repeats = none }

  abbrev new_entry : ℕ → Copy
  new_entry j = record { link = entry_link m s j; repeats = (get_or s.entries j first).input }

  first_on : OnWay s 0
  first_on = way-first s n some-listed

  starts-stay : (l : List ℕ) → ((i : ℕ) → i ∈ l → OnWay s i) → links_stay (stays_in s) (map start_copy l) ≡ map new_start l
  unfolding links_stay sum_below
  starts-stay [] h = refl
  starts-stay (i ∷ l) h =
      ap₂ (λ t (k : ℕ). cond t (record { link = blank 0 one k; repeats = none } ∷ links_stay (stays_in s) (map start_copy l)) (links_stay (stays_in s) (map start_copy l))) (h i (here i l)) (new-number s first_on i)
      ∙ ap (λ r. new_start i ∷ r) (starts-stay l (λ j q. h j (Memᴰ.tail q)))

  entry-stays : (j : ℕ) → links_stay (stays_in s) (entry_copy m s j ∷ []) ≡ cond (is_on s j) (new_entry j ∷ []) []
  entry-stays j =
      let e = get_or s.entries j first in
      stay-link_by (stays_in s) m e.input e.entry (suc j) (suc e.from)
      ∙ ap₂ (λ u v. cond (is_on s j && is_on s e.from) (record { link = link_by m e.input e.entry u v; repeats = e.input } ∷ []) []) (new-number s first_on j) (new-number s first_on e.from)
      ∙ go (is_on s j) refl
    where
      go : (t : Bool) → is_on s j ≡ t → cond (t && is_on s (came_from s j)) (new_entry j ∷ []) [] ≡ cond t (new_entry j ∷ []) []
      go true e = ap (λ t. cond t (new_entry j ∷ []) []) (way-from s n j e)
      go false e = refl

  entries-stay : (k : ℕ) → links_stay (stays_in s) (entry_copies m s k) ≡ map new_entry (kept s k)
  unfolding links_stay list_below kept
  entries-stay zero = refl
  entries-stay (suc k) =
      stay-append (stays_in s) (entry_copies m s k) (entry_copy m s (suc k) ∷ [])
      ∙ ap₂ (λ a b. a ++ b) (entries-stay k) (entry-stays (suc k) ∙ go (is_on s (suc k)))
      ∙ sym (map-append new_entry (kept s k) (cond (is_on s (suc k)) (suc k ∷ []) []))
    where
      go : (t : Bool) → cond t (new_entry (suc k) ∷ []) [] ≡ map new_entry (cond t (suc k ∷ []) [])
      go true = refl
      go false = refl

  links-stay : links_stay (stays_in s) (copies m s) ≡ map new_start s.listed ++ map new_entry (later s)
  unfolding copies
  links-stay =
      stay-append (stays_in s) (map start_copy s.listed) (entry_copies m s (length s.entries - 1))
      ∙ ap₂ (λ a b. a ++ b) (starts-stay s.listed (way-listed s)) (entries-stay (length s.entries - 1))

  -- what a field of the links that stay is, in order
  of-links : {A : Type 0} (f : Copy → A) → map f (links_stay (stays_in s) (copies m s)) ≡ map (λ i. f (new_start i)) s.listed ++ map (λ j. f (new_entry j)) (later s)
  of-links f =
      ap (map f) links-stay ∙ map-append f (map new_start s.listed) (map new_entry (later s))
      ∙ ap₂ (λ a b. a ++ b) (map-map f new_start s.listed) (map-map f new_entry (later s))

  finals-stay : finals_stay (stays_in s) 0 (finals_of s) ≡ none ∷ some one ∷ replicate (length (later s)) none
  unfolding finals_stay sum_below kept
  finals-stay =
      let k = length s.entries - 1 in
      let y : 2 + k ≡ suc (suc k) = omega arith in
      let z : new_number (stays_in s) (2 + k) - new_number (stays_in s) 2 ≡ length (later s) = omega (arith, new-later s first_on k, new-later s first_on 0, ap (λ (j : ℕ). new_number (stays_in s) j) y) in
      ap (λ t. none ∷ cond t (some one ∷ finals_stay (stays_in s) 2 (replicate k none)) (finals_stay (stays_in s) 2 (replicate k none))) first_on
      ∙ ap (λ r. none ∷ some one ∷ r) (stay_none (stays_in s) k 2 ∙ ap (λ (j : ℕ). replicate j none) z)

  -- the list machine is what trimming leaves
  pub trimmed-is : trimmed m s ≡ list_result m s
  unfolding trimmed
  trimmed-is =
      let links = of-links (λ c. c.link) in
      let repeats = of-links (λ c. c.repeats) ∙ ap (λ r. r ++ map (λ j. (get_or s.entries j first).input) (later s)) (map-same-one none s.listed) in
      λ i. record { machine = record { links = links i; finals = finals-stay i; start = some 0; form = m.form }; repeats = repeats i; taken = s.taken }
