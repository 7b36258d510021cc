-- The parts of a list for n from 2 joined: what the slots hold gives each next function what it asks, and the result is the defined one. Assumes nothing.
use mathlib.Core.Path.{◌≡◌, refl, sym, ap, ◌∙◌, subst}
use mathlib.Core.Bool.{Bool, true, false, cond}
use mathlib.Core.Option.{Option, none, some}
use mathlib.Core.List.{List}
use Prim.Native.Nat.{ℕ, zero, suc, ◌+◌, ◌*◌, ◌≤◌, ◌<◌}
use native.Mathlib.Nat.{mul-le-mul_right}
use native.Mathlib.Numerals.{add-one}
use native.Mathlib.Omega.{arith}
use lib.Dec.{eqb}
use lib.IntN.{ℤ}
use lib.ListN.{length, get_or}
use borrow.Author.Tests.{eqb-false}
use Rattle.tropical_weight.specs.Limits.{weight_limit, node_limit, link_limit, list_limit}
use Rattle.tropical_weight.specs.Tropical.{Tropical, fin, inf}
use Rattle.sheet.specs.declared.tr.Trailer.{Trailer}
use Rattle.sheet.specs.Sheet.{parts_of, stated_links}
use Rattle.sheet.specs.Machine.{Machine, unit_in, machine_of}
use Rattle.sheet.specs.Records.{trailer_at}
use Rattle.sheet.proofs.Round.{Below}
use Rattle.sheet.proofs.Apart.{not-both}
use Rattle.sheet.proofs.Below.{get_or-list_below}
use Rattle.machine.specs.Input.{input_number}
use Rattle.machine.specs.Climbs.{Small}
use Rattle.machine.specs.Distance.{distance_of, total}
use Rattle.machine.specs.Parents.{best}
use Rattle.machine.specs.Readings.{Reading, IsReading, reading_cost, marked}
use Rattle.machine.proofs.Accepted.{passes, small-machine}
use Rattle.machine.proofs.Named.{weight-of}
use Rattle.machine.proofs.Parents.{best-infinite, best-finite}
use Rattle.distance.specs.Held.{reached_in, distance_in}
use Rattle.distance.proofs.Offers.{reached-held}
use Rattle.search.specs.Reversed.{reversed}
use Rattle.search.specs.Search.{most_taken, search}
use Rattle.search.specs.ListMachine.{empty, result_by, result_for, trimmed}
use Rattle.search.specs.States.{list_result}
use Rattle.search.proofs.Lists.{Accepted, accepted, marked-few, some-listed}
use Rattle.search.proofs.Entries.{numbered}
use Rattle.search.proofs.Complete.{few-listed}
use Rattle.search.proofs.Within.{holds_after, put-room}
use Rattle.search.proofs.Trims.{trimmed-is}
use Rattle.slots.specs.Slots.{slot_length, nothing}
use Rattle.search_slots.specs.Slots.{listed_word, visits_word}
use Rattle.list_answer.proofs.SlotsNeeded.{slots-many}
use Rattle.list_answer.specs.ListAnswer.{slots_of, slots_for, listed_in, listed_over}
use Rattle.machine.specs.Finals.{final_count}
use Rattle.reversed_machine.specs.Laid.{Reversal}
use Rattle.machine.proofs.SheetFields.{sheet-fields, fields-own, finals-counted}
use Rattle.n_shortest.specs.declared.n_best.Places.{Places}
use Rattle.n_shortest.specs.SearchWords.{Words, after_w, begun_w, none_w, stopped_w, Sized, Ready, Begins}
use Rattle.n_shortest.proofs.Storing as Storing
use Rattle.n_shortest.proofs.Storing.{Stores}
use Rattle.n_shortest.proofs.Running.{stores-after, readies}
use Rattle.list_machine.specs.TrimWords.{kept_count, list_answer, list_after, Listable, Holding, Sourced}
use Rattle.list_machine.proofs.Writings.{listable, list-answers, list-leaves}
use Rattle.list_machine.proofs.Sources.{sourced}
use Rattle.tropical_weight.proofs.Semiring.{is_finite, not_finite}
use Rattle.shortest_path.proofs.SearchReads.{lies, fan-few}

-- The counts are within their limits, and the slots of a list for n from 2 within a part of so many words.
pub record Sizes (N T finals n room : ℕ) : Type 0 where
  pub few-finals : finals ≤ node_limit
  pub few-links : T ≤ link_limit
  pub few-nodes : N ≤ node_limit
  pub products : n * (T + 1) ≤ list_limit * (T + 1)
  pub fits : slot_length * (1 + finals + n * (T + 1) + (N + 1) + (T + finals)) ≤ room

-- n = 0 gives the empty machine
pub zero-empty : (m : Machine) → result_for m 0 ≡ empty m.form
unfolding result_for
zero-empty m = go (best m)
  where
    go : (o : Option Reading) → result_by m 0 o ≡ empty m.form
    go none = refl
    go (some x) = refl

module _ (bytes : List ℕ) (ok : input_number bytes ≡ 0) (t : Trailer) (same : t ≡ trailer_at bytes) (finals : ℕ) (counted : finals ≡ final_count bytes t.links t.nodes) where
  abbrev pub m : Machine
  m = machine_of (parts_of bytes)

  pub links-is : t.links ≡ length m.links
  links-is = ap (λ (t : Trailer). t.links) same ∙ sym (sheet-fields bytes ok).links-are

  pub nodes-is : t.nodes ≡ length m.finals
  nodes-is = ap (λ (t : Trailer). t.nodes) same ∙ sym (sheet-fields bytes ok).nodes-are

  pub form-is : t.form ≡ m.form
  form-is = ap (λ (t : Trailer). t.form) same ∙ sym (sheet-fields bytes ok).form-is

  -- n = 0, of the sheet whose trailer was read
  pub none-asked : (n : ℕ) → n ≡ 0 → result_for m n ≡ empty t.form
  none-asked n e = ap (result_for m) e ∙ zero-empty m ∙ ap empty (sym form-is)

  pub finals-is : finals ≡ marked m.finals
  finals-is = counted ∙ (λ i. final_count bytes (links-is i) (nodes-is i)) ∙ finals-counted (fields-own bytes ok)

  pub few-nodes : t.nodes ≤ node_limit
  few-nodes = omega (arith, nodes-is, (fields-own bytes ok).few-nodes)

  pub few-links : t.links ≤ link_limit
  few-links = omega (arith, links-is, (fields-own bytes ok).few-links)

  pub few-finals : finals ≤ node_limit
  few-finals = omega (arith, finals-is, marked-few m.finals, (fields-own bytes ok).few-nodes)

  pub slots_same : (n : ℕ) → slots_of t.nodes t.links finals n ≡ slots_for m n
  slots_same n = λ i. slots_of (nodes-is i) (links-is i) (finals-is i) n

  module _ (n : ℕ) (lo : 2 ≤ n) (hi : n ≤ list_limit) where
    pub product : n * (t.links + 1) ≤ list_limit * (t.links + 1)
    product = mul-le-mul_right (t.links + 1) hi

    -- the entries that are allowed
    abbrev pub allowed : ℕ
    allowed = 1 + finals + n * (t.links + 1)

    allowed-is : 1 + finals + n * (t.links + 1) ≡ most_taken m n
    allowed-is = λ i. 1 + finals-is i + n * (links-is i + 1)

    pub slots-are : slots_for m n ≡ 1 + finals + n * (t.links + 1) + (t.nodes + 1) + (t.links + finals)
    slots-are = slots-many (length m.finals) (length m.links) (marked m.finals) n lo ∙ omega (arith, allowed-is, links-is, nodes-is, finals-is)

    -- what bounds the sums of the code, on a part of so many words
    pub sizes : (room : ℕ) → slot_length * slots_for m n ≤ room → Sizes t.nodes t.links finals n room
    sizes room h = record { few-finals = few-finals; few-links = few-links; few-nodes = few-nodes; products = product; fits = omega (arith, slots-are, h) }

    abbrev pub places : Places
    places = record { nodes = slot_length * (1 + finals + n * (t.links + 1)); links = slot_length * (1 + finals + n * (t.links + 1)) + slot_length * (t.nodes + 1); inputs = t.links; end = t.start + 1 }

    -- ---- once the machine is reversed
    module _ (below : Below 256 bytes) (old part : List ℕ) (long : slot_length * slots_for m n ≤ length old) (rev : Reversal m places.nodes places.links old part) where
      a : Accepted m
      a = accepted bytes below ok

      b : Small weight_limit m
      b = small-machine (parts_of bytes) (passes bytes ok)

      -- ---- whether there is a reading: whether the least total is reached
      total-reached : reached_in (distance_in part places.nodes) ≡ is_finite (total m)
      total-reached =
          ap (λ (k : ℕ). reached_in (distance_in part k)) (let z : places.nodes ≡ places.nodes + slot_length * 0 = omega arith in z)
          ∙ ap reached_in (rev.laid.distances 0 (omega arith)) ∙ reached-held (unit_in m) (distance_of (total m)) ∙ ap is_finite (weight-of (total m))

      pub none-there : reached_in (distance_in part places.nodes) ≡ false → result_for m n ≡ empty t.form
      unfolding result_for
      none-there e = ap (result_by m n) (best-infinite m a.climbs (not_finite (total m) (sym total-reached ∙ e))) ∙ ap empty (sym form-is)

      -- where there is one the machine has a start, which the trailer names
      reading : reached_in (distance_in part places.nodes) ≡ true → (k : ℤ) × (total m ≡ fin k)
      reading e = go (total m) refl (sym total-reached ∙ e)
        where
          go : (d : Tropical) → total m ≡ d → is_finite d ≡ true → (k : ℤ) × (total m ≡ fin k)
          go inf q h = absurd (not-both h refl)
          go (fin k) q h = (k, q)

      module _ (there : reached_in (distance_in part places.nodes) ≡ true) where
        found-best : (x : Reading) × (best m ≡ some x) × IsReading m x × (reading_cost m x ≡ total m)
        found-best = let r = reading there in best-finite m a.climbs r.0 r.1

        pub start_is : (m.start ≡ some t.start) × (t.start ≡ nothing → ⊥)
        unfolding machine_of parts_of
        start_is =
            let e = ap (λ (t : Trailer). t.start) same in
            let s = go (trailer_at bytes).start (eqb (trailer_at bytes).start nothing) refl found-best.2.starts in
            (s.0 ∙ ap some (sym e), λ z. s.1 (sym e ∙ z))
          where
            go : (s : ℕ) (c : Bool) → eqb s nothing ≡ c → cond c none (some s) ≡ some found-best.2.from → (cond c none (some s) ≡ some s) × (s ≡ nothing → ⊥)
            go s true q e = let z : ◌≡◌ {A = ℕ} 0 1 = cc in absurd (omega arith)
            go s false q e = (refl, λ z. eqb-false s nothing q z)

        laid : Storing.Laid (unit_in m) places (suc (length m.finals)) (reversed m) part
        laid = lies m a.climbs b a.few-nodes places part links-is t.start start_is.0 (add-one t.start) rev.laid

        sized : Sized places (none_w part)
        sized = record {
          heap-few = omega arith;
          room = omega arith;
          after = omega arith;
          inside = omega (arith, rev.laid.room);
          small = omega (arith, product, few-links, few-finals);
          each = λ i h. absurd (omega arith);
          numbers = λ i h. absurd (omega arith);
        }

        pub begins : Begins places part
        begins = record { sized = sized; free = omega arith; node = omega (arith, rev.laid.room) }

        fresh : (q : ℕ) → q < suc (length m.finals) → visits_word part places.nodes q ≡ 0
        fresh q h = rev.fresh q (omega arith)

        fans : (v : ℕ) → v < suc (length m.finals) → length ((reversed m).out v) ≤ t.links + finals
        fans v h = omega (arith, fan-few m a.climbs b a.few-nodes places part links-is t.start start_is.0 (add-one t.start) rev.laid v h, links-is, finals-is)

        room-is : slot_length * most_taken m n ≤ places.nodes
        room-is = omega (arith, allowed-is)

        small_is : most_taken m n < 4294967295
        small_is = omega (arith, allowed-is, product, few-links, few-finals)

        pub going : (k : ℕ) → stopped_w n (after_w places n (t.links + finals) k (begun_w places part)) ≡ false → Ready places n (after_w places n (t.links + finals) k (begun_w places part))
        going = readies m a.climbs b a.few-nodes n places (t.links + finals) fans room-is small_is part laid sized fresh

        abbrev pub done : Words
        done = after_w places n (t.links + finals) (1 + finals + n * (t.links + 1)) (begun_w places part)

        pub found : Stores (unit_in m) places (suc (length m.finals)) (reversed m) (search m n) done
        unfolding search
        found =
            subst (λ k. Stores (unit_in m) places (suc (length m.finals)) (reversed m) (search m n) (after_w places n (t.links + finals) k (begun_w places part))) (sym allowed-is)
            (stores-after m a.climbs b a.few-nodes n places (t.links + finals) fans room-is small_is part laid sized fresh (most_taken m n))

        pub holding : Holding (unit_in m) done.part (search m n)
        holding = record {
          slots = omega (arith, found.entries-count, found.sized.room, found.sized.after, found.sized.inside);
          listed-slots = omega (arith, found.listed-few, found.entries-count, found.sized.room, found.sized.after, found.sized.inside);
          held = found.entries;
          held-listed = λ k h. sym (get_or-list_below (length (search m n).listed) (listed_word done.part) k 0 h) ∙ ap (λ l. get_or l k 0) found.listed;
        }

        pub source : Sourced m (search m n)
        unfolding search
        source = sourced m a.climbs n (omega (arith, few-listed m a.climbs n, put-room m a.climbs n (search m n) (holds_after m a.climbs n (most_taken m n)), allowed-is, product, few-links, few-finals))

        pub some-there : result_for m n ≡ list_result m (search m n)
        unfolding result_for
        some-there = ap (result_by m n) found-best.1 ∙ many n lo found-best.0 ∙ trimmed-is m (search m n) (numbered m a.climbs n) (some-listed m a n (omega arith) found-best.0 found-best.2)
          where
            many : (k : ℕ) → 2 ≤ k → (x : Reading) → result_by m k (some x) ≡ trimmed m (search m k)
            many zero h x = absurd (omega arith)
            many (suc zero) h x = absurd (omega arith)
            many (suc (suc k)) h x = refl

        -- ---- the list written
        pub listed-done : Listable bytes t.links done.part done.counts.entries done.counts.listed
        listed-done =
            subst (λ k. Listable bytes k done.part done.counts.entries done.counts.listed) (sym (ap (λ (t : Trailer). t.links) same))
            (subst (λ k. Listable bytes (stated_links bytes) done.part k done.counts.listed) (sym found.entries-count)
            (subst (λ k. Listable bytes (stated_links bytes) done.part (length (search m n).entries) k) (sym found.listed-count) (listable bytes below ok (search m n) (numbered m a.climbs n) done.part holding source)))

        pub answers : (room : ℕ) → list_answer t.form done.counts.listed (kept_count done.counts.entries done.counts.listed done.part) done.counts.taken room ≡ listed_in (result_for m n) room
        answers room =
            (λ i. list_answer (form-is i) (found.listed-count i) (kept_count (found.entries-count i) (found.listed-count i) done.part) (found.taken-count i) room)
            ∙ list-answers bytes below ok (search m n) (numbered m a.climbs n) done.part holding source room ∙ ap (λ r. listed_in r room) (sym some-there)

        pub leaves : (old : List ℕ) → list_after bytes t.links t.form done.part done.counts.entries done.counts.listed old ≡ listed_over (result_for m n) old
        leaves old =
            (λ i. list_after bytes (ap (λ (t : Trailer). t.links) same i) (form-is i) done.part (found.entries-count i) (found.listed-count i) old)
            ∙ list-leaves bytes below ok (search m n) (numbered m a.climbs n) done.part holding source old ∙ ap (λ r. listed_over r old) (sym some-there)
