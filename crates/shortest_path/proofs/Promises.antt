-- What the call answers and leaves keeps demand 3. Assumes nothing.
use mathlib.Core.Path.{◌≡◌, refl, sym, ap, ◌∙◌, subst}
use mathlib.Core.Bool.{Bool, true, false, cond}
use mathlib.Core.Option.{Option, none, some}
use mathlib.Core.List.Memᴰ
use mathlib.Core.List.{List, [], ◌∷◌, ◌++◌, map}
use Prim.Native.Nat.{ℕ, zero, suc, ◌+◌, ◌*◌, ◌≤◌, ◌<◌}
use native.Mathlib.Omega.{arith}
use lib.Dec.{eqb}
use lib.ListN.{length, take, drop}
use borrow.Author.Tests.{eqb-true}
use Rattle.tropical_weight.specs.Limits.{list_limit}
use Rattle.sheet.specs.declared.form.Form.{Form}
use Rattle.sheet.specs.Sheet.{Parts, link_length, node_length, trailer_length, form_of, parts_of}
use Rattle.sheet.specs.Machine.{Machine, machine}
use Rattle.sheet.proofs.Round.{Below}
use Rattle.sheet.proofs.Encoding.{form-is}
use Rattle.machine.specs.Readings.{Reading, IsReading, reading_of}
use Rattle.machine.specs.Parents.{best}
use Rattle.machine.specs.Demand.{Demand}
use Rattle.machine.proofs.Readings.{reading-is}
use Rattle.machine.proofs.Parents.{best-is}
use Rattle.search.specs.ListMachine.{result_for, result_by, result_bytes}
use Rattle.search.specs.Listed.{list_of}
use Rattle.search.proofs.Complete.{stops}
use Rattle.search.proofs.Results.{parts-read, empty_back}
use Rattle.search.proofs.Lists.{Accepted, accepted, list_in, demand-result, result-one, result-many, result-taken, result-form}
use Rattle.search.proofs.Sizes.{result-storable}
use Rattle.std.specs.Prelude.{Result}
use Rattle.sheet.specs.declared.refusal.Refusal.{Refusal}
use Rattle.list_answer.specs.declared.Listed.{Listed}
use Rattle.sheet.specs.Refusals.{answer_by}
use Rattle.shortest_path.specs.Outcome.{result_of, answer_of, list_number, counts_of, list_answer, result_after}
use Rattle.shortest_path.specs.Promise.{if_any, Keeps, Promised}
use Rattle.shortest_path.proofs.Joining.{zero-empty}
use Rattle.shortest_path.proofs.Outcomes.{number-zero}

module _ (m : Machine) (a : Accepted m) where
  no-reading : ((x : Reading) → IsReading m x → ⊥) → (x : Reading) → best m ≡ some x → ⊥
  no-reading f x e = f x (best-is m a.climbs x e).0

  -- n = 0 asks for nothing
  demand-zero : Demand m 0 []
  demand-zero = record {
    size = omega arith;
    each = λ x h. absurd (Memᴰ.not-nil h);
    apart = tt;
    order = tt;
    left = λ x y h i k. absurd (Memᴰ.not-nil h);
  }

  module _ (rest : List ℕ) where
    list-zero : list_in 0 (result_for m 0) rest ≡ []
    list-zero = ap (λ r. list_in 0 r rest) (zero-empty m) ∙ empty_back m.form a.unit-word 0 rest

    demand-each : (n : ℕ) → n ≤ list_limit → Demand m n (map (reading_of m) (list_in n (result_for m n) rest))
    demand-each zero b = subst (λ l. Demand m 0 (map (reading_of m) l)) (sym list-zero) demand-zero
    demand-each (suc k) b = demand-result m a (suc k) (omega arith) b rest

    one-parents : map (reading_of m) (list_in 1 (result_for m 1) rest) ≡ if_any (best m)
    unfolding result_for
    one-parents = go (best m) refl
      where
        go : (o : Option Reading) → best m ≡ o → map (reading_of m) (list_in 1 (result_by m 1 o) rest) ≡ if_any o
        go none e = ap (map (reading_of m)) (empty_back m.form a.unit-word 1 rest)
        go (some x) e = ap (map (reading_of m)) (sym (ap (λ o. list_in 1 (result_by m 1 o) rest) e) ∙ result-one m a x e rest) ∙ ap (λ y. y ∷ []) (reading-is m x (best-is m a.climbs x e).0)

    none-taken : (n : ℕ) → ((x : Reading) → IsReading m x → ⊥) → (result_for m n).taken ≡ 0
    unfolding result_for
    none-taken n f = go (best m) refl
      where
        go : (o : Option Reading) → best m ≡ o → (result_by m n o).taken ≡ 0
        go none e = refl
        go (some x) e = absurd (no-reading f x e)

    few-taken : (n : ℕ) → n < 2 → (result_for m n).taken ≡ 0
    unfolding result_for
    few-taken n h = go n h (best m)
      where
        go : (n : ℕ) → n < 2 → (o : Option Reading) → (result_by m n o).taken ≡ 0
        go n h none = refl
        go zero h (some x) = refl
        go (suc zero) h (some x) = refl
        go (suc (suc k)) h (some x) = absurd (omega arith)

    -- the list by the form of the machine that is read, which the result's has
    abbrev list_by : ℕ → Form → List (List ℕ)
    list_by n form = let r = result_for m n in list_of form n (length r.machine.finals) (length r.machine.links) (result_bytes r ++ rest)

    read-by : (n : ℕ) → list_by n m.form ≡ list_in n (result_for m n) rest
    read-by n = ap (list_by n) (sym (result-form m n))

    form_back : (n : ℕ) → n ≤ list_limit → let r = result_for m n in form_of (take (link_length * length r.machine.links + node_length * length r.machine.finals + trailer_length m.form) (result_bytes r ++ rest)) ≡ m.form
    unfolding parts_of
    form_back n b =
        let r = result_for m n in
        subst (λ (f : Form). form_of (take (link_length * length r.machine.links + node_length * length r.machine.finals + trailer_length f) (result_bytes r ++ rest)) ≡ f) (result-form m n)
        (ap (λ (p : Parts). p.form) (parts-read r (result-storable m a n b) rest) ∙ form-is r.machine)

    pub keeps : (n : ℕ) → n ≤ list_limit → let r = result_for m n in Keeps m n (length r.machine.finals) (length r.machine.links) r.taken (result_bytes r ++ rest)
    keeps n b = record {
      form = form_back n b;
      demand = subst (λ l. Demand m n (map (reading_of m) l)) (sym (read-by n)) (demand-each n b);
      parents = λ e. ap (map (reading_of m)) (read-by n) ∙ subst (λ (k : ℕ). map (reading_of m) (list_in k (result_for m k) rest) ≡ if_any (best m)) (sym e) one-parents;
      searched = λ p x i. let h = result-many m a n p b x i rest in (read-by n ∙ h.0, h.1);
      stops = stops m a.climbs n;
      unread = none-taken n;
      unsearched = few-taken n;
      bound = result-taken m a n;
    }

-- of every answer, and the result area afterwards
pub promised : (bytes : List ℕ) → Below 256 bytes → (n words : ℕ) (result : List ℕ) → Promised bytes n (list_answer bytes n words (length result)) (result_after bytes n words result)
promised bytes below n words result = go (eqb number 0) refl
  where
    number : ℕ
    number = list_number bytes n words (length result)

    go : (b : Bool) → eqb number 0 ≡ b → Promised bytes n (answer_by b (counts_of (result_of bytes n)) number) (cond b (answer_of bytes n ++ drop (length (answer_of bytes n)) result) result)
    go false q = tt
    go true q =
        let z = number-zero bytes n words (length result) (eqb-true number 0 q) in
        keeps (machine bytes) (accepted bytes below z.0) (drop (length (answer_of bytes n)) result) n z.1

-- by what the calls answer and leave
pub promised-by : (bytes : List ℕ) → Below 256 bytes → (n words : ℕ) (result : List ℕ) (told : Result Listed Refusal) (after : List ℕ) → told ≡ list_answer bytes n words (length result) → after ≡ result_after bytes n words result → Promised bytes n told after
promised-by bytes below n words result told after a r = subst (λ (x : Result Listed Refusal). Promised bytes n x after) (sym a) (subst (λ (x : List ℕ). Promised bytes n (list_answer bytes n words (length result)) x) (sym r) (promised bytes below n words result))
