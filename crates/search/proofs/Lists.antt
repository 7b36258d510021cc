-- Demand 3 of the result for every n from 1 to 64, about the list that is read back from its bytes alone. Assumes nothing.
use mathlib.Core.Path.{◌≡◌, refl, sym, ap, ◌∙◌, subst}
use mathlib.Core.Option.{Option, none, some}
use mathlib.Core.List.Memᴰ
use mathlib.Core.List.{List, [], ◌∷◌, ◌++◌, map}
use Prim.Native.Nat.{ℕ, zero, suc, ◌+◌, ◌*◌, ◌≤◌, ◌<◌}
use native.Mathlib.Nat.{mul-le-mul_right}
use native.Mathlib.Omega.{arith}
use lib.ListN.{length, length-map}
use Rattle.tropical_weight.specs.Limits.{node_limit, link_limit, list_limit}
use Rattle.tropical_weight.specs.Tropical.{Tropical}
use Rattle.sheet.specs.Sheet.{unit_fields, parts_of}
use Rattle.sheet.specs.Machine.{Machine, machine_of, machine}
use Rattle.sheet.proofs.Round.{Below}
use Rattle.machine.specs.Readings.{Reading, IsReading, reading_of, readings, marked}
use Rattle.machine.specs.Climbs.{Climbs}
use Rattle.machine.specs.Parents.{best}
use Rattle.machine.specs.Demand.{Demand}
use Rattle.machine.specs.Input.{input_number}
use Rattle.machine.proofs.Lists.{nodup-length}
use Rattle.machine.proofs.Runs.{run_length, run_in}
use Rattle.machine.proofs.Readings.{final-in, reading-is, readings-are}
use Rattle.machine.proofs.Parents.{best-is, best-some, no-best}
use Rattle.machine.proofs.SheetFields.{fields-own, labels-below}
use Rattle.sheet.proofs.Forms.{unit-word}
use Rattle.machine.proofs.Demand.{demand-best, demand-none}
use Rattle.search.specs.Search.{most_taken, search, runs, run_of}
use Rattle.search.specs.ListMachine.{Result, best_result, trimmed, result_by, result_for, result_bytes}
use Rattle.search.specs.Listed.{list_of}
use Rattle.search.proofs.Complete.{holds, put-in, few-listed, taken-bound, demand-search}
use Rattle.search.proofs.Entries.{numbered, inputs_in}
use Rattle.search.proofs.Trims.{trimmed-is}
use Rattle.search.proofs.Results.{Labels, empty_back}
use Rattle.search.proofs.Readback.{Fits, list_back}
use Rattle.search.proofs.BackOne.{OneFits, best-back}

-- the list for n that a result's bytes hold, with any bytes after them
abbrev pub list_in : ℕ → Result → List ℕ → List (List ℕ)
list_in n r rest = list_of r.machine.form n (length r.machine.finals) (length r.machine.links) (result_bytes r ++ rest)

-- what is known of the machine of an accepted sheet
pub record Accepted (m : Machine) : Type 0 where
  pub climbs : Climbs m
  pub labels : Labels m
  pub few-nodes : length m.finals ≤ node_limit
  pub few-links : length m.links ≤ link_limit
  pub unit-word : Below 4294967296 (unit_fields m.form)

pub marked-few : (fs : List (Option Tropical)) → marked fs ≤ length fs
unfolding marked
marked-few [] = omega arith
marked-few (none ∷ fs) = omega (arith, marked-few fs)
marked-few (some w ∷ fs) = omega (arith, marked-few fs)

module _ (m : Machine) (a : Accepted m) where
  -- ---- from n = 2
  few-entries : (n : ℕ) → n ≤ list_limit → most_taken m n ≤ 1 + node_limit + list_limit * (link_limit + 1)
  few-entries n b =
      let x : n * (length m.links + 1) ≤ list_limit * (length m.links + 1) = mul-le-mul_right (length m.links + 1) b in
      omega (arith, x, marked-few m.finals, a.few-nodes, a.few-links)

  pub fits : (n : ℕ) → n ≤ list_limit → Fits m (search m n)
  fits n b = record {
    labels = a.labels;
    few = omega (arith, put-in m a.climbs n, (holds m a.climbs n).mirrors.size, few-listed m a.climbs n, few-entries n b);
    inputs = λ i l p e. omega (arith, inputs_in m a.climbs n i p l e, a.few-links);
    unit-word = a.unit-word;
  }

  -- where there is a reading one is listed
  pub some-listed : (n : ℕ) → 1 ≤ n → (y : Reading) → IsReading m y → 0 < length (search m n).listed
  unfolding runs
  some-listed n p y i =
      omega (
        arith,
        nodup-length (y ∷ []) (readings m) (λ h. Memᴰ.not-nil h, tt) (λ x h. (readings-are m a.climbs x).1 (subst (IsReading m) (sym (Memᴰ.eq_of_singleton h)) i)),
        (demand-search m a.climbs n).size,
        length-map (runs (search m n)) (reading_of m),
        length-map (search m n).listed (λ i. run_of (search m n).entries (length (search m n).entries) i),
      )

  pub list-many : (n : ℕ) → 2 ≤ n → n ≤ list_limit → (y : Reading) → IsReading m y → (rest : List ℕ) → list_in n (trimmed m (search m n)) rest ≡ runs (search m n)
  list-many n p b y i rest =
      ap (λ r. list_in n r rest) (trimmed-is m (search m n) (numbered m a.climbs n) (some-listed n (omega arith) y i))
      ∙ list_back m (search m n) (numbered m a.climbs n) (fits n b) n (λ z. omega (arith, z)) rest

  -- ---- n = 1
  pub one-fits : (x : Reading) → IsReading m x → OneFits m x
  one-fits x i = record {
    labels = a.labels;
    few = omega (arith, run_length m a.climbs x.run i.from x.end i.runs, final-in m x.end i.weight i.marked, a.few-nodes);
    inputs = λ l h. omega (arith, run_in m x.run i.from x.end i.runs l h, a.few-links);
    unit-word = a.unit-word;
  }

  pub list-one : (x : Reading) → IsReading m x → (rest : List ℕ) → list_in 1 (best_result m x) rest ≡ x.run ∷ []
  list-one x i rest = best-back m x (one-fits x i) i.weight i.marked rest

  -- ---- for every n: where there is a reading, the parents' or the search's; else none
  pub demand-result : (n : ℕ) → 1 ≤ n → n ≤ list_limit → (rest : List ℕ) → Demand m n (map (reading_of m) (list_in n (result_for m n) rest))
  unfolding result_for
  demand-result n p b rest = go n p b (best m) refl
    where
      go : (n : ℕ) → 1 ≤ n → n ≤ list_limit → (o : Option Reading) → best m ≡ o → Demand m n (map (reading_of m) (list_in n (result_by m n o) rest))
      go n p b none e = subst (λ l. Demand m n (map (reading_of m) l)) (sym (empty_back m.form a.unit-word n rest)) (demand-none m a.climbs n (no-best m a.climbs e))
      go zero p b (some x) e = absurd (omega arith)
      go (suc zero) p b (some x) e =
          let i = (best-is m a.climbs x e).0 in
          subst (Demand m 1) (sym (ap (map (reading_of m)) (list-one x i rest) ∙ ap (λ y. y ∷ []) (reading-is m x i))) (demand-best m a.climbs x e)
      go (suc (suc k)) p b (some x) e =
          let n = suc (suc k) in
          subst (λ l. Demand m n (map (reading_of m) l)) (sym (list-many n (omega arith) b x (best-is m a.climbs x e).0 rest)) (demand-search m a.climbs n)

  -- n = 1: the reading, if there is one, is the one that the parents give
  pub result-one : (x : Reading) → best m ≡ some x → (rest : List ℕ) → list_in 1 (result_for m 1) rest ≡ x.run ∷ []
  unfolding result_for
  result-one x e rest = ap (λ o. list_in 1 (result_by m 1 o) rest) e ∙ list-one x (best-is m a.climbs x e).0 rest

  -- from n = 2, where there is a reading: the list is the search's, in its order, and taken is the number that it removes
  pub result-many : (n : ℕ) → 2 ≤ n → n ≤ list_limit → (y : Reading) → IsReading m y → (rest : List ℕ) → (list_in n (result_for m n) rest ≡ runs (search m n)) × ((result_for m n).taken ≡ (search m n).taken)
  unfolding result_for
  result-many zero p b y i rest = absurd (omega arith)
  result-many (suc zero) p b y i rest = absurd (omega arith)
  result-many (suc (suc k)) p b y i rest =
      let n = suc (suc k) in
      let x = best-some m a.climbs y i in
      (ap (λ o. list_in n (result_by m n o) rest) x.1 ∙ list-many n p b y i rest, ap (λ o. (result_by m n o).taken) x.1)

  -- entries taken, for every n
  pub result-taken : (n : ℕ) → (result_for m n).taken ≤ most_taken m n
  unfolding result_for
  result-taken n = go n (best m)
    where
      go : (n : ℕ) (o : Option Reading) → (result_by m n o).taken ≤ most_taken m n
      go n none = omega arith
      go zero (some x) = omega arith
      go (suc zero) (some x) = omega arith
      go (suc (suc k)) (some x) = taken-bound m a.climbs (suc (suc k))

-- the result's machine has the form of the machine that is read
pub result-form : (m : Machine) (n : ℕ) → (result_for m n).machine.form ≡ m.form
unfolding result_for trimmed
result-form m n = go n (best m)
  where
    go : (n : ℕ) (o : Option Reading) → (result_by m n o).machine.form ≡ m.form
    go n none = refl
    go zero (some x) = refl
    go (suc zero) (some x) = refl
    go (suc (suc k)) (some x) = refl

-- the machine of every accepted sheet is one
pub accepted : (bytes : List ℕ) → Below 256 bytes → input_number bytes ≡ 0 → Accepted (machine_of (parts_of bytes))
accepted bytes b e = let f = fields-own bytes e in record { climbs = f.climbs; labels = labels-below f b; few-nodes = f.few-nodes; few-links = f.few-links; unit-word = unit-word (machine bytes).form f.unit_fits_lem }
