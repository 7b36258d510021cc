-- How long a result is: by the counts of its machine, and at most by the counts of the machine that is read. Assumes nothing.
use mathlib.Core.Path.{◌≡◌, refl, sym, ap, ◌∙◌, subst}
use mathlib.Core.Option.{Option, none, some}
use mathlib.Core.List.{List, ◌++◌, map}
use Prim.Native.Nat.{ℕ, zero, suc, ◌+◌, ◌-◌, ◌*◌, ◌≤◌}
use native.Mathlib.Omega.{arith}
use lib.ListN.{length, take, length-append, length-map}
use Rattle.tropical_weight.specs.Limits.{list_limit}
use Rattle.sheet.specs.Words.{word_length, bytes_of_all}
use Rattle.sheet.specs.Sheet.{Parts, link_length, node_length, trailer_length, form_of, parts_of, sheet_of}
use Rattle.sheet.specs.Machine.{Machine, parts_for}
use Rattle.sheet.proofs.Bytes.{length-bytes_of_all}
use Rattle.sheet.proofs.Encoding.{form-is, sheet-length}
use Rattle.machine.specs.Readings.{Reading}
use Rattle.machine.specs.Parents.{best}
use Rattle.machine.proofs.Runs.{run_length}
use Rattle.machine.proofs.Readings.{final-in}
use Rattle.machine.proofs.Parents.{best-is}
use Rattle.search.specs.Search.{most_taken, search}
use Rattle.search.specs.ListMachine.{Result, empty, word_for, result_by, result_for, result_bytes}
use Rattle.search.specs.States.{later}
use Rattle.search.proofs.Complete.{holds, put-in, few-listed}
use Rattle.search.proofs.Entries.{numbered}
use Rattle.search.proofs.OnWays.{kept-le}
use Rattle.search.proofs.Trims.{trimmed-is}
use Rattle.search.proofs.Results.{Storable, empty-storable, parts-read, read_result}
use Rattle.search.proofs.Readback as Readback
use Rattle.search.proofs.Readback.{list-storable}
use Rattle.search.proofs.BackOne as BackOne
use Rattle.search.proofs.BackOne.{best-storable}
use Rattle.search.proofs.Lists.{Accepted, list_in, fits, one-fits, some-listed, result-form}

-- the sheet, and a word a link
pub result-length : (r : Result) → Storable r → length (result_bytes r) ≡ (link_length + word_length) * length r.machine.links + node_length * length r.machine.finals + trailer_length r.machine.form
unfolding result_bytes
result-length r x =
    omega (
      arith,
      length-append (sheet_of (parts_for r.machine)) (bytes_of_all (map word_for r.repeats)),
      sheet-length r.machine x.machine-fits,
      length-bytes_of_all (map word_for r.repeats),
      length-map r.repeats word_for,
      x.word_each,
    )

-- at most so many nodes and links
pub record Holds (r : Result) (nodes links : ℕ) : Type 0 where
  pub storable : Storable r
  pub few-nodes : length r.machine.finals ≤ nodes
  pub few-links : length r.machine.links ≤ links

module _ (m : Machine) (a : Accepted m) where
  empty_holds : (nodes links : ℕ) → Holds (empty m.form) nodes links
  empty_holds nodes links = record { storable = empty-storable m.form a.unit-word; few-nodes = omega arith; few-links = omega arith }

  -- n = 1: a run has fewer links than there are nodes
  pub one_holds : Holds (result_for m 1) (length m.finals) (length m.finals)
  unfolding result_for
  one_holds = go (best m) refl
    where
      go : (o : Option Reading) → best m ≡ o → Holds (result_by m 1 o) (length m.finals) (length m.finals)
      go none e = empty_holds (length m.finals) (length m.finals)
      go (some x) e =
          let i = (best-is m a.climbs x e).0 in
          let short : length x.run + 1 ≤ length m.finals = omega (arith, run_length m a.climbs x.run i.from x.end i.runs, final-in m x.end i.weight i.marked) in
          record {
            storable = best-storable m x (one-fits m a x i);
            few-nodes = omega (arith, BackOne.nodes-long m x, short);
            few-links = omega (arith, BackOne.links-long m x, short);
          }

  -- from n = 2: a state for each entry, and the start; a link for each entry but the first, and for each that is listed
  pub many-holds : (n : ℕ) → 2 ≤ n → n ≤ list_limit → Holds (result_for m n) (most_taken m n + 1) (most_taken m n + n)
  unfolding result_for
  many-holds n p b = go n p b (best m) refl
    where
      go : (n : ℕ) → 2 ≤ n → n ≤ list_limit → (o : Option Reading) → best m ≡ o → Holds (result_by m n o) (most_taken m n + 1) (most_taken m n + n)
      go n p b none e = empty_holds (most_taken m n + 1) (most_taken m n + n)
      go zero p b (some x) e = absurd (omega arith)
      go (suc zero) p b (some x) e = absurd (omega arith)
      go (suc (suc k)) p b (some x) e =
          let n = suc (suc k) in
          let s = search m n in
          let i = (best-is m a.climbs x e).0 in
          let later-few : length (later s) + 1 ≤ most_taken m n = omega (arith, kept-le s (length s.entries - 1), put-in m a.climbs n, (holds m a.climbs n).mirrors.size) in
          subst (λ (r : Result). Holds r (most_taken m n + 1) (most_taken m n + n)) (sym (trimmed-is m s (numbered m a.climbs n) (some-listed m a n (omega arith) x i)))
          (record {
            storable = list-storable m s (numbered m a.climbs n) (fits m a n b);
            few-nodes = omega (arith, Readback.nodes-long m s, later-few);
            few-links = omega (arith, Readback.links-long m s, later-few, few-listed m a.climbs n);
          })

  pub zero-holds : Holds (result_for m 0) 0 0
  unfolding result_for
  zero-holds = go (best m)
    where
      go : (o : Option Reading) → Holds (result_by m 0 o) 0 0
      go none = empty_holds 0 0
      go (some x) = empty_holds 0 0

  pub result-storable : (n : ℕ) → n ≤ list_limit → Storable (result_for m n)
  result-storable zero b = zero-holds.storable
  result-storable (suc zero) b = one_holds.storable
  result-storable (suc (suc k)) b = (many-holds (suc (suc k)) (omega arith) b).storable

  -- what follows a result does not change its list
  pub rest-same : (n : ℕ) → n ≤ list_limit → (rest other : List ℕ) → list_in n (result_for m n) rest ≡ list_in n (result_for m n) other
  rest-same n b rest other = read_result (result_for m n) (result-storable n b) rest n ∙ sym (read_result (result_for m n) (result-storable n b) other n)

  -- its sheet, as its bytes are read, has the form of the machine that is answered
  pub form-read : (n : ℕ) → n ≤ list_limit → (rest : List ℕ) → let r = result_for m n in
      form_of (take (link_length * length r.machine.links + node_length * length r.machine.finals + trailer_length r.machine.form) (result_bytes r ++ rest)) ≡ m.form
  unfolding parts_of
  form-read n b rest = let r = result_for m n in ap (λ (p : Parts). p.form) (parts-read r (result-storable n b) rest) ∙ form-is r.machine ∙ result-form m n
