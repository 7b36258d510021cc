-- The bytes of a result give its machine's fields and its words back, whatever comes after them; the links out of a state, found among its
-- sources; and the empty result holds no reading. Assumes nothing.
use mathlib.Core.Path.{◌≡◌, refl, sym, ap, ap₂, ◌∙◌}
use mathlib.Core.Logic.{inl, inr}
use mathlib.Core.Bool.{Bool, true, false, cond}
use mathlib.Core.Option.{Option, none, some}
use mathlib.Core.List.{List, [], ◌∷◌, ◌++◌, map, flat_map, append_assoc, append-nil}
use Prim.Native.Nat.{ℕ, zero, suc, ◌+◌, ◌*◌, ◌^◌, ◌≤◌, ◌<◌}
use native.Mathlib.Decide.{ℕ_discrete}
use native.Mathlib.Omega.{arith}
use lib.Dec.{eqb}
use lib.ListN.{length, get_or, take, length-append, length-map, get_or-eq_default}
use lib.Seq.{take_at}
use borrow.Author.Tests.{eq-eqb, ne_eqb}
use Rattle.sheet.specs.Below.{list_below}
use Rattle.sheet.specs.declared.form.Form.{Form}
use Rattle.sheet.specs.Words.{word_length, words, bytes_of_all}
use Rattle.sheet.specs.Sheet.{Parts, link_length, node_length, trailer_length, unit_fields, no_start, node_count, sheet_of, parts_of}
use Rattle.sheet.specs.Machine.{Link, Machine, sources_below, node_fields, parts_for}
use Rattle.sheet.proofs.Below.{split_at}
use Rattle.sheet.proofs.Bytes.{length-bytes_of_all}
use Rattle.sheet.proofs.Round.{Below, words_of}
use Rattle.sheet.proofs.Encoding.{Writable, fields_back, sheet-length}
use Rattle.machine.specs.Readings.{link, no_link}
use Rattle.search.specs.Search.{with_input}
use Rattle.search.specs.ListMachine.{Result, empty, word_for, result_bytes}
use Rattle.search.specs.Listed.{out_from, repeated, one_way, ways, list_of}

-- the labels of a machine's links are words
abbrev pub Labels : Machine → Type 0
Labels m = (l : ℕ) → l < length m.links → ((link m l).ilabel < 2 ^ 32) × ((link m l).olabel < 2 ^ 32)

pub labels-all : (m : Machine) → Labels m → (l : ℕ) → ((link m l).ilabel < 2 ^ 32) × ((link m l).olabel < 2 ^ 32)
labels-all m h l = elim (split_at l (length m.links)) [
  | inl b ↦ h l b
  | inr b ↦ (omega (arith, ap (λ (k : Link). k.ilabel) (get_or-eq_default m.links no_link b)), omega (arith, ap (λ (k : Link). k.olabel) (get_or-eq_default m.links no_link b)))
]

-- A result whose machine a sheet can hold, with a word for each link. An input link of number FFFFFFFF would be read as none.
pub record Storable (r : Result) : Type 0 where
  pub machine-fits : Writable r.machine
  pub word_each : length r.repeats ≡ length r.machine.links
  pub inputs-fit : (i l : ℕ) → i < length r.repeats → get_or r.repeats i none ≡ some l → l < no_start

-- ---- what is read
words-below : (os : List (Option ℕ)) → ((i l : ℕ) → i < length os → get_or os i none ≡ some l → l < no_start) → Below 4294967296 (map word_for os)
words-below [] f i = omega arith
words-below (none ∷ os) f zero = omega arith
words-below (some l ∷ os) f zero = omega (arith, f 0 l (omega arith) refl)
words-below (o ∷ os) f (suc i) = words-below os (λ i l h. f (suc i) l (omega arith)) i

-- the list that these fields and words hold
abbrev pub list_in : ℕ → Parts → List ℕ → List (List ℕ)
list_in n p ws = cond (eqb n 1) (one_way p ws) (ways p ws)

module _ (r : Result) (x : Storable r) (rest : List ℕ) where
  abbrev sheet : List ℕ
  sheet = sheet_of (parts_for r.machine)

  abbrev after : List ℕ
  after = bytes_of_all (map word_for r.repeats)

  abbrev size : ℕ
  size = link_length * length r.machine.links + node_length * length r.machine.finals + trailer_length r.machine.form

  pub parts-read : parts_of (take (link_length * length r.machine.links + node_length * length r.machine.finals + trailer_length r.machine.form) (result_bytes r ++ rest)) ≡ parts_for r.machine
  unfolding result_bytes
  parts-read = ap (λ (b : List ℕ). parts_of (take size b)) (append_assoc sheet after rest) ∙ ap parts_of (take_at sheet (after ++ rest) size (sheet-length r.machine x.machine-fits)) ∙ fields_back r.machine x.machine-fits

  pub words-read : words (result_bytes r ++ rest) (link_length * length r.machine.links + node_length * length r.machine.finals + trailer_length r.machine.form) (length r.machine.links) ≡ map word_for r.repeats
  unfolding result_bytes
  words-read =
      (λ i. words (sheet ++ after ++ rest) (sym (sheet-length r.machine x.machine-fits) i) (sym (length-map r.repeats word_for ∙ x.word_each) i))
      ∙ words_of (map word_for r.repeats) sheet rest (words-below r.repeats x.inputs-fit)

  pub result-long : link_length * length r.machine.links + node_length * length r.machine.finals + trailer_length r.machine.form + word_length * length r.machine.links ≤ length (result_bytes r ++ rest)
  unfolding result_bytes
  result-long =
      omega (
        arith,
        length-append (sheet ++ after) rest,
        length-append sheet after,
        sheet-length r.machine x.machine-fits,
        length-bytes_of_all (map word_for r.repeats),
        length-map r.repeats word_for,
        x.word_each,
      )

  pub read_result : (n : ℕ) → list_of r.machine.form n (length r.machine.finals) (length r.machine.links) (result_bytes r ++ rest) ≡ list_in n (parts_for r.machine) (map word_for r.repeats)
  unfolding list_of
  read_result n = λ i. list_in n (parts-read i) (words-read i)

-- ---- the links out of a state
module _ (p : Parts) (ws : List ℕ) where
  abbrev pub source_at : ℕ → ℕ
  source_at l = get_or (sources_below p (node_count p)) l 0

  -- the last of them, where it leaves q and where it does not
  out-more : (q k : ℕ) → source_at k ≡ q → out_from p ws q (suc k) ≡ out_from p ws q k ++ (k ∷ [])
  unfolding out_from
  out-more q k e = ap (λ (t : Bool). out_from p ws q k ++ cond t (k ∷ []) []) (eq-eqb (source_at k) q e)

  out-same : (q k : ℕ) → (source_at k ≡ q → ⊥) → out_from p ws q (suc k) ≡ out_from p ws q k
  unfolding out_from
  out-same q k e = ap (λ (t : Bool). out_from p ws q k ++ cond t (k ∷ []) []) (ne_eqb (source_at k) q e) ∙ append-nil (out_from p ws q k)

  pub out_none : (q k : ℕ) → ((l : ℕ) → l < k → source_at l ≡ q → ⊥) → out_from p ws q k ≡ []
  unfolding out_from
  out_none q zero f = refl
  out_none q (suc k) f = out-same q k (f k (omega arith)) ∙ out_none q k (λ l h. f l (omega arith))

  pub out_one : (q k a : ℕ) → a < k → source_at a ≡ q → ((l : ℕ) → l < k → source_at l ≡ q → l ≡ a) → out_from p ws q k ≡ a ∷ []
  out_one q zero a h e f = absurd (omega arith)
  out_one q (suc k) a h e f = go (ℕ_discrete a k) (λ b. out_one q k a b e (λ l c. f l (omega arith)))
    where
      go : Dec (a ≡ k) → (a < k → out_from p ws q k ≡ a ∷ []) → out_from p ws q (suc k) ≡ a ∷ []
      go (yes z) ih = out-more q k (ap source_at (sym z) ∙ e) ∙ ap₂ (λ (l : List ℕ) (x : ℕ). l ++ (x ∷ [])) (out_none q k (λ l c g. omega (arith, f l (omega arith) g, z))) (sym z)
      go (no z) ih = out-same q k (λ g. z (sym (f k (omega arith) g))) ∙ ih (omega (arith, z))

  out-all : (q k : ℕ) → ((l : ℕ) → l < k → source_at l ≡ q) → out_from p ws q k ≡ list_below k (λ l. l)
  unfolding out_from list_below
  out-all q zero f = refl
  out-all q (suc k) f = out-more q k (f k (omega arith)) ∙ ap (λ (l : List ℕ). l ++ (k ∷ [])) (out-all q k (λ l h. f l (omega arith)))

  -- where the first j leave q and no later one does
  pub out-front : (q k j : ℕ) → j ≤ k → ((l : ℕ) → l < j → source_at l ≡ q) → ((l : ℕ) → j ≤ l → l < k → source_at l ≡ q → ⊥) → out_from p ws q k ≡ list_below j (λ l. l)
  unfolding out_from list_below
  out-front q zero j h f g = ap (λ (n : ℕ). list_below n (λ l. l)) (let z : 0 ≡ j = omega arith in z)
  out-front q (suc k) j h f g = go (ℕ_discrete j (suc k)) (λ b. out-front q k j b f (λ l c d. g l c (omega arith)))
    where
      go : Dec (j ≡ suc k) → (j ≤ k → out_from p ws q k ≡ list_below j (λ l. l)) → out_from p ws q (suc k) ≡ list_below j (λ l. l)
      go (yes z) ih = out-all q (suc k) (λ l c. f l (omega (arith, z))) ∙ ap (λ (n : ℕ). list_below n (λ l. l)) (sym z)
      go (no z) ih = out-same q k (g k (omega (arith, z)) (omega arith)) ∙ ih (omega (arith, z))

  -- ---- the word of a link
  pub repeated-is : (o : Option ℕ) (l : ℕ) (way : List ℕ) → ((a : ℕ) → o ≡ some a → a < no_start) → get_or ws l 0 ≡ word_for o → repeated p ws l way ≡ with_input o way
  repeated-is none l way f e = ap (λ (x : ℕ). cond (eqb x no_start) way (x ∷ way)) e
  repeated-is (some a) l way f e = ap (λ (x : ℕ). cond (eqb x no_start) way (x ∷ way)) e ∙ ap (λ (t : Bool). cond t way (a ∷ way)) (ne_eqb a no_start (λ z. omega (arith, z, f a refl)))

-- ---- the empty result, where the unit is a word
module _ (form : Form) (unit-word : Below 4294967296 (unit_fields form)) where
  pub empty-storable : Storable (empty form)
  empty-storable = record {
    machine-fits = record { each = λ l d h. absurd (omega arith); by-source = λ k l d a b. absurd (omega arith); start_fits_lem = omega arith; few-nodes = omega arith; few-links = omega arith; unit-word = unit-word };
    word_each = refl;
    inputs-fit = λ i l h e. absurd (omega arith);
  }

  pub empty_back : (n : ℕ) (rest : List ℕ) → list_of form n 0 0 (result_bytes (empty form) ++ rest) ≡ []
  unfolding parts_for flat_map node_fields out_from
  empty_back n rest = read_result (empty form) empty-storable rest n ∙ go (eqb n 1)
    where
      go : (t : Bool) → cond t (one_way (parts_for (empty form).machine) []) (ways (parts_for (empty form).machine) []) ≡ []
      go true = refl
      go false = refl
