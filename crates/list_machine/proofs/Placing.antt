-- Words stored, and the lengths of the lists that are stored. Assumes nothing.
use mathlib.Core.Path.{◌≡◌, refl, sym, ap, ◌∙◌}
use mathlib.Core.Logic.{inl, inr}
use mathlib.Core.Bool.{Bool, true, false, cond}
use mathlib.Core.List.{List, [], ◌∷◌, ◌++◌}
use Prim.Native.Nat.{ℕ, zero, suc, ◌+◌, ◌-◌, ◌*◌, ◌≤◌, ◌<◌}
use native.Mathlib.Nat.{le_of_eq, eq-or-lt_of_le}
use native.Mathlib.Numerals.{add-one}
use native.Mathlib.Omega.{arith}
use lib.Dec.{eqb}
use lib.ListN.{length, replicate, length-append, length-replicate, replicate-append-replicate}
use lib.Seq.{sets}
use borrow.Author.Tests.{eq-eqb, ne_eqb}
use Rattle.sheet.specs.declared.form.Form.{Form}
use Rattle.sheet.specs.Words.{bytes_of, bytes_of_all}
use Rattle.sheet.specs.Sheet.{node_length, trailer_length}
use Rattle.sheet.specs.Answers.{parts}
use Rattle.sheet.proofs.Bytes.{length-bytes_of_all, bytes_of_all-one, stored_next}
use Rattle.sheet.proofs.Writing.{trailer-size}
use Rattle.slots.specs.Slots.{nothing}
use Rattle.slots.proofs.Numbers.{number-none, number-some}
use Rattle.list_answer.specs.ListAnswer.{link_to, state_words}
use Rattle.list_answer.proofs.Stores.{length-states}
use Rattle.std.specs.Prelude.{Option, None, Some}
use Rattle.search_slots.specs.Slots.{from_word, input_word, listed_word, state_word}
use Rattle.list_machine.specs.TrimWords.{mark_of, mark_count, start_words, node_of, input_of, blank_bits, words_by, entry_words, stated_words, link_words, repeat_words, input_words, links_part, nodes_part, words_part, list_words, list_length, head_words, trailer_words}

-- ---- nothing stored
pub sets-none : (l : List ℕ) (at : ℕ) → sets l at (bytes_of_all []) ≡ l
unfolding bytes_of_all
sets-none l at = refl

-- ---- an entry that is no state, or one
module _ (part : List ℕ) (i : ℕ) where
  pub repeat-off : state_word part i ≡ 0 → repeat_words part i ≡ []
  repeat-off e = ap (λ (t : Bool). cond t [] (input_word part i ∷ [])) (eq-eqb (state_word part i) 0 e)

  pub repeat-on : (state_word part i ≡ 0 → ⊥) → repeat_words part i ≡ input_word part i ∷ []
  repeat-on h = ap (λ (t : Bool). cond t [] (input_word part i ∷ [])) (ne_eqb (state_word part i) 0 h)

  module _ (bytes : List ℕ) (links : ℕ) where
    pub stated-off : state_word part i ≡ 0 → stated_words bytes links part i ≡ []
    stated-off e = ap (λ (t : Bool). cond t [] (entry_words bytes links part i)) (eq-eqb (state_word part i) 0 e)

    pub stated-on : (state_word part i ≡ 0 → ⊥) → stated_words bytes links part i ≡ entry_words bytes links part i
    stated-on h = ap (λ (t : Bool). cond t [] (entry_words bytes links part i)) (ne_eqb (state_word part i) 0 h)

    abbrev by : Option ℕ → List ℕ
    by o = words_by bytes links o (node_of part i) (state_word part (from_word part i))

    pub entry-blank : input_word part i ≡ nothing → entry_words bytes links part i ≡ 0 ∷ 0 ∷ blank_bits bytes links (node_of part i) ∷ state_word part (from_word part i) ∷ []
    entry-blank e = ap by (number-none (input_word part i) e)

    pub entry-copied : (input_word part i ≡ nothing → ⊥) → entry_words bytes links part i ≡ link_to bytes (input_word part i) (state_word part (from_word part i))
    entry-copied h = ap by (number-some (input_word part i) h)

-- ---- the start's links
pub start-next : (part : List ℕ) (k : ℕ) → start_words part (k + 1) ≡ start_words part k ++ (0 ∷ 0 ∷ 0 ∷ state_word part (listed_word part k) ∷ [])
unfolding start_words
start-next part k = ap (start_words part) (add-one k)

pub length-start : (part : List ℕ) (k : ℕ) → length (start_words part k) ≡ 4 * k
unfolding start_words
length-start part zero = refl
length-start part (suc k) = length-append (start_words part k) (0 ∷ 0 ∷ 0 ∷ state_word part (listed_word part k) ∷ []) ∙ omega (arith, length-start part k)

-- ---- the entries' links
length-entry : (bytes : List ℕ) (links : ℕ) (part : List ℕ) (i : ℕ) → length (entry_words bytes links part i) ≡ 4
length-entry bytes links part i = go (input_of part i)
  where
    go : (o : Option ℕ) → length (words_by bytes links o (node_of part i) (state_word part (from_word part i))) ≡ 4
    go None = refl
    go (Some l) = refl

length-stated : (bytes : List ℕ) (links : ℕ) (part : List ℕ) (i : ℕ) → length (stated_words bytes links part i) ≡ 4 * mark_of part i
length-stated bytes links part i = go (eqb (state_word part i) 0)
  where
    go : (t : Bool) → length (cond t [] (entry_words bytes links part i)) ≡ 4 * cond t 0 1
    go true = refl
    go false = length-entry bytes links part i

pub length-links : (bytes : List ℕ) (links : ℕ) (part : List ℕ) (k : ℕ) → length (link_words bytes links part k) ≡ 4 * mark_count part k
unfolding link_words mark_count
length-links bytes links part zero = refl
length-links bytes links part (suc k) = length-append (link_words bytes links part k) (stated_words bytes links part (suc k)) ∙ omega (arith, length-links bytes links part k, length-stated bytes links part (suc k))

pub links-next : (bytes : List ℕ) (links : ℕ) (part : List ℕ) (i : ℕ) → 0 < i → link_words bytes links part i ≡ link_words bytes links part (i - 1) ++ stated_words bytes links part i
unfolding link_words
links-next bytes links part zero h = absurd (omega arith)
links-next bytes links part (suc k) h = ap (λ (j : ℕ). link_words bytes links part j ++ stated_words bytes links part (suc k)) (let e : k ≡ suc k - 1 = omega arith in e)

-- ---- the words
pub nothings-next : (l m n : List ℕ) (at k : ℕ) → m ≡ sets l at (bytes_of_all (replicate k nothing)) → n ≡ sets m (at + 4 * k) (bytes_of nothing) → n ≡ sets l at (bytes_of_all (replicate (k + 1) nothing))
nothings-next l m n at k e f =
    stored_next l m n at (replicate k nothing) (nothing ∷ []) (at + 4 * k) e (f ∙ ap (sets m (at + 4 * k)) (sym (bytes_of_all-one nothing))) (omega (arith, length-replicate k nothing))
    ∙ ap (λ (ws : List ℕ). sets l at (bytes_of_all ws)) (replicate-append-replicate k 1 nothing)

length-repeat : (part : List ℕ) (i : ℕ) → length (repeat_words part i) ≡ mark_of part i
length-repeat part i = go (eqb (state_word part i) 0)
  where
    go : (t : Bool) → length (cond t [] (input_word part i ∷ [])) ≡ cond t 0 1
    go true = refl
    go false = refl

pub length-inputs : (part : List ℕ) (k : ℕ) → length (input_words part k) ≡ mark_count part k
unfolding input_words mark_count
length-inputs part zero = refl
length-inputs part (suc k) = length-append (input_words part k) (repeat_words part (suc k)) ∙ omega (arith, length-inputs part k, length-repeat part (suc k))

pub inputs-next : (part : List ℕ) (i : ℕ) → 0 < i → input_words part i ≡ input_words part (i - 1) ++ repeat_words part i
unfolding input_words
inputs-next part zero h = absurd (omega arith)
inputs-next part (suc k) h = ap (λ (j : ℕ). input_words part j ++ repeat_words part (suc k)) (let e : k ≡ suc k - 1 = omega arith in e)

-- ---- marks counted
pub count-mono : (part : List ℕ) (b a : ℕ) → a ≤ b → mark_count part a ≤ mark_count part b
unfolding mark_count
count-mono part zero zero h = omega arith
count-mono part zero (suc a) h = absurd (omega arith)
count-mono part (suc b) a h = elim (eq-or-lt_of_le h) [ inl e ↦ le_of_eq (ap (mark_count part) e) | inr l ↦ omega (arith, count-mono part b a (omega arith)) ]

-- ---- all of it
pub length-links_part : (bytes : List ℕ) (links : ℕ) (part : List ℕ) (entries listed kept : ℕ) → kept ≡ mark_count part (entries - 1) → length (links_part bytes links part entries listed) ≡ 4 * (listed + kept)
length-links_part bytes links part entries listed kept e = length-append (start_words part listed) (link_words bytes links part (entries - 1)) ∙ omega (arith, length-start part listed, length-links bytes links part (entries - 1))

pub length-nodes_part : (form : Form) (listed kept : ℕ) → 4 * length (nodes_part form listed kept) ≡ node_length * (2 + kept) + trailer_length form
length-nodes_part form listed kept =
    let trailer : 4 * length (trailer_words form (listed + kept) (2 + kept)) ≡ trailer_length form = trailer-size (parts [] [] 0 form) in
    omega (arith, length-append (head_words listed ++ state_words kept) (trailer_words form (listed + kept) (2 + kept)), length-append (head_words listed) (state_words kept), length-states kept, trailer)

pub length-words_part : (part : List ℕ) (entries listed kept : ℕ) → kept ≡ mark_count part (entries - 1) → length (words_part part entries listed) ≡ listed + kept
length-words_part part entries listed kept e = length-append (replicate listed nothing) (input_words part (entries - 1)) ∙ omega (arith, length-replicate listed nothing, length-inputs part (entries - 1))

pub length-list : (bytes : List ℕ) (links : ℕ) (form : Form) (part : List ℕ) (entries listed kept : ℕ) → kept ≡ mark_count part (entries - 1) → length (bytes_of_all (list_words bytes links form part entries listed kept)) ≡ list_length form listed kept
length-list bytes links form part entries listed kept e =
    let ls = links_part bytes links part entries listed in
    let ns = nodes_part form listed kept in
    length-bytes_of_all (list_words bytes links form part entries listed kept)
    ∙ omega (arith, length-append (ls ++ ns) (words_part part entries listed), length-append ls ns, length-links_part bytes links part entries listed kept e, length-nodes_part form listed kept, length-words_part part entries listed kept e)
