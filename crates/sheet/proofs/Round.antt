-- The round trip: what is written is read back as the same links, nodes and start, and an accepted sheet, read and written again, gives its own
-- bytes. Assumes nothing.
use mathlib.Core.Path.{◌≡◌, refl, sym, ap, ◌∙◌, subst}
use mathlib.Core.Bool.{Bool, true, false, not, ◌&&◌, cond}
use mathlib.Core.List.{List, [], ◌∷◌, ◌++◌, append_assoc, append-nil}
use Prim.Native.Nat.{ℕ, zero, suc, ◌+◌, ◌-◌, ◌*◌, ◌/◌, ◌%◌, ◌^◌, ◌≤◌, ◌<◌}
use native.Mathlib.Nat.{add-zero, mod-eq_of_lt, div-div-eq-div-mul}
use native.Mathlib.Numerals.{add-one}
use native.Mathlib.Omega.{arith}
use lib.Dec.{ltb, eqb}
use lib.ListN.{length, take, drop, get_or, length-append}
use lib.Seq.{sets, sets-eq, take_at, drop-cons, drop-drop, take-add, drop_at, take-length, get_or-drop}
use borrow.Author.Tests.{eq-eqb, le-leb, lt-ltb, le-ltb}
use Rattle.std.specs.Prelude.{Result, Ok}
use Rattle.sheet.specs.declared.form.Form.{Form}
use Rattle.sheet.specs.declared.refusal.Refusal.{Refusal}
use Rattle.sheet.specs.Words.{word, words, bytes_of, bytes_of_all}
use Rattle.sheet.specs.Sheet.{link_length, node_length, Parts, link_count, node_count, records_fit, verdict, sheet_of, sheet_length, trailer_of, trailer_length, trailer_size, long_trailer, unit_fields, field_back, laid_out, form_of, trailer_field, stated_links, stated_nodes, parts_of, sizes_fit, read_number, write_number}
use Rattle.sheet.specs.Answers.{written, written_over, ReadBack}
use Rattle.sheet.specs.Machine.{machine_of, machine}
use Rattle.sheet.proofs.Bytes.{bytes_of_all-append, length-bytes_of_all}
use Rattle.sheet.proofs.Fields.{length-words, get_d_words, read-unfit, read-fields, length-read}
use Rattle.sheet.proofs.Refusals.{first-zero}
use Rattle.sheet.proofs.Forms.{LaidOut, laid-out, form-long, form-short}
use Rattle.sheet.proofs.Writing.{records, trailer-size, length-sheet, stored}

-- each element is below a bound: a byte below 256, a word below 2 ^ 32
abbrev pub Below : ℕ → List ℕ → Type 0
Below most l = (i : ℕ) → get_or l i 0 < most

-- ---- a word and its bytes
-- digits to the base 256
high : (x hi lo : ℕ) → x ≡ lo + 256 * hi → lo < 256 → x / 256 ≡ hi
high x hi lo e h = omega arith

low : (x hi lo : ℕ) → x ≡ lo + 256 * hi → lo < 256 → x % 256 ≡ lo
low x hi lo e h = omega arith

twice : (w : ℕ) → w / 65536 ≡ w / 256 / 256
twice w = sym (div-div-eq-div-mul w 256 256)

thrice : (w : ℕ) → w / 16777216 ≡ w / 256 / 256 / 256
thrice w = sym (div-div-eq-div-mul w 256 65536) ∙ sym (div-div-eq-div-mul (w / 256) 256 256)

digits-back : (w : ℕ) → w < 4294967296 → w % 256 + 256 * (w / 256 % 256) + 65536 * (w / 65536 % 256) + 16777216 * (w / 16777216 % 256) ≡ w
digits-back w h =
    (λ i. w % 256 + 256 * (w / 256 % 256) + 65536 * (twice w i % 256) + 16777216 * (thrice w i % 256))
    ∙ join (w % 256) (w / 256 % 256) (w / 256 / 256 % 256) (w / 256 / 256 / 256 % 256) (w / 256) (w / 256 / 256) (w / 256 / 256 / 256) (omega arith) (omega arith) (omega arith) (omega arith)
  where
    join : (r s t u a b c : ℕ) → w ≡ 256 * a + r → a ≡ 256 * b + s → b ≡ 256 * c + t → c ≡ u → r + 256 * s + 65536 * t + 16777216 * u ≡ w
    join r s t u a b c e f g h = omega arith

digits_of : (a b c d : ℕ) → a < 256 → b < 256 → c < 256 → d < 256
    → (a + 256 * b + 65536 * c + 16777216 * d) % 256 ∷ (a + 256 * b + 65536 * c + 16777216 * d) / 256 % 256 ∷ (a + 256 * b + 65536 * c + 16777216 * d) / 65536 % 256 ∷ (a + 256 * b + 65536 * c + 16777216 * d) / 16777216 % 256 ∷ []
    ≡ a ∷ b ∷ c ∷ d ∷ []
digits_of a b c d p q r s =
    let w = a + 256 * b + 65536 * c + 16777216 * d in
    let one : w / 256 ≡ b + 256 * (c + 256 * d) = high w (b + 256 * (c + 256 * d)) a (omega arith) p in
    let two : w / 256 / 256 ≡ c + 256 * d = high (w / 256) (c + 256 * d) b one q in
    let three : w / 256 / 256 / 256 ≡ d = high (w / 256 / 256) d c two r in
    let e₀ : w % 256 ≡ a = low w (b + 256 * (c + 256 * d)) a (omega arith) p in
    let e₁ : w / 256 % 256 ≡ b = low (w / 256) (c + 256 * d) b one q in
    let e₂ : w / 65536 % 256 ≡ c = ap (λ (x : ℕ). x % 256) (twice w) ∙ low (w / 256 / 256) d c two r in
    let e₃ : w / 16777216 % 256 ≡ d = ap (λ (x : ℕ). x % 256) (thrice w ∙ three) ∙ mod-eq_of_lt s in
    λ i. e₀ i ∷ e₁ i ∷ e₂ i ∷ e₃ i ∷ []

word-front : (w : ℕ) (rest : List ℕ) → w < 4294967296 → word (bytes_of w ++ rest) 0 ≡ w
unfolding word bytes_of
word-front w rest h = digits-back w h

pub word-behind : (n : ℕ) (bytes : List ℕ) (at : ℕ) → word (drop n bytes) at ≡ word bytes (n + at)
unfolding word
word-behind n bytes at =
    let one : n + (at + 1) ≡ n + at + 1 = omega arith in
    let two : n + (at + 2) ≡ n + at + 2 = omega arith in
    let three : n + (at + 3) ≡ n + at + 3 = omega arith in
    let field : (i place : ℕ) → n + i ≡ place → get_or (drop n bytes) i 0 ≡ get_or bytes place 0 = λ i place e. get_or-drop n bytes i 0 ∙ ap (λ (k : ℕ). get_or bytes k 0) e in
    λ j. field at (n + at) refl j + 256 * field (at + 1) (n + at + 1) one j + 65536 * field (at + 2) (n + at + 2) two j + 16777216 * field (at + 3) (n + at + 3) three j

word-drop : (bytes : List ℕ) (at : ℕ) → word bytes at ≡ word (drop at bytes) 0
word-drop bytes at = sym (word-behind at bytes 0 ∙ ap (word bytes) (add-zero at))

pub bytes_of-word : (bytes : List ℕ) (at : ℕ) → Below 256 bytes → at + 4 ≤ length bytes → bytes_of (word bytes at) ≡ take 4 (drop at bytes)
unfolding word bytes_of
bytes_of-word bytes at b h =
    let two : at + 2 ≡ suc (suc at) = omega arith in
    let three : at + 3 ≡ suc (suc (suc at)) = omega arith in
    digits_of (get_or bytes at 0) (get_or bytes (at + 1) 0) (get_or bytes (at + 2) 0) (get_or bytes (at + 3) 0) (b at) (b (at + 1)) (b (at + 2)) (b (at + 3))
    ∙ (λ i. get_or bytes at 0 ∷ get_or bytes (add-one at i) 0 ∷ get_or bytes (two i) 0 ∷ get_or bytes (three i) 0 ∷ [])
    ∙ sym (ap (take 4) (drop-cons bytes at 0 (omega arith) ∙ ap (λ (r : List ℕ). get_or bytes at 0 ∷ r) (drop-cons bytes (suc at) 0 (omega arith)
    ∙ ap (λ (r : List ℕ). get_or bytes (suc at) 0 ∷ r) (drop-cons bytes (suc (suc at)) 0 (omega arith)
    ∙ ap (λ (r : List ℕ). get_or bytes (suc (suc at)) 0 ∷ r) (drop-cons bytes (suc (suc (suc at))) 0 (omega arith))))))

-- ---- words and their bytes
pub words_of : (ws pre post : List ℕ) → Below 4294967296 ws → words (pre ++ bytes_of_all ws ++ post) (length pre) (length ws) ≡ ws
unfolding words bytes_of_all
words_of [] pre post b = refl
words_of (w ∷ ws) pre post b =
    let B = pre ++ (bytes_of w ++ bytes_of_all ws) ++ post in
    let split : B ≡ pre ++ (bytes_of w ++ (bytes_of_all ws ++ post)) = append_assoc pre (bytes_of w ++ bytes_of_all ws) post ∙ ap (λ (r : List ℕ). pre ++ r) (append_assoc (bytes_of w) (bytes_of_all ws) post) in
    let first : word B (length pre) ≡ w = word-drop B (length pre) ∙ ap (λ (r : List ℕ). word r 0) (ap (drop (length pre)) split ∙ drop_at pre (bytes_of w ++ (bytes_of_all ws ++ post)) (length pre) refl) ∙ word-front w (bytes_of_all ws ++ post) (b 0) in
    let next : B ≡ pre ++ bytes_of w ++ bytes_of_all ws ++ post = ap (λ (r : List ℕ). r ++ post) (sym (append_assoc pre (bytes_of w) (bytes_of_all ws))) in
    let more : length pre + 4 ≡ length (pre ++ bytes_of w) = sym (length-append pre (bytes_of w)) in
    (λ i. first i ∷ words (next i) (more i) (length ws)) ∙ ap (λ (r : List ℕ). w ∷ r) (words_of ws (pre ++ bytes_of w) post (λ i. b (suc i)))

-- each is read back at its place
pub word_back : (ws pre post : List ℕ) → Below 4294967296 ws → (i : ℕ) → i < length ws → word (pre ++ bytes_of_all ws ++ post) (length pre + 4 * i) ≡ get_or ws i 0
word_back ws pre post b i h = sym (get_d_words (pre ++ bytes_of_all ws ++ post) (length pre) (length ws) i h) ∙ ap (λ (l : List ℕ). get_or l i 0) (words_of ws pre post b)

pub bytes_of_all-words : (n : ℕ) (bytes : List ℕ) (at : ℕ) → Below 256 bytes → at + 4 * n ≤ length bytes → bytes_of_all (words bytes at n) ≡ take (4 * n) (drop at bytes)
unfolding words bytes_of_all
bytes_of_all-words zero bytes at b h = refl
bytes_of_all-words (suc n) bytes at b h =
    let k : 4 * suc n ≡ 4 + 4 * n = omega arith in
    (λ i. bytes_of-word bytes at b (omega arith) i ++ bytes_of_all-words n bytes (at + 4) b (omega arith) i)
    ∙ ap (λ (r : List ℕ). take 4 (drop at bytes) ++ take (4 * n) r) (sym (drop-drop 4 at bytes))
    ∙ sym (ap (λ (x : ℕ). take x (drop at bytes)) k ∙ take-add 4 (4 * n) (drop at bytes))

-- ---- what is written is read back
at-trailer : (p : Parts) → records_fit p ≡ true → p.start < 4294967296 → Below 4294967296 (unit_fields p.form) → Below 4294967296 (trailer_of p)
at-trailer p e s u zero = omega arith
at-trailer p e s u (suc zero) = (records p e).3
at-trailer p e s u (suc (suc zero)) = (records p e).2
at-trailer p e s u (suc (suc (suc zero))) = omega (arith, (records p e).3)
at-trailer p e s u (suc (suc (suc (suc zero)))) = s
at-trailer p e s u (suc (suc (suc (suc (suc i))))) = u i

module _ (p : Parts) (e : records_fit p ≡ true) (links-below : Below 4294967296 p.links) (nodes-below : Below 4294967296 p.nodes) (start-below : p.start < 4294967296) (unit-below : Below 4294967296 (unit_fields p.form)) where
  four : 4 * link_count p ≡ length p.links
  four = omega (arith, (records p e).0)

  three : 3 * node_count p ≡ length p.nodes
  three = omega (arith, (records p e).1)

  in_three : sheet_of p ≡ bytes_of_all p.links ++ bytes_of_all p.nodes ++ bytes_of_all (trailer_of p)
  unfolding sheet_of
  in_three = bytes_of_all-append (p.links ++ p.nodes) (trailer_of p) ∙ ap (λ (r : List ℕ). r ++ bytes_of_all (trailer_of p)) (bytes_of_all-append p.links p.nodes)

  abbrev size : ℕ
  size = trailer_length p.form

  before-trailer : length (sheet_of p) - size ≡ length (bytes_of_all p.links ++ bytes_of_all p.nodes)
  before-trailer = omega (arith, length-sheet p e, length-append (bytes_of_all p.links) (bytes_of_all p.nodes), length-bytes_of_all p.links, length-bytes_of_all p.nodes, four, three)

  trailer-back : words (sheet_of p) (length (sheet_of p) - size) (length (trailer_of p)) ≡ trailer_of p
  trailer-back =
      let pre = bytes_of_all p.links ++ bytes_of_all p.nodes in
      (λ i. words ((in_three ∙ sym (append-nil (pre ++ bytes_of_all (trailer_of p)))) i) (before-trailer i) (length (trailer_of p))) ∙ words_of (trailer_of p) pre [] (at-trailer p e start-below unit-below)

  -- by the form that was written
  back : (i : ℕ) → i < length (trailer_of p) → field_back size (sheet_of p) i ≡ get_or (trailer_of p) i 0
  back i h = sym (get_d_words (sheet_of p) (length (sheet_of p) - size) (length (trailer_of p)) i h) ∙ ap (λ (l : List ℕ). get_or l i 0) trailer-back

  five : (i : ℕ) → i < 5 → i < length (trailer_of p)
  five i h = omega arith

  laid_back : laid_out size (sheet_of p) ≡ true
  unfolding laid_out
  laid_back =
      let long : size ≤ length (sheet_of p) = omega (arith, length-sheet p e) in
      let t = back 3 (five 3 (omega arith)) in
      let n = back 2 (five 2 (omega arith)) in
      let one : eqb (field_back size (sheet_of p) 1) (link_length * field_back size (sheet_of p) 3) ≡ true = eq-eqb _ _ (back 1 (five 1 (omega arith)) ∙ ap (λ (k : ℕ). link_length * k) (sym t)) in
      let all : eqb (length (sheet_of p)) (link_length * field_back size (sheet_of p) 3 + node_length * field_back size (sheet_of p) 2 + size) ≡ true = eq-eqb _ _ (length-sheet p e ∙ λ i. link_length * sym t i + node_length * sym n i + size) in
      λ i. le-leb size (length (sheet_of p)) long i && eq-eqb (field_back size (sheet_of p) 0) 0 (back 0 (five 0 (omega arith))) i && one i && all i

  -- so the form is read back: under the other trailer it is not laid out
  pub form_back : form_of (sheet_of p) ≡ p.form
  form_back = go p.form refl
    where
      go : (f : Form) → p.form ≡ f → form_of (sheet_of p) ≡ f
      go Form.Short q = form-short (sheet_of p) (ap (λ (f : Form). laid_out (trailer_length f) (sheet_of p)) (sym q) ∙ laid_back)
      go (Form.Long u) q =
          let sixth : 5 < length (trailer_of p) = omega (arith, trailer-size p ∙ ap trailer_length q) in
          form-long (sheet_of p) (ap (λ (f : Form). laid_out (trailer_length f) (sheet_of p)) (sym q) ∙ laid_back)
          ∙ ap Form.Long (ap (λ (f : Form). field_back (trailer_length f) (sheet_of p) 5) (sym q) ∙ back 5 sixth ∙ ap (λ (f : Form). get_or (unit_fields f) 0 0) q)

  field_back_at : (i : ℕ) → i < 5 → trailer_field (sheet_of p) i ≡ get_or (trailer_of p) i 0
  field_back_at i h = ap (λ (f : Form). field_back (trailer_length f) (sheet_of p) i) form_back ∙ back i (five i h)

  links-back : words (sheet_of p) 0 (4 * stated_links (sheet_of p)) ≡ p.links
  links-back =
      let post = bytes_of_all p.nodes ++ bytes_of_all (trailer_of p) in
      let n : 4 * stated_links (sheet_of p) ≡ length p.links = ap (λ (k : ℕ). 4 * k) (field_back_at 3 (omega arith)) ∙ four in
      (λ i. words ((in_three ∙ append_assoc (bytes_of_all p.links) (bytes_of_all p.nodes) (bytes_of_all (trailer_of p))) i) 0 (n i)) ∙ words_of p.links [] post links-below

  nodes-back : words (sheet_of p) (link_length * stated_links (sheet_of p)) (3 * stated_nodes (sheet_of p)) ≡ p.nodes
  nodes-back =
      let at : link_length * stated_links (sheet_of p) ≡ length (bytes_of_all p.links) = ap (λ (k : ℕ). link_length * k) (field_back_at 3 (omega arith)) ∙ omega (arith, four, length-bytes_of_all p.links) in
      let n : 3 * stated_nodes (sheet_of p) ≡ length p.nodes = ap (λ (k : ℕ). 3 * k) (field_back_at 2 (omega arith)) ∙ three in
      (λ i. words (in_three i) (at i) (n i)) ∙ words_of p.nodes (bytes_of_all p.links) (bytes_of_all (trailer_of p)) nodes-below

  -- the same links, nodes, start and form
  pub parts-back : parts_of (sheet_of p) ≡ p
  unfolding parts_of
  parts-back = λ i. record { links = links-back i; nodes = nodes-back i; start = field_back_at 4 (omega arith) i; form = form_back i }

  -- so the same machine
  pub machine-back : machine_of (parts_of (sheet_of p)) ≡ machine_of p
  machine-back = ap machine_of parts-back

  sizes-back : sizes_fit (sheet_of p) ≡ true
  sizes-back = ap (λ (f : Form). laid_out (trailer_length f) (sheet_of p)) form_back ∙ laid_back

  -- and the reader's verdict is the writer's
  pub number-back : read_number (sheet_of p) ≡ verdict (records_fit p) p
  unfolding read_number
  number-back = (λ i. verdict (sizes-back i) (parts-back i)) ∙ ap (λ (b : Bool). verdict b p) (sym e)

  -- so that what writing leaves in an area is read back as the same machine
  pub stored_back : (old new : List ℕ) → sheet_length p ≤ length old → write_number p (length old) ≡ 0 → new ≡ sets old 0 (sheet_of p)
      → (Ok (sheet_length p) ≡ written p (length old)) × ((new ≡ written_over p old) × ((size : ℕ) → ◌≡◌ {A = Result ℕ Refusal} (Ok (sheet_length p)) (Ok size) → ReadBack p size new))
  unfolding write_number
  stored_back old new room zero_number left =
      let answer = stored p old (length-sheet p e) room zero_number in (
        answer.0,
        (left ∙ answer.1, λ size h. record { accepted = ap read_number (front size h) ∙ number-back ∙ passed; same = ap machine (front size h) ∙ machine-back }),
      )
    where
      front : (size : ℕ) → ◌≡◌ {A = Result ℕ Refusal} (Ok (sheet_length p)) (Ok size) → take size new ≡ sheet_of p
      front size h =
          ap (take size) (left ∙ sets-eq (sheet_of p) old 0 (omega (arith, length-sheet p e))) ∙ take_at (sheet_of p) (drop (0 + length (sheet_of p)) old) size (cc (length-sheet p e))

      passed : verdict (records_fit p) p ≡ 0
      passed = (first-zero (verdict (records_fit p) p) _ zero_number).0

-- ---- an accepted sheet, read and written again, gives its own bytes
pub word_lt : (bytes : List ℕ) (at : ℕ) → Below 256 bytes → word bytes at < 4294967296
unfolding word
word_lt bytes at b = omega (arith, b at, b (at + 1), b (at + 2), b (at + 3))

-- fields that were read are 32-bit
pub words-below : (n : ℕ) (bytes : List ℕ) (at : ℕ) → Below 256 bytes → Below 4294967296 (words bytes at n)
unfolding words
words-below zero bytes at b i = omega arith
words-below (suc n) bytes at b zero = word_lt bytes at b
words-below (suc n) bytes at b (suc i) = words-below n bytes (at + 4) b i

module _ (bytes : List ℕ) (below : Below 256 bytes) (fits : sizes_fit bytes ≡ true) where
  laid : LaidOut (trailer_size bytes) bytes
  laid = laid-out (trailer_size bytes) bytes fits

  -- the fields of a trailer that begins here
  abbrev fields_at : ℕ → Form → List ℕ
  fields_at at f = word bytes at ∷ word bytes (at + 4) ∷ word bytes (at + 4 + 4) ∷ word bytes (at + 4 + 4 + 4) ∷ word bytes (at + 4 + 4 + 4 + 4) ∷ unit_fields f

  trailer-read : trailer_of (parts_of bytes) ≡ words bytes (length bytes - trailer_size bytes) (length (trailer_of (parts_of bytes)))
  unfolding words parts_of form_of
  trailer-read =
      let at = length bytes - trailer_size bytes in
      let zero-at : at + 4 * 0 ≡ at = omega arith in
      let one_at : at + 4 * 1 ≡ at + 4 = omega arith in
      let two_at : at + 4 * 2 ≡ at + 4 + 4 = omega arith in
      let three-at : at + 4 * 3 ≡ at + 4 + 4 + 4 = omega arith in
      let four-at : at + 4 * 4 ≡ at + 4 + 4 + 4 + 4 = omega arith in
      (λ i. sym laid.links-at i ∷ (ap (λ (k : ℕ). link_length * k) (read-fields bytes).links-are ∙ sym laid.nodes-at) i ∷ (read-fields bytes).nodes-are i ∷ (read-fields bytes).links-are i ∷ trailer_field bytes 4 ∷ unit_fields (form_of bytes))
      ∙ (λ i. word bytes (zero-at i) ∷ word bytes (one_at i) ∷ word bytes (two_at i) ∷ word bytes (three-at i) ∷ word bytes (four-at i) ∷ unit_fields (form_of bytes))
      ∙ sixth (laid_out long_trailer bytes)
    where
      place : length bytes - 24 + 4 * 5 ≡ length bytes - 24 + 4 + 4 + 4 + 4 + 4
      place = omega arith

      Same : Form → Type 0
      Same f = fields_at (length bytes - trailer_length f) f ≡ words bytes (length bytes - trailer_length f) (length (0 ∷ 0 ∷ 0 ∷ 0 ∷ 0 ∷ unit_fields f))

      sixth : (b : Bool) → Same (cond b (Form.Long (field_back long_trailer bytes 5)) Form.Short)
      sixth false = refl
      sixth true = let at = length bytes - 24 in λ i. word bytes at ∷ word bytes (at + 4) ∷ word bytes (at + 4 + 4) ∷ word bytes (at + 4 + 4 + 4) ∷ word bytes (at + 4 + 4 + 4 + 4) ∷ word bytes (place i) ∷ []

  pub bytes_back : sheet_of (parts_of bytes) ≡ bytes
  unfolding sheet_of parts_of
  bytes_back =
      let t = stated_links bytes in
      let n = stated_nodes bytes in
      let a = 4 * (4 * t) in
      let b = 4 * (3 * n) in
      let k = length (trailer_of (parts_of bytes)) in
      let c : 4 * k ≡ trailer_size bytes = trailer-size (parts_of bytes) in
      let at : length bytes - trailer_size bytes ≡ a + b = omega (arith, length-read bytes fits) in
      let from : link_length * t ≡ a = omega arith in
      let all : length bytes ≡ a + b + 4 * k = omega (arith, length-read bytes fits, c) in
      bytes_of_all-append (words bytes 0 (4 * t) ++ words bytes (link_length * t) (3 * n)) (trailer_of (parts_of bytes))
      ∙ (λ i. bytes_of_all-append (words bytes 0 (4 * t)) (words bytes (link_length * t) (3 * n)) i ++ bytes_of_all (trailer-read i))
      ∙ (λ i. bytes_of_all-words (4 * t) bytes 0 below (omega (arith, length-read bytes fits)) i ++ bytes_of_all-words (3 * n) bytes (link_length * t) below (omega (arith, length-read bytes fits)) i ++ bytes_of_all-words k bytes (length bytes - trailer_size bytes) below (omega (arith, length-read bytes fits, c)) i)
      ∙ (λ i. take a bytes ++ take b (drop (from i) bytes) ++ take (4 * k) (drop (at i) bytes))
      ∙ ap (λ (r : List ℕ). r ++ take (4 * k) (drop (a + b) bytes)) (sym (take-add a b bytes))
      ∙ sym (take-add (a + b) (4 * k) bytes)
      ∙ ap (λ (k : ℕ). take k bytes) (sym all) ∙ take-length bytes

  records-read : records_fit (parts_of bytes) ≡ true
  unfolding parts_of
  records-read =
      let small-nodes : node_count (parts_of bytes) < 2 ^ 32 = subst (λ (k : ℕ). k < 2 ^ 32) (sym (read-fields bytes).nodes-are) (word_lt bytes (length bytes - trailer_size bytes + 4 * 2) below) in
      let small-links : link_length * link_count (parts_of bytes) < 2 ^ 32 = subst (λ (k : ℕ). k < 2 ^ 32) (laid.nodes-at ∙ ap (λ (k : ℕ). link_length * k) (sym (read-fields bytes).links-are)) (word_lt bytes (length bytes - trailer_size bytes + 4 * 1) below) in
      let whole-links : length (parts_of bytes).links % 4 ≡ 0 = omega (arith, length-words bytes 0 (4 * stated_links bytes)) in
      let whole-nodes : length (parts_of bytes).nodes % 3 ≡ 0 = omega (arith, length-words bytes (link_length * stated_links bytes) (3 * stated_nodes bytes)) in
      λ i. eq-eqb _ _ whole-links i && eq-eqb _ _ whole-nodes i && lt-ltb _ _ small-nodes i && lt-ltb _ _ small-links i

  -- the writer accepts what the reader accepts
  pub number-again : verdict (records_fit (parts_of bytes)) (parts_of bytes) ≡ read_number bytes
  unfolding read_number
  number-again = (λ i. verdict (records-read i) (parts_of bytes)) ∙ ap (λ (b : Bool). verdict b (parts_of bytes)) (sym fits)

-- Reading and writing again: accepted bytes are written as they were, over an area that is long enough.
pub written-again : (bytes old : List ℕ) → Below 256 bytes → read_number bytes ≡ 0 → length bytes ≤ length old → written_over (parts_of bytes) old ≡ bytes ++ drop (length bytes) old
unfolding read_number write_number
written-again bytes old below accepted room = go (sizes_fit bytes) refl
  where
    go : (b : Bool) → sizes_fit bytes ≡ b → written_over (parts_of bytes) old ≡ bytes ++ drop (length bytes) old
    go false e = absurd (omega (arith, sym (read-unfit bytes e) ∙ accepted))
    go true e =
        let p = parts_of bytes in
        let size : sheet_length p ≡ length bytes = (λ i. link_length * (read-fields bytes).links-are i + node_length * (read-fields bytes).nodes-are i + trailer_size bytes) ∙ sym (length-read bytes e) in
        let zero_number : write_number p (length old) ≡ 0 =
        ap (λ (k : ℕ). cond (not (eqb k 0)) k (cond (ltb (length old) (sheet_length p)) 21 0)) (number-again bytes below e ∙ accepted) ∙ ap (λ (b : Bool). cond b 21 0) (le-ltb (length old) (sheet_length p) (omega arith)) in
        ap (λ (k : ℕ). cond (eqb k 0) (sheet_of p ++ drop (sheet_length p) old) old) zero_number ∙ λ i. bytes_back bytes below e i ++ drop (size i) old
