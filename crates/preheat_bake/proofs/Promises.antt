-- What the call answers and leaves is what the request asks for. Assumes nothing.
use mathlib.Core.Path.{◌≡◌, refl, sym, ap, ◌∙◌, subst}
use mathlib.Core.Logic.{inl, inr}
use mathlib.Core.Bool.{true}
use mathlib.Core.List.{List, ◌++◌, append_assoc}
use Prim.Native.Nat.{ℕ, ◌+◌, ◌-◌, ◌*◌, ◌<◌}
use native.Mathlib.Omega.{arith}
use lib.Dec.{ltb}
use lib.ListN.{length, take, drop, get_or-eq_default, length-append}
use lib.Seq.{take_at, drop_at}
use borrow.Author.Tests.{ltb-true}
use Rattle.std.specs.Prelude.{Result, Ok, Err, IfOk}
use Rattle.sheet.specs.declared.refusal.Refusal.{Refusal}
use Rattle.sheet.specs.Refusals.{number_in}
use Rattle.sheet.specs.Below.{list_below}
use Rattle.sheet.specs.Words.{word_length, word, bytes_of_all}
use Rattle.sheet.specs.Sheet.{sheet_size, trailer_length, unit_fits, parts_of, sheet_of}
use Rattle.sheet.specs.Machine.{Machine, machine, parts_for}
use Rattle.sheet.proofs.Apart.{not-both}
use Rattle.sheet.proofs.Below.{split_at, length-list_below, get_or-list_below}
use Rattle.sheet.proofs.Bytes.{length-bytes_of_all}
use Rattle.sheet.proofs.Refusals.{answer-some, over-made, number-told, before-room, by-room}
use Rattle.sheet.proofs.Round.{Below, word_back}
use Rattle.machine.specs.Readings.{Reading, link}
use Rattle.machine.specs.Input.{input_number}
use Rattle.machine.proofs.Accepted.{passes, machine-form}
use Rattle.machine.proofs.SheetFields.{SheetFields, fields-own, labels-below}
use Rattle.narrowing.specs.Narrows.{narrows, narrow_number}
use Rattle.narrowing.specs.Parts.{is_before, is_after, from_node, preheat, bake, numbers}
use Rattle.narrowing.specs.Joins.{joined, Joins}
use Rattle.narrowing.proofs.Seam.{Narrows, narrowing, seam, seam-in, first-links, first-form, first-nodes, first-link, second-links, second-form, second-nodes, second-link, numbers-before, numbers-after}
use Rattle.narrowing.proofs.Refused.{unwide, number-wide, wide-number, number-not-21, passes-number, narrow-enough}
use Rattle.narrowing.proofs.Joined.{joins, lists-joined}
use Rattle.narrowing.proofs.PartSheets.{first-accepted, first-read, second-accepted, second-read}
use Rattle.preheat_bake.specs.declared.counts.Counts.{Counts}
use Rattle.preheat_bake.specs.Outcome.{parted, answer_of, split_number, counts_of, split_answer, split_over}
use Rattle.preheat_bake.specs.Promise.{ListsJoin, first_numbers_at, second_at, second_size, first_sheet, second_sheet, first_number, second_number, Parted, Reasons, Promised}
use Rattle.preheat_bake.proofs.Outcomes.{number-known, number-node, number-refused, number-short, number-zero, answer-length, sheet-long, first-own}

-- ---- words f 0, f 1, .. in an area, each read back at its place
module _ (f : ℕ → ℕ) (n : ℕ) (fits : (i : ℕ) → i < n → f i < 4294967296) where
  numbers_below : Below 4294967296 (list_below n f)
  numbers_below i = elim (split_at i n) [
    | inl b ↦ omega (arith, fits i b, get_or-list_below n f i 0 b)
    | inr b ↦ omega (arith, get_or-eq_default (list_below n f) 0 {n = i} (omega (arith, length-list_below n f)))
  ]

  number_back : (own pre post : List ℕ) → own ≡ list_below n f → (i at : ℕ) → i < n → at ≡ length pre + word_length * i → word (pre ++ bytes_of_all own ++ post) at ≡ f i
  number_back own pre post are i at h e =
      (λ j. word (pre ++ bytes_of_all (are j) ++ post) (e j))
      ∙ word_back (list_below n f) pre post numbers_below i (omega (arith, length-list_below n f)) ∙ get_or-list_below n f i 0 h

module _ (bytes : List ℕ) (c : ℕ) (old : List ℕ) (below : Below 256 bytes) where
  abbrev m : Machine
  m = machine bytes

  module _ (i : input_number bytes ≡ 0) where
    f : SheetFields bytes (length m.links) (length m.finals) m
    f = fields-own bytes i

    unit-told : unit_fits m.form ≡ true
    unit-told = ap unit_fits (machine-form (parts_of bytes)) ∙ (passes bytes i).unit_fits_lem

    -- ---- the parts, and the area
    module _ (n : narrows c m ≡ true) (rest : List ℕ) where
      t : Narrows c m
      t = narrowing c m n

      -- the two sheets and the bytes of their numbers
      low : List ℕ
      low = sheet_of (parts_for (preheat c m))

      low-own : List ℕ
      low-own = bytes_of_all (numbers (is_before c) m)

      high : List ℕ
      high = sheet_of (parts_for (bake c m))

      high-own : List ℕ
      high-own = bytes_of_all (numbers (is_after c) m)

      abbrev told : Counts
      told = counts_of c m

      abbrev area : List ℕ
      area = answer_of bytes c ++ rest

      apart : area ≡ low ++ low-own ++ (high ++ high-own) ++ rest
      unfolding low low-own high high-own parted
      apart = refl

      low-long : length low ≡ sheet_size m.form told.first (c + 1)
      unfolding low
      low-long = omega (arith, sheet-long (preheat c m), first-nodes c m t.inside, ap trailer_length (first-form c m))

      high-long : length high ≡ sheet_size m.form told.second (length m.finals - c)
      unfolding high
      high-long = omega (arith, sheet-long (bake c m), second-nodes c m, ap trailer_length (second-form c m))

      low-all : length (low ++ low-own) ≡ sheet_size m.form told.first (c + 1) + word_length * told.first
      unfolding low-own
      low-all = length-append low low-own ∙ omega (arith, low-long, length-bytes_of_all (numbers (is_before c) m), first-own c m f.climbs)

      behind : area ≡ low ++ low-own ++ (high ++ high-own ++ rest)
      behind = apart ∙ append_assoc (low ++ low-own) (high ++ high-own) rest

      front : first_sheet bytes c told area ≡ low
      front = ap (take (first_numbers_at bytes c told area)) (behind ∙ append_assoc low low-own (high ++ high-own ++ rest)) ∙ take_at low (low-own ++ (high ++ high-own ++ rest)) (first_numbers_at bytes c told area) low-long

      back : second_sheet bytes c told area ≡ high
      back =
          ap (take (second_size bytes c told area)) (ap (drop (second_at bytes c told area)) behind ∙ drop_at (low ++ low-own) (high ++ high-own ++ rest) (second_at bytes c told area) low-all ∙ append_assoc high high-own rest)
          ∙ take_at high (high-own ++ rest) (second_size bytes c told area) high-long

      same-first : machine (first_sheet bytes c told area) ≡ preheat c m
      unfolding low
      same-first = ap machine front ∙ first-read c m f.climbs t f.small (labels-below f below) f.few-nodes f.few-links unit-told

      same-second : machine (second_sheet bytes c told area) ≡ bake c m
      unfolding high
      same-second = ap machine back ∙ second-read c m f.climbs t f.small (labels-below f below) f.few-nodes f.few-links unit-told

      accepted-first : input_number (first_sheet bytes c told area) ≡ 0
      unfolding low
      accepted-first = ap input_number front ∙ first-accepted c m f.climbs t f.small (labels-below f below) f.few-nodes f.few-links unit-told

      accepted-second : input_number (second_sheet bytes c told area) ≡ 0
      unfolding high
      accepted-second = ap input_number back ∙ second-accepted c m f.climbs t f.small (labels-below f below) f.few-nodes f.few-links unit-told

      first-back : (l : ℕ) → l < told.first → first_number bytes c told area l ≡ l
      unfolding low-own
      first-back l h =
          let at = first_numbers_at bytes c told area + word_length * l in
          ap (λ (x : List ℕ). word x at) behind
          ∙ number_back (λ l. l) (seam c m) (λ l b. omega (arith, b, seam-in c m, f.few-links)) (numbers (is_before c) m) low (high ++ high-own ++ rest) (numbers-before c m f.climbs) l at (omega (arith, h, first-links c m)) (omega (arith, low-long))

      second-back : (l : ℕ) → l < told.second → second_number bytes c told area l ≡ seam c m + l
      unfolding high-own
      second-back l h =
          let at = second_at bytes c told area + second_size bytes c told area + word_length * l in
          ap (λ (x : List ℕ). word x at) (apart ∙ ap (λ (x : List ℕ). x ++ rest) (sym (append_assoc (low ++ low-own) high high-own)))
          ∙ number_back (λ l. seam c m + l) (length m.links - seam c m) (λ l b. omega (arith, b, f.few-links)) (numbers (is_after c) m) (low ++ low-own ++ high) rest (numbers-after c m f.climbs) l at
          (omega (arith, h, second-links c m f.climbs)) (omega (arith, length-append (low ++ low-own) high, low-all, high-long))

      -- a reading of each, joined by the numbers in the area
      abbrev together : Reading → Reading → Reading
      together = joined c (first_number bytes c told area) (second_number bytes c told area)

      made : Parted bytes c told area
      made = record {
        first-part = record { accepted = accepted-first; same = same-first };
        second-part = record { accepted = accepted-second; same = same-second };
        first-links = ap (λ (x : Machine). length x.links) same-first;
        second-links = ap (λ (x : Machine). length x.links) same-second;
        all-links = omega (arith, first-links c m, second-links c m f.climbs, seam-in c m);
        first-numbers = λ l h. (first-back l h, ap (λ (x : Machine). link x l) same-first ∙ first-link c m f.climbs l (omega (arith, h, first-links c m)) ∙ ap (link m) (sym (first-back l h)));
        second-numbers = λ l h. (
          second-back l h ∙ omega (arith, first-links c m),
          ap (λ (x : Machine). link x l) same-second ∙ second-link c m f.climbs l (omega (arith, h, second-links c m f.climbs)) ∙ ap (λ (n : ℕ). from_node c (link m n)) (sym (second-back l h)),
        );
        readings =
            subst (λ (x : Machine). Joins m x (machine (second_sheet bytes c told area)) together) (sym same-first)
            (subst (λ (x : Machine). Joins m (preheat c m) x together) (sym same-second)
            (joins c m f.climbs t (first_number bytes c told area) (second_number bytes c told area) first-back second-back));
        lists = subst (λ (x : Machine). ListsJoin m x (machine (second_sheet bytes c told area))) (sym same-first) (subst (ListsJoin m (preheat c m)) (sym same-second) (lists-joined c m f.climbs t));
      }

    -- ---- the refusals
    why : (k : ℕ) → k ≡ split_number bytes c (length old) → Reasons bytes c (length old) k
    why k e =
        let p = narrow_number c m in
        let s = e ∙ number-node bytes c (length old) i in
        let t = ltb (length old) (length (answer_of bytes c)) in
        record {
          wide = (
            λ h. number-wide c m (before-room p t Refusal.Narrow (λ z. omega (arith, z)) (sym s ∙ h)),
            λ w. e ∙ number-refused bytes c (length old) i Refusal.Narrow (wide-number c m w),
          );
          short = (
            λ h.
                let q = by-room p t (number-not-21 c m) (sym s ∙ h) in
                let n = passes-number c m q.0 in
                (λ w. not-both n (unwide c m w), omega (arith, ltb-true (length old) (length (answer_of bytes c)) q.1, answer-length bytes c i n)),
            λ w. let n = narrow-enough c m w.0 in e ∙ number-short bytes c (length old) i n (omega (arith, w.1, answer-length bytes c i n)),
          );
        }

  -- ---- the call
  pub promised : (r : Result Counts Refusal) (area : List ℕ) → r ≡ split_answer bytes c (length old) → area ≡ split_over bytes c old → Promised bytes c (length old) r area
  promised r area e h = record { made = go r e; why = λ i. why i (number_in r) (ap number_in e ∙ number-told (counts_of c m) (split_number bytes c (length old)) (number-known bytes c (length old))) }
    where
      go : (r : Result Counts Refusal) → r ≡ split_answer bytes c (length old) → IfOk r (λ told. Parted bytes c told area)
      go (Ok told) e =
          let n = answer-some (counts_of c m) (split_number bytes c (length old)) told e in
          let z = number-zero bytes c (length old) n.0 in
          let over : area ≡ answer_of bytes c ++ drop (length (answer_of bytes c)) old = h ∙ sym (over-made (answer_of bytes c) old (split_number bytes c (length old)) n.0) in
          subst (λ (x : Counts). Parted bytes c x area) (sym n.1) (subst (Parted bytes c (counts_of c m)) (sym over) (made z.0 z.1 _))
      go (Err q) e = tt
