-- A text stored in an area, and texts stored one after the other as one text. Assumes nothing.
use mathlib.Core.Path.{◌≡◌, refl, sym, ap, ◌∙◌}
use mathlib.Core.List.{List, [], ◌∷◌, ◌++◌, append_assoc}
use Prim.Native.Nat.{ℕ, ◌+◌, ◌-◌, ◌≤◌, ◌<◌}
use native.Mathlib.Numerals.{add-one}
use native.Mathlib.Omega.{arith}
use lib.ListN.{length, take, drop, get_or, set, length-append}
use lib.Seq.{sets, sets-eq, take_at, take-suc, length-take-le}
use borrow.Rule.Slice.PartMut.{put_mid}
use Rattle.std.proofs.lemmas.Slice.{put_mid-paste}
use Rattle.std.proofs.lemmas.List.Edits.{paste_all}
use Rattle.sheet.proofs.Bytes.{sets-append}
use Rattle.decimals.specs.Stored.{Puts}

-- at the front of an area
pub sets-front : (old text : List ℕ) → length text ≤ length old → sets old 0 text ≡ text ++ drop (length text) old
sets-front old text h = sets-eq text old 0 (omega (arith, h)) ∙ ap (λ (k : ℕ). text ++ drop k old) (let e : 0 + length text ≡ length text = omega arith in e)

-- an equal text
pub puts-same : {old a b new : List ℕ} {at end : ℕ} → a ≡ b → Puts old at a new end → Puts old at b new end
puts-same {old} {at = at} e p = record { stored = p.stored ∙ ap (sets old at) e; ends = p.ends ∙ ap (λ (text : List ℕ). at + length text) e }

-- a text behind another
pub puts_then : {old a b mid new : List ℕ} {at here end : ℕ} → Puts old at a mid here → Puts mid here b new end → Puts old at (a ++ b) new end
puts_then {old} {a} {b} {at = at} p q = record {
  stored = q.stored ∙ (λ i. sets (p.stored i) (p.ends i) b) ∙ sym (sets-append old at a b);
  ends = omega (arith, p.ends, q.ends, length-append a b);
}

-- one byte more of a text
pub sets_more : (old : List ℕ) (at : ℕ) (text : List ℕ) (i : ℕ) → i < length text
    → set (sets old at (take i text)) (at + i) (get_or text i 0) ≡ sets old at (take (i + 1) text)
sets_more old at text i h =
    let front = take i text in
    ap (λ (k : ℕ). set (sets old at front) (at + k) (get_or text i 0)) (sym (length-take-le i text (omega arith)))
    ∙ sym (sets-append old at front (get_or text i 0 ∷ []))
    ∙ ap (sets old at) (sym (ap (λ (k : ℕ). take k text) (add-one i) ∙ take-suc text i 0 h))

-- copied into its place
pub copied-sets : (old part text : List ℕ) (at : ℕ) → part ≡ text → at + length text ≤ length old → put_mid at (at + length text - at) old part ≡ sets old at text
copied-sets old part text at e h =
    put_mid-paste at (at + length text - at) old part text (length text) e (omega arith) refl
    ∙ paste_all old at text (length text) refl
    ∙ sym (sets-eq text old at h ∙ append_assoc (take at old) text (drop (at + length text) old))

-- a text behind a front of the area: the front is longer by the text
pub text_put : {old text new front : List ℕ} {at end : ℕ} → take at old ≡ front → at ≤ length old → length front + length text ≤ length old → Puts old at text new end → take end new ≡ front ++ text
text_put {old} {text} {new} {front} {at} {end} is within room p =
    let size : length (take at old) ≡ at = length-take-le at old within in
    let longer : length (take at old ++ text) ≡ end = omega (arith, p.ends, length-append (take at old) text, size) in
    ap (take end) (p.stored ∙ sets-eq text old at (omega (arith, size, ap length is)))
    ∙ take_at (take at old ++ text) (drop (at + length text) old) end longer
    ∙ ap (λ (t : List ℕ). t ++ text) is
