-- Fields and their bytes: written and read back, a word is itself; stores one after the other are one run of stores. Assumes nothing.
use mathlib.Core.Path.{◌≡◌, refl, sym, ap, ◌∙◌}
use mathlib.Core.List.{List, [], ◌∷◌, ◌++◌, append_assoc}
use Prim.Native.Nat.{ℕ, suc, ◌+◌, ◌*◌, ◌≤◌, ◌<◌}
use native.Mathlib.Nat.{add-zero}
use native.Mathlib.Numerals.{add-one}
use native.Mathlib.Omega.{arith}
use lib.ListN.{length, take, drop, get_or, set}
use lib.Seq.{sets, sets-eq, drop-drop, take-suc, length-take-le}
use borrow.Rule.Slice.PartMut.{put_mid}
use Rattle.sheet.specs.Words.{bytes_of, bytes_of_all}

-- ---- a run of stores in two
pub sets-append : (l : List ℕ) (at : ℕ) (xs ys : List ℕ) → sets l at (xs ++ ys) ≡ sets (sets l at xs) (at + length xs) ys
sets-append l at [] ys = ap (λ (k : ℕ). sets l k ys) (sym (add-zero at))
sets-append l at (x ∷ xs) ys = sets-append (set l at x) (suc at) xs ys ∙ ap (λ (k : ℕ). sets (sets (set l at x) (suc at) xs) k ys) (let e : suc at + length xs ≡ at + suc (length xs) = omega arith in e)

-- ---- the bytes of words one after the other
pub bytes_of_all-append : (xs ys : List ℕ) → bytes_of_all (xs ++ ys) ≡ bytes_of_all xs ++ bytes_of_all ys
unfolding bytes_of_all
bytes_of_all-append [] ys = refl
bytes_of_all-append (x ∷ xs) ys = ap (λ (r : List ℕ). bytes_of x ++ r) (bytes_of_all-append xs ys) ∙ sym (append_assoc (bytes_of x) (bytes_of_all xs) (bytes_of_all ys))

pub length-bytes_of_all : (ws : List ℕ) → length (bytes_of_all ws) ≡ 4 * length ws
unfolding bytes_of_all bytes_of
length-bytes_of_all [] = refl
length-bytes_of_all (w ∷ ws) = omega (arith, length-bytes_of_all ws)

pub bytes_of_all-one : (w : ℕ) → bytes_of_all (w ∷ []) ≡ bytes_of w
unfolding bytes_of_all bytes_of
bytes_of_all-one w = refl

-- one word more, at its place
pub sets_word : (l : List ℕ) (at : ℕ) (ws : List ℕ) (i : ℕ) → i < length ws
    → sets (sets l at (bytes_of_all (take i ws))) (at + 4 * i) (bytes_of (get_or ws i 0)) ≡ sets l at (bytes_of_all (take (i + 1) ws))
sets_word l at ws i h =
    let front = take i ws in
    let n : length (bytes_of_all front) ≡ 4 * i = length-bytes_of_all front ∙ ap (λ (k : ℕ). 4 * k) (length-take-le i ws (omega arith)) in
    ap (λ (k : ℕ). sets (sets l at (bytes_of_all front)) (at + k) (bytes_of (get_or ws i 0))) (sym n)
    ∙ sym (sets-append l at (bytes_of_all front) (bytes_of (get_or ws i 0)))
    ∙ ap (λ (r : List ℕ). sets l at (bytes_of_all front ++ r)) (sym (bytes_of_all-one (get_or ws i 0)))
    ∙ ap (λ (r : List ℕ). sets l at r) (sym (bytes_of_all-append front (get_or ws i 0 ∷ [])) ∙ ap bytes_of_all (sym (ap (λ (k : ℕ). take k ws) (add-one i) ∙ take-suc ws i 0 h)))

-- ---- bytes copied into a part of a slice are a run of stores
pub put_mid-sets : (l xs : List ℕ) (at n : ℕ) → n ≡ length xs → at + length xs ≤ length l → put_mid at n l xs ≡ sets l at xs
put_mid-sets l xs at n e h =
    ap (λ (k : ℕ). take at l ++ (xs ++ drop k (drop at l))) e
    ∙ ap (λ (r : List ℕ). take at l ++ (xs ++ r)) (drop-drop (length xs) at l)
    ∙ sym (append_assoc (take at l) xs (drop (at + length xs) l))
    ∙ sym (sets-eq xs l at h)

-- ---- words stored behind others
pub sets-words : (l : List ℕ) (at : ℕ) (xs ys : List ℕ) (k : ℕ) → k ≡ at + 4 * length xs → sets (sets l at (bytes_of_all xs)) k (bytes_of_all ys) ≡ sets l at (bytes_of_all (xs ++ ys))
sets-words l at xs ys k e =
    ap (λ (j : ℕ). sets (sets l at (bytes_of_all xs)) j (bytes_of_all ys)) (e ∙ ap (λ (j : ℕ). at + j) (sym (length-bytes_of_all xs)))
    ∙ sym (sets-append l at (bytes_of_all xs) (bytes_of_all ys))
    ∙ ap (sets l at) (sym (bytes_of_all-append xs ys))

-- by what a call stores after others
pub stored_next : (l m n : List ℕ) (at : ℕ) (xs ys : List ℕ) (k : ℕ) → m ≡ sets l at (bytes_of_all xs) → n ≡ sets m k (bytes_of_all ys) → k ≡ at + 4 * length xs → n ≡ sets l at (bytes_of_all (xs ++ ys))
stored_next l m n at xs ys k e f h = f ∙ ap (λ (j : List ℕ). sets j k (bytes_of_all ys)) e ∙ sets-words l at xs ys k h
