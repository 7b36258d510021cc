-- The slots of the work area: set up, scanned and written out. Assumes nothing.
use mathlib.Core.Path.{◌≡◌, refl, sym, ap, ◌∙◌, subst}
use mathlib.Core.Logic.{◌⊎◌, inl, inr}
use mathlib.Core.List.{List, ◌++◌}
use mathlib.Core.Bool.{Bool, true, false, cond}
use Prim.Native.Nat.{ℕ, zero, suc, ◌+◌, ◌-◌, ◌*◌, ◌≤◌, ◌<◌}
use native.Mathlib.Nat.{eq-or-lt_of_le}
use native.Mathlib.Numerals.{add-one}
use native.Mathlib.Omega.{arith}
use lib.ListN.{length, get_or, set, drop, length-set, length-append}
use lib.Seq.{sets, get_or-set_same, get_or-set_other, drop-set-lt}
use Rattle.sheet.specs.Below.{sum_below}
use Rattle.sheet.specs.Words.{bytes_of_all}
use Rattle.sheet.proofs.Bytes.{sets-append, bytes_of_all-append, length-bytes_of_all}
use Rattle.sheet.specs.Records.{count_at}
use Rattle.std.specs.Prelude.{None}
use Rattle.distance.specs.Held.{reached_in, words_in, with_distance}
use Rattle.distance.proofs.Words.{same-words, none_back, put_word, put-drop, put-length}
use Rattle.shortest_distance.specs.ParentWords.{parent_at, parent_stored}
use Rattle.shortest_distance.specs.NodeSlots.{distance_at, first_word, prepared, height_in, distance_words}
use Rattle.shortest_distance.proofs.ParentWords.{same-parent, stored-word, stored-length, stored-drop, stored-distance, none-back}

-- ---- slots set up
pub length-prepared : (bytes : List ℕ) (links n : ℕ) (work : List ℕ) → length (prepared bytes links n work) ≡ length work
unfolding prepared
length-prepared bytes links zero work = refl
length-prepared bytes links (suc v) work = simp length-set (length-prepared bytes links v work)

-- one slot more
pub prepared-next : (bytes : List ℕ) (links v : ℕ) (work : List ℕ)
    → prepared bytes links (v + 1) work ≡ set (parent_stored (with_distance (prepared bytes links v work) (8 * v) None) v None) (8 * v + 4) (sum_below v (count_at bytes links))
unfolding prepared
prepared-next bytes links v work = ap (λ (k : ℕ). prepared bytes links k work) (add-one v)

-- it changes none before it
prepared-other : (bytes : List ℕ) (links v : ℕ) (work : List ℕ) (i : ℕ) → i < 8 * v
    → get_or (prepared bytes links (suc v) work) i 0 ≡ get_or (prepared bytes links v work) i 0
unfolding prepared
prepared-other bytes links v work i h =
    let p = prepared bytes links v work in
    get_or-set_other (parent_stored (with_distance p (8 * v) None) v None) (8 * v + 4) i (sum_below v (count_at bytes links)) 0 (λ e. omega arith)
    ∙ stored-word (with_distance p (8 * v) None) v None i (λ e. omega arith) (λ e. omega arith)
    ∙ put_word p (8 * v) None i (λ e. omega arith) (λ e. omega arith)

-- slot v is set up
abbrev SetUp : List ℕ → ℕ → List ℕ → ℕ → Type 0
SetUp bytes links work v = (distance_at work v ≡ None) × (parent_at work v ≡ None) × (first_word work v ≡ sum_below v (count_at bytes links))

pub prepared-words : (bytes : List ℕ) (links n : ℕ) (work : List ℕ) (v : ℕ) → v < n → 8 * n ≤ length work → SetUp bytes links (prepared bytes links n work) v
unfolding prepared
prepared-words bytes links zero work v h fits = absurd (omega arith)
prepared-words bytes links (suc n) work v h fits = go (eq-or-lt_of_le (let k : v ≤ n = omega arith in k)) (λ l. prepared-words bytes links n work v l (omega arith))
  where
    p : List ℕ
    p = prepared bytes links n work

    put : List ℕ
    put = with_distance p (8 * n) None

    named : List ℕ
    named = parent_stored put n None

    first : ℕ
    first = sum_below n (count_at bytes links)

    beside : (i : ℕ) → i < 8 * n + 4 → get_or (set named (8 * n + 4) first) i 0 ≡ get_or named i 0
    beside i l = get_or-set_other named (8 * n + 4) i first 0 (λ e. omega (arith, e))

    go : (v ≡ n) ⊎ (v < n) → (v < n → SetUp bytes links p v) → SetUp bytes links (prepared bytes links (suc n) work) v
    go (inl e) r = subst (SetUp bytes links (prepared bytes links (suc n) work)) (sym e) (
      same-words (set named (8 * n + 4) first) named (8 * n) (8 * n) (beside (8 * n) (omega arith)) (beside (8 * n + 1) (omega arith))
          ∙ stored-distance put n None n
          ∙ none_back p (8 * n) (omega (arith, length-prepared bytes links n work)),
      same-parent (set named (8 * n + 4) first) named n (beside (8 * n + 2) (omega arith)) (beside (8 * n + 3) (omega arith))
          ∙ none-back put n (omega (arith, put-length p (8 * n) None, length-prepared bytes links n work)),
      get_or-set_same named (8 * n + 4) first 0 (omega (arith, stored-length put n None, put-length p (8 * n) None, length-prepared bytes links n work)),
    )
    go (inr l) r = (
      same-words (prepared bytes links (suc n) work) p (8 * v) (8 * v) (prepared-other bytes links n work (8 * v) (omega arith)) (prepared-other bytes links n work (8 * v + 1) (omega arith)) ∙ (r l).0,
      same-parent (prepared bytes links (suc n) work) p v (prepared-other bytes links n work (8 * v + 2) (omega arith)) (prepared-other bytes links n work (8 * v + 3) (omega arith)) ∙ (r l).1,
      prepared-other bytes links n work (8 * v + 4) (omega arith) ∙ (r l).2,
    )

-- ---- what lies beyond the slots
beyond : (bytes : List ℕ) (links n : ℕ) (work : List ℕ) (k : ℕ) → 8 * n ≤ k → drop k (prepared bytes links n work) ≡ drop k work
unfolding prepared
beyond bytes links zero work k h = refl
beyond bytes links (suc v) work k h =
    let p = prepared bytes links v work in
    drop-set-lt k (parent_stored (with_distance p (8 * v) None) v None) (8 * v + 4) (sum_below v (count_at bytes links)) (omega arith)
    ∙ stored-drop (with_distance p (8 * v) None) v None k (omega arith)
    ∙ put-drop p (8 * v) None k (omega arith)
    ∙ beyond bytes links v work k (omega arith)

pub prepared-beyond : (bytes : List ℕ) (links n : ℕ) (work : List ℕ) → drop (8 * n) (prepared bytes links n work) ≡ drop (8 * n) work
prepared-beyond bytes links n work = beyond bytes links n work (8 * n) (omega arith)

-- ---- the scan from the top
height-next : (work : List ℕ) (n : ℕ) (b : Bool) → 0 < n → reached_in (distance_at work (n - 1)) ≡ b → height_in work n ≡ cond b n (height_in work (n - 1))
unfolding height_in
height-next work n b h e =
    let top : n ≡ suc (n - 1) = omega arith in
    ap (λ (k : ℕ). height_in work k) top ∙ λ i. cond (e i) (sym top i) (height_in work (n - 1))

-- at a node that is reached, and at one that is not
pub height-found : (work : List ℕ) (n : ℕ) → 0 < n → reached_in (distance_at work (n - 1)) ≡ true → height_in work n ≡ n
height-found work n h e = height-next work n true h e

pub height-down : (work : List ℕ) (n : ℕ) → 0 < n → reached_in (distance_at work (n - 1)) ≡ false → height_in work n ≡ height_in work (n - 1)
height-down work n h e = height-next work n false h e

-- ---- the words written out
distance_words-next : (work : List ℕ) (v : ℕ) → distance_words work (v + 1) ≡ distance_words work v ++ words_in (distance_at work v)
unfolding distance_words
distance_words-next work v = ap (λ (k : ℕ). distance_words work k) (add-one v)

-- two a node
pub length-words : (work : List ℕ) (n : ℕ) → length (distance_words work n) ≡ 2 * n
unfolding distance_words
length-words work zero = refl
length-words work (suc v) = length-append (distance_words work v) (words_in (distance_at work v)) ∙ omega (arith, length-words work v)

-- one distance more, at its place
pub sets-distance : (l work : List ℕ) (v : ℕ)
    → sets (sets l 0 (bytes_of_all (distance_words work v))) (8 * v) (bytes_of_all (words_in (distance_at work v))) ≡ sets l 0 (bytes_of_all (distance_words work (v + 1)))
sets-distance l work v =
    let front = distance_words work v in
    let ws = words_in (distance_at work v) in
    let at : 8 * v ≡ 0 + length (bytes_of_all front) = omega (arith, length-bytes_of_all front, length-words work v) in
    ap (λ (k : ℕ). sets (sets l 0 (bytes_of_all front)) k (bytes_of_all ws)) at
    ∙ sym (sets-append l 0 (bytes_of_all front) (bytes_of_all ws))
    ∙ ap (λ (r : List ℕ). sets l 0 r) (sym (bytes_of_all-append front ws) ∙ ap bytes_of_all (sym (distance_words-next work v)))
