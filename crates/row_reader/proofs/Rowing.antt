-- The row reader's answers: by the fields that are given one by one, and by the definitions of rows. Assumes nothing.
use mathlib.Core.Path.{◌≡◌, refl, sym, ap, ◌∙◌, subst}
use mathlib.Core.Bool.{Bool, true, false, cond}
use Rattle.std.proofs.Common.{Bor, Option, None, Some}
use mathlib.Core.List.{List, [], ◌∷◌, ◌++◌}
use Rattle.std.proofs.lemmas.List.{append_assoc, append-nil}
use Prim.Native.Nat.{ℕ, ◌+◌, ◌≤◌, ◌<◌}
use native.Mathlib.Omega.{arith}
use lib.Dec.{ltb}
use lib.IntN.{pos}
use lib.ListN.{length, drop, length-drop}
use borrow.Author.Tests.{lt-ltb, le-ltb}
use Rattle.std.specs.Option.{option_map}
use Rattle.text_rows.specs.Fields.{Weight, finite, number_of, weight_of}
use Rattle.text_rows.specs.Rows.{Row, final_by, link_by, row_by}
use Rattle.row_reader.specs.Runs.{not_newline}
use Rattle.row_reader.specs.Places.{line_end, row_fields, FieldGiven}
use Rattle.row_reader.specs.RowReading.{row_read, read_to, row_at}
use Rattle.row_reader.specs.declared.row.Row as Code
use Rattle.row_reader.proofs.Runs.{run-most}

-- ---- the fields that are given one by one, in the text that the reader began with
pub record Taken (text : Bor (List ℕ)) (at : ℕ) (now : Bor (List ℕ)) (here : ℕ) (xs : List (List ℕ)) : Type 0 where
  pub kept : now ≡ text
  pub are : row_fields text.now at ≡ xs ++ row_fields text.now here

pub taken_none : (text : Bor (List ℕ)) (at : ℕ) → Taken text at text at []
taken_none text at = record { kept = refl; are = refl }

module _ {text now : Bor (List ℕ)} {at here : ℕ} {xs : List (List ℕ)} (taken : Taken text at now here xs) where
  pub taken_more : (f : List ℕ) {new : Bor (List ℕ)} {there : ℕ} → new ≡ now → FieldGiven now.now here (Some f) there → Taken text at new there (xs ++ (f ∷ []))
  taken_more f {new} {there} e g = record {
    kept = e ∙ taken.kept;
    are =
        taken.are ∙ ap (λ (fs : List (List ℕ)). xs ++ fs) (subst (λ (t : Bor (List ℕ)). FieldGiven t.now here (Some f) there) taken.kept g).0
        ∙ sym (append_assoc xs (f ∷ []) (row_fields text.now there));
  }

  pub taken_all : {there : ℕ} → FieldGiven now.now here None there → row_fields text.now at ≡ xs
  taken_all {there} g = taken.are ∙ ap (λ (fs : List (List ℕ)). xs ++ fs) (subst (λ (t : Bor (List ℕ)). FieldGiven t.now here None there) taken.kept g).0 ∙ append-nil xs

-- ---- the row of these fields
abbrev pub row_for : List (List ℕ) → Option Code.Row
row_for fs = option_map row_read (row_by fs)

pub none_row : row_for [] ≡ None
unfolding row_by
none_row = refl

pub three_row : (x y z : List ℕ) → row_for (x ∷ y ∷ z ∷ []) ≡ None
unfolding row_by
three_row x y z = refl

pub six_row : (s t i o w x : List ℕ) (xs : List (List ℕ)) → row_for (s ∷ t ∷ i ∷ o ∷ w ∷ x ∷ xs) ≡ None
unfolding row_by
six_row s t i o w x xs = refl

-- a number that is not read, whatever fields follow it
module _ (s : List ℕ) where
  pub first_unread : (fs : List (List ℕ)) → number_of s ≡ None → row_for (s ∷ fs) ≡ None
  unfolding row_by
  first_unread [] e = ap (λ (n : Option ℕ). option_map row_read (final_by n (Some (finite (pos 0))))) e
  first_unread (w ∷ []) e = ap (λ (n : Option ℕ). option_map row_read (final_by n (weight_of w))) e
  first_unread (t ∷ i ∷ []) e = refl
  first_unread (t ∷ i ∷ o ∷ []) e = ap (λ (n : Option ℕ). option_map row_read (link_by n (number_of t) (number_of i) (number_of o) (Some (finite (pos 0))))) e
  first_unread (t ∷ i ∷ o ∷ w ∷ []) e = ap (λ (n : Option ℕ). option_map row_read (link_by n (number_of t) (number_of i) (number_of o) (weight_of w))) e
  first_unread (t ∷ i ∷ o ∷ w ∷ x ∷ xs) e = refl

without_second : (s i o : Option ℕ) (w : Option Weight) → link_by s None i o w ≡ None
without_second None i o w = refl
without_second (Some a) i o w = refl

without_third : (s t o : Option ℕ) (w : Option Weight) → link_by s t None o w ≡ None
without_third None t o w = refl
without_third (Some a) None o w = refl
without_third (Some a) (Some b) o w = refl

without_fourth : (s t i : Option ℕ) (w : Option Weight) → link_by s t i None w ≡ None
without_fourth None t i w = refl
without_fourth (Some a) None i w = refl
without_fourth (Some a) (Some b) None w = refl
without_fourth (Some a) (Some b) (Some c) w = refl

module _ (s t i : List ℕ) where
  -- where the numbers of a link make no row, whatever the fourth is
  later_unread : (fs : List (List ℕ)) → ((o : List ℕ) (w : Option Weight) → link_by (number_of s) (number_of t) (number_of i) (number_of o) w ≡ None) → row_for (s ∷ t ∷ i ∷ fs) ≡ None
  unfolding row_by
  later_unread [] h = refl
  later_unread (o ∷ []) h = ap (option_map row_read) (h o (Some (finite (pos 0))))
  later_unread (o ∷ w ∷ []) h = ap (option_map row_read) (h o (weight_of w))
  later_unread (o ∷ w ∷ x ∷ xs) h = refl

  pub second_unread : (fs : List (List ℕ)) → number_of t ≡ None → row_for (s ∷ t ∷ i ∷ fs) ≡ None
  second_unread fs e =
      later_unread fs (λ (o : List ℕ) (w : Option Weight). ap (λ (n : Option ℕ). link_by (number_of s) n (number_of i) (number_of o) w) e ∙ without_second (number_of s) (number_of i) (number_of o) w)

  pub third_unread : (fs : List (List ℕ)) → number_of i ≡ None → row_for (s ∷ t ∷ i ∷ fs) ≡ None
  third_unread fs e =
      later_unread fs (λ (o : List ℕ) (w : Option Weight). ap (λ (n : Option ℕ). link_by (number_of s) (number_of t) n (number_of o) w) e ∙ without_third (number_of s) (number_of t) (number_of o) w)

  pub fourth_unread : (o : List ℕ) (fs : List (List ℕ)) → number_of o ≡ None → row_for (s ∷ t ∷ i ∷ o ∷ fs) ≡ None
  unfolding row_by
  fourth_unread o [] e =
      ap (λ (n : Option ℕ). option_map row_read (link_by (number_of s) (number_of t) (number_of i) n (Some (finite (pos 0))))) e
      ∙ ap (option_map row_read) (without_fourth (number_of s) (number_of t) (number_of i) (Some (finite (pos 0))))
  fourth_unread o (w ∷ []) e =
      ap (λ (n : Option ℕ). option_map row_read (link_by (number_of s) (number_of t) (number_of i) n (weight_of w))) e
      ∙ ap (option_map row_read) (without_fourth (number_of s) (number_of t) (number_of i) (weight_of w))
  fourth_unread o (w ∷ x ∷ xs) e = refl

-- the rows of numbers that are read; one without a weight computes to that of weight 0
pub node_known : (v : List ℕ) {a : ℕ} (w : Option Weight) → number_of v ≡ Some a → option_map row_read (final_by (Some a) w) ≡ option_map row_read (final_by (number_of v) w)
node_known v w e = ap (λ (n : Option ℕ). option_map row_read (final_by n w)) (sym e)

pub numbers_known : (s t i o : List ℕ) {a b c d : ℕ} (w : Option Weight) → number_of s ≡ Some a → number_of t ≡ Some b → number_of i ≡ Some c → number_of o ≡ Some d
    → option_map row_read (link_by (Some a) (Some b) (Some c) (Some d) w) ≡ option_map row_read (link_by (number_of s) (number_of t) (number_of i) (number_of o) w)
numbers_known s t i o w p q r u = sym (λ j. option_map row_read (link_by (p j) (q j) (r j) (u j) w))

-- ---- a row and its end
pub line-most : (text : List ℕ) (at : ℕ) → at ≤ length text → line_end text at ≤ length text
line-most text at h = omega (arith, run-most not_newline (drop at text), length-drop at text)

read-none : (o : Option Row) (n : ℕ) → option_map row_read o ≡ None → read_to o n ≡ None
read-none None n e = refl
read-none (Some r) n e = absurd (cc)

read-some : (o : Option Row) (n : ℕ) (row : Code.Row) → option_map row_read o ≡ Some row → read_to o n ≡ Some (record { row = row; end = n })
read-some None n row e = absurd (cc)
read-some (Some r) n row e = let z : row_read r ≡ row = cc in ap (λ (x : Code.Row). Some (record { row = x; end = n })) z

module _ (text : List ℕ) (at : ℕ) where
  pub row-unread : row_for (row_fields text at) ≡ None → row_at text at ≡ None
  row-unread e = go (ltb (line_end text at) (length text))
    where
      go : (b : Bool) → cond b (read_to (row_by (row_fields text at)) (line_end text at + 1)) None ≡ None
      go true = read-none (row_by (row_fields text at)) (line_end text at + 1) e
      go false = refl

  pub row-open : length text ≤ line_end text at → row_at text at ≡ None
  row-open h = ap (λ (b : Bool). cond b (read_to (row_by (row_fields text at)) (line_end text at + 1)) None) (le-ltb (line_end text at) (length text) h)

  pub row_is : (row : Code.Row) → line_end text at < length text → row_for (row_fields text at) ≡ Some row → row_at text at ≡ Some (record { row = row; end = line_end text at + 1 })
  row_is row h e =
      ap (λ (b : Bool). cond b (read_to (row_by (row_fields text at)) (line_end text at + 1)) None) (lt-ltb (line_end text at) (length text) h)
      ∙ read-some (row_by (row_fields text at)) (line_end text at + 1) row e
