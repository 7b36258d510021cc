-- Refusals and their numbers, an answer that is a value or a refusal, and the area after it. Definitions only.
use Rattle.std.specs.Prelude.{ℕ, Bool, true, false, cond, List, ◌++◌, eqb, length, drop, Result, Ok, Err}
use Rattle.sheet.specs.declared.refusal.Refusal.{Refusal}

-- its number: that of documents 01 and 02, or our own, 30 and 31
abbrev pub number_of : Refusal → ℕ
number_of Refusal.Layout = 1
number_of Refusal.Start = 2
number_of Refusal.Next = 3
number_of Refusal.Weight = 4
number_of Refusal.Limits = 5
number_of Refusal.Climb = 6
number_of Refusal.Count = 7
number_of Refusal.Rows = 8
number_of Refusal.NoRows = 9
number_of Refusal.Labels = 10
number_of Refusal.Product = 11
number_of Refusal.Sum = 12
number_of Refusal.Narrow = 13
number_of Refusal.Unit = 14
number_of Refusal.Work = 20
number_of Refusal.Room = 21
number_of Refusal.Queue = 22
number_of Refusal.NoAnswer = 30
number_of Refusal.Absent = 31

-- the refusal of a number; it is read where the number is one of those
abbrev pub refusal_of : ℕ → Refusal
refusal_of k =
    cond (eqb k 1) Refusal.Layout (cond (eqb k 2) Refusal.Start (cond (eqb k 3) Refusal.Next (cond (eqb k 4) Refusal.Weight
    (cond (eqb k 5) Refusal.Limits (cond (eqb k 6) Refusal.Climb (cond (eqb k 7) Refusal.Count (cond (eqb k 8) Refusal.Rows
    (cond (eqb k 9) Refusal.NoRows (cond (eqb k 10) Refusal.Labels (cond (eqb k 11) Refusal.Product (cond (eqb k 12) Refusal.Sum
    (cond (eqb k 13) Refusal.Narrow (cond (eqb k 14) Refusal.Unit (cond (eqb k 20) Refusal.Work (cond (eqb k 21) Refusal.Room (cond (eqb k 22) Refusal.Queue
    (cond (eqb k 30) Refusal.NoAnswer Refusal.Absent)))))))))))))))))

-- by the test of the number
abbrev pub answer_by : {A : Type 0} → Bool → A → ℕ → Result A Refusal
answer_by true a k = Ok a
answer_by false a k = Err (refusal_of k)

-- a value where the number is 0, else the refusal of the number
abbrev pub answer : {A : Type 0} → A → ℕ → Result A Refusal
answer a k = answer_by (eqb k 0) a k

-- the result area after it: these bytes and then those that were there, or just those where it is refused
abbrev pub answer_over : List ℕ → ℕ → List ℕ → List ℕ
answer_over bytes k old = cond (eqb k 0) (bytes ++ drop (length bytes) old) old

-- the number of an answer: 0 where it is a value
abbrev pub number_in : {A : Type 0} → Result A Refusal → ℕ
number_in (Ok a) = 0
number_in (Err r) = number_of r
