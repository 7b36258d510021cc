-- What a call must leave in areas that held a mark before. Definitions only.
use Rattle.std.specs.Prelude.{◌≡◌, cond, List, ℕ, ◌≤◌, ◌<◌, ltb, length, get_or}

abbrev pub work_mark : ℕ
work_mark = 0x5a5a_5a5a

abbrev pub result_mark : ℕ
result_mark = 0xa5

-- these bytes, and the mark behind them
abbrev pub ResultLeft : List ℕ → List ℕ → Type 0
ResultLeft result bytes = (length bytes ≤ length result) × ((i : ℕ) → i < length result → get_or result i 0 ≡ cond (ltb i (length bytes)) (get_or bytes i 0) result_mark)

-- so many words that are zero, and the mark behind them
abbrev pub WorkLeft : List ℕ → ℕ → Type 0
WorkLeft work zeros = (zeros ≤ length work) × ((i : ℕ) → i < length work → get_or work i 0 ≡ cond (ltb i zeros) 0 work_mark)
