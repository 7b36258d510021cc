-- Cases P10 and P11, by a chain: each node but the last has one link, to the next, and the last alone is final. Definitions only.
use Rattle.std.specs.Prelude.{cond, List, [], ◌∷◌, ◌++◌, map, ◌≡◌, ℕ, suc, ◌-◌, ◌*◌, ◌^◌, ◌≤◌, ◌<◌, eqb, pos, length, replicate}
use Rattle.std.proofs.Math.Option.{Option, none, some}
use Rattle.tropical_weight.specs.Limits.{list_limit}
use Rattle.tropical_weight.specs.Tropical.{Tropical, fin, one}
use Rattle.tropical_weight.specs.Grid.{of_t}
use Rattle.tropical_weight.specs.Single.{add_all}
use Rattle.sheet.specs.declared.form.Form.{Form}
use Rattle.sheet.specs.Below.{list_below}
use Rattle.sheet.specs.Sheet.{unit_of, sheet_of}
use Rattle.sheet.specs.Machine.{Link, Machine, machine, parts_for}
use Rattle.machine.specs.Readings.{reading_of, reading_cost}
use Rattle.machine.specs.Distance.{distance, reached}
use Rattle.machine.specs.Input.{input_number}
use Rattle.search.specs.Listed.{list_of}
use Rattle.shortest_path.specs.Outcome.{result_of, answer_of}

-- link v leads from node v to the next
abbrev pub chain_link : Tropical → ℕ → Link
chain_link w v = record { source = v; ilabel = 1; olabel = 1; weight = w; next = suc v }

-- node v, where the last is node t
abbrev pub chain_final : ℕ → Tropical → ℕ → Option Tropical
chain_final t w v = cond (eqb v t) (some w) none

-- t links, with one weight on each and on the last node, and a sheet of this form
unfoldable pub chain : Form → ℕ → Tropical → Machine
unfolding list_below
chain form t w = record { links = list_below t (chain_link w); finals = list_below (suc t) (chain_final t w); start = some 0; form = form }

-- the costs of the readings that the result of a call for n holds, whatever bytes follow the answer there
abbrev pub costs_listed : List ℕ → ℕ → List ℕ → List Tropical
costs_listed bytes n rest =
    let m = machine bytes in
    let made = (result_of bytes n).machine in
    map (λ run. reading_cost m (reading_of m run)) (list_of m.form n (length made.finals) (length made.links) (answer_of bytes n ++ rest))

-- a sheet of one form
module _ (form : Form) where
  -- so many units make one
  abbrev pub one_in_units : ℕ
  one_in_units = 2 ^ unit_of form

  -- a chain of so many nodes with every weight the same, as a sheet
  abbrev pub chain_sheet : ℕ → ℕ → List ℕ
  chain_sheet nodes weight = sheet_of (parts_for (chain form (nodes - 1) (fin (pos (weight * one_in_units)))))

  -- N = 2,048 passes, 2,049: 5, of tests 1, 14 and 2 to 6, with which both calls begin
  pub record P10 (weight : ℕ) : Type 0 where
    pub passes : input_number (chain_sheet 2048 weight) ≡ 0
    pub refused : input_number (chain_sheet 2049 weight) ≡ 5

  -- the chain of 2,048 nodes with every weight the largest, the last node's final weight too, and what it costs
  pub record P11 (weight cost : ℕ) : Type 0 where
    -- for n from 1 to 64 one reading is listed, at that cost
    pub costs : (n : ℕ) → 1 ≤ n → n ≤ list_limit → (rest : List ℕ) → costs_listed (chain_sheet 2048 weight) n rest ≡ fin (pos (cost * one_in_units)) ∷ []
    -- node v is v weights away from the start
    pub distances : (v : ℕ) → v < 2048 → distance (machine (chain_sheet 2048 weight)) v ≡ reached (pos (v * (weight * one_in_units)))
    -- and in single precision 2,048 such weights add up to that cost
    pub exact : add_all (of_t (unit_of form) one) (map (of_t (unit_of form)) (replicate 2048 (fin (pos (weight * one_in_units))))) ≡ of_t (unit_of form) (fin (pos (cost * one_in_units)))

-- Both, in a sheet of 64ths, where the largest weight is 128 and the chain costs 262,144, and in one of 256ths, where these are 32 and 65,536.
pub record P10And11 : Type 0 where
  pub p10 : P10 Form.Short 128
  pub p11 : P11 Form.Short 128 262144
  pub p10-fine : P10 (Form.Long 256) 32
  pub p11-fine : P11 (Form.Long 256) 32 65536
