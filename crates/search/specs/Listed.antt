-- Which readings a list holds, told by the bytes of the result and the form and the counts of its machine alone. Definitions only.
use Rattle.std.proofs.Math.Bool.{cond}
use mathlib.Core.List.{List, [], ◌∷◌, ◌++◌, map}
use Prim.Native.Nat.{ℕ, zero, suc, ◌+◌}
use Rattle.std.specs.Prelude.{eqb, get_or, take}
use Rattle.sheet.specs.declared.form.Form.{Form}
use Rattle.sheet.specs.Words.{words}
use Rattle.sheet.specs.Sheet.{sheet_size, Parts, no_start, link_count, node_count, next, mark, parts_of}
use Rattle.sheet.specs.Machine.{sources_below}

-- of a machine in the fields of a sheet, and the words of its links
module _ (p : Parts) (ws : List ℕ) where
  -- the links out of state q, of the first k, in their order
  unfoldable pub out_from : ℕ → ℕ → List ℕ
  unfolding sources_below
  out_from q zero = []
  out_from q (suc l) = out_from q l ++ cond (eqb (get_or (sources_below p (node_count p)) l 0) q) (l ∷ []) []

  abbrev pub links_from : ℕ → List ℕ
  links_from q = out_from q (link_count p)

  -- the input link that link l repeats, where it repeats one, and then those of a way
  abbrev pub repeated : ℕ → List ℕ → List ℕ
  repeated l way = cond (eqb (get_or ws l 0) no_start) way (get_or ws l 0 ∷ way)

  -- along a state's only link, and on from the state it leads to
  abbrev pub along : (ℕ → List ℕ) → List ℕ → List ℕ
  along on [] = []
  along on (l ∷ ls) = repeated l (on (next p l))

  -- The input links repeated from state q along each state's only link as far as a final state. No state comes twice, so that as many steps as states are enough.
  unfoldable pub way_from : ℕ → ℕ → List ℕ
  unfolding out_from
  way_from zero q = []
  way_from (suc k) q = cond (eqb (mark p q) 1) [] (along (way_from k) (links_from q))

  -- n = 1: a machine that is not empty holds the one reading along its one way
  abbrev pub one_way : List (List ℕ)
  one_way = cond (eqb (node_count p) 0) [] (way_from (node_count p) p.start ∷ [])

  -- from n = 2: the k-th reading lies along the start's k-th link
  abbrev pub ways : List (List ℕ)
  ways = map (λ l. repeated l (way_from (node_count p) (next p l))) (links_from p.start)

-- The list for n that a result holds whose machine has this form, and so many nodes and links; what comes after the words is not looked at.
unfoldable pub list_of : Form → ℕ → ℕ → ℕ → List ℕ → List (List ℕ)
unfolding words parts_of way_from
list_of form n nodes links result =
    let size = sheet_size form links nodes in
    let p = parts_of (take size result) in
    let ws = words result size links in
    cond (eqb n 1) (one_way p ws) (ways p ws)
