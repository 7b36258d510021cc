-- Mirrors the code: what the passes over nodes and links find. A reader need not believe it: laws tie it to Sheet (proofs/Fields). Definitions only.
use Rattle.std.specs.Prelude.{ℕ, ◌+◌, not, ◌&&◌, ◌||◌, cond, ltb, eqb}
use Rattle.sheet.specs.declared.tests.NodeTests.{NodeTests}
use Rattle.sheet.specs.declared.tests.LinkTests.{LinkTests}
use Rattle.sheet.specs.Below.{all_below, sum_below}
use Rattle.sheet.specs.declared.form.Form.{Form}
use Rattle.sheet.specs.Sheet.{well_marked, unit_fits, start_fits, weight_fits}

-- one node more, of weights in units of 1 / 2 ^ j
abbrev pub with_node : ℕ → NodeTests → ℕ → ℕ → ℕ → NodeTests
with_node j t count mark bits = record {
  marked = t.marked && well_marked mark bits;
  links = t.links + count;
  weights = t.weights && (eqb mark 0 || weight_fits j bits);
}

-- one link more
abbrev pub with_link : ℕ → LinkTests → ℕ → ℕ → ℕ → LinkTests
with_link j t bits next nodes = record { nexts = t.nexts && ltb next nodes; weights = t.weights && weight_fits j bits }

-- all nodes, by their fields
abbrev pub node_tests : ℕ → ℕ → (ℕ → ℕ) → (ℕ → ℕ) → (ℕ → ℕ) → NodeTests
node_tests j n count mark bits = record {
  marked = all_below n (λ v. well_marked (mark v) (bits v));
  links = sum_below n count;
  weights = all_below n (λ v. eqb (mark v) 0 || weight_fits j (bits v));
}

-- all links, by their fields
abbrev pub link_tests : ℕ → ℕ → ℕ → (ℕ → ℕ) → (ℕ → ℕ) → LinkTests
link_tests j n nodes bits next = record { nexts = all_below n (λ l. ltb (next l) nodes); weights = all_below n (λ l. weight_fits j (bits l)) }

-- the first number whose test fails
abbrev pub judged : NodeTests → LinkTests → ℕ → ℕ → ℕ → Form → ℕ
judged n l links nodes start form =
    cond (not (n.marked && eqb n.links links)) 1
    (cond (not (unit_fits form)) 14 (cond (not (start_fits nodes start)) 2 (cond (not l.nexts) 3 (cond (not (l.weights && n.weights)) 4 0))))
