-- A stored record of a queue, by its words. Definitions only.
use Rattle.std.specs.Prelude.{List, [], ◌∷◌, ℕ, Bool, true, false, ◌==◌, cond, None, Some, set, drop, replicate}
use Rattle.std.specs.List.{fold}
use Rattle.tropical_weight.specs.Limits.{node_limit}
use Rattle.sheet.specs.Words.{word}
use Rattle.state_order_queue.specs.declared.Queue.{Queue}

-- a field of four bytes after the other, and nothing of what is behind whole fields
unfoldable pub fields : List ℕ → List ℕ
unfolding word
fields [] = []
fields (a ∷ []) = []
fields (a ∷ b ∷ []) = []
fields (a ∷ b ∷ c ∷ []) = []
fields (a ∷ b ∷ c ∷ d ∷ bytes) = word (a ∷ b ∷ c ∷ d ∷ []) 0 ∷ fields bytes

-- the flags of these nodes set: a number that is no node's sets none
abbrev pub flagged : List Bool → List ℕ → List Bool
flagged flags nodes = fold (λ flags v. set flags v true) flags nodes

-- front, 0 for back none, back, and each node that is in
unfoldable pub queue_of : List ℕ → Queue
queue_of bytes = record {
  front = word bytes 0;
  back = cond (word bytes 4 == 0) None (Some (word bytes 8));
  flags = flagged (replicate node_limit false) (fields (drop 12 bytes));
}
