-- Mirrors the code: the reversed machine in the slots, word by word. A reader need not believe it: laws tie it to Reversed of crate search (proofs/Reversals).
-- Definitions only.
use Rattle.std.specs.Prelude.{false, cond, List, [], ◌∷◌, eqb, ltb, get_or, set, Float}
use Rattle.std.proofs.Math.Option.{none, some}
use Prim.Native.Nat.{ℕ, zero, suc, ◌+◌, ◌*◌}
use Rattle.std.specs.Float.Ieee as Ieee
use Rattle.std.specs.Float.{binary32}
use Rattle.std.specs.Float.Ieee.{add, of_bits}
use Rattle.tropical_weight.specs.Single.{lesser}
use Rattle.sheet.specs.Words.{word_length, word}
use Rattle.sheet.specs.Sheet.{link_length}
use Rattle.sheet.specs.Records.{count_at, first_link, mark_at, final_at}
use Rattle.sheet.specs.Machine.{weight_of}
use Rattle.search.specs.Reversed.{Back}
use Rattle.machine.specs.Finals.{final_count}
use Rattle.slots.specs.Slots.{slot_length, nothing}
use Rattle.distance.specs.Held.{Distance, weight_in, distance_from, distance_in, with_distance}
use Rattle.search_slots.specs.Slots.{next_word, weight_word, chain_word}

-- ---- heads
-- the chains of the first n nodes empty, and none of these taken
unfoldable pub heads_cleared : ℕ → ℕ → List ℕ → List ℕ
heads_cleared nodes zero part = part
heads_cleared nodes (suc q) part = set (set (heads_cleared nodes q part) (nodes + slot_length * q + 2) nothing) (nodes + slot_length * q + 3) 0

-- link k, whose slot is at word `at`, leads to `next` with these weight bits: it is put in front of the chain whose head is word `head`
abbrev pub chained : ℕ → ℕ → ℕ → ℕ → ℕ → List ℕ → List ℕ
chained head at k next bits part = set (set (set (set part at next) (at + 1) bits) (at + 2) (get_or part head 0)) head k

module _ (bytes : List ℕ) (nodes links : ℕ) where
  -- ---- links
  -- link l, out of old node v
  abbrev pub link_put : ℕ → ℕ → List ℕ → List ℕ
  link_put v l part = chained (nodes + slot_length * (word bytes (link_length * l + 3 * word_length) + 1) + 2) (links + slot_length * l) l (v + 1) (word bytes (link_length * l + 2 * word_length)) part

  -- the n links of v from a number on, the last of them first
  unfoldable pub links_put : ℕ → ℕ → ℕ → List ℕ → List ℕ
  links_put v first zero part = part
  links_put v first (suc n) part = links_put v first n (link_put v (first + n) part)

  -- the links of the first n nodes of a sheet with T links, those of the last node first
  unfoldable pub links_reversed : ℕ → ℕ → List ℕ → List ℕ
  unfolding links_put
  links_reversed T zero part = part
  links_reversed T (suc v) part = links_reversed T v (links_put v (first_link bytes T v) (count_at bytes T v) part)

  -- ---- finals
  -- where v is final, link T + k, by the number k of final nodes before it
  abbrev pub final_put : ℕ → ℕ → List ℕ → List ℕ
  final_put T v part =
      let k = T + final_count bytes T v in
      cond (eqb (mark_at bytes T v) 0) part (chained (nodes + 2) (links + slot_length * k) k (v + 1) (final_at bytes T v) part)

  -- of the first n nodes, the last one first
  unfoldable pub finals_reversed : ℕ → ℕ → List ℕ → List ℕ
  finals_reversed T zero part = part
  finals_reversed T (suc v) part = finals_reversed T v (final_put T v part)

-- ---- the least total
-- offered a final node's total
abbrev pub total_with : List ℕ → ℕ → ℕ → ℕ → List ℕ → Float → Float
total_with bytes nodes T v part least =
    cond (eqb (mark_at bytes T v) 0) least (lesser least (add binary32 (weight_in (distance_in part (nodes + slot_length * (v + 1)))) (of_bits binary32 (final_at bytes T v))))

-- over the first n nodes
unfoldable pub least_total : List ℕ → ℕ → ℕ → ℕ → List ℕ → Float
least_total bytes nodes T zero part = Ieee.inf false
least_total bytes nodes T (suc v) part = total_with bytes nodes T v part (least_total bytes nodes T v part)

-- reached where it is finite
abbrev pub least_distance : List ℕ → ℕ → ℕ → ℕ → List ℕ → Distance
least_distance bytes nodes T n part = distance_from (least_total bytes nodes T n part)

-- ---- all of it, for a sheet of N nodes and T links
-- the links and their chains
unfoldable pub chains_put : List ℕ → ℕ → ℕ → ℕ → ℕ → List ℕ → List ℕ
unfolding heads_cleared links_reversed finals_reversed
chains_put bytes nodes links N T part = finals_reversed bytes nodes links T N (links_reversed bytes nodes links T N (heads_cleared nodes (N + 1) part))

unfoldable pub reversed_words : List ℕ → ℕ → ℕ → ℕ → ℕ → List ℕ → List ℕ
unfolding chains_put least_total
reversed_words bytes nodes links N T part =
    let put = chains_put bytes nodes links N T part in
    with_distance put nodes (least_distance bytes nodes T N put)

-- ---- what the slots hold
-- the numbers along a chain from k on, at most n of them
unfoldable pub chain_of : List ℕ → ℕ → ℕ → ℕ → List ℕ
chain_of part links k zero = []
chain_of part links k (suc n) = cond (eqb k nothing) [] (k ∷ chain_of part links (chain_word part links k) n)

-- link k of the reversed machine of one with T links, in units of 1 / 2 ^ j
abbrev pub back_of : ℕ → List ℕ → ℕ → ℕ → ℕ → Back
back_of j part links T k = record { input = cond (ltb k T) (some k) none; weight = weight_of j (weight_word part links k); next = next_word part links k }
