use mathlib.Core.Path.{◌≡◌, sym, ap, ◌∙◌}
use mathlib.Core.Bool.{Bool, cond}
use mathlib.Core.List.{List, ◌++◌}
use Prim.Native.Nat.{ℕ, ◌*◌}
use native.Mathlib.Nat.{zero-add}
use native.Mathlib.Omega.{arith}
use lib.ListN.{length, drop}
use lib.Seq.{sets-eq}
use borrow.Author.Tests.{lt-ltb, le-ltb}
use Rattle.sheet.specs.Words.{bytes_of_all}
use Rattle.sheet.proofs.Bytes.{length-bytes_of_all}
use Rattle.shortest_distance.specs.NodeSlots.{distance_words}
use Rattle.shortest_distance.proofs.Areas.{length-words}
use Rattle.shortest_distance.proofs.hand_over.Goals as goal

words-length : (work : List ℕ) (n : ℕ) → length (bytes_of_all (distance_words work n)) ≡ 8 * n
words-length work n = length-bytes_of_all (distance_words work n) ∙ omega (arith, length-words work n)

pub returns-then-res-count-clause-res_after : goal.returns-then-res-count-clause-res_after
returns-then-res-count-clause-res_after c =
    let args = c.args in
    let result = args.res.now in
    let ws = distance_words args.work.now args.count in
    sym (ap (λ (b : Bool). cond b result (bytes_of_all ws ++ drop (length (bytes_of_all ws)) result)) (lt-ltb (length result) (length (bytes_of_all ws)) (omega (arith, words-length args.work.now args.count))))

pub returns-clause-res_after : goal.returns-clause-res_after
returns-clause-res_after c =
    let args = c.args in
    let result = args.res.now in
    let ws = distance_words args.work.now args.count in
    c.put_distances.ensures
    ∙ sets-eq (bytes_of_all ws) result 0 (omega (arith, words-length args.work.now args.count))
    ∙ ap (λ (k : ℕ). bytes_of_all ws ++ drop k result) (zero-add (length (bytes_of_all ws)))
    ∙ sym (ap (λ (b : Bool). cond b result (bytes_of_all ws ++ drop (length (bytes_of_all ws)) result)) (le-ltb (length result) (length (bytes_of_all ws)) (omega (arith, words-length args.work.now args.count))))
