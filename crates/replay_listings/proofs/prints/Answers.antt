use Rattle.std.proofs.Common.{◌≡◌, ℕ, ◌<◌, Bool, cond, List, [], length, get_or, take, refl, sym, ap, ◌∙◌, arith}
use Rattle.std.proofs.lemmas.List.{ext_get_or, get_or-take, length-take-le}
use borrow.Author.Tests.{lt-ltb}
use Rattle.decimals.proofs.Storing.{text_put}
use Rattle.listing.specs.Printed.{printed}
use Rattle.stored_cases.specs.Left.{ResultLeft, result_mark}
use Rattle.replay_listings.proofs.prints.Goals as goal

-- what is left begins with the bytes
begins : (area bytes : List ℕ) → ResultLeft area bytes → take (length bytes) area ≡ bytes
begins area bytes left =
    let size : length (take (length bytes) area) ≡ length bytes = length-take-le (length bytes) area left.0 in
    ext_get_or 0 (take (length bytes) area) bytes size (λ i l.
    let below : i < length bytes = omega arith in
    get_or-take (length bytes) area i 0 below ∙ left.1 i (omega (arith, left.0)) ∙ ap (λ (b : Bool). cond b (get_or bytes i 0) result_mark) (lt-ltb i (length bytes) below))

pub returns-then-end-text : goal.returns-then-end-text
returns-then-end-text c z =
    let area = c.print-end.new.out in
    let text = c.args.text.now in
    let puts = c.print-end.ensures.puts in
    let end : c.print-end.result ≡ length text = c.if-end-text.true in
    let put : take c.print-end.result area ≡ printed c.args.read.now = text_put {front = []} (refl) (omega arith) (omega (arith, puts.ends, c.print-end.ensures.prefix_len.0)) puts in
    sym put ∙ ap (λ n. take n area) end ∙ begins area text (c.result_left.ensures z)
