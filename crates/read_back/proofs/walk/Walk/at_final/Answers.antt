use mathlib.Core.Path.{◌≡◌, ◌∙◌}
use borrow.Author.Rules.{rules}
use Rattle.read_back.proofs.Follow.{ends_by, ending-is}
use Rattle.read_back.proofs.walk.Walk.at_final.Goals as goal

pub returns : goal.returns
returns c =
    let tested : c.is_some_and.result ≡ ends_by c.final_bits.result = search rules in
    tested ∙ ending-is c.args.self.now c.final_bits.result c.final_bits.ensures.word
