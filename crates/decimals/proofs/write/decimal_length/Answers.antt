use mathlib.Core.Path.{◌≡◌, sym, ap, ◌∙◌}
use native.Mathlib.Omega.{arith}
use lib.ListN.{length, take}
use Rattle.decimals.specs.Decimal.{decimal}
use Rattle.decimals.proofs.Decimals.{decimal-is, length-decimal}
use borrow.Author.Rules.{rules}
use Rattle.decimals.proofs.write.decimal_length.Goals as goal

pub returns : goal.returns
returns c =
    let args = c.args in
    let made = c.decimal in
    let is : take made.result made.new.out ≡ decimal args.x = made.ensures.digits ∙ decimal-is c.from.result made.result made.ensures.len ∙ ap decimal (search rules) in
    let all : made.result ≡ length (decimal args.x) = omega (arith, ap length is) in record {
      value = all;
      upper_bound = omega (arith, all, (length-decimal args.x (search rules)).1);
    }
