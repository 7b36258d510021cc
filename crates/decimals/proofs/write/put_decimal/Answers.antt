use mathlib.Core.Path.{◌≡◌, ap, ◌∙◌}
use native.Mathlib.Omega.{arith}
use lib.ListN.{length, take}
use Rattle.decimals.specs.Decimal.{decimal}
use Rattle.decimals.proofs.Decimals.{decimal-is, length-decimal}
use Rattle.decimals.proofs.Storing.{puts-same}
use borrow.Author.Rules.{rules}
use Rattle.decimals.proofs.write.put_decimal.Goals as goal

pub put_text-requires : goal.put_text-requires
put_text-requires c =
    let made = c.decimal-k in
    let x = c.from.result in
    let is : take made.result made.new.out ≡ decimal x = made.ensures.digits ∙ decimal-is x made.result made.ensures.len in
    omega (arith, ap length is, (length-decimal x (omega arith)).1)

pub returns : goal.returns
returns c =
    let args = c.args in
    let made = c.decimal-k in
    let put = c.put_text in
    let is : take made.result made.new.out ≡ decimal args.x = made.ensures.digits ∙ decimal-is c.from.result made.result made.ensures.len ∙ ap decimal (search rules) in record {
      puts = puts-same is put.ensures;
      upper_bound = omega (arith, put.ensures.ends, ap length is, (length-decimal args.x (search rules)).1);
    }
