use Rattle.std.proofs.Common.{◌≡◌, ◌+◌, ◌/◌, ◌%◌, ◌^◌, ◌<◌, not, ◌&&◌, eqb, leb, sym, ◌∙◌, arith, lit<, le-leb}
use borrow.Author.Tests.{lt-leb}
use Rattle.tropical_weight.specs.Limits.{unit, weight_limit}
use Rattle.tropical_weight.specs.Grid.{grid_bits, exponent_field}
use Rattle.tropical_weight.specs.Units.{places}
use Rattle.tropical_weight.proofs.Finer.{covered, finer-shift}
use Rattle.tropical_weight.proofs.Fields.{grid_bits-low, grid_bits-high, rest-none, rest_some, significand-low, grid_shift-le}
use Rattle.tropical_weight.proofs.shifts.GridShifts.on_grid.Goals as goal

pub returns-then-finer-exponent : goal.returns-then-finer-exponent
returns-then-finer-exponent c =
    let u = c.args.self.now.unit in
    sym (grid_bits-high (places u) (covered u) weight_limit c.args.bits (omega arith) (lit< tt) (omega (arith, c.finer-finer.ensures, c.if-finer-exponent.true)))

pub overflow_shr-units : goal.overflow_shr-units
overflow_shr-units c = omega (arith, c.shift-shift.ensures, grid_shift-le unit (exponent_field c.args.bits + c.finer-finer.result))

pub overflow_shl-units : goal.overflow_shl-units
overflow_shl-units c = omega (arith, c.shift-shift.ensures, grid_shift-le unit (exponent_field c.args.bits + c.finer-finer.result))

-- the test by the digits and the shift that the code has
by_digits : (c : goal.After-shift-shift)
    → grid_bits (places c.args.self.now.unit) weight_limit c.args.bits
    ≡ eqb (c.significand_of-digits.result % 2 ^ c.shift-shift.result) 0 && leb (c.significand_of-digits.result / 2 ^ c.shift-shift.result) weight_limit && not (eqb c.args.bits (2 ^ 31))
by_digits c =
    let u = c.args.self.now.unit in
    grid_bits-low (places u) (covered u) weight_limit c.args.bits (omega arith) c.significand_of-digits.result c.shift-shift.result
    c.significand_of-digits.ensures (c.shift-shift.ensures ∙ finer-shift unit c.finer-finer.result (places u) (exponent_field c.args.bits) c.finer-finer.ensures)
    (omega (arith, c.finer-finer.ensures, c.if-finer-exponent.false))

few : (c : goal.After-shift-shift) → c.significand_of-digits.result < 2 ^ 24
few c = let b = c.args.bits in omega (arith, c.significand_of-digits.ensures, significand-low (exponent_field b) (b % 2 ^ 23) (omega arith))

pub returns-then-units-shift : goal.returns-then-units-shift
returns-then-units-shift c = sym (by_digits c.before ∙ simp (rest_some c.significand_of-digits.result c.shift-shift.result (few c.before) c.if-units-shift.true))

pub returns-then-units-gt-WEIGHT_LIMIT : goal.returns-then-units-gt-WEIGHT_LIMIT
returns-then-units-gt-WEIGHT_LIMIT c =
    sym (by_digits c.before.before
    ∙ simp (rest-none c.significand_of-digits.result c.shift-shift.result (few c.before.before) c.if-units-shift.false, lt-leb _ _ c.if-units-gt-WEIGHT_LIMIT.true))

pub returns : goal.returns
returns c =
    sym (by_digits c.before.before
    ∙ simp (rest-none c.significand_of-digits.result c.shift-shift.result (few c.before.before) c.if-units-shift.false, le-leb _ _ c.if-units-gt-WEIGHT_LIMIT.false))
