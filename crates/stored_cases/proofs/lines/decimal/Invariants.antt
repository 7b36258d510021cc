use Rattle.std.proofs.Common.{◌≡◌, ◌≤◌, drop}
use Rattle.stored_cases.specs.Digits.{number_on}
use Rattle.stored_cases.proofs.lines.decimal.Given as goal

abbrev pub invariant-loop-c : goal.invariant-loop-c
invariant-loop-c l = record { value : number_on l.n (drop l.c-index l.field) ≡ number_on 0 l.field; most : l.n ≤ 999999 }
