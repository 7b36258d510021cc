use Rattle.std.proofs.Common.{◌≡◌, ◌-◌}
use Rattle.stored_cases.specs.Fields.{rest_of}
use Rattle.stored_cases.proofs.lines.Line.rest.Given as goal

abbrev pub invariant-loop : goal.invariant-loop
invariant-loop l = rest_of l.rest (l.spaces - l.counter) ≡ rest_of l.self.text.now l.spaces
