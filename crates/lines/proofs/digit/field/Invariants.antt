-- The invariant: the value is that of the digits passed.
use Rattle.std.proofs.Common.{◌≡◌, take}
use Rattle.lines.specs.Hexadecimal.{number_from}
use Rattle.lines.proofs.digit.field.Given as goal

abbrev pub invariant-loop-b : goal.invariant-loop-b
invariant-loop-b l = l.value ≡ number_from 0 (take l.b-index l.digits)
