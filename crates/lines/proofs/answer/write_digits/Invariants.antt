-- The invariant: each digit so far is that of its place, and the shift is that of the next place.
use Rattle.std.proofs.Common.{◌≡◌, ◌+◌, ◌*◌, length}
use Rattle.lines.specs.AnswerLaws.{Written}
use Rattle.lines.proofs.answer.write_digits.Given as goal

abbrev pub invariant-loop-digit : goal.invariant-loop-digit
invariant-loop-digit l = record {
  shifted : l.shift + 4 * l.digit-index ≡ 4 * length l.fn.digits;
  written : Written l.digits l.v (length l.fn.digits) l.digit-index;
}
