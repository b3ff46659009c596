-- `write_digits` meets its contract.
use Rattle.std.proofs.Common.{◌≡◌, length, arith}
use Rattle.lines.specs.AnswerLaws.{written_more, written_all}
use Rattle.lines.proofs.answer.write_digits.Goals as goal

pub loop-digit-preserved : goal.loop-digit-preserved
loop-digit-preserved c =
    let l = c.loop-digit in
    record {
      shifted = omega arith;
      written = rw c.digit_of.ensures (written_more _ _ _ _ _ (omega arith) l.invariant.shifted l.invariant.written);
    }

pub returns : goal.returns
returns c =
    let l = c.loop-digit in
    let e : length c.args.digits.now ≡ l.digit-index = omega arith in
    written_all _ _ _ (omega arith) (rw (← e) at l.invariant.written)
