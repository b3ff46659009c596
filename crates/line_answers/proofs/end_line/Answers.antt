-- `end_line` meets its contract.
use Rattle.line_answers.specs.Answered.{ended}
use Rattle.line_answers.proofs.end_line.Goals as goal

pub returns : goal.returns
returns c = ended _ _ _ _ _ _ _ (rw c.from-a.ensures c.answer_line-result.ensures) c.write_answer.ensures
