-- `answer_line` meets its contract: one law for each answer of `parse`.
use Rattle.line_answers.specs.Answered.{answered_bad, answered_frame}
use Rattle.line_answers.proofs.answer_line.Goals as goal

pub returns-in_default : goal.returns-in_default
returns-in_default c =
    answered_bad _ _ _ c.requires c.in_default.is c.parse.ensures

pub returns : goal.returns
returns c =
    answered_frame _ _ _ _ _ _ c.in-Some.is c.parse.ensures c.carry_out.ensures
