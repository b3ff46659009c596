-- `write_answer` meets its contract: the digits of the status, those of the value after them, and a line feed.
use Rattle.std.proofs.Common.{ℕ, ◌+◌, List, set, ap, ◌∙◌, arith}
use Rattle.std.proofs.lemmas.List.Edits.{sets}
use Rattle.lines.specs.Answers.{digits_of}
use Rattle.lines.specs.AnswerLaws.{part_written, answer_written}
use Rattle.lines.proofs.answer.write_answer.Goals as goal

pub returns : goal.returns
returns c =
    let a = c.args in
    let status = part_written a.output.now _ a.at _ a.status 2 (omega arith) (omega arith) c.write_digits.ensures in
    let value = part_written _ _ (a.at + 2) _ a.value 16 (omega arith) (omega arith) c.write_digits-2.ensures in
    ap (λ (x : List ℕ). set x (a.at + 18) 10) (value ∙ ap (λ (x : List ℕ). sets x (a.at + 2) (digits_of a.value 16)) status)
    ∙ answer_written _ _ _ _
