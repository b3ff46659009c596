-- `carry_question` meets its contract: each op has it, of its own call.
use Rattle.question_ops.proofs.carry_question.Goals as goal

pub returns-in-Load : goal.returns-in-Load
returns-in-Load c = rw c.in-Load.is c.load.ensures

pub returns-in-Read : goal.returns-in-Read
returns-in-Read c = rw c.in-Read.is c.read.ensures
