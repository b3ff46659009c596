-- `carry_state` meets its contract: each op has it, of its own call.
use Rattle.state_ops.proofs.carry_state.Goals as goal

pub returns-in-Start : goal.returns-in-Start
returns-in-Start c = rw c.in-Start.is c.start.ensures

pub returns-in-End : goal.returns-in-End
returns-in-End c = rw c.in-End.is c.end.ensures

pub returns-in-Make : goal.returns-in-Make
returns-in-Make c = rw c.in-Make.is c.make.ensures

pub returns-in-Enter : goal.returns-in-Enter
returns-in-Enter c = rw c.in-Enter.is c.enter.ensures

pub returns-in-Exit : goal.returns-in-Exit
returns-in-Exit c = rw c.in-Exit.is c.exit.ensures

pub returns-in-StartHelper : goal.returns-in-StartHelper
returns-in-StartHelper c = rw c.in-StartHelper.is c.start_helper.ensures

pub returns-in-Remove : goal.returns-in-Remove
returns-in-Remove c = rw c.in-Remove.is c.remove.ensures
