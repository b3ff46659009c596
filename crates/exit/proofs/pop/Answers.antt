-- `exit::pop` meets its contract. Assumes nothing.
use native.Mathlib.Omega.{arith}
use Rattle.tables.proofs.Laws.{len_read}
use Rattle.exit.specs.Exit.{popped_holds}
use Rattle.exit.proofs.pop.Goals as goal

pub overflow_sub-len : goal.overflow_sub-len
overflow_sub-len c =
    let a = c.args in
    omega (arith, c.requires.2, len_read a.words.now a.bytes.now a.t c.requires.1 c.thread_at-h.ensures)

pub returns : goal.returns
returns c =
    let a = c.args in
    rw c.put_thread.ensures (popped_holds a.words.now a.bytes.now c.requires.0 a.t c.requires.1 c.thread_at-h.ensures)
