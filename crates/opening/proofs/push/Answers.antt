-- `push` meets its contract. Assumes nothing.
use native.Mathlib.Omega.{arith}
use Prim.Native.Nat.{◌<◌}
use Rattle.tables.proofs.Laws.{len_read}
use Rattle.opening.specs.Entered.{pushed_holds}
use Rattle.opening.proofs.push.Goals as goal
use Rattle.opening.proofs.push.Goals.{After-thread_at-h}

-- the stack has room, as it is read
room : (c : After-thread_at-h) → c.thread_at-h.result.len < 32
room c =
    let a = c.args in
    omega (arith, c.requires.2, len_read a.words.now a.bytes.now a.t c.requires.1 c.thread_at-h.ensures)

pub overflow_add-len : goal.overflow_add-len
overflow_add-len c = omega (arith, room (goal.at.overflow_add-len c).After-thread_at-h)

pub put_entry-requires : goal.put_entry-requires
put_entry-requires c =
    (c.requires.1, room (goal.at.put_entry-requires c).After-thread_at-h)

pub returns : goal.returns
returns c =
    let a = c.args in
    rw (c.put_thread.ensures, c.put_entry.ensures)
    (pushed_holds a.words.now a.bytes.now c.requires.0 a.t a.q a.inner c.requires.1 c.thread_at-h.ensures (room (goal.at.returns c).After-thread_at-h))
