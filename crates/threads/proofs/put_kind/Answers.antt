-- `threads::put_kind` meets its contract. Assumes nothing.
use Rattle.threads.specs.Thread.{kind_holds}
use Rattle.threads.proofs.put_kind.Goals as goal

pub returns : goal.returns
returns c =
    let a = c.args in
    rw c.put_thread.ensures (kind_holds a.words.now a.bytes.now c.requires.0 a.t a.kind c.requires.1 c.thread_at-len.ensures)
