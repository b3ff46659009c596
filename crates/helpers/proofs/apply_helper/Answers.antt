-- `apply_helper` meets its contract: the counts are raised, then the starter's stack is the helper's too.
use Rattle.tables.specs.Decode.{state_of}
use Rattle.helpers.specs.Helper.{copied_holds}
use Rattle.helpers.proofs.apply_helper.Goals as goal

pub returns : goal.returns
returns c =
    let a = c.args in
    rw (c.put_thread.ensures, c.copy_stack.ensures)
    (copied_holds a.bytes.now _ a.t a.kind a.helper c.requires.1.called.thread c.requires.1.helper.thread c.thread_at-len.ensures
    (state_of a.words.now a.bytes.now) c.raise_counts.ensures)

pub raise_counts-requires : goal.raise_counts-requires
raise_counts-requires c = (c.requires.0, c.requires.1.called.thread)

pub thread_at-len-requires : goal.thread_at-len-requires
thread_at-len-requires c = c.requires.1.called.thread

pub put_thread-requires : goal.put_thread-requires
put_thread-requires c = c.requires.1.helper.thread

pub copy_stack-requires : goal.copy_stack-requires
copy_stack-requires c = (c.requires.1.called.thread, c.requires.1.helper.thread)
