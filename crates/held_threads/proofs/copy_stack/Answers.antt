-- `copy_stack` meets its contract: one row is read and written, then the other.
use mathlib.Core.Path.{refl}
use Rattle.held_threads.proofs.copy_stack.Goals as goal

pub returns : goal.returns
returns c =
    rw (c.put_row-2.ensures, c.row_at-inner.ensures, c.put_row.ensures, c.row_at-entries.ensures) refl
