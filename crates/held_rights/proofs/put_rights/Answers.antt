-- `put_rights` meets its contract: the part of the bytes becomes the table.
use native.Mathlib.Omega.{arith}
use Rattle.rights.specs.Rights.{table_size}
use Rattle.tables.specs.Cut.{put_part}
use Rattle.tables.specs.Decode.{rights_at, put_rights}
use Rattle.held_rights.proofs.put_rights.Goals as goal

pub returns : goal.returns
unfolding put_rights
returns c =
    rw c.copy_from_slice.ensures.after (put_part c.args.bytes.now rights_at c.args.table.now table_size c.requires (omega arith))
