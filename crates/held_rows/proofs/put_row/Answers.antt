-- `put_row` meets its contract: the part of the bytes becomes the row.
use mathlib.Core.Path.{◌≡◌}
use Prim.Native.Nat.{◌+◌, ◌-◌}
use native.Mathlib.Omega.{arith}
use Rattle.tables.specs.Cut.{put_part}
use Rattle.tables.specs.Decode.{row_bytes, row_index, put_byte_row}
use Rattle.held_rows.proofs.put_row.Goals as goal

pub returns : goal.returns
unfolding put_byte_row
returns c =
    let n = c.args.n in
    let e : row_index n + row_bytes - row_index n ≡ row_bytes = omega arith in
    rw (e, c.copy_from_slice.ensures.after) (put_part c.args.bytes.now (row_index n) c.args.row row_bytes (omega arith) (omega arith))
