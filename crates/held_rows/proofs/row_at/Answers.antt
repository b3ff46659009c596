-- `row_at` meets its contract: the part of the bytes is the row.
use mathlib.Core.Path.{◌≡◌, ◌∙◌}
use Prim.Native.Nat.{◌+◌, ◌-◌}
use native.Mathlib.Omega.{arith}
use Rattle.tables.specs.Cut.{cut_part}
use Rattle.tables.specs.Decode.{row_bytes, row_index, byte_row}
use Rattle.held_rows.proofs.row_at.Goals as goal

pub returns : goal.returns
unfolding byte_row
returns c =
    let n = c.args.n in
    let e : row_index n + row_bytes - row_index n ≡ row_bytes = omega arith in
    (rw e at c.copy_from_slice.ensures.after) ∙ cut_part c.args.bytes.now (row_index n) row_bytes (omega arith)
