-- `row_holds` meets its contract: the part of the bytes is the row.
use mathlib.Core.Path.{◌≡◌}
use Prim.Native.Nat.{◌+◌, ◌-◌}
use native.Mathlib.Omega.{arith}
use Rattle.tables.specs.Cut.{cut_part}
use Rattle.tables.specs.Decode.{row_bytes, row_index, display_rows, display_row, byte_row}
use Rattle.held_displays.proofs.row_holds.Goals as goal

pub returns : goal.returns
unfolding display_row byte_row
returns c =
    let a = c.args in
    let n : row_index (display_rows + a.b) + row_bytes - row_index (display_rows + a.b) ≡ row_bytes = omega arith in
    rw (n, cut_part a.bytes.now (row_index (display_rows + a.b)) row_bytes (omega arith)) at c.holds.ensures
