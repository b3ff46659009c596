-- `apply_remove` meets its contract: the area is written, then the used bits.
use mathlib.Core.Bool.{false}
use native.Mathlib.Omega.{arith}
use Rattle.removal.specs.Remove.{block_bounds, blocks_used, removed_holds}
use Rattle.removal.proofs.apply_remove.Goals as goal

pub overflow_add-x : goal.overflow_add-x
overflow_add-x c =
    omega (arith, (block_bounds c.args.words.now c.args.bytes.now c.requires.0 c.args.t c.args.q c.requires.1 c.area_at-x.ensures).2)

pub flip_blocks-requires : goal.flip_blocks-requires
flip_blocks-requires c =
    let k = block_bounds c.args.words.now c.args.bytes.now c.requires.0 c.args.t c.args.q c.requires.1 c.area_at-x.ensures in
    (k.0, k.1)

pub returns : goal.returns
returns c =
    let w = c.args.words.now in
    let e = c.area_at-x.ensures in
    let used = blocks_used w c.args.bytes.now c.requires.0 c.args.t c.args.q c.requires.1 e c.placed.result c.put_area.ensures in
    rw (c.flip_blocks.ensures false used, c.put_area.ensures, c.placed.ensures)
    (removed_holds w c.args.bytes.now c.requires.0 c.args.t c.args.q c.requires.1 e)
