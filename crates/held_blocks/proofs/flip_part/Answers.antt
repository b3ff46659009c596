-- `flip_part` meets its contract: the part that is lent on has the used bits.
use mathlib.Core.Path.{◌∙◌}
use Rattle.layout.specs.Choice.{pick}
use Rattle.bitmap.specs.Bitmap.{cleared, marked}
use Rattle.tables.specs.Decode.{used_bits_of}
use Rattle.held_blocks.specs.Part.{part_read, part_put, length_bits, length_changed}
use Rattle.held_blocks.proofs.flip_part.Goals as goal

pub returns : goal.returns
returns c on b =
    let a = c.args in
    let e = a.all.now in
    let k = c.requires.2 in
    let u = used_bits_of e in
    rw (rw (part_read e k) at (c.flip_bits.ensures on (rw (part_read e k) b)))
    (part_put e k (pick on (marked u a.k a.n) (cleared u a.k a.n)) (length_changed on u a.k a.n ∙ length_bits e))
