-- `apply_make` meets its contract: the area is written, then the used bits.
use mathlib.Core.Bool.{true}
use native.Mathlib.Omega.{arith}
use Rattle.areas.specs.Make.{room_bounds, room_free, made_holds}
use Rattle.areas.proofs.make.apply_make.Goals as goal

pub flip_blocks-requires : goal.flip_blocks-requires
flip_blocks-requires c =
    let a = c.args in
    let k = room_bounds a.words.now a.bytes.now c.requires.0 a.t a.q a.r c.requires.1 in
    (omega (arith, c.requires.1.some), omega (arith, k.0, c.requires.2))

pub returns : goal.returns
returns c =
    let a = c.args in
    let w = a.words.now in
    let free = room_free w a.bytes.now c.requires.0 a.t a.q a.r c.requires.1 c.placed.result c.put_area.ensures c.requires.2 in
    rw (c.flip_blocks.ensures true free, c.put_area.ensures, c.placed.ensures, c.area_at-x.ensures)
    (made_holds w a.bytes.now c.requires.0 a.t a.q a.r c.requires.1 c.requires.2)
