-- `find_room` meets its contract: one law for each way that it ends.
use native.Mathlib.Omega.{arith}
use borrow.Author.Rules.{rules}
use Rattle.areas.specs.Make.{scratch_bound, room_empty, room_large, room_told}
use Rattle.areas.proofs.make.find_room.Goals as goal

pub returns-then-r-eq0 : goal.returns-then-r-eq0
returns-then-r-eq0 c =
    room_empty c.args.words.now c.args.bytes.now c.requires c.args.r c.lengths_at-blocks.ensures c.if-r-eq0.true

pub returns-then-blocks-r : goal.returns-then-blocks-r
returns-then-blocks-r c =
    room_large c.args.words.now c.args.bytes.now c.requires c.args.r c.lengths_at-blocks.ensures c.if-blocks-r.true

pub lowest_free-requires : goal.lowest_free-requires
lowest_free-requires c =
    (omega arith, omega arith, omega (arith, scratch_bound c.args.words.now c.args.bytes.now c.requires c.args.r c.lengths_at-blocks.ensures))

pub returns : goal.returns
returns c =
    rw c.ok_or.ensures.value
    (room_told c.args.words.now c.args.bytes.now c.requires c.args.r c.lengths_at-blocks.ensures (search rules) c.lowest_free.result c.lowest_free.ensures)
