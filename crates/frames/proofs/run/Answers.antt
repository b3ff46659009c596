-- `run` meets what `answer_all` asks: set-up on buffers of zeros gives the first world, and the buffers are long enough.
use Rattle.std.proofs.Common.{sym}
use native.Mathlib.Omega.{arith}
use Rattle.tables.specs.Contract.{memory_of}
use Rattle.setup.specs.First.{Begun}
use Rattle.reader.specs.HeldLaws.{first_represents}
use Rattle.frames.proofs.run.Goals as goal

pub answer_all-requires : goal.answer_all-requires
answer_all-requires c =
    let i = c.room-input.ensures in
    let o = c.room-output.ensures in
    let m = memory_of c.zeros-permanent.result c.zeros-scratch.result c.zeros-map.result c.zeros-written.result in
    let b = c.set_up-begun.result in
    let d : Begun b.status b.words b.bytes 1024 1024 m = rw (sym c.of-buffers.ensures) c.set_up-begun.ensures in
    record {
      lent = (d.ready, i, omega (arith, i, o));
      first = first_represents _ _ _ _ _ _ _ c.zeros-permanent.ensures c.zeros-scratch.ensures c.zeros-map.ensures c.zeros-written.ensures d;
    }
