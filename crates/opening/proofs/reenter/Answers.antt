-- `reenter` meets its contract: the stack is written, then the area.
use Rattle.tables.specs.Decode.{state_of}
use Rattle.opening.specs.Entered.{count_room, area_kept, value_open, open_holds}
use Rattle.opening.proofs.reenter.Goals as goal

pub reentered-requires : goal.reentered-requires
reentered-requires c =
    let a = c.args in
    count_room (state_of a.words.now a.bytes.now) a.t a.q c.requires.1
    (area_kept a.words.now a.bytes.now a.t a.q c.requires.1 c.requires.2 c.push.ensures a.q c.requires.1.area c.area_at-x.ensures)

pub returns : goal.returns
returns c =
    let a = c.args in record {
      value = value_open a.words.now a.bytes.now a.t a.q c.requires.1 c.requires.2 c.push.ensures _ c.area_at-x.ensures c.requires.3 c.reentered.ensures;
      state = rw c.put_area.ensures
          (open_holds a.words.now a.bytes.now a.t a.q c.requires.1 c.requires.2 c.push.ensures _ c.area_at-x.ensures c.requires.3 c.reentered.ensures);
    }
