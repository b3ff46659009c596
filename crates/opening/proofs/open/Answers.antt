-- `open` meets its contract: the stack is written, then the area, then the display.
use Prim.Native.Nat.{◌<◌}
use Rattle.tables.specs.Decode.{state_of}
use Rattle.opening.specs.Entered.{parent_room, depth_room, generation_room, area_kept, value_fresh, fresh_holds}
use Rattle.opening.proofs.open.Goals as goal
use Rattle.opening.proofs.open.Goals.{After-area_at, Start}

parent : (o : Start) → o.args.p < 64
parent o = let a = o.args in parent_room (state_of a.words.now a.bytes.now) a.t a.q o.requires.scope.1 a.p o.requires.parent

-- the parent is read
depth : (u : After-area_at) → u.area_at.result.depth < 32
depth u =
    let k = u.requires.scope in
    let a = u.args in
    depth_room (state_of a.words.now a.bytes.now) a.t a.q k.1 a.p u.requires.parent
    (area_kept a.words.now a.bytes.now a.t a.q k.1 k.2 u.push.ensures a.p (parent (goal.at.After-area_at u).Start) u.area_at.ensures)

pub opened_area-y-requires : goal.opened_area-y-requires
opened_area-y-requires c =
    let k = c.requires.scope in
    let a = c.args in (
      generation_room (state_of a.words.now a.bytes.now) a.t a.q k.1
          (area_kept a.words.now a.bytes.now a.t a.q k.1 k.2 c.push.ensures a.q k.1.area c.area_at-2.ensures) k.2 k.3,
      depth (goal.at.opened_area-y-requires c).After-area_at,
    )

pub put_display-requires : goal.put_display-requires
put_display-requires c =
    (c.requires.scope.1.area, parent (goal.at.put_display-requires c).Start, depth (goal.at.put_display-requires c).After-area_at)

pub returns : goal.returns
returns c =
    let k = c.requires.scope in
    let a = c.args in record {
      value = value_fresh a.words.now a.bytes.now a.t a.q k.1 k.2 c.push.ensures _ c.area_at-2.ensures a.p c.requires.parent k.3 c.area_at.ensures c.opened_area-y.ensures;
      state = rw c.put_area.ensures
          (fresh_holds a.words.now a.bytes.now a.t a.q k.1 k.2 c.push.ensures _ c.area_at-2.ensures a.p c.requires.parent k.3 c.area_at.ensures c.opened_area-y.ensures
          c.put_display.ensures);
    }
