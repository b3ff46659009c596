-- `feed` meets its contract: line by line, and the bytes that are left.
use Rattle.std.proofs.Common.{◌+◌, sym, ◌∙◌, arith, take_all, length-drop}
use Rattle.reader.specs.HeldLaws.{feeds_other, fed_to_start, fed_to_room, fed_to_more, fed_to_end, within_rest, no_feed_before, no_feed_left}
use Rattle.reader.proofs.feed.feed.Goals as goal

pub loop-n-init : goal.loop-n-init
loop-n-init c = record { room = c.requires.1; fed = fed_to_start _ _ c.requires.0 }

pub feed_line-requires : goal.feed_line-requires
feed_line-requires c =
    let v = c.loop-n.invariant in
    let p = sym c.line_feed.ensures ∙ c.in-Some.is in
    let h = within_rest c.loop-n.rest.now c.in-Some.n p in
    (v.fed.fed.ready, no_feed_before _ _ p, omega (arith, fed_to_room v.fed (omega (arith, h)), v.fed.fed.long, v.room))

pub loop-n-preserved : goal.loop-n-preserved
loop-n-preserved c =
    let v = c.loop-n.invariant in
    let p = sym c.line_feed.ensures ∙ c.in-Some.is in
    record { room = v.room; fed = fed_to_more _ _ p v.fed c.feed_line.ensures (take_all _ _ (omega (arith, length-drop (c.in-Some.n + 1) c.loop-n.rest.now))) }

pub returns : goal.returns
returns c =
    let v = c.loop-n.invariant in
    fed_to_end v.fed
    (feeds_other _ _ _ _ _ _ (no_feed_left _ (sym c.line_feed.ensures ∙ c.in_default.is)) v.fed.fed.ready c.add_bytes.ensures)
