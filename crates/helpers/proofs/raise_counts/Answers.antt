-- `raise_counts` meets its contract. The invariant: the counts of the entries so far are raised.
use Prim.Native.Nat.{◌≤◌}
use native.Mathlib.Omega.{arith}
use borrow.Author.Rules.{rules}
use Rattle.callers.specs.Stack.{length_bound}
use Rattle.helpers.specs.Helper.{whole, entry_area, raised_none, raised_room, raised_more}
use Rattle.helpers.proofs.raise_counts.Goals as goal
use Rattle.helpers.proofs.raise_counts.Goals.{After-thread_at-len}

pub loop-i-init : goal.loop-i-init
loop-i-init c =
    let a = c.args in
    raised_none a.words.now a.bytes.now c.requires.0 a.t c.requires.1

-- the length is read: it is at most 32
room : (c : After-thread_at-len) → c.thread_at-len.result.len ≤ 32
room c =
    let a = c.args in
    length_bound a.words.now a.bytes.now c.requires.0 a.t c.requires.1 _ c.thread_at-len.ensures

pub entry_at-area-requires : goal.entry_at-area-requires
entry_at-area-requires c = (c.requires.1, omega (arith, room (goal.at.entry_at-area-requires c).After-thread_at-len))

pub raise_count-requires : goal.raise_count-requires
raise_count-requires c =
    let l = c.loop-i in
    let a = c.args in
    let area = entry_area a.words.now a.bytes.now c.requires.0 a.t c.requires.1 c.thread_at-len.ensures l.i (search rules) c.entry_at-area.ensures in
    (l.invariant.sized, area, raised_room a.words.now a.bytes.now c.requires.0 a.t c.requires.1 l.i l.invariant c.thread_at-len.ensures (search rules) _ area)

pub loop-i-preserved : goal.loop-i-preserved
loop-i-preserved c =
    let l = c.loop-i in
    let a = c.args in
    raised_more a.words.now a.bytes.now c.requires.0 a.t c.requires.1 l.i l.invariant (omega (arith, room (goal.at.loop-i-preserved c).After-thread_at-len)) c.entry_at-area.ensures c.raise_count.ensures

pub returns : goal.returns
returns c =
    let l = c.loop-i in
    let a = c.args in
    rw (whole a.words.now a.bytes.now a.t c.requires.1 c.thread_at-len.ensures l.i (omega arith)) at l.invariant

pub thread_at-len-requires : goal.thread_at-len-requires
thread_at-len-requires c = c.requires.1
