-- `word_at` meets its contract: each branch reads the store that the test picks.
use borrow.Author.Rules.{rules}
use borrow.Author.Tests.{le-leb, lt-leb}
use Prim.Native.Nat.{◌<◌}
use lib.ListN.{length}
use Rattle.stores.proofs.word_at.Goals as goal
use Rattle.stores.proofs.word_at.Goals.{Else-area-ge2, Then-area-ge2}

in_scratch : (c : Then-area-ge2) → c.args.at < length c.args.scratch.now
in_scratch c = rw (le-leb 2 c.args.area c.if-area-ge2.true) at c.requires

in_permanent : (c : Else-area-ge2) → c.args.at < length c.args.permanent.now
in_permanent c = rw (lt-leb 2 c.args.area c.if-area-ge2.false) at c.requires

pub offset_bounds-scratch-at : goal.offset_bounds-scratch-at
offset_bounds-scratch-at c = let h = in_scratch c in search rules

pub bounds-scratch-at : goal.bounds-scratch-at
bounds-scratch-at c = in_scratch (goal.at.bounds-scratch-at c).Then-area-ge2

pub returns-then-area-ge2 : goal.returns-then-area-ge2
returns-then-area-ge2 c = rw (le-leb 2 c.args.area c.if-area-ge2.true)

pub offset_bounds-permanent-at : goal.offset_bounds-permanent-at
offset_bounds-permanent-at c = let h = in_permanent c in search rules

pub bounds-permanent-at : goal.bounds-permanent-at
bounds-permanent-at c = in_permanent (goal.at.bounds-permanent-at c).Else-area-ge2

pub returns : goal.returns
returns c = rw (lt-leb 2 c.args.area c.if-area-ge2.false)
