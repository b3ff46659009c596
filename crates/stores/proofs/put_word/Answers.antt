-- `put_word` meets its contract: each branch writes the store that the test picks.
use mathlib.Core.List.{List}
use Prim.Native.Nat.{ℕ, ◌<◌}
use borrow.Author.Rules.{rules}
use borrow.Author.Tests.{le-leb, lt-leb}
use lib.ListN.{length, set}
use Rattle.stores.specs.Stores.{stored_permanent, stored_scratch}
use Rattle.stores.proofs.put_word.Goals as goal
use Rattle.stores.proofs.put_word.Goals.{Else-area-ge2, Then-area-ge2}

in_scratch : (c : Then-area-ge2) → c.args.at < length c.args.scratch.now
in_scratch c = rw (le-leb 2 c.args.area c.if-area-ge2.true) at c.requires

in_permanent : (c : Else-area-ge2) → c.args.at < length c.args.permanent.now
in_permanent c = rw (lt-leb 2 c.args.area c.if-area-ge2.false) at c.requires

pub offset_bounds-scratch-at : goal.offset_bounds-scratch-at
offset_bounds-scratch-at c = let h = in_scratch c in search rules

pub bounds-scratch-at : goal.bounds-scratch-at
bounds-scratch-at c = in_scratch c

pub returns-then-area-ge2 : goal.returns-then-area-ge2
returns-then-area-ge2 c =
    let a = c.args in
    stored_scratch a.permanent.now a.scratch.now a.area (λ (l : List ℕ). set l a.at a.word) c.if-area-ge2.true

pub offset_bounds-permanent-at : goal.offset_bounds-permanent-at
offset_bounds-permanent-at c = let h = in_permanent c in search rules

pub bounds-permanent-at : goal.bounds-permanent-at
bounds-permanent-at c = in_permanent c

pub returns : goal.returns
returns c =
    let a = c.args in
    stored_permanent a.permanent.now a.scratch.now a.area (λ (l : List ℕ). set l a.at a.word) c.if-area-ge2.false
