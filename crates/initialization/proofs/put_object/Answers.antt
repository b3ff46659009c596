-- `put_object` meets its contract: each branch writes the store that the test picks.
use mathlib.Core.List.{List}
use Prim.Native.Nat.{ℕ}
use borrow.Author.Tests.{le-leb, lt-leb}
use Rattle.model.specs.Objects.{object_words}
use Rattle.stores.specs.Stores.{stored_permanent, stored_scratch}
use Rattle.initialization.proofs.put_object.Goals as goal

pub write_object-requires : goal.write_object-requires
write_object-requires c = rw (lt-leb 2 c.args.area c.if-area-lt2.true) at c.requires

pub returns-then-area-lt2 : goal.returns-then-area-lt2
returns-then-area-lt2 c =
    let a = c.args in
    rw c.write_object.ensures
    (stored_permanent a.permanent.now a.scratch.now a.area (λ (l : List ℕ). object_words l a.at a.slots a.data_words) c.if-area-lt2.true)

pub write_object-requires-2 : goal.write_object-requires-2
write_object-requires-2 c = rw (le-leb 2 c.args.area c.if-area-lt2.false) at c.requires

pub returns : goal.returns
returns c =
    let a = c.args in
    rw c.write_object-2.ensures
    (stored_scratch a.permanent.now a.scratch.now a.area (λ (l : List ℕ). object_words l a.at a.slots a.data_words) c.if-area-lt2.false)
