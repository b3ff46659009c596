-- `write_object` meets its contract: the header is written, then the words after it are 0, if there are any.
use mathlib.Core.Path.{◌≡◌, ◌∙◌}
use Prim.Native.Nat.{◌+◌}
use native.Mathlib.Omega.{arith}
use lib.ListN.{length-set}
use Rattle.model.specs.Objects.{filled}
use Rattle.stores.specs.Stores.{object_written}
use Rattle.initialization.specs.Filled.{filled_behind}
use Rattle.initialization.proofs.write_object.Goals as goal

pub returns-then-n-eq0 : goal.returns-then-n-eq0
unfolding filled
returns-then-n-eq0 c =
    let a = c.args in
    let none : a.slots + a.data_words ≡ 0 = omega arith in
    rw none at (object_written a.store.now a.at a.slots a.data_words (omega arith) (omega arith) c.header.ensures)

pub zero_words-requires : goal.zero_words-requires
zero_words-requires c =
    let a = c.args in
    (omega arith, omega (arith, length-set a.store.now a.at c.header.result))

pub shape_of-store : goal.shape_of-store
shape_of-store c =
    let a = c.args in
    c.zero_words.auto.store ∙ length-set a.store.now a.at _

pub returns : goal.returns
returns c =
    let a = c.args in
    let l = a.store.now in
    c.zero_words.ensures
    ∙ filled_behind l a.at (a.slots + a.data_words) c.header.result 0
    ∙ object_written l a.at a.slots a.data_words (omega arith) (omega arith) c.header.ensures
