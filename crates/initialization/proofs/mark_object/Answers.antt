-- `mark_object` meets its contract: the object's bits are cleared, then the header's is set.
use mathlib.Core.Path.{◌∙◌}
use Rattle.stores.specs.Stores.{object_marked}
use Rattle.initialization.proofs.mark_object.Goals as goal

pub returns : goal.returns
returns c =
    let a = c.args in
    (c.set_bit.ensures ∙ rw c.clear_bits-iterations.ensures.0 (object_marked a.map.now a.bit a.n c.requires.0), c.clear_bits-iterations.ensures.1)
