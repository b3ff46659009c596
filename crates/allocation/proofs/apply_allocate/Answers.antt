-- `apply_allocate` meets its contract: the object's words and bits lie in the area, which has room for them.
use Prim.Native.Nat.{◌+◌, ◌≤◌}
use native.Mathlib.Omega.{arith}
use Rattle.model.specs.State.{Memory}
use Rattle.tables.specs.Contract.{memory_of}
use Rattle.allocation.specs.Allocation.{words_low, words_in, bit_sum, bits_in, written_in, bits_low, allocated}
use Rattle.allocation.proofs.apply_allocate.Goals as goal
use Rattle.allocation.proofs.apply_allocate.Goals.{After-put_area}

abbrev memory : After-put_area → Memory
memory c = memory_of c.args.permanent.now c.args.scratch.now c.args.map.now c.args.written.now

-- the object ends within the words that a handle can name
fits : (c : After-put_area) → c.args.x.start + c.args.x.used + 1 + c.args.slots + c.args.data_words ≤ 16384
fits c = words_low _ _ (memory c) _ _ _ _ c.requires.0.0 c.requires.0.1 c.requires.1

pub overflow_add-at : goal.overflow_add-at
overflow_add-at c = omega (arith, fits (goal.at.overflow_add-at c).After-put_area)

pub bit_index-bit-requires : goal.bit_index-bit-requires
bit_index-bit-requires c =
    bit_sum _ _ (memory (goal.at.bit_index-bit-requires c).After-put_area) _ _ _ _ c.requires.0.0 c.requires.0.1 c.requires.1

pub put_object-requires : goal.put_object-requires
put_object-requires c =
    (words_in _ _ (memory (goal.at.put_object-requires c).After-put_area) _ _ _ _ c.requires.0.0 c.requires.0.1 c.requires.1, fits (goal.at.put_object-requires c).After-put_area)

pub mark_object-requires : goal.mark_object-requires
mark_object-requires c = (
  bits_in _ _ (memory (goal.at.mark_object-requires c).After-put_area) _ _ _ _ c.requires.0.0 c.requires.0.1 c.requires.1 _ c.bit_index-bit.ensures,
  bits_low _ _ (memory (goal.at.mark_object-requires c).After-put_area) _ _ _ _ c.requires.0.0 c.requires.0.1 c.requires.1 _ c.bit_index-bit.ensures,
)

pub clear_bits-requires : goal.clear_bits-requires
clear_bits-requires c =
    let e = bits_low _ _ (memory (goal.at.clear_bits-requires c).After-put_area) _ _ _ _ c.requires.0.0 c.requires.0.1 c.requires.1 _ c.bit_index-bit.ensures in
    (written_in _ _ (memory (goal.at.clear_bits-requires c).After-put_area) _ _ _ _ c.requires.0.0 c.requires.0.1 c.requires.1 _ c.bit_index-bit.ensures, omega arith)

pub returns : goal.returns
returns c =
    rw c.put_area.ensures
    (allocated _ _ (memory (goal.at.returns c).After-put_area) _ _ _ _ c.requires.0.0 c.requires.0.1 c.requires.1 _ c.bit_index-bit.ensures
    c.mark_object.ensures.0 c.clear_bits.ensures.0 c.put_object.ensures c.pack.ensures)
