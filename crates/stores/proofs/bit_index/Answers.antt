-- `bit_index` meets its contract: the bits of its store begin at the first.
use mathlib.Core.Path.{ap}
use native.Mathlib.Omega.{arith}
use Prim.Native.Nat.{ℕ, ◌+◌}
use Rattle.model.specs.State.{is_scope}
use Rattle.stores.specs.Stores.{pick_most}
use Rattle.stores.proofs.bit_index.Goals as goal

pub overflow_add-result : goal.overflow_add-result
overflow_add-result c =
    let a = c.args in
    omega (arith, c.requires, c.first_bit.ensures, pick_most (is_scope a.area) a.permanent)

pub returns : goal.returns
returns c = ap (λ (n : ℕ). n + c.args.at) c.first_bit.ensures
