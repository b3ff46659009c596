-- `apply_enter` meets its contract: a scope that is open, or one that opens.
use mathlib.Core.Path.{◌≡◌, sym, ◌∙◌, subst}
use Prim.Native.Nat.{◌<◌, ◌≤◌}
use Rattle.model.specs.declared.Area.{Area}
use Rattle.model.specs.State.{area_at}
use Rattle.tables.specs.Decode.{state_of}
use Rattle.tables.proofs.Laws.{area_read}
use Rattle.opening.proofs.apply_enter.Goals as goal
use Rattle.opening.proofs.apply_enter.Goals.{After-area_at}

-- the area is read
read : (x : After-area_at) → x.area_at.result ≡ area_at (state_of x.args.words.now x.args.bytes.now) x.args.q
read x =
    let a = x.args in
    x.area_at.ensures ∙ sym (area_read a.words.now a.bytes.now a.q x.requires.scope.1.area)

pub reenter-requires : goal.reenter-requires
reenter-requires c =
    (c.requires.scope.0, c.requires.scope.1, c.requires.scope.2, subst (λ (y : Area). 0 < y.count) (read (goal.at.reenter-requires c).After-area_at) c.if-area_at-gt0.true)

pub open-requires : goal.open-requires
open-requires c =
    record { scope = (c.requires.scope.0, c.requires.scope.1, c.requires.scope.2, subst (λ (y : Area). y.count ≤ 0) (read (goal.at.open-requires c).After-area_at) c.if-area_at-gt0.false); parent = c.requires.parent }
