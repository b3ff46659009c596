-- `raise_count` meets its contract: heap and immortal memory have no count, a scope's is written one higher.
use mathlib.Core.Path.{sym, ◌∙◌, subst}
use Prim.Native.Nat.{◌<◌}
use borrow.Author.Rules.{rules}
use Rattle.model.specs.declared.Area.{Area}
use Rattle.tables.proofs.Laws.{area_read}
use Rattle.helpers.specs.Helper.{standing_kept, scope_raised}
use Rattle.helpers.proofs.raise_count.Goals as goal

pub returns-then-area-lt2 : goal.returns-then-area-lt2
returns-then-area-lt2 c = standing_kept _ _ c.requires.0 _ (search rules)

pub reentered-requires : goal.reentered-requires
reentered-requires c =
    let a = c.args in
    subst (λ (x : Area). x.count < 1024) (area_read a.words.now a.bytes.now a.area c.requires.1 ∙ sym c.area_at-x.ensures) c.requires.2

pub returns : goal.returns
returns c =
    let a = c.args in
    rw c.put_area.ensures
    (scope_raised a.words.now a.bytes.now c.requires.0 a.area (search rules) c.requires.1 c.area_at-x.ensures c.reentered.ensures)
