-- `may_enter_every` meets its contract: one law for each way that it ends.
use Rattle.std.proofs.Common.{sym, ◌∙◌}
use Rattle.helpers.specs.Helper.{heap_lacks, immortal_lacks, by_scope}
use Rattle.helpers.proofs.may_enter_every.Goals as goal
use Rattle.helpers.proofs.may_enter_every.Goals.{then-kind_may, else-kind_may}

pub returns-then-kind_may-2 : goal.returns-then-kind_may-2
returns-then-kind_may-2 c = elim c.if-kind_may.branch [
  | then-kind_may w ↦
      by_scope _ _ c.kind_may.ensures w.if-kind_may.true w.kind_may-then-kind_may.ensures (sym w.value-is ∙ c.if-kind_may-2.true) c.kind_may-then-kind_may-2.ensures
  | else-kind_may w ↦ cc
]

pub returns-else-kind_may-2 : goal.returns-else-kind_may-2
returns-else-kind_may-2 c = elim c.if-kind_may.branch [
  | then-kind_may w ↦
      c.if-kind_may-2.false
      ∙ immortal_lacks _ _ c.kind_may.ensures w.if-kind_may.true w.kind_may-then-kind_may.ensures (sym w.value-is ∙ c.if-kind_may-2.false)
  | else-kind_may w ↦ c.if-kind_may-2.false ∙ heap_lacks _ _ c.kind_may.ensures w.if-kind_may.false
]
