-- `is_table` meets its contract: one law for each way that its tests end.
use Rattle.std.proofs.Common.{sym, ◌∙◌, eqb-true}
use Rattle.loading.specs.Load.{other_length, other_digit, by_allocators}
use Rattle.loading.proofs.is_table.Goals as goal
use Rattle.loading.proofs.is_table.Goals.{then-text-eq36, else-text-eq36}

pub returns-then-only_binary : goal.returns-then-only_binary
returns-then-only_binary c = elim c.if-text-eq36.branch [
  | then-text-eq36 w ↦ by_allocators _ w.if-text-eq36.true w.only_binary.ensures (sym w.value-is ∙ c.if-only_binary.true) c.allocators_use.ensures
  | else-text-eq36 w ↦ absurd (w.if-text-eq36.false (eqb-true _ _ (sym w.value-is ∙ c.if-only_binary.true)))
]

pub returns-else-only_binary : goal.returns-else-only_binary
returns-else-only_binary c = elim c.if-text-eq36.branch [
  | then-text-eq36 w ↦ c.if-only_binary.false ∙ other_digit _ w.if-text-eq36.true w.only_binary.ensures (sym w.value-is ∙ c.if-only_binary.false)
  | else-text-eq36 w ↦ c.if-only_binary.false ∙ other_length _ w.if-text-eq36.false
]
