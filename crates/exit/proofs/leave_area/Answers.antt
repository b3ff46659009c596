-- `exit::leave_area` meets its contract. Assumes nothing.
use mathlib.Core.Path.{◌∙◌}
use borrow.Author.Rules.{rules}
use Rattle.exit.specs.Exit.{count_standing, count_scope, left_standing, left_scope, left_open}
use Rattle.exit.proofs.leave_area.Goals as goal

pub leave_scope-requires : goal.leave_scope-requires
leave_scope-requires c =
    let a = c.args in
    (c.requires.1, left_open a.words.now a.bytes.now a.q c.requires.1 c.requires.2 c.if-q-ge2.true)

pub returns-then-q-ge2 : goal.returns-then-q-ge2
returns-then-q-ge2 c =
    let a = c.args in
    let l = c.leave_scope.ensures in record { value = l.value ∙ count_scope a.words.now a.bytes.now c.requires.0 a.q c.requires.1 (search rules); state = rw l.words (left_scope a.words.now a.bytes.now c.requires.0 a.q c.requires.1 (search rules)) }

pub returns : goal.returns
returns c =
    let a = c.args in
    record { value = count_standing a.words.now a.bytes.now c.requires.0 a.q (search rules); state = left_standing a.words.now a.bytes.now c.requires.0 a.q (search rules) }
