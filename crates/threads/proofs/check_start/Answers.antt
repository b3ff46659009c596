-- `threads::check_start` meets its contract. Assumes nothing.
use mathlib.Core.Path.{sym, ◌∙◌}
use borrow.Author.Rules.{rules}
use Rattle.tables.proofs.Laws.{kind_read}
use Rattle.tables.specs.Decode.{state_of}
use Rattle.threads.specs.Thread.{start_no_thread, start_started, start_by_kind}
use Rattle.threads.proofs.check_start.Goals as goal

pub returns-then-t-ge16 : goal.returns-then-t-ge16
returns-then-t-ge16 c = start_no_thread _ _ _ (search rules)

pub returns-then-own-ne0 : goal.returns-then-own-ne0
returns-then-own-ne0 c =
    let a = c.args in
    let k = kind_read a.words.now a.bytes.now a.t (search rules) c.thread_at-own.ensures in
    start_started (state_of a.words.now a.bytes.now) a.t a.kind (search rules) (λ z. c.if-own-ne0.true (sym k ∙ z))

pub returns : goal.returns
returns c =
    let a = c.args in
    let k = kind_read a.words.now a.bytes.now a.t (search rules) c.thread_at-own.ensures in
    rw c.ok_or.ensures.value (start_by_kind (state_of a.words.now a.bytes.now) a.t a.kind (search rules) (k ∙ c.if-own-ne0.false) c.new.result c.new.ensures)
