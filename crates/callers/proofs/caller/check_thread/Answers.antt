-- `callers::caller::check_thread` meets its contract. Assumes nothing.
use mathlib.Core.Path.{sym, ◌∙◌}
use borrow.Author.Rules.{rules}
use Rattle.tables.proofs.Laws.{kind_read}
use Rattle.tables.specs.Decode.{state_of}
use Rattle.callers.specs.Caller.{no_thread_lem, not_started, started}
use Rattle.callers.proofs.caller.check_thread.Goals as goal

pub returns-then-t-ge16 : goal.returns-then-t-ge16
returns-then-t-ge16 c = no_thread_lem _ _ 0 (search rules)

pub returns-then-thread_at-eq0 : goal.returns-then-thread_at-eq0
returns-then-thread_at-eq0 c =
    let a = c.args in
    let k = kind_read a.words.now a.bytes.now a.t (search rules) c.thread_at.ensures in
    not_started (state_of a.words.now a.bytes.now) a.t 0 (search rules) (k ∙ c.if-thread_at-eq0.true)

pub returns : goal.returns
returns c =
    let a = c.args in
    let k = kind_read a.words.now a.bytes.now a.t (search rules) c.thread_at.ensures in
    started (state_of a.words.now a.bytes.now) a.t 0 (search rules) (λ z. c.if-thread_at-eq0.false (sym k ∙ z))
