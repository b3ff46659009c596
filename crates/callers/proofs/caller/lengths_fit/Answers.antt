-- `callers::caller::lengths_fit` meets its contract. Assumes nothing.
use Rattle.std.proofs.Common.{◌∙◌, ap}
use Rattle.model.specs.State.{Memory}
use Rattle.model.specs.Checks.{fits}
use Rattle.tables.specs.Decode.{state_of}
use Rattle.callers.specs.Caller.{other_permanent, other_scratch, other_map, by_written}
use Rattle.callers.proofs.caller.lengths_fit.Goals as goal

pub returns-then-buffers-lengths_at : goal.returns-then-buffers-lengths_at
returns-then-buffers-lengths_at c =
    let a = c.args in
    other_permanent a.words.now a.bytes.now _ _ c.lengths_at.ensures c.if-buffers-lengths_at.true
    ∙ ap (λ (m : Memory). fits (state_of a.words.now a.bytes.now) m) c.buffers.view_is

pub returns-then-buffers-lengths_at-2 : goal.returns-then-buffers-lengths_at-2
returns-then-buffers-lengths_at-2 c =
    let a = c.args in
    other_scratch a.words.now a.bytes.now _ _ c.lengths_at.ensures
    c.if-buffers-lengths_at.false _ c.lengths_at-2.ensures c.if-buffers-lengths_at-2.true
    ∙ ap (λ (m : Memory). fits (state_of a.words.now a.bytes.now) m) c.buffers.view_is

pub returns-then-buffers-lengths_at-3 : goal.returns-then-buffers-lengths_at-3
returns-then-buffers-lengths_at-3 c =
    let a = c.args in
    other_map a.words.now a.bytes.now _ _ c.lengths_at.ensures
    c.if-buffers-lengths_at.false _ c.lengths_at-2.ensures
    c.if-buffers-lengths_at-2.false _ c.lengths_at-3.ensures c.if-buffers-lengths_at-3.true
    ∙ ap (λ (m : Memory). fits (state_of a.words.now a.bytes.now) m) c.buffers.view_is

pub returns : goal.returns
returns c =
    let a = c.args in
    by_written a.words.now a.bytes.now _ _ c.lengths_at.ensures
    c.if-buffers-lengths_at.false _ c.lengths_at-2.ensures
    c.if-buffers-lengths_at-2.false _ c.lengths_at-3.ensures
    c.if-buffers-lengths_at-3.false _ c.lengths_at-4.ensures
    ∙ ap (λ (m : Memory). fits (state_of a.words.now a.bytes.now) m) c.buffers.view_is
