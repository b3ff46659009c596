-- `check_there` meets its contract: one law for each way that it ends.
use borrow.Author.Tests.{not-true, not-false}
use Rattle.entry.specs.Enter.{not_made, no_right, full, place_left}
use mathlib.Core.Bool.{not}
use mathlib.Core.Path.{ap}
use Rattle.entry.proofs.check_there.Goals as goal

pub returns-then-not-is_made : goal.returns-then-not-is_made
returns-then-not-is_made c =
    let a = c.args in
    not_made a.words.now a.bytes.now a.t a.q c.requires.2 c.area_at-x.ensures c.is_made.ensures (not-true _ (ap not c.if-not-is_made.true))

pub returns-then-not-has_right : goal.returns-then-not-has_right
returns-then-not-has_right c =
    let a = c.args in
    no_right a.words.now a.bytes.now a.t a.q c.requires.2 c.area_at-x.ensures c.is_made.ensures (not-false _ (ap not c.if-not-is_made.false))
    c.has_right.ensures (not-true _ (ap not c.if-not-has_right.true))

pub returns-then-thread_at-ge32 : goal.returns-then-thread_at-ge32
returns-then-thread_at-ge32 c =
    let a = c.args in
    full a.words.now a.bytes.now a.t a.q c.requires.2 c.area_at-x.ensures c.is_made.ensures (not-false _ (ap not c.if-not-is_made.false))
    c.has_right.ensures (not-false _ (ap not c.if-not-has_right.false)) c.requires.1.thread c.thread_at.ensures c.if-thread_at-ge32.true

pub returns : goal.returns
returns c =
    let a = c.args in
    place_left a.words.now a.bytes.now a.t a.q c.requires.2 c.area_at-x.ensures c.is_made.ensures (not-false _ (ap not c.if-not-is_made.false))
    c.has_right.ensures (not-false _ (ap not c.if-not-has_right.false)) c.requires.1.thread c.thread_at.ensures c.if-thread_at-ge32.false
