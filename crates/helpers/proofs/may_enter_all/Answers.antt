-- `may_enter_all` meets its contract. The invariant: the kind may enter the area of each entry so far.
use mathlib.Core.Path.{sym, ap, ◌∙◌}
use Prim.Native.Nat.{◌≤◌}
use native.Mathlib.Omega.{arith}
use borrow.Author.Rules.{rules}
use Rattle.model.specs.Helpers.{may_enter_all}
use Rattle.tables.specs.Decode.{rights_of, state_of}
use Rattle.callers.specs.Stack.{length_bound}
use Rattle.helpers.specs.Helper.{whole, enters_every, enters_none, enters_more, enters_not}
use Rattle.helpers.proofs.may_enter_all.Goals as goal
use Rattle.helpers.proofs.may_enter_all.Goals.{After-thread_at-len}

pub returns-then-may_enter_every : goal.returns-then-may_enter_every
unfolding state_of
returns-then-may_enter_every c =
    let a = c.args in
    sym (enters_every (rights_of a.bytes.now) a.kind (sym c.may_enter_every.ensures ∙ c.if-may_enter_every.true) _)

room : (c : After-thread_at-len) → c.thread_at-len.result.len ≤ 32
room c =
    let a = c.args in
    length_bound a.words.now a.bytes.now c.requires.0 a.t c.requires.1 _ c.thread_at-len.ensures

pub loop-i-init : goal.loop-i-init
loop-i-init c =
    let a = c.args in
    enters_none a.words.now a.bytes.now c.requires.0 a.t c.requires.1 a.kind

pub entry_at-area-requires : goal.entry_at-area-requires
entry_at-area-requires c = (c.requires.1, omega (arith, room (goal.at.entry_at-area-requires c).After-thread_at-len))

pub returns-then-not-kind_may : goal.returns-then-not-kind_may
returns-then-not-kind_may c =
    let l = c.loop-i in
    let a = c.args in
    enters_not a.words.now a.bytes.now c.requires.0 a.t c.requires.1 a.kind l.i (omega (arith, room (goal.at.returns-then-not-kind_may c).After-thread_at-len)) c.entry_at-area.ensures
    c.kind_may.ensures c.if-not-kind_may.true c.thread_at-len.ensures (search rules)

pub loop-i-preserved : goal.loop-i-preserved
loop-i-preserved c =
    let l = c.loop-i in
    let a = c.args in
    enters_more a.words.now a.bytes.now c.requires.0 a.t c.requires.1 a.kind l.i (omega (arith, room (goal.at.loop-i-preserved c).After-thread_at-len)) c.entry_at-area.ensures
    c.kind_may.ensures c.if-not-kind_may.false l.invariant

pub returns : goal.returns
returns c =
    let l = c.loop-i in
    let a = c.args in
    l.invariant ∙ ap (may_enter_all (state_of a.words.now a.bytes.now).rights a.kind)
    (whole a.words.now a.bytes.now a.t c.requires.1 c.thread_at-len.ensures l.i (omega arith))

pub thread_at-len-requires : goal.thread_at-len-requires
thread_at-len-requires c = c.requires.1
