-- `callers::stack::top_entry` meets its contract. Assumes nothing.
use mathlib.Core.Path.{◌∙◌}
use native.Mathlib.Omega.{arith}
use borrow.Author.Rules.{rules}
use Rattle.callers.specs.Stack.{length_bound, no_top, top_is}
use Rattle.callers.proofs.stack.top_entry.Goals as goal

pub returns-then-len-eq0 : goal.returns-then-len-eq0
returns-then-len-eq0 c =
    let a = c.args in
    no_top a.words.now a.bytes.now c.requires.0 a.t c.requires.1 _ c.thread_at-len.ensures (search rules)

pub entry_at-requires : goal.entry_at-requires
entry_at-requires c =
    let a = c.args in
    (search rules, omega (arith, length_bound a.words.now a.bytes.now c.requires.0 a.t c.requires.1 _ c.thread_at-len.ensures))

pub returns : goal.returns
returns c =
    let a = c.args in
    c.entry_at.ensures ∙ top_is a.words.now a.bytes.now c.requires.0 a.t c.requires.1 _ c.thread_at-len.ensures (search rules)
