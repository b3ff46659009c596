-- `callers::right::has_right` meets its contract. Assumes nothing.
use Rattle.std.proofs.Common.{sym}
use Rattle.callers.specs.Rights.{kind_within, by_kind}
use Rattle.callers.proofs.right.has_right.Goals as goal

pub thread_at-kind-requires : goal.thread_at-kind-requires
thread_at-kind-requires c = c.requires.1.thread

pub of-requires : goal.of-requires
of-requires c =
    kind_within c.args.words.now c.args.bytes.now c.requires.0 c.args.t c.requires.1 c.thread_at-kind.ensures

pub returns : goal.returns
returns c =
    let a = c.args in
    by_kind a.words.now a.bytes.now c.requires.0 a.t c.requires.1 c.thread_at-kind.ensures a.area a.right (rw (sym c.of.ensures) c.kind_may.ensures)
