-- `any_started` meets its contract.
use Rattle.std.proofs.Common.{arith}
use Rattle.loading.specs.Load.{started_none, started_more, started_all}
use Rattle.loading.proofs.any_started.Goals as goal

pub loop-t-init : goal.loop-t-init
loop-t-init c = started_none c.args.words.now c.args.bytes.now

pub loop-t-preserved : goal.loop-t-preserved
loop-t-preserved c = started_more c.args.words.now c.args.bytes.now c.loop-t.t (omega arith) c.thread_at.ensures c.loop-t.invariant

pub returns : goal.returns
returns c = started_all c.args.words.now c.args.bytes.now c.loop-t.t (omega arith) c.loop-t.invariant
