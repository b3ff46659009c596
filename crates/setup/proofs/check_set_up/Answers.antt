-- `check_set_up` meets its contract: one law for each way that its checks end.
use native.Mathlib.Omega.{arith}
use Rattle.setup.specs.First.{not_whole, long_permanent, long_scratch, other_map, other_written, prepared}
use borrow.Author.Rules.{rules}
use Rattle.setup.proofs.check_set_up.Goals as goal

pub returns-then-n-h : goal.returns-then-n-h
returns-then-n-h c = not_whole _ _ _ _ (λ z. omega arith)

pub returns-then-n-h-2 : goal.returns-then-n-h-2
returns-then-n-h-2 c =
    let a = c.args in
    not_whole a.h a.i a.n a.k (λ z. c.if-n-h-2.true (omega arith))

pub returns-then-n-gt16384 : goal.returns-then-n-gt16384
returns-then-n-gt16384 c = long_permanent _ _ _ _ (omega arith) (search rules)

pub returns-then-n-gt16384-2 : goal.returns-then-n-gt16384-2
returns-then-n-gt16384-2 c = long_scratch _ _ _ _ (omega arith) (search rules) (search rules)

pub returns-then-n : goal.returns-then-n
returns-then-n c = other_map _ _ _ _ (omega arith) (search rules) (search rules) (search rules)

pub returns-then-k-n : goal.returns-then-k-n
returns-then-k-n c = other_written _ _ _ _ (omega arith) (search rules) (search rules) (search rules) (search rules)

pub returns : goal.returns
returns c = prepared _ _ _ _ (omega arith) (search rules) (search rules) (search rules) (search rules)
