-- `zero_words` meets its contract: two runs of half the words or more, one at each end, are one run.
use mathlib.Core.Path.{◌≡◌, refl, ◌∙◌}
use Prim.Native.Nat.{◌+◌}
use native.Mathlib.Omega.{arith}
use Rattle.model.specs.Objects.{filled}
use Rattle.initialization.specs.Filled.{filled_both_ends}
use Rattle.initialization.proofs.zeros.zero_words.Goals as goal

pub returns-then-n-ge4 : goal.returns-then-n-ge4
returns-then-n-ge4 c =
    let a = c.args in
    c.zero_run-then-n-ge4-2.ensures ∙ rw c.zero_run-then-n-ge4.ensures (filled_both_ends a.store.now a.from 0 a.n 4 (omega arith) (omega arith))

pub returns-then-n-ge2 : goal.returns-then-n-ge2
returns-then-n-ge2 c =
    let a = c.args in
    c.zero_run-then-n-ge2-2.ensures ∙ rw c.zero_run-then-n-ge2.ensures (filled_both_ends a.store.now a.from 0 a.n 2 (omega arith) (omega arith))

pub returns : goal.returns
unfolding filled
returns c =
    let a = c.args in
    let z : a.n ≡ 1 = omega arith in
    let e : a.from + 0 ≡ a.from = omega arith in
    rw (z, e) refl
