-- `exit::exit_on` meets its contract. Assumes nothing.
use Rattle.std.proofs.Common.{refl}
use Rattle.model.proofs.KeepsExit.{good_exit}
use Rattle.tables.proofs.AnsweredLaws.{changed_accepted}
use Rattle.exit.specs.Exit.{exit_passed}
use Rattle.exit.proofs.exit_on.Goals as goal

pub apply_exit-requires : goal.apply_exit-requires
apply_exit-requires c =
    let k = exit_passed _ _ c.in_ok-check_exit.ensures refl in
    (c.requires, k.called.thread, k.some)

pub returns : goal.returns
returns c =
    let e = c.in_ok-check_exit.ensures in
    changed_accepted _ _ _ c.requires e refl c.apply_exit.ensures.value c.apply_exit.ensures.state
    (good_exit _ c.args.t c.requires.good (exit_passed _ _ e refl))
