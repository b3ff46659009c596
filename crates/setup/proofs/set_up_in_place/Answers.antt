-- `set_up_in_place` meets its contract: what the tables hold satisfies the invariant, accepted or not.
use mathlib.Core.Path.{sym, subst}
use Rattle.model.specs.Invariant.{Good}
use Rattle.model.specs.State.{Memory}
use Rattle.model.proofs.Keeps.{good_set_up}
use Rattle.layout.specs.Answer.{status_of}
use Rattle.setup.specs.First.{Begun}
use Rattle.setup.proofs.set_up_in_place.Goals as goal

pub returns : goal.returns
returns c =
    let h = rw (← c.put_first_bytes.ensures) at c.put_set_up_words.ensures in
    subst (λ (m : Memory). Begun (status_of c.check_set_up-checked.result) c.put_set_up_words.new.words c.put_first_bytes.new.bytes c.args.h c.args.i m) c.buffers.view_is
    (record {
      status_is = c.check_set_up-checked.ensures;
      holds = h;
      ready = record { sized = h.sized; good = subst Good (sym h.state) (good_set_up _ _ _ _) };
    })
