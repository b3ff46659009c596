-- `put_set_up_words` meets its contract: the words hold the first state of an accepted set-up, or of one with all lengths 0.
use Rattle.std.proofs.Common.{sym, ap, ◌∙◌}
use Rattle.layout.specs.Answer.{status_of, number_some}
use Rattle.setup.specs.First.{accepted_holds, refused_holds}
use Rattle.setup.proofs.put_set_up_words.Goals as goal

pub returns-in-Ok : goal.returns-in-Ok
returns-in-Ok c = rw c.put_first_words.ensures (accepted_holds _ _ _ _ (sym c.requires ∙ ap status_of c.in-Ok.is))

pub returns-in-Err : goal.returns-in-Err
returns-in-Err c =
    rw c.put_first_words-in-Err.ensures
    (refused_holds _ _ _ _ (λ z. number_some _ (sym (ap status_of c.in-Err.is) ∙ c.requires ∙ z)))
