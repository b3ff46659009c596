-- `store` meets its contract: a refused call leaves all as it was, an accepted one writes one word.
use mathlib.Core.Path.{◌≡◌, refl, sym, ◌∙◌}
use borrow.Author.Rules.{rules}
use Rattle.std.specs.Prelude.{Err}
use Rattle.layout.specs.Answer.{number_some}
use Rattle.model.specs.State.{State, Memory}
use Rattle.model.specs.Calls as calls
use Rattle.model.proofs.Accepted.{Admitted}
use Rattle.tables.specs.Decode.{state_of}
use Rattle.tables.specs.Contract.{memory_of}
use Rattle.tables.proofs.AnsweredLaws.{answered_refused, answered_accepted}
use Rattle.callers.specs.Caller.{caller_refused, caller_admitted, admit_rest}
use Rattle.objects.specs.declared.index.Part.TheVariants.{Slots}
use Rattle.objects.specs.Fits.{fits_stores}
use Rattle.objects.proofs.Effects.{word_in, word_written}
use Rattle.references.specs.Statuses.{store_slot}
use Rattle.references.proofs.store.Goals as goal
use Rattle.references.proofs.store.Goals.{In_ok-check_caller}

abbrev state : In_ok-check_caller → State
state c = state_of c.args.words.now c.args.bytes.now

abbrev memory : In_ok-check_caller → Memory
memory c = memory_of c.args.permanent.now c.args.scratch.now c.args.map.now c.args.written.now

called : (c : In_ok-check_caller) → Admitted (state c) (memory c) c.args.t
called c = caller_admitted _ _ _ c.in_ok-check_caller.ensures refl

pub returns-in_err-check_caller : goal.returns-in_err-check_caller
returns-in_err-check_caller c =
    let e = c.in_err-check_caller.field-0.0 in
    let q : c.from_residual.result ≡ Err e = search rules in
    rw q (answered_refused _ _ _ (calls.store _ _ _ _) c.requires (caller_refused _ _ _ c.in_err-check_caller.ensures (number_some e) _) (number_some e))

pub check_store-requires : goal.check_store-requires
check_store-requires c =
    let a = called (goal.at.check_store-requires c).In_ok-check_caller in
    (c.requires, fits_stores _ _ a.supplied, a.called)

pub returns-in_err-w : goal.returns-in_err-w
returns-in_err-w c =
    let d = (goal.at.returns-in_err-w c).In_ok-check_caller in
    let e = c.in_err-w.field-0.0 in
    let q : c.from_residual-in_err-w.result ≡ Err e = search rules in
    rw q (answered_refused _ _ (memory d) (calls.store _ _ _ _) c.requires (c.in_err-w.ensures ∙ sym (admit_rest _ _ _ (called d) _)) (number_some e))

pub put_word-requires : goal.put_word-requires
put_word-requires c =
    let d = (goal.at.put_word-requires c).In_ok-check_caller in
    word_in Slots (state d) (memory d) _ _ _ c.in_ok-w.ensures.0 c.requires.good (fits_stores _ _ (called d).supplied) _ (store_slot _ _ _ _ _ _ c.in_ok-w.ensures.1)

pub returns : goal.returns
returns c =
    let d = (goal.at.returns c).In_ok-check_caller in
    answered_accepted _ _ (memory d) (calls.store _ _ _ _) c.requires (sym (admit_rest _ _ _ (called d) _ ∙ c.in_ok-w.ensures.1)) refl refl refl (record { sized = c.requires.sized; state = refl })
    (word_written Slots (state d) (memory d) _ _ _ c.in_ok-w.ensures.0 _ c.put_word.ensures)
