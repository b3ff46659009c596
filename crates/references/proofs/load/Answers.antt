-- `load` meets its contract: refused by the caller, by the slot, by the loaded word, or the word.
use mathlib.Core.Path.{◌≡◌, refl, sym, ap, subst, ◌∙◌}
use borrow.Author.Rules.{rules}
use Prim.Native.Nat.{◌<◌}
use lib.ListN.{length, get_or}
use Rattle.std.specs.Prelude.{Err}
use Rattle.layout.specs.Answer.{number_some}
use Rattle.model.specs.State.{Memory, store_of}
use Rattle.model.specs.References.{word_after}
use Rattle.model.specs.Calls as calls
use Rattle.model.proofs.Accepted.{Admitted}
use Rattle.tables.specs.Decode.{state_of}
use Rattle.tables.proofs.AnsweredLaws.{answered_refused, answered_accepted}
use Rattle.callers.specs.Caller.{caller_refused, caller_admitted, admit_rest}
use Rattle.objects.specs.declared.index.Part.TheVariants.{Slots}
use Rattle.objects.specs.Fits.{fits_stores}
use Rattle.objects.proofs.Effects.{word_in, word_read}
use Rattle.references.specs.Statuses.{load_no_slot, load_slot}
use Rattle.references.proofs.load.Goals as goal
use Rattle.references.proofs.load.Goals.{After-word_at-x, In_ok-check_caller}

called : (c : In_ok-check_caller) → Admitted (state_of c.args.words.now c.args.bytes.now) c.args.buffers.now c.args.t
called c = caller_admitted _ _ _ c.in_ok-check_caller.ensures refl

-- the word that the slot has
word : (c : After-word_at-x) → c.word_at-x.result ≡ word_after (state_of c.args.words.now c.args.bytes.now) c.args.buffers.now c.args.p c.args.q
word c =
    c.word_at-x.ensures
    ∙ ap (λ (m : Memory). get_or (store_of m c.in_ok-w.w.area) c.in_ok-w.w.at 0) c.buffers.view_is
    ∙ word_read Slots _ _ _ _ _ c.in_ok-w.ensures.0

pub returns-in_err-check_caller : goal.returns-in_err-check_caller
returns-in_err-check_caller c =
    let e = c.in_err-check_caller.field-0.0 in
    let q : c.from_residual.result ≡ Err e = search rules in
    rw q (answered_refused _ _ _ (calls.load _ _ _) c.requires (caller_refused _ _ _ c.in_err-check_caller.ensures (number_some e) _) (number_some e))

pub check_index-requires : goal.check_index-requires
check_index-requires c = (c.requires, fits_stores _ _ (called c).supplied, (called c).called)

pub returns-in_err-w : goal.returns-in_err-w
returns-in_err-w c =
    let a = called (goal.at.returns-in_err-w c).In_ok-check_caller in
    let e = c.in_err-w.field-0.0 in
    let q : c.from_residual-in_err-w.result ≡ Err e = search rules in
    rw q (answered_refused _ _ _ (calls.load _ _ _) c.requires (load_no_slot _ _ _ _ _ c.in_err-w.ensures (number_some e) ∙ sym (admit_rest _ _ _ a _)) (number_some e))

pub word_at-x-requires : goal.word_at-x-requires
word_at-x-requires c =
    let a = called (goal.at.word_at-x-requires c).In_ok-check_caller in
    subst (λ (m : Memory). c.in_ok-w.w.at < length (store_of m c.in_ok-w.w.area)) (sym c.buffers.view_is)
    (word_in Slots _ _ _ _ _ c.in_ok-w.ensures.0 c.requires.good (fits_stores _ _ a.supplied) _ c.in_ok-w.ensures.1)

pub check_reference-requires : goal.check_reference-requires
check_reference-requires c =
    let a = called (goal.at.check_reference-requires c).In_ok-check_caller in
    (c.requires, fits_stores _ _ a.supplied, a.called)

pub returns-in_err-check_reference : goal.returns-in_err-check_reference
returns-in_err-check_reference c =
    let a = called (goal.at.returns-in_err-check_reference c).In_ok-check_caller in
    let e = c.in_err-check_reference.field-0.0 in
    let q : c.from_residual-in_err-check_reference.result ≡ Err e = search rules in
    rw q (answered_refused _ _ _ (calls.load _ _ _) c.requires
    (load_slot _ _ _ _ _ c.in_ok-w.ensures.1 (word (goal.at.returns-in_err-check_reference c).After-word_at-x) c.in_err-check_reference.ensures ∙ sym (admit_rest _ _ _ a _)) (number_some e))

pub returns : goal.returns
returns c =
    let a = called (goal.at.returns c).In_ok-check_caller in
    let x = word (goal.at.returns c).After-word_at-x in
    answered_accepted _ _ _ (calls.load _ _ _) c.requires
    (load_slot _ _ _ _ _ c.in_ok-w.ensures.1 x c.in_ok-check_reference.ensures ∙ sym (admit_rest _ _ _ a _)) refl refl x
    (record { sized = c.requires.sized; state = refl }) refl
