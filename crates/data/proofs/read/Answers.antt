-- `read` meets its contract: refused by the caller, by the object or its words, because nobody wrote the word, or accepted.
use mathlib.Core.Path.{◌≡◌, refl, sym, ap, subst, ◌∙◌}
use native.Mathlib.Omega.{arith}
use borrow.Author.Rules.{rules}
use Prim.Native.Nat.{◌/◌, ◌<◌}
use lib.ListN.{length, get_or}
use Rattle.std.specs.Prelude.{Err}
use Rattle.layout.specs.Answer.{number_some}
use Rattle.bitmap.specs.Bitmap.{bit_at}
use Rattle.model.specs.State.{State, Memory, store_of}
use Rattle.model.specs.Calls as calls
use Rattle.model.proofs.Accepted.{Admitted}
use Rattle.tables.specs.Decode.{state_of}
use Rattle.tables.proofs.AnsweredLaws.{answered_refused, answered_accepted}
use Rattle.callers.specs.Caller.{caller_refused, caller_admitted, admit_rest}
use Rattle.objects.specs.declared.index.Part.TheVariants.{Data}
use Rattle.objects.specs.Fits.{fits_stores}
use Rattle.objects.proofs.Effects.{word_in, word_read}
use Rattle.data.specs.Written.{read_no_word, written_in, read_unwritten, read_written}
use Rattle.data.proofs.read.Goals as goal
use Rattle.data.proofs.read.Goals.{After-bit-mark, In_ok-check_caller}

abbrev state : In_ok-check_caller → State
state c = state_of c.args.words.now c.args.bytes.now

called : (c : In_ok-check_caller) → Admitted (state c) c.args.buffers.now c.args.t
called c = caller_admitted _ _ _ c.in_ok-check_caller.ensures refl

pub returns-in_err-check_caller : goal.returns-in_err-check_caller
returns-in_err-check_caller c =
    let e = c.in_err-check_caller.field-0.0 in
    let q : c.from_residual.result ≡ Err e = search rules in
    rw q (answered_refused _ _ _ (calls.read _ _ _) c.requires (caller_refused _ _ _ c.in_err-check_caller.ensures (number_some e) _) (number_some e))

pub check_index-requires : goal.check_index-requires
check_index-requires c = (c.requires, fits_stores _ _ (called c).supplied, (called c).called)

pub returns-in_err-w : goal.returns-in_err-w
returns-in_err-w c =
    let a = called (goal.at.returns-in_err-w c).In_ok-check_caller in
    let e = c.in_err-w.field-0.0 in
    let q : c.from_residual-in_err-w.result ≡ Err e = search rules in
    rw q (answered_refused _ _ _ (calls.read _ _ _) c.requires (read_no_word _ _ _ _ _ c.in_err-w.ensures (number_some e) ∙ sym (admit_rest _ _ _ a _)) (number_some e))

-- its bit is read
pub bit-mark-requires : goal.bit-mark-requires
bit-mark-requires c =
    let a = called (goal.at.bit-mark-requires c).In_ok-check_caller in
    subst (λ (m : Memory). c.in_ok-w.w.bit / 64 < length m.written) (sym c.buffers.view_is)
    (written_in _ _ _ _ _ _ c.in_ok-w.ensures.0 c.in_ok-w.ensures.1 c.requires.good a.supplied)

mark : (c : After-bit-mark) → c.bit-mark.result ≡ bit_at c.args.buffers.now.written c.in_ok-w.w.bit
mark c = c.bit-mark.ensures ∙ ap (λ (m : Memory). bit_at m.written c.in_ok-w.w.bit) c.buffers.view_is

pub returns-then-mark-eq0 : goal.returns-then-mark-eq0
returns-then-mark-eq0 c =
    let a = called (goal.at.returns-then-mark-eq0 c).In_ok-check_caller in
    answered_refused _ _ _ (calls.read _ _ _) c.requires
    (read_unwritten _ _ _ _ _ _ c.in_ok-w.ensures.0 c.in_ok-w.ensures.1 (sym (mark (goal.at.returns-then-mark-eq0 c).After-bit-mark) ∙ c.if-mark-eq0.true) ∙ sym (admit_rest _ _ _ a _)) (λ z. omega arith)

pub word_at-word-requires : goal.word_at-word-requires
word_at-word-requires c =
    let a = called (goal.at.word_at-word-requires c).In_ok-check_caller in
    subst (λ (m : Memory). c.in_ok-w.w.at < length (store_of m c.in_ok-w.w.area)) (sym c.buffers.view_is)
    (word_in Data _ _ _ _ _ c.in_ok-w.ensures.0 c.requires.good (fits_stores _ _ a.supplied) _ c.in_ok-w.ensures.1)

pub returns : goal.returns
returns c =
    let a = called (goal.at.returns c).In_ok-check_caller in
    answered_accepted _ _ _ (calls.read _ _ _) c.requires
    (read_written _ _ _ _ _ _ c.in_ok-w.ensures.0 c.in_ok-w.ensures.1 (λ z. c.if-mark-eq0.false (mark (goal.at.returns c).After-bit-mark ∙ z)) ∙ sym (admit_rest _ _ _ a _)) refl refl
    (c.word_at-word.ensures ∙ ap (λ (m : Memory). get_or (store_of m c.in_ok-w.w.area) c.in_ok-w.w.at 0) c.buffers.view_is ∙ word_read Data _ _ _ _ _ c.in_ok-w.ensures.0)
    (record { sized = c.requires.sized; state = refl }) refl
