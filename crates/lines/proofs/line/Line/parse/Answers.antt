-- `parse` meets its contract: one law for each way that its tests end.
use Rattle.std.proofs.Common.{◌≡◌, true, false, Some, None, sym, ap, ◌∙◌}
use Rattle.model.specs.Ops.{op_of}
use Rattle.lines.specs.Frames.{fields_of, unused_zero, framed}
use Rattle.lines.proofs.FrameLaws.{other_length, no_digits, digits}
use Rattle.lines.proofs.line.Line.parse.Goals.{then-self-ne40-via-then-self-ne40, then-self-ne40-via-else-self-ne40+then-not-all_digits}
use Rattle.lines.proofs.line.Line.parse.Goals as goal

pub returns-then-self-ne40 : goal.returns-then-self-ne40
returns-then-self-ne40 c = λ l h.
    elim c.then-self-ne40.branch [
      | then-self-ne40-via-then-self-ne40 w ↦ other_length h w.if-self-ne40.true
      | then-self-ne40-via-else-self-ne40+then-not-all_digits w ↦ no_digits h w.if-self-ne40.false (cc)
    ]

pub returns-in_err-form : goal.returns-in_err-form
unfolding framed
returns-in_err-form c = λ l h. cc (digits h c.if-self-ne40.false (cc) None (sym c.in_err-form.was ∙ c.op_of.ensures ∙ ap op_of c.field.ensures))

pub returns-then-unused_zero : goal.returns-then-unused_zero
unfolding framed
returns-then-unused_zero c = λ l h.
    let f = c.in_ok-form.form in
    let u : unused_zero (fields_of f.op c.args.self.now.text) f.p f.q f.r ≡ true = cc in
    rw (c.read_fields-fields.ensures) (rw u at (digits h c.if-self-ne40.false (cc) (Some f) (sym c.in_ok-form.was ∙ c.op_of.ensures ∙ ap op_of c.field.ensures)))

pub returns-else-unused_zero : goal.returns-else-unused_zero
unfolding framed
returns-else-unused_zero c = λ l h.
    let f = c.in_ok-form.form in
    let u : unused_zero (fields_of f.op c.args.self.now.text) f.p f.q f.r ≡ false = cc in
    rw u at (digits h c.if-self-ne40.false (cc) (Some f) (sym c.in_ok-form.was ∙ c.op_of.ensures ∙ ap op_of c.field.ensures))
