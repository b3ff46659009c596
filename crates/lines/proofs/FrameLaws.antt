-- Laws of lines that are a frame or are none, one for each way that reading one ends.
-- Assumes nothing.
use Rattle.std.specs.Prelude.{◌≡◌, Bool, true, false, ◌||◌, List, Some, None, Option, ℕ, eqb, min, length, take}
use Rattle.std.proofs.Math.Path.{refl, ap}
use Rattle.std.proofs.Common.{sym, ◌∙◌, arith, take_all}
use borrow.Author.Tests.{eq-eqb, ne_eqb}
use Rattle.model.specs.declared.Form.{Form}
use Rattle.model.specs.Ops.{op_of}
use Rattle.lines.specs.Hexadecimal.{all_digits}
use Rattle.lines.specs.declared.frame.Fields.{Fields}
use Rattle.lines.specs.Frames.{opcode_of, fields_of, unused_zero, framed, parsed_of}
use Rattle.lines.specs.declared.line.Line.{Line}
use Rattle.lines.specs.Lines.{Buffered}

module _ {line : Line} {l : List ℕ} (h : Buffered line l) where
  -- a longer line is no frame whatever it holds, and neither is a shorter one
  pub other_length : (line.len ≡ 40 → ⊥) → None ≡ parsed_of l
  unfolding parsed_of
  other_length n = rw (ne_eqb (length l) 40 (λ e. n (omega (arith, h.count, e)))) refl

  module _ (e : line.len ≡ 40) where
    -- 40 bytes are kept whole
    whole : line.text ≡ l
    whole =
        let m : min line.len 40 ≡ 40 = omega arith in
        sym (take_all 40 line.text (omega (arith, h.sized)))
        ∙ ap (λ (n : ℕ). take n line.text) (sym m) ∙ h.bytes
        ∙ take_all 40 l (omega (arith, h.count))

    pub no_digits : all_digits line.text ≡ false → None ≡ parsed_of l
    unfolding parsed_of
    no_digits d = rw (← whole, eq-eqb (length line.text) 40 h.sized, d) refl

    -- digits are what their op makes of them
    pub digits : all_digits line.text ≡ true → (o : Option Form) → o ≡ op_of (opcode_of line.text) → framed line.text o ≡ parsed_of l
    unfolding parsed_of
    digits d o k = rw (← whole, eq-eqb (length line.text) 40 h.sized, d, k) refl

    module _ (d : all_digits line.text ≡ true) (c : Option Form) (k : c ≡ op_of (opcode_of line.text)) where
      pub no_op : c ≡ None → None ≡ parsed_of l
      unfolding framed
      no_op u = ap (framed line.text) (sym u) ∙ digits d c k

      module _ (o : Form) (u : c ≡ Some o) (f : Fields) (g : f ≡ fields_of o.op line.text) where
        pub not_zero : unused_zero f o.p o.q o.r ≡ false → None ≡ parsed_of l
        unfolding framed
        not_zero z = rw (rw g at z) at (ap (framed line.text) (sym u) ∙ digits d c k)

        pub a_frame : unused_zero f o.p o.q o.r ≡ true → Some f ≡ parsed_of l
        unfolding framed
        a_frame z = rw g (rw (rw g at z) at (ap (framed line.text) (sym u) ∙ digits d c k))

-- ---- unused fields

module _ (f : Fields) (p q r : Bool) where
  pub p_not_zero : p || eqb f.p 0 ≡ false → false ≡ unused_zero f p q r
  unfolding unused_zero
  p_not_zero e = simp e

  pub q_not_zero : p || eqb f.p 0 ≡ true → q || eqb f.q 0 ≡ false → false ≡ unused_zero f p q r
  unfolding unused_zero
  q_not_zero d e = simp (d, e)

  pub r_decides : p || eqb f.p 0 ≡ true → q || eqb f.q 0 ≡ true → r || eqb f.r 0 ≡ unused_zero f p q r
  unfolding unused_zero
  r_decides d e = simp (d, e)
