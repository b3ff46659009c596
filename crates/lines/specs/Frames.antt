-- What a line says: the fields of a frame, or nothing.
-- Assumes nothing.
use Rattle.std.specs.Prelude.{ℕ, Bool, ◌&&◌, ◌||◌, List, Option, Some, None, eqb, length}
use Rattle.layout.specs.Choice.{pick}
use Rattle.model.specs.declared.Op.{Op}
use Rattle.model.specs.declared.Form.{Form}
use Rattle.model.specs.Ops.{op_of}
use Rattle.lines.specs.Hexadecimal.{all_digits, field_of}
use Rattle.lines.specs.declared.frame.Fields.{Fields}

-- "op 2 .., thread 2, p 16, q 4, r 16"
abbrev pub opcode_of : List ℕ → ℕ
opcode_of l = field_of l 0 2

unfoldable pub fields_of : Op → List ℕ → Fields
fields_of o l = record { op = o; thread = field_of l 2 2; p = field_of l 4 16; q = field_of l 20 4; r = field_of l 24 16 }

-- "unused fields are 0", where p, q and r say which are used
unfoldable pub unused_zero : Fields → (p q r : Bool) → Bool
unused_zero f p q r = (p || eqb f.p 0) && ((q || eqb f.q 0) && (r || eqb f.r 0))

-- what 40 digits are, by what their op stands for
unfoldable pub framed : List ℕ → Option Form → Option Fields
framed l (Some f) = pick (unused_zero (fields_of f.op l) f.p f.q f.r) (Some (fields_of f.op l)) None
framed l None = None

-- what a whole line is: "A frame is 40 lower-case hexadecimal digits .. op 2 (one that exists)"; the line feed is taken off
unfoldable pub parsed_of : List ℕ → Option Fields
parsed_of l = pick (eqb (length l) 40 && all_digits l) (framed l (op_of (opcode_of l))) None
