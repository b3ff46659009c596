-- The one table of ops: the number of each, the fields that it uses and its call.
-- Assumes nothing.
use Rattle.std.specs.Prelude.{ℕ, ◌≡◌, refl, Bool, true, false, List, [], ◌∷◌, Option, Some, None, eqb}
use Rattle.layout.specs.Choice.{pick}
use Rattle.model.specs.declared.Op.{Op}
use Rattle.model.specs.declared.Op.TheVariants.{State, Memory, Question}
use Rattle.model.specs.declared.StateOp.TheVariants.{Start, End, Make, Enter, Exit, StartHelper, Remove}
use Rattle.model.specs.declared.MemoryOp.TheVariants.{Allocate, Store, Write}
use Rattle.model.specs.declared.QuestionOp.TheVariants.{Load, Read}
use Rattle.model.specs.declared.Form.{Form}
use Rattle.model.specs.Calls.{Call, start, end, make, enter, exit, start_helper, remove, allocate, store, load, write, read}

-- a row of the table "op | call (fields used)": the number, which of p, q and r are used, and the call; every op uses the thread t
pub record OpRow : Type 0 where
  pub number : ℕ
  pub p : Bool
  pub q : Bool
  pub r : Bool
  pub call : (t p q r : ℕ) → Call

abbrev row : ℕ → Bool → Bool → Bool → ((t p q r : ℕ) → Call) → OpRow
row n p q r c = record { number = n; p = p; q = q; r = r; call = c }

abbrev pub row_of : Op → OpRow
-- "01 | start thread (p kind)"
row_of (State Start) = row 0x01 true false false (λ t p q r. start t p)
-- "02 | end thread"
row_of (State End) = row 0x02 false false false (λ t p q r. end t)
-- "03 | make scope (q area, r size)"
row_of (State Make) = row 0x03 false true true (λ t p q r. make t q r)
-- "04 | enter (q area)"
row_of (State Enter) = row 0x04 false true false (λ t p q r. enter t q)
-- "05 | exit"
row_of (State Exit) = row 0x05 false false false (λ t p q r. exit t)
-- "06 | allocate (q slots, r data)"
row_of (Memory Allocate) = row 0x06 false true true (λ t p q r. allocate t q r)
-- "07 | store reference (p object, q slot, r target)"
row_of (Memory Store) = row 0x07 true true true (λ t p q r. store t p q r)
-- "08 | load reference (p, q)"
row_of (Question Load) = row 0x08 true true false (λ t p q r. load t p q)
-- "09 | write data (p, q, r)"
row_of (Memory Write) = row 0x09 true true true (λ t p q r. write t p q r)
-- "0a | read data (p, q)"
row_of (Question Read) = row 0x0a true true false (λ t p q r. read t p q)
-- "Op 0b: p is the kind, q the new thread's number."
row_of (State StartHelper) = row 0x0b true true false (λ t p q r. start_helper t p q)
-- "Op 0c removes scope q"
row_of (State Remove) = row 0x0c false true false (λ t p q r. remove t q)

-- the table's column "op"
abbrev pub ops : List Op
ops =
    State Start ∷ State End ∷ State Make ∷ State Enter ∷ State Exit ∷ Memory Allocate ∷ Memory Store ∷ Question Load ∷ Memory Write ∷ Question Read
    ∷ State StartHelper ∷ State Remove ∷ []

-- an op with the "(fields used)"
abbrev pub code_of : Op → Option Form
code_of o = Some (record { op = o; p = (row_of o).p; q = (row_of o).q; r = (row_of o).r })

abbrev pub call_of : Op → (t p q r : ℕ) → Call
call_of o t p q r = (row_of o).call t p q r

-- what the number n stands for among some ops
abbrev pub op_among : List Op → ℕ → Option Form
op_among [] n = None
op_among (o ∷ l) n = pick (eqb n (row_of o).number) (code_of o) (op_among l n)

-- "op 2 (one that exists)"
unfoldable pub op_of : ℕ → Option Form
op_of n = op_among ops n

-- every op stands in the list, and no two have one number
pub op_of_number : (o : Op) → op_of (row_of o).number ≡ code_of o
unfolding op_of
op_of_number (State Start) = refl
op_of_number (State End) = refl
op_of_number (State Make) = refl
op_of_number (State Enter) = refl
op_of_number (State Exit) = refl
op_of_number (State StartHelper) = refl
op_of_number (State Remove) = refl
op_of_number (Memory Allocate) = refl
op_of_number (Memory Store) = refl
op_of_number (Question Load) = refl
op_of_number (Memory Write) = refl
op_of_number (Question Read) = refl
