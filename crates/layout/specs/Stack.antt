-- One thread's scope stack as a record, and what a push and a pop answer and leave.
-- Assumes nothing.
use Rattle.std.specs.Prelude.{◌≡◌, List, [], ◌∷◌, ℕ, zero, suc, ◌+◌, ◌-◌, min, eqb, leb, ltb, set, get_or, replicate, Result, Ok, Err}
use Rattle.layout.specs.Choice.{pick}
use Rattle.layout.specs.declared.answer.Answer.{Answer}
use Rattle.layout.specs.declared.answer.Refusal.{Refusal}
use Rattle.layout.specs.Answer.{accepted, refused, number_of}
use Rattle.layout.specs.declared.stack.ScopeStack.{ScopeStack}

-- "It begins empty"
abbrev pub empty_stack : ScopeStack
empty_stack = record { len = 0; entries = replicate 32 0 }

-- "A stack has at most 32 entries."
abbrev pub height_of : ScopeStack → ℕ
height_of s = min s.len 32

-- the first n of a list, the last of them first
unfoldable pub down : List ℕ → ℕ → List ℕ
down l zero = []
down l (suc n) = get_or l n 0 ∷ down l n

-- the entries, the top first
unfoldable pub stack_of : ScopeStack → List ℕ
stack_of s = down s.entries (height_of s)

-- "an area above 63 gives 6, then a push on 32 entries 9"
unfoldable pub push_answer : ScopeStack → ℕ → Answer
push_answer s area = pick (ltb 63 area) (refused 6) (pick (leb 32 s.len) (refused 9) (accepted 0))

-- "a refusal keeps the entries"
unfoldable pub pushed_stack : ScopeStack → ℕ → ScopeStack
pushed_stack s area =
    pick (ltb 63 area) s (pick (leb 32 s.len) s (record { len = s.len + 1; entries = set s.entries s.len area }))

-- "a pop of none 11 (else it yields the area)"
unfoldable pub pop_answer : ScopeStack → Answer
pop_answer s = pick (eqb (height_of s) 0) (refused 11) (accepted (get_or s.entries (height_of s - 1) 0))

-- "a refusal keeps the entries"; else the top one is off
unfoldable pub popped_stack : ScopeStack → ScopeStack
popped_stack s = pick (eqb (height_of s) 0) s (record { len = height_of s - 1; entries = s.entries })

-- what a push and a pop by value answer: the stack that they leave, or the refusal, which leaves it as it is
abbrev pub Pushes : Result ScopeStack Refusal → ScopeStack → ℕ → Type 0
Pushes (Ok next) s area = (accepted 0 ≡ push_answer s area) × (next ≡ pushed_stack s area)
Pushes (Err r) s area = (refused (number_of r) ≡ push_answer s area) × (s ≡ pushed_stack s area)

abbrev pub Pops : Result (ScopeStack × ℕ) Refusal → ScopeStack → Type 0
Pops (Ok x) s = (accepted x.1 ≡ pop_answer s) × (x.0 ≡ popped_stack s)
Pops (Err r) s = (refused (number_of r) ≡ pop_answer s) × (s ≡ popped_stack s)
