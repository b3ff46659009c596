-- Op 0b: a thread starts a helper, which begins with its starter's stack.
-- Assumes nothing.
use Rattle.std.specs.Prelude.{ℕ, Bool, true, not, ◌&&◌, List, [], ◌∷◌}
use Rattle.layout.specs.Choice.{pick, refuse}
use Rattle.rights.specs.Rights.{class_of, allows}
use Rattle.rights.specs.declared.Right.TheVariants.{Enter}
use Rattle.model.specs.State.{State, area_at, thread_at, with_kind, with_area, with_thread, stack_at, is_scope}
use Rattle.model.specs.Checks.{called, Change}
use Rattle.model.specs.Threads.{startable}
use Rattle.model.specs.Scopes.{reentered}

-- "5 if the kind lacks E for any entry", as a test that a stack passes: by a rights table the kind may enter the area of every entry
unfoldable pub may_enter_all : List ℕ → ℕ → List ℕ → Bool
may_enter_all table kind [] = true
may_enter_all table kind (x ∷ l) = allows table kind (class_of x) Enter && may_enter_all table kind l

-- op 0b by thread t, "p is the kind, q the new thread's number". "Checks run 1, 2 (starter as in the table, then new number, above 15 only), 3 (new
-- number), 4, then 5": those after 1
unfoldable pub helper_rest : State → ℕ → ℕ → ℕ → ℕ
helper_rest s t p q = called s t (startable s q p (refuse (not (may_enter_all s.rights p (stack_at s t))) 5 0))

-- "the count of each scope rises by one": of the area of one entry; heap and immortal have no count
unfoldable pub raised_area : State → ℕ → State
raised_area s x = pick (is_scope x) (with_area s x (reentered (area_at s x))) s

-- .. and of every entry of a stack, so that a scope's count rises once for each of its entries
unfoldable pub raised : State → List ℕ → State
raised s [] = s
raised s (x ∷ l) = raised_area (raised s l) x

-- "The new thread receives the same entries": the starter's whole record, with its own kind
unfoldable pub helper_state : State → ℕ → ℕ → ℕ → State
helper_state s t p q = with_thread (raised s (stack_at s t)) q (with_kind (thread_at s t) p)

abbrev pub helper_change : State → ℕ → ℕ → ℕ → Change
helper_change s t p q = record { status = helper_rest s t p q; value = 0; state = helper_state s t p q }
