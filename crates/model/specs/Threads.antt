-- Ops 01 and 02: threads start and end.
-- Assumes nothing.
use Rattle.std.specs.Prelude.{ℕ, Bool, not, ◌&&◌, leb, ltb}
use Rattle.layout.specs.Choice.{refuse}
use Rattle.model.specs.State.{State, thread_at, with_kind, with_thread}
use Rattle.model.specs.Checks.{is_started, called, Change}

-- "Kinds: 1 ordinary, 2 real-time, 3 no-heap."
abbrev pub is_kind : ℕ → Bool
is_kind p = ltb 0 p && ltb p 4

-- refusals 2, 3, 4 of a thread that is to start with kind p: "op 01: above 15 only", "3: thread started and not ended", "4: kind not 1, 2 or 3";
-- then the rest
unfoldable pub startable : State → ℕ → ℕ → ℕ → ℕ
startable s t p rest = refuse (leb 16 t) 2 (refuse (is_started s t) 3 (refuse (not (is_kind p)) 4 rest))

-- op 01, refusals 2, 3, 4 after 1
abbrev pub start_rest : State → ℕ → ℕ → ℕ
start_rest s t p = startable s t p 0

-- op 01, "start thread (p kind)": it has that kind; its stack is empty, as that of every thread that is not started
unfoldable pub start_state : State → ℕ → ℕ → State
start_state s t p = with_thread s t (with_kind (thread_at s t) p)

abbrev pub start_change : State → ℕ → ℕ → Change
start_change s t p = record { status = start_rest s t p; value = 0; state = start_state s t p }

-- op 02, refusals 2, 11 after 1: "end with entries"
unfoldable pub end_rest : State → ℕ → ℕ
end_rest s t = called s t (refuse (ltb 0 (thread_at s t).len) 11 0)

-- op 02, "end thread": it has no kind any more; its stack is empty, by refusal 11
unfoldable pub end_state : State → ℕ → State
end_state s t = with_thread s t (with_kind (thread_at s t) 0)

abbrev pub end_change : State → ℕ → Change
end_change s t = record { status = end_rest s t; value = 0; state = end_state s t }
