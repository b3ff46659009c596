-- Ops 03, 04 and 05: scopes are made, entered and left.
-- Assumes nothing.
use Rattle.std.specs.Prelude.{ℕ, suc, pred, ◌*◌, Bool, not, ◌&&◌, ◌||◌, eqb, leb, set}
use Rattle.layout.specs.Choice.{pick, refuse}
use Rattle.layout.specs.Display.{extended_row}
use Rattle.rights.specs.declared.Right.TheVariants.{Enter}
use Rattle.model.specs.declared.Area.{Area}
use Rattle.model.specs.State.{Thread, State, area_at, row_at, thread_at, with_words, with_used, with_generation, with_count, with_parent, with_stack, with_area, with_row, with_thread, entries_of, stack_at, current, innermost, is_scope, is_no_scope, is_made, is_open}
use Rattle.model.specs.Blocks.{block_words, blocks_for, room_for, no_room, with_used_blocks}
use Rattle.model.specs.Checks.{called, Change, has_right}

-- ---- op 03, make scope

-- refusals 2, 6, 7, 8 after 1: "op 03: outside 2 to 63", "7: scope already made", "Refusal 8 now means size 0 or no such run"
unfoldable pub make_rest : State → ℕ → ℕ → ℕ → ℕ
make_rest s t q r =
    called s t
    (refuse (is_no_scope q) 6
    (refuse (is_made s q) 7
    (refuse (eqb r 0 || no_room s r) 8 0)))

-- "A scope is made with a size in words", which stays as asked; its words start with the first block of its room. "An area number made again continues its
-- old turns": all else of its record stays.
abbrev pub made_area : Area → ℕ → ℕ → Area
made_area x block size = with_words x (block_words * block) size

-- op 03, "make scope (q area, r size)": the scope lies in its room, whose blocks are used
unfoldable pub make_state : State → ℕ → ℕ → State
make_state s q r = with_used_blocks (with_area s q (made_area (area_at s q) (room_for s r) r)) (room_for s r) (blocks_for r)

abbrev pub make_change : State → ℕ → ℕ → ℕ → Change
make_change s t q r = record { status = make_rest s t q r; value = 0; state = make_state s q r }

-- ---- op 04, enter

-- "10: scope open with another parent"
unfoldable pub other_parent : State → ℕ → ℕ → Bool
other_parent s t q = is_scope q && (is_open s q && not (eqb (area_at s q).parent (innermost (stack_at s t))))

-- "last 17,592,186,044,415, which is 2^44 - 1"
abbrev pub last_generation : ℕ
last_generation = 17592186044415

-- "17: scope not open, its turn 2^44 - 1". It asks for that turn or a higher one; under the invariant none is higher.
unfoldable pub generations_out : State → ℕ → Bool
generations_out s q = is_scope q && (not (is_open s q) && leb last_generation (area_at s q).generation)

-- refusals 2, 6, 5, 9, 10, 17 after 1: "6: area above 63 or scope not made", "9: stack has 32 entries"
unfoldable pub enter_rest : State → ℕ → ℕ → ℕ
enter_rest s t q =
    called s t
    (refuse (leb 64 q || not (is_made s q)) 6
    (refuse (not (has_right s t Enter q)) 5
    (refuse (leb 32 (thread_at s t).len) 9
    (refuse (other_parent s t q) 10
    (refuse (generations_out s q) 17 0)))))

-- "An open scope may be entered only if its parent equals that innermost scope; its count rises by 1."
abbrev pub reentered : Area → Area
reentered x = with_count x (suc x.count)

-- "Entering a scope that isn't open fixes its parent .. It sets its turn one higher (first turn 1 ..), its used words to 0 and its count to 1."
-- It stands one deeper than its parent, whose depth is given.
abbrev pub opened : Area → ℕ → ℕ → Area
opened x parent depth = with_parent (with_count (with_generation (with_used x 0) (suc x.generation)) 1) parent (suc depth)

-- area q is entered where p is the innermost scope: "Entering the heap or immortal only adds a stack entry"
unfoldable pub entered_area : State → ℕ → ℕ → State
entered_area s q p =
    pick (is_scope q)
    (pick (is_open s q)
    (with_area s q (reentered (area_at s q)))
    (with_area (with_row s q (extended_row (row_at s p) (area_at s p).depth q)) q (opened (area_at s q) p (area_at s p).depth)))
    s

-- a stack with one entry more, and beside it the innermost scope as of that entry
unfoldable pub pushed : Thread → ℕ → Thread
pushed h q =
    with_stack h (suc h.len) (set h.entries h.len q) (set h.inner h.len (pick (is_scope q) q (innermost (entries_of h))))

-- op 04, "enter (q area)": q is entered under "the innermost scope on the thread's stack" as it was, and its entry goes on top
unfoldable pub enter_state : State → ℕ → ℕ → State
enter_state s t q = with_thread (entered_area s q (innermost (stack_at s t))) t (pushed (thread_at s t) q)

-- "value: turn", that of the area after the entry
unfoldable pub enter_value : State → ℕ → ℕ
enter_value s q = pick (is_scope q && not (is_open s q)) (suc (area_at s q).generation) (area_at s q).generation

abbrev pub enter_change : State → ℕ → ℕ → Change
enter_change s t q = record { status = enter_rest s t q; value = enter_value s q; state = enter_state s t q }

-- ---- op 05, exit

-- refusals 2, 11 after 1: "exit with empty stack"
unfoldable pub exit_rest : State → ℕ → ℕ
exit_rest s t = called s t (refuse (eqb (thread_at s t).len 0) 11 0)

-- n, or 0 where the count is about to fall to 0
abbrev unless_last : Area → ℕ → ℕ
unless_last x n = pick (leb x.count 1) 0 n

-- "If it was a scope its count falls by 1; at 0 the scope has no parent and no used words". Nor has it a display.
abbrev pub left : Area → Area
left x =
    with_parent (with_count (with_used x (unless_last x x.used)) (pred x.count))
    (unless_last x x.parent) (unless_last x x.depth)

-- "If it was a scope its count falls by 1"; heap and immortal stay as they are
unfoldable pub left_area : State → ℕ → State
left_area s q = pick (is_scope q) (with_area s q (left (area_at s q))) s

-- "Exit takes off the top entry."
unfoldable pub popped : Thread → Thread
popped h = with_stack h (pred h.len) h.entries h.inner

-- op 05, "exit": "Exit takes off the top entry", and the area of that entry is left
unfoldable pub exit_state : State → ℕ → State
exit_state s t = with_thread (left_area s (current (stack_at s t))) t (popped (thread_at s t))

-- "value: scope's count left, else 0"
unfoldable pub exit_value : State → ℕ → ℕ
exit_value s t = pick (is_scope (current (stack_at s t))) (pred (area_at s (current (stack_at s t))).count) 0

abbrev pub exit_change : State → ℕ → Change
exit_change s t = record { status = exit_rest s t; value = exit_value s t; state = exit_state s t }
