-- Runs of calls and their answers, for the samples. Whoever unfolds `answer` unfolds every definition that a call computes with.
-- Assumes nothing.
use Prim.Native.Nat.{ℕ}
use mathlib.Core.List.{List, [], ◌∷◌, ◌++◌, map}
use mathlib.Core.Path.{◌≡◌, refl}
use lib.ListN.{replicate}
use Rattle.layout.specs.Choice.{refuse}
use Rattle.layout.specs.Handle.{handle_of, offset_of, area_of, generation_of}
use Rattle.layout.specs.Header.{header_of, slots_of, data_of}
use Rattle.layout.specs.Stack.{down}
use Rattle.bitmap.specs.Bitmap.{bit_at, with_bit, on_bits}
use Rattle.runs.specs.LowestRun.{lowest_from, lowest_run}
use Rattle.layout.specs.Below.{all_below, some_below}
use Rattle.rights.specs.Rights.{class_of, allows, text_of, rights_rows, built_in, is_binary, only_binary, allocator_uses, allocators_use, is_table}
use Rattle.layout.specs.Display.{row_holds}
use Rattle.model.specs.State.{State, Memory, no_area, with_words, with_used, with_generation, with_count, with_parent, with_kind, with_stack, with_area, with_row, with_thread, with_used_bits, with_rights, entries_of, innermost, is_made, display_holds, with_store}
use Rattle.model.specs.Blocks.{room_for, with_used_blocks, with_free_blocks}
use Rattle.model.specs.SetUp.{standing, new_thread, first_state}
use Rattle.model.specs.Checks.{fits, fitted, called, has_right, live, is_object, is_reference, use_rest}
use Rattle.model.specs.Threads.{startable, start_state, end_rest, end_state}
use Rattle.model.specs.Scopes.{make_rest, make_state, other_parent, generations_out, enter_rest, entered_area, pushed, enter_state, enter_value, exit_rest, left_area, popped, exit_state, exit_value}
use Rattle.model.specs.Helpers.{may_enter_all, helper_rest, raised_area, raised, helper_state}
use Rattle.model.specs.Removal.{remove_rest, remove_state}
use Rattle.model.specs.Objects.{allocate_rest, allocate_state, filled, object_words, object_bits, unwritten_bits, allocate_memory, allocate_value}
use Rattle.model.specs.References.{may_refer, store_after, slot_rest, reference_rest, store_rest, load_rest}
use Rattle.model.specs.Data.{data_rest, write_memory, read_rest, view_words}
use Rattle.model.specs.Configuration.{any_started, load_rights_status, load_rights_state}
use Rattle.model.specs.Calls.{Call, start, make, enter, allocate, Reply, outcome_of}
use Rattle.model.specs.Run.{World, kept, step, begin}

-- what a call answers
unfoldable pub answer : World → Call → Reply
unfolding refuse handle_of offset_of area_of generation_of header_of slots_of data_of down bit_at with_bit on_bits lowest_from lowest_run class_of allows text_of rights_rows built_in
    all_below some_below is_binary only_binary allocator_uses allocators_use is_table row_holds
    with_area with_row with_thread with_used_bits with_used_blocks with_free_blocks room_for with_rights entries_of innermost is_made display_holds with_store first_state fits fitted called has_right live is_object is_reference use_rest
    startable start_state end_rest end_state make_rest make_state other_parent generations_out enter_rest entered_area pushed enter_state enter_value
    exit_rest left_area popped exit_state exit_value may_enter_all helper_rest raised_area raised helper_state remove_rest remove_state
    allocate_rest allocate_state filled object_words object_bits unwritten_bits allocate_memory allocate_value may_refer store_after slot_rest reference_rest store_rest load_rest
    data_rest write_memory read_rest view_words any_started load_rights_status load_rights_state outcome_of step begin
answer w c = (outcome_of w.state w.memory c).reply

unfoldable pub status : World → Call → ℕ
unfolding answer
status w c = (answer w c).status

value : World → Call → ℕ
unfolding answer
value w c = (answer w c).value

-- the world that a call leaves, and a list of calls
next : World → Call → World
unfolding answer
next w c = step w (record { call = c; supplied = kept })

unfoldable pub after : World → List Call → World
unfolding next
after w [] = w
after w (c ∷ cs) = after (next w c) cs

-- the statuses and the values of a list of calls
unfoldable pub statuses : World → List Call → List ℕ
unfolding status next
statuses w [] = []
statuses w (c ∷ cs) = status w c ∷ statuses (next w c) cs

unfoldable pub values : World → List Call → List ℕ
unfolding value next
values w [] = []
values w (c ∷ cs) = value w c ∷ values (next w c) cs

-- the statuses of calls, each of them the next one
unfoldable pub each : World → List Call → List ℕ
unfolding status
each w cs = map (status w) cs

-- the same with another memory, and with another state
abbrev pub supplied : World → Memory → World
supplied w m = record { state = w.state; memory = m; trace = w.trace }

abbrev pub with_state : World → State → World
with_state w s = record { state = s; memory = w.memory; trace = w.trace }

-- ---- the world of the samples

-- n words
abbrev pub copies : ℕ → ℕ → List ℕ
copies n v = replicate n v

-- set-up with 3 words of heap, 6 of immortal and 52 of scratch, which are three blocks and a rest of 4; each word is 9 and each bit of both maps is 1: "the lent words may hold anything"
unfoldable pub first : World
first = begin 3 6 (record { permanent = copies 9 9; scratch = copies 52 9; map = copies 1 18446744073709551615; written = copies 1 18446744073709551615 })

-- Thread 1 is ordinary, 2 real-time, 3 no-heap, as their kinds. Thread 2 is in immortal memory, then in scope 2 of 6 words, then in scope 3
-- of 4 words. An object of 1 slot and 1 data word fills the heap; one of 2 and 2 is in immortal memory, one of 1 and 2 in scope 2, one of 1
-- slot in scope 3. The world is written out, so that no sample runs these calls again.
unfoldable pub busy : World
busy = record {
  state = record {
    areas =
        with_used (standing 0 3) 3 ∷ with_used (standing 3 6) 5
        ∷ with_parent (with_count (with_generation (with_used (with_words no_area 0 6) 4) 1) 1) 0 1
        ∷ with_parent (with_count (with_generation (with_used (with_words no_area 16 4) 2) 1) 1) 2 2
        ∷ replicate 60 no_area;
    rows = copies 32 0 ∷ copies 32 0 ∷ (2 ∷ copies 31 0) ∷ (2 ∷ 3 ∷ copies 30 0) ∷ replicate 60 (copies 32 0);
    threads =
        new_thread ∷ with_kind new_thread 1
        ∷ with_stack (with_kind new_thread 2) 3 (1 ∷ 2 ∷ 3 ∷ copies 29 0) (0 ∷ 2 ∷ 3 ∷ copies 29 0)
        ∷ with_kind new_thread 3 ∷ replicate 12 new_thread;
    lengths = record { permanent = 9; scratch = 52; map = 1 };
    used_bits = 0b11 ∷ copies 15 0;
    rights = built_in;
  };
  memory = record {
    permanent = 16385 ∷ 0 ∷ 0 ∷ 32770 ∷ 0 ∷ 0 ∷ 0 ∷ 0 ∷ 9 ∷ [];
    scratch = 32769 ∷ 0 ∷ 0 ∷ 0 ∷ copies 12 9 ++ (1 ∷ 0 ∷ copies 34 9);
    map = 18446744073642435337 ∷ [];
    written = 18446744073608880384 ∷ [];
  };
  trace = [];
}

-- it is what these calls leave
abbrev busily : List Call
busily =
    start 1 1 ∷ start 2 2 ∷ start 3 3 ∷ make 2 2 6 ∷ make 2 3 4 ∷ allocate 2 1 1
    ∷ enter 2 1 ∷ allocate 2 2 2 ∷ enter 2 2 ∷ allocate 2 1 2 ∷ enter 2 3 ∷ allocate 2 1 0 ∷ []

pub busy_is : ((after first busily).state ≡ busy.state) × ((after first busily).memory ≡ busy.memory)
unfolding after first busy
busy_is = (refl, refl)

-- their handles: offset 0 and generation 1
abbrev pub in_heap : ℕ
in_heap = 1048576

abbrev pub in_immortal : ℕ
in_immortal = 1064960

abbrev pub in2 : ℕ
in2 = 1081344

abbrev pub in3 : ℕ
in3 = 1097728
