-- The state and the lent memory, and how a part of them is read and replaced.
-- Assumes nothing.
use Rattle.std.specs.Prelude.{ℕ, ◌+◌, Bool, ◌&&◌, ◌||◌, List, [], ◌∷◌, leb, ltb, get_or, set}
use Rattle.layout.specs.Choice.{pick}
use Rattle.layout.specs.Display.{row_holds}
use Rattle.layout.specs.Stack.{down}
use Rattle.model.specs.declared.Area.{Area}
use Rattle.model.specs.declared.Lengths.{Lengths}

-- A thread: its kind, 0 while it is not started; its stack, of which the first len entries count, the top last; and, kept by the program
-- beside each entry, the innermost scope as of that entry, 0 for none.
pub record Thread : Type 0 where
  pub kind : ℕ
  pub len : ℕ
  pub entries : List ℕ
  pub inner : List ℕ

-- The areas 0 to 63, the row of each one's display, the threads 0 to 15, the lengths of set-up, "a vector of used bits", one for each block of
-- scratch, in 16 words, and the rights table in force: 36 text digits.
pub record State : Type 0 where
  pub areas : List Area
  pub rows : List (List ℕ)
  pub threads : List Thread
  pub lengths : Lengths
  pub used_bits : List ℕ
  pub rights : List ℕ

-- "Three buffers of 64-bit words: the permanent store of P words (heap first, then immortal), the scratch store of S words (scopes), and
-- the start map." "The host lends a written map, shaped like the start map": the fourth.
pub record Memory : Type 0 where
  pub permanent : List ℕ
  pub scratch : List ℕ
  pub map : List ℕ
  pub written : List ℕ

-- ---- parts of a state

abbrev pub no_area : Area
no_area = record { start = 0; size = 0; used = 0; generation = 0; count = 0; parent = 0; depth = 0 }

abbrev pub no_thread : Thread
no_thread = record { kind = 0; len = 0; entries = []; inner = [] }

abbrev pub area_at : State → ℕ → Area
area_at s a = get_or s.areas a no_area

abbrev pub row_at : State → ℕ → List ℕ
row_at s a = get_or s.rows a []

abbrev pub thread_at : State → ℕ → Thread
thread_at s t = get_or s.threads t no_thread

-- ---- an area with a number replaced

-- where its words start, and how many there are
abbrev pub with_words : Area → ℕ → ℕ → Area
with_words x start size = record {
  start = start;
  size = size;
  used = x.used;
  generation = x.generation;
  count = x.count;
  parent = x.parent;
  depth = x.depth;
}

abbrev pub with_used : Area → ℕ → Area
with_used x n = record { start = x.start; size = x.size; used = n; generation = x.generation; count = x.count; parent = x.parent; depth = x.depth }

abbrev pub with_generation : Area → ℕ → Area
with_generation x n = record { start = x.start; size = x.size; used = x.used; generation = n; count = x.count; parent = x.parent; depth = x.depth }

abbrev pub with_count : Area → ℕ → Area
with_count x n = record { start = x.start; size = x.size; used = x.used; generation = x.generation; count = n; parent = x.parent; depth = x.depth }

-- its parent, and its depth under it
abbrev pub with_parent : Area → ℕ → ℕ → Area
with_parent x parent depth = record {
  start = x.start;
  size = x.size;
  used = x.used;
  generation = x.generation;
  count = x.count;
  parent = parent;
  depth = depth;
}

-- ---- a thread with a part replaced

abbrev pub with_kind : Thread → ℕ → Thread
with_kind h k = record { kind = k; len = h.len; entries = h.entries; inner = h.inner }

abbrev pub with_stack : Thread → ℕ → List ℕ → List ℕ → Thread
with_stack h len entries inner = record { kind = h.kind; len = len; entries = entries; inner = inner }

-- ---- a state with a part replaced

unfoldable pub with_area : State → ℕ → Area → State
with_area s a x = record { areas = set s.areas a x; rows = s.rows; threads = s.threads; lengths = s.lengths; used_bits = s.used_bits; rights = s.rights }

unfoldable pub with_row : State → ℕ → List ℕ → State
with_row s a r = record { areas = s.areas; rows = set s.rows a r; threads = s.threads; lengths = s.lengths; used_bits = s.used_bits; rights = s.rights }

unfoldable pub with_thread : State → ℕ → Thread → State
with_thread s t h = record { areas = s.areas; rows = s.rows; threads = set s.threads t h; lengths = s.lengths; used_bits = s.used_bits; rights = s.rights }

unfoldable pub with_used_bits : State → List ℕ → State
with_used_bits s u = record { areas = s.areas; rows = s.rows; threads = s.threads; lengths = s.lengths; used_bits = u; rights = s.rights }

unfoldable pub with_rights : State → List ℕ → State
with_rights s r = record { areas = s.areas; rows = s.rows; threads = s.threads; lengths = s.lengths; used_bits = s.used_bits; rights = r }

-- ---- stacks

-- a thread's stack, its top first
unfoldable pub entries_of : Thread → List ℕ
entries_of h = down h.entries h.len

abbrev pub stack_at : State → ℕ → List ℕ
stack_at s t = entries_of (thread_at s t)

-- "The current area is the top entry, or the heap where the stack is empty."
abbrev pub current : List ℕ → ℕ
current [] = 0
current (x ∷ l) = x

-- "the innermost scope on the thread's stack (heap and immortal entries are passed over), or the primordial scope if there is none": 0 is
-- the primordial scope
unfoldable pub innermost : List ℕ → ℕ
innermost [] = 0
innermost (x ∷ l) = pick (leb 2 x) x (innermost l)

-- ---- areas

-- "Area 0 is the heap, 1 immortal, 2 to 63 scopes."
abbrev pub is_scope : ℕ → Bool
is_scope a = leb 2 a

-- "outside 2 to 63"
abbrev pub is_no_scope : ℕ → Bool
is_no_scope a = ltb a 2 || leb 64 a

-- heap and immortal are always there; a scope that is made has a size above 0, by refusal 8
abbrev pub made_as : Area → ℕ → Bool
made_as x a = ltb a 2 || ltb 0 x.size

unfoldable pub is_made : State → ℕ → Bool
is_made s a = made_as (area_at s a) a

-- "A scope is open while its count of entries is above 0."
abbrev pub is_open : State → ℕ → Bool
is_open s a = ltb 0 (area_at s a).count

-- "Each open scope has a display: the row of its ancestors, outermost first, itself last." Here the list is itself first, outermost last.
unfoldable pub display_at : State → ℕ → List ℕ
display_at s a = down (row_at s a) (area_at s a).depth

-- "Of scopes A and B .. the display [says yes] if the core's display of B holds A": one look, at A's own depth (source 004, Algorithm 9).
-- It is all that the reference check looks at.
unfoldable pub display_holds : State → ℕ → ℕ → Bool
display_holds s a b = leb (area_at s a).depth (area_at s b).depth && row_holds (row_at s b) (area_at s a).depth a

-- ---- the words of an area

-- the store that has an area's words
abbrev pub store_of : Memory → ℕ → List ℕ
store_of m a = pick (is_scope a) m.scratch m.permanent

-- its length, by set-up
abbrev pub store_length : State → ℕ → ℕ
store_length s a = pick (is_scope a) s.lengths.scratch s.lengths.permanent

-- ---- a memory with a part replaced

abbrev pub with_map : Memory → List ℕ → Memory
with_map m l = record { permanent = m.permanent; scratch = m.scratch; map = l; written = m.written }

abbrev pub with_written : Memory → List ℕ → Memory
with_written m l = record { permanent = m.permanent; scratch = m.scratch; map = m.map; written = l }

unfoldable pub with_store : Memory → ℕ → List ℕ → Memory
with_store m a l = record {
  permanent = pick (is_scope a) m.permanent l;
  scratch = pick (is_scope a) l m.scratch;
  map = m.map;
  written = m.written;
}

-- word o of area a
abbrev pub word_at : State → Memory → ℕ → ℕ → ℕ
word_at s m a o = get_or (store_of m a) ((area_at s a).start + o) 0

-- "permanent words count first, then scratch words": the bit of word o of area a in the start map, and in the written map
abbrev pub bit_index : State → ℕ → ℕ → ℕ
bit_index s a o = pick (is_scope a) s.lengths.permanent 0 + ((area_at s a).start + o)
