-- The state that the two tables hold: where each record lies, what is read there and what is written.
-- Assumes nothing.
use Rattle.std.specs.Prelude.{List, ℕ, ◌+◌, ◌*◌, ◌<◌, ◌≡◌, length, get_or, set}
use Rattle.rights.specs.Rights.{table_size}
use Rattle.model.specs.declared.Area.{Area}
use Rattle.model.specs.declared.Lengths.{Lengths}
use Rattle.model.specs.State.{Thread, State}
use Rattle.tables.specs.declared.ThreadWords.{ThreadWords}
use Rattle.tables.specs.declared.Entry.{Entry}
use Rattle.tables.specs.Cut.{cut, put, each}

-- ---- where the words lie: the areas, the threads, the three lengths, the used bits

-- "Area 0 is the heap, 1 immortal, 2 to 63 scopes."
abbrev pub area_count : ℕ
area_count = 64

-- "Threads are 0 to 15."
abbrev pub thread_count : ℕ
thread_count = 16

-- an area's 7 numbers, and a spare word
abbrev pub area_words : ℕ
area_words = 8

abbrev pub area_index : ℕ → ℕ
area_index a = a * area_words

abbrev pub threads_at : ℕ
threads_at = area_count * area_words

-- a thread's kind, and the length of its stack
abbrev pub thread_words : ℕ
thread_words = 2

abbrev pub thread_index : ℕ → ℕ
thread_index t = threads_at + t * thread_words

abbrev pub lengths_at : ℕ
lengths_at = threads_at + thread_count * thread_words

abbrev pub used_bits_at : ℕ
used_bits_at = lengths_at + 3

-- a bit for each block of scratch, of which there are 1,024 at most
abbrev pub used_bits_words : ℕ
used_bits_words = 16

abbrev pub word_count : ℕ
word_count = used_bits_at + used_bits_words

-- ---- where the bytes lie: rows of 32, which are the entries of the threads, the innermost scopes as of them and the displays of the areas; then the rights

abbrev pub row_bytes : ℕ
row_bytes = 32

abbrev pub row_index : ℕ → ℕ
row_index n = n * row_bytes

abbrev pub inner_rows : ℕ
inner_rows = thread_count

abbrev pub display_rows : ℕ
display_rows = inner_rows + thread_count

abbrev pub row_count : ℕ
row_count = display_rows + area_count

abbrev pub rights_at : ℕ
rights_at = row_count * row_bytes

abbrev pub byte_count : ℕ
byte_count = rights_at + table_size

-- ---- areas

abbrev pub area_record : List ℕ → ℕ → Area
area_record w a = record {
  start = get_or w (area_index a) 0;
  size = get_or w (area_index a + 1) 0;
  used = get_or w (area_index a + 2) 0;
  generation = get_or w (area_index a + 3) 0;
  count = get_or w (area_index a + 4) 0;
  parent = get_or w (area_index a + 5) 0;
  depth = get_or w (area_index a + 6) 0;
}

abbrev pub spare_of : List ℕ → ℕ → ℕ
spare_of w a = get_or w (area_index a + 7) 0

abbrev pub put_area : List ℕ → ℕ → Area → List ℕ
put_area w a x =
    let i : ℕ = area_index a in
    set (set (set (set (set (set (set w i x.start) (i + 1) x.size) (i + 2) x.used) (i + 3) x.generation) (i + 4) x.count)
    (i + 5) x.parent) (i + 6) x.depth

-- ---- lengths and used bits

abbrev pub lengths_record : List ℕ → Lengths
lengths_record w = record { permanent = get_or w lengths_at 0; scratch = get_or w (lengths_at + 1) 0; map = get_or w (lengths_at + 2) 0 }

abbrev pub put_lengths : List ℕ → Lengths → List ℕ
put_lengths w n = set (set (set w lengths_at n.permanent) (lengths_at + 1) n.scratch) (lengths_at + 2) n.map

unfoldable pub used_bits_of : List ℕ → List ℕ
used_bits_of w = cut w used_bits_at used_bits_words

unfoldable pub put_used_bits : List ℕ → List ℕ → List ℕ
put_used_bits w u = put w used_bits_at u

-- ---- rows of bytes

unfoldable pub byte_row : List ℕ → ℕ → List ℕ
byte_row b n = cut b (row_index n) row_bytes

unfoldable pub put_byte_row : List ℕ → ℕ → List ℕ → List ℕ
put_byte_row b n r = put b (row_index n) r

abbrev pub byte_of : List ℕ → ℕ → ℕ → ℕ
byte_of b n k = get_or b (row_index n + k) 0

abbrev pub put_byte : List ℕ → ℕ → ℕ → ℕ → List ℕ
put_byte b n k v = set b (row_index n + k) v

-- ---- threads: two words, and two rows of bytes

abbrev pub thread_record : List ℕ → ℕ → ThreadWords
thread_record w t = record { kind = get_or w (thread_index t) 0; len = get_or w (thread_index t + 1) 0 }

abbrev pub put_thread : List ℕ → ℕ → ThreadWords → List ℕ
put_thread w t x = set (set w (thread_index t) x.kind) (thread_index t + 1) x.len

-- an entry, with the innermost scope as of it
abbrev pub entry_record : List ℕ → ℕ → ℕ → Entry
entry_record b t k = record { area = byte_of b t k; inner = byte_of b (inner_rows + t) k }

abbrev pub put_entry : List ℕ → ℕ → ℕ → Entry → List ℕ
put_entry b t k x = put_byte (put_byte b t k x.area) (inner_rows + t) k x.inner

-- the whole stack of thread t becomes that of thread q: its entries, and the innermost scopes beside them
abbrev pub copy_stack : List ℕ → ℕ → ℕ → List ℕ
copy_stack b t q =
    let c : List ℕ = put_byte_row b q (byte_row b t) in
    put_byte_row c (inner_rows + q) (byte_row c (inner_rows + t))

unfoldable pub thread_of : List ℕ → List ℕ → ℕ → Thread
thread_of w b t = record { kind = (thread_record w t).kind; len = (thread_record w t).len; entries = byte_row b t; inner = byte_row b (inner_rows + t) }

-- ---- displays

unfoldable pub display_row : List ℕ → ℕ → List ℕ
display_row b a = byte_row b (display_rows + a)

unfoldable pub put_row : List ℕ → ℕ → List ℕ → List ℕ
put_row b a r = put_byte_row b (display_rows + a) r

-- ---- the rights table in force: a byte for each digit

unfoldable pub rights_of : List ℕ → List ℕ
rights_of b = cut b rights_at table_size

abbrev pub right_of : List ℕ → ℕ → ℕ
right_of b i = get_or b (rights_at + i) 0

unfoldable pub put_rights : List ℕ → List ℕ → List ℕ
put_rights b r = put b rights_at r

-- ---- the state

unfoldable pub state_of : List ℕ → List ℕ → State
state_of w b = record {
  areas = each (area_record w) area_count;
  rows = each (display_row b) area_count;
  threads = each (thread_of w b) thread_count;
  lengths = lengths_record w;
  used_bits = used_bits_of w;
  rights = rights_of b;
}

-- the two tables are as long as they are declared, and the spare words are 0: so the state that they hold says the rest of them
pub record Shaped (w b : List ℕ) : Type 0 where
  pub words : length w ≡ word_count
  pub bytes : length b ≡ byte_count
  pub spare : (a : ℕ) → a < area_count → spare_of w a ≡ 0

-- two tables hold a state
pub record Holds (w b : List ℕ) (s : State) : Type 0 where
  pub sized : Shaped w b
  pub state : state_of w b ≡ s
