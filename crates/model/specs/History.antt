-- What document 01 calls the book: "fed the calls' arguments and answers alone and .. empty at set-up". By its type it sees nothing else.
-- Assumes nothing.
use Rattle.std.specs.Prelude.{ℕ, suc, ◌+◌, Bool, ◌&&◌, ◌||◌, List, [], ◌∷◌, ◌++◌, map, eqb, ltb, get_or, set, replicate}
use Rattle.layout.specs.Choice.{pick}
use Rattle.layout.specs.Handle.{null}
use Rattle.model.specs.State.{current, innermost, is_scope}
use Rattle.model.specs.Calls.{Call, start, end, make, enter, exit, start_helper, remove, allocate, store, write, asks, configure}
use Rattle.model.specs.Run.{Line}

-- an object made: its handle, its slots and its data words
pub record Object : Type 0 where
  pub handle : ℕ
  pub slots : ℕ
  pub data_words : ℕ

-- "a row of areas for each started thread, a parent for each open scope, and the objects made": a row has its top first; a parent is 0 for
-- none; the live objects stand by area, the newest first; gone has the handles of the objects that are gone. Beside these, as arguments and
-- answers tell them: the kind of each thread, 0 while it is not started; the size of each scope that is made, 0 where it is not; of the object with a handle, each slot as last stored, null if it
-- never was, and each data word as last written, 0 if it never was and suc v for the word v.
pub record History : Type 0 where
  pub kinds : ℕ → ℕ
  pub rows : List (List ℕ)
  pub parents : ℕ → ℕ
  pub sizes : ℕ → ℕ
  pub objects : ℕ → List Object
  pub gone : List ℕ
  pub stored : ℕ → ℕ → ℕ
  pub written : ℕ → ℕ → ℕ

unfoldable pub blank : History
blank = record {
  kinds = λ t. 0;
  rows = replicate 16 [];
  parents = λ a. 0;
  sizes = λ a. 0;
  objects = λ a. [];
  gone = [];
  stored = λ h i. null;
  written = λ h i. 0;
}

-- a started thread has a kind
abbrev pub started_in : History → ℕ → Bool
started_in b t = ltb 0 (b.kinds t)

-- "A removed scope counts as not made": heap and immortal are always there, a scope while it has a size
abbrev pub made_in : History → ℕ → Bool
made_in b a = ltb a 2 || ltb 0 (b.sizes a)

abbrev pub thread_row : History → ℕ → List ℕ
thread_row b t = get_or b.rows t []

-- f with v at q
unfoldable pub put_at {ℓ} : {A : Type ℓ} → (ℕ → A) → ℕ → A → ℕ → A
put_at f q v a = pick (eqb a q) v (f a)

abbrev pub below : List ℕ → List ℕ
below [] = []
below (x ∷ l) = l

-- how often a stands on a row, and on all rows
unfoldable pub occurrences : ℕ → List ℕ → ℕ
occurrences a [] = 0
occurrences a (x ∷ l) = pick (eqb x a) 1 0 + occurrences a l

unfoldable pub total : ℕ → List (List ℕ) → ℕ
total a [] = 0
total a (r ∷ rs) = occurrences a r + total a rs

abbrev pub handles : List Object → List ℕ
handles os = map (λ (o : Object). o.handle) os

-- q is "a scope on no row"
abbrev pub is_scope_on_none : ℕ → List (List ℕ) → Bool
is_scope_on_none q rows = is_scope q && eqb (total q rows) 0

-- a thread has a kind, 0 for none, and a row
unfoldable pub history_thread : History → ℕ → ℕ → List ℕ → History
history_thread b t kind row = record {
  kinds = put_at b.kinds t kind;
  rows = set b.rows t row;
  parents = b.parents;
  sizes = b.sizes;
  objects = b.objects;
  gone = b.gone;
  stored = b.stored;
  written = b.written;
}

-- "01 gives the thread an empty row, 02 takes it away": its kind then, 0 for 02
abbrev pub history_start : History → ℕ → ℕ → History
history_start b t kind = history_thread b t kind []

-- 0b by thread t: "The new thread receives the same entries", so the row of thread q becomes a copy of the starter's
abbrev pub history_helper : History → ℕ → ℕ → ℕ → History
history_helper b t kind q = history_thread b q kind (thread_row b t)

-- 03 makes scope q of a size; 0c removes it, and it has none
unfoldable pub history_size : History → ℕ → ℕ → History
history_size b q size = record {
  kinds = b.kinds;
  rows = b.rows;
  parents = b.parents;
  sizes = put_at b.sizes q size;
  objects = b.objects;
  gone = b.gone;
  stored = b.stored;
  written = b.written;
}

-- "04: where q is a scope on no row, its parent becomes the innermost scope of the thread's row, or none. Then q goes on top of that row."
unfoldable pub history_enter : History → ℕ → ℕ → History
history_enter b t q = record {
  kinds = b.kinds;
  rows = set b.rows t (q ∷ thread_row b t);
  parents = pick (is_scope_on_none q b.rows) (put_at b.parents q (innermost (thread_row b t))) b.parents;
  sizes = b.sizes;
  objects = b.objects;
  gone = b.gone;
  stored = b.stored;
  written = b.written;
}

-- "05 takes the top off. If that leaves a scope on no row, it has no parent and its objects are gone."
unfoldable pub history_exit : History → ℕ → History
history_exit b t =
    let q : ℕ = current (thread_row b t) in
    let left : List (List ℕ) = set b.rows t (below (thread_row b t)) in
    record {
      kinds = b.kinds;
      rows = left;
      parents = pick (is_scope_on_none q left) (put_at b.parents q 0) b.parents;
      sizes = b.sizes;
      objects = pick (is_scope_on_none q left) (put_at b.objects q []) b.objects;
      gone = pick (is_scope_on_none q left) (handles (b.objects q) ++ b.gone) b.gone;
      stored = b.stored;
      written = b.written;
    }

-- "06 makes an object: its handle is the value, it has q slots, its area is the row's top, or the heap if the row is empty." Nothing has been
-- stored or written in it.
unfoldable pub history_allocate : History → ℕ → Object → History
history_allocate b t o =
    let a : ℕ = current (thread_row b t) in
    record {
      kinds = b.kinds;
      rows = b.rows;
      parents = b.parents;
      sizes = b.sizes;
      objects = put_at b.objects a (o ∷ b.objects a);
      gone = b.gone;
      stored = put_at b.stored o.handle (λ i. null);
      written = put_at b.written o.handle (λ i. 0);
    }

-- f with v for word i of handle h
abbrev pub put_word : (ℕ → ℕ → ℕ) → ℕ → ℕ → ℕ → ℕ → ℕ → ℕ
put_word f h i v = put_at f h (put_at (f h) i v)

-- what is stored and what is written in the objects
unfoldable pub history_words : History → (ℕ → ℕ → ℕ) → (ℕ → ℕ → ℕ) → History
history_words b stored written = record {
  kinds = b.kinds;
  rows = b.rows;
  parents = b.parents;
  sizes = b.sizes;
  objects = b.objects;
  gone = b.gone;
  stored = stored;
  written = written;
}

-- "store reference (p object, q slot, r target)": "the book keeps the references stored"
abbrev pub history_store : History → ℕ → ℕ → ℕ → History
history_store b p q r = history_words b (put_word b.stored p q r) b.written

-- "write data (p, q, r)": "the last word accepted for that handle and index"
abbrev pub history_write : History → ℕ → ℕ → ℕ → History
history_write b p q r = history_words b b.stored (put_word b.written p q (suc r))

-- an accepted call with its value; "The rest .. change nothing."
abbrev pub history_step : History → Call → ℕ → History
history_step b (start t p) v = history_start b t p
history_step b (end t) v = history_start b t 0
history_step b (make t q r) v = history_size b q r
history_step b (enter t q) v = history_enter b t q
history_step b (exit t) v = history_exit b t
history_step b (start_helper t p q) v = history_helper b t p q
history_step b (remove t q) v = history_size b q 0
history_step b (allocate t q r) v = history_allocate b t (record { handle = v; slots = q; data_words = r })
history_step b (store t p q r) v = history_store b p q r
history_step b (write t p q r) v = history_write b p q r
history_step b (asks x) v = b
history_step b (configure x) v = b

-- ".. and any refused call, change nothing."
unfoldable pub history_line : History → Line → History
history_line b l = pick (eqb l.reply.status 0) (history_step b l.call l.reply.value) b

-- the history after the lines of a list, the newest first, where b is what went before
unfoldable pub history_from : History → List Line → History
history_from b [] = b
history_from b (l ∷ ls) = history_line (history_from b ls) l

-- ".. empty at set-up"
abbrev pub history_of : List Line → History
history_of ls = history_from blank ls
