-- What is claimed after every list of calls: the third demand, what loads, reads, entries, exits, starts of helpers and removals answer, the rights table
-- in force, and where the scopes lie. Each claim is a field of one record.
-- Assumes nothing.
use Rattle.std.specs.Prelude.{ℕ, suc, ◌+◌, ◌*◌, ◌≤◌, ◌<◌, Bool, true, false, List, [], ◌∷◌, ◌≡◌, ◌≢◌, ◌↔◌, ◌⊎◌, eqb, length}
use Rattle.layout.specs.Choice.{pick}
use Rattle.layout.specs.Handle.{null, offset_of, area_of}
use Rattle.bitmap.specs.Bitmap.{bit_at}
use Rattle.rights.specs.Rights.{Loadable}
use Rattle.rights.specs.declared.Right.TheVariants.{Use}
use Rattle.model.specs.State.{State, Memory, area_at, thread_at, stack_at, current, is_made, is_open, display_at, display_holds, store_of, word_at}
use Rattle.model.specs.Blocks.{block_words, block_count, blocks_for, first_block}
use Rattle.model.specs.Checks.{is_started, live}
use Rattle.model.specs.Calls.{enter, exit, start_helper, remove, allocate, load, read, load_rights}
use Rattle.model.specs.Run.{Element, Line, World, run}
use Rattle.model.specs.History.{Object, History, started_in, made_in, thread_row, occurrences, total, history_of}
use Rattle.model.specs.Values.{read_status, read_value, entry_generation, entries_left, load_answer, table_after, may_in, helper_answer, remove_answer}

-- ---- the words of the claims

-- "Open means on some row."
abbrev pub Open : History → ℕ → Type 0
Open b a = (2 ≤ a) × (0 < total a b.rows)

-- "A walk goes from a scope to its parent and so on; it meets the scope itself and then its ancestors, the outermost last."
pub data Walk (parent : ℕ → ℕ) : ℕ → List ℕ → Type 0 where
  ends : Walk parent 0 []
  goes : {a : ℕ} {l : List ℕ} → 2 ≤ a → Walk parent (parent a) l → Walk parent a (a ∷ l)

-- from b the walk meets a
pub data Meets (parent : ℕ → ℕ) (a : ℕ) : ℕ → Type 0 where
  here : Meets parent a a
  up : {b : ℕ} → 2 ≤ b → Meets parent a (parent b) → Meets parent a b

-- "In their order means that on the row each one met stands below the one met before it, outermost lowest."
pub data InOrder : List ℕ → List ℕ → Type 0 where
  none : {r : List ℕ} → InOrder [] r
  keep : {a : ℕ} {l r : List ℕ} → InOrder l r → InOrder (a ∷ l) (a ∷ r)
  skip : {x : ℕ} {l r : List ℕ} → InOrder l r → InOrder l (x ∷ r)

-- "the scan [says yes] if on the thread's row A stands no higher than B": from the top down to b, and from there down to a
unfoldable pub on_row : ℕ → List ℕ → Bool
on_row a [] = false
on_row a (x ∷ l) = pick (eqb x a) true (on_row a l)

unfoldable pub scan : ℕ → ℕ → List ℕ → Bool
scan a b [] = false
scan a b (x ∷ l) = pick (eqb x b) (on_row a (x ∷ l)) (scan a b l)

-- o is one of a list of objects. "An object is live until it is gone": the live ones are those that the history has in an area.
pub data In (o : Object) : List Object → Type 0 where
  first : {l : List Object} → In o (o ∷ l)
  later : {x : Object} {l : List Object} → In o l → In o (x ∷ l)

-- a number is one of a list
pub data Among (x : ℕ) : List ℕ → Type 0 where
  first : {l : List ℕ} → Among x (x ∷ l)
  later : {y : ℕ} {l : List ℕ} → Among x l → Among x (y ∷ l)

-- object o of area a lies inside: its handle has that area, its last word is a used one, the used words are the area's, and the area ends
-- within its store
pub record Within (s : State) (m : Memory) (a : ℕ) (o : Object) : Type 0 where
  pub area : area_of o.handle ≡ a
  pub number : a < 64
  pub ends : suc (offset_of o.handle + o.slots + o.data_words) ≤ (area_at s a).used
  pub used : (area_at s a).used ≤ (area_at s a).size
  pub inside : (area_at s a).start + (area_at s a).size ≤ length (store_of m a)

-- scope a lies in whole blocks: it starts with its first block, and the blocks that hold its size, by the history, end within those of scratch
pub record Room (s : State) (b : History) (a : ℕ) : Type 0 where
  pub start : (area_at s a).start ≡ block_words * first_block (area_at s a)
  pub ends : first_block (area_at s a) + blocks_for (b.sizes a) ≤ block_count s

-- block k is one of those of a scope that is made, by the history
pub record Uses (s : State) (b : History) (k : ℕ) : Type 0 where
  pub scope : ℕ
  pub low : 2 ≤ scope
  pub from : first_block (area_at s scope) ≤ k
  pub to : k < first_block (area_at s scope) + blocks_for (b.sizes scope)

-- a line of an accepted allocation that gave x, by a thread whose row has area a on top
pub record Allocates (b : History) (l : Line) (x a : ℕ) : Type 0 where
  pub thread : ℕ
  pub slots : ℕ
  pub data_words : ℕ
  pub call : l.call ≡ allocate thread slots data_words
  pub accepted : l.reply.status ≡ 0
  pub gave : l.reply.value ≡ x
  pub area : current (thread_row b thread) ≡ a

-- by the list of calls alone: an allocation gave x in area a, and if a is a scope, it has not been empty of threads since. The newest line
-- is the first.
pub data Since (x a : ℕ) : List Line → Type 0 where
  made : {l : Line} {ls : List Line} → Allocates (history_of ls) l x a → Since x a (l ∷ ls)
  stays : {l : Line} {ls : List Line} → Since x a ls → (2 ≤ a → Open (history_of (l ∷ ls)) a) → Since x a (l ∷ ls)

-- "names the object with that handle": x is the handle of a live object of the history, one "in the heap, in immortal memory, or in a scope
-- that, by the list of calls alone, has never been empty of threads since that object was made"
pub record Names (b : History) (ls : List Line) (x : ℕ) : Type 0 where
  pub area : ℕ
  pub object : Object
  pub live : In object (b.objects area)
  pub handle : object.handle ≡ x
  pub since : Since x area ls

-- a line of the trace, and the lines before it
pub data Follows (l : Line) (before : List Line) : List Line → Type 0 where
  newest : Follows l before (l ∷ before)
  older : {k : Line} {ls : List Line} → Follows l before ls → Follows l before (k ∷ ls)

-- ---- the claims

-- Of a world that a list of calls has led to, with its history. None holds by a read past the end of a table or of a store: there a thread is
-- not started, an area is not open, a row is empty, a map bit is 0, an entry of a display is 0, which is no scope. Threads and scopes that
-- the history has lie inside (threads, scopes), and so do the entries of a stack, which would read as the heap (room), and every slot of a
-- live object, which would read as null (within).
pub record Claims (w : World) (b : History) : Type 0 where
  -- 1. "The core has the book's started threads, stacks, open scopes and parents."
  pub started : (t : ℕ) → is_started w.state t ≡ started_in b t
  pub kinds : (t : ℕ) → (thread_at w.state t).kind ≡ b.kinds t
  pub stacks : (t : ℕ) → stack_at w.state t ≡ thread_row b t
  pub opens : (a : ℕ) → 2 ≤ a → (is_open w.state a ≡ true) ↔ Open b a
  pub parents : (a : ℕ) → (area_at w.state a).parent ≡ b.parents a
  -- a scope's "count of entries" is how many entries it has on all rows, those that a helper received from its starter among them
  pub counts : (a : ℕ) → 2 ≤ a → (area_at w.state a).count ≡ total a b.rows
  -- "Each open scope has a display: the row of its ancestors, outermost first, itself last." One that is not open has none.
  pub displays : (a : ℕ) → Open b a → Walk b.parents a (display_at w.state a)
  pub dropped : (a : ℕ) → is_open w.state a ≡ false → display_at w.state a ≡ []
  -- "2 to 63 scopes. Threads are 0 to 15."
  pub threads : (t : ℕ) → started_in b t ≡ true → t < 16
  pub scopes : (a : ℕ) → Open b a → a < 64
  -- "A stack has at most 32 entries."
  pub heights : (t : ℕ) → length (thread_row b t) ≤ 32
  pub room : (t : ℕ) → (thread_at w.state t).len ≤ length (thread_at w.state t).entries
  -- 2. "Every thread in a scope stands in all that scope's ancestors, in their order."
  pub order : (t a : ℕ) → 2 ≤ a → 0 < occurrences a (thread_row b t) → (l : List ℕ) × Walk b.parents a l × InOrder l (thread_row b t)
  -- 3. "Every reference in a live object is null or names a live object: one in the heap, in immortal memory, or in a scope that, by the list
  -- of calls alone, has never been empty of threads since that object was made." "a reference is the lent word in one of its slots"
  pub references : (a : ℕ) (o : Object) → In o (b.objects a) → (i : ℕ) → i < o.slots
      → (word_at w.state w.memory a (suc (offset_of o.handle + i)) ≡ null)
      ⊎ Names b w.trace (word_at w.state w.memory a (suc (offset_of o.handle + i)))
  pub within : (a : ℕ) (o : Object) → In o (b.objects a) → Within w.state w.memory a o
  -- 4. "A number is a live handle exactly when an allocation gave it for a live object"
  pub handles : (x : ℕ) → (live w.state w.memory x ≡ true) ↔ Names b w.trace x
  -- "names the object with that handle": no two live objects have one handle
  pub unique : (a c : ℕ) (o p : Object) → In o (b.objects a) → In p (b.objects c) → o.handle ≡ p.handle → (a ≡ c) × (o ≡ p)
  -- 5. "a handle whose object is gone is never accepted as one again": not after any rest of the list
  pub gone : (rest : List Element) (x : ℕ) → Among x b.gone → live (run w rest).state (run w rest).memory x ≡ false
  -- 6. "The display's verdict equals a walk of the parents for any two open scopes, and a scan of a thread's stack when both stand on it."
  -- What one look says is whether "the core's display of B holds A".
  pub looks : (a c : ℕ) → 2 ≤ a → Open b c → (display_holds w.state a c ≡ true) ↔ (0 < occurrences a (display_at w.state c))
  pub walked : (a c : ℕ) → Open b a → Open b c → (display_holds w.state a c ≡ true) ↔ Meets b.parents a c
  pub scanned : (t a c : ℕ) → 2 ≤ a → 2 ≤ c → 0 < occurrences a (thread_row b t) → 0 < occurrences c (thread_row b t)
      → display_holds w.state a c ≡ scan a c (thread_row b t)
  -- 7. "No op 08 in it yields 15."
  pub loads : (l : Line) (before : List Line) → Follows l before w.trace → (t p q : ℕ) → l.call ≡ load t p q → l.reply.status ≢ 15
  -- 8. The values, by the lines before. A load gives the word last stored in that slot since the object was made, null if none.
  pub loaded : (l : Line) (before : List Line) → Follows l before w.trace → (t p q : ℕ) → l.call ≡ load t p q
      → l.reply.status ≡ 0 → l.reply.value ≡ (history_of before).stored p q
  -- "a read of a live handle, not refused by 1" or 2, "by a thread with right U, at an index below d, must give the last word accepted for that
  -- handle and index, or 19 if there is none" since the object was made.
  pub reads : (l : Line) (before : List Line) → Follows l before w.trace → (t p q : ℕ) → l.call ≡ read t p q
      → l.reply.status ≢ 1 → l.reply.status ≢ 2
      → (a : ℕ) (o : Object) → In o ((history_of before).objects a) → o.handle ≡ p → q < o.data_words
      → may_in before t Use a ≡ true
      → (l.reply.status ≡ read_status ((history_of before).written p q)) × (l.reply.value ≡ read_value ((history_of before).written p q))
  -- An entry that opens a scope gives one more than its last opening gave, 1 if there was none; another entry of it gives what its opening gave;
  -- one of heap or immortal gives 1.
  pub entries : (l : Line) (before : List Line) → Follows l before w.trace → (t q : ℕ) → l.call ≡ enter t q
      → l.reply.status ≡ 0 → l.reply.value ≡ entry_generation q before
  -- An exit gives the number of entries of the scope taken off that are left on all rows, 0 for heap and immortal.
  pub exits : (l : Line) (before : List Line) → Follows l before w.trace → (t : ℕ) → l.call ≡ exit t
      → l.reply.status ≡ 0 → l.reply.value ≡ entries_left (history_of before) t
  -- 9. The rights table in force, by the lines: that of the newest accepted load, or the constant one.
  pub rights : w.state.rights ≡ table_after w.trace
  -- "Loading allows only 0 and 1, and A only with U."
  pub loadable : Loadable w.state.rights
  -- A load answers by its text and the lines before: where any thread is started, it is refused, so no started thread's rights change.
  pub reloads : (l : Line) (before : List Line) → Follows l before w.trace → (text : List ℕ) → l.call ≡ load_rights text
      → l.reply.status ≡ load_answer (history_of before) text
  -- 10. The start of a helper answers by the lines before: so none has a kind that may not enter each area of its starter's row, by the table in force.
  pub helpers : (l : Line) (before : List Line) → Follows l before w.trace → (t p q : ℕ) → l.call ≡ start_helper t p q
      → l.reply.status ≢ 1 → l.reply.status ≡ helper_answer before t p q
  -- 11. Which scopes are made, by the lines: a removed one is not. Its size is the one that was asked for, not that of its room.
  pub made : (a : ℕ) → is_made w.state a ≡ made_in b a
  pub sizes : (a : ℕ) → 2 ≤ a → (area_at w.state a).size ≡ b.sizes a
  -- "Scratch is now handed out in whole blocks of 16 words (a shorter rest of S is not used)"
  pub rooms : (a : ℕ) → 2 ≤ a → 0 < b.sizes a → Room w.state b a
  -- No two scopes that are made share a word.
  pub apart : (a c : ℕ) → 2 ≤ a → 2 ≤ c → a ≢ c → (j k : ℕ) → j < b.sizes a → k < b.sizes c
      → (area_at w.state a).start + j ≢ (area_at w.state c).start + k
  -- "a vector of used bits": those of the blocks of scopes that are made are 1, and no other; so 0c "frees its room", and nothing else does
  pub used : (k : ℕ) → (bit_at w.state.used_bits k ≡ 1) ↔ Uses w.state b k
  -- A removal answers by the lines before: so no open scope is ever removed, and one that was removed is not there until it is made again.
  pub removes : (l : Line) (before : List Line) → Follows l before w.trace → (t q : ℕ) → l.call ≡ remove t q
      → l.reply.status ≢ 1 → l.reply.status ≡ remove_answer (history_of before) t q
