-- Two stores, of which one is written: that of an area.
-- Assumes nothing.
use Rattle.std.specs.Prelude.{ℕ, ◌+◌, ◌*◌, ◌%◌, ◌≤◌, ◌<◌, Bool, true, false, List, ◌≡◌, refl, length, set}
use Rattle.std.proofs.Common.{arith, add-one, le-leb}
use Rattle.std.proofs.lemmas.Bool.{lt-leb}
use Rattle.layout.specs.Choice.{pick}
use Rattle.layout.specs.Header.{header_of}
use Rattle.bitmap.specs.Bitmap.{with_bit, cleared}
use Rattle.bitmap.specs.Marks.{marked_run}
use Rattle.model.specs.State.{is_scope, with_store}
use Rattle.model.specs.Objects.{filled, object_words, object_bits}
use Rattle.tables.specs.Contract.{memory_of}

-- the bits before those of a store are no more than the permanent words
pub pick_most : (b : Bool) (n : ℕ) → pick b n 0 ≤ n
pick_most true n = omega arith
pick_most false n = omega arith

-- the stores p and s, where that of area a has become l
pub record StoreWritten (p' s' p s : List ℕ) (a : ℕ) (l : List ℕ) : Type 0 where
  pub permanent_is : p' ≡ pick (is_scope a) p l
  pub scratch_is : s' ≡ pick (is_scope a) l s

-- the store that has an area's words
abbrev pub store_in : List ℕ → List ℕ → ℕ → List ℕ
store_in permanent scratch a = pick (is_scope a) scratch permanent

-- of the two stores p and s that a function is lent, that of area a has changed by f; they are p' and s' then
abbrev pub Stores : List ℕ → List ℕ → List ℕ → List ℕ → ℕ → (List ℕ → List ℕ) → Type 0
Stores p s p' s' a f = StoreWritten p' s' p s a (f (store_in p s a))

pub stored_permanent : (p s : List ℕ) (a : ℕ) (f : List ℕ → List ℕ) → a < 2 → StoreWritten (f p) s p s a (f (pick (is_scope a) s p))
stored_permanent p s a f h = record { permanent_is = rw (lt-leb 2 a h); scratch_is = rw (lt-leb 2 a h) }

pub stored_scratch : (p s : List ℕ) (a : ℕ) (f : List ℕ → List ℕ) → 2 ≤ a → StoreWritten p (f s) p s a (f (pick (is_scope a) s p))
stored_scratch p s a f h = record { permanent_is = rw (le-leb 2 a h); scratch_is = rw (le-leb 2 a h) }

-- the memory that they make
pub stored_memory : {p' s' p s l : List ℕ} {a : ℕ} → StoreWritten p' s' p s a l → (m x : List ℕ) → memory_of p' s' m x ≡ with_store (memory_of p s m x) a l
unfolding with_store
stored_memory z m x = rw (z.permanent_is, z.scratch_is) refl

-- an object that is written: its words in a store, of which x is the header, and its bits in the map
pub object_written : (l : List ℕ) (at slots data_words : ℕ) {x : ℕ} → slots < 16384 → data_words < 16384 → x ≡ header_of (slots % 16384) (data_words % 16384)
    → set (filled l (at + 1) (slots + data_words) 0) at x ≡ object_words l at slots data_words
unfolding object_words
object_written l at slots data_words hs hd e =
    let es : slots % 16384 ≡ slots = omega arith in
    let ed : data_words % 16384 ≡ data_words = omega arith in
    rw (e, es, ed, add-one) refl

pub object_marked : (l : List ℕ) (bit n : ℕ) → bit + 1 + n ≤ 64 * length l → with_bit (cleared l bit (n + 1)) bit ≡ object_bits l bit n
unfolding object_bits
object_marked l bit n h = rw add-one (marked_run l bit n (omega arith))
