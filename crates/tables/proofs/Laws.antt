-- Reading the state after a write of one record of a table; and the tables are told by their state.
-- Assumes nothing.
use Rattle.std.specs.Prelude.{◌≡◌, ◌⊎◌, ◌≢◌, Bool, true, false, ltb}
use Rattle.std.proofs.Math.Path.{refl, sym, ap}
use Rattle.std.proofs.Common.{◌∙◌, add-zero, arith, ltb-true, ltb-false, ext_get_or}
use mathlib.Core.List.{List, [], ◌∷◌}
use Rattle.std.proofs.Math.Logic.{inl, inr, ⊎_elim}
use Prim.Native.Nat.{ℕ, zero, suc, ◌+◌, ◌-◌, ◌/◌, ◌%◌, ◌≤◌, ◌<◌}
use Rattle.std.proofs.Math.ListN.{length, get_or, set, length-set}
use Rattle.std.proofs.Math.Seq.{get_or-set_same, get_or-set_other}
use Rattle.rights.specs.Rights.{table_size}
use Rattle.model.specs.declared.Area.{Area}
use Rattle.model.specs.declared.Lengths.{Lengths}
use Rattle.model.specs.State.{State, Thread, no_area, no_thread, area_at, row_at, thread_at, with_area, with_row, with_thread, with_used_bits, with_rights, made_as, is_made}
use Rattle.tables.specs.declared.ThreadWords.{ThreadWords}
use Rattle.tables.specs.declared.Entry.{Entry}
use Rattle.tables.specs.Cut.{cut, put, each, from, get_d_cut, cut_ext, length_cut, length_put, cut_put, cut_put_other, get_d_put_other, cut_set, cut_set_other, each_at, each_set, each_same}
use Rattle.tables.specs.Decode.{area_count, thread_count, area_words, area_index, threads_at, thread_words, thread_index, lengths_at, used_bits_at, used_bits_words, word_count, row_bytes, row_index, inner_rows, display_rows, row_count, rights_at, byte_count}
use Rattle.tables.specs.Decode.{area_record, spare_of, put_area, lengths_record, put_lengths, used_bits_of, put_used_bits, byte_row, put_byte_row, byte_of, put_byte, thread_record, put_thread, entry_record, put_entry, copy_stack, thread_of, display_row, put_row, rights_of, right_of, put_rights, state_of, Shaped, Holds}

-- ---- the records of a table's state

pub byte_read : (b : List ℕ) (n k : ℕ) → k < row_bytes → get_or (byte_row b n) k 0 ≡ byte_of b n k
unfolding byte_row
byte_read b n k h = get_d_cut b (row_index n) row_bytes k h

length_byte_row : (b : List ℕ) (n : ℕ) → length (byte_row b n) ≡ row_bytes
unfolding byte_row
length_byte_row b n = length_cut b (row_index n) row_bytes

pub length_row : (b : List ℕ) (a : ℕ) → length (display_row b a) ≡ row_bytes
unfolding display_row
length_row b a = length_byte_row b (display_rows + a)

used_word_read : (w : List ℕ) (i : ℕ) → i < used_bits_words → get_or (used_bits_of w) i 0 ≡ get_or w (used_bits_at + i) 0
unfolding used_bits_of
used_word_read w i h = get_d_cut w used_bits_at used_bits_words i h

module _ (w b : List ℕ) where
  pub area_read : (a : ℕ) → a < area_count → area_at (state_of w b) a ≡ area_record w a
  unfolding state_of
  area_read a h = each_at (area_record w) area_count a no_area h

  -- whether it is made, where x is its record
  pub made_read : (a : ℕ) {x : Area} → a < area_count → x ≡ area_record w a → is_made (state_of w b) a ≡ made_as x a
  unfolding is_made
  made_read a h e = ap (λ (y : Area). made_as y a) (area_read a h ∙ sym e)

  pub row_read : (a : ℕ) → a < area_count → row_at (state_of w b) a ≡ display_row b a
  unfolding state_of
  row_read a h = each_at (display_row b) area_count a [] h

  pub thread_read : (t : ℕ) → t < thread_count → thread_at (state_of w b) t ≡ thread_of w b t
  unfolding state_of
  thread_read t h = each_at (thread_of w b) thread_count t no_thread h

  -- where x are the words of a thread
  pub kind_read : (t : ℕ) {x : ThreadWords} → t < thread_count → x ≡ thread_record w t → (thread_at (state_of w b) t).kind ≡ x.kind
  unfolding thread_of
  kind_read t h e = ap (λ (y : Thread). y.kind) (thread_read t h) ∙ sym (ap (λ (y : ThreadWords). y.kind) e)

  pub len_read : (t : ℕ) {x : ThreadWords} → t < thread_count → x ≡ thread_record w t → (thread_at (state_of w b) t).len ≡ x.len
  unfolding thread_of
  len_read t h e = ap (λ (y : Thread). y.len) (thread_read t h) ∙ sym (ap (λ (y : ThreadWords). y.len) e)

  pub entry_read : (t k : ℕ) → t < thread_count → k < row_bytes → get_or (thread_at (state_of w b) t).entries k 0 ≡ (entry_record b t k).area
  unfolding thread_of
  entry_read t k h g = ap (λ (x : Thread). get_or x.entries k 0) (thread_read t h) ∙ byte_read b t k g

  pub inner_read : (t k : ℕ) → t < thread_count → k < row_bytes → get_or (thread_at (state_of w b) t).inner k 0 ≡ (entry_record b t k).inner
  unfolding thread_of
  inner_read t k h g = ap (λ (x : Thread). get_or x.inner k 0) (thread_read t h) ∙ byte_read b (inner_rows + t) k g

  pub lengths_read : (state_of w b).lengths ≡ lengths_record w
  unfolding state_of
  lengths_read = refl

  pub used_bits_read : (state_of w b).used_bits ≡ used_bits_of w
  unfolding state_of
  used_bits_read = refl

  pub right_read : (i : ℕ) → i < table_size → get_or (state_of w b).rights i 0 ≡ right_of b i
  unfolding state_of rights_of
  right_read i h = get_d_cut b rights_at table_size i h

-- ---- two numbers

order : (a b : ℕ) → (b < a) ⊎ (a ≤ b)
order a b = by (ltb b a) refl
  where
    by : (t : Bool) → ltb b a ≡ t → (b < a) ⊎ (a ≤ b)
    by true e = inl (ltb-true b a e)
    by false e = inr (ltb-false b a e)

sides : (a b : ℕ) → b ≢ a → (b < a) ⊎ (a < b)
sides a b ne = ⊎_elim (λ h. inl h) (λ h. inr (let z : b ≡ a → ⊥ = ne in omega arith)) (order a b)

-- ---- a row of the bytes is written: it is r, and every other is kept, and the rights

record RowWritten (b b' : List ℕ) (n : ℕ) (r : List ℕ) : Type 0 where
  here : byte_row b' n ≡ r
  others : (m : ℕ) → m ≢ n → byte_row b' m ≡ byte_row b m
  rights : rights_of b' ≡ rights_of b
  long : length b' ≡ byte_count

module _ (b : List ℕ) (e : length b ≡ byte_count) (n : ℕ) (l : n < row_count) where
  -- a whole row
  row_written : (r : List ℕ) → length r ≡ row_bytes → RowWritten b (put_byte_row b n r) n r
  unfolding byte_row put_byte_row rights_of
  row_written r k = record {
    here = cut_put b (row_index n) r row_bytes k (omega arith);
    others = λ m ne. cut_put_other b (row_index n) r (row_index m) row_bytes (⊎_elim (λ y. inl (omega arith)) (λ y. inr (omega arith)) (sides n m ne));
    rights = cut_put_other b (row_index n) r rights_at table_size (inr (omega arith));
    long = length_put b (row_index n) r ∙ e;
  }

  -- one byte
  byte_written : (k v : ℕ) → k < row_bytes → RowWritten b (put_byte b n k v) n (set (byte_row b n) k v)
  unfolding byte_row rights_of
  byte_written k v h = record {
    here = cut_set b (row_index n) row_bytes k v h (omega arith);
    others = λ m ne. cut_set_other b (row_index n + k) v (row_index m) row_bytes (⊎_elim (λ y. inr (omega arith)) (λ y. inl (omega arith)) (sides n m ne));
    rights = cut_set_other b (row_index n + k) v rights_at table_size (inl (omega arith));
    long = length-set b (row_index n + k) v ∙ e;
  }

-- ---- an area is a run of words

area_from : List ℕ → Area
area_from l = record { start = get_or l 0 0; size = get_or l 1 0; used = get_or l 2 0; generation = get_or l 3 0; count = get_or l 4 0; parent = get_or l 5 0; depth = get_or l 6 0 }

words_of : Area → List ℕ
words_of x = x.start ∷ x.size ∷ x.used ∷ x.generation ∷ x.count ∷ x.parent ∷ x.depth ∷ []

area_cut : (w : List ℕ) (a : ℕ) → area_record w a ≡ area_from (cut w (area_index a) 7)
unfolding area_from
area_cut w a =
    let at : (k : ℕ) → k < 7 → get_or (cut w (area_index a) 7) k 0 ≡ get_or w (area_index a + k) 0 = λ k h. get_d_cut w (area_index a) 7 k h in
    rw (at 0 (omega arith), at 1 (omega arith), at 2 (omega arith), at 3 (omega arith), at 4 (omega arith), at 5 (omega arith), at 6 (omega arith), add-zero) refl

area_put : (w : List ℕ) (a : ℕ) (x : Area) → put_area w a x ≡ put w (area_index a) (words_of x)
unfolding put words_of
area_put w a x =
    let e1 : area_index a + 1 ≡ suc (area_index a) = omega arith in
    let e2 : area_index a + 2 ≡ suc (suc (area_index a)) = omega arith in
    let e3 : area_index a + 3 ≡ suc (suc (suc (area_index a))) = omega arith in
    let e4 : area_index a + 4 ≡ suc (suc (suc (suc (area_index a)))) = omega arith in
    let e5 : area_index a + 5 ≡ suc (suc (suc (suc (suc (area_index a))))) = omega arith in
    let e6 : area_index a + 6 ≡ suc (suc (suc (suc (suc (suc (area_index a)))))) = omega arith in
    cc

-- the state with other lengths
abbrev pub with_lengths : State → Lengths → State
with_lengths s n = record { areas = s.areas; rows = s.rows; threads = s.threads; lengths = n; used_bits = s.used_bits; rights = s.rights }

-- ---- words that are kept

-- the spare words are 0
abbrev Spared : List ℕ → Type 0
Spared w = (a : ℕ) → a < area_count → spare_of w a ≡ 0

module _ (w w' : List ℕ) where
  -- the areas, and their spare words
  module _ (low : (j : ℕ) → j < threads_at → get_or w' j 0 ≡ get_or w j 0) where
    areas_kept : each (area_record w') area_count ≡ each (area_record w) area_count
    areas_kept = each_same (area_record w) (area_record w') area_count no_area (λ j l.
        rw (low (area_index j) (omega arith), low (area_index j + 1) (omega arith), low (area_index j + 2) (omega arith), low (area_index j + 3) (omega arith), low (area_index j + 4) (omega arith), low (area_index j + 5) (omega arith), low (area_index j + 6) (omega arith)) refl)

    spare_kept : Spared w → Spared w'
    spare_kept s a l = low (area_index a + 7) (omega arith) ∙ s a l

  -- the threads
  threads_kept : ((j : ℕ) → threads_at ≤ j → j < lengths_at → get_or w' j 0 ≡ get_or w j 0) → (b : List ℕ) → each (thread_of w' b) thread_count ≡ each (thread_of w b) thread_count
  unfolding thread_of
  threads_kept mid b = each_same (thread_of w b) (thread_of w' b) thread_count no_thread (λ j l.
      rw (mid (thread_index j) (omega arith) (omega arith), mid (thread_index j + 1) (omega arith) (omega arith)) refl)

  -- the used bits
  bits_kept : ((j : ℕ) → used_bits_at ≤ j → get_or w' j 0 ≡ get_or w j 0) → used_bits_of w' ≡ used_bits_of w
  unfolding used_bits_of
  bits_kept high = cut_ext w' w used_bits_at used_bits_words (λ k l. high (used_bits_at + k) (omega arith))

module _ (w b : List ℕ) where
  -- ---- an area is written

  area_laid : (a : ℕ) (x : Area) → a < area_count → length w ≡ word_count → state_of (put w (area_index a) (words_of x)) b ≡ with_area (state_of w b) a x
  unfolding state_of with_area words_of area_from
  area_laid a x h e =
      let v : List ℕ = put w (area_index a) (words_of x) in
      let same : area_record v a ≡ x = area_cut v a ∙ ap area_from (cut_put w (area_index a) (words_of x) 7 refl (omega arith)) in
      let areas : each (area_record v) area_count ≡ set (each (area_record w) area_count) a x
      = each_set (area_record w) (area_record v) area_count a x same
      (λ j l ne. area_cut v j ∙ ap area_from (cut_put_other w (area_index a) (words_of x) (area_index j) 7 (⊎_elim (λ y. inl (omega arith)) (λ y. inr (omega arith)) (sides a j ne))) ∙ sym (area_cut w j)) in
      let high : (j : ℕ) → threads_at ≤ j → get_or v j 0 ≡ get_or w j 0 = λ j l. get_d_put_other w (area_index a) (words_of x) j (inr (omega arith)) in
      rw (areas, threads_kept w v (λ j l k. high j l) b, high lengths_at (omega arith), high (lengths_at + 1) (omega arith), high (lengths_at + 2) (omega arith), bits_kept w v (λ j l. high j (omega arith))) refl

  -- the spare words are passed over
  area_spare : (a : ℕ) (x : Area) → Spared w → Spared (put_area w a x)
  unfolding words_of
  area_spare a x s j l =
      ap (λ (v : List ℕ). spare_of v j) (area_put w a x)
      ∙ get_d_put_other w (area_index a) (words_of x) (area_index j + 7) (⊎_elim (λ y. inl (omega arith)) (λ y. inr (omega arith)) (order a j))
      ∙ s j l

  pub state_area : (a : ℕ) (x : Area) → a < area_count → Shaped w b → Holds (put_area w a x) b (with_area (state_of w b) a x)
  state_area a x h z = record {
    sized = record { words = simp length-set z.words; bytes = z.bytes; spare = area_spare a x z.spare };
    state = ap (λ (v : List ℕ). state_of v b) (area_put w a x) ∙ area_laid a x h z.words;
  }

  -- ---- a display is written

  pub state_row : (a : ℕ) (r : List ℕ) → a < area_count → length r ≡ row_bytes → Shaped w b → Holds w (put_row b a r) (with_row (state_of w b) a r)
  unfolding state_of with_row put_row display_row thread_of
  state_row a r h k z =
      let p : RowWritten b (put_row b a r) (display_rows + a) r = row_written b z.bytes (display_rows + a) (omega arith) r k in
      let rows : each (display_row (put_row b a r)) area_count ≡ set (each (display_row b) area_count) a r
      = each_set (display_row b) (display_row (put_row b a r)) area_count a r p.here (λ j l ne. p.others (display_rows + j) (λ e. ne (omega arith))) in
      let threads : each (thread_of w (put_row b a r)) thread_count ≡ each (thread_of w b) thread_count
      = each_same (thread_of w b) (thread_of w (put_row b a r)) thread_count no_thread
      (λ j l. rw (p.others j (λ e. omega arith), p.others (inner_rows + j) (λ e. omega arith)) refl) in
      record { sized = record { words = z.words; bytes = p.long; spare = z.spare }; state = rw (rows, threads, p.rights) refl }

  -- ---- a thread is written: its words, its entries

  record ThreadWritten (w' b' : List ℕ) (t : ℕ) (h : Thread) : Type 0 where
    here : thread_of w' b' t ≡ h
    words : (j : ℕ) → j ≢ thread_index t → j ≢ thread_index t + 1 → get_or w' j 0 ≡ get_or w j 0
    rows : (n : ℕ) → n ≢ t → n ≢ inner_rows + t → byte_row b' n ≡ byte_row b n
    rights : rights_of b' ≡ rights_of b
    long : length w' ≡ word_count
    wide : length b' ≡ byte_count

  thread_laid : (w' b' : List ℕ) (t : ℕ) (h : Thread) → t < thread_count → Shaped w b → ThreadWritten w' b' t h → Holds w' b' (with_thread (state_of w b) t h)
  unfolding state_of with_thread display_row thread_of
  thread_laid w' b' t h lt s z =
      let low : (j : ℕ) → j < threads_at → get_or w' j 0 ≡ get_or w j 0 = λ j k. z.words j (λ e. omega arith) (λ e. omega arith) in
      let high : (j : ℕ) → lengths_at ≤ j → get_or w' j 0 ≡ get_or w j 0 = λ j k. z.words j (λ e. omega arith) (λ e. omega arith) in
      let rows : each (display_row b') area_count ≡ each (display_row b) area_count
      = each_same (display_row b) (display_row b') area_count [] (λ j l. z.rows (display_rows + j) (λ e. omega arith) (λ e. omega arith)) in
      let threads : each (thread_of w' b') thread_count ≡ set (each (thread_of w b) thread_count) t h
      = each_set (thread_of w b) (thread_of w' b') thread_count t h z.here (λ j l ne.
      rw (
        z.words (thread_index j) (λ e. ne (omega arith)) (λ e. omega arith),
        z.words (thread_index j + 1) (λ e. omega arith) (λ e. ne (omega arith)),
        z.rows j ne (λ e. omega arith),
        z.rows (inner_rows + j) (λ e. omega arith) (λ e. ne (omega arith)),
      ) refl) in
      record {
        sized = record { words = z.long; bytes = z.wide; spare = spare_kept w w' low s.spare };
        state = rw (areas_kept w w' low, rows, threads, high lengths_at (omega arith), high (lengths_at + 1) (omega arith), high (lengths_at + 2) (omega arith), bits_kept w w' (λ j l. high j (omega arith)), z.rights) refl;
      }

  -- its words are read back, and every other is kept
  module _ (t : ℕ) (x : ThreadWords) (lt : t < thread_count) (e : length w ≡ word_count) where
    kind_written : (thread_record (put_thread w t x) t).kind ≡ x.kind
    kind_written =
        get_or-set_other (set w (thread_index t) x.kind) (thread_index t + 1) (thread_index t) x.len 0 (λ q. omega arith)
        ∙ get_or-set_same w (thread_index t) x.kind 0 (omega arith)

    len_written : (thread_record (put_thread w t x) t).len ≡ x.len
    len_written =
        get_or-set_same (set w (thread_index t) x.kind) (thread_index t + 1) x.len 0 (omega (arith, length-set w (thread_index t) x.kind))

    words_kept : (j : ℕ) → j ≢ thread_index t → j ≢ thread_index t + 1 → get_or (put_thread w t x) j 0 ≡ get_or w j 0
    words_kept j p q =
        get_or-set_other (set w (thread_index t) x.kind) (thread_index t + 1) j x.len 0 q
        ∙ get_or-set_other w (thread_index t) j x.kind 0 p

  -- a thread gets another kind or length
  pub state_thread : (t : ℕ) (x : ThreadWords) → t < thread_count → Shaped w b
      → Holds (put_thread w t x) b
      (with_thread (state_of w b) t (record {
        kind = x.kind;
        len = x.len;
        entries = (thread_at (state_of w b) t).entries;
        inner = (thread_at (state_of w b) t).inner;
      }))
  unfolding thread_of
  state_thread t x lt z =
      rw (thread_read w b t lt) (thread_laid (put_thread w t x) b t _ lt z (record {
        here = rw (kind_written t x lt z.words, len_written t x lt z.words) refl;
        words = words_kept t x lt z.words;
        rows = λ m e f. refl;
        rights = refl;
        long = simp length-set z.words;
        wide = z.bytes;
      }))

  -- an entry goes on its stack at a place, too
  pub state_push : (t k : ℕ) (x : ThreadWords) (y : Entry) → t < thread_count → k < row_bytes → Shaped w b
      → Holds (put_thread w t x) (put_entry b t k y)
      (with_thread (state_of w b) t (record {
        kind = x.kind;
        len = x.len;
        entries = set (thread_at (state_of w b) t).entries k y.area;
        inner = set (thread_at (state_of w b) t).inner k y.inner;
      }))
  unfolding thread_of
  state_push t k x y lt lk z =
      let c : List ℕ = put_byte b t k y.area in
      let p : RowWritten b c t (set (byte_row b t) k y.area) = byte_written b z.bytes t (omega arith) k y.area lk in
      let q : RowWritten c (put_entry b t k y) (inner_rows + t) (set (byte_row c (inner_rows + t)) k y.inner)
      = byte_written c p.long (inner_rows + t) (omega arith) k y.inner lk in
      rw (thread_read w b t lt) (thread_laid (put_thread w t x) (put_entry b t k y) t _ lt z (record {
        here = rw (
          kind_written t x lt z.words,
          len_written t x lt z.words,
          q.others t (λ e. omega arith),
          p.here,
          q.here,
          p.others (inner_rows + t) (λ e. omega arith),
        ) refl;
        words = words_kept t x lt z.words;
        rows = λ m e f. q.others m f ∙ p.others m e;
        rights = q.rights ∙ p.rights;
        long = simp length-set z.words;
        wide = q.long;
      }))

  -- or it gets the whole stack of thread u
  pub state_copy : (u t : ℕ) (x : ThreadWords) → u < thread_count → t < thread_count → Shaped w b
      → Holds (put_thread w t x) (copy_stack b u t)
      (with_thread (state_of w b) t (record {
        kind = x.kind;
        len = x.len;
        entries = (thread_at (state_of w b) u).entries;
        inner = (thread_at (state_of w b) u).inner;
      }))
  unfolding thread_of
  state_copy u t x lu lt z =
      let c : List ℕ = put_byte_row b t (byte_row b u) in
      let p : RowWritten b c t (byte_row b u) = row_written b z.bytes t (omega arith) (byte_row b u) (length_byte_row b u) in
      let q : RowWritten c (copy_stack b u t) (inner_rows + t) (byte_row c (inner_rows + u))
      = row_written c p.long (inner_rows + t) (omega arith) (byte_row c (inner_rows + u)) (length_byte_row c (inner_rows + u)) in
      rw (thread_read w b u lu) (thread_laid (put_thread w t x) (copy_stack b u t) t _ lt z (record {
        here = rw (kind_written t x lt z.words, len_written t x lt z.words, q.others t (λ e. omega arith), p.here, q.here, p.others (inner_rows + u) (λ e. omega arith)) refl;
        words = words_kept t x lt z.words;
        rows = λ m e f. q.others m f ∙ p.others m e;
        rights = q.rights ∙ p.rights;
        long = simp length-set z.words;
        wide = q.long;
      }))

  -- ---- the lengths and the used bits are written

  tail_laid : (w' : List ℕ) (n : Lengths) (u : List ℕ) → Shaped w b → length w' ≡ word_count → ((j : ℕ) → j < lengths_at → get_or w' j 0 ≡ get_or w j 0)
      → lengths_record w' ≡ n → used_bits_of w' ≡ u → Holds w' b (record { areas = (state_of w b).areas; rows = (state_of w b).rows; threads = (state_of w b).threads; lengths = n; used_bits = u; rights = (state_of w b).rights })
  unfolding state_of
  tail_laid w' n u z e low p q =
      let below : (j : ℕ) → j < threads_at → get_or w' j 0 ≡ get_or w j 0 = λ j h. low j (omega arith) in
      record {
        sized = record { words = e; bytes = z.bytes; spare = spare_kept w w' below z.spare };
        state = λ i. record {
          areas = areas_kept w w' below i;
          rows = each (display_row b) area_count;
          threads = threads_kept w w' (λ j l h. low j h) b i;
          lengths = p i;
          used_bits = q i;
          rights = rights_of b;
        };
      }

  pub state_used_bits : (u : List ℕ) → length u ≡ used_bits_words → Shaped w b → Holds (put_used_bits w u) b (with_used_bits (state_of w b) u)
  unfolding with_used_bits state_of used_bits_of put_used_bits
  state_used_bits u k z =
      let off : (j : ℕ) → j < used_bits_at → get_or (put_used_bits w u) j 0 ≡ get_or w j 0 = λ j l. get_d_put_other w used_bits_at u j (inl l) in
      tail_laid (put_used_bits w u) (lengths_record w) u z (length_put w used_bits_at u ∙ z.words) (λ j h. off j (omega arith))
      (rw (off lengths_at (omega arith), off (lengths_at + 1) (omega arith), off (lengths_at + 2) (omega arith)) refl)
      (cut_put w used_bits_at u used_bits_words k (omega (arith, z.words)))

  pub state_lengths : (n : Lengths) → Shaped w b → Holds (put_lengths w n) b (with_lengths (state_of w b) n)
  unfolding state_of
  state_lengths n z =
      let zw : length w ≡ word_count = z.words in
      let u : List ℕ = set w lengths_at n.permanent in
      let v : List ℕ = set u (lengths_at + 1) n.scratch in
      let lu : length u ≡ word_count = length-set w lengths_at n.permanent ∙ zw in
      let lv : length v ≡ word_count = length-set u (lengths_at + 1) n.scratch ∙ lu in
      let off : (j : ℕ) → j ≢ lengths_at → j ≢ lengths_at + 1 → j ≢ lengths_at + 2 → get_or (put_lengths w n) j 0 ≡ get_or w j 0
      = λ j a c d. get_or-set_other v (lengths_at + 2) j n.map 0 d ∙ get_or-set_other u (lengths_at + 1) j n.scratch 0 c ∙ get_or-set_other w lengths_at j n.permanent 0 a in
      let a : get_or (put_lengths w n) lengths_at 0 ≡ n.permanent
      = get_or-set_other v (lengths_at + 2) lengths_at n.map 0 (λ e. omega arith) ∙ get_or-set_other u (lengths_at + 1) lengths_at n.scratch 0 (λ e. omega arith) ∙ get_or-set_same w lengths_at n.permanent 0 (omega arith) in
      let c : get_or (put_lengths w n) (lengths_at + 1) 0 ≡ n.scratch
      = get_or-set_other v (lengths_at + 2) (lengths_at + 1) n.map 0 (λ e. omega arith) ∙ get_or-set_same u (lengths_at + 1) n.scratch 0 (omega arith) in
      let d : get_or (put_lengths w n) (lengths_at + 2) 0 ≡ n.map = get_or-set_same v (lengths_at + 2) n.map 0 (omega arith) in
      tail_laid (put_lengths w n) n (used_bits_of w) z (simp length-set zw) (λ j h. off j (λ e. omega arith) (λ e. omega arith) (λ e. omega arith))
      (rw (a, c, d) refl) (bits_kept w (put_lengths w n) (λ j h. off j (λ e. omega arith) (λ e. omega arith) (λ e. omega arith)))

  -- ---- the rights table is written

  pub state_rights : (r : List ℕ) → length r ≡ table_size → Shaped w b → Holds w (put_rights b r) (with_rights (state_of w b) r)
  unfolding state_of with_rights put_rights rights_of display_row thread_of byte_row
  state_rights r k z =
      let row : (n : ℕ) → n < row_count → byte_row (put_rights b r) n ≡ byte_row b n
      = λ n l. cut_put_other b rights_at r (row_index n) row_bytes (inl (omega arith)) in
      let rows : each (display_row (put_rights b r)) area_count ≡ each (display_row b) area_count
      = each_same (display_row b) (display_row (put_rights b r)) area_count [] (λ j l. row (display_rows + j) (omega arith)) in
      let threads : each (thread_of w (put_rights b r)) thread_count ≡ each (thread_of w b) thread_count
      = each_same (thread_of w b) (thread_of w (put_rights b r)) thread_count no_thread (λ j l. rw (row j (omega arith), row (inner_rows + j) (omega arith)) refl) in
      record {
        sized = record { words = z.words; bytes = length_put b rights_at r ∙ z.bytes; spare = z.spare };
        state = rw (rows, threads, cut_put b rights_at r table_size k (omega (arith, z.bytes))) refl;
      }

-- ---- every word of the tables is read or spare, and every byte is read: the tables are told by their state

-- the 8 words of an area
spaced : Area → List ℕ
spaced x = x.start ∷ x.size ∷ x.used ∷ x.generation ∷ x.count ∷ x.parent ∷ x.depth ∷ 0 ∷ []

module _ {w b : List ℕ} (z : Shaped w b) where
  area_words_lem : (a : ℕ) → a < area_count → cut w (area_index a) area_words ≡ spaced (area_at (state_of w b) a)
  unfolding cut each from spaced
  area_words_lem a h = rw (area_read w b a h, z.spare a h, add-zero) refl

  area_word : (j : ℕ) → j < threads_at → get_or w j 0 ≡ get_or (spaced (area_at (state_of w b) (j / area_words))) (j % area_words) 0
  area_word j h =
      let e : area_index (j / area_words) + j % area_words ≡ j = omega arith in
      ap (λ (i : ℕ). get_or w i 0) (sym e) ∙ sym (get_d_cut w (area_index (j / area_words)) area_words (j % area_words) (omega arith))
      ∙ ap (λ (l : List ℕ). get_or l (j % area_words) 0) (area_words_lem (j / area_words) (omega arith))

module _ {w b w' b' : List ℕ} (z : Shaped w b) (z' : Shaped w' b') (e : state_of w b ≡ state_of w' b') where
  thread_same : (t : ℕ) → t < thread_count → thread_of w b t ≡ thread_of w' b' t
  thread_same t h = sym (thread_read w b t h) ∙ ap (λ (s : State). thread_at s t) e ∙ thread_read w' b' t h

  word_same : (j : ℕ) → j < word_count → get_or w j 0 ≡ get_or w' j 0
  unfolding state_of thread_of
  word_same j l = ⊎_elim low (λ h. ⊎_elim (λ k. middle h k) (λ k. high (j - lengths_at) (omega arith)) (order lengths_at j)) (order threads_at j)
    where
      low : j < threads_at → get_or w j 0 ≡ get_or w' j 0
      low h = area_word z j h ∙ ap (λ (s : State). get_or (spaced (area_at s (j / area_words))) (j % area_words) 0) e ∙ sym (area_word z' j h)

      kind : (t : ℕ) → t < thread_count → j ≡ thread_index t → get_or w j 0 ≡ get_or w' j 0
      kind t h q = rw q (ap (λ (x : Thread). x.kind) (thread_same t h))

      len : (t : ℕ) → t < thread_count → j ≡ thread_index t + 1 → get_or w j 0 ≡ get_or w' j 0
      len t h q = rw q (ap (λ (x : Thread). x.len) (thread_same t h))

      middle : threads_at ≤ j → j < lengths_at → get_or w j 0 ≡ get_or w' j 0
      middle h k =
          ⊎_elim (λ o. kind ((j - threads_at) / thread_words) (omega arith) (omega arith)) (λ o. len ((j - threads_at) / thread_words) (omega arith) (omega arith)) (order 1 (j % thread_words))

      high : (i : ℕ) → j ≡ lengths_at + i → get_or w j 0 ≡ get_or w' j 0
      high zero q = rw q (ap (λ (s : State). s.lengths.permanent) e)
      high (suc zero) q = rw q (ap (λ (s : State). s.lengths.scratch) e)
      high (suc (suc zero)) q = rw q (ap (λ (s : State). s.lengths.map) e)
      high (suc (suc (suc i))) q =
          let at : j ≡ used_bits_at + i = omega arith in
          rw at (sym (used_word_read w i (omega arith)) ∙ ap (λ (s : State). get_or s.used_bits i 0) e ∙ used_word_read w' i (omega arith))

  row_same : (n : ℕ) → n < row_count → byte_row b n ≡ byte_row b' n
  unfolding thread_of display_row
  row_same n l = ⊎_elim entries (λ h. ⊎_elim (λ k. inner (n - inner_rows) (omega arith) (omega arith)) (λ k. display (n - display_rows) (omega arith) (omega arith)) (order display_rows n)) (order inner_rows n)
    where
      entries : n < thread_count → byte_row b n ≡ byte_row b' n
      entries h = ap (λ (x : Thread). x.entries) (thread_same n h)

      inner : (t : ℕ) → t < thread_count → n ≡ inner_rows + t → byte_row b n ≡ byte_row b' n
      inner t h q = rw q (ap (λ (x : Thread). x.inner) (thread_same t h))

      display : (a : ℕ) → a < area_count → n ≡ display_rows + a → byte_row b n ≡ byte_row b' n
      display a h q = rw q (sym (row_read w b a h) ∙ ap (λ (s : State). row_at s a) e ∙ row_read w' b' a h)

  right_same : (j i : ℕ) → i < table_size → j ≡ rights_at + i → get_or b j 0 ≡ get_or b' j 0
  right_same j i h q = rw q (sym (right_read w b i h) ∙ ap (λ (s : State). get_or s.rights i 0) e ∙ right_read w' b' i h)

  row_byte_same : (j : ℕ) → j < rights_at → get_or b j 0 ≡ get_or b' j 0
  row_byte_same j l =
      let q : row_index (j / row_bytes) + j % row_bytes ≡ j = omega arith in
      let at : (c : List ℕ) → get_or c j 0 ≡ get_or (byte_row c (j / row_bytes)) (j % row_bytes) 0
      = λ c. ap (λ (i : ℕ). get_or c i 0) (sym q) ∙ sym (byte_read c (j / row_bytes) (j % row_bytes) (omega arith)) in
      at b ∙ ap (λ (r : List ℕ). get_or r (j % row_bytes) 0) (row_same (j / row_bytes) (omega arith)) ∙ sym (at b')

  byte_same : (j : ℕ) → j < byte_count → get_or b j 0 ≡ get_or b' j 0
  byte_same j l = ⊎_elim (λ h. row_byte_same j h) (λ h. right_same j (j - rights_at) (omega arith) (omega arith)) (order rights_at j)

  pub tables_same : (w ≡ w') × (b ≡ b')
  tables_same = (
    ext_get_or 0 w w' (z.words ∙ sym z'.words) (λ j h. word_same j (omega (arith, z.words))),
    ext_get_or 0 b b' (z.bytes ∙ sym z'.bytes) (λ j h. byte_same j (omega (arith, z.bytes))),
  )
