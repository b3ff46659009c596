-- What the words of the objects hold is what was last stored and written there, by the history alone; so are the value of a load and the answer
-- of a read.
-- Assumes nothing.
use Prim.Native.Nat.{ℕ, suc, ◌+◌, ◌/◌, ◌<◌}
use mathlib.Core.Bool.{true}
use mathlib.Core.List.{List}
use mathlib.Core.Path.{◌≡◌, refl, sym, ap, ap₂, ◌∙◌}
use mathlib.Core.Logic.{◌≢◌, ◌⊎◌, inl, inr, ⊎_elim}
use lib.ListN.{length, get_or}
use lib.Dec.{eqb}
use native.Mathlib.Omega.{arith}
use Rattle.layout.specs.Choice.{pick}
use Rattle.layout.specs.Handle.{null, offset_of, area_of}
use Rattle.layout.specs.HandleLaws.{area_lt}
use Rattle.layout.specs.Header.{slots_of, data_of}
use Rattle.bitmap.specs.Bitmap.{bit_at}
use Rattle.bitmap.specs.BitmapLaws.{same?, bit_with_same, bit_with_other}
use Rattle.model.specs.State.{State, Memory, area_at, is_scope, store_of, with_store, word_at, bit_index}
use Rattle.model.specs.Checks.{header_at, live}
use Rattle.model.specs.Objects.{current_at, allocate_state, allocate_memory, allocate_value}
use Rattle.model.specs.References.{store_after, load_rest}
use Rattle.model.specs.Data.{data_index, written_index, write_memory}
use Rattle.model.specs.Calls.{Call, start, end, make, enter, exit, start_helper, remove, allocate, store, write, asks, configure, load, call_status, call_value, call_state, call_memory}
use Rattle.model.specs.Run.{Line}
use Rattle.model.specs.History.{Object, History, occurrences, handles, put_at, history_thread, history_size, history_enter, history_exit, history_allocate, history_words, history_store, history_write, history_step, history_line}
use Rattle.model.specs.Claims.{In}
use Rattle.model.proofs.Accepted.{fitted_ok, admitted, AllocateOk, allocate_ok, SlotOk, slot_ok, StoreOk, store_ok, DataOk, data_ok}
use Rattle.model.proofs.Tiles.{place, tiled_apart}
use Rattle.model.proofs.Memory.{put_same, put_other, put_word_own, put_word_other}
use Rattle.model.proofs.Sound.{used_in, Sound}
use Rattle.model.proofs.PlacedWords.{used_in_lem, one_word, written_in, supplied_lengths}
use Rattle.model.proofs.Bounds.{current_area}
use Rattle.model.proofs.NestingClaims.{stacks}
use Rattle.model.proofs.Live.{live_given, given_tile, given_ends, given_head}
use Rattle.model.proofs.MemoryWords.{put_other_word, put_word_lem}
use Rattle.model.proofs.MemoryObjects.{word_other, written_other, written_here, at_place, made_tile}
use Rattle.model.proofs.MemoryClaims.{tile_of, one_object}
use Rattle.model.proofs.Outcomes.{Transition, history_accepts, history_refuses}
use Rattle.model.proofs.Traces.{area_below, exit_kept, made_or, made_in_lem}
use Rattle.model.proofs.Openings.{carried_call}

-- a word with its written bit: 0 where the bit is 0, suc v for the word v
unfoldable pub cell_of : ℕ → ℕ → ℕ
cell_of bit v = pick (eqb bit 0) 0 (suc v)

-- of word j of area a
abbrev pub cell_in : State → Memory → ℕ → ℕ → ℕ
cell_in s m a j = cell_of (bit_at m.written (bit_index s a j)) (word_at s m a j)

-- each slot of the objects holds what was last stored there, and each data word, with its written bit, what was last written
pub record Recorded (s : State) (m : Memory) (b : History) : Type 0 where
  pub slots : (a : ℕ) (x : Object) → In x (b.objects a) → (j : ℕ) → j < x.slots
      → word_at s m a (suc (place x + j)) ≡ b.stored x.handle j
  pub cells : (a : ℕ) (x : Object) → In x (b.objects a) → (j : ℕ) → j < x.data_words
      → cell_in s m a (suc (place x + (x.slots + j))) ≡ b.written x.handle j

-- a word into a store leaves the written bits
store_written : (s : State) (m : Memory) (p i v : ℕ) → (store_after s m p i v).written ≡ m.written
unfolding store_after with_store
store_written s m p i v = refl

-- two handles and two indices are alike, or not both
both? : (h p j q : ℕ) → ((h ≡ p) × (j ≡ q)) ⊎ (h ≡ p → j ≡ q → ⊥)
both? h p j q = ⊎_elim
    (λ d. ⊎_elim (λ e. inl (d, e)) (λ n. inr (λ x y. n y)) (same? j q))
    (λ n. inr (λ x y. n x))
    (same? h p)

module _ (s : State) (m : Memory) (b : History) (o : Sound s m b) where
  -- a word of an object is one of the area's used words
  word_used : (a : ℕ) (x : Object) → In x (b.objects a) → (j : ℕ) → j < x.slots + x.data_words → suc (place x + j) < used_in s a
  word_used a x i j p =
      let t = tile_of s m b o a x (area_below s m b o a x i) i in
      omega (arith, t.1.ends, t.2)

  -- ---- one word of object p is replaced

  module _ (p : ℕ) (lv : live s m p ≡ true) where
    is_given : 0 < occurrences p (handles (b.objects (area_of p)))
    is_given = live_given s m b o p lv

    -- the object of the history that p names
    abbrev target : Object
    target = (given_tile s m b o p is_given).0

    target_in : In target (b.objects (area_of p))
    target_in = (given_tile s m b o p is_given).5

    target_handle : target.handle ≡ p
    target_handle = (given_tile s m b o p is_given).2

    target_slots : slots_of (header_at s m p) ≡ target.slots
    target_slots = (given_head s m b o p is_given).slots

    target_words : data_of (header_at s m p) ≡ target.data_words
    target_words = (given_head s m b o p is_given).data_words

    -- an object with that handle is p's
    one_target : (a : ℕ) (x : Object) → In x (b.objects a) → x.handle ≡ p → (a ≡ area_of p) × (x ≡ target)
    one_target a x k e = one_object s m b o a (area_of p) x target (area_below s m b o a x k) (area_lt p) k target_in (e ∙ sym target_handle)

    module _ (i v : ℕ) (l : i < target.slots + target.data_words) where
      word_in : suc (offset_of p + i) < used_in s (area_of p)
      word_in = omega (arith, given_ends s m b o p is_given)

      -- the word itself is the new one
      own_word : word_at s (store_after s m p i v) (area_of p) (suc (offset_of p + i)) ≡ v
      unfolding store_after
      own_word = put_word_lem s m b o (area_of p) (suc (offset_of p + i)) v (area_lt p) word_in

      -- a word of another object, or another word of p's, ..
      module _ (a : ℕ) (x : Object) (k : In x (b.objects a)) (j : ℕ) (q : j < x.slots + x.data_words) (ne : x.handle ≡ p → j ≡ i → ⊥) where
        apart : a ≡ area_of p → suc (place x + j) ≡ suc (offset_of p + i) → ⊥
        apart e d =
            let at : place target ≡ offset_of p = ap offset_of target_handle in
            let is : x ≡ target = tiled_apart _ _ _ _ (used_in s a) k (rw (← e) at target_in) (o.memory.tiles a (area_below s m b o a x k))
            (suc (place x + j)) (omega arith) (omega arith) (omega arith) (omega arith) in
            let same : place x ≡ place target = ap place is in
            ne (ap (λ (y : Object). y.handle) is ∙ target_handle) (omega arith)

        -- .. is as it was, ..
        other_word : word_at s (store_after s m p i v) a (suc (place x + j)) ≡ word_at s m a (suc (place x + j))
        unfolding store_after
        other_word = put_other_word s m b o (area_of p) (suc (offset_of p + i)) v (area_lt p) word_in
            a (suc (place x + j)) (area_below s m b o a x k) (word_used a x k j q) apart

        -- .. and its bit is another
        other_index : bit_index s a (suc (place x + j)) ≢ bit_index s (area_of p) (suc (offset_of p + i))
        other_index e =
            let h : a < 64 = area_below s m b o a x k in
            let w = one_word s o.good.placed a (area_of p) h (area_lt p) (suc (place x + j)) (suc (offset_of p + i))
            (used_in_lem s o.good.placed a h (suc (place x + j)) (word_used a x k j q)) (used_in_lem s o.good.placed (area_of p) (area_lt p) (suc (offset_of p + i)) word_in) e in
            apart w.0 w.1

    module _ (w : Recorded s m b) where
      -- a reference is stored in slot q
      recorded_store : (q r : ℕ) → q < slots_of (header_at s m p) → Recorded s (store_after s m p q r) (history_store b p q r)
      unfolding history_words
      recorded_store q r l = record {
        slots = λ a x k j u. ⊎_elim
            (λ e. own a x k j e ∙ sym (put_word_own b.stored p q r x.handle j e.0 e.1))
            (λ n. other_word q r at a x k j (omega arith) n ∙ w.slots a x k j u ∙ sym (put_word_other b.stored p q r x.handle j n))
            (both? x.handle p j q);
        cells = λ a x k j u. ap₂ cell_of (ap (λ (y : List ℕ). bit_at y (bit_index s a (suc (place x + (x.slots + j))))) (store_written s m p q r))
            (other_word q r at a x k (x.slots + j) (omega arith) (λ c d. omega (arith, target_slots, ap (λ (y : Object). y.slots) (one_target a x k c).1)))
            ∙ w.cells a x k j u;
      }
        where
          at : q < target.slots + target.data_words
          at = omega (arith, target_slots)

          own : (a : ℕ) (x : Object) → In x (b.objects a) → (j : ℕ) → (x.handle ≡ p) × (j ≡ q) → word_at s (store_after s m p q r) a (suc (place x + j)) ≡ r
          own a x k j e = rw ((one_target a x k e.0).0, e.0, e.1) (own_word q r at)

      -- data word q is written, and its bit set
      module _ (q r : ℕ) (l : q < data_of (header_at s m p)) where
        data_at : data_index s m p q < target.slots + target.data_words
        data_at = omega (arith, target_slots, target_words)

        bit_in_lem : written_index s m p q / 64 < length m.written
        bit_in_lem = written_in s m o.good.placed o.supplied (area_of p) (area_lt p) (suc (offset_of p + data_index s m p q))
            (used_in_lem s o.good.placed (area_of p) (area_lt p) (suc (offset_of p + data_index s m p q)) (word_in (data_index s m p q) r data_at))

        own_cell : cell_in s (write_memory s m p q r) (area_of p) (suc (offset_of p + data_index s m p q)) ≡ suc r
        unfolding write_memory cell_of
        own_cell = ap₂ cell_of (bit_with_same m.written (written_index s m p q) bit_in_lem) (own_word (data_index s m p q) r data_at)

        recorded_write : Recorded s (write_memory s m p q r) (history_write b p q r)
        unfolding history_words
        recorded_write = record {
          slots = λ a x k j u. slot_same a x k j u ∙ w.slots a x k j u;
          cells = λ a x k j u. ⊎_elim (λ e. own a x k j e) (λ n. other a x k j u n) (both? x.handle p j q);
        }
          where
            slot_same : (a : ℕ) (x : Object) → In x (b.objects a) → (j : ℕ) → j < x.slots → word_at s (write_memory s m p q r) a (suc (place x + j)) ≡ word_at s m a (suc (place x + j))
            slot_same a x k j u = unfold write_memory in other_word (data_index s m p q) r data_at a x k j (omega arith)
                (λ c d. omega (arith, target_slots, ap (λ (y : Object). y.slots) (one_target a x k c).1))

            own : (a : ℕ) (x : Object) → In x (b.objects a) → (j : ℕ) → (x.handle ≡ p) × (j ≡ q)
                → cell_in s (write_memory s m p q r) a (suc (place x + (x.slots + j))) ≡ (history_write b p q r).written x.handle j
            own a x k j e =
                let is = one_target a x k e.0 in
                let index : x.slots + j ≡ data_index s m p q = omega (arith, target_slots, ap (λ (y : Object). y.slots) is.1, e.1) in
                rw (is.0, e.0, index) own_cell ∙ sym (put_word_own b.written p q (suc r) x.handle j e.0 e.1)

            other : (a : ℕ) (x : Object) → In x (b.objects a) → (j : ℕ) → j < x.data_words → (x.handle ≡ p → j ≡ q → ⊥)
                → cell_in s (write_memory s m p q r) a (suc (place x + (x.slots + j))) ≡ (history_write b p q r).written x.handle j
            other a x k j u n =
                unfold write_memory with_store store_after in ap₂ cell_of
                (bit_with_other m.written (written_index s m p q) bit_in_lem (bit_index s a (suc (place x + (x.slots + j)))) (other_index (data_index s m p q) r data_at a x k (x.slots + j) (omega arith) away))
                (other_word (data_index s m p q) r data_at a x k (x.slots + j) (omega arith) away)
                ∙ w.cells a x k j u ∙ sym (put_word_other b.written p q (suc r) x.handle j n)
              where
                away : x.handle ≡ p → x.slots + j ≡ data_index s m p q → ⊥
                away c d = n c (omega (arith, target_slots, ap (λ (y : Object). y.slots) (one_target a x k c).1))

  -- ---- an object is made

  module _ (w : Recorded s m b) where
    module _ (t q r : ℕ) (ok : AllocateOk s t q r) where
      abbrev made : Object
      made = record { handle = allocate_value s (current_at s t); slots = q; data_words = r }

      abbrev n : State
      n = allocate_state s (current_at s t) q r

      abbrev k : Memory
      k = allocate_memory s m (current_at s t) q r

      abbrev next : History
      next = history_allocate b t made

      area : current_at s t < 64
      area = current_area s o.good t ok.called.thread

      next_stored : next.stored ≡ put_at b.stored made.handle (λ i. null)
      unfolding history_allocate
      next_stored = refl

      next_written : next.written ≡ put_at b.written made.handle (λ i. 0)
      unfolding history_allocate
      next_written = refl

      -- an object of the history is the new one, or was there and has another handle
      module _ (z : Sound n k next) (a : ℕ) (x : Object) (i : In x (next.objects a)) where
        new_or_old : ((a ≡ current_at s t) × (x ≡ made)) ⊎ (In x (b.objects a) × (x.handle ≢ made.handle))
        new_or_old = ⊎_elim
            (λ e. inl (one_object n k next z a (current_at s t) x made (area_below n k next z a x i) area i
            (rw (← (stacks s b o.good o.same t)) at (made_in_lem b t made)) e))
            (λ e. ⊎_elim
            (λ y. absurd (e (ap (λ (v : Object). v.handle) y.1)))
            (λ y. inr (y, e))
            (made_or b t made a x i))
            (same? x.handle made.handle)

        slot_made : (j : ℕ) → j < x.slots → word_at n k a (suc (place x + j)) ≡ next.stored x.handle j
        slot_made j u = rw next_stored (⊎_elim
            (λ y. rw (y.0, y.1, put_same b.stored made.handle (λ i. null))
            ((made_tile s m b o (current_at s t) q r area ok.room).refs j (omega (arith, ap (λ (v : Object). v.slots) y.1))))
            (λ y. rw (put_other b.stored made.handle (λ i. null) x.handle y.1)
            (word_other s m b o (current_at s t) q r area ok.room a (suc (place x + j)) (area_below s m b o a x y.0) (word_used a x y.0 j (omega arith))
            ∙ w.slots a x y.0 j u))
            new_or_old)

        cell_made : (j : ℕ) → j < x.data_words → cell_in n k a (suc (place x + (x.slots + j))) ≡ next.written x.handle j
        cell_made j u = rw next_written (⊎_elim
            (λ y. rw (y.0, y.1, put_same b.written made.handle (λ i. 0)) (new (rw y.1 at u)))
            (λ y. rw (put_other b.written made.handle (λ i. 0) x.handle y.1) (old y.0 ∙ w.cells a x y.0 j u))
            new_or_old)
          where
            none : (v : ℕ) → cell_of 0 v ≡ 0
            none v = unfold cell_of in refl

            new : j < r → cell_in n k (current_at s t) (suc (place made + (q + j))) ≡ 0
            new l = ap (λ (bit : ℕ). cell_of bit (word_at n k (current_at s t) (suc (place made + (q + j))))) (written_here s m b o (current_at s t) q r area ok.room (suc (place made + (q + j)))
                (omega (arith, at_place s m b o (current_at s t) q r area ok.room)) (omega (arith, at_place s m b o (current_at s t) q r area ok.room)))
                ∙ none (word_at n k (current_at s t) (suc (place made + (q + j))))

            old : In x (b.objects a) → cell_in n k a (suc (place x + (x.slots + j))) ≡ cell_in s m a (suc (place x + (x.slots + j)))
            old y =
                let h : a < 64 = area_below s m b o a x y in
                let d : suc (place x + (x.slots + j)) < used_in s a = word_used a x y (x.slots + j) (omega arith) in
                ap₂ cell_of
                (written_other s m b o (current_at s t) q r area ok.room a (suc (place x + (x.slots + j))) h d)
                (word_other s m b o (current_at s t) q r area ok.room a (suc (place x + (x.slots + j))) h d)

      recorded_allocate : Sound n k next → Recorded n k next
      recorded_allocate z = record { slots = slot_made z; cells = cell_made z }

    -- ---- no word is written, and no area with words moves

    recorded_still : (n : State) (c : History) → Sound n m c → ((a : ℕ) → 0 < used_in s a → (area_at n a).start ≡ (area_at s a).start)
        → ((a : ℕ) (x : Object) → In x (c.objects a) → In x (b.objects a)) → c.stored ≡ b.stored → c.written ≡ b.written → Recorded n m c
    recorded_still n c z e f d g = record {
      slots = λ a x i j u. rw d (word_still a x (f a x i) j (omega arith) ∙ w.slots a x (f a x i) j u);
      cells = λ a x i j u. rw g (ap₂ cell_of (ap (bit_at m.written) (index_still a x (f a x i) (x.slots + j) (omega arith)))
          (word_still a x (f a x i) (x.slots + j) (omega arith)) ∙ w.cells a x (f a x i) j u);
    }
      where
        start_still : (a : ℕ) (x : Object) → In x (b.objects a) → (j : ℕ) → j < x.slots + x.data_words → (area_at n a).start ≡ (area_at s a).start
        start_still a x i j u = e a (omega (arith, word_used a x i j u))

        word_still : (a : ℕ) (x : Object) → In x (b.objects a) → (j : ℕ) → j < x.slots + x.data_words → word_at n m a (suc (place x + j)) ≡ word_at s m a (suc (place x + j))
        word_still a x i j u = ap (λ (y : ℕ). get_or (store_of m a) (y + suc (place x + j)) 0) (start_still a x i j u)

        first_still : n.lengths.permanent ≡ s.lengths.permanent
        first_still = sym (supplied_lengths n m z.supplied).permanent ∙ (supplied_lengths s m o.supplied).permanent

        index_still : (a : ℕ) (x : Object) → In x (b.objects a) → (j : ℕ) → j < x.slots + x.data_words → bit_index n a (suc (place x + j)) ≡ bit_index s a (suc (place x + j))
        index_still a x i j u = ap₂ (λ (y v : ℕ). pick (is_scope a) y 0 + (v + suc (place x + j))) first_still (start_still a x i j u)

    -- ---- any accepted call

    recorded_call : (c : Call) → call_status s m c ≡ 0 → Sound (call_state s m c) (call_memory s m c) (history_step b c (call_value s m c))
        → Recorded (call_state s m c) (call_memory s m c) (history_step b c (call_value s m c))
    unfolding history_thread history_size history_enter
    recorded_call (start t p) e z = recorded_still _ _ z (λ a. (carried_call s m b o (start t p) e a).start) (λ a x i. i) refl refl
    recorded_call (end t) e z = recorded_still _ _ z (λ a. (carried_call s m b o (end t) e a).start) (λ a x i. i) refl refl
    recorded_call (make t q r) e z = recorded_still _ _ z (λ a. (carried_call s m b o (make t q r) e a).start) (λ a x i. i) refl refl
    recorded_call (enter t q) e z = recorded_still _ _ z (λ a. (carried_call s m b o (enter t q) e a).start) (λ a x i. i) refl refl
    recorded_call (exit t) e z = recorded_still _ _ z (λ a. (carried_call s m b o (exit t) e a).start) (exit_kept b t) (unfold history_exit in refl) (unfold history_exit in refl)
    recorded_call (start_helper t p q) e z = recorded_still _ _ z (λ a. (carried_call s m b o (start_helper t p q) e a).start) (λ a x i. i) refl refl
    recorded_call (remove t q) e z = recorded_still _ _ z (λ a. (carried_call s m b o (remove t q) e a).start) (λ a x i. i) refl refl
    recorded_call (allocate t q r) e z = recorded_allocate t q r (allocate_ok s t q r (fitted_ok s m _ e).1) z
    recorded_call (store t p q r) e z =
        let k : StoreOk s m t p q r = store_ok s m t p q r (admitted s m t _ e).1 in
        recorded_store p k.at.used.object w q r k.at.slot
    recorded_call (write t p q r) e z =
        let k : DataOk s m t p q = (data_ok s m t p q _ (admitted s m t _ e).1).0 in
        recorded_write p k.used.object w q r k.index
    recorded_call (asks x) e z = w
    recorded_call (configure x) e z = recorded_still _ _ z (λ a. (carried_call s m b o (configure x) e a).start) (λ a x i. i) refl refl

    -- any line
    pub recorded_line : {l : Line} {n : State} {k : Memory} → Transition s m l n k → Sound n k (history_line b l) → Recorded n k (history_line b l)
    recorded_line {l} d z = ⊎_elim
        (λ y. rw (y.state, y.memory, history_accepts y b) (recorded_call l.call y.passed (rw (y.state, y.memory, history_accepts y b) at z)))
        (λ y. rw (y.state, y.memory, history_refuses y b) w)
        d

    -- ---- what a load and a read answer

    pub load_value : (t p q : ℕ) → call_status s m (load t p q) ≡ 0 → call_value s m (load t p q) ≡ b.stored p q
    unfolding load_rest
    load_value t p q e =
        let k : SlotOk s m t p q = (slot_ok s m t p q _ (admitted s m t _ e).1).0 in
        let lv : live s m p ≡ true = k.used.object in
        rw (target_handle p lv) at (w.slots (area_of p) (target p lv) (target_in p lv) q (omega (arith, k.slot, target_slots p lv)))

    -- a data word of a live handle
    pub cell_told : (p : ℕ) → live s m p ≡ true → (q : ℕ) → q < data_of (header_at s m p)
        → cell_in s m (area_of p) (suc (offset_of p + data_index s m p q)) ≡ b.written p q
    cell_told p lv q l =
        rw (target_handle p lv, ← target_slots p lv) at (w.cells (area_of p) (target p lv) (target_in p lv) q (omega (arith, target_words p lv)))
