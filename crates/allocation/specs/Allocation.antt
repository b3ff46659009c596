-- Op 06: one law for each way that its checks end, and what it leaves.
-- Assumes nothing.
use Prim.Native.Nat.{ℕ, suc, ◌+◌, ◌*◌, ◌%◌, ◌^◌, ◌≤◌, ◌<◌}
use Rattle.std.specs.Prelude.{Bool, true, false, not, List, ◌≢◌, ◌≡◌, refl, leb, ltb, length}
use Rattle.std.proofs.Math.Path.{sym, ap}
use Rattle.std.proofs.Common.{◌∙◌}
use native.Mathlib.Omega.{arith}
use Rattle.std.proofs.Math.Numerals.{add-one}
use borrow.Author.Tests.{leb-true, leb-false, lt-ltb, le-ltb}
use Rattle.layout.specs.Choice.{pick, refuse, cases}
use Rattle.layout.specs.Handle.{handle_of}
use Rattle.bitmap.specs.Bitmap.{cleared}
use Rattle.rights.specs.declared.Right.TheVariants.{Allocate}
use Rattle.model.specs.declared.Area.{Area}
use Rattle.model.specs.State.{State, Memory, area_at, is_scope, store_of, bit_index}
use Rattle.model.specs.Checks.{fits, fitted, admit, has_right}
use Rattle.model.specs.Objects.{current_at, allocate_rest, allocate_state, allocate_memory, allocate_value, object_words, object_bits, unwritten_bits, grown}
use Rattle.model.specs.Invariant.{Good}
use Rattle.model.proofs.Accepted.{Admitted, allocate_ok}
use Rattle.model.proofs.Outcomes.{fit_fitted}
use Rattle.tables.specs.Decode.{state_of, put_area, Holds}
use Rattle.tables.proofs.Laws.{state_area}
use Rattle.tables.specs.Contract.{Ready, memory_of}
use Rattle.callers.specs.Caller.{caller_refused, called_rest}
use Rattle.model.proofs.PlacedWords.{supplied_lengths}
use Rattle.objects.specs.Fits.{fits_stores}
use Rattle.objects.proofs.Places.{AreaWords, area_words_lem}
use Rattle.stores.specs.Stores.{StoreWritten, stored_memory}

-- refusals 5 and 12, from whether the thread may allocate in the area and from the area's record
unfoldable pub area_rest : Bool → Area → ℕ → ℕ → ℕ
area_rest may x slots data_words = refuse (not may) 5 (refuse (ltb x.size (suc (x.used + slots + data_words))) 12 0)

-- an object of so many words has room in area a, whose record is x
pub record HasRoom (s : State) (a : ℕ) (x : Area) (slots data_words : ℕ) : Type 0 where
  pub area : a < 64
  pub record_is : x ≡ area_at s a
  pub room : suc (x.used + slots + data_words) ≤ x.size

-- what an accepted call yields and leaves, in area a
pub record ObjectMade (value : ℕ) (w b : List ℕ) (x : Memory) (s : State) (m : Memory) (a slots data_words : ℕ) : Type 0 where
  pub value_is : value ≡ allocate_value s a
  pub holds : Holds w b (allocate_state s a slots data_words)
  pub memory_is : x ≡ allocate_memory s m a slots data_words

-- what it asks: the call has passed refusal 1
abbrev pub Lent : List ℕ → List ℕ → Memory → Type 0
Lent w b m = Ready w b × (fits (state_of w b) m ≡ true)

-- ---- the checks

module _ (may : Bool) (x : Area) (slots data_words : ℕ) where
  pub no_right : may ≡ false → 5 ≡ area_rest may x slots data_words
  unfolding area_rest refuse
  no_right e = rw e

  module _ (e : may ≡ true) where
    pub no_room_lem : x.size < suc (x.used + slots + data_words) → 12 ≡ area_rest may x slots data_words
    unfolding area_rest refuse
    no_room_lem h = rw (e, lt-ltb x.size (suc (x.used + slots + data_words)) h)

    pub some_room : suc (x.used + slots + data_words) ≤ x.size → 0 ≡ area_rest may x slots data_words
    unfolding area_rest refuse
    some_room h = rw (e, le-ltb x.size (suc (x.used + slots + data_words)) h)

-- n is what check_caller answers
pub allocate_not_admitted : (s : State) (m : Memory) (t slots data_words : ℕ) {n : ℕ} → n ≡ admit s m t 0 → n ≢ 0
    → n ≡ fitted s m (allocate_rest s t slots data_words)
unfolding allocate_rest
allocate_not_admitted s m t slots data_words e h = caller_refused s m t e h _

-- n is what check_area answers, of the current area a and its record x
module _ (s : State) (m : Memory) (t slots data_words : ℕ) (k : Admitted s m t) {n a : ℕ} {x : Area} {may : Bool}
    (ea : a ≡ current_at s t) (er : may ≡ has_right s t Allocate a) (ex : x ≡ area_at s a) (e : n ≡ area_rest may x slots data_words) where
  rest_is : n ≡ allocate_rest s t slots data_words
  unfolding area_rest allocate_rest
  rest_is = e ∙ sym (called_rest s t k.called _ ∙ rw (← ea, ← er, ← ex) refl)

  pub allocate_checked : n ≡ fitted s m (allocate_rest s t slots data_words)
  allocate_checked = rest_is ∙ sym (fit_fitted s m k.supplied _)

  pub has_room : a < 64 → n ≡ 0 → HasRoom s a x slots data_words
  has_room h z = record { area = h; record_is = ex; room = rw (ex, ea) (allocate_ok s t slots data_words (sym rest_is ∙ z)).room }

-- ---- the effect

-- the numbers of a handle fit their fields
generation_low : (s : State) → Good s → (a : ℕ) → a < 64 → (area_at s a).generation < 2 ^ 44
generation_low s g a k =
    cases (leb 2 a)
    (λ e. omega (arith, (g.scopes a (leb-true 2 a e) k).generation))
    (λ e. omega (arith, (g.standing a (leb-false 2 a e)).generation))

module _ (w b : List ℕ) (m : Memory) (a : ℕ) (x : Area) (slots data_words : ℕ) (r : Ready w b) (f : fits (state_of w b) m ≡ true)
    (k : HasRoom (state_of w b) a x slots data_words) where
  in_area : AreaWords (state_of w b) m a
  in_area = area_words_lem (state_of w b) m r.good (fits_stores (state_of w b) m f) a k.area

  start_is : x.start ≡ (area_at (state_of w b) a).start
  start_is = ap (λ (y : Area). y.start) k.record_is

  size_is : x.size ≡ (area_at (state_of w b) a).size
  size_is = ap (λ (y : Area). y.size) k.record_is

  pub words_low : x.start + x.used + 1 + slots + data_words ≤ 16384
  words_low = omega (arith, k.room, in_area.low, start_is, size_is)

  pub words_in : x.start + x.used + 1 + slots + data_words ≤ length (store_of m a)
  words_in = omega (arith, k.room, in_area.words, start_is, size_is)

  pub bit_sum : length m.permanent + (x.start + x.used) < 65536
  bit_sum = omega (arith, words_low, in_area.first, (supplied_lengths (state_of w b) m f).permanent)

  module _ (i : ℕ) (ei : i ≡ pick (is_scope a) (length m.permanent) 0 + (x.start + x.used)) where
    first_is : i ≡ pick (is_scope a) (state_of w b).lengths.permanent 0 + (x.start + x.used)
    first_is = ei ∙ rw (supplied_lengths (state_of w b) m f).permanent refl

    pub bits_in : i + 1 + (slots + data_words) ≤ 64 * length m.map
    bits_in = omega (arith, first_is, k.room, in_area.bits, start_is, size_is)

    pub written_in : i + (slots + data_words + 1) ≤ 64 * length m.written
    written_in = omega (arith, bits_in, (supplied_lengths (state_of w b) m f).map, (supplied_lengths (state_of w b) m f).written)

    pub bits_low : i + 1 + (slots + data_words) ≤ 32768
    bits_low = cases (leb 2 a)
        (λ e. omega (arith, (rw e at ei), words_low, in_area.first, (supplied_lengths (state_of w b) m f).permanent))
        (λ e. omega (arith, (rw e at ei), words_low))

    index_is : i ≡ bit_index (state_of w b) a (area_at (state_of w b) a).used
    index_is = first_is ∙ rw k.record_is refl

    pub allocated : {p' s' m' x' : List ℕ} {v : ℕ} → m' ≡ object_bits m.map i (slots + data_words) → x' ≡ cleared m.written i (slots + data_words + 1)
        → StoreWritten p' s' m.permanent m.scratch a (object_words (store_of m a) (x.start + x.used) slots data_words)
        → v ≡ handle_of (x.used % 16384) (a % 64) (x.generation % 2 ^ 44)
        → ObjectMade v (put_area w a (grown x (x.used + 1 + slots + data_words))) b (memory_of p' s' m' x') (state_of w b) m a slots data_words
    unfolding allocate_value allocate_state allocate_memory unwritten_bits
    allocated {m' = m'} {x' = x'} e c' z v =
        let u : x.used + 1 + slots + data_words ≡ suc (x.used + slots + data_words) = omega arith in
        let o : x.used % 16384 ≡ x.used = omega (arith, words_low) in
        let c : a % 64 ≡ a = omega (arith, k.area) in
        let g : x.generation % 2 ^ 44 ≡ x.generation = omega (arith, generation_low (state_of w b) r.good a k.area, ap (λ (y : Area). y.generation) k.record_is) in
        record {
          value_is = v ∙ rw (o, c, g, k.record_is) refl;
          holds = rw (u, k.record_is) (state_area w b a _ k.area r.sized);
          memory_is = stored_memory z m' x' ∙ rw (e, c', add-one, index_is, k.record_is) refl;
        }
