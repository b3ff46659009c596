-- What an accepted call has passed: refusal 1 apart, then one record for each op, from the rest of its status being 0.
-- Assumes nothing.
use Prim.Native.Nat.{ℕ, suc, ◌+◌, ◌≤◌, ◌<◌}
use mathlib.Core.Bool.{true, not, ◌||◌}
use mathlib.Core.List.{List}
use mathlib.Core.Path.{◌≡◌, refl}
use native.Mathlib.Omega.{arith}
use lib.Dec.{eqb, leb, ltb}
use borrow.Author.Tests.{ltb-true, ltb-false, leb-false, eqb-true, eqb-false, lt-ltb, le-leb, le-ltb, not-false}
use Rattle.layout.specs.Choice.{peel, and_true, and_false, or_false}
use Rattle.layout.specs.Handle.{null, area_of}
use Rattle.layout.specs.Header.{slots_of, data_of}
use Rattle.bitmap.specs.Bitmap.{bit_at}
use Rattle.runs.specs.LowestRun.{is_clear, Lowest}
use Rattle.runs.proofs.LowestRun.{lowest_run_lem}
use Rattle.rights.specs.Rights.{is_table, Loadable}
use Rattle.rights.proofs.Loading.{table_loadable}
use Rattle.model.specs.State.{State, Memory, area_at, thread_at, stack_at, innermost, is_no_scope, is_made, is_open}
use Rattle.model.specs.Blocks.{block_count, blocks_for, room_for}
use Rattle.model.specs.Checks.{fits, fitted, called, admit, header_at, live, is_object, is_reference, use_rest}
use Rattle.model.specs.Threads.{is_kind, startable, start_rest, end_rest}
use Rattle.model.specs.Scopes.{make_rest, last_generation, other_parent, generations_out, enter_rest, exit_rest}
use Rattle.model.specs.Helpers.{helper_rest}
use Rattle.model.specs.Removal.{remove_rest}
use Rattle.model.specs.Objects.{current_at, allocate_rest}
use Rattle.model.specs.References.{may_refer, slot_rest, reference_rest, store_rest}
use Rattle.model.specs.Data.{data_rest}
use Rattle.model.specs.Configuration.{load_rights_status}

-- refusal 1
pub fitted_ok : (s : State) (m : Memory) (rest : ℕ) → fitted s m rest ≡ 0 → (fits s m ≡ true) × (rest ≡ 0)
unfolding fitted
fitted_ok s m rest e =
    let a = peel _ _ _ e in
    (not-false (fits s m) a.0, a.1)

-- calls whose refusals read no lent word
module _ (s : State) (t : ℕ) where
  -- refusal 2
  pub record Called : Type 0 where
    pub thread : t < 16
    pub started : 0 < (thread_at s t).kind

  pub called_ok : (rest : ℕ) → called s t rest ≡ 0 → Called × (rest ≡ 0)
  unfolding called
  called_ok rest e =
      let b = peel _ _ _ e in
      let c = peel _ _ _ b.1 in (
        record { thread = omega (arith, leb-false); started = ltb-true _ _ (not-false _ c.0) },
        c.1,
      )

  -- op 01
  pub record StartOk (p : ℕ) : Type 0 where
    pub thread : t < 16
    pub idle : (thread_at s t).kind ≡ 0
    pub some : 0 < p
    pub kind : p < 4

  pub startable_ok : (p rest : ℕ) → startable s t p rest ≡ 0 → StartOk p × (rest ≡ 0)
  unfolding startable
  startable_ok p rest e =
      let b = peel _ _ _ e in
      let c = peel _ _ _ b.1 in
      let d = peel _ _ _ c.1 in
      let k = and_true (ltb 0 p) _ (not-false (is_kind p) d.0) in (
        record {
          thread = omega (arith, leb-false);
          idle = omega (arith, ltb-false);
          some = omega (arith, ltb-true);
          kind = omega (arith, ltb-true);
        },
        d.1,
      )

  pub start_ok : (p : ℕ) → start_rest s t p ≡ 0 → StartOk p
  start_ok p e = (startable_ok p 0 e).0

  -- op 02
  pub record EndOk : Type 0 where
    pub called : Called
    pub empty : (thread_at s t).len ≡ 0

  pub end_ok : end_rest s t ≡ 0 → EndOk
  unfolding end_rest
  end_ok e =
      let a = called_ok _ e in
      let b = peel _ _ _ a.1 in
      record { called = a.0; empty = omega (arith, ltb-false) }

  -- op 03
  pub record MakeOk (q r : ℕ) : Type 0 where
    pub called : Called
    pub scope : 2 ≤ q
    pub area : q < 64
    pub unmade : (area_at s q).size ≡ 0
    pub some : 0 < r
    pub ends : room_for s r + blocks_for r ≤ block_count s
    pub clear : (k : ℕ) → k < blocks_for r → bit_at s.used_bits (room_for s r + k) ≡ 0

  -- the room of a new scope is the lowest run
  pub lowest_room : (r : ℕ) → 0 < r → Lowest (is_clear s.used_bits) (blocks_for r) (block_count s) (room_for s r)
  unfolding room_for
  lowest_room r h = lowest_run_lem (is_clear s.used_bits) (blocks_for r) (block_count s) (omega arith)

  pub make_ok : (q r : ℕ) → make_rest s t q r ≡ 0 → MakeOk q r
  unfolding make_rest is_made
  make_ok q r e =
      let a = called_ok _ e in
      let b = peel _ _ _ a.1 in
      let c = peel _ _ _ b.1 in
      let d = peel _ _ _ c.1 in
      let f = or_false (ltb q 2) _ b.0 in
      let g = or_false (ltb q 2) _ c.0 in
      let h = or_false (eqb r 0) _ d.0 in
      let ne : r ≡ 0 → ⊥ = eqb-false r 0 h.0 in
      let there : room_for s r ≡ block_count s → ⊥ = eqb-false (room_for s r) (block_count s) h.1 in
      let low = lowest_room r (omega arith) in
      record {
        called = a.0;
        scope = omega (arith, ltb-false);
        area = omega (arith, leb-false);
        unmade = omega (arith, ltb-false);
        some = omega arith;
        ends = low.ends there;
        clear = λ k l. eqb-true (bit_at s.used_bits (room_for s r + k)) 0 (low.run there k l);
      }

  -- op 0c
  pub record RemoveOk (q : ℕ) : Type 0 where
    pub called : Called
    pub scope : 2 ≤ q
    pub area : q < 64
    pub made : 0 < (area_at s q).size
    pub closed : (area_at s q).count ≡ 0

  pub remove_ok : (q : ℕ) → remove_rest s t q ≡ 0 → RemoveOk q
  unfolding remove_rest is_made
  remove_ok q e =
      let a = called_ok _ e in
      let b = peel _ _ _ a.1 in
      let c = peel _ _ _ b.1 in
      let f = or_false (is_no_scope q) _ b.0 in
      let g = or_false (ltb q 2) _ f.0 in
      let low : 2 ≤ q = ltb-false q 2 g.0 in
      record {
        called = a.0;
        scope = low;
        area = omega (arith, leb-false);
        made = ltb-true 0 (area_at s q).size (rw (le-ltb q 2 low) at (not-false (is_made s q) f.1));
        closed = omega (arith, ltb-false);
      }

  -- op 04
  pub record EnterOk (q : ℕ) : Type 0 where
    pub called : Called
    pub area : q < 64
    pub made : is_made s q ≡ true
    pub room : (thread_at s t).len < 32
    pub parent : 2 ≤ q → 0 < (area_at s q).count → (area_at s q).parent ≡ innermost (stack_at s t)
    pub generation : 2 ≤ q → (area_at s q).count ≡ 0 → (area_at s q).generation < last_generation

  pub enter_ok : (q : ℕ) → enter_rest s t q ≡ 0 → EnterOk q
  unfolding enter_rest other_parent generations_out
  enter_ok q e =
      let a = called_ok _ e in
      let b = peel _ _ _ a.1 in
      let c = peel _ _ _ b.1 in
      let d = peel _ _ _ c.1 in
      let f = peel _ _ _ d.1 in
      let g = peel _ _ _ f.1 in
      let h = or_false (leb 64 q) _ b.0 in
      record {
        called = a.0;
        area = omega (arith, leb-false);
        made = not-false (is_made s q) h.1;
        room = omega (arith, leb-false);
        parent = λ k o. eqb-true (area_at s q).parent (innermost (stack_at s t))
            (not-false (eqb (area_at s q).parent (innermost (stack_at s t)))
            (and_false (ltb 0 (area_at s q).count) _ (and_false (leb 2 q) _ f.0 (le-leb 2 q k)) (lt-ltb 0 (area_at s q).count o)));
        generation = λ k o. let z = and_false (not (is_open s q)) _ (and_false (leb 2 q) _ g.0 (le-leb 2 q k)) (closed o) in omega (arith, leb-false);
      }
    where
      closed : (area_at s q).count ≡ 0 → not (ltb 0 (area_at s q).count) ≡ true
      closed o = rw (le-ltb 0 (area_at s q).count (omega arith)) refl

  -- op 05
  pub record ExitOk : Type 0 where
    pub called : Called
    pub some : 0 < (thread_at s t).len

  pub exit_ok : exit_rest s t ≡ 0 → ExitOk
  unfolding exit_rest
  exit_ok e =
      let a = called_ok _ e in
      let b = peel _ _ _ a.1 in
      record { called = a.0; some = omega (arith, eqb-false) }

  -- op 06
  pub record AllocateOk (slots data_words : ℕ) : Type 0 where
    pub called : Called
    pub room : suc ((area_at s (current_at s t)).used + slots + data_words) ≤ (area_at s (current_at s t)).size

  pub allocate_ok : (slots data_words : ℕ) → allocate_rest s t slots data_words ≡ 0 → AllocateOk slots data_words
  unfolding allocate_rest
  allocate_ok slots data_words e =
      let a = called_ok _ e in
      let b = peel _ _ _ a.1 in
      let c = peel _ _ _ b.1 in
      record { called = a.0; room = omega (arith, ltb-false) }

-- op 0b
pub record HelperOk (s : State) (t p q : ℕ) : Type 0 where
  pub called : Called s t
  pub helper : StartOk s q p

pub helper_ok : (s : State) (t p q : ℕ) → helper_rest s t p q ≡ 0 → HelperOk s t p q
unfolding helper_rest
helper_ok s t p q e =
    let a = called_ok s t _ e in
    record { called = a.0; helper = (startable_ok s q p _ a.1).0 }

-- calls on an object
module _ (s : State) (m : Memory) (t : ℕ) where
  -- refusals 1 and 2
  pub record Admitted : Type 0 where
    pub supplied : fits s m ≡ true
    pub called : Called s t

  pub admitted : (rest : ℕ) → admit s m t rest ≡ 0 → Admitted × (rest ≡ 0)
  admitted rest e =
      let a = fitted_ok s m _ e in
      let b = called_ok s t rest a.1 in
      (record { supplied = a.0; called = b.0 }, b.1)

  -- every one of them, after these
  pub record UseOk (p : ℕ) : Type 0 where
    pub object : live s m p ≡ true

  pub use_ok : (p rest : ℕ) → use_rest s m t p rest ≡ 0 → UseOk p × (rest ≡ 0)
  unfolding use_rest is_object
  use_ok p rest e =
      let b = peel _ _ _ e in
      let c = peel _ _ _ b.1 in
      let d = and_true (not (eqb p null)) (live s m p) (not-false (is_object s m p) b.0) in
      (record { object = d.1 }, c.1)

  -- ops 07 and 08 as far as the slot
  pub record SlotOk (p q : ℕ) : Type 0 where
    pub used : UseOk p
    pub slot : q < slots_of (header_at s m p)

  pub slot_ok : (p q rest : ℕ) → slot_rest s m t p q rest ≡ 0 → SlotOk p q × (rest ≡ 0)
  unfolding slot_rest
  slot_ok p q rest e =
      let a = use_ok p _ e in
      let b = peel _ _ _ a.1 in
      (record { used = a.0; slot = omega (arith, leb-false) }, b.1)

  -- op 07
  pub record StoreOk (p q r : ℕ) : Type 0 where
    pub at : SlotOk p q
    pub target : is_reference s m r ≡ true
    pub rule : eqb r null || may_refer s (area_of p) (area_of r) ≡ true

  pub store_ok : (p q r : ℕ) → store_rest s m t p q r ≡ 0 → StoreOk p q r
  unfolding store_rest reference_rest
  store_ok p q r e =
      let a = slot_ok p q _ e in
      let b = peel _ _ _ a.1 in
      let c = peel _ _ _ b.1 in
      let d = peel _ _ _ c.1 in
      record { at = a.0; target = not-false (is_reference s m r) b.0; rule = not-false (eqb r null || may_refer s (area_of p) (area_of r)) d.0 }

  -- ops 09 and 0a as far as the data word
  pub record DataOk (p q : ℕ) : Type 0 where
    pub used : UseOk p
    pub index : q < data_of (header_at s m p)

  pub data_ok : (p q rest : ℕ) → data_rest s m t p q rest ≡ 0 → DataOk p q × (rest ≡ 0)
  unfolding data_rest
  data_ok p q rest e =
      let a = use_ok p _ e in
      let b = peel _ _ _ a.1 in
      (record { used = a.0; index = omega (arith, leb-false) }, b.1)

-- ---- the load of a rights table: its text may be loaded

pub load_rights_ok : (s : State) (text : List ℕ) → load_rights_status s text ≡ 0 → Loadable text
unfolding load_rights_status
load_rights_ok s text e = table_loadable text (not-false (is_table text) (peel (not (is_table text)) 22 _ e).0)
