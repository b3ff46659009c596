-- What an accepted entry may rely on, and that what it writes is what the definitions say.
-- Assumes nothing.
use Rattle.std.specs.Prelude.{◌≡◌, set}
use Rattle.std.proofs.Math.Path.{refl, ap, sym}
use Rattle.std.proofs.Common.{◌∙◌, add-one, arith}
use mathlib.Core.List.{List}
use Prim.Native.Nat.{ℕ, suc, ◌+◌, ◌≤◌, ◌<◌}
use Rattle.std.proofs.Math.ListN.{length, length-set}
use borrow.Author.Tests.{le-leb, lt-leb, lt-ltb, le-ltb}
use Rattle.layout.specs.Display.{extended_row}
use Rattle.model.specs.declared.Area.{Area}
use Rattle.model.specs.State.{State, area_at, row_at, thread_at, with_area, with_row, with_thread, stack_at, innermost}
use Rattle.model.specs.Scopes.{last_generation, reentered, opened, entered_area, pushed, enter_state, enter_value}
use Rattle.tables.specs.declared.ThreadWords.{ThreadWords}
use Rattle.tables.specs.Decode.{state_of, area_record, put_area, thread_record, put_thread, put_entry, display_row, put_row, Shaped, Holds}
use Rattle.tables.proofs.Laws.{area_read, row_read, kind_read, len_read, length_row, state_area, state_row, state_push}

-- what an accepted entry has
pub record Enterable (s : State) (t q : ℕ) : Type 0 where
  pub thread : t < 16
  pub room : (thread_at s t).len < 32
  pub area : q < 64
  pub parent : innermost (stack_at s t) < 64
  pub depth : (area_at s (innermost (stack_at s t))).depth < 32
  pub count : (area_at s q).count ≤ 512
  pub generation : 2 ≤ q → (area_at s q).count ≡ 0 → (area_at s q).generation < last_generation

-- an entry on a stack, with the innermost scope as of it
unfoldable pub pushed_state : State → ℕ → ℕ → ℕ → State
pushed_state s t q inner = with_thread s t (record {
  kind = (thread_at s t).kind;
  len = suc (thread_at s t).len;
  entries = set (thread_at s t).entries (thread_at s t).len q;
  inner = set (thread_at s t).inner (thread_at s t).len inner;
})

-- what an accepted entry has, from what is read of the areas
module _ (s : State) (t q : ℕ) (k : Enterable s t q) where
  pub count_room : {x : Area} → x ≡ area_at s q → x.count < 1024
  count_room e = rw e (omega (arith, k.count))

  pub generation_room : {x : Area} → x ≡ area_at s q → 2 ≤ q → (area_at s q).count ≤ 0 → x.generation < last_generation
  generation_room e h n = rw e (k.generation h (omega arith))

  pub parent_room : (p : ℕ) → p ≡ innermost (stack_at s t) → p < 64
  parent_room p i = rw i k.parent

  pub depth_room : (p : ℕ) {x : Area} → p ≡ innermost (stack_at s t) → x ≡ area_at s p → x.depth < 32
  depth_room p i e = rw (e, i) k.depth

-- ---- the stack

-- x are the words of the thread
pub pushed_holds : (w b : List ℕ) → Shaped w b → (t q i : ℕ) {x : ThreadWords} → t < 16 → x ≡ thread_record w t → x.len < 32
    → Holds (put_thread w t (record { kind = x.kind; len = x.len + 1 })) (put_entry b t x.len (record { area = q; inner = i })) (pushed_state (state_of w b) t q i)
unfolding pushed_state
pushed_holds w b z t q i {x} h e k = rw (kind_read w b t h e, len_read w b t h e, add-one x.len) (state_push w b t x.len _ _ h k z)

-- ---- heap or immortal memory, whose record is x

module _ (w b : List ℕ) (t q : ℕ) (h : q < 2) where
  pub value_standing : {x : Area} → x ≡ area_record w q → x.generation ≡ enter_value (state_of w b) q
  unfolding enter_value
  value_standing e = rw (area_read w b q (omega arith) ∙ sym e, lt-leb 2 q h) refl

  pub standing_holds : (i : ℕ) {v d : List ℕ} → i ≡ innermost (stack_at (state_of w b) t)
      → Holds v d (pushed_state (state_of w b) t q i) → Holds v d (enter_state (state_of w b) t q)
  unfolding enter_state entered_area pushed_state pushed
  standing_holds i e k = record { sized = k.sized; state = k.state ∙ rw (e, lt-leb 2 q h) refl }

-- ---- a scope: v and d are the tables after its entry is on the stack, x what the code reads of it then, y what it makes of it

module _ (w b : List ℕ) (t q : ℕ) (k : Enterable (state_of w b) t q) (h : 2 ≤ q) {v d : List ℕ} (m : Holds v d (pushed_state (state_of w b) t q q)) where
  -- an area is as it was
  pub area_kept : (a : ℕ) {x : Area} → a < 64 → x ≡ area_record v a → x ≡ area_at (state_of w b) a
  unfolding pushed_state with_thread
  area_kept a l e = e ∙ sym (area_read v d a l) ∙ ap (λ (r : State). area_at r a) m.state

  module _ {x : Area} (y : Area) (e : x ≡ area_record v q) where
    here : area_at (state_of w b) q ≡ x
    here = sym (area_kept q k.area e)

    written : Holds (put_area v q y) d (with_area (state_of v d) q y)
    written = state_area v d q y k.area m.sized

    module _ (n : 0 < (area_at (state_of w b) q).count) (f : y ≡ reentered x) where
      some : 0 < x.count
      some = rw (← here) n

      pub value_open : x.generation ≡ enter_value (state_of w b) q
      unfolding enter_value
      value_open = rw (here, le-leb 2 q h, lt-ltb 0 x.count some) refl

      pub open_holds : Holds (put_area v q y) d (enter_state (state_of w b) t q)
      unfolding enter_state entered_area pushed_state pushed with_area with_thread
      open_holds = record {
        sized = written.sized;
        state = written.state ∙ ap (λ (r : State). with_area r q y) m.state ∙ rw (f, here, le-leb 2 q h, lt-ltb 0 x.count some) refl;
      }

    -- u is the parent's area
    module _ (p : ℕ) (i : p ≡ innermost (stack_at (state_of w b) t)) {u : Area} (n : (area_at (state_of w b) q).count ≤ 0) (j : u ≡ area_record v p) (f : y ≡ opened x p u.depth) where
      none : x.count ≤ 0
      none = rw (← here) n

      parent : p < 64
      parent = rw i k.parent

      pub value_fresh : y.generation ≡ enter_value (state_of w b) q
      unfolding enter_value
      value_fresh = ap (λ (a : Area). a.generation) f ∙ rw (here, le-leb 2 q h, le-ltb 0 x.count none) refl

      -- the parent's display is as it was
      parent_row : display_row d p ≡ row_at (state_of w b) p
      unfolding pushed_state with_thread
      parent_row = sym (row_read v d p parent) ∙ ap (λ (r : State). row_at r p) m.state

      pub fresh_holds : {r : List ℕ} → r ≡ put_row d q (extended_row (display_row d p) u.depth q) → Holds (put_area v q y) r (enter_state (state_of w b) t q)
      unfolding enter_state entered_area pushed_state pushed with_area with_row with_thread
      fresh_holds a =
          let l : List ℕ = extended_row (display_row d p) u.depth q in
          let n : length l ≡ 32 = length-set (display_row d p) u.depth q ∙ length_row d p in
          let c : Holds (put_area v q y) (put_row d q l) (with_row (state_of (put_area v q y) d) q l) = state_row (put_area v q y) d q l k.area n written.sized in
          let s : area_at (state_of w b) p ≡ u = sym (area_kept p parent j) in
          rw a (record {
            sized = c.sized;
            state =
                c.state
                ∙ ap (λ (r : State). with_row r q l) (written.state ∙ ap (λ (r : State). with_area r q y) m.state)
                ∙ rw (parent_row, f, here, ← i, s, le-leb 2 q h, le-ltb 0 x.count none) refl;
          })
