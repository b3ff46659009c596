-- A thread after a push and after a pop: its stack, and that it keeps its part of the invariant.
-- Assumes nothing.
use Prim.Native.Nat.{ℕ, zero, suc, pred, ◌≤◌, ◌<◌}
use mathlib.Core.List.{List, [], ◌∷◌}
use mathlib.Core.Path.{◌≡◌, refl, ap, ◌∙◌}
use lib.ListN.{length, get_or, set, length-set}
use lib.Dec.{eqb}
use native.Mathlib.Omega.{arith}
use lib.Seq.{get_or-set_same, get_or-set_other}
use borrow.Author.Tests.{eqb-true, eqb-false}
use Rattle.layout.specs.Choice.{pick, cases}
use Rattle.layout.specs.Stack.{down}
use Rattle.layout.specs.StackLaws.{length_down, down_set_above, down_push, down_pop}
use Rattle.model.specs.State.{Thread, entries_of, current, innermost, is_scope}
use Rattle.model.specs.Scopes.{pushed, popped}
use Rattle.model.specs.Invariant.{ThreadGood}

-- entries that are all areas, and the top of them
top_below : (l : List ℕ) (n : ℕ) → ((k : ℕ) → k < n → get_or l k 0 < 64) → current (down l n) < 64
unfolding down
top_below l zero f = omega arith
top_below l (suc n) f = f n (omega arith)

module _ (h : Thread) where
  pub length_stack : length (entries_of h) ≡ h.len
  unfolding entries_of
  length_stack = length_down h.entries h.len

  -- a thread of no entries has an empty stack
  pub stack_none : h.len ≡ 0 → entries_of h ≡ []
  unfolding entries_of down
  stack_none e = ap (down h.entries) e

  -- the stack, its top apart
  pub stack_pop : 0 < h.len → entries_of h ≡ current (entries_of h) ∷ entries_of (popped h)
  unfolding entries_of popped
  stack_pop k = rw (down_pop h.entries h.len k)

  module _ (o : ThreadGood h) where
    pub stack_area : current (entries_of h) < 64
    unfolding entries_of
    stack_area = top_below h.entries h.len o.areas

    pub popped_good : ThreadGood (popped h)
    unfolding popped
    popped_good = record {
      kind = o.kind;
      idle = λ e. less (o.idle e);
      room = o.room;
      inner_room = o.inner_room;
      fits = short;
      areas = λ k l. o.areas k (within k l);
      inner_is = λ k l. o.inner_is k (within k l);
    }
      where
        less : h.len ≡ 0 → pred h.len ≡ 0
        less e = omega arith

        short : pred h.len ≤ 32
        short = omega (arith, o.fits)

        within : (k : ℕ) → k < pred h.len → k < h.len
        within k l = omega arith

    module _ (q : ℕ) (k : h.len < 32) where
      pub stack_push : entries_of (pushed h q) ≡ q ∷ entries_of h
      unfolding entries_of pushed
      stack_push = down_push h.entries h.len q (omega (arith, o.room))

      pub pushed_good : q < 64 → 0 < h.kind → ThreadGood (pushed h q)
      unfolding pushed entries_of
      pushed_good low some = record {
        kind = o.kind;
        idle = λ e. absurd (omega arith);
        room = length-set h.entries h.len q ∙ o.room;
        inner_room = length-set h.inner h.len inner ∙ o.inner_room;
        fits = omega arith;
        areas = λ j l. cases (eqb j h.len)
            (λ e. rw (eqb-true j h.len e, get_or-set_same h.entries h.len q 0 (omega (arith, o.room))) low)
            (λ e. rw (get_or-set_other h.entries h.len j q 0 (eqb-false j h.len e)) (o.areas j (omega (arith, eqb-false j h.len e))));
        inner_is = λ j l. cases (eqb j h.len)
            (λ e. rw (eqb-true j h.len e, get_or-set_same h.inner h.len inner 0 (omega (arith, o.inner_room))) newest)
            (λ e. older j (omega (arith, eqb-false j h.len e)));
      }
        where
          inner : ℕ
          inner = pick (is_scope q) q (innermost (down h.entries h.len))

          newest : inner ≡ innermost (down (set h.entries h.len q) (suc h.len))
          newest = rw (down_push h.entries h.len q (omega (arith, o.room))) (unfold innermost in refl)

          older : (j : ℕ) → j < h.len → get_or (set h.inner h.len inner) j 0 ≡ innermost (down (set h.entries h.len q) (suc j))
          older j l = rw (get_or-set_other h.inner h.len j inner 0 (λ e. omega arith), down_set_above h.entries (suc j) h.len q (omega arith)) (o.inner_is j l)
