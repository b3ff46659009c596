-- What is seen of a stack by one look at the tables: its top.
-- Assumes nothing.
use Rattle.std.specs.Prelude.{◌≡◌, List, [], ℕ, suc, ◌-◌, ◌≤◌, ◌<◌, get_or}
use Rattle.std.proofs.Math.Path.{ap, sym}
use Rattle.std.proofs.Common.{◌∙◌, arith}
use Rattle.layout.specs.Stack.{down}
use Rattle.model.specs.State.{Thread, thread_at, entries_of, stack_at, current, innermost}
use Rattle.model.specs.Invariant.{ThreadGood}
use Rattle.tables.specs.declared.ThreadWords.{ThreadWords}
use Rattle.tables.specs.declared.Entry.{Entry}
use Rattle.tables.specs.Decode.{state_of, thread_record, entry_record}
use Rattle.tables.proofs.Laws.{len_read, entry_read, inner_read}
use Rattle.tables.specs.Contract.{Ready}

-- the current area and the innermost scope
abbrev pub top_entry_of : List ℕ → Entry
top_entry_of l = record { area = current l; inner = innermost l }

-- ---- of a thread

down_none : (l : List ℕ) (n : ℕ) → n ≡ 0 → down l n ≡ []
unfolding down
down_none l n e = ap (down l) e

module _ (h : Thread) where
  current_none : h.len ≡ 0 → current (entries_of h) ≡ 0
  unfolding entries_of
  current_none e = ap current (down_none h.entries h.len e)

  inner_none : h.len ≡ 0 → innermost (entries_of h) ≡ 0
  unfolding entries_of innermost
  inner_none e = ap innermost (down_none h.entries h.len e)

  current_top : (n : ℕ) → h.len ≡ suc n → current (entries_of h) ≡ get_or h.entries n 0
  unfolding entries_of down
  current_top n e = ap (λ (k : ℕ). current (down h.entries k)) e

  inner_top : ThreadGood h → (n : ℕ) → h.len ≡ suc n → innermost (entries_of h) ≡ get_or h.inner n 0
  unfolding entries_of
  inner_top g n e = ap (λ (k : ℕ). innermost (down h.entries k)) e ∙ sym (g.inner_is n (omega arith))

-- ---- of a thread in the tables, where x are its words

module _ (w b : List ℕ) (r : Ready w b) (t : ℕ) (h : t < 16) (x : ThreadWords) (e : x ≡ thread_record w t) where
  length_is : (thread_at (state_of w b) t).len ≡ x.len
  length_is = len_read w b t h e

  pub length_bound : x.len ≤ 32
  length_bound = omega (arith, length_is, (r.good.threads.each t h).fits)

  pub no_top : x.len ≡ 0 → record { area = 0; inner = 0 } ≡ top_entry_of (stack_at (state_of w b) t)
  no_top z = rw (current_none (thread_at (state_of w b) t) (length_is ∙ z), inner_none (thread_at (state_of w b) t) (length_is ∙ z))

  pub top_is : 0 < x.len → entry_record b t (x.len - 1) ≡ top_entry_of (stack_at (state_of w b) t)
  top_is o =
      let l : x.len - 1 < 32 = omega (arith, length_bound) in
      let m : (thread_at (state_of w b) t).len ≡ suc (x.len - 1) = length_is ∙ omega arith in
      rw (
        current_top (thread_at (state_of w b) t) (x.len - 1) m,
        inner_top (thread_at (state_of w b) t) (r.good.threads.each t h) (x.len - 1) m,
        entry_read w b t (x.len - 1) h l,
        inner_read w b t (x.len - 1) h l,
      )
