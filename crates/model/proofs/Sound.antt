-- What ties a state, the lent memory and the history together: the invariant over every list of calls.
-- Assumes nothing.
use Prim.Native.Nat.{ℕ, ◌≤◌, ◌<◌}
use mathlib.Core.Bool.{Bool, true}
use mathlib.Core.List.{[]}
use mathlib.Core.Path.{◌≡◌}
use lib.Dec.{eqb}
use Rattle.layout.specs.Handle.{area_of, generation_of}
use Rattle.bitmap.specs.Bitmap.{bit_at}
use Rattle.model.specs.State.{State, Memory, area_at, thread_at, display_at, word_at, bit_index}
use Rattle.model.specs.Checks.{fits}
use Rattle.model.specs.History.{History, occurrences, history_words}
use Rattle.model.specs.Invariant.{parent_in, count_in, stacks_in, Good}
use Rattle.model.proofs.Memory.{Mem}

-- the state has the history's threads, stacks and parents
pub record Same (s : State) (b : History) : Type 0 where
  pub kinds : (t : ℕ) → (thread_at s t).kind ≡ b.kinds t
  pub rows : stacks_in s ≡ b.rows
  pub parents : (a : ℕ) → parent_in s a ≡ b.parents a

-- what is seen of the areas and of the map
abbrev pub used_in : State → ℕ → ℕ
used_in s a = (area_at s a).used

abbrev pub generation_in : State → ℕ → ℕ
generation_in s a = (area_at s a).generation

abbrev pub bit_in : State → Memory → ℕ → ℕ → Bool
bit_in s m a o = eqb (bit_at m.map (bit_index s a o)) 1

-- h names no object any more, and never will: its scope has a later generation, or will have when it opens
pub record Dead (count generation : ℕ → ℕ) (h : ℕ) : Type 0 where
  pub scope : 2 ≤ area_of h
  pub old : generation_of h ≤ generation (area_of h)
  pub past : 0 < count (area_of h) → generation_of h < generation (area_of h)

pub record Sound (s : State) (m : Memory) (b : History) : Type 0 where
  pub good : Good s
  pub same : Same s b
  pub supplied : fits s m ≡ true
  pub memory : Mem (display_at s) (count_in s) (used_in s) (generation_in s) (word_at s m) (bit_in s m) b.objects
  pub dead : (h : ℕ) → 0 < occurrences h b.gone → Dead (count_in s) (generation_in s) h
  pub above : (a : ℕ) → 64 ≤ a → b.objects a ≡ []

-- what is stored and written in the objects is told apart from it
module _ (s : State) (b : History) (stored written : ℕ → ℕ → ℕ) where
  pub same_words : Same s b → Same s (history_words b stored written)
  unfolding history_words
  same_words e = record { kinds = e.kinds; rows = e.rows; parents = e.parents }

pub sound_words : (s : State) (m : Memory) (b : History) → Sound s m b → (stored written : ℕ → ℕ → ℕ) → Sound s m (history_words b stored written)
unfolding history_words
sound_words s m b o stored written = record {
  good = o.good;
  same = same_words s b stored written o.same;
  supplied = o.supplied;
  memory = o.memory;
  dead = o.dead;
  above = o.above;
}
