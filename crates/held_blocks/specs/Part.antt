-- The part of the words that has the used bits: what is read in it, what stands in the words when it is written, and which state they hold then.
-- Assumes nothing.
use Rattle.std.specs.Prelude.{Bool, true, false, ◌≡◌, ℕ, ◌+◌, ◌<◌}
use Rattle.std.proofs.Math.Path.{sym, ap}
use Rattle.std.proofs.Common.{◌∙◌, arith, length-take, drop-drop}
use mathlib.Core.List.{List, ◌++◌, append_assoc}
use Rattle.std.proofs.Math.ListN.{length, take, drop, length-drop}
use Rattle.std.proofs.lemmas.List.Edits.{sets-eq}
use Rattle.std.proofs.Math.Seq.{get_or-take, get_or-drop}
use Rattle.layout.specs.Choice.{pick}
use Rattle.tables.specs.Cut.{put, length_cut, read_all}
use Rattle.bitmap.specs.Bitmap.{marked, cleared}
use Rattle.bitmap.specs.BitmapLaws.{length_marked, length_cleared}
use Rattle.flips.specs.Flipped.{AllBits}
use Rattle.model.specs.declared.Area.{Area}
use Rattle.model.specs.State.{State, with_area, with_used_bits}
use Rattle.model.specs.Blocks.{with_used_blocks, with_free_blocks}
use Rattle.tables.specs.Decode.{area_count, used_bits_at, used_bits_words, word_count, state_of, put_area, used_bits_of, put_used_bits, Shaped, Holds}
use Rattle.tables.proofs.Laws.{used_bits_read, state_area, state_used_bits}

pub length_bits : (w : List ℕ) → length (used_bits_of w) ≡ used_bits_words
unfolding used_bits_of
length_bits w = length_cut w used_bits_at used_bits_words

-- the n used bits from bit k on were all clear and are set, or were all set and are cleared: the words w have become v
abbrev pub FlippedPart : List ℕ → List ℕ → ℕ → ℕ → Type 0
FlippedPart w v k n =
    (on : Bool) → AllBits (used_bits_of w) k n (pick on 0 1) → v ≡ put_used_bits w (pick on (marked (used_bits_of w) k n) (cleared (used_bits_of w) k n))

pub length_changed : (on : Bool) (l : List ℕ) (k n : ℕ) → length (pick on (marked l k n) (cleared l k n)) ≡ length l
length_changed true l k n = length_marked l k n
length_changed false l k n = length_cleared l k n

module _ (w : List ℕ) (e : length w ≡ word_count) where
  pub part_read : take used_bits_words (drop used_bits_at w) ≡ used_bits_of w
  unfolding used_bits_of
  part_read = read_all (take used_bits_words (drop used_bits_at w)) w used_bits_at used_bits_words
      (length-take used_bits_words (drop used_bits_at w) ∙ omega (arith, length-drop used_bits_at w))
      (λ k h. get_or-take used_bits_words (drop used_bits_at w) k 0 h ∙ get_or-drop used_bits_at w k 0)

  pub part_put : (u : List ℕ) → length u ≡ used_bits_words → take used_bits_at w ++ (u ++ drop used_bits_words (drop used_bits_at w)) ≡ put_used_bits w u
  unfolding put_used_bits put
  part_put u k =
      let rest : drop used_bits_words (drop used_bits_at w) ≡ drop (used_bits_at + length u) w = rw k (drop-drop used_bits_words used_bits_at w) in
      ap (λ (z : List ℕ). take used_bits_at w ++ (u ++ z)) rest
      ∙ sym (sets-eq u w used_bits_at (omega arith) ∙ append_assoc (take used_bits_at w) u (drop (used_bits_at + length u) w))

-- ---- the state

-- an area that is written leaves the used bits
pub bits_kept : (w b : List ℕ) (a : ℕ) (x : Area) → a < area_count → Shaped w b → used_bits_of (put_area w a x) ≡ (state_of w b).used_bits
unfolding with_area
bits_kept w b a x h z = sym (used_bits_read (put_area w a x) b) ∙ ap (λ (r : State). r.used_bits) (state_area w b a x h z).state

module _ (w b : List ℕ) (s : State) (h : Holds w b s) where
  -- the used bits are changed by f
  bits_hold : (f : List ℕ → List ℕ) → ((l : List ℕ) → length (f l) ≡ length l) → Holds (put_used_bits w (f (used_bits_of w))) b (with_used_bits s (f s.used_bits))
  bits_hold f long =
      let k : Holds (put_used_bits w (f (used_bits_of w))) b (with_used_bits (state_of w b) (f (used_bits_of w)))
      = state_used_bits w b (f (used_bits_of w)) (long (used_bits_of w) ∙ length_bits w) h.sized in
      record {
        sized = k.sized;
        state = k.state ∙ rw (← used_bits_read w b) (ap (λ (r : State). with_used_bits r (f r.used_bits)) h.state);
      }

  pub used_hold : (k n : ℕ) → Holds (put_used_bits w (marked (used_bits_of w) k n)) b (with_used_blocks s k n)
  unfolding with_used_blocks
  used_hold k n = bits_hold (λ (l : List ℕ). marked l k n) (λ l. length_marked l k n)

  pub free_hold : (k n : ℕ) → Holds (put_used_bits w (cleared (used_bits_of w) k n)) b (with_free_blocks s k n)
  unfolding with_free_blocks
  free_hold k n = bits_hold (λ (l : List ℕ). cleared l k n) (λ l. length_cleared l k n)
