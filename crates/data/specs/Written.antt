-- A data word that is found: its bit in the written map, what a read of it answers by the bit, and what a write of it leaves.
-- Assumes nothing.
use Rattle.std.specs.Prelude.{ℕ, ◌/◌, ◌<◌, true, List, ◌≢◌, ◌≡◌, eqb, length, set}
use Rattle.std.proofs.Math.Path.{sym, ap}
use Rattle.std.proofs.Common.{◌∙◌, arith, eq-eqb, ne_eqb}
use Rattle.layout.specs.Choice.{refuse, hit, skip}
use Rattle.bitmap.specs.Bitmap.{bit_at, with_bit}
use Rattle.model.specs.State.{State, Memory, store_of, with_written}
use Rattle.model.specs.Checks.{fits}
use Rattle.model.specs.References.{store_after}
use Rattle.model.specs.Data.{data_index, data_rest, written_index, write_memory, read_rest}
use Rattle.model.specs.Invariant.{Good}
use Rattle.model.proofs.PlacedWords.{supplied_lengths}
use Rattle.tables.specs.Contract.{memory_of}
use Rattle.objects.specs.declared.index.Part.TheVariants.{Data}
use Rattle.objects.specs.declared.index.WordPlace.{WordPlace}
use Rattle.objects.specs.Fits.{fits_stores}
use Rattle.stores.specs.Stores.{StoreWritten}
use Rattle.objects.specs.Indexed.{word_of}
use Rattle.objects.proofs.Statuses.{index_chain}
use Rattle.objects.proofs.Effects.{bit_in_lem, word_written}

module _ (s : State) (m : Memory) (t p q : ℕ) where
  -- n is what check_index answers: where it refuses, the read is refused by it
  pub read_no_word : {n : ℕ} → n ≡ data_rest s m t p q 0 → n ≢ 0 → n ≡ read_rest s m t p q
  unfolding read_rest
  read_no_word e h = e ∙ sym ((index_chain Data s m t p q).stops (λ z. h (e ∙ z)) _)

  -- ---- the word, w, is found

  module _ (w : WordPlace) (e : w ≡ word_of Data s m p q) where
    bit_is : w.bit ≡ written_index s m p q
    unfolding word_of
    bit_is = ap (λ (x : WordPlace). x.bit) e

    -- "op 09 sets the word's bit"
    pub written_word : (v : ℕ) {p' s' x' : List ℕ} → StoreWritten p' s' m.permanent m.scratch w.area (set (store_of m w.area) w.at v)
        → x' ≡ with_bit m.written w.bit → memory_of p' s' m.map x' ≡ write_memory s m p q v
    unfolding write_memory
    written_word v {x' = x'} k x =
        ap (λ (n : Memory). with_written n x') (word_written Data s m p q w e v k)
        ∙ ap (with_written (store_after s m p (data_index s m p q) v)) (x ∙ ap (with_bit m.written) bit_is)

    module _ (z : data_rest s m t p q 0 ≡ 0) where
      -- its bit lies in the written map, which is as long as the start map
      pub written_in : Good s → fits s m ≡ true → w.bit / 64 < length m.written
      written_in g f =
          let l = supplied_lengths s m f in
          omega (arith, bit_in_lem Data s m p q w e g (fits_stores s m f) t z, l.map, l.written)

      -- "19 when op 0a meets a word whose bit there is 0"
      read_is : read_rest s m t p q ≡ refuse (eqb (bit_at m.written w.bit) 0) 19 0
      unfolding read_rest
      read_is = (index_chain Data s m t p q).passes z _ ∙ ap (λ (k : ℕ). refuse (eqb (bit_at m.written k) 0) 19 0) (sym bit_is)

      pub read_unwritten : bit_at m.written w.bit ≡ 0 → 19 ≡ read_rest s m t p q
      read_unwritten h = sym (read_is ∙ hit _ _ _ (eq-eqb (bit_at m.written w.bit) 0 h))

      pub read_written : bit_at m.written w.bit ≢ 0 → 0 ≡ read_rest s m t p q
      read_written h = sym (read_is ∙ skip _ _ _ (ne_eqb (bit_at m.written w.bit) 0 h))
