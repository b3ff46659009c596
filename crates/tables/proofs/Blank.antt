-- Tables of zeros hold a blank state.
-- Assumes nothing.
use Rattle.std.specs.Prelude.{◌≡◌, refl, ℕ, zero, suc, ◌+◌, ◌<◌, get_or, replicate}
use Rattle.std.proofs.Common.{sym, ◌∙◌, arith, ext_get_or}
use Rattle.std.proofs.lemmas.List.{length-replicate, get_or-replicate}
use Rattle.rights.specs.Rights.{table_size}
use Rattle.model.specs.State.{State, no_area}
use Rattle.model.specs.SetUp.{new_thread}
use Rattle.tables.specs.Cut.{cut, each, each_length, each_at}
use Rattle.tables.specs.Decode.{area_count, thread_count, area_index, thread_index, lengths_at, used_bits_at, used_bits_words, word_count, row_bytes, row_index, inner_rows, display_rows, rights_at, byte_count, area_record, byte_row, thread_of, display_row, used_bits_of, rights_of, state_of, Holds}

each_const : {A : Type 0} (f : ℕ → A) (n : ℕ) (x : A) → ((j : ℕ) → f j ≡ x) → each f n ≡ replicate n x
each_const f n x h =
    ext_get_or x (each f n) (replicate n x) (each_length f n ∙ sym (length-replicate n x))
    (λ j b. let l : j < n = omega (arith, each_length f n) in each_at f n j x l ∙ h j ∙ sym (get_or-replicate n j x x l))

zeros : (n i : ℕ) → ◌≡◌ {A = ℕ} (get_or (replicate n 0) i 0) 0
zeros zero i = refl
zeros (suc n) zero = refl
zeros (suc n) (suc i) = zeros n i

zero_row : (n : ℕ) → byte_row (replicate byte_count 0) n ≡ replicate row_bytes 0
unfolding byte_row cut
zero_row n = each_const (λ (j : ℕ). get_or (replicate byte_count 0) (row_index n + j) 0) row_bytes 0 (λ j. zeros byte_count (row_index n + j))

zero_rights : rights_of (replicate byte_count 0) ≡ replicate table_size 0
unfolding rights_of cut
zero_rights = each_const (λ (j : ℕ). get_or (replicate byte_count 0) (rights_at + j) 0) table_size 0 (λ j. zeros byte_count (rights_at + j))

zero_bits : used_bits_of (replicate word_count 0) ≡ replicate used_bits_words 0
unfolding used_bits_of cut
zero_bits = each_const (λ (j : ℕ). get_or (replicate word_count 0) (used_bits_at + j) 0) used_bits_words 0 (λ j. zeros word_count (used_bits_at + j))

-- no area has words, no thread is started, every length is 0, no block is used, and no table of rights is there
abbrev pub blank_state : State
blank_state = record {
  areas = replicate area_count no_area;
  rows = replicate area_count (replicate row_bytes 0);
  threads = replicate thread_count new_thread;
  lengths = record { permanent = 0; scratch = 0; map = 0 };
  used_bits = replicate used_bits_words 0;
  rights = replicate table_size 0;
}

pub blank_holds : Holds (replicate word_count 0) (replicate byte_count 0) blank_state
unfolding state_of display_row thread_of
blank_holds =
    let areas : each (area_record (replicate word_count 0)) area_count ≡ replicate area_count no_area
    = each_const (area_record (replicate word_count 0)) area_count no_area
    (λ j. rw (zeros word_count (area_index j), zeros word_count (area_index j + 1), zeros word_count (area_index j + 2), zeros word_count (area_index j + 3), zeros word_count (area_index j + 4), zeros word_count (area_index j + 5), zeros word_count (area_index j + 6)) refl) in
    let rows : each (display_row (replicate byte_count 0)) area_count ≡ replicate area_count (replicate row_bytes 0)
    = each_const (display_row (replicate byte_count 0)) area_count (replicate row_bytes 0) (λ j. zero_row (display_rows + j)) in
    let threads : each (thread_of (replicate word_count 0) (replicate byte_count 0)) thread_count ≡ replicate thread_count new_thread
    = each_const (thread_of (replicate word_count 0) (replicate byte_count 0)) thread_count new_thread
    (λ j. rw (zeros word_count (thread_index j), zeros word_count (thread_index j + 1), zero_row j, zero_row (inner_rows + j)) refl) in
    record {
      sized = record { words = length-replicate {A = ℕ} word_count 0; bytes = length-replicate {A = ℕ} byte_count 0; spare = λ a h. zeros word_count (area_index a + 7) };
      state = λ i. record {
        areas = areas i;
        rows = rows i;
        threads = threads i;
        lengths = record { permanent = zeros word_count lengths_at i; scratch = zeros word_count (lengths_at + 1) i; map = zeros word_count (lengths_at + 2) i };
        used_bits = zero_bits i;
        rights = zero_rights i;
      };
    }
