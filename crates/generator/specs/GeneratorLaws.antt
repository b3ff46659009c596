-- How many digits are printed.
-- Assumes nothing.
use Rattle.std.specs.Prelude.{List, ◌≡◌, ℕ, length}
use Rattle.std.proofs.Math.Path.{refl}
use Rattle.layout.specs.Choice.{pick, cases}
use Rattle.rights.specs.Rights.{table_size, text_of}
use Rattle.generator.specs.Generator.{places, is_source, values_of, generated}

module _ (input : List ℕ) where
  -- a source gives a whole table
  pub table_length : length (text_of (values_of input)) ≡ table_size
  unfolding text_of values_of places
  table_length = refl

  -- 36, or none for other input
  pub printed_length : length (generated input) ≡ pick (is_source input) table_size 0
  unfolding generated
  printed_length = cases (is_source input) (λ e. rw e table_length) (λ e. rw e refl)
