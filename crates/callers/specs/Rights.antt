-- The rights of a kind and of a thread, as they are read from the tables.
-- Assumes nothing.
use Rattle.std.specs.Prelude.{ℕ, ◌≤◌, ◌<◌, Bool, List, ◌≡◌, eqb, get_or}
use Rattle.std.proofs.Common.{arith, sym, ◌∙◌}
use Rattle.std.proofs.Math.Path.{ap}
use Rattle.rights.specs.Rights.{class_of, digit1, table_size, place_of, allows}
use Rattle.rights.proofs.Loading.{allows_at}
use Rattle.rights.specs.declared.Right.{Right}
use Rattle.model.specs.State.{thread_at}
use Rattle.model.specs.Checks.{has_right}
use Rattle.model.proofs.Accepted.{Called}
use Rattle.tables.specs.declared.ThreadWords.{ThreadWords}
use Rattle.tables.specs.Cut.{get_d_cut}
use Rattle.tables.specs.Decode.{rights_at, rights_of, state_of, thread_record, right_of}
use Rattle.tables.proofs.Laws.{kind_read}
use Rattle.tables.specs.Contract.{Ready}

-- d is the digit at the place i of a kind, the area's class and the right
pub by_digit : (b : List ℕ) (kind a : ℕ) (r : Right) → 0 < kind → kind ≤ 3 → {i d : ℕ} → i ≡ place_of kind (class_of a) r → i < table_size → d ≡ right_of b i
    → eqb d digit1 ≡ allows (rights_of b) kind (class_of a) r
unfolding rights_of
by_digit b kind a r some low {i} p k f = sym (
    allows_at (rights_of b) kind (class_of a) some low r
    ∙ ap (λ (j : ℕ). eqb (get_or (rights_of b) j 0) digit1) (sym p)
    ∙ ap (λ (c : ℕ). eqb c digit1) (get_d_cut b rights_at table_size i k ∙ sym f)
    )

-- x are the words of a started thread
module _ (w b : List ℕ) (y : Ready w b) (t : ℕ) (h : Called (state_of w b) t) {x : ThreadWords} (e : x ≡ thread_record w t) where
  kind_is : (thread_at (state_of w b) t).kind ≡ x.kind
  kind_is = kind_read w b t h.thread e

  -- it has one of the three kinds
  pub kind_within : (0 < x.kind) × (x.kind ≤ 3)
  kind_within = (omega (arith, kind_is, h.started), omega (arith, kind_is, (y.good.threads.each t h.thread).kind))

  -- and the rights of its kind
  pub by_kind : (a : ℕ) (r : Right) {may : Bool} → may ≡ allows (rights_of b) x.kind (class_of a) r → may ≡ has_right (state_of w b) t r a
  unfolding has_right state_of
  by_kind a r f = f ∙ ap (λ (n : ℕ). allows (rights_of b) n (class_of a) r) (sym kind_is)
