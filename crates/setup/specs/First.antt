-- The words and the bytes that set-up makes hold the first state; and one law for each way that its checks end.
-- Assumes nothing.
use Rattle.std.specs.Prelude.{◌≡◌, List, ℕ, ◌+◌, ◌/◌, ◌<◌, ◌≤◌, eqb, length, replicate}
use Rattle.std.proofs.Common.{ap, ◌∙◌, arith, eq-eqb, ne_eqb, lt-ltb, le-ltb}
use Rattle.std.proofs.Math.Path.{sym}
use Rattle.std.proofs.Math.Bool.{not}
use Rattle.layout.specs.Choice.{refuse, hit, skip, pick_true, pick_false}
use Rattle.rights.specs.Rights.{built_in}
use Rattle.rights.proofs.Loading.{built_in_loadable}
use Rattle.model.specs.declared.Lengths.{Lengths}
use Rattle.model.specs.State.{State, Memory, with_area, with_rights}
use Rattle.model.specs.SetUp.{lengths_of, set_up_status, begins, first_state, set_up_state, standing}
use Rattle.tables.specs.Decode.{word_count, byte_count, put_area, put_lengths, put_rights, Holds}
use Rattle.tables.proofs.Laws.{state_area, with_lengths, state_lengths, state_rights}
use Rattle.tables.specs.Contract.{Ready}
use Rattle.tables.proofs.Blank.{blank_holds}

-- heap and immortal are written, then the lengths
abbrev pub first_words : ℕ → ℕ → Lengths → List ℕ
first_words h i n = put_lengths (put_area (put_area (replicate word_count 0) 0 (standing 0 h)) 1 (standing h i)) n

-- the constant table of rights is written
abbrev pub first_bytes : List ℕ
first_bytes = put_rights (replicate byte_count 0) built_in

first_holds : (h i : ℕ) (n : Lengths) → Holds (first_words h i n) first_bytes (first_state h i n)
unfolding with_area with_rights first_state
first_holds h i n =
    let b : List ℕ = replicate byte_count 0 in
    let w0 : List ℕ = replicate word_count 0 in
    let w1 : List ℕ = put_area w0 0 (standing 0 h) in
    let w2 : List ℕ = put_area w1 1 (standing h i) in
    let h1 = state_area w0 b 0 (standing 0 h) (omega arith) blank_holds.sized in
    let h2 = state_area w1 b 1 (standing h i) (omega arith) h1.sized in
    let h3 = state_lengths w2 b n h2.sized in
    let h4 = state_rights (first_words h i n) b built_in built_in_loadable.size h3.sized in
    record {
      sized = h4.sized;
      state = h4.state ∙ ap (λ (s : State). with_rights s built_in) (h3.state ∙ ap (λ (s : State). with_lengths s n)
          (h2.state ∙ ap (λ (s : State). with_area s 1 (standing h i)) (h1.state ∙ ap (λ (s : State). with_area s 0 (standing 0 h)) blank_holds.state)));
    }

module _ (h i : ℕ) (n : Lengths) (k : ℕ) where
  pub not_whole : (h + i ≡ n.permanent → ⊥) → 1 ≡ set_up_status h i n k
  unfolding set_up_status
  not_whole e = sym (hit _ _ _ (ap not (ne_eqb (h + i) n.permanent e)))

  module _ (w : h + i ≡ n.permanent) where
    pub long_permanent : 16384 < n.permanent → 1 ≡ set_up_status h i n k
    unfolding set_up_status
    long_permanent a = sym (skip _ _ _ (ap not (eq-eqb (h + i) n.permanent w)) ∙ hit _ _ _ (lt-ltb 16384 n.permanent a))

    module _ (a : n.permanent ≤ 16384) where
      pub long_scratch : 16384 < n.scratch → 1 ≡ set_up_status h i n k
      unfolding set_up_status
      long_scratch b = sym (skip _ _ _ (ap not (eq-eqb (h + i) n.permanent w)) ∙ skip _ _ _ (le-ltb 16384 n.permanent a) ∙ hit _ _ _ (lt-ltb 16384 n.scratch b))

      module _ (b : n.scratch ≤ 16384) where
        -- only the maps are left
        past_stores : set_up_status h i n k ≡ refuse (not (eqb n.map ((n.permanent + n.scratch + 63) / 64))) 1 (refuse (not (eqb k n.map)) 1 0)
        unfolding set_up_status
        past_stores = skip _ _ _ (ap not (eq-eqb (h + i) n.permanent w)) ∙ skip _ _ _ (le-ltb 16384 n.permanent a) ∙ skip _ _ _ (le-ltb 16384 n.scratch b)

        pub other_map : (n.map ≡ (n.permanent + n.scratch + 63) / 64 → ⊥) → 1 ≡ set_up_status h i n k
        other_map e = sym (past_stores ∙ hit _ _ _ (ap not (ne_eqb n.map _ e)))

        module _ (e : n.map ≡ (n.permanent + n.scratch + 63) / 64) where
          pub other_written : (k ≡ n.map → ⊥) → 1 ≡ set_up_status h i n k
          other_written f = sym (past_stores ∙ skip _ _ _ (ap not (eq-eqb n.map _ e)) ∙ hit _ _ _ (ap not (ne_eqb k n.map f)))

          pub prepared : k ≡ n.map → 0 ≡ set_up_status h i n k
          prepared f = sym (past_stores ∙ skip _ _ _ (ap not (eq-eqb n.map _ e)) ∙ skip _ _ _ (ap not (eq-eqb k n.map f)))

  -- what set-up gives, by its status
  pub accepted_holds : set_up_status h i n k ≡ 0 → Holds (first_words h i n) first_bytes (set_up_state h i n k)
  unfolding set_up_state
  accepted_holds e =
      let z = first_holds h i n in
      record { sized = z.sized; state = z.state ∙ sym (pick_true (eqb (set_up_status h i n k) 0) _ _ (eq-eqb (set_up_status h i n k) 0 e)) }

  pub refused_holds : (set_up_status h i n k ≡ 0 → ⊥)
      → Holds (first_words 0 0 (record { permanent = 0; scratch = 0; map = 0 })) first_bytes (set_up_state h i n k)
  unfolding set_up_state
  refused_holds e =
      let z = first_holds 0 0 (record { permanent = 0; scratch = 0; map = 0 }) in
      record { sized = z.sized; state = z.state ∙ sym (pick_false (eqb (set_up_status h i n k) 0) _ _ (ne_eqb (set_up_status h i n k) 0 e)) }

-- what set-up answers where it is lent the buffers m, and the tables that it gives
pub record Begun (status : ℕ) (w b : List ℕ) (h i : ℕ) (m : Memory) : Type 0 where
  pub status_is : status ≡ begins h i m
  pub holds : Holds w b (set_up_state h i (lengths_of m) (length m.written))
  pub ready : Ready w b
