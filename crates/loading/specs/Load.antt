-- The load of a rights table: its tests, one law for each way that its checks end, and what it leaves.
-- Assumes nothing.
use Rattle.std.specs.Prelude.{ℕ, zero, suc, ◌+◌, ◌*◌, ◌≤◌, ◌<◌, Bool, true, false, ◌&&◌, ◌||◌, List, ◌≢◌, ◌≡◌, eqb, ltb, length, take, get_or, fold, MatchBool}
use Rattle.std.proofs.Math.Bool.{not}
use Rattle.std.proofs.Math.Path.{refl, sym, ap, subst}
use Rattle.std.proofs.Common.{◌∙◌, add-one, arith, eq-eqb, ne_eqb, eqb-true, take_all, true≢false}
use Rattle.std.proofs.lemmas.List.Sums.{fold_more}
use Rattle.std.proofs.lemmas.Bool.{eqb-false}
use Rattle.std.proofs.lemmas.List.FromFn.{length-range_with_len, get_or-range_with_len}
use Rattle.std.specs.List.{AllWithin, HoldsAt, range_with_len}
use Rattle.layout.specs.Choice.{cases, hit, skip}
use Rattle.layout.specs.Below.{all_below, some_below, all_more, some_more, all_each, each_all}
use Rattle.rights.specs.Rights.{digit0, digit1, table_size, is_binary, only_binary, allocator_uses, allocators_use, is_table, Loadable}
use Rattle.model.specs.State.{State, Memory}
use Rattle.model.specs.Checks.{is_started}
use Rattle.model.specs.Configuration.{any_started, load_rights_status, load_rights_state, load_rights_change}
use Rattle.model.specs.Calls.{rights_table, load_rights}
use Rattle.model.proofs.Accepted.{load_rights_ok}
use Rattle.model.proofs.KeepsConfiguration.{good_load}
use Rattle.tables.specs.declared.ThreadWords.{ThreadWords}
use Rattle.tables.specs.Decode.{state_of, thread_record, put_rights}
use Rattle.tables.proofs.Laws.{kind_read, state_rights}
use Rattle.tables.specs.Contract.{Ready, plain, Answered}
use Rattle.tables.proofs.AnsweredLaws.{changed_refused, changed_accepted, unsupplied_answered}

some_here : (f : ℕ → Bool) (n k : ℕ) → k < n → f k ≡ true → some_below f n ≡ true
unfolding some_below
some_here f zero k l e = absurd (omega arith)
some_here f (suc n) k l e = cases (eqb k n)
    (λ q. rw (← eqb-true k n q, e) (or_yes (some_below f k)))
    (λ q. let ne : k ≡ n → ⊥ = eqb-false k n q in rw (some_here f n k (omega arith) e) refl)
  where
    or_yes : (b : Bool) → b || true ≡ true
    or_yes true = refl
    or_yes false = refl

none_here : (f : ℕ → Bool) (n : ℕ) → ((k : ℕ) → k < n → f k ≡ false) → some_below f n ≡ false
unfolding some_below
none_here f zero h = refl
none_here f (suc n) h = rw (none_here f n (λ k l. h k (omega arith)), h n (omega arith)) refl

-- tests that agree
some_same : (f g : ℕ → Bool) (n : ℕ) → ((k : ℕ) → k < n → f k ≡ g k) → some_below f n ≡ some_below g n
unfolding some_below
some_same f g zero h = refl
some_same f g (suc n) h = rw (some_same f g n (λ k l. h k (omega arith)), h n (omega arith)) refl

-- ---- a walk over numbers that ends at the first that decides

module _ (f : ℕ → Bool) (n : ℕ) where
  -- whether f holds of all
  pub all_told : (r : Bool) → MatchBool r ((k : ℕ) → k < n → f k ≡ true) ((k : ℕ) × (k < n) × (f k ≡ false)) → r ≡ all_below f n
  all_told true h = sym (each_all f n h)
  all_told false (k, l, e) = cases (all_below f n) (λ a. absurd (true≢false (sym (all_each f n a k l) ∙ e))) sym

  -- or of some
  pub any_told : (r : Bool) → MatchBool r ((k : ℕ) × (k < n) × (f k ≡ true)) ((k : ℕ) → k < n → f k ≡ false) → r ≡ some_below f n
  any_told true (k, l, e) = sym (some_here f n k l e)
  any_told false h = sym (none_here f n h)

  -- the same of a walk over a range
  at : (k : ℕ) → k < n → get_or (range_with_len 0 n) k 0 ≡ k
  at k l = omega (arith, get_or-range_with_len 0 n k 0 l)

  pub all_in_range : (r : Bool)
      → MatchBool r (AllWithin (λ (k : ℕ). f k ≡ true) (range_with_len 0 n) 0 (length (range_with_len 0 n)))
      ((k : ℕ) × (k < length (range_with_len 0 n)) × HoldsAt (λ (j : ℕ). f j ≡ false) (range_with_len 0 n) k)
      → r ≡ all_below f n
  all_in_range true h = all_told true (λ k l. subst (λ (j : ℕ). f j ≡ true) (at k l) (h k 0 (omega arith) (omega (arith, length-range_with_len 0 n, l))))
  all_in_range false (k, l, e) =
      let m : k < n = omega (arith, length-range_with_len 0 n, l) in
      all_told false (k, m, subst (λ (j : ℕ). f j ≡ false) (at k m) (e 0))

  pub any_in_range : (r : Bool)
      → MatchBool r ((k : ℕ) × (k < length (range_with_len 0 n)) × HoldsAt (λ (j : ℕ). f j ≡ true) (range_with_len 0 n) k)
      (AllWithin (λ (k : ℕ). f k ≡ false) (range_with_len 0 n) 0 (length (range_with_len 0 n)))
      → r ≡ some_below f n
  any_in_range true (k, l, e) =
      let m : k < n = omega (arith, length-range_with_len 0 n, l) in
      any_told true (k, m, subst (λ (j : ℕ). f j ≡ true) (at k m) (e 0))
  any_in_range false h = any_told false (λ k l. subst (λ (j : ℕ). f j ≡ false) (at k l) (h k 0 (omega arith) (omega (arith, length-range_with_len 0 n, l))))

-- ---- the tests, one number further

module _ (text : List ℕ) where
  -- the digits so far are 0 or 1
  abbrev pub binary_below : ℕ → Bool
  binary_below n = all_below (λ (i : ℕ). is_binary (get_or text i 0)) n

  pub binary_none : true ≡ binary_below 0
  unfolding all_below
  binary_none = refl

  pub binary_more : (i : ℕ) {all : Bool} → all ≡ binary_below i
      → all && (eqb (get_or text i 0) digit0 || eqb (get_or text i 0) digit1) ≡ binary_below (i + 1)
  unfolding is_binary
  binary_more i e = rw e (sym (all_more (λ (j : ℕ). is_binary (get_or text j 0)) i))

  pub binary_all : {all : Bool} (i : ℕ) → i ≡ table_size → all ≡ binary_below i → all ≡ only_binary text
  unfolding only_binary
  binary_all i z e = e ∙ ap binary_below z

  -- what the walk over the digits tells
  pub binary_told : length text ≡ table_size → (r : Bool)
      → MatchBool r (AllWithin (λ (c : ℕ). is_binary c ≡ true) text 0 (length text))
      ((k : ℕ) × (k < length text) × HoldsAt (λ (c : ℕ). is_binary c ≡ false) text k)
      → r ≡ only_binary text
  binary_told e true h = binary_all table_size refl (all_told (λ (i : ℕ). is_binary (get_or text i 0)) table_size true (λ k l. h k 0 (omega arith) (omega (arith, e, l))))
  binary_told e false (k, l, d) = binary_all table_size refl (all_told (λ (i : ℕ). is_binary (get_or text i 0)) table_size false (k, omega (arith, e, l), d 0))

  -- what the fold over the digits yields
  folded : (n : ℕ) → n ≤ length text → fold (λ (all : Bool) (c : ℕ). all && is_binary c) true (take n text) ≡ binary_below n
  unfolding all_below
  folded zero h = refl
  folded (suc n) h =
      (rw add-one at (fold_more (λ (all : Bool) (c : ℕ). all && is_binary c) true text n 0 h))
      ∙ ap (λ (all : Bool). all && is_binary (get_or text n 0)) (folded n (omega arith))

  pub binary_folded : length text ≡ table_size → fold (λ (all : Bool) (c : ℕ). all && is_binary c) true text ≡ only_binary text
  binary_folded e =
      sym (ap (fold (λ (all : Bool) (c : ℕ). all && is_binary c) true) (take_all table_size text (omega (arith, e))))
      ∙ binary_all table_size refl (folded table_size (omega (arith, e)))

  -- in the classes so far A stands only with U
  pub uses_none : true ≡ all_below (allocator_uses text) 0
  unfolding all_below
  uses_none = refl

  pub uses_more : (g : ℕ) {all : Bool} → all ≡ all_below (allocator_uses text) g
      → all && (eqb (get_or text (g * 4 + 1) 0) digit0 || eqb (get_or text (g * 4 + 2) 0) digit1) ≡ all_below (allocator_uses text) (g + 1)
  unfolding allocator_uses
  uses_more g e = rw e (sym (all_more (allocator_uses text) g))

  pub uses_all : {all : Bool} (g : ℕ) → g ≡ 9 → all ≡ all_below (allocator_uses text) g → all ≡ allocators_use text
  unfolding allocators_use
  uses_all g z e = e ∙ ap (all_below (allocator_uses text)) z

-- some thread so far is started, where x are the words of the next one
module _ (w b : List ℕ) where
  pub started_none : false ≡ some_below (is_started (state_of w b)) 0
  unfolding some_below
  started_none = refl

  pub started_more : (t : ℕ) {some : Bool} {x : ThreadWords} → t < 16 → x ≡ thread_record w t → some ≡ some_below (is_started (state_of w b)) t
      → some || ltb 0 x.kind ≡ some_below (is_started (state_of w b)) (t + 1)
  started_more t h k e = rw (e, ← kind_read w b t h k) (sym (some_more (is_started (state_of w b)) t))

  pub started_all : (t : ℕ) {some : Bool} → t ≡ 16 → some ≡ some_below (is_started (state_of w b)) t → some ≡ any_started (state_of w b)
  unfolding any_started
  started_all t z e = e ∙ ap (some_below (is_started (state_of w b))) z

  -- what the walk over the threads tells
  pub started_told : (r : Bool) → r ≡ some_below (λ (t : ℕ). ltb 0 (thread_record w t).kind) 16 → r ≡ any_started (state_of w b)
  started_told r e = started_all 16 refl (e ∙ some_same _ _ 16 (λ t l. ap (ltb 0) (sym (kind_read w b t l refl))))

-- ---- the checks

module _ (text : List ℕ) where
  pub other_length : length text ≢ table_size → false ≡ is_table text
  unfolding is_table
  other_length n = rw (ne_eqb (length text) table_size n) refl

  module _ (l : length text ≡ table_size) where
    pub other_digit : {z : Bool} → z ≡ only_binary text → z ≡ false → false ≡ is_table text
    unfolding is_table
    other_digit e f = rw (eq-eqb (length text) table_size l, sym e ∙ f) refl

    pub by_allocators : {z y : Bool} → z ≡ only_binary text → z ≡ true → y ≡ allocators_use text → y ≡ is_table text
    unfolding is_table
    by_allocators e f u = rw (eq-eqb (length text) table_size l, sym e ∙ f, u) refl

module _ (s : State) (text : List ℕ) {z : Bool} (e : z ≡ is_table text) where
  pub no_table : z ≡ false → 23 ≡ load_rights_status s text
  unfolding load_rights_status
  no_table f = sym (hit (not (is_table text)) 23 _ (ap not (sym e ∙ f)))

  module _ (f : z ≡ true) {y : Bool} (u : y ≡ any_started s) where
    pub still_running : y ≡ true → 24 ≡ load_rights_status s text
    unfolding load_rights_status
    still_running g = sym (skip (not (is_table text)) 23 _ (ap not (sym e ∙ f)) ∙ hit (any_started s) 24 0 (sym u ∙ g))

    pub may_load : y ≡ false → 0 ≡ load_rights_status s text
    unfolding load_rights_status
    may_load g = sym (skip (not (is_table text)) 23 _ (ap not (sym e ∙ f)) ∙ skip (any_started s) 24 0 (sym u ∙ g))

-- ---- what is left

-- n is what the check answers
module _ (w b : List ℕ) (y : Ready w b) (text : List ℕ) {n : ℕ} (e : n ≡ load_rights_status (state_of w b) text) where
  pub not_loaded : n ≢ 0 → (m : Memory) → Answered w b m (load_rights text) (plain n 0) w b m
  not_loaded h m = unsupplied_answered w b (rights_table text) (changed_refused w b (load_rights_change (state_of w b) text) y e h) m

  module _ (z : n ≡ 0) where
    load_ok : Loadable text
    load_ok = load_rights_ok (state_of w b) text (sym e ∙ z)

    -- the text is as long as a table
    pub load_size : length text ≡ table_size
    load_size = load_ok.size

    pub loaded : {b' : List ℕ} → b' ≡ put_rights b text → (m : Memory) → Answered w b m (load_rights text) (plain n 0) w b' m
    unfolding load_rights_state
    loaded f m =
        let k = state_rights w b text load_size y.sized in
        rw (z, f) (unsupplied_answered w b (rights_table text)
        (changed_accepted w b (load_rights_change (state_of w b) text) y e z refl k (good_load (state_of w b) text y.good load_ok)) m)
