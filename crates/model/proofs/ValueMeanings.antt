-- What the words of specs/History.antt and specs/Values.antt say: each line of a trace follows the lines before it, a store is what is last stored, a
-- write what is last written, an opening is the last opening, a helper has its starter's row, and what is refused changes nothing.
-- Assumes nothing.
use Prim.Native.Nat.{ℕ, suc, ◌+◌, ◌≤◌, ◌<◌}
use mathlib.Core.List.{List, [], ◌∷◌, ◌++◌}
use mathlib.Core.Path.{◌≡◌, refl, ap, ◌∙◌}
use mathlib.Core.Logic.{◌≢◌}
use lib.Dec.{eqb, leb}
use lib.ListN.{length, length-set}
use lib.Seq.{get_or-set_same, get_or-set_other}
use native.Mathlib.Omega.{arith}
use borrow.Author.Tests.{eqb-true, eqb-false, eq-eqb, ne_eqb, le-leb, leb-false}
use Rattle.layout.specs.Choice.{cases, peel}
use Rattle.layout.specs.Handle.{null}
use Rattle.model.specs.Calls.{Call, start, end, make, enter, exit, start_helper, remove, allocate, store, write, asks, configure}
use Rattle.model.specs.Run.{Line}
use Rattle.model.specs.History.{History, blank, thread_row, occurrences, total, history_thread, history_size, history_enter, history_exit, history_allocate, history_words, history_step, history_line, history_from, history_of}
use Rattle.model.specs.Values.{opening_step, opening_line, last_opening, helper_answer}
use Rattle.model.specs.Claims.{Open, Follows, newest, older}
use Rattle.model.proofs.Lists.{total_set, occ_nil}
use Rattle.model.proofs.Memory.{put_same, put_word_own, put_word_other}

pub follows_all : (ks ls : List Line) (l : Line) → Follows l ls (ks ++ (l ∷ ls))
follows_all [] ls l = newest
follows_all (k ∷ ks) ls l = older (follows_all ks ls l)

-- ---- the rows of the history are those of 16 threads

rows_step : (b : History) (c : Call) (v : ℕ) → length (history_step b c v).rows ≡ length b.rows
unfolding history_thread history_size history_enter history_exit history_allocate history_words
rows_step b (start t p) v = length-set b.rows t _
rows_step b (end t) v = length-set b.rows t _
rows_step b (make t q r) v = refl
rows_step b (enter t q) v = length-set b.rows t _
rows_step b (exit t) v = length-set b.rows t _
rows_step b (start_helper t p q) v = length-set b.rows q _
rows_step b (remove t q) v = refl
rows_step b (allocate t q r) v = refl
rows_step b (store t p q r) v = refl
rows_step b (write t p q r) v = refl
rows_step b (asks x) v = refl
rows_step b (configure x) v = refl

pub row_count_lem : (ls : List Line) → length (history_of ls).rows ≡ 16
unfolding history_from history_line blank
row_count_lem [] = refl
row_count_lem (l ∷ ls) = cases (eqb l.reply.status 0) (λ e. rw e (rows_step (history_of ls) l.call l.reply.value ∙ row_count_lem ls)) (λ e. rw e (row_count_lem ls))

-- a helper that the lines let start has a number below 16
pub helper_number : (ls : List Line) (t p q : ℕ) → helper_answer ls t p q ≡ 0 → q < 16
unfolding helper_answer
helper_number ls t p q e =
    let a = peel _ _ _ e in
    let b = peel _ _ _ a.1 in
    let c = peel (leb 16 q) _ _ b.1 in
    leb-false 16 q c.0

module _ (l : Line) (ls : List Line) where
  -- ---- stored and written words

  -- an accepted line is a step of the history, a refused one is none
  pub history_accepted : l.reply.status ≡ 0 → (c : Call) → l.call ≡ c → history_of (l ∷ ls) ≡ history_step (history_of ls) c l.reply.value
  unfolding history_from history_line
  history_accepted z c e = rw (eq-eqb l.reply.status 0 z) (ap (λ (d : Call). history_step (history_of ls) d l.reply.value) e)

  pub history_refused : l.reply.status ≢ 0 → history_of (l ∷ ls) ≡ history_of ls
  unfolding history_from history_line
  history_refused z = rw (ne_eqb l.reply.status 0 z)

  -- right after an accepted store of r in slot q of p, and an accepted write of r as data word q
  pub stored_now : (t p q r : ℕ) → l.call ≡ store t p q r → l.reply.status ≡ 0 → (history_of (l ∷ ls)).stored p q ≡ r
  unfolding history_words
  stored_now t p q r e z = rw (history_accepted z (store t p q r) e) (put_word_own (history_of ls).stored p q r p q refl refl)

  pub written_now : (t p q r : ℕ) → l.call ≡ write t p q r → l.reply.status ≡ 0 → (history_of (l ∷ ls)).written p q ≡ suc r
  unfolding history_words
  written_now t p q r e z = rw (history_accepted z (write t p q r) e) (put_word_own (history_of ls).written p q (suc r) p q refl refl)

  -- a write of another word, or of another object, leaves it
  pub written_stays : (t p q r h i : ℕ) → l.call ≡ write t p q r → (h ≡ p → i ≡ q → ⊥) → (history_of (l ∷ ls)).written h i ≡ (history_of ls).written h i
  unfolding history_words
  written_stays t p q r h i e n = cases (eqb l.reply.status 0)
      (λ z. rw (history_accepted (eqb-true l.reply.status 0 z) (write t p q r) e) (put_word_other (history_of ls).written p q (suc r) h i n))
      (λ z. rw (history_refused (eqb-false l.reply.status 0 z)))

  -- right after an accepted allocation that gave x
  pub stored_none : (t q r x : ℕ) → l.call ≡ allocate t q r → l.reply.status ≡ 0 → l.reply.value ≡ x → (i : ℕ) → (history_of (l ∷ ls)).stored x i ≡ null
  unfolding history_allocate
  stored_none t q r x e z v i = rw (history_accepted z (allocate t q r) e, v, put_same (history_of ls).stored x (λ (j : ℕ). null))

  pub written_none : (t q r x : ℕ) → l.call ≡ allocate t q r → l.reply.status ≡ 0 → l.reply.value ≡ x → (i : ℕ) → (history_of (l ∷ ls)).written x i ≡ 0
  unfolding history_allocate
  written_none t q r x e z v i = rw (history_accepted z (allocate t q r) e, v, put_same (history_of ls).written x (λ (j : ℕ). 0))

  -- ---- openings

  pub opening_accepted : l.reply.status ≡ 0 → (a : ℕ) (c : Call) → l.call ≡ c → last_opening a (l ∷ ls) ≡ opening_step (history_of ls) a (last_opening a ls) c l.reply.value
  unfolding last_opening opening_line
  opening_accepted z a c e = rw (eq-eqb l.reply.status 0 z) (ap (λ (d : Call). opening_step (history_of ls) a (last_opening a ls) d l.reply.value) e)

  pub opening_refused : l.reply.status ≢ 0 → (a : ℕ) → last_opening a (l ∷ ls) ≡ last_opening a ls
  unfolding last_opening opening_line
  opening_refused z a = rw (ne_eqb l.reply.status 0 z)

  -- right after an accepted entry of a scope on no row
  pub opening_now : (t q : ℕ) → l.call ≡ enter t q → l.reply.status ≡ 0 → 2 ≤ q → total q (history_of ls).rows ≡ 0 → last_opening q (l ∷ ls) ≡ l.reply.value
  opening_now t q e z h n = rw (opening_accepted z q (enter t q) e, le-leb 2 q h, eq-eqb (total q (history_of ls).rows) 0 n, eq-eqb q q refl)

  -- an entry of a scope that stands on a row is no opening
  pub opening_stays : (t q : ℕ) → l.call ≡ enter t q → Open (history_of ls) q → (a : ℕ) → last_opening a (l ∷ ls) ≡ last_opening a ls
  opening_stays t q e h a = cases (eqb l.reply.status 0)
      (λ z. rw (opening_accepted (eqb-true l.reply.status 0 z) a (enter t q) e, le-leb 2 q h.0, ne_eqb (total q (history_of ls).rows) 0 (λ n. omega (arith, h.1))))
      (λ z. opening_refused (eqb-false l.reply.status 0 z) a)

  -- ---- helpers

  -- right after an accepted start of a helper, thread q
  module _ (t p q : ℕ) (e : l.call ≡ start_helper t p q) (z : l.reply.status ≡ 0) where
    -- it has its starter's row, and every other thread the row that it had
    pub row_received : q < 16 → thread_row (history_of (l ∷ ls)) q ≡ thread_row (history_of ls) t
    unfolding history_thread
    row_received h = rw (history_accepted z (start_helper t p q) e) (get_or-set_same (history_of ls).rows q (thread_row (history_of ls) t) [] (omega (arith, row_count_lem ls)))

    pub row_stays : (u : ℕ) → u ≢ q → thread_row (history_of (l ∷ ls)) u ≡ thread_row (history_of ls) u
    unfolding history_thread
    row_stays u n = rw (history_accepted z (start_helper t p q) e) (get_or-set_other (history_of ls).rows q u (thread_row (history_of ls) t) [] n)

    -- an area has as many entries more as it has on the starter's row
    pub entries_received : q < 16 → thread_row (history_of ls) q ≡ [] → (a : ℕ)
        → total a (history_of (l ∷ ls)).rows ≡ total a (history_of ls).rows + occurrences a (thread_row (history_of ls) t)
    unfolding history_thread
    entries_received h n a = rw (history_accepted z (start_helper t p q) e)
        (omega (arith, total_set a (history_of ls).rows q (thread_row (history_of ls) t) (omega (arith, row_count_lem ls)), ap (occurrences a) n, occ_nil a))

    -- and its kind is p
    pub kind_received : (history_of (l ∷ ls)).kinds q ≡ p
    unfolding history_thread
    kind_received = rw (history_accepted z (start_helper t p q) e) (put_same (history_of ls).kinds q p)
