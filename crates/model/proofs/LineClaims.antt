-- What each line of a trace answers, by the lines before it.
-- Assumes nothing.
use Prim.Native.Nat.{ℕ, ◌<◌}
use mathlib.Core.Bool.{true, false≢true}
use mathlib.Core.List.{List, [], ◌∷◌}
use mathlib.Core.Path.{◌≡◌, sym, ap, ◌∙◌}
use mathlib.Core.Logic.{◌≢◌, ⊎_elim}
use native.Mathlib.Omega.{arith}
use Rattle.layout.specs.Handle.{area_of}
use Rattle.layout.specs.Header.{data_of}
use Rattle.rights.specs.declared.Right.TheVariants.{Use}
use Rattle.model.specs.State.{State, Memory}
use Rattle.model.specs.Checks.{has_right, header_at, live}
use Rattle.model.specs.Calls.{Call, enter, exit, start_helper, remove, load, read, load_rights, is_supplied, call_status, call_value}
use Rattle.model.specs.Run.{Line}
use Rattle.model.specs.History.{Object, history_of}
use Rattle.model.specs.Values.{read_status, read_value, entry_generation, entries_left, load_answer, may_in, helper_answer, remove_answer}
use Rattle.model.specs.Claims.{In, Follows, newest, older}
use Rattle.model.proofs.Sound.{Sound}
use Rattle.model.proofs.MemoryClaims.{no_15}
use Rattle.model.proofs.Outcomes.{Accepts, Transition, accepts}
use Rattle.model.proofs.Openings.{Opened, entry_value, exit_value_lem}
use Rattle.model.proofs.Sizes.{Sized, remove_told}
use Rattle.model.proofs.Stored.{Recorded, load_value}
use Rattle.model.proofs.Readings.{read_status_lem, read_value_lem, read_none, object_live, words_are, right_is}
use Rattle.model.proofs.Configured.{InForce, load_told, helper_told}

-- the claims of one line
pub record LineClaims (l : Line) (before : List Line) : Type 0 where
  pub loads : (t p q : ℕ) → l.call ≡ load t p q → l.reply.status ≢ 15
  pub loaded : (t p q : ℕ) → l.call ≡ load t p q → l.reply.status ≡ 0 → l.reply.value ≡ (history_of before).stored p q
  pub reads : (t p q : ℕ) → l.call ≡ read t p q → l.reply.status ≢ 1 → l.reply.status ≢ 2
      → (a : ℕ) (o : Object) → In o ((history_of before).objects a) → o.handle ≡ p → q < o.data_words → may_in before t Use a ≡ true
      → (l.reply.status ≡ read_status ((history_of before).written p q)) × (l.reply.value ≡ read_value ((history_of before).written p q))
  pub entries : (t q : ℕ) → l.call ≡ enter t q → l.reply.status ≡ 0 → l.reply.value ≡ entry_generation q before
  pub exits : (t : ℕ) → l.call ≡ exit t → l.reply.status ≡ 0 → l.reply.value ≡ entries_left (history_of before) t
  pub reloads : (text : List ℕ) → l.call ≡ load_rights text → l.reply.status ≡ load_answer (history_of before) text
  pub helpers : (t p q : ℕ) → l.call ≡ start_helper t p q → l.reply.status ≢ 1 → l.reply.status ≡ helper_answer before t p q
  pub removes : (t q : ℕ) → l.call ≡ remove t q → l.reply.status ≢ 1 → l.reply.status ≡ remove_answer (history_of before) t q

module _ (s : State) (m : Memory) (ls : List Line) (o : Sound s m (history_of ls)) (w : Recorded s m (history_of ls)) (g : Opened s ls) (f : InForce s ls) (z : Sized s (history_of ls))
    {l : Line} {n : State} {k : Memory} (d : Transition s m l n k) where
  not_15 : (t p q : ℕ) → l.call ≡ load t p q → l.reply.status ≢ 15
  not_15 t p q e z = ⊎_elim
      (λ x. omega (arith, x.status))
      (λ x. ⊎_elim
      (λ y. no_15 s m (history_of ls) o t p q (sym (y ∙ ap (call_status s m) e) ∙ z))
      (λ y. omega (arith, y.0))
      x.number)
      d

  -- a line that is not refused by 1 has the status of its call
  status_of : (c : Call) → l.call ≡ c → l.reply.status ≢ 1 → l.reply.status ≡ call_status s m c
  status_of c e n = ⊎_elim
      (λ x. x.status ∙ sym x.passed ∙ ap (call_status s m) e)
      (λ x. ⊎_elim (λ y. y ∙ ap (call_status s m) e) (λ y. absurd (n y.0)) x.number)
      d

  -- a load is not refused by 1
  load_status : (text : List ℕ) → l.call ≡ load_rights text → l.reply.status ≡ call_status s m (load_rights text)
  load_status text e = ⊎_elim
      (λ x. x.status ∙ sym x.passed ∙ ap (call_status s m) e)
      (λ x. ⊎_elim (λ y. y ∙ ap (call_status s m) e) (λ y. absurd (false≢true (sym (ap is_supplied e) ∙ y.1))) x.number)
      d

  -- an accepted line has the value of its call
  value_is : (c : Call) → l.call ≡ c → l.reply.status ≡ 0 → (call_status s m c ≡ 0) × (l.reply.value ≡ call_value s m c)
  value_is c e z =
      let x : Accepts s m l n k = accepts d z in
      rw (← e) (x.passed, x.value)

  read_answer : (t p q : ℕ) → l.call ≡ read t p q → l.reply.status ≢ 1 → l.reply.status ≢ 2
      → (a : ℕ) (x : Object) → In x ((history_of ls).objects a) → x.handle ≡ p → q < x.data_words → may_in ls t Use a ≡ true
      → (l.reply.status ≡ read_status ((history_of ls).written p q)) × (l.reply.value ≡ read_value ((history_of ls).written p q))
  read_answer t p q e n k a x i h u r = (
    is ∙ read_status_lem s m (history_of ls) o t p q lv may low w not_2,
    ⊎_elim
        (λ y. y.value ∙ ap (call_value s m) e ∙ read_value_lem s m (history_of ls) o t p q lv may low w not_2 (sym is ∙ y.status))
        (λ y. y.value ∙ read_none s m (history_of ls) o t p q lv may low w not_2 (λ z. y.status (is ∙ z)))
        d,
  )
    where
      is : l.reply.status ≡ call_status s m (read t p q)
      is = status_of (read t p q) e n

      not_2 : call_status s m (read t p q) ≢ 2
      not_2 z = k (is ∙ z)

      lv : live s m p ≡ true
      lv = object_live s m ls o f p a x i h

      may : has_right s t Use (area_of p) ≡ true
      may = right_is s m ls o f p a x i h t r

      low : q < data_of (header_at s m p)
      low = omega (arith, words_are s m ls o f p a x i h)

  pub line_answers : LineClaims l ls
  line_answers = record {
    loads = not_15;
    loaded = λ t p q e z. let x = value_is (load t p q) e z in x.1 ∙ load_value s m (history_of ls) o w t p q x.0;
    reads = read_answer;
    entries = λ t q e z. let x = value_is (enter t q) e z in x.1 ∙ entry_value s m ls o g t q x.0;
    exits = λ t e z. let x = value_is (exit t) e z in x.1 ∙ exit_value_lem s m (history_of ls) o t x.0;
    reloads = λ text e. load_status text e ∙ load_told s m (history_of ls) o text;
    helpers = λ t p q e n. status_of (start_helper t p q) e n ∙ helper_told s m ls o f t p q;
    removes = λ t q e n. status_of (remove t q) e n ∙ remove_told s m (history_of ls) o z t q;
  }

-- ---- every line

-- each line of a trace answers by the lines before it
abbrev pub AllAnswer : List Line → Type 0
AllAnswer [] = Unit {0}
AllAnswer (l ∷ ls) = LineClaims l ls × AllAnswer ls

pub each_answers : {l : Line} {before ls : List Line} → Follows l before ls → AllAnswer ls → LineClaims l before
each_answers newest k = k.0
each_answers (older i) k = each_answers i k.1
