-- Laws of what is held: a byte fed in each case, and the end of input.
-- Assumes nothing.
use Rattle.std.specs.Prelude.{Bool, ltb, Some, None, drop, ◌≡◌, refl, List, [], ◌∷◌, ◌++◌, ℕ, ◌+◌, ◌*◌, ◌≤◌, ◌<◌, eqb, length, take, get_or, replicate}
use Rattle.std.proofs.Common.{sym, ap, ◌∙◌, subst, append-nil, arith, eq-eqb, add-one, append_assoc, length-append, length-take, take-suc}
use Rattle.std.specs.List.{position, position_or_len}
use Rattle.std.proofs.lemmas.List.Quantifiers.{position-Some}
use Rattle.std.proofs.lemmas.List.{get_or-take, take-append-drop}
use borrow.Author.Tests.{eqb-true, ltb-false}
use Rattle.std.proofs.lemmas.List.Sums.{fails_before_first}
use Rattle.std.proofs.Math.Seq.{drop-cons}
use Rattle.std.proofs.lemmas.List.{length-replicate}
use Rattle.layout.specs.Choice.{cases, pick_true}
use Rattle.model.specs.declared.Lengths.{Lengths}
use Rattle.model.specs.SetUp.{lengths_of, set_up_status, set_up_state, first_state}
use Rattle.model.specs.Run.{World, begin}
use Rattle.setup.specs.First.{Begun, prepared}
use Rattle.tables.specs.Contract.{memory_of, Ready}
use Rattle.line_answers.specs.Output.{line_answer, after_line, first_world}
use Rattle.line_answers.specs.Answered.{Core, core, Represents, Ended, length_line}
use Rattle.lines.specs.declared.line.Line.{Line}
use Rattle.lines.specs.Lines.{Buffered, emptied}
use Rattle.lines.specs.LineLaws.{buffered_none}
use Rattle.reader.specs.Feeding.{finished_none, finished_rest, NoFeed, fed_none, fed_end, fed_run}
use Rattle.reader.specs.Held.{Held, held, LeavesFed, Feeds, Finishes, feeds_none, feeds_append}

-- ---- a line feed, and other bytes

abbrev pub is_feed : ℕ → Bool
is_feed b = eqb b 10

module _ (k n : Core) (line : Line) (out : List ℕ) (at : ℕ) (written : List ℕ) (d : Ended k n line out at written) where
  leaves_ended : {next : Line} → Buffered next [] → (w : World) (l : List ℕ) → Represents k w → Buffered line l
      → LeavesFed (held k line out at) (held n next written (at + 19)) (record { output = line_answer w l; world = after_line w l; line = [] })
  leaves_ended z w l s h = record {
    represents = d.steps w l s h;
    buffered = z;
    at_is = ap (λ (j : ℕ). at + j) (sym (length_line w l));
    output_is = d.output_is w l s h;
  }

  -- a line feed, after which the next line begins
  pub feeds_end : {next : Line} → Buffered next [] → (b : ℕ) → b ≡ 10 → length written ≡ length out
      → Feeds (held k line out at) (held n next written (at + 19)) (b ∷ [])
  feeds_end z b e q = record {
    ready = d.ready;
    long = q;
    room = omega arith;
    leaves = λ w l s h.
        rw (fed_end w l b [] (eq-eqb b 10 e), fed_none (after_line w l) [], append-nil (line_answer w l)) (leaves_ended z w l s h);
  }

-- bytes that are no line feed
pub feeds_other : (k : Core) (line : Line) (out : List ℕ) (at : ℕ) (bs : List ℕ) (line₁ : Line) → NoFeed bs
    → Ready k.words k.bytes → ((l : List ℕ) → Buffered line l → Buffered line₁ (l ++ bs))
    → Feeds (held k line out at) (held k line₁ out at) bs
feeds_other k line out at bs line₁ n y g = record {
  ready = y;
  long = refl;
  room = omega arith;
  leaves = λ w l s h.
      rw (fed_run bs w l n) (record { represents = s; buffered = g l h; at_is = omega arith; output_is = refl });
}

-- ---- an input, as far as it is fed

-- feeding the input up to the rest leads from e to x
pub record FedTo (e x : Held) (rest input : List ℕ) : Type 0 where
  pub before : List ℕ
  pub split : before ++ rest ≡ input
  pub fed : Feeds e x before

pub fed_to_start : (e : Held) (input : List ℕ) → Ready e.core.words e.core.bytes → FedTo e e input input
fed_to_start e input y = record { before = []; split = refl; fed = feeds_none e y }

-- an answer for each byte so far, and one more
pub fed_to_room : {e x : Held} {rest input : List ℕ} → FedTo e x rest input → 0 < length rest → x.at + 19 ≤ e.at + 19 * length input
fed_to_room {rest = rest} t h = omega (arith, t.fed.room, ap length t.split, length-append t.before rest)

-- the first line feed of the rest, and the bytes before it
module _ (rest : List ℕ) (n : ℕ) (p : position is_feed rest ≡ Some n) where
  pub within_rest : n < length rest
  within_rest = (position-Some is_feed rest n 0 p).0

  pub no_feed_before : NoFeed (take n rest)
  no_feed_before k h =
      let m : k < n = omega (arith, length-take n rest) in
      rw (get_or-take n rest k 0 m) ((position-Some is_feed rest n 0 p).2 k m)

  -- the line that it ends
  pub fed_to_more : {e x y : Held} {input rest₁ : List ℕ} → FedTo e x rest input → Feeds x y (take n rest ++ (10 ∷ []))
      → rest₁ ≡ drop (n + 1) rest → FedTo e y rest₁ input
  fed_to_more {e} {x} {y} {input} t f r =
      let b : get_or rest n 0 ≡ 10 = eqb-true _ 10 (position-Some is_feed rest n 0 p).1 in
      let d : drop n rest ≡ 10 ∷ drop (n + 1) rest = drop-cons rest n 0 within_rest ∙ rw (b, add-one) refl in
      let s : (take n rest ++ (10 ∷ [])) ++ drop (n + 1) rest ≡ rest =
      append_assoc (take n rest) (10 ∷ []) (drop (n + 1) rest) ∙ ap (λ (z : List ℕ). take n rest ++ z) (sym d) ∙ take-append-drop n rest
      in
      subst (λ (z : List ℕ). FedTo e y z input) (sym r)
      (record {
        before = t.before ++ (take n rest ++ (10 ∷ []));
        split = append_assoc t.before (take n rest ++ (10 ∷ [])) (drop (n + 1) rest) ∙ ap (λ (z : List ℕ). t.before ++ z) s ∙ t.split;
        fed = feeds_append e x y t.before (take n rest ++ (10 ∷ [])) t.fed f;
      })

-- no line feed is left
pub no_feed_left : (rest : List ℕ) → position is_feed rest ≡ None → NoFeed rest
no_feed_left rest p k h =
    cases (ltb (position_or_len is_feed rest) (length rest))
    (λ e. let q : Some (position_or_len is_feed rest) ≡ None = rw e at p in absurd (cc))
    (λ e. fails_before_first is_feed rest k 0 (omega (arith, ltb-false _ _ e)))

pub fed_to_end : {e x y : Held} {rest input : List ℕ} → FedTo e x rest input → Feeds x y rest → Feeds e y input
fed_to_end {e} {x} {y} {rest} t f = subst (Feeds e y) t.split (feeds_append e x y t.before rest t.fed f)

-- one byte more of the input
pub feeds_more : (e x y : Held) (input : List ℕ) (i : ℕ) → i < length input → Feeds e x (take i input) → Feeds x y (get_or input i 0 ∷ [])
    → Feeds e y (take (i + 1) input)
feeds_more e x y input i h a b = rw (add-one, take-suc input i 0 h) (feeds_append e x y (take i input) (get_or input i 0 ∷ []) a b)

-- ---- the end of input

pub finishes_none : (k : Core) (line : Line) (out : List ℕ) → Ready k.words k.bytes → ((l : List ℕ) → Buffered line l → l ≡ [])
    → Finishes (held k line out 0) (held k (emptied line) out 0)
finishes_none k line out y n = record {
  ready = y;
  room = omega arith;
  leaves = λ w l s h.
      rw (n l h, finished_none w) (record { represents = s; buffered = buffered_none line h.sized; at_is = refl; output_is = refl });
}

empty_count : (line : Line) → Buffered line [] → line.len ≡ 0
empty_count line h = omega (arith, h.count)

pub finishes_rest : (k n : Core) (line : Line) (out written : List ℕ) → Ended k n line out 0 written → ((l : List ℕ) → Buffered line l → l ≡ [] → ⊥)
    → Finishes (held k line out 0) (held n (emptied line) written 19)
finishes_rest k n line out written d q = record {
  ready = d.ready;
  room = omega arith;
  leaves = λ w l s h. rw (finished_rest w l (q l h)) (leaves_ended k n line out 0 written d (buffered_none line h.sized) w l s h);
}

-- ---- the beginning

accepted : (n : Lengths) (k : ℕ) → n.permanent ≡ 2048 → n.scratch ≡ 4096 → n.map ≡ 96 → k ≡ 96 → set_up_state 1024 1024 n k ≡ first_state 1024 1024 n
unfolding set_up_state
accepted n k p s m x =
    pick_true (eqb (set_up_status 1024 1024 n k) 0) _ _
    (eq-eqb (set_up_status 1024 1024 n k) 0 (sym (prepared 1024 1024 n k (sym p) (omega arith) (omega arith) (rw (p, s, m) refl) (x ∙ sym m))))

begun_represents : (status : ℕ) (w b p s m x : List ℕ) → length p ≡ 2048 → length s ≡ 4096 → length m ≡ 96 → length x ≡ 96
    → Begun status w b 1024 1024 (memory_of p s m x) → Represents (core w b p s m x) (begin 1024 1024 (memory_of p s m x))
unfolding begin
begun_represents status w b p s m x hp hs hm hx g =
    record { state = g.holds.state ∙ accepted (lengths_of (memory_of p s m x)) (length x) hp hs hm hx; memory = refl }

first_is : (p s m x : List ℕ) → p ≡ replicate 2048 0 → s ≡ replicate 4096 0 → m ≡ replicate 96 0 → x ≡ replicate 96 0
    → begin 1024 1024 (memory_of p s m x) ≡ first_world
unfolding first_world
first_is p s m x e f g h =
    ap (λ (y : List ℕ). begin 1024 1024 (memory_of y s m x)) e
    ∙ ap (λ (y : List ℕ). begin 1024 1024 (memory_of (replicate 2048 0) y m x)) f
    ∙ ap (λ (y : List ℕ). begin 1024 1024 (memory_of (replicate 2048 0) (replicate 4096 0) y x)) g
    ∙ ap (λ (y : List ℕ). begin 1024 1024 (memory_of (replicate 2048 0) (replicate 4096 0) (replicate 96 0) y)) h

-- what set-up gives on buffers of zeros holds the first world
pub first_represents : (status : ℕ) (w b p s m x : List ℕ) → p ≡ replicate 2048 0 → s ≡ replicate 4096 0 → m ≡ replicate 96 0 → x ≡ replicate 96 0
    → Begun status w b 1024 1024 (memory_of p s m x) → Represents (core w b p s m x) first_world
first_represents status w b p s m x e f g h d =
    subst (λ (y : World). Represents (core w b p s m x) y) (first_is p s m x e f g h)
    (begun_represents status w b p s m x
    (ap length e ∙ length-replicate {A = ℕ} 2048 0) (ap length f ∙ length-replicate {A = ℕ} 4096 0) (ap length g ∙ length-replicate {A = ℕ} 96 0)
    (ap length h ∙ length-replicate {A = ℕ} 96 0) d)
