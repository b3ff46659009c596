-- Feeding: an input comes in chunks, and is answered as far as it goes. The output does not depend on where the chunks are cut.
-- Assumes nothing.
use Rattle.std.specs.Prelude.{ℕ, suc, ◌<◌, ◌≡◌, refl, true, false, List, [], ◌∷◌, ◌++◌, eqb, length, get_or}
use Rattle.std.proofs.Common.{sym, ap, ◌∙◌, append_assoc, append-nil, arith}
use Rattle.layout.specs.Choice.{pick, cases, pick_true, pick_false}
use Rattle.model.specs.Run.{World}
use Rattle.line_answers.specs.Output.{line_answer, after_line, lines_of, answers_of, first_world, output_of}

-- what feeding leaves: the output so far, the world after the lines that ended, and the line so far
pub record Feeding : Type 0 where
  pub output : List ℕ
  pub world : World
  pub line : List ℕ

-- an output before what feeding leaves
abbrev pub after : List ℕ → Feeding → Feeding
after o f = record { output = o ++ f.output; world = f.world; line = f.line }

-- one byte after the other: a line feed ends the line so far, which is answered; any other byte belongs to it
unfoldable pub fed : World → List ℕ → List ℕ → Feeding
fed w l [] = record { output = []; world = w; line = l }
fed w l (b ∷ input) =
    pick (eqb b 10) (after (line_answer w l) (fed (after_line w l) [] input)) (fed w (l ++ (b ∷ [])) input)

-- bytes that are no line feed
abbrev pub NoFeed : List ℕ → Type 0
NoFeed bs = (k : ℕ) → k < length bs → eqb (get_or bs k 0) 10 ≡ false

-- the end of input: a line so far that is not empty is a line
unfoldable pub finished : World → List ℕ → Feeding
finished w [] = record { output = []; world = w; line = [] }
finished w (c ∷ l) = record { output = line_answer w (c ∷ l); world = after_line w (c ∷ l); line = [] }

-- chunk after chunk
unfoldable pub fed_all : World → List ℕ → List (List ℕ) → Feeding
fed_all w l [] = record { output = []; world = w; line = l }
fed_all w l (c ∷ chunks) = after (fed w l c).output (fed_all (fed w l c).world (fed w l c).line chunks)

unfoldable pub joined : List (List ℕ) → List ℕ
joined [] = []
joined (c ∷ chunks) = c ++ joined chunks

-- ---- laws

-- nothing, a line feed, and any other byte
pub fed_none : (w : World) (l : List ℕ) → fed w l [] ≡ record { output = []; world = w; line = l }
unfolding fed
fed_none w l = refl

pub fed_end : (w : World) (l : List ℕ) (b : ℕ) (input : List ℕ) → eqb b 10 ≡ true
    → fed w l (b ∷ input) ≡ after (line_answer w l) (fed (after_line w l) [] input)
unfolding fed
fed_end w l b input e = pick_true (eqb b 10) (after (line_answer w l) (fed (after_line w l) [] input)) (fed w (l ++ (b ∷ [])) input) e

pub fed_other : (w : World) (l : List ℕ) (b : ℕ) (input : List ℕ) → eqb b 10 ≡ false → fed w l (b ∷ input) ≡ fed w (l ++ (b ∷ [])) input
unfolding fed
fed_other w l b input e = pick_false (eqb b 10) (after (line_answer w l) (fed (after_line w l) [] input)) (fed w (l ++ (b ∷ [])) input) e

-- bytes that are no line feed
pub fed_run : (bs : List ℕ) (w : World) (l : List ℕ) → NoFeed bs → fed w l bs ≡ record { output = []; world = w; line = l ++ bs }
fed_run [] w l n = rw (append-nil l) (fed_none w l)
fed_run (b ∷ bs) w l n =
    fed_other w l b bs (n 0 (omega arith)) ∙ fed_run bs w (l ++ (b ∷ [])) (λ k h. n (suc k) (omega arith))
    ∙ rw (append_assoc l (b ∷ []) bs) refl

-- the end of input, after an empty line so far and after another
pub finished_none : (w : World) → finished w [] ≡ record { output = []; world = w; line = [] }
unfolding finished
finished_none w = refl

pub finished_rest : (w : World) (l : List ℕ) → (l ≡ [] → ⊥) → finished w l ≡ record { output = line_answer w l; world = after_line w l; line = [] }
unfolding finished
finished_rest w [] n = absurd (n refl)
finished_rest w (c ∷ l) n = refl

after_after : (o p : List ℕ) (f : Feeding) → after o (after p f) ≡ after (o ++ p) f
after_after o p f = rw (append_assoc o p f.output) refl

-- feeding a ++ b is feeding a, then b
abbrev Splits : List ℕ → List ℕ → World → List ℕ → Type 0
Splits a b w l = fed w l (a ++ b) ≡ after (fed w l a).output (fed (fed w l a).world (fed w l a).line b)

splits_end : (c : ℕ) (a b : List ℕ) (w : World) (l : List ℕ) → eqb c 10 ≡ true → Splits a b (after_line w l) [] → Splits (c ∷ a) b w l
splits_end c a b w l e h =
    rw (fed_end w l c (a ++ b) e, fed_end w l c a e, h)
    (after_after (line_answer w l) (fed (after_line w l) [] a).output (fed (fed (after_line w l) [] a).world (fed (after_line w l) [] a).line b))

splits_other : (c : ℕ) (a b : List ℕ) (w : World) (l : List ℕ) → eqb c 10 ≡ false → Splits a b w (l ++ (c ∷ [])) → Splits (c ∷ a) b w l
splits_other c a b w l e h = rw (fed_other w l c (a ++ b) e, fed_other w l c a e) h

pub fed_append : (a b : List ℕ) (w : World) (l : List ℕ) → Splits a b w l
fed_append [] b w l = rw (fed_none w l) refl
fed_append (c ∷ a) b w l =
    cases (eqb c 10)
    (λ e. splits_end c a b w l e (fed_append a b (after_line w l) []))
    (λ e. splits_other c a b w l e (fed_append a b w (l ++ (c ∷ []))))

-- so it does not matter where the chunks are cut
pub fed_chunks : (chunks : List (List ℕ)) (w : World) (l : List ℕ) → fed_all w l chunks ≡ fed w l (joined chunks)
unfolding fed_all joined fed
fed_chunks [] w l = refl
fed_chunks (c ∷ chunks) w l =
    ap (after (fed w l c).output) (fed_chunks chunks (fed w l c).world (fed w l c).line) ∙ sym (fed_append c (joined chunks) w l)

pub lines_end : (l : List ℕ) (b : ℕ) (input : List ℕ) → eqb b 10 ≡ true → lines_of l (b ∷ input) ≡ l ∷ lines_of [] input
unfolding lines_of
lines_end [] b input e = pick_true (eqb b 10) ([] ∷ lines_of [] input) (lines_of (b ∷ []) input) e
lines_end (c ∷ l) b input e = pick_true (eqb b 10) ((c ∷ l) ∷ lines_of [] input) (lines_of (c ∷ (l ++ (b ∷ []))) input) e

pub lines_other : (l : List ℕ) (b : ℕ) (input : List ℕ) → eqb b 10 ≡ false → lines_of l (b ∷ input) ≡ lines_of (l ++ (b ∷ [])) input
unfolding lines_of
lines_other [] b input e = pick_false (eqb b 10) ([] ∷ lines_of [] input) (lines_of (b ∷ []) input) e
lines_other (c ∷ l) b input e = pick_false (eqb b 10) ((c ∷ l) ∷ lines_of [] input) (lines_of (c ∷ (l ++ (b ∷ []))) input) e

-- the rest at the end of input
rest_lines : (w : World) (l : List ℕ) → (finished w l).output ≡ answers_of w (lines_of l [])
unfolding finished answers_of lines_of
rest_lines w [] = refl
rest_lines w (c ∷ l) = sym (append-nil (line_answer w (c ∷ l)))

more_lines : (w : World) (l : List ℕ) (ls : List (List ℕ)) → answers_of w (l ∷ ls) ≡ line_answer w l ++ answers_of (after_line w l) ls
unfolding answers_of
more_lines w l ls = refl

-- feeding, and the end of input, give the answers to the lines
abbrev Answers : List ℕ → World → List ℕ → Type 0
Answers input w l = (fed w l input).output ++ (finished (fed w l input).world (fed w l input).line).output ≡ answers_of w (lines_of l input)

answers_end : (b : ℕ) (input : List ℕ) (w : World) (l : List ℕ) → eqb b 10 ≡ true → Answers input (after_line w l) [] → Answers (b ∷ input) w l
answers_end b input w l e h =
    let f : Feeding = fed (after_line w l) [] input in
    rw (fed_end w l b input e, lines_end l b input e, more_lines w l (lines_of [] input))
    (append_assoc (line_answer w l) f.output (finished f.world f.line).output ∙ ap (λ (o : List ℕ). line_answer w l ++ o) h)

answers_other : (b : ℕ) (input : List ℕ) (w : World) (l : List ℕ) → eqb b 10 ≡ false → Answers input w (l ++ (b ∷ [])) → Answers (b ∷ input) w l
answers_other b input w l e h = rw (fed_other w l b input e, lines_other l b input e) h

fed_lines : (input : List ℕ) (w : World) (l : List ℕ) → Answers input w l
fed_lines [] w l = rw (fed_none w l) (rest_lines w l)
fed_lines (b ∷ input) w l =
    cases (eqb b 10)
    (λ e. answers_end b input w l e (fed_lines input (after_line w l) []))
    (λ e. answers_other b input w l e (fed_lines input w (l ++ (b ∷ []))))

-- the program's output, however its input is cut
pub fed_output : (chunks : List (List ℕ))
    → (fed_all first_world [] chunks).output ++ (finished (fed_all first_world [] chunks).world (fed_all first_world [] chunks).line).output ≡ output_of (joined chunks)
unfolding output_of
fed_output chunks = rw (fed_chunks chunks first_world []) (fed_lines (joined chunks) first_world [])
