-- Lists of calls, one call more at a time; and the claims of a world that one leads to.
-- Assumes nothing.
use mathlib.Core.List.{List, [], ◌∷◌, ◌++◌}
use mathlib.Core.Path.{◌≡◌, refl, sym, ap, ◌∙◌, subst}
use Rattle.model.specs.Run.{Element, World, step, run, begin, Reached}
use Rattle.model.specs.History.{history_of}
use Rattle.model.specs.Claims.{Claims}
use Rattle.model.proofs.Theorem.{every_list}

pub run_none : (w : World) → run w [] ≡ w
unfolding run
run_none w = refl

-- one call more
run_more : (w : World) (es : List Element) (e : Element) → run w (es ++ (e ∷ [])) ≡ step (run w es) e
unfolding run
run_more w [] e = refl
run_more w (x ∷ es) e = run_more (step w x) es e

pub reached_step : (w : World) (e : Element) → Reached w → Reached (step w e)
reached_step w e r = record {
  heap = r.heap;
  immortal = r.immortal;
  memory = r.memory;
  accepted = r.accepted;
  elements = r.elements ++ (e ∷ []);
  run_is = ap (λ (x : World). step x e) r.run_is ∙ sym (run_more (begin r.heap r.immortal r.memory) r.elements e);
}

-- every claim of the list theorem holds of a world that is reached
pub reached_claims : (w : World) → Reached w → Claims w (history_of w.trace)
reached_claims w r =
    subst (λ (x : World). Claims x (history_of x.trace)) (sym r.run_is) (every_list r.heap r.immortal r.memory r.accepted r.elements)
