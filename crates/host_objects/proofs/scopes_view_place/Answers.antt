-- `scopes_view_place` meets its contract: the place that is told answers both calls.
use Rattle.std.proofs.Common.{◌≡◌, sym}
use Rattle.tables.specs.Decode.{state_of}
use Rattle.tables.specs.Contract.{memory_of}
use Rattle.views.specs.PlacedView.{view_place_of}
use Rattle.views.proofs.ViewAnswers.{place_shows, place_tells}
use Rattle.host_objects.proofs.scopes_view_place.Goals as goal

pub returns : goal.returns
returns c =
    let a = c.args in
    let m = memory_of a.permanent.now a.scratch.now a.map.now a.written.now in
    let e : c.view_place.result ≡ view_place_of (state_of a.words.now a.bytes.now) m a.t a.object = rw (sym c.of-buffers.ensures) c.view_place.ensures in
    record {
      place = e;
      answers = record {
        shows = place_shows a.words.now a.bytes.now m a.t a.object c.requires _ e;
        tells = place_tells a.words.now a.bytes.now m a.t a.object c.requires _ e;
      };
    }
