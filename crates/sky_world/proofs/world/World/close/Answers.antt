use Rattle.std.proofs.Common.{List, set, ap, ◌∙◌}
use Rattle.std.proofs.lemmas.List.{set-set}
use Rattle.sky_world.specs.Sessions.{closed}
use Rattle.sky_world.specs.declared.sessions.Session.{Session}
use Rattle.sky_world.specs.declared.sessions.Session.TheVariants.{Absent}
use Rattle.sky_world.specs.World.{WorldView}
use Rattle.sky_world.proofs.world.World.close.Goals as goal

pub returns : goal.returns
returns c =
    let w = c.self.inside in
    let n = c.args.session in
    let next = c.closed-next.result in
    let with_sessions = λ (ss : List Session). let v : WorldView = record { settings = w.settings; service = w.service; sessions = ss; ended = w.ended } in v in
    rw (← c.self.view_is) (ap with_sessions
    (c.put.ensures ∙ ap (λ (ss : List Session). set ss n next) c.take.ensures.left ∙ set-set w.sessions n Absent next ∙ ap (λ (s : Session). set w.sessions n s) (c.closed-next.ensures.value ∙ ap closed c.take.ensures.taken)))
