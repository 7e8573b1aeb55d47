use Rattle.std.proofs.Common.{List, set, ap, ◌∙◌}
use Rattle.std.proofs.lemmas.List.{set-set}
use Rattle.sky_record.specs.Stream.{Received}
use Rattle.sky_world.specs.declared.sessions.Session.{Session}
use Rattle.sky_world.specs.declared.sessions.Session.TheVariants.{Absent, Open}
use Rattle.sky_world.specs.World.{WorldView}
use Rattle.sky_world.proofs.world.World.begin.Goals as goal

pub returns-clause-ok : goal.returns-clause-ok
returns-clause-ok c =
    let w = c.self.inside in
    let n = c.args.session in
    let a = c.in_ok-assembler.assembler in
    let with_sessions = λ (ss : List Session). let v : WorldView = record { settings = w.settings; service = w.service; sessions = ss; ended = w.ended } in v in
    rw (← c.self.view_is) (ap with_sessions
    (c.put.ensures ∙ ap (λ (ss : List Session). set ss n (Open a)) c.take.ensures.left ∙ set-set w.sessions n Absent (Open a) ∙ ap (λ (r : Received). set w.sessions n (Open r)) c.in_ok-assembler.ensures.empty))
