use Rattle.sky_script.specs.Values.{frame_of}
use Rattle.sky_world.specs.World.{WorldView}
use Rattle.sky_world.proofs.PayloadLaws.{got}
use Rattle.sky_world.proofs.ServeLaws.{ok_then}
use Rattle.sky_world.proofs.StandLaws.{stepped_ended}
use Rattle.sky_world.proofs.world.World.step.Goals as goal

pub returns-clause-ok : goal.returns-clause-ok
returns-clause-ok g c =
    let d = c.do_frame-outcome in
    let i = c.self.inside in
    let world : WorldView = record { settings = i.settings; service = i.service; sessions = i.sessions; ended = i.ended } in
    ok_then d.result (λ h. stepped_ended g.S.Storage c.args.self.now world c.args.site.now d.new.site (frame_of c.args.frame.now) (got (g.K.Sink.written c.args.sink.now) (g.K.Sink.written d.new.sink)) c.is_err-self-inside.result h)
    (rw (← c.self.view_is) at d.ensures.ok)

pub returns-clause-cloud_grows : goal.returns-clause-cloud_grows
returns-clause-cloud_grows g c = c.do_frame-outcome.ensures.cloud_cause.grows

pub returns-clause-cloud_cause : goal.returns-clause-cloud_cause
returns-clause-cloud_cause g c = c.do_frame-outcome.ensures.cloud_cause.cause

pub returns-clause-cloud_quiet : goal.returns-clause-cloud_quiet
returns-clause-cloud_quiet g c = c.do_frame-outcome.ensures.cloud_cause.quiet
