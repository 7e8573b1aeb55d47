use Rattle.std.proofs.Common.{◌∙◌, List, set, sym, ap}
use Rattle.std.proofs.lemmas.List.{set-set}
use Rattle.sky_world.specs.declared.sessions.Session.{Session}
use Rattle.sky_world.specs.declared.sessions.Session.TheVariants.{Absent}
use Rattle.sky_world.specs.World.{WorldView}
use Rattle.sky_world.proofs.PayloadLaws.{got}
use Rattle.sky_world.proofs.ServeLaws.{ok_then}
use Rattle.sky_world.proofs.StandLaws.{stepped_down, stepped_fed, stepped_part, stepped_passed}
use Rattle.sky_world.proofs.world.World.feed.Goals as goal

pub returns-in-Open-clause-ok : goal.returns-in-Open-clause-ok
returns-in-Open-clause-ok g c =
    let i = c.self.inside in
    let world : WorldView = record { settings = i.settings; service = i.service; sessions = i.sessions; ended = i.ended } in
    let new = c.feed_open.new.self in
    rw (← c.self.view_is)
    (ok_then c.feed_open.result (λ h. stepped_fed g.D.Storage world c.args.disk.now c.feed_open.new.disk c.args.session c.args.payload.now c.requires.session (got (g.K.Sink.written c.args.sink.now) (g.K.Sink.written c.feed_open.new.sink))
    c.in-Open.assembler new h.0 (sym c.take.ensures.taken ∙ c.in-Open.is) h.1 c.feed_open.ensures.settings (h.2 ∙ ap (λ (ss : List Session). set ss c.args.session h.0) c.take.ensures.left ∙ set-set i.sessions c.args.session Absent h.0) c.feed_open.ensures.over) c.feed_open.ensures.ok)

pub returns-in-Open-clause-partly : goal.returns-in-Open-clause-partly
returns-in-Open-clause-partly g c = λ e.
    let i = c.self.inside in
    let world : WorldView = record { settings = i.settings; service = i.service; sessions = i.sessions; ended = i.ended } in
    rw (← c.self.view_is)
    (stepped_part g.D.Storage world c.args.disk.now c.feed_open.new.disk c.args.session c.args.payload.now c.requires.session (got (g.K.Sink.written c.args.sink.now) (g.K.Sink.written c.feed_open.new.sink)) c.in-Open.assembler
    (sym c.take.ensures.taken ∙ c.in-Open.is) (c.feed_open.ensures.partly e))

pub returns-in-Open-clause-fails : goal.returns-in-Open-clause-fails
returns-in-Open-clause-fails g c = λ e.
    let i = c.self.inside in
    let world : WorldView = record { settings = i.settings; service = i.service; sessions = i.sessions; ended = i.ended } in
    rw (← c.self.view_is)
    (stepped_down g.D.Storage world c.args.disk.now c.feed_open.new.disk c.args.session c.args.payload.now c.requires.session (got (g.K.Sink.written c.args.sink.now) (g.K.Sink.written c.feed_open.new.sink)) c.in-Open.assembler
    (sym c.take.ensures.taken ∙ c.in-Open.is) (c.feed_open.ensures.fails e))

pub returns-in_default-clause-ok : goal.returns-in_default-clause-ok
returns-in_default-clause-ok g c =
    let i = c.self.inside in
    let world : WorldView = record { settings = i.settings; service = i.service; sessions = i.sessions; ended = i.ended } in
    rw (← c.self.view_is, c.put.ensures, c.take.ensures.left, set-set i.sessions c.args.session Absent c.take.result)
    (stepped_passed g.D.Storage world c.args.disk.now (g.K.Sink.written c.args.sink.now) c.args.session c.args.payload.now c.take.result (sym c.take.ensures.taken) c.in_default.not-Open)
