use Rattle.std.proofs.Common.{refl, ap}
use Rattle.sky_calls.specs.Durable.{DurableView}
use Rattle.sky_world.specs.World.{ServiceView}
use Rattle.sky_world.proofs.CarryLaws.{becomes_change}
use Rattle.sky_world.proofs.service.Service.change.Goals as goal

pub returns-clause-becomes : goal.returns-clause-becomes
returns-clause-becomes g c =
    let i = c.self.inside in
    let e = c.change-outcome.ensures in
    let after = c.change-outcome.new.self in
    let old : ServiceView = record { epoch = i.epoch; tree = i.files.tree; journal = i.files.journal; moment = i.moment } in
    let new : ServiceView = record { epoch = i.epoch; tree = after.tree; journal = after.journal; moment = i.moment } in
    rw (← c.self.view_is)
    (becomes_change g.D.Storage old new c.args.disk.now c.change-outcome.new.disk c.args.change.now c.requires.changes (rw (← c.self.view_is) at c.requires.serving) c.facts.ensures.journal c.facts-2.ensures.journal
    c.facts-2.ensures.tree refl refl e.beside (λ d. let r = e.refused d in (ap (λ (v : DurableView). v.tree) r.0, ap (λ (v : DurableView). v.journal) r.0, r.1)) e.any_moment e.quiet c.change-outcome.result e.answer e.tree e.journal
    e.holds e.stands e.room e.formed e.tried e.tried_formed e.jukebox e.put_off e.memory e.down)
