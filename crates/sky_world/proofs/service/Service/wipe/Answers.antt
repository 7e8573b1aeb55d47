use Rattle.sky_journal.specs.Journal.{JournalView}
use Rattle.sky_world.proofs.AgainLaws.{holds_none, ok_both}
use Rattle.sky_world.proofs.ServeLaws.{ok_then}
use Rattle.sky_world.proofs.service.Service.wipe.Goals as goal

pub returns-clause-leaves : goal.returns-clause-leaves
returns-clause-leaves g c = rw (← c.self.view_is) c.wipe.ensures.any_moment

pub returns-clause-holds : goal.returns-clause-holds
returns-clause-holds g c =
    let j : JournalView = c.self.inside.files.journal in
    let e = c.wipe.ensures in
    rw (← c.self.view_is)
    (ok_both c.wipe.result (λ same both. holds_none j c.wipe.new.self.journal (g.D.Storage.image c.args.disk.now) (g.D.Storage.image c.wipe.new.disk) same both) e.ok e.holds)

pub returns-clause-durable : goal.returns-clause-durable
returns-clause-durable g c = ok_then c.wipe.result (λ stands. stands.durable) c.wipe.ensures.stands
