use Rattle.std.proofs.Common.{ℕ}
use Rattle.sky_world.proofs.OpenedLaws.{counts_cloud, counts_disk, counts_of, left_as, opened_as, refused_as}
use Rattle.sky_world.proofs.opening.open_site.Goals as goal

pub returns-in-Ok-clause-found : goal.returns-in-Ok-clause-found
returns-in-Ok-clause-found g c =
    opened_as g.S.Storage c.args.settings.now.volume c.args.settings.now.journal_area c.args.site.now c.recover.new.site c.in-Ok.opened.0 c.in-Ok.opened.1 c.in-Ok.ensures.found

pub returns-in-Err-clause-refused : goal.returns-in-Err-clause-refused
returns-in-Err-clause-refused g c =
    rw c.status_of.ensures.status (refused_as g.S.Storage c.args.settings.now.volume c.args.settings.now.journal_area c.args.site.now c.in-Err.fault c.in-Err.ensures.refused)

pub returns-in-Err-clause-disk_cause : goal.returns-in-Err-clause-disk_cause
returns-in-Err-clause-disk_cause g c =
    rw c.status_of.ensures.status (counts_disk (g.S.Storage.disk_faults c.args.site.now) (g.S.Storage.disk_faults c.recover.new.site) c.in-Err.fault (rw c.in-Err.is at c.recover.ensures.disk_cause))

pub returns-in-Err-clause-cloud_cause : goal.returns-in-Err-clause-cloud_cause
returns-in-Err-clause-cloud_cause g c =
    let a : ℕ = g.S.Storage.cloud_faults c.args.site.now in
    let b : ℕ = g.S.Storage.cloud_faults c.recover.new.site in
    rw c.status_of.ensures.status (counts_cloud a b c.in-Err.fault (counts_of a b c.recover.ensures.cloud_grows (rw c.in-Err.is at c.recover.ensures.cloud_cause) (rw c.in-Err.is at c.recover.ensures.cloud_quiet)))

pub returns-in-Err-clause-untouched : goal.returns-in-Err-clause-untouched
returns-in-Err-clause-untouched g c =
    rw c.status_of.ensures.status (left_as g.S.Storage c.args.site.now c.recover.new.site c.in-Err.fault c.in-Err.ensures.untouched)
