use Rattle.std.proofs.Common.{refl}
use Rattle.sky_outside.proofs.MomentLaws.{OnlyLooks-none}
use Rattle.sky_recover.proofs.Ends.{unread_listed, unread_read}
use Rattle.sky_recover.proofs.opening.read_and_claim.Goals as goal

pub returns-in_err-journal-clause-unread : goal.returns-in_err-journal-clause-unread
returns-in_err-journal-clause-unread g c =
    unread_listed g.S.Storage c.args.volume c.args.area c.args.site.now c.read_changes.new.disk c.read_changes.ensures.looks

pub returns-in_err-claim_epoch-clause-unread : goal.returns-in_err-claim_epoch-clause-unread
returns-in_err-claim_epoch-clause-unread g c =
    unread_read g.S.Storage c.args.volume c.args.area c.args.site.now c.args.site.now (OnlyLooks-none g.S.Storage c.args.site.now) c.args.site.now c.in_ok-journal.journal c.in_ok-journal.ensures.volume
    c.in_ok-journal.ensures.size refl c.in_ok-journal.ensures.read c.claim_epoch.new.cloud

pub returns-clause-unread : goal.returns-clause-unread
returns-clause-unread g c =
    unread_read g.S.Storage c.args.volume c.args.area c.args.site.now c.args.site.now (OnlyLooks-none g.S.Storage c.args.site.now) c.args.site.now c.in_ok-journal.journal c.in_ok-journal.ensures.volume
    c.in_ok-journal.ensures.size refl c.in_ok-journal.ensures.read c.claim_epoch.new.cloud
