use Rattle.std.proofs.Common.{◌∙◌}
use Rattle.sky_journal.proofs.Wiped.{wipe_fails, wipe_moments}
use Rattle.sky_journal.proofs.Rest.{wipe_rest, wipe_failed, wipe_failed_first}
use Rattle.sky_journal.proofs.journal.Journal.wipe.Goals as goal

pub returns-in_err-close_newer-clause-any_moment : goal.returns-in_err-close_newer-clause-any_moment
returns-in_err-close_newer-clause-any_moment g c =
    wipe_fails g.D.Storage c.args.disk.now c.close_newer.new.disk c.args.self.now c.close_newer.ensures.any_moment

pub returns-clause-any_moment : goal.returns-clause-any_moment
returns-clause-any_moment g c =
    wipe_moments g.D.Storage c.args.disk.now c.close_newer.new.disk c.close_newer-2.new.disk c.args.self.now c.close_newer.new.self c.close_newer.new.self.spare
    c.in_ok-close_newer.ensures.ok c.close_newer.ensures.beside c.in_ok-close_newer.ensures.holds c.close_newer.ensures.any_moment c.close_newer-2.ensures.any_moment

pub returns-clause-quiet : goal.returns-clause-quiet
returns-clause-quiet g c = λ none. c.close_newer-2.ensures.quiet (c.close_newer.ensures.none none) ∙ c.close_newer.ensures.quiet none

pub returns-clause-rest : goal.returns-clause-rest
returns-clause-rest g c =
    wipe_rest c.args.self.now c.close_newer.new.self c.close_newer.new.self.spare (g.D.Storage.image c.args.disk.now) (g.D.Storage.image c.close_newer.new.disk) (g.D.Storage.image c.close_newer-2.new.disk)
    c.in_ok-close_newer.ensures.ok c.close_newer.ensures.rest c.close_newer-2.ensures.rest

pub returns-in_err-close_newer-clause-failed : goal.returns-in_err-close_newer-clause-failed
returns-in_err-close_newer-clause-failed g c = wipe_failed_first c.from_residual.result c.args.self.now c.close_newer.new.self c.in_err-close_newer.ensures.failed

pub returns-clause-failed : goal.returns-clause-failed
returns-clause-failed g c = wipe_failed c.close_newer-2.result c.args.self.now c.close_newer.new.self c.close_newer-2.new.self c.in_ok-close_newer.ensures.ok c.close_newer-2.ensures.failed
