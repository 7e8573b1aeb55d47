use Rattle.std.proofs.Common.{None, false}
use Rattle.sky_journal.specs.contracts.journal.Journal.{the_view}
use Rattle.sky_journal.proofs.Closed.{older_gone_view, older_moments, older_holds, older_stands}
use Rattle.sky_journal.proofs.Inside.{journal_known}
use Rattle.sky_journal.proofs.Rest.{older_rest}
use Rattle.sky_journal.proofs.journal.Journal.close_older.Goals as goal

pub returns-in_err-write_through-clause-any_moment : goal.returns-in_err-write_through-clause-any_moment
returns-in_err-write_through-clause-any_moment g c =
    older_moments g.D.Storage c.args.disk.now c.write_through.new.disk c.args.self.now c.args.area (journal_known c.self.inside c.args.self.now c.self.invariant c.self.view_is)
    c.requires.older c.write_through.ensures.any_moment

pub returns-clause-holds : goal.returns-clause-holds
returns-clause-holds g c =
    older_holds g.D.Storage c.args.disk.now c.write_through.new.disk c.args.self.now c.args.area (journal_known c.self.inside c.args.self.now c.self.invariant c.self.view_is)
    c.requires.older (the_view (record c.self.inside { older = None; down = false })) (older_gone_view c.self.inside c.args.self.now c.self.view_is c.requires.up)
    c.in_ok-write_through.ensures.written

pub returns-clause-stands : goal.returns-clause-stands
returns-clause-stands g c =
    older_stands g.D.Storage c.args.disk.now c.write_through.new.disk c.args.self.now c.args.area (journal_known c.self.inside c.args.self.now c.self.invariant c.self.view_is)
    c.requires.older (the_view (record c.self.inside { older = None; down = false })) (older_gone_view c.self.inside c.args.self.now c.self.view_is c.requires.up)
    c.in_ok-write_through.ensures.written c.in_ok-write_through.ensures.durable c.write_through.ensures.size c.requires.stands

pub returns-clause-any_moment : goal.returns-clause-any_moment
returns-clause-any_moment g c =
    older_moments g.D.Storage c.args.disk.now c.write_through.new.disk c.args.self.now c.args.area (journal_known c.self.inside c.args.self.now c.self.invariant c.self.view_is)
    c.requires.older c.write_through.ensures.any_moment

pub returns-in_err-write_through-clause-rest : goal.returns-in_err-write_through-clause-rest
returns-in_err-write_through-clause-rest g c =
    older_rest c.args.self.now c.args.area (g.D.Storage.image c.args.disk.now) (g.D.Storage.image c.write_through.new.disk)
    (journal_known c.self.inside c.args.self.now c.self.invariant c.self.view_is) c.requires.older c.write_through.ensures.torn

pub returns-clause-rest : goal.returns-clause-rest
returns-clause-rest g c =
    older_rest c.args.self.now c.args.area (g.D.Storage.image c.args.disk.now) (g.D.Storage.image c.write_through.new.disk)
    (journal_known c.self.inside c.args.self.now c.self.invariant c.self.view_is) c.requires.older c.write_through.ensures.torn
