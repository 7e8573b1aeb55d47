use Rattle.std.proofs.Common.{◌≡◌, ◌-◌, None, vec_len, vec_capacity, sym, subst, ap, arith}
use Rattle.sky_journal.specs.Journal.{JournalView, IsJournal, without_newer}
use Rattle.sky_journal.specs.contracts.journal.Journal.{the_view}
use Rattle.sky_journal.proofs.Closed.{newer_gone_view, newer_moments, newer_holds, newer_stands}
use Rattle.sky_journal.proofs.Committing.{settled, settled_invariant}
use Rattle.sky_journal.proofs.Inside.{journal_known}
use Rattle.sky_journal.proofs.Journals.{IsJournal-but, IsJournal-without_newer}
use Rattle.sky_journal.proofs.Rest.{newer_rest}
use Rattle.sky_journal.proofs.journal.Journal.close_last.Goals as goal

pub returns-in_err-write_through-clause-any_moment : goal.returns-in_err-write_through-clause-any_moment
returns-in_err-write_through-clause-any_moment g c =
    newer_moments g.D.Storage c.args.disk.now c.write_through.new.disk c.args.self.now c.args.area (journal_known c.self.inside c.args.self.now c.self.invariant c.self.view_is)
    c.requires.newer c.write_through.ensures.any_moment

-- the journal behind it
after : (g : _) (c : goal.After-self-6-1 g) → the_view (settled c.self.inside None c.self.inside.older c.clear_batch.new.batch)
    ≡ record (without_newer c.args.self.now) { spare = vec_capacity c.clear_batch.new.batch - vec_len c.clear_batch.new.batch }
after g c = newer_gone_view c.self.inside c.args.self.now c.clear_batch.new.batch c.self.view_is c.requires.up c.clear_batch.ensures.size

pub invariant_of-self-2 : goal.invariant_of-self-2
invariant_of-self-2 g c =
    let v = c.args.self.now in
    let is = IsJournal-but (without_newer v) (vec_capacity c.clear_batch.new.batch - vec_len c.clear_batch.new.batch) v.down (IsJournal-without_newer v (journal_known c.self.inside v c.self.invariant c.self.view_is)) in
    settled_invariant c.self.inside None c.self.inside.older c.clear_batch.new.batch c.clear_batch.ensures.size c.clear_batch.ensures.closed
    (subst IsJournal (sym (after g c)) is)

pub returns-clause-ok : goal.returns-clause-ok
returns-clause-ok g c = after g c

pub returns-clause-holds : goal.returns-clause-holds
returns-clause-holds g c =
    newer_holds g.D.Storage c.args.disk.now c.write_through.new.disk c.args.self.now c.args.area (journal_known c.self.inside c.args.self.now c.self.invariant c.self.view_is)
    c.requires.newer (the_view (settled c.self.inside None c.self.inside.older c.clear_batch.new.batch))
    (vec_capacity c.clear_batch.new.batch - vec_len c.clear_batch.new.batch) (after g c) c.in_ok-write_through.ensures.written

pub returns-clause-stands : goal.returns-clause-stands
returns-clause-stands g c =
    newer_stands g.D.Storage c.args.disk.now c.write_through.new.disk c.args.self.now c.args.area (journal_known c.self.inside c.args.self.now c.self.invariant c.self.view_is)
    c.requires.newer (the_view (settled c.self.inside None c.self.inside.older c.clear_batch.new.batch))
    (vec_capacity c.clear_batch.new.batch - vec_len c.clear_batch.new.batch) (after g c) c.in_ok-write_through.ensures.written
    c.in_ok-write_through.ensures.durable c.write_through.ensures.size c.requires.stands

pub returns-clause-any_moment : goal.returns-clause-any_moment
returns-clause-any_moment g c =
    newer_moments g.D.Storage c.args.disk.now c.write_through.new.disk c.args.self.now c.args.area (journal_known c.self.inside c.args.self.now c.self.invariant c.self.view_is)
    c.requires.newer c.write_through.ensures.any_moment

pub returns-in_err-write_through-clause-rest : goal.returns-in_err-write_through-clause-rest
returns-in_err-write_through-clause-rest g c =
    newer_rest c.args.self.now c.args.area (g.D.Storage.image c.args.disk.now) (g.D.Storage.image c.write_through.new.disk)
    (journal_known c.self.inside c.args.self.now c.self.invariant c.self.view_is) c.requires.newer c.write_through.ensures.torn

pub returns-clause-rest : goal.returns-clause-rest
returns-clause-rest g c =
    newer_rest c.args.self.now c.args.area (g.D.Storage.image c.args.disk.now) (g.D.Storage.image c.write_through.new.disk)
    (journal_known c.self.inside c.args.self.now c.self.invariant c.self.view_is) c.requires.newer c.write_through.ensures.torn

pub returns-clause-spare : goal.returns-clause-spare
returns-clause-spare g c =
    let old = c.self.inside.batch in
    let new = c.clear_batch.new.batch in
    omega (arith, c.clear_batch.ensures.capacity, c.clear_batch.ensures.size, c.self.invariant.1, old.ok.0, new.ok.0, ap (λ (v : JournalView). v.spare) c.self.view_is)
