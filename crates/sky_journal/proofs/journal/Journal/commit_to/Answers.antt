use Rattle.std.proofs.Common.{◌≡◌, ◌+◌, ◌-◌, ℕ, true, length, Some, vec_len, vec_capacity, sym, subst, ap, ◌∙◌, arith}
use Rattle.sky_journal.specs.Journal.{JournalView, IsJournal, after_commit, batch_size}
use Rattle.sky_journal.specs.Rest.{after_failure}
use Rattle.sky_journal.specs.contracts.journal.Journal.{the_view}
use Rattle.sky_journal.proofs.Appending.{batch_size-some}
use Rattle.sky_journal.proofs.Committed.{pending_fits, commit_within, commit_moments, commit_holds, commit_stands}
use Rattle.sky_journal.proofs.Committing.{busy_view, busy_invariant, behind_known, settled, settled_invariant, filled, commit_view}
use Rattle.sky_journal.proofs.Inside.{journal_known, pending_known}
use Rattle.sky_journal.proofs.Journals.{IsJournal-but, IsJournal-after_commit}
use Rattle.sky_journal.proofs.Rest.{commit_rest, failed_now}
use Rattle.sky_journal.proofs.Unused.{batch_unused}
use Rattle.sky_journal.proofs.journal.Journal.commit_to.Goals as goal

-- the bytes that are written, as they stand behind the gate
pub write_and_open-requires-clause-within : goal.write_and_open-requires-clause-within
write_and_open-requires-clause-within g c =
    let v = c.args.self.now in
    let is = journal_known c.self.inside v c.self.invariant c.self.view_is in
    let pending = pending_known c.self.inside v c.self.invariant c.self.view_is in
    let long : length c.as_slice.result.now ≡ batch_size v.pending =
    omega (arith, c.as_slice.ensures.len, c.complete_batch.new.batch.ok.0, c.complete_batch.ensures.size, c.self.inside.batch.ok.0, pending.1, batch_size-some v.pending c.requires.some) in
    omega (arith, commit_within v c.args.area (length c.as_slice.result.now) is c.requires.newer long, c.requires.stands.size)

pub invariant_of-self : goal.invariant_of-self
invariant_of-self g c =
    busy_invariant c.self.inside c.complete_batch.new.batch c.self.invariant c.complete_batch.ensures.body c.complete_batch.ensures.size c.complete_batch.ensures.closed

pub returns-in_err-write_and_open-clause-any_moment : goal.returns-in_err-write_and_open-clause-any_moment
returns-in_err-write_and_open-clause-any_moment g c =
    let v = c.args.self.now in
    commit_moments g.D.Storage c.args.disk.now c.write_and_open.new.disk v c.args.area c.as_slice.result.now
    (journal_known c.self.inside v c.self.invariant c.self.view_is) c.requires.newer
    (behind_known c.self.inside v c.self.view_is c.as_slice.result.now c.complete_batch.new.batch.items c.as_slice.ensures.value (c.complete_batch.ensures.complete (the_view c.self.inside).pending c.self.invariant.3))
    c.requires.some c.write_and_open.ensures.any_moment

-- the journal behind it
after : (g : _) (c : goal.After-self-4-1 g) → the_view (settled c.self.inside c.self.inside.older (Some (filled c.args.area c.self.inside.count c.len.result)) c.clear_batch.new.batch)
    ≡ record (after_commit c.args.self.now) { spare = vec_capacity c.clear_batch.new.batch - vec_len c.clear_batch.new.batch }
after g c =
    let v = c.args.self.now in
    let pending = pending_known c.self.inside v c.self.invariant c.self.view_is in
    let long : batch_size v.pending ≡ c.len.result =
    omega (arith, c.len.ensures, c.complete_batch.new.batch.ok.0, c.complete_batch.ensures.size, c.self.inside.batch.ok.0, pending.1, batch_size-some v.pending c.requires.some) in
    commit_view c.self.inside v c.args.area c.clear_batch.new.batch c.len.result c.self.invariant c.self.view_is c.requires.newer c.requires.up long c.clear_batch.ensures.size

pub invariant_of-self-2 : goal.invariant_of-self-2
invariant_of-self-2 g c =
    let v = c.args.self.now in
    let is = IsJournal-but (after_commit v) (vec_capacity c.clear_batch.new.batch - vec_len c.clear_batch.new.batch) v.down (IsJournal-after_commit v (journal_known c.self.inside v c.self.invariant c.self.view_is)) in
    settled_invariant c.self.inside c.self.inside.older (Some (filled c.args.area c.self.inside.count c.len.result)) c.clear_batch.new.batch c.clear_batch.ensures.size c.clear_batch.ensures.closed
    (subst IsJournal (sym (after g c)) is)

pub returns-clause-ok : goal.returns-clause-ok
returns-clause-ok g c = after g c

pub returns-clause-holds : goal.returns-clause-holds
returns-clause-holds g c =
    let v = c.args.self.now in
    commit_holds g.D.Storage c.args.disk.now c.write_and_open.new.disk v c.args.area c.as_slice.result.now
    (journal_known c.self.inside v c.self.invariant c.self.view_is) c.requires.newer
    (behind_known c.self.inside v c.self.view_is c.as_slice.result.now c.complete_batch.new.batch.items c.as_slice.ensures.value (c.complete_batch.ensures.complete (the_view c.self.inside).pending c.self.invariant.3))
    c.requires.some
    (the_view (settled c.self.inside c.self.inside.older (Some (filled c.args.area c.self.inside.count c.len.result)) c.clear_batch.new.batch))
    (vec_capacity c.clear_batch.new.batch - vec_len c.clear_batch.new.batch) (after g c) c.in_ok-write_and_open.ensures.written

pub returns-clause-stands : goal.returns-clause-stands
returns-clause-stands g c =
    let v = c.args.self.now in
    commit_stands g.D.Storage c.args.disk.now c.write_and_open.new.disk v c.args.area c.as_slice.result.now
    (journal_known c.self.inside v c.self.invariant c.self.view_is) c.requires.newer
    (behind_known c.self.inside v c.self.view_is c.as_slice.result.now c.complete_batch.new.batch.items c.as_slice.ensures.value (c.complete_batch.ensures.complete (the_view c.self.inside).pending c.self.invariant.3))
    c.requires.some
    (the_view (settled c.self.inside c.self.inside.older (Some (filled c.args.area c.self.inside.count c.len.result)) c.clear_batch.new.batch))
    (vec_capacity c.clear_batch.new.batch - vec_len c.clear_batch.new.batch) (after g c) c.in_ok-write_and_open.ensures.written
    c.in_ok-write_and_open.ensures.durable c.write_and_open.ensures.size c.requires.stands

pub returns-clause-any_moment : goal.returns-clause-any_moment
returns-clause-any_moment g c =
    let v = c.args.self.now in
    commit_moments g.D.Storage c.args.disk.now c.write_and_open.new.disk v c.args.area c.as_slice.result.now
    (journal_known c.self.inside v c.self.invariant c.self.view_is) c.requires.newer
    (behind_known c.self.inside v c.self.view_is c.as_slice.result.now c.complete_batch.new.batch.items c.as_slice.ensures.value (c.complete_batch.ensures.complete (the_view c.self.inside).pending c.self.invariant.3))
    c.requires.some c.write_and_open.ensures.any_moment

pub returns-in_err-write_and_open-clause-rest : goal.returns-in_err-write_and_open-clause-rest
returns-in_err-write_and_open-clause-rest g c =
    let v = c.args.self.now in
    let is = journal_known c.self.inside v c.self.invariant c.self.view_is in
    let pending = pending_known c.self.inside v c.self.invariant c.self.view_is in
    let long : length c.as_slice.result.now ≡ batch_size v.pending =
    omega (arith, c.as_slice.ensures.len, c.complete_batch.new.batch.ok.0, c.complete_batch.ensures.size, c.self.inside.batch.ok.0, pending.1, batch_size-some v.pending c.requires.some) in
    commit_rest v c.args.area (length c.as_slice.result.now) (g.D.Storage.image c.args.disk.now) (g.D.Storage.image c.write_and_open.new.disk) is c.requires.newer
    (omega (arith, long, (pending_fits v c.args.area is c.requires.newer).1)) c.write_and_open.ensures.torn

pub returns-clause-rest : goal.returns-clause-rest
returns-clause-rest g c =
    let v = c.args.self.now in
    let is = journal_known c.self.inside v c.self.invariant c.self.view_is in
    let pending = pending_known c.self.inside v c.self.invariant c.self.view_is in
    let long : length c.as_slice.result.now ≡ batch_size v.pending =
    omega (arith, c.as_slice.ensures.len, c.complete_batch.new.batch.ok.0, c.complete_batch.ensures.size, c.self.inside.batch.ok.0, pending.1, batch_size-some v.pending c.requires.some) in
    commit_rest v c.args.area (length c.as_slice.result.now) (g.D.Storage.image c.args.disk.now) (g.D.Storage.image c.write_and_open.new.disk) is c.requires.newer
    (omega (arith, long, (pending_fits v c.args.area is c.requires.newer).1)) c.write_and_open.ensures.torn

pub returns-in_err-write_and_open-clause-failed : goal.returns-in_err-write_and_open-clause-failed
returns-in_err-write_and_open-clause-failed g c =
    let batch = c.complete_batch.new.batch in
    let old = c.self.inside.batch in
    let same : vec_capacity batch - vec_len batch ≡ vec_capacity old - vec_len old = omega (arith, c.complete_batch.ensures.capacity, c.complete_batch.ensures.size, batch.ok.0, old.ok.0) in
    failed_now c.from_residual.result c.args.self.now (the_view (record c.self.inside { down = true; batch = batch }))
    (busy_view c.self.inside batch c.complete_batch.ensures.body
    ∙ ap (λ (n : ℕ). record (the_view c.self.inside) { spare = n; down = true }) same
    ∙ ap (λ (v : JournalView). after_failure v) c.self.view_is)

pub returns-in_err-write_and_open-clause-spare : goal.returns-in_err-write_and_open-clause-spare
returns-in_err-write_and_open-clause-spare g c =
    let batch = c.complete_batch.new.batch in
    let old = c.self.inside.batch in
    omega (arith, c.complete_batch.ensures.capacity, c.complete_batch.ensures.size, batch.ok.0, old.ok.0, ap (λ (v : JournalView). v.spare) c.self.view_is)

pub returns-clause-spare : goal.returns-clause-spare
returns-clause-spare g c =
    let batch = c.complete_batch.new.batch in
    let old = c.self.inside.batch in
    let new = c.clear_batch.new.batch in
    omega (
      arith,
      c.complete_batch.ensures.capacity,
      c.complete_batch.ensures.size,
      c.clear_batch.ensures.capacity,
      c.clear_batch.ensures.size,
      c.self.invariant.1,
      batch.ok.0,
      old.ok.0,
      new.ok.0,
      ap (λ (v : JournalView). v.spare) c.self.view_is,
    )

pub returns-clause-unused : goal.returns-clause-unused
returns-clause-unused g c =
    let v = c.args.self.now in
    let is = journal_known c.self.inside v c.self.invariant c.self.view_is in
    let pending = pending_known c.self.inside v c.self.invariant c.self.view_is in
    let long : length c.as_slice.result.now ≡ batch_size v.pending =
    omega (arith, c.as_slice.ensures.len, c.complete_batch.new.batch.ok.0, c.complete_batch.ensures.size, c.self.inside.batch.ok.0, pending.1, batch_size-some v.pending c.requires.some) in
    batch_unused (c.args.area.start + c.args.area.end) (g.D.Storage.bytes_of c.args.disk.now) c.as_slice.result.now (g.D.Storage.image c.args.disk.now) (g.D.Storage.image c.write_and_open.new.disk)
    (g.D.Storage.has_size c.args.disk.now) (omega (arith, commit_within v c.args.area (length c.as_slice.result.now) is c.requires.newer long, c.requires.stands.size))
    c.in_ok-write_and_open.ensures.written v.pending
    (behind_known c.self.inside v c.self.view_is c.as_slice.result.now c.complete_batch.new.batch.items c.as_slice.ensures.value (c.complete_batch.ensures.complete (the_view c.self.inside).pending c.self.invariant.3))
