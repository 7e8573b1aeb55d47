use Rattle.std.specs.Prelude.{nat_lt}
use Rattle.std.proofs.Common.{◌≡◌, ℕ, Err, refl, ap, ◌∙◌}
use Rattle.std.proofs.lemmas.Result.{err_from_is_err_and}
use Rattle.sky_calls.specs.Durable.{DurableView}
use Rattle.sky_journal.specs.Journal.{JournalView, number_behind}
use Rattle.sky_outside.specs.Told.{WhereTold}
use Rattle.sky_sound.specs.Entries.{journal_of}
use Rattle.sky_recover.specs.Faults.{of_claim, of_replay}
use Rattle.sky_recover.specs.Opening.{IsOpened, LeavesFound, WhereBothTold}
use Rattle.sky_recover.specs.Refusals.{IsRefusedBy}
use Rattle.sky_recover.specs.Steps.{KeepsEntries}
use Rattle.sky_recover.specs.declared.opened.Opened.{Opened}
use Rattle.sky_recover.proofs.Ends.{at_settings, fails_there, foreign_there, unread_listed, unread_put, unread_read}
use Rattle.sky_recover.proofs.Moments.{found_kept, found_put}
use Rattle.sky_recover.proofs.Outcome.{opened}
use Rattle.sky_recover.proofs.Refused.{refused_claim, refused_listed, refused_replay, sound_ends}
use Rattle.sky_recover.proofs.Untouched.{listed as untouched_listed, read as untouched_read, redone as untouched_redone}
use Rattle.sky_recover.proofs.opening.recover.Goals as goal

-- ---- the journal was not read, or the boot object not put

pub returns-in_err-journal-clause-any_moment : goal.returns-in_err-journal-clause-any_moment
returns-in_err-journal-clause-any_moment g c =
    found_put g.S.Storage c.args.settings.now.volume c.args.settings.now.journal_area c.args.site.now c.find_epoch.new.cloud c.in_ok-epoch.epoch c.requires.settled c.find_epoch.ensures.looks
    c.in_ok-epoch.ensures.epoch c.read_and_claim.new.site c.read_and_claim.ensures.any_moment

pub returns-in_err-journal-clause-refused : goal.returns-in_err-journal-clause-refused
returns-in_err-journal-clause-refused g c =
    let p = err_from_is_err_and c.from_residual-in_err-journal.result c.from_residual-in_err-journal.ensures.1 in
    rw (p.1, p.2)
    (at_settings (λ v a. WhereBothTold g.S.Storage c.args.site.now (IsRefusedBy v a (of_claim c.in_err-journal.field-0.0))) c.volume-volume.result c.args.settings.now.volume c.journal_area-area.result
    c.args.settings.now.journal_area c.volume-volume.ensures.same c.journal_area-area.ensures.same
    (refused_claim g.S.Storage c.volume-volume.result c.journal_area-area.result c.args.site.now c.in_ok-epoch.ensures.judged JournalView c.in_err-journal.field-0.0
    (λ at is.
    foreign_there g.S.Storage c.volume-volume.result c.journal_area-area.result c.args.site.now c.find_epoch.new.cloud c.find_epoch.ensures.looks at (c.in_err-journal.ensures.foreign at is))))

pub returns-in_err-journal-clause-sound : goal.returns-in_err-journal-clause-sound
returns-in_err-journal-clause-sound g c =
    let p = err_from_is_err_and c.from_residual-in_err-journal.result c.from_residual-in_err-journal.ensures.1 in
    rw p.1
    (sound_ends g.S.Storage c.args.settings.now.volume c.args.settings.now.journal_area c.args.site.now (DurableView × Opened) p.0
    (rw p.2
    (at_settings (λ v a. WhereBothTold g.S.Storage c.args.site.now (IsRefusedBy v a (of_claim c.in_err-journal.field-0.0))) c.volume-volume.result c.args.settings.now.volume c.journal_area-area.result
    c.args.settings.now.journal_area c.volume-volume.ensures.same c.journal_area-area.ensures.same
    (refused_claim g.S.Storage c.volume-volume.result c.journal_area-area.result c.args.site.now c.in_ok-epoch.ensures.judged JournalView c.in_err-journal.field-0.0
    (λ at is.
    foreign_there g.S.Storage c.volume-volume.result c.journal_area-area.result c.args.site.now c.find_epoch.new.cloud c.find_epoch.ensures.looks at (c.in_err-journal.ensures.foreign at is))))))

pub returns-in_err-journal-clause-unread : goal.returns-in_err-journal-clause-unread
returns-in_err-journal-clause-unread g c =
    at_settings
    (λ v a. WhereTold (g.S.Storage.image c.args.site.now)
    (λ image. (at : ℕ) → journal_of v a 0 image ≡ Err at → g.S.Storage.objects c.read_and_claim.new.site ≡ g.S.Storage.objects c.args.site.now))
    c.volume-volume.result c.args.settings.now.volume c.journal_area-area.result c.args.settings.now.journal_area c.volume-volume.ensures.same c.journal_area-area.ensures.same
    (unread_put g.S.Storage c.volume-volume.result c.journal_area-area.result c.args.site.now c.find_epoch.new.cloud c.find_epoch.ensures.looks c.read_and_claim.new.site c.read_and_claim.ensures.unread)

pub returns-in_err-journal-clause-untouched : goal.returns-in_err-journal-clause-untouched
returns-in_err-journal-clause-untouched g c =
    let p = err_from_is_err_and c.from_residual-in_err-journal.result c.from_residual-in_err-journal.ensures.1 in
    rw (p.1, p.2)
    (untouched_read g.S.Storage c.args.site.now c.find_epoch.new.cloud c.read_and_claim.new.site c.find_epoch.ensures.looks c.read_and_claim.ensures.image c.in_err-journal.field-0.0)

-- ---- the cloud was not listed

pub returns-in_err-epoch-clause-sound : goal.returns-in_err-epoch-clause-sound
returns-in_err-epoch-clause-sound g c =
    let p = err_from_is_err_and c.from_residual.result c.from_residual.ensures.1 in
    rw p.1
    (sound_ends g.S.Storage c.args.settings.now.volume c.args.settings.now.journal_area c.args.site.now (DurableView × Opened) p.0
    (rw p.2 (refused_listed g.S.Storage c.args.settings.now.volume c.args.settings.now.journal_area c.args.site.now ℕ c.in_err-epoch.field-0.0 c.in_err-epoch.ensures.judged)))

pub returns-in_err-epoch-clause-untouched : goal.returns-in_err-epoch-clause-untouched
returns-in_err-epoch-clause-untouched g c =
    let p = err_from_is_err_and c.from_residual.result c.from_residual.ensures.1 in
    rw (p.1, p.2) (untouched_listed g.S.Storage c.args.site.now c.find_epoch.new.cloud c.find_epoch.ensures.looks c.in_err-epoch.field-0.0)

pub returns-in_err-epoch-clause-unread : goal.returns-in_err-epoch-clause-unread
returns-in_err-epoch-clause-unread g c =
    unread_listed g.S.Storage c.args.settings.now.volume c.args.settings.now.journal_area c.args.site.now c.find_epoch.new.cloud c.find_epoch.ensures.looks

-- ---- the changes were not done again, or the areas not settled

pub returns-in_err-durable-clause-any_moment : goal.returns-in_err-durable-clause-any_moment
returns-in_err-durable-clause-any_moment g c =
    at_settings (λ v a. LeavesFound g.S.Storage v a c.args.site.now c.continue_from.new.disk) c.volume-volume.result c.args.settings.now.volume c.journal_area-area.result c.args.settings.now.journal_area
    c.volume-volume.ensures.same c.journal_area-area.ensures.same
    (found_kept g.S.Storage c.volume-volume.result c.journal_area-area.result c.args.site.now c.find_epoch.new.cloud c.in_ok-epoch.epoch c.requires.settled c.find_epoch.ensures.looks c.in_ok-epoch.ensures.epoch
    c.read_and_claim.new.site c.continue_from.new.disk c.read_and_claim.ensures.any_moment c.read_and_claim.ensures.image c.in_ok-journal.ensures.claimed
    (at_settings (λ v a. KeepsEntries g.S.Storage v a c.read_and_claim.new.site c.continue_from.new.disk) c.in_ok-journal.journal.volume c.volume-volume.result c.in_ok-journal.journal.size
    c.journal_area-area.result c.in_ok-journal.ensures.volume c.in_ok-journal.ensures.size c.continue_from.ensures.any_moment))

pub returns-in_err-durable-clause-refused : goal.returns-in_err-durable-clause-refused
returns-in_err-durable-clause-refused g c =
    let p = err_from_is_err_and c.from_residual-in_err-durable.result c.from_residual-in_err-durable.ensures.1 in
    rw (p.1, p.2)
    (at_settings (λ v a. WhereBothTold g.S.Storage c.args.site.now (IsRefusedBy v a (of_replay c.in_err-durable.field-0.0))) c.volume-volume.result c.args.settings.now.volume c.journal_area-area.result
    c.args.settings.now.journal_area c.volume-volume.ensures.same c.journal_area-area.ensures.same
    (refused_replay g.S.Storage c.volume-volume.result c.journal_area-area.result c.args.site.now c.in_ok-epoch.ensures.judged DurableView c.in_err-durable.field-0.0
    (λ at is.
    fails_there g.S.Storage c.volume-volume.result c.journal_area-area.result c.args.site.now c.find_epoch.new.cloud c.find_epoch.ensures.looks c.read_and_claim.new.site c.in_ok-journal.journal
    c.in_ok-journal.ensures.volume c.in_ok-journal.ensures.size c.read_and_claim.ensures.image c.in_ok-journal.ensures.read at (c.in_err-durable.ensures.foreign at is))))

pub returns-in_err-durable-clause-sound : goal.returns-in_err-durable-clause-sound
returns-in_err-durable-clause-sound g c =
    let p = err_from_is_err_and c.from_residual-in_err-durable.result c.from_residual-in_err-durable.ensures.1 in
    rw p.1
    (sound_ends g.S.Storage c.args.settings.now.volume c.args.settings.now.journal_area c.args.site.now (DurableView × Opened) p.0
    (rw p.2
    (at_settings (λ v a. WhereBothTold g.S.Storage c.args.site.now (IsRefusedBy v a (of_replay c.in_err-durable.field-0.0))) c.volume-volume.result c.args.settings.now.volume c.journal_area-area.result
    c.args.settings.now.journal_area c.volume-volume.ensures.same c.journal_area-area.ensures.same
    (refused_replay g.S.Storage c.volume-volume.result c.journal_area-area.result c.args.site.now c.in_ok-epoch.ensures.judged DurableView c.in_err-durable.field-0.0
    (λ at is.
    fails_there g.S.Storage c.volume-volume.result c.journal_area-area.result c.args.site.now c.find_epoch.new.cloud c.find_epoch.ensures.looks c.read_and_claim.new.site c.in_ok-journal.journal
    c.in_ok-journal.ensures.volume c.in_ok-journal.ensures.size c.read_and_claim.ensures.image c.in_ok-journal.ensures.read at (c.in_err-durable.ensures.foreign at is))))))

pub returns-in_err-durable-clause-untouched : goal.returns-in_err-durable-clause-untouched
returns-in_err-durable-clause-untouched g c =
    let p = err_from_is_err_and c.from_residual-in_err-durable.result c.from_residual-in_err-durable.ensures.1 in
    rw (p.1, p.2)
    (untouched_redone g.S.Storage c.args.site.now c.find_epoch.new.cloud c.read_and_claim.new.site c.continue_from.new.disk c.find_epoch.ensures.looks c.read_and_claim.ensures.image DurableView
    c.in_err-durable.field-0.0 c.in_err-durable.ensures.kept)

pub returns-in_err-durable-clause-unread : goal.returns-in_err-durable-clause-unread
returns-in_err-durable-clause-unread g c =
    at_settings
    (λ v a. WhereTold (g.S.Storage.image c.args.site.now)
    (λ image. (at : ℕ) → journal_of v a 0 image ≡ Err at → g.S.Storage.objects c.continue_from.new.disk ≡ g.S.Storage.objects c.args.site.now))
    c.volume-volume.result c.args.settings.now.volume c.journal_area-area.result c.args.settings.now.journal_area c.volume-volume.ensures.same c.journal_area-area.ensures.same
    (unread_read g.S.Storage c.volume-volume.result c.journal_area-area.result c.args.site.now c.find_epoch.new.cloud c.find_epoch.ensures.looks c.read_and_claim.new.site c.in_ok-journal.journal
    c.in_ok-journal.ensures.volume c.in_ok-journal.ensures.size c.read_and_claim.ensures.image c.in_ok-journal.ensures.read c.continue_from.new.disk)

-- ---- all of it went well

pub returns-clause-any_moment : goal.returns-clause-any_moment
returns-clause-any_moment g c =
    at_settings (λ v a. LeavesFound g.S.Storage v a c.args.site.now c.continue_from.new.disk) c.volume-volume.result c.args.settings.now.volume c.journal_area-area.result c.args.settings.now.journal_area
    c.volume-volume.ensures.same c.journal_area-area.ensures.same
    (found_kept g.S.Storage c.volume-volume.result c.journal_area-area.result c.args.site.now c.find_epoch.new.cloud c.in_ok-epoch.epoch c.requires.settled c.find_epoch.ensures.looks c.in_ok-epoch.ensures.epoch
    c.read_and_claim.new.site c.continue_from.new.disk c.read_and_claim.ensures.any_moment c.read_and_claim.ensures.image c.in_ok-journal.ensures.claimed
    (at_settings (λ v a. KeepsEntries g.S.Storage v a c.read_and_claim.new.site c.continue_from.new.disk) c.in_ok-journal.journal.volume c.volume-volume.result c.in_ok-journal.journal.size
    c.journal_area-area.result c.in_ok-journal.ensures.volume c.in_ok-journal.ensures.size c.continue_from.ensures.any_moment))

pub returns-clause-unread : goal.returns-clause-unread
returns-clause-unread g c =
    at_settings
    (λ v a. WhereTold (g.S.Storage.image c.args.site.now)
    (λ image. (at : ℕ) → journal_of v a 0 image ≡ Err at → g.S.Storage.objects c.continue_from.new.disk ≡ g.S.Storage.objects c.args.site.now))
    c.volume-volume.result c.args.settings.now.volume c.journal_area-area.result c.args.settings.now.journal_area c.volume-volume.ensures.same c.journal_area-area.ensures.same
    (unread_read g.S.Storage c.volume-volume.result c.journal_area-area.result c.args.site.now c.find_epoch.new.cloud c.find_epoch.ensures.looks c.read_and_claim.new.site c.in_ok-journal.journal
    c.in_ok-journal.ensures.volume c.in_ok-journal.ensures.size c.read_and_claim.ensures.image c.in_ok-journal.ensures.read c.continue_from.new.disk)

pub returns-clause-found : goal.returns-clause-found
returns-clause-found g c =
    let o : Opened = record { epoch = c.in_ok-epoch.epoch; k = c.stored-k.result; journal = nat_lt 0 c.stored-k.result } in
    at_settings (λ v a. IsOpened g.S.Storage v a c.args.site.now c.continue_from.new.disk c.in_ok-durable.durable o) c.volume-volume.result c.args.settings.now.volume c.journal_area-area.result
    c.args.settings.now.journal_area c.volume-volume.ensures.same c.journal_area-area.ensures.same
    (opened g.S.Storage c.volume-volume.result c.journal_area-area.result c.args.site.now c.read_and_claim.new.site c.continue_from.new.disk c.in_ok-journal.journal c.in_ok-durable.durable o
    c.in_ok-journal.ensures.is c.in_ok-journal.ensures.volume c.in_ok-journal.ensures.size (c.read_and_claim.ensures.image ∙ c.find_epoch.ensures.looks.image) c.in_ok-journal.ensures.read
    c.in_ok-durable.ensures.continued c.in_ok-durable.ensures.is (c.valid_trees_stay_valid.ensures.begins c.volume-volume.result c.volume-volume.ensures.in_range.1) c.in_ok-epoch.ensures.epoch
    c.in_ok-epoch.ensures.judged (c.stored-k.ensures ∙ ap (λ (j : JournalView). number_behind j.newer 0) c.journal.ensures) refl)
