use Rattle.std.proofs.Common.{◌≡◌, Result, Err, inl, sym, ap, subst}
use Rattle.std.proofs.lemmas.Result.{err_from_is_err_and}
use Rattle.sky_base.specs.declared.status.Status.{Status}
use Rattle.sky_base.specs.declared.status.Status.TheVariants.{JournalFault, SinkFault}
use Rattle.sky_outside.specs.Told.{Given, GivenPart}
use Rattle.sky_script.specs.Frame.{OutFrame, out_frame}
use Rattle.sky_world.specs.World.{WorldView}
use Rattle.sky_world.proofs.AgainLaws.{not_of_sink, refused_memory, refused_sink, tell_counts, world_serves, world_stands}
use Rattle.sky_world.proofs.world.World.start.Goals as goal

-- ---- the opening failed

pub returns-in_err-files-clause-partly : goal.returns-in_err-files-clause-partly
returns-in_err-files-clause-partly g c = λ e.
    let p = err_from_is_err_and c.from_residual.result c.from_residual.ensures.1 in
    let same : c.in_err-files.field-0.0 ≡ SinkFault = cc in
    absurd (not_of_sink c.in_err-files.field-0.0 c.in_err-files.ensures.statuses same)

pub returns-in_err-files-clause-statuses : goal.returns-in_err-files-clause-statuses
returns-in_err-files-clause-statuses g c =
    let p = err_from_is_err_and c.from_residual.result c.from_residual.ensures.1 in
    rw (p.1, p.2) (inl c.in_err-files.ensures.statuses)

-- ---- there was no memory for the rest

pub returns-in_default-clause-refused : goal.returns-in_default-clause-refused
returns-in_default-clause-refused g c = refused_memory g.S.Storage c.args.settings.volume c.args.settings.journal_area c.args.site.now

pub returns-in_default-clause-partly : goal.returns-in_default-clause-partly
returns-in_default-clause-partly g c = λ e. absurd cc

-- ---- the frame was not written

pub returns-in_err-tell_opened-clause-partly : goal.returns-in_err-tell_opened-clause-partly
returns-in_err-tell_opened-clause-partly g c = λ e.
    let same = ap (λ (status : Status). let r : Result (Unit {0}) Status = Err status in r) c.in_err-tell_opened.ensures.statuses in
    let found = c.in_ok-files.ensures.found in
    (found.0, found.1, subst (λ (f : OutFrame). GivenPart (g.K.Sink.written c.args.sink.now) (g.K.Sink.written c.tell_opened.new.sink) (out_frame f)) (sym found.5) (c.in_err-tell_opened.ensures.partly same))

pub returns-in_err-tell_opened-clause-unwritten : goal.returns-in_err-tell_opened-clause-unwritten
returns-in_err-tell_opened-clause-unwritten g c =
    let p = err_from_is_err_and c.from_residual-in_err-tell_opened.result c.from_residual-in_err-tell_opened.ensures.1 in
    rw (p.1, p.2) (λ is. absurd {A = c.tell_opened.new.sink ≡ c.args.sink.now} (not_of_sink c.in_err-tell_opened.field-0.0 is c.in_err-tell_opened.ensures.statuses))

pub returns-in_err-tell_opened-clause-refused : goal.returns-in_err-tell_opened-clause-refused
returns-in_err-tell_opened-clause-refused g c =
    let p = err_from_is_err_and c.from_residual-in_err-tell_opened.result c.from_residual-in_err-tell_opened.ensures.1 in
    rw (p.1, p.2) (refused_sink g.S.Storage c.args.settings.volume c.args.settings.journal_area c.args.site.now c.in_err-tell_opened.field-0.0 c.in_err-tell_opened.ensures.statuses)

pub returns-in_err-tell_opened-clause-disk_cause : goal.returns-in_err-tell_opened-clause-disk_cause
returns-in_err-tell_opened-clause-disk_cause g c =
    let p = err_from_is_err_and c.from_residual-in_err-tell_opened.result c.from_residual-in_err-tell_opened.ensures.1 in
    rw (p.1, p.2)
    (tell_counts (let r : Result WorldView Status = Err c.in_err-tell_opened.field-0.0 in r) c.in_err-tell_opened.ensures.statuses JournalFault (λ e. absurd cc) (c.in_ok-files.files, c.in_ok-files.opened) (g.S.Storage.disk_faults c.args.site.now)
    (g.S.Storage.disk_faults c.open_site.new.site) (rw c.in_ok-files.was at c.open_site.ensures.disk_cause))

-- ---- it is open

pub returns-clause-world : goal.returns-clause-world
returns-clause-world g c =
    let found = c.in_ok-files.ensures.found in
    let files = c.in_ok-files.files in
    let opened = c.in_ok-files.opened in (
      found.0,
      found.1,
      world_stands g.S.Storage c.args.settings c.args.site.now c.open_site.new.site files opened c.in-Ok.world found c.in-Ok.ensures c.in_ok-files.ensures.claims c.in_ok-files.ensures.tells,
      subst (λ (f : OutFrame). Given (g.K.Sink.written c.args.sink.now) (g.K.Sink.written c.tell_opened.new.sink) (out_frame f)) (sym found.5) c.in_ok-tell_opened.ensures.ok,
    )

pub returns-clause-serving : goal.returns-clause-serving
returns-clause-serving g c =
    let found = c.in_ok-files.ensures.found in
    world_serves g.S.Storage c.args.settings c.args.site.now c.open_site.new.site c.in_ok-files.files c.in_ok-files.opened c.in-Ok.world found c.in-Ok.ensures
