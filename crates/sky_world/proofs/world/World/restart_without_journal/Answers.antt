use Rattle.std.proofs.Common.{inl, inr, refl, sym}
use Rattle.std.proofs.lemmas.Result.{err_from_is_err_and}
use Rattle.sky_base.specs.declared.status.Status.TheVariants.{CloudFault, JournalFault}
use Rattle.sky_calls.proofs.Carried.{ok_at}
use Rattle.sky_outside.specs.Moments.{NothingPending}
use Rattle.sky_outside.proofs.CountLaws.{counts_none, counts_weaker}
use Rattle.sky_script.specs.Frame.{Opened, RestartWithoutJournal}
use Rattle.sky_world.specs.World.{WorldView}
use Rattle.sky_world.proofs.AgainLaws.{again_from, counts_behind, opened_serves, opening_quiet, tell_counts, told_counts}
use Rattle.sky_world.proofs.OutcomeLaws.{bare_ok, bare_part, tell_fails, tell_refused, tell_statuses}
use Rattle.sky_world.proofs.PayloadLaws.{got}
use Rattle.sky_world.proofs.RefuseLaws.{bare_failed, bare_refused, fails_as, wipe_failed}
use Rattle.sky_world.proofs.ServeLaws.{ok_then}
use Rattle.sky_world.proofs.WipeLaws.{HoldsNone}
use Rattle.sky_world.proofs.world.World.restart_without_journal.Goals as goal

-- ---- the areas were not closed

pub returns-then-is_err-clause-failed : goal.returns-then-is_err-clause-failed
returns-then-is_err-clause-failed g c =
    let i = c.self.inside in
    let old : WorldView = record { settings = i.settings; service = i.service; sessions = i.sessions; ended = i.ended } in
    let told = got (g.K.Sink.written c.args.sink.now) (g.K.Sink.written c.args.sink.now) in
    rw (← c.self.view_is) (inr (wipe_failed g.S.Storage old c.args.site.now c.wipe.new.disk told refl c.wipe.ensures.leaves))

pub returns-then-is_err-clause-disk_cause : goal.returns-then-is_err-clause-disk_cause
returns-then-is_err-clause-disk_cause g c =
    counts_weaker (g.S.Storage.disk_faults c.args.site.now) (g.S.Storage.disk_faults c.wipe.new.disk) c.wipe.ensures.cause (λ e. refl) (λ e. sym c.if-is_err.ensures.value)

pub returns-then-is_err-clause-cloud_cause : goal.returns-then-is_err-clause-cloud_cause
returns-then-is_err-clause-cloud_cause g c = rw c.wipe.ensures.cloud (counts_none (g.S.Storage.cloud_faults c.args.site.now) (λ e. absurd cc))

pub returns-then-is_err-clause-cause : goal.returns-then-is_err-clause-cause
returns-then-is_err-clause-cause g c = opening_quiet JournalFault (g.K.Sink.faults c.args.sink.now) tt

-- ---- the opening failed

pub reopen-requires : goal.reopen-requires
reopen-requires g c = record { settled = ok_at c.wipe.result (NothingPending g.S.Storage c.wipe.new.disk) c.wipe.ensures.durable c.if-is_err.ensures.value }

pub returns-in_err-opened-clause-failed : goal.returns-in_err-opened-clause-failed
returns-in_err-opened-clause-failed g c =
    let i = c.self.inside in
    let old : WorldView = record { settings = i.settings; service = i.service; sessions = i.sessions; ended = i.ended } in
    let p = err_from_is_err_and c.from_residual.result c.from_residual.ensures.1 in
    let told = got (g.K.Sink.written c.args.sink.now) (g.K.Sink.written c.args.sink.now) in
    let m = c.wipe.new.disk in
    let holds = ok_at c.wipe.result (HoldsNone g.S.Storage i.service.journal c.args.site.now m) c.wipe.ensures.holds c.if-is_err.ensures.value in
    rw (← c.self.view_is, p.1, p.2)
    (fails_as g.S.Storage old c.args.site.now RestartWithoutJournal c.reopen.new.site told c.in_err-opened.field-0.0 c.in_err-opened.ensures.statuses
    (bare_failed g.S.Storage old c.args.site.now c.reopen.new.site told refl m c.wipe.ensures.leaves holds c.wipe.ensures.beside c.reopen.ensures.any_moment))

pub returns-in_err-opened-clause-refused : goal.returns-in_err-opened-clause-refused
returns-in_err-opened-clause-refused g c =
    let i = c.self.inside in
    let old : WorldView = record { settings = i.settings; service = i.service; sessions = i.sessions; ended = i.ended } in
    let p = err_from_is_err_and c.from_residual.result c.from_residual.ensures.1 in
    let m = c.wipe.new.disk in
    let holds = ok_at c.wipe.result (HoldsNone g.S.Storage i.service.journal c.args.site.now m) c.wipe.ensures.holds c.if-is_err.ensures.value in
    rw (← c.self.view_is, p.1, p.2)
    (λ state stands. bare_refused g.S.Storage old c.args.site.now state stands m c.wipe.ensures.leaves holds c.wipe.ensures.beside c.in_err-opened.field-0.0 c.in_err-opened.ensures.refused)

pub returns-in_err-opened-clause-statuses : goal.returns-in_err-opened-clause-statuses
returns-in_err-opened-clause-statuses g c =
    let p = err_from_is_err_and c.from_residual.result c.from_residual.ensures.1 in
    rw (p.1, p.2) (inl c.in_err-opened.ensures.statuses)

pub returns-in_err-opened-clause-disk_cause : goal.returns-in_err-opened-clause-disk_cause
returns-in_err-opened-clause-disk_cause g c =
    let p = err_from_is_err_and c.from_residual.result c.from_residual.ensures.1 in
    rw (p.1, p.2)
    (told_counts c.in_err-opened.field-0.0 JournalFault (g.S.Storage.disk_faults c.args.site.now) (g.S.Storage.disk_faults c.reopen.new.site)
    (counts_behind c.wipe.result (g.S.Storage.disk_faults c.args.site.now) (g.S.Storage.disk_faults c.wipe.new.disk) (g.S.Storage.disk_faults c.reopen.new.site) c.if-is_err.ensures.value c.wipe.ensures.cause
    (rw c.in_err-opened.was at c.reopen.ensures.disk_cause)))

pub returns-in_err-opened-clause-cloud_cause : goal.returns-in_err-opened-clause-cloud_cause
returns-in_err-opened-clause-cloud_cause g c =
    let p = err_from_is_err_and c.from_residual.result c.from_residual.ensures.1 in
    rw (p.1, p.2)
    (told_counts c.in_err-opened.field-0.0 CloudFault (g.S.Storage.cloud_faults c.args.site.now) (g.S.Storage.cloud_faults c.reopen.new.site)
    (rw (c.wipe.ensures.cloud, c.in_err-opened.was) at c.reopen.ensures.cloud_cause))

pub returns-in_err-opened-clause-cause : goal.returns-in_err-opened-clause-cause
returns-in_err-opened-clause-cause g c =
    let p = err_from_is_err_and c.from_residual.result c.from_residual.ensures.1 in
    rw (p.1, p.2) (opening_quiet c.in_err-opened.field-0.0 (g.K.Sink.faults c.args.sink.now) c.in_err-opened.ensures.statuses)

-- ---- it is open

pub returns-clause-ok : goal.returns-clause-ok
returns-clause-ok g c =
    let i = c.self.inside in
    let old : WorldView = record { settings = i.settings; service = i.service; sessions = i.sessions; ended = i.ended } in
    let mid : WorldView = record { settings = i.settings; service = c.wipe.new.self; sessions = i.sessions; ended = i.ended } in
    let o = c.in_ok-opened.opened in
    let e = c.in_ok-opened.ensures in
    let told = got (g.K.Sink.written c.args.sink.now) (g.K.Sink.written c.tell_opened.new.sink) in
    let m = c.wipe.new.disk in
    let t = c.reopen.new.site in
    let holds = ok_at c.wipe.result (HoldsNone g.S.Storage i.service.journal c.args.site.now m) c.wipe.ensures.holds c.if-is_err.ensures.value in
    let again = again_from g.S.Storage old mid c.reopen.new.self m t (Opened o.epoch o.k o.journal) refl refl c.wipe.ensures.rest.2 e.found in
    rw (← c.self.view_is)
    (ok_then c.tell_opened.result
    (λ given. bare_ok g.S.Storage old c.reopen.new.self c.args.site.now t (Opened o.epoch o.k o.journal) told
    m c.wipe.ensures.leaves holds c.wipe.ensures.beside again e.claims e.tells c.reopen.ensures.any_moment given) c.tell_opened.ensures.ok)

pub returns-clause-serving : goal.returns-clause-serving
returns-clause-serving g c =
    let i = c.self.inside in
    let mid : WorldView = record { settings = i.settings; service = c.wipe.new.self; sessions = i.sessions; ended = i.ended } in
    let o = c.in_ok-opened.opened in
    let e = c.in_ok-opened.ensures in
    ok_then c.tell_opened.result (λ given. opened_serves g.S.Storage mid c.reopen.new.self c.reopen.new.site e.found.0 e.found.2 e.found.3) c.tell_opened.ensures.ok

pub returns-clause-failed : goal.returns-clause-failed
returns-clause-failed g c =
    let i = c.self.inside in
    let old : WorldView = record { settings = i.settings; service = i.service; sessions = i.sessions; ended = i.ended } in
    let mid : WorldView = record { settings = i.settings; service = c.wipe.new.self; sessions = i.sessions; ended = i.ended } in
    let o = c.in_ok-opened.opened in
    let e = c.in_ok-opened.ensures in
    let told = got (g.K.Sink.written c.args.sink.now) (g.K.Sink.written c.tell_opened.new.sink) in
    let m = c.wipe.new.disk in
    let t = c.reopen.new.site in
    let holds = ok_at c.wipe.result (HoldsNone g.S.Storage i.service.journal c.args.site.now m) c.wipe.ensures.holds c.if-is_err.ensures.value in
    let again = again_from g.S.Storage old mid c.reopen.new.self m t (Opened o.epoch o.k o.journal) refl refl c.wipe.ensures.rest.2 e.found in
    rw (← c.self.view_is)
    (tell_fails c.tell_opened.result c.tell_opened.ensures.statuses g.S.Storage old c.args.site.now t told RestartWithoutJournal
    (λ is. bare_part g.S.Storage old c.reopen.new.self c.args.site.now t (Opened o.epoch o.k o.journal) told
    m c.wipe.ensures.leaves holds c.wipe.ensures.beside again e.claims e.tells c.reopen.ensures.any_moment (c.tell_opened.ensures.partly is)))

pub returns-clause-refused : goal.returns-clause-refused
returns-clause-refused g c =
    let told = got (g.K.Sink.written c.args.sink.now) (g.K.Sink.written c.tell_opened.new.sink) in
    tell_refused c.tell_opened.result c.tell_opened.ensures.statuses g.S.Storage c.args.self.now c.args.site.now c.reopen.new.site told

pub returns-clause-statuses : goal.returns-clause-statuses
returns-clause-statuses g c = tell_statuses c.tell_opened.result c.tell_opened.ensures.statuses

pub returns-clause-disk_cause : goal.returns-clause-disk_cause
returns-clause-disk_cause g c =
    tell_counts c.tell_opened.result c.tell_opened.ensures.statuses JournalFault (λ e. absurd cc) c.in_ok-opened.opened (g.S.Storage.disk_faults c.args.site.now)
    (g.S.Storage.disk_faults c.reopen.new.site)
    (counts_behind c.wipe.result (g.S.Storage.disk_faults c.args.site.now) (g.S.Storage.disk_faults c.wipe.new.disk) (g.S.Storage.disk_faults c.reopen.new.site) c.if-is_err.ensures.value c.wipe.ensures.cause
    (rw c.in_ok-opened.was at c.reopen.ensures.disk_cause))

pub returns-clause-cloud_cause : goal.returns-clause-cloud_cause
returns-clause-cloud_cause g c =
    tell_counts c.tell_opened.result c.tell_opened.ensures.statuses CloudFault (λ e. absurd cc) c.in_ok-opened.opened (g.S.Storage.cloud_faults c.args.site.now)
    (g.S.Storage.cloud_faults c.reopen.new.site) (rw (c.wipe.ensures.cloud, c.in_ok-opened.was) at c.reopen.ensures.cloud_cause)
