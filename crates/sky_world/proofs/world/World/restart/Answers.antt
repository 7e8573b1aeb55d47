use Rattle.std.proofs.Common.{inl, refl}
use Rattle.std.proofs.lemmas.Result.{err_from_is_err_and}
use Rattle.sky_base.specs.declared.status.Status.TheVariants.{CloudFault, JournalFault}
use Rattle.sky_script.specs.Frame.{Opened, Restart}
use Rattle.sky_world.proofs.AgainLaws.{opened_serves, opening_quiet, tell_counts}
use Rattle.sky_world.proofs.OutcomeLaws.{restart_ok, restart_part, tell_fails, tell_refused, tell_statuses}
use Rattle.sky_world.proofs.PayloadLaws.{got}
use Rattle.sky_world.proofs.RefuseLaws.{fails_as, restart_failed, restart_refused}
use Rattle.sky_world.proofs.ServeLaws.{ok_then}
use Rattle.sky_world.proofs.world.World.restart.Goals as goal

pub reopen-requires : goal.reopen-requires
reopen-requires g c = record { settled = c.requires.serving.stands.durable }

-- ---- the opening failed

pub returns-in_err-opened-clause-failed : goal.returns-in_err-opened-clause-failed
returns-in_err-opened-clause-failed g c =
    let p = err_from_is_err_and c.from_residual.result c.from_residual.ensures.1 in
    let told = got (g.K.Sink.written c.args.sink.now) (g.K.Sink.written c.args.sink.now) in
    rw (p.1, p.2)
    (fails_as g.S.Storage c.args.self.now c.args.site.now Restart c.reopen.new.site told c.in_err-opened.field-0.0 c.in_err-opened.ensures.statuses
    (restart_failed g.S.Storage c.args.self.now c.args.site.now c.reopen.new.site told refl c.reopen.ensures.any_moment))

pub returns-in_err-opened-clause-refused : goal.returns-in_err-opened-clause-refused
returns-in_err-opened-clause-refused g c =
    let p = err_from_is_err_and c.from_residual.result c.from_residual.ensures.1 in
    rw (p.1, p.2) (λ state stands. restart_refused g.S.Storage c.args.self.now c.args.site.now state stands c.in_err-opened.field-0.0 c.in_err-opened.ensures.refused)

pub returns-in_err-opened-clause-statuses : goal.returns-in_err-opened-clause-statuses
returns-in_err-opened-clause-statuses g c =
    let p = err_from_is_err_and c.from_residual.result c.from_residual.ensures.1 in
    rw (p.1, p.2) (inl c.in_err-opened.ensures.statuses)

pub returns-in_err-opened-clause-cause : goal.returns-in_err-opened-clause-cause
returns-in_err-opened-clause-cause g c =
    let p = err_from_is_err_and c.from_residual.result c.from_residual.ensures.1 in
    rw (p.1, p.2) (opening_quiet c.in_err-opened.field-0.0 (g.K.Sink.faults c.args.sink.now) c.in_err-opened.ensures.statuses)

-- ---- it is open

pub returns-clause-ok : goal.returns-clause-ok
returns-clause-ok g c =
    let o = c.in_ok-opened.opened in
    let e = c.in_ok-opened.ensures in
    let told = got (g.K.Sink.written c.args.sink.now) (g.K.Sink.written c.tell_opened.new.sink) in
    ok_then c.tell_opened.result
    (λ given. restart_ok g.S.Storage c.args.self.now c.reopen.new.self c.args.site.now c.reopen.new.site (Opened o.epoch o.k o.journal) told
    e.found e.claims e.tells c.reopen.ensures.any_moment given) c.tell_opened.ensures.ok

pub returns-clause-serving : goal.returns-clause-serving
returns-clause-serving g c =
    let e = c.in_ok-opened.ensures in
    ok_then c.tell_opened.result (λ given. opened_serves g.S.Storage c.args.self.now c.reopen.new.self c.reopen.new.site e.found.0 e.found.2 e.found.3) c.tell_opened.ensures.ok

pub returns-clause-failed : goal.returns-clause-failed
returns-clause-failed g c =
    let o = c.in_ok-opened.opened in
    let e = c.in_ok-opened.ensures in
    let told = got (g.K.Sink.written c.args.sink.now) (g.K.Sink.written c.tell_opened.new.sink) in
    tell_fails c.tell_opened.result c.tell_opened.ensures.statuses g.S.Storage c.args.self.now c.args.site.now c.reopen.new.site told Restart
    (λ is. restart_part g.S.Storage c.args.self.now c.reopen.new.self c.args.site.now c.reopen.new.site (Opened o.epoch o.k o.journal) told
    e.found e.claims e.tells c.reopen.ensures.any_moment (c.tell_opened.ensures.partly is))

pub returns-clause-refused : goal.returns-clause-refused
returns-clause-refused g c =
    let told = got (g.K.Sink.written c.args.sink.now) (g.K.Sink.written c.tell_opened.new.sink) in
    tell_refused c.tell_opened.result c.tell_opened.ensures.statuses g.S.Storage c.args.self.now c.args.site.now c.reopen.new.site told

pub returns-clause-statuses : goal.returns-clause-statuses
returns-clause-statuses g c = tell_statuses c.tell_opened.result c.tell_opened.ensures.statuses

pub returns-clause-disk_cause : goal.returns-clause-disk_cause
returns-clause-disk_cause g c =
    tell_counts c.tell_opened.result c.tell_opened.ensures.statuses JournalFault (λ e. absurd cc) c.in_ok-opened.opened (g.S.Storage.disk_faults c.args.site.now)
    (g.S.Storage.disk_faults c.reopen.new.site) (rw c.in_ok-opened.was at c.reopen.ensures.disk_cause)

pub returns-clause-cloud_cause : goal.returns-clause-cloud_cause
returns-clause-cloud_cause g c =
    tell_counts c.tell_opened.result c.tell_opened.ensures.statuses CloudFault (λ e. absurd cc) c.in_ok-opened.opened (g.S.Storage.cloud_faults c.args.site.now)
    (g.S.Storage.cloud_faults c.reopen.new.site) (rw c.in_ok-opened.was at c.reopen.ensures.cloud_cause)
