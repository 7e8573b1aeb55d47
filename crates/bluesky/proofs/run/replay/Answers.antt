use Rattle.std.proofs.Common.{◌≡◌, ◌∙◌, ap, subst, sym, IsErrOf}
use Rattle.sky_base.specs.declared.status.Status.{Status}
use Rattle.sky_base.specs.declared.status.Status.TheVariants as status
use Rattle.sky_recover.specs.Opening.{WhereBothTold}
use Rattle.sky_world.specs.Opening.{IsRefusedAs}
use Rattle.sky_world.specs.World.{tells}
use Rattle.sky_settings.specs.declared.settings.Fields.{Fields}
use Rattle.bluesky.specs.Run.{RanOn}
use Rattle.bluesky.specs.Stop.{Opened}
use Rattle.bluesky.proofs.Beginning.{opening_whole, ran_counted, ran_failed}
use Rattle.bluesky.proofs.Endings.{counts_on, ok_not_err, ok_quiet}
use Rattle.bluesky.proofs.Sites.{refused_unsound, untold_unsound}
use Rattle.bluesky.proofs.run.replay.Goals as goal

pub returns-in-Err-open-clause-ran : goal.returns-in-Err-open-clause-ran
returns-in-Err-open-clause-ran g c =
    let written = g.K.Sink.written in
    let faults = g.K.Sink.faults in
    let begun = c.write_magic.new.sink in
    let ended = c.end_failed in
    let still = ok_quiet c.write_magic.result c.in_default.field-0 (faults c.args.sink.now) (faults begun) c.in_default.is c.write_magic.ensures.cause in
    ran_failed g.P.Storage c.args.settings c.args.site.now c.open.new.site (g.S.Source.left c.args.source.now) (written c.args.sink.now) (written begun) (written c.open.new.sink) (written ended.new.sink)
    (faults c.args.sink.now) (faults c.open.new.sink) (faults ended.new.sink) c.open.result c.in-Err-open.status ended.result c.in-Err-open.is ended.ensures.status
    c.open.ensures.any_moment c.in_default.ensures.ok c.in-Err-open.ensures.statuses (λ of. ap written (c.in-Err-open.ensures.unwritten of)) c.open.ensures.partly c.in-Err-open.ensures.refused
    c.in-Err-open.ensures.untouched c.in-Err-open.ensures.claims_failed
    (counts_on (faults c.args.sink.now) (faults begun) (faults c.open.new.sink) (IsErrOf c.open.result status.SinkFault) still c.open.ensures.cause) (λ sunk. ap written (ended.ensures.sunk sunk)) ended.ensures.gave

pub returns-in-Err-open-clause-sound : goal.returns-in-Err-open-clause-sound
returns-in-Err-open-clause-sound g c =
    refused_unsound g.P.Storage c.args.settings.volume c.args.settings.journal_area c.args.site.now c.end_failed.result
    (subst (λ (v : Status). WhereBothTold g.P.Storage c.args.site.now (IsRefusedAs c.args.settings.volume c.args.settings.journal_area v)) (sym c.end_failed.ensures.status) c.in-Err-open.ensures.refused)

pub returns-in-Ok-clause-ran : goal.returns-in-Ok-clause-ran
returns-in-Ok-clause-ran g c =
    let written = g.K.Sink.written in
    let faults = g.K.Sink.faults in
    let begun = c.write_magic.new.sink in
    let opened_sink = c.open.new.sink in
    let ran = c.replay_opened in
    let still = ok_quiet c.write_magic.result c.in_default.field-0 (faults c.args.sink.now) (faults begun) c.in_default.is c.write_magic.ensures.cause in
    let quiet = c.open.ensures.cause.quiet (ok_not_err c.open.result _ status.SinkFault c.in-Ok.is) in
    let world = c.in-Ok.ensures.world in
    let settings : Fields = c.args.settings in
    let same : c.in-Ok.world.settings ≡ settings = c.in-Ok.ensures.settings in
    let opened = subst (λ (f : Fields). Opened g.P.Storage f c.args.site.now c.open.new.site world.0) (sym same) world.1 in
    ran_counted g.P.Storage settings c.args.site.now ran.new.site ran.result _ (written c.args.sink.now) (written ran.new.sink) (faults c.args.sink.now) (faults opened_sink) (faults ran.new.sink) (quiet ∙ still)
    (subst (λ (f : Fields). RanOn g.P.Storage f c.args.site.now ran.new.site ran.result (record { had = g.S.Source.left c.args.source.now; left = g.S.Source.left ran.new.source })
    (record { before = written c.args.sink.now; after = written ran.new.sink; faults_before = faults opened_sink; faults_after = faults ran.new.sink })) same
    (ran.ensures.ran c.args.site.now (written c.args.sink.now) world.0 opened world.2
    (opening_whole world.0 (written c.args.sink.now) (written begun) (written opened_sink) c.in_default.ensures.ok world.3)))

pub returns-in-Ok-clause-sound : goal.returns-in-Ok-clause-sound
returns-in-Ok-clause-sound g c = λ damage.
    let world = c.in-Ok.ensures.world in
    untold_unsound g.P.Storage c.args.settings.volume c.args.settings.journal_area c.args.site.now
    (λ told. c.replay_opened.ensures.refused (tells g.P.Storage c.args.site.now) world.0 world.2 told damage)
