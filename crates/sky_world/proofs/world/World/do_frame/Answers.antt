use Rattle.std.proofs.Common.{inl, refl}
use Rattle.sky_script.specs.Frame.{Bytes, Stat}
use Rattle.sky_world.proofs.OutcomeLaws.{feed_cloud, feed_fails, feed_refused, feed_statuses, feed_unchanged, tell_fails, tell_refused, tell_statuses}
use Rattle.sky_world.proofs.PayloadLaws.{got}
use Rattle.sky_world.proofs.ServeLaws.{ok_then}
use Rattle.sky_world.proofs.StandLaws.{stepped_begin, stepped_close, stepped_moment, stepped_stat, stepped_stat_part}
use Rattle.sky_world.proofs.world.World.do_frame.Goals as goal

pub returns-in-Ok-clause-ok : goal.returns-in-Ok-clause-ok
returns-in-Ok-clause-ok g c =
    let lt = rw c.in-Begin.is at c.requires.formed in
    rw (c.in-Begin.is, c.in-Ok.ensures.ok) (stepped_begin g.S.Storage c.args.self.now c.args.site.now (g.K.Sink.written c.args.sink.now) c.in-Begin.session lt)

pub returns-in-Err-clause-failed : goal.returns-in-Err-clause-failed
returns-in-Err-clause-failed g c = rw c.in-Begin.is (inl ((c.in-Begin.session, refl, c.in-Err.ensures.absent), (refl, refl)))

pub returns-in-Close-clause-ok : goal.returns-in-Close-clause-ok
returns-in-Close-clause-ok g c =
    let lt = rw c.in-Close.is at c.requires.formed in
    rw (c.in-Close.is, c.close.ensures) (stepped_close g.S.Storage c.args.self.now c.args.site.now (g.K.Sink.written c.args.sink.now) c.in-Close.session lt)

pub returns-in-SetMoment-clause-ok : goal.returns-in-SetMoment-clause-ok
returns-in-SetMoment-clause-ok g c =
    rw (c.in-SetMoment.is, c.set_moment.ensures) (stepped_moment g.S.Storage c.args.self.now c.args.site.now (g.K.Sink.written c.args.sink.now) c.in-SetMoment.at)

pub returns-in-Bytes-clause-ok : goal.returns-in-Bytes-clause-ok
returns-in-Bytes-clause-ok g c = rw c.in-Bytes.is c.feed.ensures.ok

pub returns-in-Bytes-clause-failed : goal.returns-in-Bytes-clause-failed
returns-in-Bytes-clause-failed g c =
    let sink = got (g.K.Sink.written c.args.sink.now) (g.K.Sink.written c.feed.new.sink) in
    rw c.in-Bytes.is
    (feed_fails c.feed.result c.feed.ensures.statuses g.S.Storage c.args.self.now c.args.site.now c.feed.new.disk sink (Bytes c.in-Bytes.session c.in-Bytes.payload.now) c.feed.ensures.partly c.feed.ensures.fails)

pub returns-in-Bytes-clause-unchanged : goal.returns-in-Bytes-clause-unchanged
returns-in-Bytes-clause-unchanged g c = λ e stays. absurd (feed_unchanged c.feed.result c.feed.ensures.statuses e)

pub returns-in-Bytes-clause-refused : goal.returns-in-Bytes-clause-refused
returns-in-Bytes-clause-refused g c =
    let sink = got (g.K.Sink.written c.args.sink.now) (g.K.Sink.written c.feed.new.sink) in
    feed_refused c.feed.result c.feed.ensures.statuses g.S.Storage c.args.self.now c.args.site.now c.feed.new.disk sink

pub returns-in-Bytes-clause-statuses : goal.returns-in-Bytes-clause-statuses
returns-in-Bytes-clause-statuses g c = feed_statuses c.feed.result c.feed.ensures.statuses

pub returns-in-Bytes-clause-cloud_cause : goal.returns-in-Bytes-clause-cloud_cause
returns-in-Bytes-clause-cloud_cause g c = feed_cloud c.feed.result c.feed.ensures.statuses _ _ c.feed.ensures.cloud

pub returns-in-Stat-clause-ok : goal.returns-in-Stat-clause-ok
returns-in-Stat-clause-ok g c =
    rw c.in-Stat.is
    (ok_then c.tell.result (λ given. stepped_stat g.S.Storage c.args.self.now c.args.site.now (got (g.K.Sink.written c.args.sink.now) (g.K.Sink.written c.tell.new.sink)) c.requires.serving.up.area given) c.tell.ensures.ok)

pub returns-in-Stat-clause-failed : goal.returns-in-Stat-clause-failed
returns-in-Stat-clause-failed g c =
    let sink = got (g.K.Sink.written c.args.sink.now) (g.K.Sink.written c.tell.new.sink) in
    rw c.in-Stat.is
    (tell_fails c.tell.result c.tell.ensures.statuses g.S.Storage c.args.self.now c.args.site.now c.args.site.now sink Stat
    (λ e. stepped_stat_part g.S.Storage c.args.self.now c.args.site.now sink c.requires.serving.up.area (c.tell.ensures.partly e)))

pub returns-in-Stat-clause-refused : goal.returns-in-Stat-clause-refused
returns-in-Stat-clause-refused g c =
    let sink = got (g.K.Sink.written c.args.sink.now) (g.K.Sink.written c.tell.new.sink) in
    tell_refused c.tell.result c.tell.ensures.statuses g.S.Storage c.args.self.now c.args.site.now c.args.site.now sink

pub returns-in-Stat-clause-statuses : goal.returns-in-Stat-clause-statuses
returns-in-Stat-clause-statuses g c = tell_statuses c.tell.result c.tell.ensures.statuses

pub returns-in-Restart-clause-ok : goal.returns-in-Restart-clause-ok
returns-in-Restart-clause-ok g c = rw c.in-Restart.is c.restart.ensures.ok

pub returns-in-Restart-clause-failed : goal.returns-in-Restart-clause-failed
returns-in-Restart-clause-failed g c = rw c.in-Restart.is c.restart.ensures.failed

pub returns-in-Restart-clause-unchanged : goal.returns-in-Restart-clause-unchanged
returns-in-Restart-clause-unchanged g c = λ e stays. absurd ((rw c.in-Restart.is at stays) tt)

pub returns-in-RestartWithoutJournal-clause-ok : goal.returns-in-RestartWithoutJournal-clause-ok
returns-in-RestartWithoutJournal-clause-ok g c = rw c.in-RestartWithoutJournal.is c.restart_without_journal.ensures.ok

pub returns-in-RestartWithoutJournal-clause-failed : goal.returns-in-RestartWithoutJournal-clause-failed
returns-in-RestartWithoutJournal-clause-failed g c = rw c.in-RestartWithoutJournal.is c.restart_without_journal.ensures.failed

pub returns-in-RestartWithoutJournal-clause-unchanged : goal.returns-in-RestartWithoutJournal-clause-unchanged
returns-in-RestartWithoutJournal-clause-unchanged g c = λ e stays. absurd ((rw c.in-RestartWithoutJournal.is at stays) tt)
