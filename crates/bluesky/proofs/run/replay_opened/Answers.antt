use Rattle.std.proofs.Common.{◌∙◌, [], refl}
use Rattle.sky_world.specs.World.{tells}
use Rattle.bluesky.specs.Run.{SinkUse, session_bytes}
use Rattle.bluesky.specs.Stop.{magic_status_of}
use Rattle.bluesky.proofs.Beginning.{gave_as, ran_otherwise}
use Rattle.bluesky.proofs.Stopping.{ending_then}
use Rattle.bluesky.proofs.run.replay_opened.Goals as goal

pub returns-in-Ok-clause-ran : goal.returns-in-Ok-clause-ran
returns-in-Ok-clause-ran g c =
    λ first before found opened stands given.
    c.handle_frames.ensures.ran (tells g.P.Storage first) found stands first (g.S.Source.left c.args.source.now) before opened c.in-Ok.ensures.ok given

pub returns-clause-ran : goal.returns-clause-ran
returns-clause-ran g c =
    λ first before found opened stands given.
    let written = g.K.Sink.written in
    let faults = g.K.Sink.faults in
    let sink = c.args.sink.now in
    let ended = c.end_with in
    let behind : SinkUse = record { before = written sink; after = written ended.new.sink; faults_before = faults sink; faults_after = faults ended.new.sink } in
    let why = c.in-Err.fault in
    ran_otherwise g.P.Storage c.args.world.settings first c.args.site.now found c.args.world opened stands why ended.result (g.S.Source.left c.args.source.now) (g.S.Source.left c.read_magic.new.source) before (written ended.new.sink)
    (faults sink) (faults ended.new.sink) (ended.ensures.status ∙ c.magic_status.ensures) c.in-Err.ensures.none
    (ending_then before (written sink) (written ended.new.sink) (faults sink) (faults sink) (faults ended.new.sink) (session_bytes found []) (magic_status_of why) refl given
    (gave_as behind [] c.magic_status.result (magic_status_of why) c.magic_status.ensures ended.ensures.gave))
