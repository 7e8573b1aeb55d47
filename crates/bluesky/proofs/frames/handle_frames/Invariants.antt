use Rattle.std.proofs.Common.{◌≡◌, ◌≤◌, ◌+◌, ◌*◌, Bool, false}
use Rattle.sky_recover.specs.Opening.{Found}
use Rattle.sky_world.specs.Carried.{IsServing}
use Rattle.sky_world.specs.Meaning.{start}
use Rattle.sky_world.specs.World.{Stands}
use Rattle.bluesky.proofs.Going.{Going}
use Rattle.bluesky.proofs.frames.handle_frames.Given as goal

-- the frames so far were handled, the sink has their answers, and no device failed
abbrev pub invariant-loop : goal.invariant-loop
invariant-loop g l = record {
  going : (told : Bool) (found : Found) → Stands g.P.Storage l.fn.world l.fn.site (start told found)
      → Going g.P.Storage l.fn.world.settings told found l.world l.fn.site l.site (g.S.Source.left l.fn.source) (g.S.Source.left l.source) (g.K.Sink.written l.fn.sink) (g.K.Sink.written l.sink) l.place l.counter;
  bounded : l.place ≤ 8 + l.counter * 1048585;
  ready : l.world.ended ≡ false;
  serving : IsServing g.P.Storage l.world.service l.site;
  size : g.P.Storage.bytes_of l.site ≡ g.P.Storage.bytes_of l.fn.site;
  source_still : g.S.Source.faults l.source ≡ g.S.Source.faults l.fn.source;
  disk_still : g.P.Storage.disk_faults l.site ≡ g.P.Storage.disk_faults l.fn.site;
  cloud_still : g.P.Storage.cloud_faults l.site ≡ g.P.Storage.cloud_faults l.fn.site;
  sink_still : g.K.Sink.faults l.sink ≡ g.K.Sink.faults l.fn.sink;
}
