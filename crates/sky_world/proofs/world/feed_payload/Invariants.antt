use Rattle.std.proofs.Common.{length, ◌-◌, ◌≡◌}
use Rattle.sky_world.specs.Carried.{IsServing}
use Rattle.sky_world.proofs.PayloadLaws.{SoFar, got}
use Rattle.sky_world.proofs.world.feed_payload.Given as goal

abbrev pub invariant-loop-taken : goal.invariant-loop-taken
invariant-loop-taken g l = record {
  so_far : SoFar g.D.Storage l.session l.initial.service l.initial.disk l.initial.assembler l.payload l.taken l.service l.disk l.assembler (got (g.K.Sink.written l.initial.sink) (g.K.Sink.written l.sink));
  serving : IsServing g.D.Storage l.service l.disk;
  size : g.D.Storage.bytes_of l.disk ≡ g.D.Storage.bytes_of l.initial.disk;
  quiet : g.K.Sink.faults l.sink ≡ g.K.Sink.faults l.initial.sink;
  still : g.D.Storage.disk_faults l.disk ≡ g.D.Storage.disk_faults l.initial.disk;
  cloud : g.D.Storage.cloud_faults l.disk ≡ g.D.Storage.cloud_faults l.initial.disk;
  objects : g.D.Storage.objects l.disk ≡ g.D.Storage.objects l.initial.disk;
}

abbrev pub decreases-loop-taken : goal.decreases-loop-taken
decreases-loop-taken g l = length l.payload - l.taken
