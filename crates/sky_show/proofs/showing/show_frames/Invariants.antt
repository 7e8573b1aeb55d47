use Rattle.std.proofs.Common.{◌≡◌, ◌≤◌, ◌+◌, ◌*◌}
use Rattle.sky_show.proofs.Shows.{SoFar}
use Rattle.sky_show.proofs.showing.show_frames.Given as goal

-- the frames so far were shown, and no device failed
abbrev pub invariant-loop : goal.invariant-loop
invariant-loop g l = record {
  shown : SoFar l.place l.counter (g.A.Source.left l.fn.answers) (g.A.Source.left l.answers) (g.K.Sink.written l.fn.sink) (g.K.Sink.written l.sink);
  bounded : l.place ≤ 8 + l.counter * 1048585;
  recording_still : g.R.Source.faults l.recording ≡ g.R.Source.faults l.fn.recording;
  answers_still : g.A.Source.faults l.answers ≡ g.A.Source.faults l.fn.answers;
  sink_still : g.K.Sink.faults l.sink ≡ g.K.Sink.faults l.fn.sink;
}
