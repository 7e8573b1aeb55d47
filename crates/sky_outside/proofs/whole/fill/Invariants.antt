use Rattle.std.proofs.Common.{◌≡◌, length, take, ◌-◌, ◌≤◌}
use Rattle.sky_outside.specs.Told.{Had}
use Rattle.sky_outside.proofs.whole.fill.Given as goal

-- what was taken so far fills the prefix of the buffer, and no read failed
abbrev pub invariant-loop-at : goal.invariant-loop-at
invariant-loop-at g l =
    record {
      within : l.at ≤ length l.buf;
      taken : Had (g.S.Source.left l.fn.source) (g.S.Source.left l.source) (take l.at l.buf);
      quiet : g.S.Source.faults l.source ≡ g.S.Source.faults l.fn.source;
    }

abbrev pub decreases-loop-at : goal.decreases-loop-at
decreases-loop-at g l = length l.initial.buf - l.at
