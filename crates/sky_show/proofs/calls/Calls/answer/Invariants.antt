use Rattle.std.proofs.Common.{◌≡◌}
use Rattle.sky_show.specs.Waiting.{HasMore}
use Rattle.sky_show.proofs.calls.Calls.answer.Given as goal

-- no read failed so far, and no call went
abbrev pub invariant-loop : goal.invariant-loop
invariant-loop g l = (g.S.Source.faults l.recording ≡ g.S.Source.faults l.fn.recording) × HasMore l.fn.self.waiting l.self.waiting
