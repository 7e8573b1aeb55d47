use Rattle.std.proofs.Common.{◌≡◌, length, replicate, take}
use Rattle.sky_script.specs.Frame.{session_count}
use Rattle.sky_world.specs.declared.sessions.Session.TheVariants.{Absent}
use Rattle.sky_world.proofs.sessions.Sessions.forget.Given as goal

abbrev pub invariant-loop-session : goal.invariant-loop-session
invariant-loop-session l = (length l.session-items ≡ session_count) × (take l.session-index l.session-items ≡ replicate l.session-index Absent)
