use Rattle.std.proofs.Common.{take}
use Rattle.sky_memory.specs.Past.{at_first, after_calls}
use Rattle.sky_memory.specs.Kept.{first_of}
use Rattle.sky_memory.specs.Replay.{IsAt}
use Rattle.sky_memory.proofs.mem_site.MemSite.replayed.Given as goal

abbrev pub invariant-loop-i : goal.invariant-loop-i
invariant-loop-i l = IsAt l.past (after_calls (take l.i l.self-inside.noted.calls) (at_first (first_of l.self-inside)))
