use Rattle.std.proofs.Common.{take, sym, subst}
use Rattle.sky_memory.specs.Past.{at_first, after_calls}
use Rattle.sky_memory.specs.Kept.{first_of}
use Rattle.sky_memory.specs.Replay.{IsAt}
use Rattle.sky_memory.proofs.StopLaws.{next_call}
use Rattle.sky_memory.proofs.mem_site.MemSite.replayed.Goals as goal

pub loop-i-preserved : goal.loop-i-preserved
loop-i-preserved c =
    let s = at_first (first_of c.self.inside) in
    subst (IsAt c.redo.new.self) (sym (next_call c.self.inside.noted.calls c.loop-i.i s _ c.get-step.ensures.call))
    (c.in_ok-redo.ensures (after_calls (take c.loop-i.i c.self.inside.noted.calls) s) c.loop-i.invariant)
