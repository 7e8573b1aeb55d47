use Rattle.sky_recover.proofs.Replays.{IsUnderWay}
use Rattle.sky_recover.proofs.replaying.replay.Given as goal

abbrev pub invariant-entries : goal.invariant-entries
invariant-entries g l = IsUnderWay g.D.Storage l.journal l.fn.disk l.disk l.fn.tree l.tree l.place l._done
