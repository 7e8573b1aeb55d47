use Rattle.std.proofs.Common.{◌≡◌, vec_len}
use Rattle.sky_show.proofs.streams.Streams.new.Given as goal

abbrev pub invariant-loop : goal.invariant-loop
invariant-loop l = vec_len l.streams ≡ l.counter
