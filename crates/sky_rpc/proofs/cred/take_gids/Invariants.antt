use Rattle.std.proofs.Common.{◌≡◌, length, Ok}
use Rattle.sky_rpc.specs.Reading.{uints_at}
use Rattle.sky_rpc.proofs.cred.take_gids.Given as goal

-- so many groups were taken
abbrev pub invariant-loop : goal.invariant-loop
invariant-loop l = record { count : length l.gids ≡ l.counter; taken : uints_at l.counter l.initial.reader ≡ Ok (l.gids, l.reader) }
