use Rattle.std.proofs.Common.{◌≡◌}
use Rattle.tests_journal.proofs.tests.script.digits_of.Given as goal

-- the disk keeps its size
abbrev pub invariant-loop : goal.invariant-loop
invariant-loop g l = g.D.Storage.bytes_of l.disk ≡ l.journal.disk
