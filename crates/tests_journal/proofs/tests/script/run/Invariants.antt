use Rattle.std.proofs.Common.{◌≡◌, false}
use Rattle.sky_journal.specs.Journal.{StandsOn}
use Rattle.sky_memory.specs.contracts.mem_site.MemSiteStorage.TheImpl as storage
use Rattle.tests_journal.proofs.tests.script.run.Given as goal

-- the journal stands on the disk before each step
abbrev pub invariant-loop-name : goal.invariant-loop-name
invariant-loop-name l = (l.journal.down ≡ false) × StandsOn storage.ghosts l.journal l.site
