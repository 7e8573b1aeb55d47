use Rattle.std.specs.Prelude.{All}
use Rattle.sky_memory.specs.Objects.{IsInRange}
use Rattle.rows_world.proofs.setup.objects_of.Given as goal

-- the names so far are in their range
abbrev pub invariant-loop-word : goal.invariant-loop-word
invariant-loop-word l = All (λ o. IsInRange o.0) l.held.items
