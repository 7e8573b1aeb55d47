use Rattle.std.proofs.Common.{◌<◌}
use Rattle.std.specs.Prelude.{All}
use Rattle.sky_base.specs.Limits.{max_number}
use Rattle.rows_log.proofs.checks.listing.Given as goal

abbrev pub invariant-loop-word : goal.invariant-loop-word
invariant-loop-word l = All (λ h. h.name.run < max_number) l.listed.items
