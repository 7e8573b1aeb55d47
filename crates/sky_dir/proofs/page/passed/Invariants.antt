-- what is passed has no greater cookie
use Rattle.std.proofs.Common.{◌≡◌, map, filter, nat_lt, length}
use Rattle.sky_dir.specs.Rows.{entry_of}
use Rattle.sky_dir.proofs.page.passed.Given as goal

abbrev pub invariant-loop-row : goal.invariant-loop-row
invariant-loop-row l = filter (λ e. nat_lt l.after e.cookie) (map entry_of l.rows.now) ≡ filter (λ e. nat_lt l.after e.cookie) (map entry_of l.initial.rows.now)

abbrev pub decreases-loop-row : goal.decreases-loop-row
decreases-loop-row l = length l.rows.now
