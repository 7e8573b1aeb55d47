-- the sizes of the rows so far
use Rattle.std.proofs.Common.{◌≡◌, sum_by, take}
use Rattle.sky_base.specs.Listing.{size_of_name}
use Rattle.sky_dir.proofs.entries.size_of.Given as goal

abbrev pub invariant-loop-row : goal.invariant-loop-row
invariant-loop-row l = l.size ≡ sum_by (λ row. size_of_name row.1) (take l.row-index l.rows)
