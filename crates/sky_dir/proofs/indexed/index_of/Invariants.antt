-- the index so far is that of the rows so far, and the last cookie is below the least one that may come
use Rattle.std.proofs.Common.{◌≤◌, map, take, drop}
use Rattle.std.specs.List.{AllByRecursion}
use Rattle.sky_dir.specs.Kept.{IsIndexed}
use Rattle.sky_dir.specs.Orderly.{AscendsBelow}
use Rattle.sky_dir.specs.Rows.{entry_of}
use Rattle.sky_dir.proofs.indexed.index_of.Given as goal

abbrev pub invariant-loop-row : goal.invariant-loop-row
invariant-loop-row l = record {
  so_far : IsIndexed (map entry_of (take l.row-index l.rows)) l.index l.least;
  within : l.least ≤ l.next;
  coming : AscendsBelow l.next (map entry_of l.rows) → AllByRecursion (λ e. l.least ≤ e.cookie) (map entry_of (drop l.row-index l.rows));
}
