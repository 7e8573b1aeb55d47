-- the rows that are left and the entries of the map are all the rows
use Rattle.std.proofs.Common.{◌≡◌, ◌++◌, map, vec_len}
use Rattle.sky_dir.specs.Items.{item_entry}
use Rattle.sky_dir.specs.Rows.{entry_of}
use Rattle.sky_dir.proofs.indexed.items_of.Given as goal

abbrev pub invariant-loop-cookie : goal.invariant-loop-cookie
invariant-loop-cookie l = map entry_of l.rows.items ++ map item_entry l.items.entries ≡ map entry_of l.initial.rows.items

abbrev pub decreases-loop-cookie : goal.decreases-loop-cookie
decreases-loop-cookie l = vec_len l.rows
