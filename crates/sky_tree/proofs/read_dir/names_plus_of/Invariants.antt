-- what is told are the entries so far
use Rattle.std.proofs.Common.{◌≡◌, map, take}
use Rattle.sky_dir.specs.Items.{listed_of}
use Rattle.sky_nfs.specs.Procedures.ReadDir.{listed_plus}
use Rattle.sky_tree.proofs.read_dir.names_plus_of.Given as goal

abbrev pub invariant-loop-entry : goal.invariant-loop-entry
invariant-loop-entry l = l.entries.items ≡ map (listed_plus l.nodes) (map listed_of (take l.entry-index l.page))
