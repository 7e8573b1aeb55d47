-- The order in which the nodes of a tree stand.
use Rattle.std.specs.List.Sorted.{IsStrictlySortedBy}
use Rattle.std.specs.Map.{keys_of}
use Rattle.std.specs.Ordering.{nat_cmp}
use Rattle.sky_nfs.specs.Tree.{Tree}

-- each fileid is below the next one
abbrev pub Ascends : Tree → Type 0
Ascends t = IsStrictlySortedBy nat_cmp (keys_of t.nodes)
