-- the bound may be wider
use Rattle.std.proofs.Common.{◌^◌, map, arith}
use Rattle.sky_dir.specs.Rows.{entry_of}
use Rattle.sky_dir.proofs.OrderlyLemmas.{ascends_wider}
use Rattle.sky_dir.proofs.indexed.Indexed.of.Goals as goal

pub items_of-requires : goal.items_of-requires
items_of-requires c = ascends_wider c.args.next (2 ^ 64) (map entry_of c.args.rows.items) (omega arith) c.requires.indexed.ascends
