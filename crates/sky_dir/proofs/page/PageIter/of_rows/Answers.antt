-- no more entries than rows
use Rattle.std.proofs.Common.{map, nat_lt, arith}
use Rattle.std.proofs.lemmas.List.{length-map}
use Rattle.std.proofs.lemmas.List.Sums.{length-filter, count_by-le-length}
use Rattle.sky_base.specs.Listing.{Entry}
use Rattle.sky_dir.specs.Rows.{entry_of}
use Rattle.sky_dir.proofs.page.PageIter.of_rows.Goals as goal

pub returns-clause-fits : goal.returns-clause-fits
returns-clause-fits c =
    let es = map entry_of c.args.rows.now in
    omega (arith, length-filter (λ (e : Entry). nat_lt c.args.after e.cookie) es, count_by-le-length (λ (e : Entry). nat_lt c.args.after e.cookie) es, length-map c.args.rows.now entry_of, c.requires)
