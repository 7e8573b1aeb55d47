use Rattle.std.proofs.Common.{ltb, rules}
use Rattle.std.proofs.lemmas.List.Sorted.{IsPartitionPoint-from_clause, IsPartitionedBy-ltb}
use Rattle.sky_imap.proofs.AscendLaws.{place_is, rises}
use Rattle.sky_imap.proofs.links.place_of.Goals as goal

pub returns : goal.returns
returns c = λ least bound ascends.
    let parted = IsPartitionedBy-ltb (λ n. n.number) c.args.links.now c.args.number (rises least bound c.args.links.now ascends) in
    let point = IsPartitionPoint-from_clause (λ n. ltb n.number c.args.number) c.args.links.now c.partition_point.result c.partition_point.ensures.partitioned parted (λ a r q k. search rules) in
    place_is least bound c.args.number c.args.links.now c.partition_point.result ascends c.partition_point.ensures.bound point
