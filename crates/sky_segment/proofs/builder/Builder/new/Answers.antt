use Rattle.sky_base.specs.declared.object.SegName.{SegName}
use Rattle.sky_segment.proofs.DraftLaws.{kept_at_first}
use Rattle.sky_segment.proofs.builder.Builder.new.Goals as goal

pub invariant_of-result : goal.invariant_of-result
invariant_of-result c =
    let name : SegName = record { dir = c.args.dir; run = c.args.run; seq = c.args.seq; last = c.args.last } in
    (kept_at_first name c.in_ok-bytes.bytes.items c.requires.run c.requires.seq c.in_ok-bytes.ensures).1

pub returns : goal.returns
returns c =
    let name : SegName = record { dir = c.args.dir; run = c.args.run; seq = c.args.seq; last = c.args.last } in
    (kept_at_first name c.in_ok-bytes.bytes.items c.requires.run c.requires.seq c.in_ok-bytes.ensures).0
