use Rattle.std.proofs.Common.{take}
use Rattle.std.specs.List.{flat_map}
use Rattle.sky_record.specs.Stream.{ReadsRecords}
use Rattle.sky_record.specs.Feeding.{contents}
use Rattle.sky_record.proofs.stream.assemble.Given as goal

abbrev pub invariant-loop-piece : goal.invariant-loop-piece
invariant-loop-piece l = ReadsRecords (flat_map (λ p. p.now) (take l.piece-index l.pieces)) (contents l.records.items) l.assembler
