use Rattle.std.proofs.Common.{subst, arith, List, ℕ}
use Rattle.std.specs.List.{flat_map}
use Rattle.std.specs.Borrow.{Bor}
use Rattle.std.proofs.lemmas.List.{take_all}
use Rattle.sky_record.specs.Stream.{ReadsRecords}
use Rattle.sky_record.specs.Feeding.{contents}
use Rattle.sky_record.proofs.Reading.{one_reading}
use Rattle.sky_record.proofs.stream.assemble.Goals as goal

pub returns-clause-only : goal.returns-clause-only
returns-clause-only c = λ others end h.
    let pieces = c.args.pieces.now in
    let read = subst (λ (t : List (Bor (List ℕ))). ReadsRecords (flat_map (λ (p : Bor (List ℕ)). p.now) t) (contents c.loop-piece.records.items) c.loop-piece.assembler) (take_all c.loop-piece.piece-index pieces (omega arith)) c.loop-piece.invariant in
    one_reading (flat_map (λ (p : Bor (List ℕ)). p.now) pieces) (contents c.loop-piece.records.items) others c.loop-piece.assembler end read h
