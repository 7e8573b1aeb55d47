use Rattle.std.proofs.Common.{arith, vec_len, length-take}
use Rattle.sky_record.proofs.assembler.take_fragment.Goals as goal

pub returns-clause-fits : goal.returns-clause-fits
returns-clause-fits c =
    let len = rw c.unwrap.ensures at c.extend_from_slice.ensures.len in
    c.with_due.ensures.fits (vec_len c.extend_from_slice.new.self) (omega (arith, len, length-take c.min-taken.result c.args.piece.now))
