use Rattle.std.proofs.lemmas.Result.{err_from_is_err_and}
use Rattle.sky_xdr.proofs.Faults.{at_err, at_ok, uint_short}
use Rattle.sky_xdr.specs.Reading.{uint_at}
use Rattle.sky_xdr.specs.declared.fault.XdrFault.TheVariants.{Short}
use Rattle.sky_xdr.proofs.reader.Reader.take_u32.Goals as goal

pub returns-in_err-number-clause-short : goal.returns-in_err-number-clause-short
returns-in_err-number-clause-short c =
    let p = err_from_is_err_and c.from_residual.result c.from_residual.ensures.1 in
    rw (p.1, p.2, ← c.self.view_is) (at_err (uint_at c.self.inside.rest.now) c.in_err-number.field-0.0 Short c.in_err-number.ensures.exact (uint_short c.self.inside.rest.now))

pub returns-clause-short : goal.returns-clause-short
returns-clause-short c =
    rw (← c.self.view_is) (at_ok _ (uint_at c.self.inside.rest.now) _ Short c.in_ok-number.ensures.exact (uint_short c.self.inside.rest.now))
