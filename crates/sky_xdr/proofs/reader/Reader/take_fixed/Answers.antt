use Rattle.std.proofs.lemmas.Result.{err_from_is_err_and}
use Rattle.sky_xdr.proofs.Faults.{at_err, fixed_short}
use Rattle.sky_xdr.specs.Reading.{fixed_at}
use Rattle.sky_xdr.specs.declared.fault.XdrFault.TheVariants.{Short}
use Rattle.sky_xdr.proofs.reader.Reader.take_fixed.Goals as goal

pub returns-in_err-value-clause-short : goal.returns-in_err-value-clause-short
returns-in_err-value-clause-short c =
    let p = err_from_is_err_and c.from_residual.result c.from_residual.ensures.1 in
    rw (p.1, p.2, ← c.self.view_is) (at_err (fixed_at c.args.len c.self.inside.rest.now) c.in_err-value.field-0.0 Short c.in_err-value.ensures.exact (fixed_short c.args.len c.self.inside.rest.now))
