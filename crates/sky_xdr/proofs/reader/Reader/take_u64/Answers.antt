use Rattle.std.proofs.lemmas.Result.{err_from_is_err_and}
use Rattle.sky_xdr.proofs.Faults.{at_err, at_ok, uhyper_short}
use Rattle.sky_xdr.specs.Reading.{uhyper_at}
use Rattle.sky_xdr.specs.declared.fault.XdrFault.TheVariants.{Short}
use Rattle.sky_xdr.proofs.reader.Reader.take_u64.Goals as goal

pub returns-in_err-number-clause-short : goal.returns-in_err-number-clause-short
returns-in_err-number-clause-short c =
    let p = err_from_is_err_and c.from_residual.result c.from_residual.ensures.1 in
    rw (p.1, p.2, ← c.self.view_is) (at_err (uhyper_at c.self.inside.rest.now) c.in_err-number.field-0.0 Short c.in_err-number.ensures.exact (uhyper_short c.self.inside.rest.now))

pub returns-clause-short : goal.returns-clause-short
returns-clause-short c =
    rw (← c.self.view_is) (at_ok _ (uhyper_at c.self.inside.rest.now) _ Short c.in_ok-number.ensures.exact (uhyper_short c.self.inside.rest.now))
