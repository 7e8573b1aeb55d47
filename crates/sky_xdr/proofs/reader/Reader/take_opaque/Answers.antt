use Rattle.std.proofs.lemmas.Result.{err_from_is_err_and}
use Rattle.sky_xdr.proofs.Faults.{at_err, at_ok, opaque_too_long, opaque_short}
use Rattle.sky_xdr.specs.Reading.{opaque_at}
use Rattle.sky_xdr.specs.declared.fault.XdrFault.TheVariants.{TooLong, Short}
use Rattle.sky_xdr.proofs.reader.Reader.take_opaque.Goals as goal

pub returns-in_err-value-clause-too_long : goal.returns-in_err-value-clause-too_long
returns-in_err-value-clause-too_long c =
    let p = err_from_is_err_and c.from_residual.result c.from_residual.ensures.1 in
    rw (p.1, p.2, ← c.self.view_is) (at_err (opaque_at c.args.max c.self.inside.rest.now) c.in_err-value.field-0.0 TooLong c.in_err-value.ensures.exact (opaque_too_long c.args.max c.self.inside.rest.now))

pub returns-clause-too_long : goal.returns-clause-too_long
returns-clause-too_long c =
    rw (← c.self.view_is) (at_ok _ (opaque_at c.args.max c.self.inside.rest.now) _ TooLong c.in_ok-value.ensures.exact (opaque_too_long c.args.max c.self.inside.rest.now))

pub returns-in_err-value-clause-short : goal.returns-in_err-value-clause-short
returns-in_err-value-clause-short c =
    let p = err_from_is_err_and c.from_residual.result c.from_residual.ensures.1 in
    rw (p.1, p.2, ← c.self.view_is) (at_err (opaque_at c.args.max c.self.inside.rest.now) c.in_err-value.field-0.0 Short c.in_err-value.ensures.exact (opaque_short c.args.max c.self.inside.rest.now))

pub returns-clause-short : goal.returns-clause-short
returns-clause-short c =
    rw (← c.self.view_is) (at_ok _ (opaque_at c.args.max c.self.inside.rest.now) _ Short c.in_ok-value.ensures.exact (opaque_short c.args.max c.self.inside.rest.now))
