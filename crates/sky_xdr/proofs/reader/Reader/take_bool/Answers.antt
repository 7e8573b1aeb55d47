use Rattle.std.proofs.lemmas.Result.{err_from_is_err_and}
use Rattle.sky_xdr.proofs.Faults.{at_err, at_ok, bool_short, bool_bad}
use Rattle.sky_xdr.specs.Reading.{bool_at}
use Rattle.sky_xdr.specs.declared.fault.XdrFault.TheVariants.{Short, BadBool}
use Rattle.sky_xdr.proofs.reader.Reader.take_bool.Goals as goal

pub returns-in_err-value-clause-short : goal.returns-in_err-value-clause-short
returns-in_err-value-clause-short c =
    let p = err_from_is_err_and c.from_residual.result c.from_residual.ensures.1 in
    rw (p.1, p.2, ← c.self.view_is) (at_err (bool_at c.self.inside.rest.now) c.in_err-value.field-0.0 Short c.in_err-value.ensures.exact (bool_short c.self.inside.rest.now))

pub returns-clause-short : goal.returns-clause-short
returns-clause-short c =
    rw (← c.self.view_is) (at_ok _ (bool_at c.self.inside.rest.now) _ Short c.in_ok-value.ensures.exact (bool_short c.self.inside.rest.now))

pub returns-in_err-value-clause-bad : goal.returns-in_err-value-clause-bad
returns-in_err-value-clause-bad c =
    let p = err_from_is_err_and c.from_residual.result c.from_residual.ensures.1 in
    rw (p.1, p.2, ← c.self.view_is) (at_err (bool_at c.self.inside.rest.now) c.in_err-value.field-0.0 BadBool c.in_err-value.ensures.exact (bool_bad c.self.inside.rest.now))

pub returns-clause-bad : goal.returns-clause-bad
returns-clause-bad c =
    rw (← c.self.view_is) (at_ok _ (bool_at c.self.inside.rest.now) _ BadBool c.in_ok-value.ensures.exact (bool_bad c.self.inside.rest.now))
