use Rattle.std.proofs.Common.{refl}
use Rattle.std.proofs.lemmas.Result.{err_from_is_err_and}
use Rattle.sky_xdr.specs.Reading.{bind}
use Rattle.sky_xdr.specs.GrammarReading.{give}
use Rattle.sky_entry.specs.Reading.{head_at}
use Rattle.sky_entry.proofs.reading.take_head.Goals as goal

pub returns-in_err-moment : goal.returns-in_err-moment
unfolding head_at bind
returns-in_err-moment c =
    let p = err_from_is_err_and c.from_residual.result c.from_residual.ensures.1 in
    rw (p.1, p.2, c.in_err-moment.ensures.exact) (record { exact = refl })

pub returns-in_err-cred : goal.returns-in_err-cred
unfolding head_at bind
returns-in_err-cred c =
    let p = err_from_is_err_and c.from_residual-in_err-cred.result c.from_residual-in_err-cred.ensures.1 in
    rw (p.1, p.2, c.in_ok-moment.ensures.exact, c.in_err-cred.ensures.exact) (record { exact = refl })

pub returns-in_err-procedure : goal.returns-in_err-procedure
unfolding head_at bind
returns-in_err-procedure c =
    let p = err_from_is_err_and c.from_residual-in_err-procedure.result c.from_residual-in_err-procedure.ensures.1 in
    rw (p.1, p.2, c.in_ok-moment.ensures.exact, c.in_ok-cred.ensures.exact, c.in_err-procedure.ensures.exact.0) (record { exact = refl })

pub returns : goal.returns
unfolding head_at bind give
returns c = rw (c.in_ok-moment.ensures.exact, c.in_ok-cred.ensures.exact, c.in_ok-procedure.ensures.exact) (record { exact = refl })
