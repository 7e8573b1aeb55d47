use Rattle.std.proofs.Common.{refl}
use Rattle.std.proofs.lemmas.Result.{err_from_is_err_and}
use Rattle.sky_xdr.specs.Reading.{bind}
use Rattle.sky_xdr.specs.GrammarReading.{give}
use Rattle.sky_entry.specs.Reading.{caller_at}
use Rattle.sky_entry.proofs.reading.take_caller.Goals as goal

pub returns-in_err-uid : goal.returns-in_err-uid
unfolding caller_at bind
returns-in_err-uid c =
    let p = err_from_is_err_and c.from_residual.result c.from_residual.ensures.1 in
    rw (p.1, p.2, c.in_err-uid.ensures.exact.0) (record { exact = refl })

pub returns-in_err-gid : goal.returns-in_err-gid
unfolding caller_at bind
returns-in_err-gid c =
    let p = err_from_is_err_and c.from_residual-in_err-gid.result c.from_residual-in_err-gid.ensures.1 in
    rw (p.1, p.2, c.in_ok-uid.ensures.exact, c.in_err-gid.ensures.exact.0) (record { exact = refl })

pub returns-in_err-gids : goal.returns-in_err-gids
unfolding caller_at bind
returns-in_err-gids c =
    let p = err_from_is_err_and c.from_residual-in_err-gids.result c.from_residual-in_err-gids.ensures.1 in
    rw (p.1, p.2, c.in_ok-uid.ensures.exact, c.in_ok-gid.ensures.exact, c.in_err-gids.ensures.exact) (record { exact = refl })

pub returns : goal.returns
unfolding caller_at bind give
returns c = rw (c.in_ok-uid.ensures.exact, c.in_ok-gid.ensures.exact, c.in_ok-gids.ensures.exact) (record { exact = refl })
