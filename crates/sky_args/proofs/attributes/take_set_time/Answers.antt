use Rattle.std.proofs.Common.{refl}
use Rattle.std.proofs.lemmas.Result.{err_from_is_err_and}
use Rattle.sky_xdr.specs.Reading.{bind}
use Rattle.sky_xdr.specs.GrammarReading.{give}
use Rattle.sky_args.specs.Reading.{set_time_at, set_time_from, client_time_at}
use Rattle.sky_args.proofs.attributes.take_set_time.Goals as goal

pub returns-in_err-take_u32 : goal.returns-in_err-take_u32
unfolding set_time_at set_time_from client_time_at bind give
returns-in_err-take_u32 c =
    let p = err_from_is_err_and c.from_residual.result c.from_residual.ensures.1 in
    rw (p.1, p.2, c.in_err-take_u32.ensures.exact.0) (record { exact = refl })

pub returns-in-0 : goal.returns-in-0
unfolding set_time_at set_time_from client_time_at bind give
returns-in-0 c = rw (c.in_ok-take_u32.ensures.exact, c.in-0.is) (record { exact = refl })

pub returns-in-1 : goal.returns-in-1
unfolding set_time_at set_time_from client_time_at bind give
returns-in-1 c = rw (c.in_ok-take_u32.ensures.exact, c.in-1.is) (record { exact = refl })

pub returns-in_err-take_moment-in-2 : goal.returns-in_err-take_moment-in-2
unfolding set_time_at set_time_from client_time_at bind give
returns-in_err-take_moment-in-2 c =
    let p = err_from_is_err_and c.from_residual-in_err-take_moment-in-2.result c.from_residual-in_err-take_moment-in-2.ensures.1 in
    rw (p.1, p.2, c.in_ok-take_u32.ensures.exact, c.in-2.is, c.in_err-take_moment-in-2.ensures.exact) (record { exact = refl })

pub returns-in_ok-take_moment-in-2 : goal.returns-in_ok-take_moment-in-2
unfolding set_time_at set_time_from client_time_at bind give
returns-in_ok-take_moment-in-2 c = rw (c.in_ok-take_u32.ensures.exact, c.in-2.is, c.in_ok-take_moment-in-2.ensures.exact) (record { exact = refl })
