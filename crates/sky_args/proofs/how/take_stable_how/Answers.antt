use Rattle.std.proofs.Common.{refl}
use Rattle.std.proofs.lemmas.Result.{err_from_is_err_and}
use Rattle.sky_xdr.specs.Reading.{bind}
use Rattle.sky_xdr.specs.GrammarReading.{give}
use Rattle.sky_args.specs.Reading.{stable_how_at, stable_how_from}
use Rattle.sky_args.proofs.how.take_stable_how.Goals as goal

pub returns-in_err-take_u32 : goal.returns-in_err-take_u32
unfolding stable_how_at stable_how_from bind give
returns-in_err-take_u32 c =
    let p = err_from_is_err_and c.from_residual.result c.from_residual.ensures.1 in
    rw (p.1, p.2, c.in_err-take_u32.ensures.exact.0) (record { exact = refl })

pub returns-in-0 : goal.returns-in-0
unfolding stable_how_at stable_how_from bind give
returns-in-0 c = rw (c.in_ok-take_u32.ensures.exact, c.in-0.is) (record { exact = refl })

pub returns-in-1 : goal.returns-in-1
unfolding stable_how_at stable_how_from bind give
returns-in-1 c = rw (c.in_ok-take_u32.ensures.exact, c.in-1.is) (record { exact = refl })

pub returns-in-2 : goal.returns-in-2
unfolding stable_how_at stable_how_from bind give
returns-in-2 c = rw (c.in_ok-take_u32.ensures.exact, c.in-2.is) (record { exact = refl })
