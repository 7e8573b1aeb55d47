use Rattle.std.proofs.Common.{refl}
use Rattle.std.specs.List.{slice_get}
use Rattle.std.proofs.lemmas.Result.{err_from_is_err_and}
use Rattle.sky_args.specs.Reading.{readers, args_at}
use Rattle.sky_args.proofs.ReadLaws.{read_stopped, read_left, read_all, bytes_left}
use Rattle.sky_args.proofs.reading.read_whole.Goals as goal

pub returns-in_err-call-clause-exact : goal.returns-in_err-call-clause-exact
unfolding args_at
returns-in_err-call-clause-exact c =
    let p = err_from_is_err_and c.from_residual.result c.from_residual.ensures.1 in
    rw (p.1, p.2, ← c.over-reader.ensures) (read_stopped (slice_get readers c.args.procedure) c.in_err-call.field-0.0 c.over-reader.result c.take_call.new.reader c.in_err-call.ensures.exact)

pub returns-in_err-end-clause-exact : goal.returns-in_err-end-clause-exact
unfolding args_at
returns-in_err-end-clause-exact c =
    let p = err_from_is_err_and c.from_residual-in_err-end.result c.from_residual-in_err-end.ensures.1 in
    let left = bytes_left c.take_call.new.reader (λ none. absurd (let q = c.in_err-end.ensures.ended.1 none in cc)) in
    rw (p.1, p.2, ← c.over-reader.ensures) (read_left (slice_get readers c.args.procedure) c.in_ok-call.call c.over-reader.result c.take_call.new.reader c.in_ok-call.ensures.exact left)

pub returns-clause-exact : goal.returns-clause-exact
unfolding args_at
returns-clause-exact c =
    rw (← c.over-reader.ensures) (read_all (slice_get readers c.args.procedure) c.in_ok-call.call c.over-reader.result c.take_call.new.reader c.in_ok-call.ensures.exact (c.in_ok-end.ensures.ended.0 refl))
