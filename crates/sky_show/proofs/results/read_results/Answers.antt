use Rattle.std.proofs.Common.{◌≡◌, arith}
use Rattle.sky_show.proofs.Numbers.{is_read, one_number}
use Rattle.sky_show.proofs.results.read_results.Goals as goal

pub returns-in_err-status-clause-refused : goal.returns-in_err-status-clause-refused
returns-in_err-status-clause-refused c =
    λ some status more above fits begins.
    absurd (is_read c.args.bytes.now c.over-reader.result c.take_u32.new.self more _ status c.over-reader.ensures begins fits c.in_err-status.ensures.exact.0)

pub returns-in-0-clause-refused : goal.returns-in-0-clause-refused
returns-in-0-clause-refused c =
    λ some status more above fits begins.
    let same : c.in_ok-status.status ≡ status =
    one_number c.args.bytes.now c.over-reader.result c.take_u32.new.self more c.in_ok-status.status status c.over-reader.ensures c.in_ok-status.ensures.found begins (omega (arith, c.in-0.is)) fits in
    absurd (omega (arith, same, c.in-0.is, above))
