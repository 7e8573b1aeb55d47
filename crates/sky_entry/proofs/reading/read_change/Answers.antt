use Rattle.std.proofs.Common.{◌≡◌, ◌≤◌, Ok, length, arith, ap}
use Rattle.sky_entry.specs.Reading.{head_at}
use Rattle.sky_entry.proofs.HeadReads.{args_long}
use Rattle.sky_entry.proofs.reading.read_change.Goals as goal

pub returns-clause-within : goal.returns-clause-within
returns-clause-within c =
    let args = c.take_head.new.reader in
    let read : head_at c.args.body.now ≡ Ok (c.in_ok-head.head, args) = rw (← c.over-reader.ensures) c.in_ok-head.ensures.exact in
    let long : length args ≤ length c.args.body.now = args_long c.args.body.now args c.in_ok-head.head (λ i. omega (arith, c.type_inv.body i)) read in
    omega (arith, long, ap length c.rest.ensures, c.in_ok-call.ensures.as_long)
