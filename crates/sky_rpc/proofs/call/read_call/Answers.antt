use Rattle.std.proofs.Common.{arith}
use Rattle.sky_xdr.specs.Reading.{Gives}
use Rattle.sky_rpc.specs.Reading.{call_at}
use Rattle.sky_rpc.specs.Values.{message_of}
use Rattle.sky_rpc.proofs.Calls.{returned, if_found, if_refused}
use Rattle.sky_rpc.proofs.call.read_call.Goals as goal

pub returns-clause-found : goal.returns-clause-found
returns-clause-found c =
    let bytes = c.args.bytes.now in
    let gives : Gives message_of c.take_call.result (call_at bytes) = rw (← c.over.ensures) c.take_call.ensures in
    if_found bytes c.take_call.result (returned bytes c.take_call.result (λ i. omega (arith, c.type_inv.bytes i)) gives)

pub returns-clause-refused : goal.returns-clause-refused
returns-clause-refused c =
    let bytes = c.args.bytes.now in
    let gives : Gives message_of c.take_call.result (call_at bytes) = rw (← c.over.ensures) c.take_call.ensures in
    if_refused bytes c.take_call.result (returned bytes c.take_call.result (λ i. omega (arith, c.type_inv.bytes i)) gives)
