use Rattle.std.proofs.Common.{Err}
use Rattle.std.proofs.lemmas.Result.{err_from_is_err_and}
use Rattle.sky_xdr.proofs.Puts.{appends_then, puts_then, stops_then}
use Rattle.sky_entry.specs.Entry.{caller_bytes}
use Rattle.sky_entry.proofs.writing.put_caller.Goals as goal

pub returns-in_err-put_u32-clause-puts : goal.returns-in_err-put_u32-clause-puts
unfolding caller_bytes
returns-in_err-put_u32-clause-puts c =
    let p = err_from_is_err_and c.from_residual.result c.from_residual.ensures.1 in
    rw p.1 (stops_then _ _ c.args.writer.now (stops_then _ _ c.args.writer.now (stops_then _ _ c.args.writer.now c.in_err-put_u32.ensures.puts)))

pub returns-in_err-put_u32-2-clause-puts : goal.returns-in_err-put_u32-2-clause-puts
unfolding caller_bytes
returns-in_err-put_u32-2-clause-puts c =
    let p = err_from_is_err_and c.from_residual-in_err-put_u32-2.result c.from_residual-in_err-put_u32-2.ensures.1 in
    rw p.1 (stops_then _ _ c.args.writer.now (stops_then _ _ c.args.writer.now (puts_then {X = Unit {0}} (Err c.in_err-put_u32-2.field-0.0) _ _ c.args.writer.now c.put_u32.new.self c.put_u32-2.new.self c.in_ok-put_u32.ensures.puts c.in_err-put_u32-2.ensures.puts)))

pub returns-in_err-put_u32-3-clause-puts : goal.returns-in_err-put_u32-3-clause-puts
unfolding caller_bytes
returns-in_err-put_u32-3-clause-puts c =
    let p = err_from_is_err_and c.from_residual-in_err-put_u32-3.result c.from_residual-in_err-put_u32-3.ensures.1 in
    let two = appends_then _ _ _ _ _ c.in_ok-put_u32.ensures.puts c.in_ok-put_u32-2.ensures.puts in
    let count = rw c.as_slice-gids.ensures.same at c.in_err-put_u32-3.ensures.puts in
    rw p.1 (stops_then _ _ c.args.writer.now (puts_then {X = Unit {0}} (Err c.in_err-put_u32-3.field-0.0) _ _ c.args.writer.now c.put_u32-2.new.self c.put_u32-3.new.self two count))

pub returns-clause-puts : goal.returns-clause-puts
unfolding caller_bytes
returns-clause-puts c =
    let count = rw c.as_slice-gids.ensures.same at c.in_ok-put_u32-3.ensures.puts in
    let gids = rw c.as_slice-gids.ensures.same at c.put_gids.ensures.puts in
    let two = appends_then _ _ _ _ _ c.in_ok-put_u32.ensures.puts c.in_ok-put_u32-2.ensures.puts in
    let three = appends_then _ _ _ _ _ two count in
    puts_then c.put_gids.result _ _ _ _ _ three gids
