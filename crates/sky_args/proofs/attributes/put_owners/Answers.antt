use Rattle.std.proofs.Common.{Err}
use Rattle.std.proofs.lemmas.Result.{err_from_is_err_and}
use Rattle.sky_xdr.proofs.Puts.{appends_then, puts_then, stops_then}
use Rattle.sky_args.proofs.attributes.put_owners.Goals as goal

pub returns : goal.returns
returns c =
    let two = appends_then _ _ _ _ _ c.in_ok-put_optional_u32.ensures.puts c.in_ok-put_optional_u32-2.ensures.puts in
    record { puts = puts_then c.put_optional_u32-3.result _ _ _ _ _ two c.put_optional_u32-3.ensures.puts }

pub returns-in_err-put_optional_u32 : goal.returns-in_err-put_optional_u32
returns-in_err-put_optional_u32 c =
    let p = err_from_is_err_and c.from_residual.result c.from_residual.ensures.1 in
    rw p.1 (record { puts = stops_then _ _ c.args.writer.now (stops_then _ _ c.args.writer.now c.in_err-put_optional_u32.ensures.puts) })

pub returns-in_err-put_optional_u32-2 : goal.returns-in_err-put_optional_u32-2
returns-in_err-put_optional_u32-2 c =
    let p = err_from_is_err_and c.from_residual-in_err-put_optional_u32-2.result c.from_residual-in_err-put_optional_u32-2.ensures.1 in
    rw p.1 (record { puts = stops_then _ _ c.args.writer.now (puts_then {X = Unit {0}} (Err c.in_err-put_optional_u32-2.field-0.0) _ _ c.args.writer.now c.put_optional_u32.new.writer c.put_optional_u32-2.new.writer c.in_ok-put_optional_u32.ensures.puts c.in_err-put_optional_u32-2.ensures.puts) })
