use Rattle.std.proofs.Common.{Err}
use Rattle.std.proofs.lemmas.Result.{err_from_is_err_and}
use Rattle.sky_xdr.proofs.Puts.{appends_then, puts_then, stops_then}
use Rattle.sky_args.specs.Parts.{set_attr_bytes}
use Rattle.sky_args.proofs.attributes.put_set_attr.Goals as goal

pub returns-clause-puts : goal.returns-clause-puts
unfolding set_attr_bytes
returns-clause-puts c =
    let two = appends_then _ _ _ _ _ c.in_ok-put_owners.ensures.puts c.in_ok-put_optional_u64.ensures.puts in
    let three = appends_then _ _ _ _ _ two c.in_ok-put_set_time.ensures.puts in
    puts_then c.put_set_time-2.result _ _ _ _ _ three c.put_set_time-2.ensures.puts

pub returns-in_err-put_owners-clause-puts : goal.returns-in_err-put_owners-clause-puts
unfolding set_attr_bytes
returns-in_err-put_owners-clause-puts c =
    let p = err_from_is_err_and c.from_residual.result c.from_residual.ensures.1 in
    rw p.1 (stops_then _ _ c.args.writer.now (stops_then _ _ c.args.writer.now (stops_then _ _ c.args.writer.now c.in_err-put_owners.ensures.puts)))

pub returns-in_err-put_optional_u64-clause-puts : goal.returns-in_err-put_optional_u64-clause-puts
unfolding set_attr_bytes
returns-in_err-put_optional_u64-clause-puts c =
    let p = err_from_is_err_and c.from_residual-in_err-put_optional_u64.result c.from_residual-in_err-put_optional_u64.ensures.1 in
    rw p.1 (stops_then _ _ c.args.writer.now (stops_then _ _ c.args.writer.now (puts_then {X = Unit {0}} (Err c.in_err-put_optional_u64.field-0.0) _ _ c.args.writer.now c.put_owners.new.writer c.put_optional_u64.new.writer c.in_ok-put_owners.ensures.puts c.in_err-put_optional_u64.ensures.puts)))

pub returns-in_err-put_set_time-clause-puts : goal.returns-in_err-put_set_time-clause-puts
unfolding set_attr_bytes
returns-in_err-put_set_time-clause-puts c =
    let p = err_from_is_err_and c.from_residual-in_err-put_set_time.result c.from_residual-in_err-put_set_time.ensures.1 in
    let two = appends_then _ _ _ _ _ c.in_ok-put_owners.ensures.puts c.in_ok-put_optional_u64.ensures.puts in
    rw p.1 (stops_then _ _ c.args.writer.now (puts_then {X = Unit {0}} (Err c.in_err-put_set_time.field-0.0) _ _ c.args.writer.now c.put_optional_u64.new.writer c.put_set_time.new.writer two c.in_err-put_set_time.ensures.puts))
