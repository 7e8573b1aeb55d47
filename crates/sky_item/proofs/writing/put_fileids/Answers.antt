use Rattle.std.proofs.lemmas.Result.{err_from_is_err_and}
use Rattle.sky_xdr.specs.Encoding.{uhyper}
use Rattle.sky_item.proofs.Puts.{appends_stops}
use Rattle.sky_item.proofs.writing.put_fileids.Goals as goal

pub returns-in_err-put_u64 : goal.returns-in_err-put_u64
returns-in_err-put_u64 c =
    let p = err_from_is_err_and c.from_residual.result c.from_residual.ensures.1 in
    rw p.1 (appends_stops uhyper c.args.fileids.now c.loop-fileid.fileid-index _ c.args.out.now c.loop-fileid.out c.loop-fileid-test.true c.loop-fileid.invariant c.in_err-put_u64.ensures)
