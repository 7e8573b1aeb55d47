use Rattle.sky_item.specs.Encoding.{row_bytes}
use Rattle.sky_item.proofs.Puts.{appends_then, puts_then}
use Rattle.sky_item.proofs.writing.put_row.Goals as goal

pub returns : goal.returns
unfolding row_bytes
returns c =
    let two = appends_then _ _ _ _ _ c.in_ok-put_u64.ensures c.in_ok-put_u64-2.ensures in
    let three = appends_then _ _ _ _ _ two c.in_ok-put_u16.ensures in
    rw (← c.as_bytes-name.ensures.same) (puts_then c.put.result _ _ _ _ _ three c.put.ensures)
