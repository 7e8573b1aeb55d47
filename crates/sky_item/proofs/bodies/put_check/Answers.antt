use Rattle.sky_item.specs.Encoding.{check_bytes}
use Rattle.sky_item.proofs.Puts.{appends_then, puts_then}
use Rattle.sky_item.proofs.bodies.put_check.Goals as goal

pub returns : goal.returns
unfolding check_bytes
returns c =
    let pages = rw c.as_slice.ensures at c.in_ok-put_all_numbered.ensures in
    let count = rw c.as_slice-2.ensures at c.in_ok-put_u32.ensures in
    let fileids = rw c.as_slice-3.ensures at c.put_fileids.ensures in
    let two = appends_then _ _ _ _ _ c.in_ok-put_numbers.ensures pages in
    let three = appends_then _ _ _ _ _ two count in
    puts_then c.put_fileids.result _ _ _ _ _ three fileids
