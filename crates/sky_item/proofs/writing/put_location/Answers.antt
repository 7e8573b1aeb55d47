use Rattle.sky_item.specs.Encoding.{location_bytes}
use Rattle.sky_item.proofs.Puts.{appends_then, puts_then}
use Rattle.sky_item.proofs.writing.put_location.Goals as goal

pub returns : goal.returns
unfolding location_bytes
returns c =
    let two = appends_then _ _ _ _ _ c.in_ok-put_u32.ensures c.in_ok-put_u64.ensures in
    let three = appends_then _ _ _ _ _ two c.in_ok-put_u64-2.ensures in
    let four = appends_then _ _ _ _ _ three c.in_ok-put_u32-2.ensures in
    puts_then c.put_u32-3.result _ _ _ _ _ (rw (← c.code_of.ensures) four) c.put_u32-3.ensures
