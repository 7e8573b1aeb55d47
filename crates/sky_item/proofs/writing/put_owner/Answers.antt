use Rattle.sky_item.specs.Encoding.{owner_bytes}
use Rattle.sky_item.proofs.Puts.{appends_then, puts_then}
use Rattle.sky_item.proofs.writing.put_owner.Goals as goal

pub returns : goal.returns
unfolding owner_bytes
returns c =
    let two = appends_then _ _ _ _ _ c.in_ok-put_u32.ensures c.in_ok-put_u32-2.ensures in
    let three = appends_then _ _ _ _ _ two c.in_ok-put_u32-3.ensures in
    puts_then c.put_u32-4.result _ _ _ _ _ three c.put_u32-4.ensures
