use Rattle.sky_item.proofs.Puts.{appends_then, puts_then}
use Rattle.sky_item.proofs.bodies.put_header.Goals as goal

pub returns : goal.returns
returns c =
    let two = appends_then _ _ _ _ _ c.in_ok-put_u32.ensures c.in_ok-put_id.ensures in
    let three = appends_then _ _ _ _ _ two c.in_ok-put_u32-2.ensures in
    let four = appends_then _ _ _ _ _ three c.in_ok-put_u32-3.ensures in
    puts_then c.put.result _ _ _ _ _ four c.put.ensures
