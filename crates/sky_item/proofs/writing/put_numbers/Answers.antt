use Rattle.sky_item.specs.Encoding.{numbers_bytes}
use Rattle.sky_item.proofs.Puts.{appends_then, puts_then}
use Rattle.sky_item.proofs.writing.put_numbers.Goals as goal

pub returns : goal.returns
unfolding numbers_bytes
returns c =
    let two = appends_then _ _ _ _ _ c.in_ok-put_u64.ensures c.in_ok-put_u64-2.ensures in
    let three = appends_then _ _ _ _ _ two c.in_ok-put_u64-3.ensures in
    let four = appends_then _ _ _ _ _ three c.in_ok-put_u64-4.ensures in
    let five = appends_then _ _ _ _ _ four c.in_ok-put_u64-5.ensures in
    let six = appends_then _ _ _ _ _ five c.in_ok-put_u64-6.ensures in
    puts_then c.put_u64-7.result _ _ _ _ _ six c.put_u64-7.ensures
