use Rattle.std.proofs.Common.{refl, arith}
use Rattle.sky_item.specs.Encoding.{item_bytes}
use Rattle.sky_item.proofs.Sizes.{links_few, length-item_bytes, length-body_bytes}
use Rattle.sky_item.proofs.ItemLaws.{item_again}
use Rattle.sky_item.proofs.bodies.write_item.Goals as goal

pub overflow_cast-locations : goal.overflow_cast-locations
overflow_cast-locations c = omega (arith, links_few c.args.item.now c.requires, c.links_of-locations.ensures)

pub write_parts-requires-clause-size : goal.write_parts-requires-clause-size
write_parts-requires-clause-size c =
    omega (arith, c.item_length-size.ensures, c.links_of-locations.ensures, length-item_bytes c.args.item.now c.requires, length-body_bytes c.args.item.now c.requires)

pub returns-clause-written : goal.returns-clause-written
unfolding item_bytes
returns-clause-written c = c.in_ok-write_parts.ensures.written

pub returns-clause-read_again : goal.returns-clause-read_again
returns-clause-read_again c = item_again (item_bytes c.args.item.now) c.args.item.now (record { is = c.requires; encoded = refl })
