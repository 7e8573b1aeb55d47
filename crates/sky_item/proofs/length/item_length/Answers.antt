use Rattle.std.proofs.Common.{arith}
use Rattle.sky_item.proofs.Sizes.{links_few, body_small, item_small, length-item_bytes}
use Rattle.sky_item.proofs.length.item_length.Goals as goal

pub overflow_mul-result : goal.overflow_mul-result
overflow_mul-result c = omega (arith, links_few c.args.item.now c.requires, c.links_of.ensures)

pub overflow_add-result : goal.overflow_add-result
overflow_add-result c = omega (arith, links_few c.args.item.now c.requires, c.links_of.ensures)

pub overflow_add-result-2 : goal.overflow_add-result-2
overflow_add-result-2 c = omega (arith, links_few c.args.item.now c.requires, c.links_of.ensures, body_small c.args.item.now c.requires, c.body_length.ensures)

pub overflow_cast-result : goal.overflow_cast-result
overflow_cast-result c = omega (arith, c.links_of.ensures, c.body_length.ensures, item_small c.args.item.now c.requires)

pub returns : goal.returns
returns c = omega (arith, c.links_of.ensures, c.body_length.ensures, length-item_bytes c.args.item.now c.requires)
