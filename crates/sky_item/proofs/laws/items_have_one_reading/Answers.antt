use Rattle.sky_item.proofs.ItemLaws.{one_item, no_prefix}
use Rattle.sky_item.proofs.laws.items_have_one_reading.Goals as goal

pub returns : goal.returns
returns c = record { one_item = one_item; no_prefix = no_prefix }
