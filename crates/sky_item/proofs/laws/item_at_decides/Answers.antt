use Rattle.sky_item.proofs.ItemLaws.{item_again, item_sound}
use Rattle.sky_item.proofs.laws.item_at_decides.Goals as goal

pub returns : goal.returns
returns c = record { accepted = item_again; found = item_sound }
