use Rattle.sky_item.proofs.CopyLaws.{same_id, same_body}
use Rattle.sky_item.proofs.laws.copies_are_the_same_item.Goals as goal

pub returns : goal.returns
returns c = record { id = same_id; body = same_body }
