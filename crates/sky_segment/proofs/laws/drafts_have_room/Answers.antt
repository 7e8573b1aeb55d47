use Rattle.sky_segment.proofs.DraftLaws.{size_grows}
use Rattle.sky_segment.proofs.laws.drafts_have_room.Goals as goal

pub returns : goal.returns
returns c = record { grows = size_grows }
