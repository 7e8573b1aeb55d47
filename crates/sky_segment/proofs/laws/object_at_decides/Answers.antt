use Rattle.sky_segment.proofs.ObjectLaws.{object_again, object_sound}
use Rattle.sky_segment.proofs.laws.object_at_decides.Goals as goal

pub returns : goal.returns
returns c = record { accepted = object_again; found = object_sound }
