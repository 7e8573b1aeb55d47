use Rattle.sky_segment.proofs.ObjectLaws.{one_object, no_prefix}
use Rattle.sky_segment.proofs.laws.objects_have_one_reading.Goals as goal

pub returns : goal.returns
returns c = record { one_object = one_object; no_prefix = no_prefix }
