use Rattle.sky_rpc.proofs.ReplyReading.{records_apart}
use Rattle.sky_rpc.proofs.laws.replies_are_told_apart.Goals as goal

pub returns : goal.returns
returns c = records_apart
