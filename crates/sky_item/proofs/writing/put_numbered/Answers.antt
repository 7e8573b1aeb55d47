use Rattle.sky_item.specs.Encoding.{numbered_bytes}
use Rattle.sky_item.proofs.Puts.{puts_then}
use Rattle.sky_item.proofs.writing.put_numbered.Goals as goal

pub returns : goal.returns
unfolding numbered_bytes
returns c = puts_then c.put_id.result _ _ _ _ _ c.in_ok-put_u64.ensures c.put_id.ensures
