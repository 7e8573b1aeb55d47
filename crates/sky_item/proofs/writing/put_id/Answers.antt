use Rattle.sky_item.specs.Encoding.{id_bytes}
use Rattle.sky_item.proofs.Puts.{puts_then}
use Rattle.sky_item.proofs.writing.put_id.Goals as goal

pub returns : goal.returns
unfolding id_bytes
returns c = puts_then c.put_u64-2.result _ _ _ _ _ c.in_ok-put_u64.ensures c.put_u64-2.ensures
