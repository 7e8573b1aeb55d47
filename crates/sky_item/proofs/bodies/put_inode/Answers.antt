use Rattle.sky_item.specs.Encoding.{inode_bytes}
use Rattle.sky_item.proofs.Puts.{appends_then, puts_then}
use Rattle.sky_item.proofs.bodies.put_inode.Goals as goal

pub returns : goal.returns
unfolding inode_bytes
returns c =
    let two = appends_then _ _ _ _ _ c.in_ok-put_node.ensures c.in_ok-put_times.ensures in
    let three = appends_then _ _ _ _ _ two c.in_ok-put_verifier.ensures in
    let four = appends_then _ _ _ _ _ three c.in_ok-put_u64.ensures in
    puts_then c.put_content.result _ _ _ _ _ four c.put_content.ensures
