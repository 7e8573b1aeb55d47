use Rattle.std.proofs.lemmas.Result.{err_from_is_err_and}
use Rattle.sky_item.specs.Encoding.{block_bytes}
use Rattle.sky_item.proofs.Puts.{appends_stops}
use Rattle.sky_item.proofs.writing.put_blocks.Goals as goal

pub returns-in_err-put_block : goal.returns-in_err-put_block
returns-in_err-put_block c =
    let p = err_from_is_err_and c.from_residual.result c.from_residual.ensures.1 in
    rw p.1 (appends_stops block_bytes c.args.blocks.now c.loop-block.block-index _ c.args.out.now c.loop-block.out c.loop-block-test.true c.loop-block.invariant c.in_err-put_block.ensures)
