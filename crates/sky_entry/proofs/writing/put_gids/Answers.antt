use Rattle.sky_entry.proofs.Words.{all_fit, puts_words}
use Rattle.sky_entry.proofs.writing.put_gids.Goals as goal

pub returns-clause-puts : goal.returns-clause-puts
returns-clause-puts c =
    let h = c.put_words.ensures in
    puts_words c.put_words.result c.args.gids.now c.args.writer.now c.put_words.new.writer h.fits h.written h.unwritten h.room h.same_buffer

pub returns-clause-fits : goal.returns-clause-fits
returns-clause-fits c = all_fit c.args.gids.now (λ i. (c.type_inv.gids i).fits)
