use Rattle.sky_args.proofs.WrittenLaws.{written_found, written_read}
use Rattle.sky_args.proofs.writing.write_args.Goals as goal

pub returns-clause-found : goal.returns-clause-found
returns-clause-found c = written_found c.args.call.now c.in_ok-put_args.ensures.fits

pub returns-clause-read_again : goal.returns-clause-read_again
returns-clause-read_again c = written_read c.args.call.now c.in_ok-put_args.ensures.fits
