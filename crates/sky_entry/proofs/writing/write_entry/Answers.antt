use Rattle.std.proofs.Common.{arith}
use Rattle.sky_entry.specs.Entry.{FitsChange}
use Rattle.sky_entry.proofs.Sizes.{length-entry_bytes}
use Rattle.sky_entry.proofs.EntryLaws.{written_found, written_read}
use Rattle.sky_entry.proofs.writing.write_entry.Goals as goal

pub returns-clause-found : goal.returns-clause-found
returns-clause-found c =
    let change = c.args.change.now in
    let h = c.in_ok-put_entry.ensures.fits in
    let fits : FitsChange change = record { moment = h.0; cred = h.1; call = h.2; changes = c.requires.changes } in
    written_found change fits (omega (arith, c.requires.small, length-entry_bytes change))

pub returns-clause-read_again : goal.returns-clause-read_again
returns-clause-read_again c = λ rest.
    let change = c.args.change.now in
    let h = c.in_ok-put_entry.ensures.fits in
    let fits : FitsChange change = record { moment = h.0; cred = h.1; call = h.2; changes = c.requires.changes } in
    written_read change rest fits (omega (arith, c.requires.small, length-entry_bytes change))
