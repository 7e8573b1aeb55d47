use Rattle.std.proofs.Common.{ap, List, ℕ, ◌-◌, vec_len, vec_capacity}
use Rattle.sky_journal.specs.AreasRead.{as_read}
use Rattle.sky_journal.proofs.JournalRead.{none_pending, none_framed, is_journal}
use Rattle.sky_journal.proofs.journal.Journal.of_areas.Goals as goal

pub invariant_of-result : goal.invariant_of-result
invariant_of-result c =
    let none = none_pending c.in_ok-batch.batch.items c.in_ok-batch.ensures in
    let framed = none_framed c.in_ok-batch.batch.items c.in_ok-batch.ensures in
    (is_journal c.args.volume c.args.size c.args.disk _ c.args.areas _ none c.requires.least c.requires.most c.requires.fits c.requires.known, framed.0, framed.1, framed.2)

pub returns : goal.returns
returns c =
    let spare : ℕ = vec_capacity c.in_ok-batch.batch - vec_len c.in_ok-batch.batch in
    ap (λ (l : List (List ℕ)). record (as_read c.args.volume c.args.size c.args.disk c.args.areas spare) { pending = l }) (none_pending c.in_ok-batch.batch.items c.in_ok-batch.ensures)
