use Rattle.std.proofs.Common.{refl, ◌++◌}
use Rattle.std.proofs.lemmas.Result.{err_from_is_err_and}
use Rattle.sky_journal.specs.Looking.{area_in}
use Rattle.sky_journal.proofs.AreasWords.{older_foreign, newer_foreign, both_read, exactly}
use Rattle.sky_journal.proofs.ReadingFaults.{says_handed}
use Rattle.sky_journal.proofs.areas.read_two.Goals as goal

pub returns-in_err-older-clause-says : goal.returns-in_err-older-clause-says
returns-in_err-older-clause-says g c image shows =
    let p = err_from_is_err_and c.from_residual.result c.from_residual.ensures.1 in
    says_handed c.from_residual.result p.0 _ _ _ _ _ p.1 p.2
    (λ place e. older_foreign g.G.Grammar.is_entry c.args.volume c.args.covers (area_in c.args.spans.0 image) (area_in c.args.spans.1 image) place e) (c.in_err-older.ensures.says image shows)

pub returns-in_err-newer-clause-says : goal.returns-in_err-newer-clause-says
returns-in_err-newer-clause-says g c image shows =
    let said = c.in_ok-older.ensures.says image shows in
    let first = c.in_ok-older.ensures.went.shows image shows in
    let p = err_from_is_err_and c.from_residual-in_err-newer.result c.from_residual-in_err-newer.ensures.1 in
    says_handed c.from_residual-in_err-newer.result p.0 _ _ _ _ _ p.1 p.2
    (λ place e. newer_foreign g.G.Grammar.is_entry c.args.volume c.args.covers (area_in c.args.spans.0 image) (area_in c.args.spans.1 image) c.in_ok-older.older said.0 place said.1 said.2 e)
    (c.in_err-newer.ensures.says image first)

pub returns-clause-says : goal.returns-clause-says
returns-clause-says g c image shows =
    let said = c.in_ok-older.ensures.says image shows in
    let first = c.in_ok-older.ensures.went.shows image shows in
    let more = c.in_ok-newer.ensures.says image first in (
      said.0 ++ more.0,
      both_read g.G.Grammar.is_entry c.args.volume c.args.covers (area_in c.args.spans.0 image) (area_in c.args.spans.1 image) c.in_ok-older.older c.in_ok-newer.newer said.0 more.0 said.1 said.2 more.1,
      record { first = said.0; second = more.0; listed = refl; older_is = said.2; newer_is = more.2 },
    )

pub returns-clause-number : goal.returns-clause-number
returns-clause-number g c = exactly c.in_ok-older.older.last c.in_ok-newer.newer.base c.in_ok-newer.ensures.base
