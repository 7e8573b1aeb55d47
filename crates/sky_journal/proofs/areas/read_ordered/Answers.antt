use Rattle.std.proofs.lemmas.Result.{err_from_is_err_and}
use Rattle.sky_journal.proofs.AreasLaid.{both_laid, both_known}
use Rattle.sky_journal.proofs.ReadingFaults.{says_handed}
use Rattle.sky_journal.proofs.areas.read_ordered.Goals as goal

pub returns-in_err-areas-clause-says : goal.returns-in_err-areas-clause-says
returns-in_err-areas-clause-says g c image shows gates =
    let p = err_from_is_err_and c.from_residual.result c.from_residual.ensures.1 in
    says_handed c.from_residual.result p.0 _ _ _ _ _ p.1 p.2 (λ place e. e) (c.in_err-areas.ensures.says image shows)

pub returns-clause-says : goal.returns-clause-says
returns-clause-says g c image shows gates =
    let said = c.in_ok-areas.ensures.says image shows in
    (said.0, said.1, both_laid c.args.volume c.args.spans image c.in_ok-areas.areas said.0 said.2 c.in_ok-areas.ensures.older c.in_ok-areas.ensures.newer c.requires.beside gates)

pub returns-clause-known : goal.returns-clause-known
returns-clause-known g c = both_known c.args.spans c.in_ok-areas.areas c.in_ok-areas.ensures.older c.in_ok-areas.ensures.newer c.requires.beside c.in_ok-areas.ensures.number
