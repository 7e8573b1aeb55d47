use Rattle.std.proofs.Common.{◌∙◌}
use Rattle.std.proofs.lemmas.Result.{err_from_is_err_and}
use Rattle.sky_journal.specs.Looking.{area_in}
use Rattle.sky_journal.proofs.AreasLaid.{only_laid, only_known}
use Rattle.sky_journal.proofs.AreasWords.{only_area}
use Rattle.sky_journal.proofs.ReadingFaults.{says_handed}
use Rattle.sky_journal.proofs.areas.read_only.Goals as goal

pub returns-in_err-area-clause-says : goal.returns-in_err-area-clause-says
returns-in_err-area-clause-says g c image shows only =
    let p = err_from_is_err_and c.from_residual.result c.from_residual.ensures.1 in
    says_handed c.from_residual.result p.0 _ _ _ _ _ p.1 p.2 (λ place e. only_area g.G.Grammar.is_entry c.args.volume c.args.covers (area_in c.args.span image) ∙ e) (c.in_err-area.ensures.says image shows)

pub returns-clause-says : goal.returns-clause-says
returns-clause-says g c image shows only =
    let said = c.in_ok-area.ensures.says image shows in (
      said.0,
      only_area g.G.Grammar.is_entry c.args.volume c.args.covers (area_in c.args.span image) ∙ said.1,
      only_laid c.args.volume c.args.span image c.in_ok-area.area said.0 said.2 c.in_ok-area.ensures.known only,
    )

pub returns-clause-known : goal.returns-clause-known
returns-clause-known g c = only_known c.args.span c.in_ok-area.area c.in_ok-area.ensures.known c.requires.half
