use Rattle.sky_show.specs.Shown.{began}
use Rattle.sky_show.proofs.Shows.{before_start}
use Rattle.sky_show.proofs.Lines.{each_line}
use Rattle.sky_show.proofs.showing.show.Goals as goal

pub returns-in-Ok-clause-ran : goal.returns-in-Ok-clause-ran
returns-in-Ok-clause-ran g c = began _ c.in-Ok.ensures.ok c.show_behind.ensures.ran

pub returns-in-Ok-clause-one_line : goal.returns-in-Ok-clause-one_line
returns-in-Ok-clause-one_line g c = each_line

pub returns-in-Err-clause-ran : goal.returns-in-Err-clause-ran
returns-in-Err-clause-ran g c =
    before_start c.read_magic.result c.in-Err.ending _ _ _ c.in-Err.is c.in-Err.ensures.endings c.read_magic.ensures.other c.in-Err.ensures.partly c.read_magic.ensures.early

pub returns-in-Err-clause-one_line : goal.returns-in-Err-clause-one_line
returns-in-Err-clause-one_line g c = each_line
