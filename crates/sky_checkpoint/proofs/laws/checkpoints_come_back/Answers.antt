use Rattle.std.proofs.Common.{Some, ap}
use Rattle.std.specs.Ordering.{nat_cmp}
use Rattle.std.specs.FinMap.{FinMap}
use Rattle.sky_base.specs.declared.place.Link.{Link}
use Rattle.sky_imap.proofs.PageLaws.{map_back}
use Rattle.sky_checkpoint.proofs.laws.checkpoints_come_back.Goals as goal

pub returns-clause-check : goal.returns-clause-check
returns-clause-check c = λ check. ap (λ (pages : FinMap nat_cmp Link). Some (record check { pages = pages })) (map_back check.pages)
