use Rattle.std.proofs.Common.{subst}
use Rattle.sky_imap.specs.PageMap.{IsPage}
use Rattle.sky_imap.proofs.PageLaws.{is_page}
use Rattle.sky_imap.proofs.page.Page.number.Goals as goal

pub returns-clause-page : goal.returns-clause-page
returns-clause-page c = subst IsPage c.self.view_is (is_page c.self.inside.number c.self.inside.slots.items c.self.invariant)
