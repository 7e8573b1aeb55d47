use Rattle.sky_imap.proofs.PageLaws.{comes_back}
use Rattle.sky_imap.proofs.laws.pages_come_back.Goals as goal

pub returns-clause-page : goal.returns-clause-page
returns-clause-page c = comes_back
