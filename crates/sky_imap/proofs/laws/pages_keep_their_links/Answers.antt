use Rattle.sky_imap.proofs.PageLaws.{links-clear, links-set, links_of_item, links_of_new}
use Rattle.sky_imap.proofs.laws.pages_keep_their_links.Goals as goal

pub returns-clause-new : goal.returns-clause-new
returns-clause-new c = links_of_new

pub returns-clause-set : goal.returns-clause-set
returns-clause-set c = links-set

pub returns-clause-clear : goal.returns-clause-clear
returns-clause-clear c = links-clear

pub returns-clause-item : goal.returns-clause-item
returns-clause-item c = links_of_item
