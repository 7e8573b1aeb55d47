use Rattle.tests_journal.proofs.tests.script.blank_site.Goals as goal

-- what the new site is known to be
pub returns : goal.returns
returns c = c.new-3.ensures.durable
