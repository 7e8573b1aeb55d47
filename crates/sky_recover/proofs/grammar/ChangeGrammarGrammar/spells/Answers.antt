use Rattle.sky_recover.proofs.Spelled.{spelled, not_spelled}
use Rattle.sky_recover.proofs.grammar.ChangeGrammarGrammar.spells.Goals as goal

pub returns-in-Ok : goal.returns-in-Ok
returns-in-Ok c = spelled c.args.entry.now c.in-Ok.found c.in-Ok.ensures.exact

pub returns-in-Err-Bad : goal.returns-in-Err-Bad
returns-in-Err-Bad c = not_spelled c.args.entry.now (rw c.in-Err-Bad.field-0-is at c.in-Err-Bad.ensures.exact)
