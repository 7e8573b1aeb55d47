use Rattle.std.proofs.Common.{sym}
use Rattle.sky_recover.proofs.Redone.{storable, whose}
use Rattle.sky_recover.proofs.Spelled.{not_spelled}
use Rattle.sky_recover.proofs.replaying.change_at.Goals as goal

pub returns-in-Ok-clause-whose : goal.returns-in-Ok-clause-whose
returns-in-Ok-clause-whose c = whose c.args.entry.now c.in-Ok.change c.in-Ok.field-0-1 c.in-Ok.ensures.exact c.in-Ok.ensures.found

pub returns-in-Ok-clause-storable : goal.returns-in-Ok-clause-storable
returns-in-Ok-clause-storable c = storable _ c.in-Ok.change c.in-Ok.ensures.found

pub returns-in-Err-Bad-clause-foreign : goal.returns-in-Err-Bad-clause-foreign
returns-in-Err-Bad-clause-foreign c = λ place is. (cc, sym (not_spelled c.args.entry.now (rw c.in-Err-Bad.field-0-is at c.in-Err-Bad.ensures.exact)))
