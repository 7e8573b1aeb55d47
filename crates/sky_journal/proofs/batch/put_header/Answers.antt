use Rattle.std.proofs.Common.{List, ℕ, ap, ◌∙◌}
use Rattle.sky_journal.specs.Text.{entries_in}
use Rattle.sky_journal.proofs.batch.put_header.Goals as goal

pub returns-clause-complete : goal.returns-clause-complete
returns-clause-complete c =
    λ entries has. c.put_numbers.ensures.complete entries (ap (λ (l : List ℕ). entries_in c.args.count l) c.clear_unused.ensures.body ∙ has)
