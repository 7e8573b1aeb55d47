use Rattle.std.proofs.Common.{◌≡◌, ◌++◌, ℕ, List, length, take, drop, sym, subst, ap, ◌∙◌}
use Rattle.std.proofs.lemmas.List.{take_at}
use Rattle.sky_journal.specs.Pending.{body_in}
use Rattle.sky_journal.specs.Text.{entries_in}
use Rattle.sky_journal.specs.Written.{IsBehindBatchGate}
use Rattle.sky_journal.proofs.batch.complete_batch.Goals as goal

pub returns-clause-complete : goal.returns-clause-complete
returns-clause-complete c entries has =
    let new = c.put_header.new.batch in
    let is : take c.args.batch.now.len (new ++ drop (length new) c.args.batch.now.items) ≡ new =
    take_at new (drop (length new) c.args.batch.now.items) c.args.batch.now.len (c.put_header.ensures.size ∙ c.as_mut_slice.ensures.len) in
    subst (λ (b : List ℕ). IsBehindBatchGate b entries) (sym is) (c.put_header.ensures.complete entries (ap (λ (l : List ℕ). entries_in c.args.count (body_in l)) c.as_mut_slice.ensures.value ∙ has))
