use Rattle.std.proofs.Common.{◌-◌, ℕ, List, length, take, ap, ◌∙◌}
use Rattle.sky_journal.specs.Layout.{is_open}
use Rattle.sky_journal.specs.Pending.{body_in}
use Rattle.sky_journal.proofs.Headers.{clean-length, clean-unused, clean-body, clean-gate}
use Rattle.sky_journal.proofs.batch.clear_unused.Goals as goal

pub returns-clause-unused : goal.returns-clause-unused
returns-clause-unused c = ap (λ (b : List ℕ). take 3 b) c.put_zeros.ensures ∙ clean-unused c.args.batch.now c.requires

pub returns-clause-body : goal.returns-clause-body
returns-clause-body c = ap (λ (b : List ℕ). body_in b) c.put_zeros.ensures ∙ clean-body c.args.batch.now c.requires

pub returns-clause-size : goal.returns-clause-size
returns-clause-size c = ap (λ (b : List ℕ). length b) c.put_zeros.ensures ∙ clean-length c.args.batch.now c.requires

pub returns-clause-gate : goal.returns-clause-gate
returns-clause-gate c = ap (λ (b : List ℕ). is_open (length b - 1) b) c.put_zeros.ensures ∙ clean-gate c.args.batch.now c.requires
