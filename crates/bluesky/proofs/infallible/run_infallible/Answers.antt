use Rattle.std.proofs.Common.{⊎_elim, inl, inr, refl}
use Rattle.bluesky.proofs.Completing.{worn_out}
use Rattle.bluesky.proofs.OneReading.{never_rose, only_memory}
use Rattle.bluesky.proofs.infallible.run_infallible.Goals as goal

pub returns-clause-complete : goal.returns-clause-complete
returns-clause-complete c =
    λ fields said replayed sound supply course status rest reading.
    let run = c.run.ensures in
    ⊎_elim inl
    (λ free. ⊎_elim (λ memory. inr (inl memory)) (λ worn. inr (inr (worn, worn_out _ _ _ _ _ _ _ _ _ refl refl c.run.result (run.ran fields said) worn supply course status rest reading))) free)
    (only_memory c.run.result c.args.source.now (run.exact replayed) (λ e. never_rose (run.source_cause.cause e)) (λ e. never_rose (run.sink_cause.cause e))
    (λ e. never_rose (run.journal_cause.cause e)) (λ e. never_rose (run.cloud_cause e)) (λ damage. run.sound fields said damage sound) supply course status rest reading)
