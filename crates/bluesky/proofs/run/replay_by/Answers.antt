use Rattle.bluesky.proofs.Asked.{ran_unsaid, unsaid_of}
use Rattle.bluesky.proofs.OneReading.{ran_exact}
use Rattle.bluesky.proofs.run.replay_by.Goals as goal

pub returns-in-Ok-clause-exact : goal.returns-in-Ok-clause-exact
returns-in-Ok-clause-exact g c = λ replayed. ran_exact g.P.Storage _ _ _ c.replay.result _ _ _ c.replay.ensures.ran replayed

pub returns-in-Err-Memory-clause-ran : goal.returns-in-Err-Memory-clause-ran
returns-in-Err-Memory-clause-ran g c =
    λ fields said.
    ran_unsaid g.P.Storage fields c.args.site.now _ _ c.end_without_settings.result c.requires.settled (unsaid_of c.end_without_settings.result c.end_without_settings.ensures.statuses) c.end_without_settings.ensures.gave
