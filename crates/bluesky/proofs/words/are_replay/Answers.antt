use Rattle.std.proofs.Common.{◌≡◌, ◌∙◌, Ok, ap, sym}
use Rattle.sky_words.specs.declared.command.Command.{Command}
use Rattle.sky_words.specs.declared.command.Command.TheVariants.{Replay}
use Rattle.bluesky.proofs.words.are_replay.Goals as goal

pub returns-in-Ok : goal.returns-in-Ok
returns-in-Ok c = (
  λ true. (c.read_words.ensures.command Replay).0 (c.in-Ok.is ∙ ap Ok (c.is_replay.ensures.0 true)),
  λ says. let same : c.in-Ok.command ≡ Replay = (let e : Ok c.in-Ok.command ≡ Ok Replay = sym c.in-Ok.is ∙ (c.read_words.ensures.command Replay).1 says in cc) in c.is_replay.ensures.1 same,
)

pub returns-in-Err : goal.returns-in-Err
returns-in-Err c = (λ false. absurd cc, λ says. let e : c.read_words.result ≡ Ok Replay = (c.read_words.ensures.command Replay).1 says in absurd cc)
