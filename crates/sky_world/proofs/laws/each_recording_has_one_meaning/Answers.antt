use Rattle.std.proofs.Common.{refl}
use Rattle.sky_world.specs.Meaning.{start}
use Rattle.sky_world.proofs.FrameLaws.{frames_some, frames_one}
use Rattle.sky_world.proofs.HistoryLaws.{steps_told}
use Rattle.sky_world.proofs.laws.each_recording_has_one_meaning.Goals as goal

pub returns-clause-some : goal.returns-clause-some
returns-clause-some c = frames_some

pub returns-clause-one : goal.returns-clause-one
returns-clause-one c = λ told found frames outs others last other seen first second. frames_one told (start told found) frames outs others last other refl seen first second

pub returns-clause-told : goal.returns-clause-told
returns-clause-told c = λ told found frames outs others last other seen first none second no.
    frames_one told (start told found) frames outs others last other refl seen (steps_told (start told found) frames outs last first none) (steps_told (start told found) frames others other second no)
