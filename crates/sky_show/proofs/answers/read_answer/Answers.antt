use Rattle.sky_outside.proofs.ToldLaws.{Had-then}
use Rattle.sky_show.specs.Frames.{HadSome}
use Rattle.sky_show.proofs.Faults.{on_err}
use Rattle.sky_show.proofs.answers.read_answer.Goals as goal

pub returns-in_err-fill_some-clause-partly : goal.returns-in_err-fill_some-clause-partly
returns-in_err-fill_some-clause-partly g c =
    let more = c.in_err-fill_some.ensures.partly in
    let all : HadSome (g.S.Source.left c.args.source.now) (g.S.Source.left c.fill_some.new.source) = (_, Had-then _ _ _ _ more.0 c.in_ok-fill.ensures.ok more.1) in
    on_err _ all
