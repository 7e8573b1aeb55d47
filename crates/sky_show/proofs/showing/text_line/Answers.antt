use Rattle.std.proofs.Common.{rules, ◌≡◌, ◌∙◌, ◌++◌, List, ℕ, ap, refl}
use Rattle.sky_show.specs.Frames.{parts_of}
use Rattle.sky_show.specs.Line.{line}
use Rattle.sky_show.specs.Shown.{head_of}
use Rattle.sky_show.proofs.showing.text_line.Goals as goal

pub returns-in-Ok-clause-line : goal.returns-in-Ok-clause-line
returns-in-Ok-clause-line g c =
    let text = c.as_str-2.result.now in
    let head : c.as_str.result.now ≡ head_of c.args.answer.now.kind c.args.answer.now.session = search rules in
    (record { answer = parts_of c.args.answer.now; text = text }, refl, c.in-Ok.ensures ∙ ap (λ (x : List ℕ). line (x ++ text)) head)
