use Rattle.std.proofs.Common.{sym, ◌∙◌, subst, List}
use Rattle.sky_journal.specs.Text.{Area, areas_entries, first_area, second_area}
use Rattle.sky_journal.specs.Looking.{Says}
use Rattle.sky_journal.specs.AreasRead.{AreLaid}
use Rattle.sky_journal.proofs.AreasLaid.{open_both, open_first, open_second, none_laid, but_first, but_second}
use Rattle.sky_journal.proofs.areas.read_areas.Goals as goal

pub returns-then-two-clause-says : goal.returns-then-two-clause-says
returns-then-two-clause-says g c image shows =
    let first = c.in_ok-one.ensures.went.shows image shows in
    let one = sym (c.in_ok-one.ensures.value image shows) ∙ c.if-one.true in
    let two = sym (c.in_ok-two.ensures.value image first) ∙ c.if-two.true in
    let said = c.read_both.ensures.says image (c.in_ok-two.ensures.went.shows image first) (one, two) in
    subst (λ (l : List Area). Says c.read_both.result (areas_entries g.G.Grammar.is_entry c.args.volume c.args.covers l) (AreLaid c.args.volume c.args.size image))
    (sym (open_both (first_area c.args.size image) (second_area c.args.size image) one two)) said

pub returns-then-one-clause-says : goal.returns-then-one-clause-says
returns-then-one-clause-says g c image shows =
    let first = c.in_ok-one.ensures.went.shows image shows in
    let one = sym (c.in_ok-one.ensures.value image shows) ∙ c.if-one.true in
    let two = sym (c.in_ok-two.ensures.value image first) ∙ c.if-two.false in
    let said = c.read_only.ensures.says image (c.in_ok-two.ensures.went.shows image first) (record { gate = one; others = λ start half other. but_first c.args.size image start two half other }) in
    subst (λ (l : List Area). Says c.read_only.result (areas_entries g.G.Grammar.is_entry c.args.volume c.args.covers l) (AreLaid c.args.volume c.args.size image))
    (sym (open_first (first_area c.args.size image) (second_area c.args.size image) one two)) said

pub returns-then-two-2-clause-says : goal.returns-then-two-2-clause-says
returns-then-two-2-clause-says g c image shows =
    let first = c.in_ok-one.ensures.went.shows image shows in
    let one = sym (c.in_ok-one.ensures.value image shows) ∙ c.if-one.false in
    let two = sym (c.in_ok-two.ensures.value image first) ∙ c.if-two-2.true in
    let said = c.read_only-then-two-2.ensures.says image (c.in_ok-two.ensures.went.shows image first) (record { gate = two; others = λ start half other. but_second c.args.size image start one half other }) in
    subst (λ (l : List Area). Says c.read_only-then-two-2.result (areas_entries g.G.Grammar.is_entry c.args.volume c.args.covers l) (AreLaid c.args.volume c.args.size image))
    (sym (open_second (first_area c.args.size image) (second_area c.args.size image) one two)) said

pub returns-clause-says : goal.returns-clause-says
returns-clause-says g c image shows =
    let first = c.in_ok-one.ensures.went.shows image shows in
    let one = sym (c.in_ok-one.ensures.value image shows) ∙ c.if-one.false in
    let two = sym (c.in_ok-two.ensures.value image first) ∙ c.if-two-2.false in
    none_laid g.G.Grammar.is_entry c.args.volume c.args.covers c.args.size image one two
