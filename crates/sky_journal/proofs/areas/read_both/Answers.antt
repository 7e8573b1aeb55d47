use Rattle.std.proofs.Common.{sym, subst, List}
use Rattle.sky_journal.specs.Text.{Area, areas_entries, first_area, second_area}
use Rattle.sky_journal.specs.Looking.{Says}
use Rattle.sky_journal.specs.AreasRead.{AreLaid}
use Rattle.sky_journal.proofs.AreasLaid.{turned, straight}
use Rattle.sky_journal.proofs.areas.read_both.Goals as goal

pub returns-then-branch-clause-says : goal.returns-then-branch-clause-says
returns-then-branch-clause-says g c image shows gates =
    let order = turned (first_area c.args.size image) (second_area c.args.size image) c.in_ok-is_second_older.field-0 (c.in_ok-is_second_older.ensures.value image shows) c.if-branch.true in
    let said = c.read_ordered.ensures.says image (c.in_ok-is_second_older.ensures.went.shows image shows) (gates.1, gates.0) in
    subst (λ (l : List Area). Says c.read_ordered.result (areas_entries g.G.Grammar.is_entry c.args.volume c.args.covers l) (AreLaid c.args.volume c.args.size image)) (sym order) said

pub returns-clause-says : goal.returns-clause-says
returns-clause-says g c image shows gates =
    let order = straight (first_area c.args.size image) (second_area c.args.size image) c.in_ok-is_second_older.field-0 (c.in_ok-is_second_older.ensures.value image shows) c.if-branch.false in
    let said = c.read_ordered-2.ensures.says image (c.in_ok-is_second_older.ensures.went.shows image shows) gates in
    subst (λ (l : List Area). Says c.read_ordered-2.result (areas_entries g.G.Grammar.is_entry c.args.volume c.args.covers l) (AreLaid c.args.volume c.args.size image)) (sym order) said
