use Rattle.std.proofs.Common.{Bool, sym, ◌∙◌, ap, refl}
use Rattle.std.specs.Prelude.{not, ◌&&◌}
use Rattle.sky_journal.specs.Layout.{is_open, area_header}
use Rattle.sky_journal.specs.Looking.{area_in}
use Rattle.sky_journal.proofs.AreasWords.{by_bases, by_gates}
use Rattle.sky_journal.proofs.areas.is_second_older.Goals as goal

pub returns-then-base-other-clause-value : goal.returns-then-base-other-clause-value
returns-then-base-other-clause-value g c image shows =
    let first = c.in_ok-base.ensures.value image shows in
    let second = c.in_ok-other.ensures.value image (c.in_ok-base.ensures.went.shows image shows) in
    by_bases (area_in c.args.first image) (area_in c.args.second image) c.in_ok-base.base c.in_ok-other.other first second c.if-base-other.true

pub returns-then-not-branch-clause-value : goal.returns-then-not-branch-clause-value
returns-then-not-branch-clause-value g c image shows =
    let one = c.in_ok-base.ensures.went.shows image shows in
    let first = c.in_ok-base.ensures.value image shows in
    let second = c.in_ok-other.ensures.value image one in
    let gate = c.in_ok-gate_at.ensures.value image (c.in_ok-other.ensures.went.shows image one) in
    let last : Bool = is_open area_header (area_in c.args.second image).bytes in
    ap (λ (r : Bool). r && not last) (sym c.if-not-branch.true)
    ∙ by_gates (area_in c.args.first image) (area_in c.args.second image) c.in_ok-base.base c.in_ok-other.other c.in_ok-gate_at.field-0 last first second c.if-base-other.false gate refl

pub returns-clause-value : goal.returns-clause-value
returns-clause-value g c image shows =
    let one = c.in_ok-base.ensures.went.shows image shows in
    let two = c.in_ok-other.ensures.went.shows image one in
    let first = c.in_ok-base.ensures.value image shows in
    let second = c.in_ok-other.ensures.value image one in
    let gate = c.in_ok-gate_at.ensures.value image two in
    let other = c.in_ok-gate_at-2.ensures.value image (c.in_ok-gate_at.ensures.went.shows image two) in
    ap (λ (r : Bool). r && not c.in_ok-gate_at-2.field-0) (sym c.if-not-branch.false)
    ∙ by_gates (area_in c.args.first image) (area_in c.args.second image) c.in_ok-base.base c.in_ok-other.other c.in_ok-gate_at.field-0 c.in_ok-gate_at-2.field-0 first second c.if-base-other.false gate other
