use Rattle.std.proofs.Common.{◌≡◌, ℕ, List, true, false, Ok, arith, refl, sym, ◌∙◌, ap}
use Rattle.std.proofs.lemmas.Result.{err_from_is_err_and}
use Rattle.sky_journal.specs.Text.{◌>>=◌, Read, base_of, numbered}
use Rattle.sky_journal.specs.Looking.{area_in}
use Rattle.sky_journal.specs.AreasRead.{is_foreign_base}
use Rattle.sky_journal.proofs.AreaWords.{area_other, area_large, area_base, area_batches}
use Rattle.sky_journal.proofs.ReadingFaults.{says_handed}
use Rattle.sky_journal.proofs.area.read_area.Goals as goal

pub returns-then-branch-volume-clause-says : goal.returns-then-branch-volume-clause-says
returns-then-branch-volume-clause-says g c image shows =
    let value = c.in_ok-number_8_at.ensures.value image shows in
    area_other g.G.Grammar.is_entry c.args.volume (area_in c.args.span image) _ (λ e. c.if-branch-volume.true (value ∙ e))

pub returns-then-base-ge-MAX_NUMBER-clause-says : goal.returns-then-base-ge-MAX_NUMBER-clause-says
returns-then-base-ge-MAX_NUMBER-clause-says g c image shows =
    let first = c.in_ok-number_8_at.ensures.went.shows image shows in
    let same = sym (c.in_ok-number_8_at.ensures.value image shows) ∙ c.if-branch-volume.false in
    let base : c.in_ok-base.base ≡ base_of (area_in c.args.span image) = c.in_ok-base.ensures.value image first in
    area_large g.G.Grammar.is_entry c.args.volume (area_in c.args.span image) _ same (omega (arith, base, c.if-base-ge-MAX_NUMBER.true))

pub returns-then-is_foreign-clause-says : goal.returns-then-is_foreign-clause-says
returns-then-is_foreign-clause-says g c image shows =
    let first = c.in_ok-number_8_at.ensures.went.shows image shows in
    let same = sym (c.in_ok-number_8_at.ensures.value image shows) ∙ c.if-branch-volume.false in
    let base : c.in_ok-base.base ≡ base_of (area_in c.args.span image) = c.in_ok-base.ensures.value image first in
    let foreign : is_foreign_base c.args.allowed (base_of (area_in c.args.span image)) ≡ true =
    ap (λ (n : ℕ). is_foreign_base c.args.allowed n) (sym base) ∙ sym c.is_foreign.ensures ∙ c.if-is_foreign.true in
    area_base g.G.Grammar.is_entry c.args.volume (area_in c.args.span image) _ same (omega (arith, base, c.if-base-ge-MAX_NUMBER.false)) foreign

pub returns-in_err-filled-clause-says : goal.returns-in_err-filled-clause-says
returns-in_err-filled-clause-says g c image shows =
    let first = c.in_ok-number_8_at.ensures.went.shows image shows in
    let second = c.in_ok-base.ensures.went.shows image first in
    let same = sym (c.in_ok-number_8_at.ensures.value image shows) ∙ c.if-branch-volume.false in
    let base : c.in_ok-base.base ≡ base_of (area_in c.args.span image) = c.in_ok-base.ensures.value image first in
    let fine : is_foreign_base c.args.allowed (base_of (area_in c.args.span image)) ≡ false =
    ap (λ (n : ℕ). is_foreign_base c.args.allowed n) (sym base) ∙ sym c.is_foreign.ensures ∙ c.if-is_foreign.false in
    let rest = area_batches g.G.Grammar.is_entry c.args.volume (area_in c.args.span image) _ c.in_ok-base.base same (sym base) (omega (arith, c.if-base-ge-MAX_NUMBER.false)) fine in
    let p = err_from_is_err_and c.from_residual-in_err-filled.result c.from_residual-in_err-filled.ensures.1 in
    says_handed c.from_residual-in_err-filled.result p.0 _ _ _ _ _ p.1 p.2
    (λ place e. rest ∙ ap (λ (read : Read (List (List ℕ))). read >>= λ entries. Ok (numbered c.in_ok-base.base entries)) e) (c.in_err-filled.ensures.says image second)

pub returns-clause-says : goal.returns-clause-says
returns-clause-says g c image shows =
    let first = c.in_ok-number_8_at.ensures.went.shows image shows in
    let second = c.in_ok-base.ensures.went.shows image first in
    let same = sym (c.in_ok-number_8_at.ensures.value image shows) ∙ c.if-branch-volume.false in
    let base : c.in_ok-base.base ≡ base_of (area_in c.args.span image) = c.in_ok-base.ensures.value image first in
    let fine : is_foreign_base c.args.allowed (base_of (area_in c.args.span image)) ≡ false =
    ap (λ (n : ℕ). is_foreign_base c.args.allowed n) (sym base) ∙ sym c.is_foreign.ensures ∙ c.if-is_foreign.false in
    let rest = area_batches g.G.Grammar.is_entry c.args.volume (area_in c.args.span image) _ c.in_ok-base.base same (sym base) (omega (arith, c.if-base-ge-MAX_NUMBER.false)) fine in
    let said = c.in_ok-filled.ensures.says image second in (
      numbered c.in_ok-base.base said.0,
      rest ∙ ap (λ (read : Read (List (List ℕ))). read >>= λ entries. Ok (numbered c.in_ok-base.base entries)) said.1,
      record { entries = said.0; listed = refl; volume_is = same; base = sym base; filled = said.2.0; closed = said.2.1 },
    )
