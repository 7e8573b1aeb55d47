use Rattle.std.proofs.Common.{ℕ, List, ◌++◌, sym, refl, subst}
use Rattle.sky_script.specs.Frame.{header}
use Rattle.sky_script.specs.Beginning.{IsRefused, refused_header}
use Rattle.sky_script.proofs.Taken.{cut_in_payload, refused_whole, on_err_told}
use Rattle.sky_script.proofs.reading.read_frame.Goals as goal

pub returns-then-not-is_header-clause-malformed : goal.returns-then-not-is_header-clause-malformed
returns-then-not-is_header-clause-malformed g c =
    let h = c.in_ok-header.header in
    let fits = c.in_ok-header.ensures.fits in
    λ told. (header h.kind h.session h.length, refused_header h.kind h.session h.length fits.0 fits.1 fits.2 refl (sym c.if-not-is_header.ensures), c.in_ok-header.ensures.ok)

pub returns-in_err-take_in-clause-early : goal.returns-in_err-take_in-clause-early
returns-in_err-take_in-clause-early g c =
    let h = c.in_ok-header.header in
    λ told. cut_in_payload _ _ _ h.kind h.session h.length _ (sym c.if-not-is_header.ensures) c.in_ok-header.ensures.ok c.in_err-take_in.ensures.partly

pub returns-in_err-take_in-clause-fault : goal.returns-in_err-take_in-clause-fault
returns-in_err-take_in-clause-fault g c =
    let h = c.in_ok-header.header in
    λ told. cut_in_payload _ _ _ h.kind h.session h.length _ (sym c.if-not-is_header.ensures) c.in_ok-header.ensures.ok c.in_err-take_in.ensures.partly

pub returns-clause-malformed : goal.returns-clause-malformed
returns-clause-malformed g c =
    let h = c.in_ok-header.header in
    λ told.
    let refused = on_err_told c.frame_with.result _ told c.frame_with.ensures.refused in
    let moved = subst (λ (x : List ℕ). IsRefused (header h.kind h.session h.length ++ x)) c.prefix.ensures refused in
    refused_whole _ _ _ h.kind h.session h.length _ c.in_ok-header.ensures.ok c.in_ok-take_in.ensures.ok moved
