use Rattle.std.proofs.Common.{◌≡◌, ℕ, List, length, min, sym, ◌∙◌, ap, subst}
use Rattle.sky_outside.specs.CloudMap.{CloudMap}
use Rattle.sky_memory.specs.Objects.{map_of}
use Rattle.sky_memory.specs.MemSite.{MemSiteState, now_at}
use Rattle.sky_memory.specs.Past.{at_first, stopped_at, LeavesSince}
use Rattle.sky_memory.proofs.StopLaws.{stop_among, IfOk-map}
use Rattle.sky_memory.proofs.mem_site.MemSite.stopped.Goals as goal

pub returns-clause-among : goal.returns-clause-among
returns-clause-among c =
    let m = c.args.self.now in
    let stop = stopped_at c.args.part m.noted.calls c.args.call (at_first m.first) in
    let t = min c.args.call (length m.noted.calls) in
    let left = c.in_ok-past.ensures in
    IfOk-map c.fresh.result _ _
    (λ site is.
    let image : stop.0 ≡ (now_at site).image = sym (ap (λ (s : MemSiteState). (now_at s).image) is ∙ left.left) in
    let objects : stop.1 ≡ (now_at site).objects = sym (ap (λ (s : MemSiteState). (now_at s).objects) is ∙ ap map_of c.in_ok-held.ensures.objects ∙ left.held) in
    subst (λ (l : List ℕ). LeavesSince (at_first m.first) m.noted.calls t l (now_at site).objects) image
    (subst (λ (held : CloudMap). LeavesSince (at_first m.first) m.noted.calls t stop.0 held) objects (stop_among c.args.part m.first m.noted.calls c.args.call))) c.fresh.ensures
