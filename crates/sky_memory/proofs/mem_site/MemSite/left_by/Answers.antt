use Rattle.std.proofs.Common.{◌≡◌, ◌≤◌, length, take, Some, slice_get, ap, ◌∙◌, subst, arith}
use Rattle.sky_memory.specs.MemSite.{MemSiteState}
use Rattle.sky_memory.specs.Past.{Call, at_first, after_calls}
use Rattle.sky_memory.proofs.StopLaws.{left_beyond, left_within, IfOk-map}
use Rattle.sky_memory.proofs.mem_site.MemSite.left_by.Goals as goal

pub returns-then-call-count : goal.returns-then-call-count
returns-then-call-count c =
    let m = c.args.self.now in
    let counts : c.len-count.result ≡ length m.noted.calls = c.len-count.ensures ∙ ap (λ (m : MemSiteState). length m.noted.calls) c.self.view_is in
    let beyond : c.len-count.result ≤ c.args.call = omega (arith, c.if-call-count.true) in
    IfOk-map c.replayed.result _ _ (λ past at. left_beyond past c.args.part m.noted.calls c.len-count.result c.args.call (at_first m.first) counts beyond at) c.replayed.ensures

pub returns : goal.returns
returns c =
    let m = c.args.self.now in
    let call : Call = record { step = c.get-step.result.0; bytes = c.get-step.result.2.now; happened = c.get-step.result.1 } in
    let found = subst (λ (m : MemSiteState). slice_get m.noted.calls c.args.call ≡ Some call) c.self.view_is c.get-step.ensures.call in
    left_within c.stop.new.self c.args.part m.noted.calls c.args.call (at_first m.first) call found
    (c.in_ok-stop.ensures (after_calls (take c.args.call m.noted.calls) (at_first m.first)) c.in_ok-past.ensures)
