use Rattle.std.proofs.Common.{◌≡◌, ◌-◌, ◌≤◌, ◌++◌, ℕ, List, length, take, sym, ap, ◌∙◌, subst, arith, length-append, length-take}
use Rattle.sky_record.specs.declared.assembler.State.{State}
use Rattle.sky_record.specs.declared.assembler.State.TheVariants.{Header}
use Rattle.sky_record.specs.Stream.{Progress, AtHeader, InFragment, Received, IsSoFar, Comes}
use Rattle.sky_record.specs.Parts.{with_due, with_header, progress_of, StateFits}
use Rattle.sky_record.proofs.Sound.{header_goes_on, fragment_goes_on, IsBytes, IsBytes-append, IsBytes-take}
use Rattle.sky_record.proofs.assembler.Assembler.take_some.Goals as goal

pub returns-in-Header-clause-goes_on : goal.returns-in-Header-clause-goes_on
returns-in-Header-clause-goes_on c =
    let a = c.self.inside in
    let p = c.args.piece.now in
    let k = c.take_header-state.result.1 in
    let count = c.in-Header.count in
    let part = take count a.header in
    let e = c.take_header-state.ensures in
    let size-is : c.len-had.result ≡ length a.bytes.items = c.len-had.ensures ∙ a.bytes.ok.0 in
    let kept : StateFits (length a.bytes.items) (Header count) = subst (StateFits (length a.bytes.items)) c.in-Header.is c.self.invariant.fits in
    let short : length (part ++ take k p) ≤ 4 = omega (arith, length-append part (take k p), length-take count a.header, length-take k p, e.taken, kept.0) in
    let bytes : IsBytes (part ++ take k p) = IsBytes-append part (take k p) (IsBytes-take count a.header e.header) (IsBytes-take k p (λ i. omega (arith, c.type_inv.piece i))) in
    let state : with_header (length a.bytes.items) (part ++ take k p) ≡ progress_of c.take_header-state.new.header c.take_header-state.result.0 = ap (λ (n : ℕ). with_header n (part ++ take k p)) (sym size-is) ∙ sym e.state in
    λ text comes.
    let before : IsSoFar text a.bytes.items (progress_of a.header a.state) = subst (λ (r : Received). Comes text r) (sym c.self.view_is) comes in
    let here : IsSoFar text a.bytes.items (AtHeader part) = subst (λ (s : State). IsSoFar text a.bytes.items (progress_of a.header s)) c.in-Header.is before in
    subst (λ (q : Progress). IsSoFar (text ++ take k p) a.bytes.items q) state (header_goes_on text a.bytes.items part (take k p) here short bytes)

pub returns-in-Fragment-clause-goes_on : goal.returns-in-Fragment-clause-goes_on
returns-in-Fragment-clause-goes_on c =
    let a = c.self.inside in
    let p = c.args.piece.now in
    let k = c.take_fragment-state.result.1 in
    let last = c.in-Fragment.last in
    let due = c.in-Fragment.due in
    let e = c.take_fragment-state.ensures in
    let k-is : length (take k p) ≡ k = omega (arith, length-take k p, e.taken) in
    λ text comes.
    let before : IsSoFar text a.bytes.items (progress_of a.header a.state) = subst (λ (r : Received). Comes text r) (sym c.self.view_is) comes in
    let here : IsSoFar text a.bytes.items (InFragment last due) = subst (λ (s : State). IsSoFar text a.bytes.items (progress_of a.header s)) c.in-Fragment.is before in
    let after = fragment_goes_on text a.bytes.items (take k p) last due here (omega (arith, k-is, e.taken)) in
    let state : with_due last (due - length (take k p)) ≡ progress_of a.header c.take_fragment-state.result.0 = ap (λ (n : ℕ). with_due last (due - n)) k-is ∙ sym (e.state a.header) in
    let all : IsSoFar (text ++ take k p) (a.bytes.items ++ take k p) (progress_of a.header c.take_fragment-state.result.0) = subst (λ (q : Progress). IsSoFar (text ++ take k p) (a.bytes.items ++ take k p) q) state after in
    subst (λ (b : List ℕ). IsSoFar (text ++ take k p) b (progress_of a.header c.take_fragment-state.result.0)) (sym e.bytes) all
