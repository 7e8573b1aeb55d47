use Rattle.std.specs.Prelude.{IfSome}
use Rattle.std.proofs.Common.{◌≡◌, ◌≤◌, ◌+◌, ℕ, Option, Some, None, length, arith, sym, ◌∙◌, subst}
use Rattle.sky_journal.specs.Looking.{area_in}
use Rattle.sky_journal.proofs.Passes.{area-length, next_found, foreign_stays, foreign_comes, foreign_none}
use Rattle.sky_journal.proofs.one_batch.next_mark.Goals as goal

pub returns-then-is_some-clause-next : goal.returns-then-is_some-clause-next
returns-then-is_some-clause-next g c image shows =
    let long : length (area_in c.args.span image).bytes ≡ c.args.span.size = area-length g.D.Storage c.args.disk.now c.args.pieces.now image c.args.span shows c.requires.within in
    let inside : c.args.end ≤ length (area_in c.args.span image).bytes = omega (arith, long, c.requires.inside) in
    let fits : c.args.mark.at + c.in-Some.n ≤ c.args.end = subst (λ (o : Option ℕ). IfSome o (λ n. c.args.mark.at + n ≤ c.args.end)) c.in-Some.is c.in_ok-n.ensures.range in
    next_found g.G.Grammar.is_entry (area_in c.args.span image) c.args.end c.args.mark c.in-Some.n c.in_ok-n.field-0 c.args.mark.foreign c.in-Some.is (c.in_ok-n.ensures.first image shows) fits inside
    (foreign_stays c.args.mark.foreign _ _ (sym c.is_some.ensures ∙ c.if-is_some.true))

pub returns-then-is-clause-next : goal.returns-then-is-clause-next
returns-then-is-clause-next g c image shows =
    let long : length (area_in c.args.span image).bytes ≡ c.args.span.size = area-length g.D.Storage c.args.disk.now c.args.pieces.now image c.args.span shows c.requires.within in
    let inside : c.args.end ≤ length (area_in c.args.span image).bytes = omega (arith, long, c.requires.inside) in
    let fits : c.args.mark.at + c.in-Some.n ≤ c.args.end = subst (λ (o : Option ℕ). IfSome o (λ n. c.args.mark.at + n ≤ c.args.end)) c.in-Some.is c.in_ok-n.ensures.range in
    let value = c.in_ok-is.ensures.value image (c.in_ok-n.ensures.went.shows image shows) in
    next_found g.G.Grammar.is_entry (area_in c.args.span image) c.args.end c.args.mark c.in-Some.n c.in_ok-n.field-0 None c.in-Some.is (c.in_ok-n.ensures.first image shows) fits inside
    (foreign_none c.args.mark.foreign _ _ (sym c.is_some.ensures ∙ c.if-is_some.false) (sym value ∙ c.if-is.true))

pub returns-else-is-clause-next : goal.returns-else-is-clause-next
returns-else-is-clause-next g c image shows =
    let long : length (area_in c.args.span image).bytes ≡ c.args.span.size = area-length g.D.Storage c.args.disk.now c.args.pieces.now image c.args.span shows c.requires.within in
    let inside : c.args.end ≤ length (area_in c.args.span image).bytes = omega (arith, long, c.requires.inside) in
    let fits : c.args.mark.at + c.in-Some.n ≤ c.args.end = subst (λ (o : Option ℕ). IfSome o (λ n. c.args.mark.at + n ≤ c.args.end)) c.in-Some.is c.in_ok-n.ensures.range in
    let value = c.in_ok-is.ensures.value image (c.in_ok-n.ensures.went.shows image shows) in
    next_found g.G.Grammar.is_entry (area_in c.args.span image) c.args.end c.args.mark c.in-Some.n c.in_ok-n.field-0 (Some (c.args.span.start + c.args.mark.at)) c.in-Some.is (c.in_ok-n.ensures.first image shows) fits inside
    (foreign_comes c.args.mark.foreign _ _ (sym c.is_some.ensures ∙ c.if-is_some.false) (sym value ∙ c.if-is.false))
