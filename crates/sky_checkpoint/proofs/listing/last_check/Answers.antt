use Rattle.std.proofs.Common.{◌≡◌, ◌+◌, ◌++◌, ◌∷◌, [], take, subst, List, Option, ℕ}
use Rattle.std.proofs.lemmas.List.{take_all, take_more}
use Rattle.sky_base.specs.declared.object.SegName.{SegName}
use Rattle.sky_outside.specs.declared.site.Held.{Held}
use Rattle.sky_checkpoint.specs.Listing.{with_name}
use Rattle.sky_checkpoint.specs.SoFar.{LastSoFar}
use Rattle.sky_checkpoint.proofs.ListingLaws.{last_is, last_with_name, none_listed, one_behind}
use Rattle.sky_checkpoint.proofs.listing.last_check.Goals as goal

-- what was seen, and the next name
with_next : (names : List Held) (i : ℕ) (held : Held) (last next : Option SegName) → take (i + 1) names ≡ take i names ++ held ∷ [] → LastSoFar (take i names) last
    → next ≡ with_name last held.name → LastSoFar (take (i + 1) names) next
with_next names i held last next more found is =
    rw (more, is) (last_with_name (take i names) held (take i names ++ held ∷ []) (one_behind (take i names) held) last found)

pub loop-held-preserved : goal.loop-held-preserved
loop-held-preserved c =
    with_next c.args.names.now c.loop-held.held-index _ c.loop-held.last c.last_with-last.result (take_more c.args.names.now c.loop-held.held-index _ c.loop-held-test.true) c.loop-held.invariant
    c.last_with-last.ensures

pub returns-clause-value : goal.returns-clause-value
returns-clause-value c =
    last_is c.args.names.now c.loop-held.last
    (subst (λ (seen : List Held). LastSoFar seen c.loop-held.last) (take_all c.loop-held.held-index c.args.names.now c.loop-held-test.false) c.loop-held.invariant)

pub returns-clause-none : goal.returns-clause-none
returns-clause-none c =
    none_listed c.args.names.now c.loop-held.last
    (subst (λ (seen : List Held). LastSoFar seen c.loop-held.last) (take_all c.loop-held.held-index c.args.names.now c.loop-held-test.false) c.loop-held.invariant)
