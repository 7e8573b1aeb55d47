use Rattle.std.proofs.Common.{subst}
use Rattle.sky_checkpoint.specs.SoFar.{LeastSoFar}
use Rattle.sky_checkpoint.proofs.ListingLaws.{least_first, least_lesser, least_skips, isnt_true, is_true}
use Rattle.sky_checkpoint.proofs.listing.least_with.Goals.{then-not-is_check_of-via-then-not-is_check_of, then-not-is_check_of-via-else-not-is_check_of+then-name-above}
use Rattle.sky_checkpoint.proofs.listing.least_with.Goals as goal

pub returns-then-not-is_check_of : goal.returns-then-not-is_check_of
returns-then-not-is_check_of c = λ listed found.
    elim c.then-not-is_check_of.branch [
      | then-not-is_check_of-via-then-not-is_check_of w ↦
          least_skips listed c.args.held.now c.args.above c.args.least (λ is. absurd (isnt_true c.is_check_of.ensures w.if-not-is_check_of.true is)) found
      | then-not-is_check_of-via-else-not-is_check_of+then-name-above w ↦
          least_skips listed c.args.held.now c.args.above c.args.least (λ is. w.if-name-above.true) found
    ]

pub returns-in-Some : goal.returns-in-Some
returns-in-Some c = λ listed found.
    rw c.min.ensures
    (least_lesser listed c.args.held.now c.args.above c.in-Some.other (is_true c.is_check_of.ensures c.if-not-is_check_of.false) c.if-name-above.false
    (subst (LeastSoFar listed c.args.above) c.in-Some.is found))

pub returns-in-None : goal.returns-in-None
returns-in-None c = λ listed found.
    least_first listed c.args.held.now c.args.above (is_true c.is_check_of.ensures c.if-not-is_check_of.false) c.if-name-above.false
    (subst (LeastSoFar listed c.args.above) c.in-None.is found)
