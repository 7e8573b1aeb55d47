-- How looks at a disk go on from one another.
use Rattle.std.proofs.Common.{◌∙◌, inr, Bool, false, refl}
use Rattle.std.proofs.lemmas.Bool.{false≢true}
use Rattle.sky_outside.specs.declared.storage.Storage.{Ghosts}
use Rattle.sky_outside.proofs.CountLaws.{counts_none, counts_then}
use Rattle.sky_outside.proofs.MomentLaws.{OnlyLooks-none, OnlyLooks-then}
use Rattle.sky_journal.specs.Looking.{Went}
use Rattle.sky_journal.specs.declared.pieces.Pieces.{Pieces}

-- no look yet
pub went_none : {S : Type 0} (g : Ghosts S) (a : S) (p : Pieces) → Went g a p a p false
went_none g a p = record {
  looks = OnlyLooks-none g a;
  cause = counts_none (g.disk_faults a) false≢true;
  cloud = refl;
  shows = λ image shows. shows;
}

-- looks that did not fail, and then others
pub went_then : {S : Type 0} (g : Ghosts S) (a b c : S) (p q r : Pieces) (failed : Bool) → Went g a p b q false → Went g b q c r failed → Went g a p c r failed
went_then g a b c p q r failed first second = record {
  looks = OnlyLooks-then g a b c first.looks second.looks;
  cause = counts_then (g.disk_faults a) (g.disk_faults b) (g.disk_faults c) first.cause second.cause (λ never. absurd (false≢true never)) (λ fails. fails) inr;
  cloud = second.cloud ∙ first.cloud;
  shows = λ image shows. second.shows image (first.shows image shows);
}
