use Rattle.std.proofs.Common.{List, ℕ, ◌∙◌, subst}
use Rattle.std.proofs.lemmas.Bool.{false≢true}
use Rattle.sky_outside.specs.Told.{Given}
use Rattle.sky_outside.proofs.Parts.{next_part, part_within}
use Rattle.sky_outside.proofs.ToldLaws.{Given-then}
use Rattle.sky_outside.proofs.whole.write_all.Goals as goal

pub loop-at-preserved : goal.loop-at-preserved
loop-at-preserved g c =
    let given = Given-then _ _ _ _ _ c.loop-at.invariant.given c.in_ok-at.ensures.bytes in
    record {
      within = part_within c.args.bytes.now c.loop-at.at c.in_ok-at.field-0 c.loop-at.invariant.within c.in_ok-at.ensures.within;
      given = subst (λ (bytes : List ℕ). Given (g.K.Sink.written c.args.sink.now) (g.K.Sink.written c.write.new.self) bytes) (next_part c.args.bytes.now c.loop-at.at c.in_ok-at.field-0) given;
      quiet = c.in_ok-at.ensures.cause.quiet false≢true ∙ c.loop-at.invariant.quiet;
    }
