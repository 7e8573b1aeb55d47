use Rattle.std.proofs.Common.{length, sym, ap, ◌∙◌}
use Rattle.sky_base.proofs.NameTextLaws.{name_text-length}
use Rattle.sky_base.proofs.object.SegName.from_text.Goals as goal

pub returns-then-text-ne-TEXT-clause-reads : goal.returns-then-text-ne-TEXT-clause-reads
returns-then-text-ne-TEXT-clause-reads c = λ name numbered text.
    absurd (c.if-text-ne-TEXT.true (sym (ap length text) ∙ name_text-length name))
