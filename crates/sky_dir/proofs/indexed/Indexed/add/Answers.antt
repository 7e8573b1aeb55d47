-- nothing goes where the name isn't there
use Rattle.std.proofs.Common.{ap, sym, ◌∙◌}
use Rattle.sky_base.specs.Listing.{Listing, with_entry}
use Rattle.sky_dir.proofs.SizeLemmas.{size_stays}
use Rattle.sky_dir.proofs.indexed.Indexed.add.Goals as goal

pub returns-clause-added : goal.returns-clause-added
returns-clause-added c =
    c.in_ok-replace.ensures.replaced ∙ ap (λ (l : Listing). with_entry l c.args.name c.args.fileid) (size_stays c.args.self.now c.args.name (sym c.requires.absent))
