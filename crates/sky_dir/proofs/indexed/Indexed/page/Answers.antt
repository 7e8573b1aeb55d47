-- the part of the map behind a cookie is what has a greater one
use Rattle.std.proofs.Common.{ap, ◌∙◌, map, filter, nat_lt}
use Rattle.sky_base.specs.Listing.{Listing}
use Rattle.sky_dir.specs.Items.{item_entry}
use Rattle.sky_dir.proofs.KeptLemmas.{entries_behind}
use Rattle.sky_dir.proofs.indexed.Indexed.page.Goals as goal

pub returns-clause-entries : goal.returns-clause-entries
returns-clause-entries c =
    c.of_range.ensures ∙ ap (map item_entry) (c.range.ensures.between tt) ∙ entries_behind c.args.after c.self.inside.items.entries ∙ ap (λ (l : Listing). filter (λ e. nat_lt c.args.after e.cookie) l.entries) c.self.view_is
