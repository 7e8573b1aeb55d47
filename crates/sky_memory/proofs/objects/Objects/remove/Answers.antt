use Rattle.std.proofs.Common.{refl}
use Rattle.std.specs.BTreeMap.{is_at}
use Rattle.std.proofs.lemmas.Map.Views.{All-map-remove_entry}
use Rattle.sky_base.proofs.OrderLaws.{name_cmp}
use Rattle.sky_memory.specs.Objects.{IsInRange}
use Rattle.sky_memory.proofs.ObjectLaws.{removed_in}
use Rattle.sky_memory.proofs.objects.Objects.remove.Goals as goal

pub invariant_of-self : goal.invariant_of-self
invariant_of-self c = rw c.remove.ensures.entries (All-map-remove_entry (is_at (name_cmp c.args.name)) (λ e. e.0) IsInRange _ c.self.invariant)

pub returns : goal.returns
returns c =
    removed_in c.self.inside.held c.remove.new.self c.args.self.now _ c.args.name c.self.view_is refl c.remove.ensures.updates
