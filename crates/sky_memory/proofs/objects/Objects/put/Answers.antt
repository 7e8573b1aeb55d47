use Rattle.std.proofs.Common.{◌≡◌, refl, rules}
use Rattle.std.proofs.lemmas.Map.Views.{All-keys-insert_entry}
use Rattle.sky_base.proofs.OrderLaws.{name_cmp}
use Rattle.sky_memory.specs.Objects.{IsInRange}
use Rattle.sky_memory.proofs.ObjectLaws.{put_in}
use Rattle.sky_memory.proofs.objects.Objects.put.Goals as goal

pub invariant_of-self-2 : goal.invariant_of-self-2
invariant_of-self-2 c = rw c.in_ok-insert.ensures.entries (All-keys-insert_entry name_cmp c.args.name c.in_ok-to_vec.field-0 IsInRange _ c.self.invariant c.requires)

pub returns-clause-ok : goal.returns-clause-ok
returns-clause-ok c =
    let copied : c.in_ok-to_vec.field-0.items ≡ c.args.bytes.now = search rules in
    put_in c.self.inside.held c.insert.new.self c.args.self.now _ c.args.name c.in_ok-to_vec.field-0 c.args.bytes.now c.self.view_is refl c.in_ok-insert.ensures.updates copied
