use Rattle.std.proofs.Common.{ℕ, Vec, sym, ◌∙◌, ap}
use Rattle.std.specs.declared.alloc.Global.{Global}
use Rattle.std.specs.Option.{option_map}
use Rattle.std.specs.FinMap.{get}
use Rattle.sky_memory.specs.Objects.{map_of}
use Rattle.sky_memory.proofs.ObjectLaws.{object_seen, get_in}
use Rattle.sky_memory.proofs.objects.Objects.get.Goals as goal

pub returns : goal.returns
returns c =
    object_seen c.get.result
    ∙ ap (option_map (λ (v : Vec ℕ Global). v.items)) c.get.ensures.value
    ∙ sym (get_in c.self.inside.held.entries c.args.name)
    ∙ ap (λ objects. get (map_of objects) c.args.name) c.self.view_is
