use Rattle.std.proofs.Common.{◌∙◌, arith}
use Rattle.sky_segment.proofs.ObjectLaws.{object_again, length-object_bytes}
use Rattle.sky_segment.proofs.DraftLaws.{kept_size, kept_done}
use Rattle.sky_segment.proofs.builder.Builder.finish.Goals as goal

pub set_count-requires : goal.set_count-requires
set_count-requires c =
    omega (arith, kept_size c.self.inside.name c.self.inside.count c.self.inside.bytes.items c.args.self c.self.view_is c.self.invariant, length-object_bytes c.args.self.name c.args.self.items)

pub returns-clause-object : goal.returns-clause-object
returns-clause-object c =
    kept_done c.self.inside.name c.self.inside.count c.self.inside.bytes.items c.new.result c.args.self c.self.view_is c.self.invariant c.requires (c.new.ensures ∙ c.set_count.ensures)

pub returns-clause-read_again : goal.returns-clause-read_again
returns-clause-read_again c = object_again c.args.self.name c.new.result c.args.self.items (returns-clause-object c)
