use Rattle.std.proofs.lemmas.Map.Views.{All-keys-insert_entry}
use Rattle.sky_base.proofs.OrderLaws.{name_cmp}
use Rattle.sky_base.specs.NameText.{IsNumbered}
use Rattle.sky_real.proofs.lengths.Lengths.note.Goals as goal

pub invariant_of-self-2 : goal.invariant_of-self-2
invariant_of-self-2 c = rw c.in_ok-insert.ensures.entries (All-keys-insert_entry name_cmp c.args.name c.args.length IsNumbered _ c.self.invariant c.requires)
