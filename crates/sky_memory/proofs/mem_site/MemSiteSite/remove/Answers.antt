use Rattle.std.proofs.Common.{[], refl}
use Rattle.sky_memory.specs.declared.record.Step.TheVariants.{Remove}
use Rattle.sky_memory.proofs.SiteMeets.{time, same_disk, remove_ok, remove_any, on_any}
use Rattle.sky_memory.proofs.mem_site.MemSiteSite.remove.Goals as goal

pub returns-clause-removed : goal.returns-clause-removed
returns-clause-removed c = remove_ok c.args.self.now c.discard.new.self _ c.discard.result c.discard.ensures.answer c.args.name c.discard.ensures.made

pub returns-clause-failed : goal.returns-clause-failed
returns-clause-failed c = on_any c.discard.result _ (remove_any c.args.self.now c.discard.new.self _ c.args.name c.discard.ensures.made)

pub returns-clause-time : goal.returns-clause-time
returns-clause-time c = time c.args.self.now c.discard.new.self (Remove c.args.name) [] _ c.discard.ensures.made

pub returns-clause-beside : goal.returns-clause-beside
returns-clause-beside c = same_disk c.args.self.now c.discard.new.self (Remove c.args.name) [] _ c.discard.ensures.made refl refl
