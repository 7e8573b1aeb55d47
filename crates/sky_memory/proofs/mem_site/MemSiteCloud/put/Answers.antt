use Rattle.sky_memory.proofs.SiteMeets.{put_time, put_disk, put_stored, put_failed, put_memory, put_made, put_answers}
use Rattle.sky_memory.proofs.mem_site.MemSiteCloud.put.Goals as goal

pub returns-clause-stored : goal.returns-clause-stored
returns-clause-stored c = put_stored c.args.name c.args.bytes.now _ c.store.result c.args.self.now c.store.new.self c.store.ensures.made

pub returns-clause-failed : goal.returns-clause-failed
returns-clause-failed c = put_failed c.args.name c.args.bytes.now _ c.store.result c.args.self.now c.store.new.self c.store.ensures.made

pub returns-clause-time : goal.returns-clause-time
returns-clause-time c = put_time c.args.name c.args.bytes.now _ c.store.result c.args.self.now c.store.new.self c.store.ensures.made

pub returns-clause-beside : goal.returns-clause-beside
returns-clause-beside c = put_disk c.args.name c.args.bytes.now _ c.store.result c.args.self.now c.store.new.self c.store.ensures.made

pub returns-clause-memory : goal.returns-clause-memory
returns-clause-memory c = put_memory c.args.name c.args.bytes.now _ c.store.result c.args.self.now c.store.new.self c.store.ensures.made

pub returns-clause-made : goal.returns-clause-made
returns-clause-made c = put_made c.args.name c.args.bytes.now _ c.store.result c.args.self.now c.store.new.self c.store.ensures.made

pub returns-clause-answer : goal.returns-clause-answer
returns-clause-answer c = put_answers c.args.name c.args.bytes.now _ c.store.result c.args.self.now c.store.new.self c.store.ensures.made
