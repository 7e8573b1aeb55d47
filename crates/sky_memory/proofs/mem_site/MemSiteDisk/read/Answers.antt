use Rattle.std.proofs.Common.{ℕ, List, [], length, refl, ap, ◌∙◌}
use Rattle.sky_outside.specs.Image.{bytes_at}
use Rattle.sky_memory.specs.declared.record.Step.TheVariants.{Look}
use Rattle.sky_memory.proofs.SiteMeets.{time, same_cloud, same_image, same_disk, image_same}
use Rattle.sky_memory.proofs.mem_site.MemSiteDisk.read.Goals as goal

pub returns-in_err-look_at_disk-clause-image : goal.returns-in_err-look_at_disk-clause-image
returns-in_err-look_at_disk-clause-image c = same_image c.args.self.now c.look_at_disk.new.self Look [] _ c.look_at_disk.ensures.made refl

pub returns-in_err-look_at_disk-clause-crash : goal.returns-in_err-look_at_disk-clause-crash
returns-in_err-look_at_disk-clause-crash c = λ image left. ((same_disk c.args.self.now c.look_at_disk.new.self Look [] _ c.look_at_disk.ensures.made refl refl).may_leave image).0 left

pub returns-in_err-look_at_disk-clause-time : goal.returns-in_err-look_at_disk-clause-time
returns-in_err-look_at_disk-clause-time c = time c.args.self.now c.look_at_disk.new.self Look [] _ c.look_at_disk.ensures.made

pub returns-in_err-look_at_disk-clause-beside : goal.returns-in_err-look_at_disk-clause-beside
returns-in_err-look_at_disk-clause-beside c = same_cloud c.args.self.now c.look_at_disk.new.self Look [] _ c.look_at_disk.ensures.made refl

pub returns-clause-bytes : goal.returns-clause-bytes
returns-clause-bytes c = c.copy_to.ensures ∙ ap (λ (image : List ℕ). bytes_at image c.args.at (length c.args.buf.now)) (image_same c.args.self.now c.look_at_disk.new.self Look [] _ c.look_at_disk.ensures.made refl)

pub returns-clause-image : goal.returns-clause-image
returns-clause-image c = same_image c.args.self.now c.look_at_disk.new.self Look [] _ c.look_at_disk.ensures.made refl

pub returns-clause-crash : goal.returns-clause-crash
returns-clause-crash c = λ image left. ((same_disk c.args.self.now c.look_at_disk.new.self Look [] _ c.look_at_disk.ensures.made refl refl).may_leave image).0 left

pub returns-clause-time : goal.returns-clause-time
returns-clause-time c = time c.args.self.now c.look_at_disk.new.self Look [] _ c.look_at_disk.ensures.made

pub returns-clause-beside : goal.returns-clause-beside
returns-clause-beside c = same_cloud c.args.self.now c.look_at_disk.new.self Look [] _ c.look_at_disk.ensures.made refl
