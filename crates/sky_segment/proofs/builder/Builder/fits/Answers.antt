use Rattle.std.proofs.Common.{◌≡◌, length, arith}
use Rattle.sky_segment.specs.Drafts.{size_of_draft}
use Rattle.sky_segment.proofs.DraftLaws.{kept_size, room_is}
use Rattle.sky_segment.proofs.builder.Builder.fits.Goals as goal

pub returns : goal.returns
returns c =
    let inside = c.self.inside in
    let size : length inside.bytes.items ≡ size_of_draft c.args.self.now = kept_size inside.name inside.count inside.bytes.items c.args.self.now c.self.view_is c.self.invariant in
    let held : c.len.result ≡ size_of_draft c.args.self.now = omega (arith, c.len.ensures, inside.bytes.ok, size) in
    room_is c.args.self.now c.args.item.now c.len.result c.item_length.result held c.item_length.ensures
