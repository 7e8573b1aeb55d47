-- The pages of the map of inodes that a checkpoint has.
use Rattle.std.specs.Prelude.{List}
use Rattle.sky_base.specs.Limits.{max_pages}
use Rattle.sky_item.specs.Items.{AscendsWithin}
use Rattle.sky_item.specs.declared.lists.NumberedLink.{NumberedLink}
use Rattle.sky_imap.specs.Links.{numbers_of}

-- they ascend by their numbers, each of which is that of a page
abbrev pub ArePages : List NumberedLink → Type 0
ArePages links = AscendsWithin 0 max_pages (numbers_of links)
