-- Checkpoints, and the items that they are.
use Rattle.std.specs.Prelude.{Option, Some, None}
use Rattle.sky_item.specs.declared.item.Item.{Item}
use Rattle.sky_item.specs.declared.item.Item.TheVariants as kind
use Rattle.sky_imap.specs.Links.{links_in, map_of}
use Rattle.sky_checkpoint.specs.Pages.{ArePages}
use Rattle.sky_checkpoint.specs.declared.check.Check.{Check}

-- the checkpoint that an item is
abbrev pub check_in : Item → Option Check
check_in (kind.Check c) =
    Some
    (record {
      id = c.id;
      volume = c.volume;
      covers = c.covers;
      next_fileid = c.next_fileid;
      first_seq = c.first_seq;
      merged = c.merged;
      base_epoch = c.base_epoch;
      base_seq = c.base_seq;
      pages = map_of c.pages;
      touched = c.touched;
    })
check_in (kind.Block b) = None
check_in (kind.Inode i) = None
check_in (kind.Page p) = None

-- the item that a checkpoint is, with its pages in the order of their numbers
abbrev pub item_of_check : Check → Item
item_of_check c =
    kind.Check
    (record {
      id = c.id;
      volume = c.volume;
      covers = c.covers;
      next_fileid = c.next_fileid;
      first_seq = c.first_seq;
      merged = c.merged;
      base_epoch = c.base_epoch;
      base_seq = c.base_seq;
      pages = links_in c.pages;
      touched = c.touched;
    })

-- where it is a checkpoint, its pages ascend by their numbers, as they do in each item of the format
abbrev pub IsOrderly : Item → Type 0
IsOrderly (kind.Check c) = ArePages c.pages
IsOrderly (kind.Block b) = Unit {0}
IsOrderly (kind.Inode i) = Unit {0}
IsOrderly (kind.Page p) = Unit {0}
