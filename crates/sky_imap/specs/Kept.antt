-- A page as it is kept.
use Rattle.std.specs.Prelude.{ℕ, ◌*◌, ◌+◌, ◌<◌, List}
use Rattle.sky_base.specs.Limits.{max_page_slots, max_pages}
use Rattle.sky_item.specs.declared.lists.NumberedLink.{NumberedLink}
use Rattle.sky_item.specs.Items.{AscendsWithin}
use Rattle.sky_imap.specs.Links.{map_of, numbers_of}
use Rattle.sky_imap.specs.PageMap.{PageMap}

-- the page that has this number and these slots
abbrev pub page_kept : ℕ → List NumberedLink → PageMap
page_kept number slots = record { number = number; slots = map_of slots }

-- its fileids are those of its number, and ascend
pub record IsKept (number : ℕ) (slots : List NumberedLink) : Type 0 where
  pub is_page : number < max_pages
  pub ascends : AscendsWithin (number * max_page_slots) ((number + 1) * max_page_slots) (numbers_of slots)
