-- A page of the map of inodes, and the item that it is in the log.
use Rattle.std.specs.Prelude.{◌≡◌, ℕ, ◌*◌, ◌+◌, ◌/◌, ◌<◌, Option, Some, None, IsSome, IfSome, refl}
use Rattle.std.specs.Coded.{Coded, code_by, coded×, coded_ℕ}
use Rattle.std.specs.FinMap.{FinMap, code, empty, get, insert, remove}
use Rattle.std.specs.Ordering.{nat_cmp}
use Rattle.sky_base.specs.Limits.{max_page_slots, max_pages}
use Rattle.sky_base.specs.contracts.place.Link as link
use Rattle.sky_base.specs.declared.place.ItemId.{ItemId}
use Rattle.sky_base.specs.declared.place.Link.{Link}
use Rattle.sky_item.specs.declared.item.Item.{Item}
use Rattle.sky_item.specs.declared.item.Item.TheVariants as kind
use Rattle.sky_item.specs.Items.{AscendsWithin, IsLink}
use Rattle.sky_imap.specs.Links.{links_in, map_of, numbers_of}

-- the number of a page, and where the inodes of its fileids lie
pub record PageMap : Type 0 where
  pub number : ℕ
  pub slots : FinMap nat_cmp Link

-- a page is stored as the pair of these
abbrev pub page_code : Coded PageMap
page_code =
    code_by (ℕ × FinMap nat_cmp Link) (coded× coded_ℕ (code coded_ℕ link.the_row.coded)) (λ p. (p.number, p.slots)) (λ q. record { number = q.0; slots = q.1 }) (λ _. refl)

-- the number of the page that a fileid belongs to
abbrev pub page_of : ℕ → ℕ
page_of fileid = fileid / max_page_slots

-- a page without slots
abbrev pub empty_page : ℕ → PageMap
empty_page number = record { number = number; slots = empty }

-- the page where the inode of a fileid lies here, and nothing else has changed
abbrev pub with_slot : PageMap → ℕ → Link → PageMap
with_slot page fileid link = record { number = page.number; slots = insert page.slots fileid link }

-- the page without the slot of a fileid
abbrev pub without_slot : PageMap → ℕ → PageMap
without_slot page fileid = record { number = page.number; slots = remove page.slots fileid }

-- it is one of the map's pages, and each of its slots is that of one of its fileids
pub record IsPage (page : PageMap) : Type 0 where
  pub number : page.number < max_pages
  pub own : (fileid : ℕ) → IsSome (get page.slots fileid) → page_of fileid ≡ page.number

-- each slot lies at a place within an object
abbrev pub HasLinks : PageMap → Type 0
HasLinks page = (fileid : ℕ) → IfSome (get page.slots fileid) IsLink

-- the item that a page is in the log, with its slots in the order of their fileids
abbrev pub item_of_page : ItemId → PageMap → Item
item_of_page id page = kind.Page (record { id = id; number = page.number; slots = links_in page.slots })

-- the page that an item is
abbrev pub page_in : Item → Option PageMap
page_in (kind.Page p) = Some (record { number = p.number; slots = map_of p.slots })
page_in (kind.Block b) = None
page_in (kind.Inode i) = None
page_in (kind.Check c) = None

-- where it is a page, its fileids are those of its number and ascend, as they do in each item of the format
abbrev pub IsOrderly : Item → Type 0
IsOrderly (kind.Page p) = (p.number < max_pages) × AscendsWithin (p.number * max_page_slots) ((p.number + 1) * max_page_slots) (numbers_of p.slots)
IsOrderly (kind.Block b) = Unit {0}
IsOrderly (kind.Inode i) = Unit {0}
IsOrderly (kind.Check c) = Unit {0}
