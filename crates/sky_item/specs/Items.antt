-- Which values are items of the format, and which bytes are their encoding.
use Rattle.std.specs.Prelude.{◌≡◌, ℕ, ◌+◌, ◌-◌, ◌*◌, ◌^◌, ◌<◌, ◌≤◌, false, Option, Some, None, List, [], ◌∷◌, length, map}
use Rattle.std.specs.List.{AllByRecursion}
use Rattle.sky_base.specs.Limits.{max_number, max_block_bytes, max_page_slots, max_pages, max_object_bytes, max_file_bytes, max_directory_bytes, max_link_text_bytes, max_name_bytes, max_fileid, max_links, max_cookie, max_volume}
use Rattle.sky_base.specs.declared.moment.Moment.{Moment}
use Rattle.sky_base.specs.declared.place.ItemId.{ItemId}
use Rattle.sky_base.specs.declared.place.Link.{Link}
use Rattle.sky_base.specs.declared.place.Location.{Location}
use Rattle.sky_item.specs.declared.item.Attributes.{Attributes}
use Rattle.sky_item.specs.declared.item.CheckItem.{CheckItem}
use Rattle.sky_item.specs.declared.item.Content.{Content}
use Rattle.sky_item.specs.declared.item.Content.TheVariants.{Regular, Directory, SymbolicLink}
use Rattle.sky_item.specs.declared.item.Item.{Item}
use Rattle.sky_item.specs.declared.item.Item.TheVariants as kind
use Rattle.sky_item.specs.declared.item.Times.{Times}
use Rattle.sky_item.specs.declared.lists.NumberedLink.{NumberedLink}
use Rattle.sky_item.specs.Encoding.{is_hole, blocks_of, size_of_rows, item_bytes}

-- the largest access bits of a node
abbrev pub max_mode : ℕ
max_mode = 4095

-- a number fits four bytes, and eight
abbrev pub FitsUint : ℕ → Type 0
FitsUint n = n < 2 ^ 32

abbrev pub FitsUhyper : ℕ → Type 0
FitsUhyper n = n < 2 ^ 64

pub record IsId (id : ItemId) : Type 0 where
  pub epoch : id.epoch < max_number
  pub counter : FitsUhyper id.counter

-- a place within an object
pub record IsLocation (at : Location) : Type 0 where
  pub run : at.run < max_number
  pub seq : at.seq < max_number
  pub within : at.offset + at.length ≤ max_object_bytes

pub record IsLink (link : Link) : Type 0 where
  pub id : IsId link.id
  pub at : IsLocation link.at

-- a block of a file: a hole, or a link that does not say that it is one
abbrev pub IsBlockLink : Option Link → Type 0
IsBlockLink None = Unit {0}
IsBlockLink (Some link) = IsLink link × (is_hole link.id ≡ false)

-- an entry of a directory
abbrev pub IsRow : ℕ × List ℕ × ℕ → Type 0
IsRow row = FitsUhyper row.0 × (row.2 < max_fileid) × (length row.1 ≤ max_name_bytes)

-- numbers ascend, from the least on and below a bound
abbrev pub AscendsWithin : ℕ → ℕ → List ℕ → Type 0
AscendsWithin least bound [] = Unit {0}
AscendsWithin least bound (n ∷ ns) = (least ≤ n) × (n < bound) × AscendsWithin (n + 1) bound ns

-- items that go by such numbers
pub record AreNumbered (least bound : ℕ) (links : List NumberedLink) : Type 0 where
  pub numbers : AscendsWithin least bound (map (λ n. n.number) links)
  pub each : AllByRecursion (λ n. IsLink n.link) links

abbrev pub IsMoment : Moment → Type 0
IsMoment m = FitsUint m.seconds × FitsUint m.nanos

abbrev pub AreTimes : Times → Type 0
AreTimes t = IsMoment t.atime × IsMoment t.mtime × IsMoment t.ctime

abbrev pub IsVerifier : Option (List ℕ) → Type 0
IsVerifier None = Unit {0}
IsVerifier (Some v) = length v ≡ 8

-- the most links that a node of each kind has: a directory has as many as the number can say
abbrev pub max_nlink : Content → ℕ
max_nlink (Regular size blocks) = max_links
max_nlink (Directory parent next_cookie rows) = 2 ^ 32 - 1
max_nlink (SymbolicLink text) = max_links

pub record AreAttributes (max_nlink : ℕ) (a : Attributes) : Type 0 where
  pub mode : a.mode ≤ max_mode
  pub nlink : a.nlink ≤ max_nlink
  pub uid : FitsUint a.uid
  pub gid : FitsUint a.gid
  pub times : AreTimes a.times
  pub verifier : IsVerifier a.verifier
  pub fileid : a.fileid < max_fileid

-- a regular file has as many blocks as its size takes
abbrev pub IsContent : Content → Type 0
IsContent (Regular size blocks) = (size ≤ max_file_bytes) × (length blocks ≡ blocks_of size) × AllByRecursion IsBlockLink blocks
IsContent (Directory parent next_cookie rows) = (parent < max_fileid) × (next_cookie ≤ max_cookie) × AllByRecursion IsRow rows × (size_of_rows rows ≤ max_directory_bytes)
IsContent (SymbolicLink text) = length text ≤ max_link_text_bytes

-- the numbers of a checkpoint
pub record AreCheckNumbers (c : CheckItem) : Type 0 where
  pub least_volume : 1 ≤ c.volume
  pub volume : c.volume ≤ max_volume
  pub covers : c.covers < max_number
  pub next_fileid : c.next_fileid ≤ max_fileid
  pub first_seq : c.first_seq < max_number
  pub merged : c.merged < max_number
  pub base_epoch : c.base_epoch < max_number
  pub base_seq : c.base_seq < max_number

-- each field is of the format and within its limit; the fileids of a page are those that the page is for
abbrev pub IsItem : Item → Type 0
IsItem (kind.Block b) = IsId b.id × (1 ≤ length b.bytes) × (length b.bytes ≤ max_block_bytes)
IsItem (kind.Inode i) = IsId i.id × AreAttributes (max_nlink i.content) i.attributes × IsContent i.content
IsItem (kind.Page p) = IsId p.id × (p.number < max_pages) × (1 ≤ length p.slots) × AreNumbered (p.number * max_page_slots) ((p.number + 1) * max_page_slots) p.slots
IsItem (kind.Check c) = IsId c.id × AreCheckNumbers c × AreNumbered 0 max_pages c.pages × AscendsWithin 0 max_fileid c.touched

-- bytes are the encoding of an item
pub record EncodesItem (bytes : List ℕ) (item : Item) : Type 0 where
  pub is : IsItem item
  pub encoded : bytes ≡ item_bytes item

-- ---- copies

-- a link to the same item at another place
abbrev pub moved_link : (ItemId → Location) → Link → Link
moved_link place link = record { id = link.id; at = place link.id }

abbrev pub moved_block : (ItemId → Location) → Option Link → Option Link
moved_block place None = None
moved_block place (Some link) = Some (moved_link place link)

abbrev pub moved_numbered : (ItemId → Location) → NumberedLink → NumberedLink
moved_numbered place n = record { number = n.number; link = moved_link place n.link }

abbrev pub moved_content : (ItemId → Location) → Content → Content
moved_content place (Regular size blocks) = Regular size (map (moved_block place) blocks)
moved_content place (Directory parent next_cookie rows) = Directory parent next_cookie rows
moved_content place (SymbolicLink text) = SymbolicLink text

-- an item whose links go to other places, by what they link to
abbrev pub moved : (ItemId → Location) → Item → Item
moved place (kind.Block b) = kind.Block b
moved place (kind.Inode i) = kind.Inode (record i { content = moved_content place i.content })
moved place (kind.Page p) = kind.Page (record p { slots = map (moved_numbered place) p.slots })
moved place (kind.Check c) = kind.Check (record c { pages = map (moved_numbered place) c.pages })
