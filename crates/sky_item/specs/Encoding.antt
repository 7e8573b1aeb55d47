-- How items are encoded. A number has the highest byte first, in four bytes (uint), eight (uhyper) or two (ushort).
--   Item      kind, identifier, length of the body, number of locations, SHA-256 of the body (FIPS 180-4), locations, body
--   Location  directory, run, sequence, offset, length
use Rattle.std.specs.Prelude.{ℕ, ◌+◌, ◌*◌, ◌-◌, ◌/◌, ◌==◌, ◌&&◌, Bool, Option, Some, None, List, [], ◌∷◌, ◌++◌, length, map, sum_by}
use Rattle.std.specs.Int.{w16, to_be_bytes}
use Rattle.std.specs.List.{flat_map}
use Rattle.sha2.specs.Sha256.{sha256}
use Rattle.sky_base.specs.Limits.{max_block_bytes}
use Rattle.sky_base.specs.Listing.{size_of_name}
use Rattle.sky_base.specs.declared.moment.Moment.{Moment}
use Rattle.sky_base.specs.declared.object.Dir.{Dir}
use Rattle.sky_base.specs.declared.object.Dir.TheVariants.{Proxy, Cleaner}
use Rattle.sky_base.specs.declared.place.ItemId.{ItemId}
use Rattle.sky_base.specs.declared.place.Link.{Link}
use Rattle.sky_base.specs.declared.place.Location.{Location}
use Rattle.sky_xdr.specs.Encoding.{uint, uhyper}
use Rattle.sky_item.specs.declared.item.Attributes.{Attributes}
use Rattle.sky_item.specs.declared.item.CheckItem.{CheckItem}
use Rattle.sky_item.specs.declared.item.Content.{Content}
use Rattle.sky_item.specs.declared.item.Content.TheVariants.{Regular, Directory, SymbolicLink}
use Rattle.sky_item.specs.declared.item.InodeItem.{InodeItem}
use Rattle.sky_item.specs.declared.item.Item.{Item}
use Rattle.sky_item.specs.declared.item.Item.TheVariants as kind
use Rattle.sky_item.specs.declared.item.PageItem.{PageItem}
use Rattle.sky_item.specs.declared.item.Times.{Times}
use Rattle.sky_item.specs.declared.lists.NumberedLink.{NumberedLink}

-- a number below 2^16: two bytes
unfoldable pub ushort : ℕ → List ℕ
ushort n = to_be_bytes w16 n

-- how many bytes an item has before its locations, and how many each of these has
abbrev pub header_bytes : ℕ
header_bytes = 60

abbrev pub location_size : ℕ
location_size = 28

-- an identifier
unfoldable pub id_bytes : ItemId → List ℕ
id_bytes id = uhyper id.epoch ++ uhyper id.counter

-- whose directory an object lies in
abbrev pub dir_code : Dir → ℕ
dir_code Proxy = 0
dir_code Cleaner = 1

-- where an item lies
unfoldable pub location_bytes : Location → List ℕ
location_bytes at = uint (dir_code at.dir) ++ uhyper at.run ++ uhyper at.seq ++ uint at.offset ++ uint at.length

-- ---- the body of an inode

-- the identifier that stands for a hole of a file
abbrev pub hole : ItemId
hole = record { epoch = 0; counter = 0 }

abbrev pub is_hole : ItemId → Bool
is_hole id = id.epoch == 0 && id.counter == 0

-- a block of a file
unfoldable pub block_bytes : Option Link → List ℕ
block_bytes None = id_bytes hole
block_bytes (Some link) = id_bytes link.id

-- an entry of a directory: its cookie, the fileid, the length of its name, the name
unfoldable pub row_bytes : ℕ × List ℕ × ℕ → List ℕ
row_bytes row = uhyper row.0 ++ uhyper row.2 ++ ushort (length row.1) ++ row.1

-- the size of a directory with these entries
abbrev pub size_of_rows : List (ℕ × List ℕ × ℕ) → ℕ
size_of_rows rows = sum_by (λ row. size_of_name row.1) rows

-- how many blocks a file of this size has
abbrev pub blocks_of : ℕ → ℕ
blocks_of size = (size + (max_block_bytes - 1)) / max_block_bytes

-- what kind of node it is (ftype3, RFC 1813 section 2.6)
abbrev pub node_code : Content → ℕ
node_code (Regular size blocks) = 1
node_code (Directory parent next_cookie rows) = 2
node_code (SymbolicLink text) = 5

-- its size
abbrev pub size_of : Content → ℕ
size_of (Regular size blocks) = size
size_of (Directory parent next_cookie rows) = size_of_rows rows
size_of (SymbolicLink text) = length text

-- what stands for the content
unfoldable pub content_bytes : Content → List ℕ
content_bytes (Regular size blocks) = uint (length blocks) ++ flat_map block_bytes blocks
content_bytes (Directory parent next_cookie rows) = uhyper parent ++ uhyper next_cookie ++ uint (length rows) ++ flat_map row_bytes rows
content_bytes (SymbolicLink text) = uint (length text) ++ text

-- a moment, and the three of a node
unfoldable pub moment_bytes : Moment → List ℕ
moment_bytes m = uint m.seconds ++ uint m.nanos

unfoldable pub times_bytes : Times → List ℕ
times_bytes t = moment_bytes t.atime ++ moment_bytes t.mtime ++ moment_bytes t.ctime

-- whether a verifier is kept, and the verifier, which is zero where none is kept
unfoldable pub verifier_bytes : Option (List ℕ) → List ℕ
verifier_bytes None = uint 0 ++ uhyper 0
verifier_bytes (Some v) = uint 1 ++ v

-- who may do what
unfoldable pub owner_bytes : Attributes → List ℕ
owner_bytes a = uint a.mode ++ uint a.nlink ++ uint a.uid ++ uint a.gid

-- ---- the bodies

unfoldable pub inode_bytes : InodeItem → List ℕ
inode_bytes i =
    uint (node_code i.content) ++ owner_bytes i.attributes ++ uhyper (size_of i.content) ++ times_bytes i.attributes.times
    ++ verifier_bytes i.attributes.verifier ++ uhyper i.attributes.fileid ++ content_bytes i.content

-- an item that goes by a number
unfoldable pub numbered_bytes : NumberedLink → List ℕ
numbered_bytes n = uhyper n.number ++ id_bytes n.link.id

-- items that go by numbers: how many, and each
unfoldable pub all_numbered_bytes : List NumberedLink → List ℕ
all_numbered_bytes links = uint (length links) ++ flat_map numbered_bytes links

unfoldable pub page_bytes : PageItem → List ℕ
page_bytes p = uhyper p.number ++ all_numbered_bytes p.slots

unfoldable pub numbers_bytes : CheckItem → List ℕ
numbers_bytes c =
    uhyper c.volume ++ uhyper c.covers ++ uhyper c.next_fileid ++ uhyper c.first_seq ++ uhyper c.merged ++ uhyper c.base_epoch ++ uhyper c.base_seq

unfoldable pub check_bytes : CheckItem → List ℕ
check_bytes c = numbers_bytes c ++ all_numbered_bytes c.pages ++ uint (length c.touched) ++ flat_map uhyper c.touched

-- the body of an item
unfoldable pub body_bytes : Item → List ℕ
body_bytes (kind.Block b) = b.bytes
body_bytes (kind.Inode i) = inode_bytes i
body_bytes (kind.Page p) = page_bytes p
body_bytes (kind.Check c) = check_bytes c

-- ---- items

abbrev pub kind_code : Item → ℕ
kind_code (kind.Block b) = 1
kind_code (kind.Inode i) = 2
kind_code (kind.Page p) = 3
kind_code (kind.Check c) = 4

abbrev pub id_of : Item → ItemId
id_of (kind.Block b) = b.id
id_of (kind.Inode i) = i.id
id_of (kind.Page p) = p.id
id_of (kind.Check c) = c.id

-- where the blocks of a file lie that are no holes, in order
abbrev pub block_locations : List (Option Link) → List Location
block_locations [] = []
block_locations (None ∷ blocks) = block_locations blocks
block_locations (Some link ∷ blocks) = link.at ∷ block_locations blocks

-- where items lie that go by numbers
abbrev pub numbered_locations : List NumberedLink → List Location
numbered_locations links = map (λ n. n.link.at) links

abbrev pub content_locations : Content → List Location
content_locations (Regular size blocks) = block_locations blocks
content_locations (Directory parent next_cookie rows) = []
content_locations (SymbolicLink text) = []

-- where the items lie that an item links to, in order
abbrev pub locations_of : Item → List Location
locations_of (kind.Block b) = []
locations_of (kind.Inode i) = content_locations i.content
locations_of (kind.Page p) = numbered_locations p.slots
locations_of (kind.Check c) = numbered_locations c.pages

-- where a block lies, if it is no hole, and where an item lies that goes by a number
abbrev pub block_location_bytes : Option Link → List ℕ
block_location_bytes None = []
block_location_bytes (Some link) = location_bytes link.at

abbrev pub numbered_location_bytes : NumberedLink → List ℕ
numbered_location_bytes n = location_bytes n.link.at

-- what stands before the locations
unfoldable pub item_header : Item → List ℕ
item_header item =
    uint (kind_code item) ++ id_bytes (id_of item) ++ uint (length (body_bytes item)) ++ uint (length (locations_of item)) ++ sha256 (body_bytes item)

-- what stands before the body
abbrev pub item_front : Item → List ℕ
item_front item = item_header item ++ flat_map location_bytes (locations_of item)

unfoldable pub item_bytes : Item → List ℕ
item_bytes item = item_front item ++ body_bytes item

-- what an item is, wherever what it links to lies: its kind and its body
abbrev pub body_of : Item → ℕ × List ℕ
body_of item = (kind_code item, body_bytes item)

-- ---- lengths

-- how many bytes stand for the content of a node
abbrev pub length_of_content : Content → ℕ
length_of_content (Regular size blocks) = 4 + 16 * length blocks
length_of_content (Directory parent next_cookie rows) = 20 + size_of_rows rows
length_of_content (SymbolicLink text) = 4 + length text

-- how many bytes the body of an item has
abbrev pub length_of_body : Item → ℕ
length_of_body (kind.Block b) = length b.bytes
length_of_body (kind.Inode i) = 72 + length_of_content i.content
length_of_body (kind.Page p) = 12 + 24 * length p.slots
length_of_body (kind.Check c) = 64 + 24 * length c.pages + 8 * length c.touched

-- how many bytes an item has
abbrev pub length_of_item : Item → ℕ
length_of_item item = header_bytes + location_size * length (locations_of item) + length_of_body item
