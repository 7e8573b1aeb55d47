-- The fields of items, in the order in which they stand, each with what it is judged by.
use Rattle.std.specs.Prelude.{ℕ, ◌+◌, ◌-◌, ◌*◌, ◌^◌, ◌==◌, Option, Some, None, List, [], ◌∷◌, length, take, drop, Result, Ok, Err, nat_lt, if◌then◌else◌}
use Rattle.std.specs.Str.{bytes_eq}
use Rattle.sha2.specs.Sha256.{sha256}
use Rattle.sky_base.specs.Limits.{max_number, max_block_bytes, max_page_slots, max_pages, max_object_bytes, max_file_bytes, max_directory_bytes, max_link_text_bytes, max_name_bytes, max_fileid, max_links, max_cookie, max_volume}
use Rattle.sky_base.specs.declared.attr.Kind.{Kind}
use Rattle.sky_base.specs.declared.attr.Kind.TheVariants as node
use Rattle.sky_base.specs.declared.moment.Moment.{Moment}
use Rattle.sky_base.specs.declared.object.Dir.{Dir}
use Rattle.sky_base.specs.declared.object.Dir.TheVariants.{Proxy, Cleaner}
use Rattle.sky_base.specs.declared.place.Damage.{Damage}
use Rattle.sky_base.specs.declared.place.Damage.TheVariants.{Short, Form, Digest}
use Rattle.sky_base.specs.declared.place.ItemId.{ItemId}
use Rattle.sky_base.specs.declared.place.Link.{Link}
use Rattle.sky_base.specs.declared.place.Location.{Location}
use Rattle.sky_xdr.specs.Reading.{word}
use Rattle.sky_item.specs.declared.item.Content.{Content}
use Rattle.sky_item.specs.declared.item.Content.TheVariants.{Regular, Directory, SymbolicLink}
use Rattle.sky_item.specs.declared.item.InodeItem.{InodeItem}
use Rattle.sky_item.specs.declared.item.Item.{Item}
use Rattle.sky_item.specs.declared.item.Item.TheVariants as kind
use Rattle.sky_item.specs.declared.item.Times.{Times}
use Rattle.sky_item.specs.declared.lists.NumberedLink.{NumberedLink}
use Rattle.sky_item.specs.declared.parts.Head.{Head}
use Rattle.sky_item.specs.declared.parts.Owner.{Owner}
use Rattle.sky_item.specs.declared.parts.CheckNumbers.{CheckNumbers}
use Rattle.sky_item.specs.Encoding.{header_bytes, location_size, is_hole, blocks_of, size_of, locations_of}
use Rattle.sky_item.specs.Items.{max_mode}
use Rattle.sky_item.specs.Reading.{Reader, refused, behind, ◌>>=◌, give, uint_within, uhyper_within, raw_at, ushort_up_to, each_at, ended}

-- the largest numbers of four bytes and of eight: of a field that is not judged
abbrev pub max_uint : ℕ
max_uint = 2 ^ 32 - 1

abbrev pub max_uhyper : ℕ
max_uhyper = 2 ^ 64 - 1

-- ---- identifiers and locations

unfoldable pub id_at : Reader ItemId
id_at = do
  epoch ← uhyper_within 0 (max_number - 1)
  counter ← uhyper_within 0 max_uhyper
  give (record { epoch = epoch; counter = counter })

abbrev pub dir_of : ℕ → Dir
dir_of code = if code == 0 then Proxy else Cleaner

unfoldable pub location_at : Reader Location
location_at = do
  dir ← uint_within 0 1
  run ← uhyper_within 0 (max_number - 1)
  seq ← uhyper_within 0 (max_number - 1)
  offset ← uint_within 0 max_object_bytes
  long ← uint_within 0 (max_object_bytes - offset)
  give (record { dir = dir_of dir; run = run; seq = seq; offset = offset; length = long })

unfoldable pub locations_at : ℕ → Reader (List Location)
locations_at n = each_at (λ _. location_at) (λ s at. s) n (tt {0})

-- the next location. Where none is left this is any, since the number of locations is judged later
abbrev pub next_location : List Location → Location
next_location [] = record { dir = Proxy; run = 0; seq = 0; offset = 0; length = 0 }
next_location (at ∷ others) = at

-- ---- the body of an inode

-- a block of a file: its identifier, which is zero for a hole. The others lie at the locations in order
unfoldable pub block_at : List Location → Reader (Option Link)
block_at locations = do
  id ← id_at
  give (if is_hole id then None else Some (record { id = id; at = next_location locations }))

abbrev pub locations_behind : List Location → Option Link → List Location
locations_behind locations None = locations
locations_behind locations (Some link) = drop 1 locations

unfoldable pub blocks_at : ℕ → List Location → Reader (List (Option Link))
blocks_at n locations = each_at block_at locations_behind n locations

-- an entry of a directory
unfoldable pub row_at : Reader (ℕ × List ℕ × ℕ)
row_at = do
  cookie ← uhyper_within 0 max_uhyper
  fileid ← uhyper_within 0 (max_fileid - 1)
  long ← ushort_up_to max_name_bytes
  name ← raw_at long
  give (cookie, name, fileid)

unfoldable pub rows_at : ℕ → Reader (List (ℕ × List ℕ × ℕ))
rows_at n = each_at (λ _. row_at) (λ s row. s) n (tt {0})

unfoldable pub regular_at : List Location → ℕ → Reader Content
regular_at locations size = do
  n ← uint_within (blocks_of size) (blocks_of size)
  blocks ← blocks_at n locations
  give (Regular size blocks)

unfoldable pub directory_at : Reader Content
directory_at = do
  parent ← uhyper_within 0 (max_fileid - 1)
  next_cookie ← uhyper_within 0 max_cookie
  n ← uint_within 0 max_uint
  rows ← rows_at n
  give (Directory parent next_cookie rows)

unfoldable pub link_at : ℕ → Reader Content
link_at size = do
  n ← uint_within size size
  text ← raw_at n
  give (SymbolicLink text)

abbrev pub content_at : Kind → List Location → ℕ → Reader Content
content_at node.Regular locations size = regular_at locations size
content_at node.Directory locations size = directory_at
content_at node.SymbolicLink locations size = link_at size

-- the kind of a node (ftype3, RFC 1813 section 2.6)
abbrev pub kind_or_refused : List ℕ → ℕ → List ℕ → Result (Kind × List ℕ) ℕ
kind_or_refused bytes code rest =
    if code == 1 then Ok (node.Regular, rest)
    else (if code == 2 then Ok (node.Directory, rest) else (if code == 5 then Ok (node.SymbolicLink, rest) else refused bytes))

unfoldable pub node_kind_at : Reader Kind
node_kind_at bytes = behind (kind_or_refused bytes) (uint_within 0 max_uint bytes)

-- the most links that a node of a kind has, and its largest size
abbrev pub most_links : Kind → ℕ
most_links node.Regular = max_links
most_links node.Directory = max_uint
most_links node.SymbolicLink = max_links

abbrev pub most_size : Kind → ℕ
most_size node.Regular = max_file_bytes
most_size node.Directory = max_directory_bytes
most_size node.SymbolicLink = max_link_text_bytes

unfoldable pub owner_at : ℕ → Reader Owner
owner_at links = do
  mode ← uint_within 0 max_mode
  nlink ← uint_within 0 links
  uid ← uint_within 0 max_uint
  gid ← uint_within 0 max_uint
  give (record { mode = mode; nlink = nlink; uid = uid; gid = gid })

unfoldable pub moment_at : Reader Moment
moment_at = do
  seconds ← uint_within 0 max_uint
  nanos ← uint_within 0 max_uint
  give (record { seconds = seconds; nanos = nanos })

unfoldable pub times_at : Reader Times
times_at = do
  atime ← moment_at
  mtime ← moment_at
  ctime ← moment_at
  give (record { atime = atime; mtime = mtime; ctime = ctime })

-- the verifier, where one is kept; else eight bytes that are zero
abbrev pub kept_or_zero : ℕ → Reader (Option (List ℕ))
kept_or_zero kept =
    if kept == 0 then (do
      none ← uhyper_within 0 0
      give None)
    else (do
      bytes ← raw_at 8
      give (Some bytes))

unfoldable pub verifier_at : Reader (Option (List ℕ))
verifier_at = do
  kept ← uint_within 0 1
  kept_or_zero kept

-- an inode, and the size that it says
unfoldable pub inode_at : ItemId → List Location → Reader (ℕ × InodeItem)
inode_at id locations = do
  code ← node_kind_at
  owner ← owner_at (most_links code)
  size ← uhyper_within 0 (most_size code)
  times ← times_at
  verifier ← verifier_at
  fileid ← uhyper_within 0 (max_fileid - 1)
  content ← content_at code locations size
  give (
    size,
    record {
      id = id;
      attributes = record { mode = owner.mode; nlink = owner.nlink; uid = owner.uid; gid = owner.gid; times = times; verifier = verifier; fileid = fileid };
      content = content;
    },
  )

-- where the size stands in the body of an inode
abbrev pub size_place : ℕ
size_place = 20

-- the inode whose size is that of its content; it is judged last, and only a directory can have another
abbrev pub sized : List ℕ → Result (ℕ × InodeItem) ℕ → Result Item ℕ
sized body (Ok (size, inode)) = if size == size_of inode.content then Ok (kind.Inode inode) else Err (length body - size_place)
sized body (Err left) = Err left

-- ---- pages and checkpoints

-- an item that goes by a number, from the least on and below the bound
unfoldable pub numbered_at : ℕ → ℕ × List Location → Reader NumberedLink
numbered_at bound s = do
  number ← uhyper_within s.0 (bound - 1)
  id ← id_at
  give (record { number = number; link = record { id = id; at = next_location s.1 } })

-- the numbers ascend, and the items lie at the locations in order
abbrev pub numbers_behind : ℕ × List Location → NumberedLink → ℕ × List Location
numbers_behind s n = (n.number + 1, drop 1 s.1)

unfoldable pub all_numbered_at : (n least bound : ℕ) → List Location → Reader (List NumberedLink)
all_numbered_at n least bound locations = each_at (numbered_at bound) numbers_behind n (least, locations)

unfoldable pub page_at : ItemId → List Location → Reader Item
page_at id locations = do
  number ← uhyper_within 0 (max_pages - 1)
  n ← uint_within 1 max_page_slots
  slots ← all_numbered_at n (number * max_page_slots) ((number + 1) * max_page_slots) locations
  give (kind.Page (record { id = id; number = number; slots = slots }))

unfoldable pub check_numbers_at : Reader CheckNumbers
check_numbers_at = do
  volume ← uhyper_within 1 max_volume
  covers ← uhyper_within 0 (max_number - 1)
  next_fileid ← uhyper_within 0 max_fileid
  first_seq ← uhyper_within 0 (max_number - 1)
  merged ← uhyper_within 0 (max_number - 1)
  base_epoch ← uhyper_within 0 (max_number - 1)
  base_seq ← uhyper_within 0 (max_number - 1)
  give (record { volume = volume; covers = covers; next_fileid = next_fileid; first_seq = first_seq; merged = merged; base_epoch = base_epoch; base_seq = base_seq })

unfoldable pub fileids_at : ℕ → Reader (List ℕ)
fileids_at n = each_at (λ least. uhyper_within least (max_fileid - 1)) (λ least fileid. fileid + 1) n 0

unfoldable pub check_at : ItemId → List Location → Reader Item
check_at id locations = do
  numbers ← check_numbers_at
  n ← uint_within 0 max_pages
  pages ← all_numbered_at n 0 max_pages locations
  m ← uint_within 0 max_uint
  touched ← fileids_at m
  give (kind.Check (record {
    id = id;
    volume = numbers.volume;
    covers = numbers.covers;
    next_fileid = numbers.next_fileid;
    first_seq = numbers.first_seq;
    merged = numbers.merged;
    base_epoch = numbers.base_epoch;
    base_seq = numbers.base_seq;
    pages = pages;
    touched = touched;
  }))

-- ---- items

-- the item with this body, of which no byte is left
abbrev pub body_item : Head → List Location → List ℕ → Result Item ℕ
body_item head locations body =
    if head.kind == 1 then Ok (kind.Block (record { id = head.id; bytes = body }))
    else (if head.kind == 2 then sized body (ended (inode_at head.id locations body))
    else (if head.kind == 3 then ended (page_at head.id locations body) else ended (check_at head.id locations body)))

-- the fewest and the most bytes of a body: of a block 1 to 32,768
abbrev pub least_body : ℕ → ℕ
least_body code = if code == 1 then 1 else 0

abbrev pub most_body : ℕ → ℕ
most_body code = if code == 1 then max_block_bytes else max_uint

-- what stands before the locations; the number of locations is judged last, and the digest behind all else
unfoldable pub head_at : Reader Head
head_at = do
  code ← uint_within 1 4
  id ← id_at
  body ← uint_within (least_body code) (most_body code)
  count ← uint_within 0 max_uint
  digest ← raw_at 32
  give (record { kind = code; id = id; body = body; count = count; digest = digest })

-- where the number of locations stands
abbrev pub count_place : ℕ
count_place = 24

abbrev pub counted : List ℕ → ℕ → Result Item ℕ → Result Item ℕ
counted bytes count (Ok item) = if length (locations_of item) == count then Ok item else Err (length bytes - count_place)
counted bytes count (Err left) = Err left

-- the item behind its head
abbrev pub item_behind : List ℕ → Head → List ℕ → Result Item ℕ
item_behind bytes head rest = counted bytes head.count (behind (body_item head) (locations_at head.count rest))

-- the item that has all of these bytes, whatever its digest is
unfoldable pub fields_of : List ℕ → Result Item ℕ
fields_of bytes = behind (item_behind bytes) (head_at bytes)

-- how many bytes of locations and of the body an item says that it has, and so how many bytes it has; missing bytes count as zero
abbrev pub said_start : List ℕ → ℕ
said_start bytes = header_bytes + location_size * word (drop count_place bytes)

abbrev pub said_length : List ℕ → ℕ
said_length bytes = said_start bytes + word (drop 20 bytes)

-- the digest that an item says, and that of its body
abbrev pub stored_digest : List ℕ → List ℕ
stored_digest bytes = take 32 (drop 28 bytes)

abbrev pub computed_digest : List ℕ → List ℕ
computed_digest bytes = sha256 (drop (said_start bytes) bytes)

-- what is judged behind the fields: bytes past the item, and the digest
abbrev pub verified : List ℕ → Result Item ℕ → Result Item Damage
verified bytes (Ok item) =
    if nat_lt (said_length bytes) (length bytes) then Err (Form (said_length bytes))
    else (if bytes_eq (stored_digest bytes) (computed_digest bytes) then Ok item else Err (Digest (stored_digest bytes) (computed_digest bytes)))
verified bytes (Err left) = Err (Form (said_length bytes - left))

-- the item of these bytes, or what is wrong with them first
unfoldable pub item_at : List ℕ → Result Item Damage
item_at bytes =
    if nat_lt (length bytes) (said_length bytes) then Err (Short (length bytes))
    else verified bytes (fields_of (take (said_length bytes) bytes))
