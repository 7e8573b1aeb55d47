-- How many bytes items have, and that they are few.
--   length-flat_map_of                     values of equally many bytes
--   length-content_bytes, length-inode_bytes, length-page_bytes, length-check_bytes, length-body_bytes, length-item_bytes
--   few_blocks, few_rows, ascends_few      how many values the lists of an item have
--   body_small, item_small                 a body, and an item, have fewer than 2^32 bytes
use Rattle.std.proofs.Common.{◌≡◌, ℕ, ◌+◌, ◌-◌, ◌*◌, ◌^◌, ◌<◌, ◌≤◌, Option, Some, None, List, [], ◌∷◌, length, cond, count_by, is_some, refl, arith}
use Rattle.std.specs.List.{flat_map}
use Rattle.std.proofs.lemmas.List.{length-append, length-map}
use Rattle.std.proofs.lemmas.List.Sums.{sum_by-cons}
use Rattle.sha2.proofs.Facts256.{length-sha256}
use Rattle.sky_base.specs.Listing.{size_of_name}
use Rattle.sky_base.specs.declared.moment.Moment.{Moment}
use Rattle.sky_base.specs.declared.place.ItemId.{ItemId}
use Rattle.sky_base.specs.declared.place.Link.{Link}
use Rattle.sky_base.specs.declared.place.Location.{Location}
use Rattle.sky_xdr.specs.Encoding.{uhyper}
use Rattle.sky_xdr.proofs.Numbers.{length-uint, length-uhyper}
use Rattle.sky_item.specs.declared.item.Attributes.{Attributes}
use Rattle.sky_item.specs.declared.item.CheckItem.{CheckItem}
use Rattle.sky_item.specs.declared.item.Content.{Content}
use Rattle.sky_item.specs.declared.item.Content.TheVariants.{Regular, Directory, SymbolicLink}
use Rattle.sky_item.specs.declared.item.InodeItem.{InodeItem}
use Rattle.sky_item.specs.declared.item.Item.{Item}
use Rattle.sky_item.specs.declared.item.Item.TheVariants as kind
use Rattle.sky_item.specs.declared.item.PageItem.{PageItem}
use Rattle.sky_item.specs.declared.item.Times.{Times}
use Rattle.sky_item.specs.declared.lists.NumberedLink.{NumberedLink}
use Rattle.sky_item.specs.Encoding.{ushort, id_bytes, location_bytes, block_bytes, row_bytes, size_of_rows, block_locations, content_locations, content_bytes, moment_bytes, times_bytes, verifier_bytes, owner_bytes, inode_bytes, numbered_bytes, all_numbered_bytes, page_bytes, numbers_bytes, check_bytes, body_bytes, locations_of, length_of_content, length_of_body, length_of_item, item_header, item_front, item_bytes}
use Rattle.sky_item.specs.Items.{IsVerifier, AscendsWithin, AreNumbered, IsContent, IsItem}

pub length-flat_map_of : {X : Type 0} (f : X → List ℕ) (k : ℕ) (xs : List X) → ((x : X) → length (f x) ≡ k) → length (flat_map f xs) ≡ k * length xs
length-flat_map_of f k [] each = omega arith
length-flat_map_of f k (x ∷ xs) each = omega (arith, length-append (f x) (flat_map f xs), each x, length-flat_map_of f k xs each)

pub length-ushort : (n : ℕ) → length (ushort n) ≡ 2
unfolding ushort
length-ushort n = refl

pub length-id_bytes : (id : ItemId) → length (id_bytes id) ≡ 16
unfolding id_bytes
length-id_bytes id = simp (length-append, length-uhyper) refl

pub length-location_bytes : (at : Location) → length (location_bytes at) ≡ 28
unfolding location_bytes
length-location_bytes at = simp (length-append, length-uint, length-uhyper) refl

pub length-block_bytes : (block : Option Link) → length (block_bytes block) ≡ 16
unfolding block_bytes
length-block_bytes None = length-id_bytes _
length-block_bytes (Some link) = length-id_bytes _

pub length-numbered_bytes : (n : NumberedLink) → length (numbered_bytes n) ≡ 24
unfolding numbered_bytes
length-numbered_bytes n = simp (length-append, length-uhyper, length-id_bytes) refl

pub length-row_bytes : (row : ℕ × List ℕ × ℕ) → length (row_bytes row) ≡ size_of_name row.1
unfolding row_bytes
length-row_bytes row = simp (length-append, length-uhyper, length-ushort) (omega arith)

pub rows-cons : (row : ℕ × List ℕ × ℕ) (rows : List (ℕ × List ℕ × ℕ)) → size_of_rows (row ∷ rows) ≡ size_of_name row.1 + size_of_rows rows
rows-cons row rows = sum_by-cons (λ (r : ℕ × List ℕ × ℕ). size_of_name r.1) row rows

pub length-rows : (rows : List (ℕ × List ℕ × ℕ)) → length (flat_map row_bytes rows) ≡ size_of_rows rows
length-rows [] = refl
length-rows (row ∷ rows) = omega (arith, length-append (row_bytes row) (flat_map row_bytes rows), length-row_bytes row, length-rows rows, rows-cons row rows)

pub length-content_bytes : (content : Content) → length (content_bytes content) ≡ length_of_content content
unfolding content_bytes
length-content_bytes (Regular size blocks) = simp (length-append, length-uint, length-flat_map_of block_bytes 16 blocks length-block_bytes) refl
length-content_bytes (Directory parent next_cookie rows) = simp (length-append, length-uint, length-uhyper, length-rows rows) (omega arith)
length-content_bytes (SymbolicLink text) = simp (length-append, length-uint) refl

length-moment_bytes : (m : Moment) → length (moment_bytes m) ≡ 8
unfolding moment_bytes
length-moment_bytes m = simp (length-append, length-uint) refl

length-times_bytes : (t : Times) → length (times_bytes t) ≡ 24
unfolding times_bytes
length-times_bytes t = simp (length-append, length-moment_bytes) refl

length-verifier_bytes : (v : Option (List ℕ)) → IsVerifier v → length (verifier_bytes v) ≡ 12
unfolding verifier_bytes
length-verifier_bytes None is = simp (length-append, length-uint, length-uhyper) refl
length-verifier_bytes (Some v) is = simp (length-append, length-uint) (omega arith)

length-owner_bytes : (a : Attributes) → length (owner_bytes a) ≡ 16
unfolding owner_bytes
length-owner_bytes a = simp (length-append, length-uint) refl

pub length-inode_bytes : (i : InodeItem) → IsVerifier i.attributes.verifier → length (inode_bytes i) ≡ 72 + length_of_content i.content
unfolding inode_bytes
length-inode_bytes i is =
    simp (length-append, length-uint, length-uhyper, length-owner_bytes, length-times_bytes, length-verifier_bytes i.attributes.verifier is, length-content_bytes) (omega arith)

pub length-all_numbered_bytes : (links : List NumberedLink) → length (all_numbered_bytes links) ≡ 4 + 24 * length links
unfolding all_numbered_bytes
length-all_numbered_bytes links = simp (length-append, length-uint, length-flat_map_of numbered_bytes 24 links length-numbered_bytes) refl

pub length-page_bytes : (p : PageItem) → length (page_bytes p) ≡ 12 + 24 * length p.slots
unfolding page_bytes
length-page_bytes p = simp (length-append, length-uhyper, length-all_numbered_bytes) (omega arith)

length-numbers_bytes : (c : CheckItem) → length (numbers_bytes c) ≡ 56
unfolding numbers_bytes
length-numbers_bytes c = simp (length-append, length-uhyper) refl

pub length-check_bytes : (c : CheckItem) → length (check_bytes c) ≡ 64 + 24 * length c.pages + 8 * length c.touched
unfolding check_bytes
length-check_bytes c =
    simp (length-append, length-uint, length-numbers_bytes, length-all_numbered_bytes, length-flat_map_of uhyper 8 c.touched length-uhyper) (omega arith)

pub length-body_bytes : (item : Item) → IsItem item → length (body_bytes item) ≡ length_of_body item
unfolding body_bytes
length-body_bytes (kind.Block b) is = refl
length-body_bytes (kind.Inode i) is = length-inode_bytes i is.1.verifier
length-body_bytes (kind.Page p) is = length-page_bytes p
length-body_bytes (kind.Check c) is = length-check_bytes c

-- ---- few values

-- numbers that ascend are no more than there are from the least to the bound
pub ascends_few : (least bound : ℕ) (ns : List ℕ) → AscendsWithin least bound ns → length ns ≤ bound - least
ascends_few least bound [] is = omega arith
ascends_few least bound (n ∷ ns) is = omega (arith, is.0, is.1, ascends_few (n + 1) bound ns is.2)

pub numbered_few : (least bound : ℕ) (links : List NumberedLink) → AreNumbered least bound links → length links ≤ bound - least
numbered_few least bound links is = omega (arith, ascends_few least bound _ is.numbers, length-map links (λ (n : NumberedLink). n.number))

pub rows_few : (rows : List (ℕ × List ℕ × ℕ)) → length rows ≤ size_of_rows rows
rows_few [] = omega arith
rows_few (row ∷ rows) = omega (arith, rows_few rows, rows-cons row rows)

pub content_small : (content : Content) → IsContent content → length_of_content content < 2 ^ 21
content_small (Regular size blocks) is = omega (arith, is.0, is.1)
content_small (Directory parent next_cookie rows) is = omega (arith, is.3)
content_small (SymbolicLink text) is = omega (arith, is)

pub body_small : (item : Item) → IsItem item → length_of_body item < 2 ^ 31
body_small (kind.Block b) is = omega (arith, is.2)
body_small (kind.Inode i) is = omega (arith, content_small i.content is.2)
body_small (kind.Page p) is = omega (arith, numbered_few _ _ p.slots is.3)
body_small (kind.Check c) is = omega (arith, numbered_few _ _ c.pages is.2, ascends_few _ _ c.touched is.3)

-- ---- links

-- the blocks of a file that are no holes have a location each
pub links_count : (blocks : List (Option Link)) → length (block_locations blocks) ≡ count_by is_some blocks
links_count [] = refl
links_count (None ∷ blocks) = omega (arith, links_count blocks, sum_by-cons (λ (b : Option Link). cond (is_some b) 1 0) None blocks)
links_count (Some link ∷ blocks) = omega (arith, links_count blocks, sum_by-cons (λ (b : Option Link). cond (is_some b) 1 0) (Some link) blocks)

-- ---- items

pub length-item_header : (item : Item) → length (item_header item) ≡ 60
unfolding item_header
length-item_header item = simp (length-append, length-uint, length-id_bytes, length-sha256) refl

pub length-item_front : (item : Item) → length (item_front item) ≡ 60 + 28 * length (locations_of item)
length-item_front item = simp (length-append, length-item_header, length-flat_map_of location_bytes 28 (locations_of item) length-location_bytes) refl

pub length-item_bytes : (item : Item) → IsItem item → length (item_bytes item) ≡ length_of_item item
unfolding item_bytes
length-item_bytes item is =
    simp (length-append, length-item_header, length-flat_map_of location_bytes 28 (locations_of item) length-location_bytes, length-body_bytes item is) refl

blocks_have : (blocks : List (Option Link)) → length (block_locations blocks) ≤ length blocks
blocks_have [] = omega arith
blocks_have (None ∷ blocks) = omega (arith, blocks_have blocks)
blocks_have (Some link ∷ blocks) = omega (arith, blocks_have blocks)

content_few : (content : Content) → IsContent content → length (content_locations content) ≤ 2 ^ 15
content_few (Regular size blocks) is = omega (arith, is.0, is.1, blocks_have blocks)
content_few (Directory parent next_cookie rows) is = omega arith
content_few (SymbolicLink text) is = omega arith

pub links_few : (item : Item) → IsItem item → length (locations_of item) ≤ 2 ^ 15
links_few (kind.Block b) is = omega arith
links_few (kind.Inode i) is = content_few i.content is.2
links_few (kind.Page p) is = omega (arith, numbered_few _ _ p.slots is.3, length-map p.slots (λ (n : NumberedLink). n.link.at))
links_few (kind.Check c) is = omega (arith, numbered_few _ _ c.pages is.2, length-map c.pages (λ (n : NumberedLink). n.link.at))

pub item_small : (item : Item) → IsItem item → length_of_item item < 2 ^ 32
item_small item is = omega (arith, links_few item is, body_small item is)
