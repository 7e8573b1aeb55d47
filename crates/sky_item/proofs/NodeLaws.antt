-- The bodies of inodes are read from the bytes that are their encoding, and from no others.
use Rattle.std.proofs.Common.{◌≡◌, ℕ, ◌-◌, ◌^◌, ◌<◌, ◌≤◌, Bool, true, false, cond, eqb, Option, Some, None, List, [], ◌∷◌, ◌++◌, length, Result, Ok, refl, sym, ap, subst, ◌∙◌, append_assoc, arith, lit<, lit≤}
use Rattle.std.specs.List.{flat_map, AllByRecursion}
use Rattle.std.proofs.lemmas.Bool.{eqb-true, and_parts}
use Rattle.std.proofs.lemmas.List.{append-nil}
use Rattle.sky_base.specs.Limits.{max_file_bytes, max_link_text_bytes, max_name_bytes, max_fileid, max_cookie}
use Rattle.sky_base.specs.declared.attr.Kind.{Kind}
use Rattle.sky_base.specs.declared.attr.Kind.TheVariants as node
use Rattle.sky_base.specs.declared.place.ItemId.{ItemId}
use Rattle.sky_base.specs.declared.place.Link.{Link}
use Rattle.sky_base.specs.declared.place.Location.{Location}
use Rattle.sky_xdr.specs.Encoding.{AreBytes, uint, uhyper}
use Rattle.sky_item.specs.declared.item.Attributes.{Attributes}
use Rattle.sky_item.specs.declared.item.Content.{Content}
use Rattle.sky_item.specs.declared.item.Content.TheVariants.{Regular, Directory, SymbolicLink}
use Rattle.sky_item.specs.declared.item.InodeItem.{InodeItem}
use Rattle.sky_item.specs.declared.parts.Owner.{Owner}
use Rattle.sky_item.specs.Encoding.{id_bytes, hole, is_hole, block_bytes, row_bytes, blocks_of, content_bytes, times_bytes, verifier_bytes}
use Rattle.sky_item.specs.Items.{IsId, IsRow, AreTimes, IsVerifier}
use Rattle.sky_item.specs.Reading.{refused, behind, uint_within}
use Rattle.sky_item.specs.Fields.{max_uint, max_uhyper, next_location, block_at, locations_behind, blocks_at, row_at, rows_at, regular_at, directory_at, link_at, content_at, kind_or_refused, node_kind_at, most_links, most_size, inode_at}
use Rattle.sky_item.proofs.Each.{ok_pair}
use Rattle.sky_item.proofs.Codecs.{Reads, Within, Any, bound_by, uint_reads, uhyper_reads, ushort_reads, raw_reads, each_reads, EachIs, then_reads, last_reads, by_reads, as_reads, by_chain}
use Rattle.sky_item.proofs.PartLaws.{id_reads, times_reads, owner_reads, IsOwner, written_owner, verifier_reads}

-- ---- kinds

abbrev pub kind_number : Kind → ℕ
kind_number node.Regular = 1
kind_number node.Directory = 2
kind_number node.SymbolicLink = 5

kind_again : (k : Kind) (bytes rest : List ℕ) → kind_or_refused bytes (kind_number k) rest ≡ Ok (k, rest)
kind_again node.Regular bytes rest = refl
kind_again node.Directory bytes rest = refl
kind_again node.SymbolicLink bytes rest = refl

kind_small : (k : Kind) → Within 0 max_uint (kind_number k)
kind_small node.Regular = record { low = omega arith; high = lit≤ tt }
kind_small node.Directory = record { low = omega arith; high = lit≤ tt }
kind_small node.SymbolicLink = record { low = omega arith; high = lit≤ tt }

-- the kind by what its number is
abbrev kind_by : Bool → Bool → Bool → List ℕ → List ℕ → Result (Kind × List ℕ) ℕ
kind_by one two five bytes rest = cond one (Ok (node.Regular, rest)) (cond two (Ok (node.Directory, rest)) (cond five (Ok (node.SymbolicLink, rest)) (refused bytes)))

kind_found : (one two five : Bool) (code : ℕ) (bytes rest : List ℕ) (k : Kind) (more : List ℕ) → (one ≡ true → code ≡ 1) → (two ≡ true → code ≡ 2) → (five ≡ true → code ≡ 5)
    → kind_by one two five bytes rest ≡ Ok (k, more) → (code ≡ kind_number k) × (rest ≡ more)
kind_found true two five code bytes rest k more is_one is_two is_five e =
    let same = ok_pair node.Regular k rest more (Ok (node.Regular, rest)) refl e in (is_one refl ∙ ap kind_number same.0, same.1)
kind_found false true five code bytes rest k more is_one is_two is_five e =
    let same = ok_pair node.Directory k rest more (Ok (node.Directory, rest)) refl e in (is_two refl ∙ ap kind_number same.0, same.1)
kind_found false false true code bytes rest k more is_one is_two is_five e =
    let same = ok_pair node.SymbolicLink k rest more (Ok (node.SymbolicLink, rest)) refl e in (is_five refl ∙ ap kind_number same.0, same.1)
kind_found false false false code bytes rest k more is_one is_two is_five e = absurd cc

abbrev pub written_kind : Kind → List ℕ
written_kind k = uint (kind_number k)

kind_reads : Reads node_kind_at written_kind Any
unfolding node_kind_at
kind_reads = record {
  again = λ k rest is.
      ap (behind (kind_or_refused (written_kind k ++ rest))) ((uint_reads 0 max_uint (lit< tt)).again (kind_number k) rest (kind_small k)) ∙ kind_again k (written_kind k ++ rest) rest;
  sound = λ bytes k rest fits e.
      let s = bound_by (uint_within 0 max_uint) (kind_or_refused bytes) bytes k rest (uint_within 0 max_uint bytes) refl e in
      let first = (uint_reads 0 max_uint (lit< tt)).sound bytes s.x s.mid fits s.first in
      let is = kind_found (eqb s.x 1) (eqb s.x 2) (eqb s.x 5) s.x bytes s.mid k rest (eqb-true _ _) (eqb-true _ _) (eqb-true _ _) s.second in
      record { is = tt; parts = first.parts ∙ ap (λ (n : ℕ). uint n ++ s.mid) is.0 ∙ ap (λ (t : List ℕ). written_kind k ++ t) is.1; fits = subst AreBytes is.1 first.fits };
}

-- ---- blocks

-- a block lies at the next of the locations, unless it is a hole
abbrev pub BlockIs : List Location → Option Link → Type 0
BlockIs locations None = Unit {0}
BlockIs locations (Some link) = IsId link.id × (is_hole link.id ≡ false) × (link.at ≡ next_location locations)

abbrev block_id : Option Link → ItemId
block_id None = hole
block_id (Some link) = link.id

abbrev block_of : List Location → ItemId → Bool → Option Link
block_of locations id nothing = cond nothing None (Some (record { id = id; at = next_location locations }))

abbrev block_with : List Location → ItemId → Option Link
block_with locations id = block_of locations id (is_hole id)

hole_is : (id : ItemId) → is_hole id ≡ true → hole ≡ id
hole_is id e =
    let b = and_parts (eqb id.epoch 0) (eqb id.counter 0) e in
    let x : id.epoch ≡ 0 = eqb-true _ _ b.0 in
    let y : id.counter ≡ 0 = eqb-true _ _ b.1 in
    let same : record { epoch = 0; counter = 0 } ≡ record { epoch = id.epoch; counter = id.counter } = cc in same

block_known : (locations : List Location) (b : Option Link) (id : ItemId) → BlockIs locations b → block_id b ≡ id → b ≡ block_with locations id
block_known locations None id is e = ap (block_with locations) e
block_known locations (Some link) id is e =
    let here : record { id = link.id; at = link.at } ≡ record { id = link.id; at = next_location locations } = ap (λ (at : Location). record { id = link.id; at = at }) is.2 in
    ap Some here ∙ ap (block_of locations link.id) (sym is.1) ∙ ap (block_with locations) e

block_holds : (locations : List Location) (id : ItemId) (nothing : Bool) → is_hole id ≡ nothing → IsId id → BlockIs locations (block_of locations id nothing)
block_holds locations id true e is = tt
block_holds locations id false e is = (is, e, refl)

block_back : (locations : List Location) (id : ItemId) (nothing : Bool) → is_hole id ≡ nothing → block_id (block_of locations id nothing) ≡ id
block_back locations id true e = hole_is id e
block_back locations id false e = refl

block_id_fits : (locations : List Location) (b : Option Link) → BlockIs locations b → IsId (block_id b)
block_id_fits locations None is = record { epoch = lit< tt; counter = lit< tt }
block_id_fits locations (Some link) is = is.0

written_block : (b : Option Link) → id_bytes (block_id b) ++ [] ≡ block_bytes b
unfolding block_bytes
written_block None = append-nil (id_bytes hole)
written_block (Some link) = append-nil (id_bytes link.id)

pub block_reads : (locations : List Location) → Reads (block_at locations) block_bytes (BlockIs locations)
unfolding block_at
block_reads locations = as_reads block_bytes (BlockIs locations) (λ b e. written_block b)
    (λ b is. ((block_id_fits locations b is, tt), is)) (λ b t e. e)
    (last_reads block_id (block_with locations) (BlockIs locations) id_reads (λ b id e f. block_known locations b id e f)
    (λ id is. block_holds locations id (is_hole id) refl is) (λ id. block_back locations id (is_hole id) refl))

-- ---- entries of directories

pub row_reads : Reads row_at row_bytes IsRow
unfolding row_at row_bytes
row_reads = by_reads row_bytes IsRow
    (λ b. simp (append_assoc, append-nil) refl)
    (λ b is. (record { low = omega arith; high = omega (arith, is.0) }, (record { low = omega arith; high = omega (arith, is.1) }, (is.2, tt))))
    (λ b t. (omega (arith, t.0.high), omega (arith, t.1.0.high), t.1.1.0))
    (then_reads (λ (r : ℕ × List ℕ × ℕ). r.0) _ _ _ Any (uhyper_reads 0 max_uhyper (lit< tt)) (λ cookie _.
    then_reads (λ (r : ℕ × List ℕ × ℕ). r.2) _ _ _ _ (uhyper_reads 0 (max_fileid - 1) (lit< tt)) (λ fileid _.
    then_reads (λ (r : ℕ × List ℕ × ℕ). length r.1) _ _ _ _ (ushort_reads max_name_bytes (lit< tt)) (λ long _.
    by_chain (λ (b : ℕ × List ℕ × ℕ). Unit {0}) (λ b e t. (e.1, tt)) (λ b e t. tt)
    (last_reads (λ (r : ℕ × List ℕ × ℕ). r.1) (λ name. (cookie, name, fileid)) _ (raw_reads long)
    (λ b c e f. let same : (b.0, b.1, b.2) ≡ (cookie, c, fileid) = cc in same)
    (λ c is. (((tt, refl), refl), is)) (λ c. refl))))))

-- ---- contents

pub rows_each : (n : ℕ) (s : Unit {0}) (rows : List (ℕ × List ℕ × ℕ)) → AllByRecursion IsRow rows → EachIs (λ _. IsRow) (λ s row. s) s rows
rows_each n s [] all = tt
rows_each n s (row ∷ rows) all = (all.0, rows_each n s rows all.1)

rows_all : (n : ℕ) (s : Unit {0}) (rows : List (ℕ × List ℕ × ℕ)) → EachIs (λ _. IsRow) (λ s row. s) s rows → AllByRecursion IsRow rows
rows_all n s [] each = tt
rows_all n s (row ∷ rows) each = (each.0, rows_all n s rows each.1)

abbrev pub kind_of : Content → Kind
kind_of (Regular size blocks) = node.Regular
kind_of (Directory parent next_cookie rows) = node.Directory
kind_of (SymbolicLink text) = node.SymbolicLink

-- ---- a regular file

abbrev blocks_in : Content → List (Option Link)
blocks_in (Regular size blocks) = blocks
blocks_in (Directory parent next_cookie rows) = []
blocks_in (SymbolicLink text) = []

-- a regular file of this size
abbrev HasSize : ℕ → Content → Type 0
HasSize size (Regular s blocks) = s ≡ size
HasSize size (Directory parent next_cookie rows) = ⊥
HasSize size (SymbolicLink text) = ⊥

abbrev pub RegularIs : List Location → ℕ → Content → Type 0
RegularIs locations size (Regular s blocks) = (s ≡ size) × (length blocks ≡ blocks_of size) × EachIs BlockIs locations_behind locations blocks
RegularIs locations size (Directory parent next_cookie rows) = ⊥
RegularIs locations size (SymbolicLink text) = ⊥

regular_known : (size : ℕ) (b : Content) (c : List (Option Link)) → HasSize size b → blocks_in b ≡ c → b ≡ Regular size c
regular_known size (Regular s blocks) c e f = cc
regular_known size (Directory parent next_cookie rows) c e f = absurd e
regular_known size (SymbolicLink text) c e f = absurd e

regular_written : (size : ℕ) (b : Content) → HasSize size b → uint (length (blocks_in b)) ++ (flat_map block_bytes (blocks_in b) ++ []) ≡ content_bytes b
unfolding content_bytes
regular_written size (Regular s blocks) e = simp append-nil refl
regular_written size (Directory parent next_cookie rows) e = absurd e
regular_written size (SymbolicLink text) e = absurd e

-- the blocks of a file of this size
abbrev HasBlocks : List Location → ℕ → Content → Type 0
HasBlocks locations size b = Within (blocks_of size) (blocks_of size) (length (blocks_in b)) × EachIs BlockIs locations_behind locations (blocks_in b)

regular_to : (locations : List Location) (size : ℕ) (b : Content) → RegularIs locations size b → HasBlocks locations size b × HasSize size b
regular_to locations size (Regular s blocks) is = ((record { low = omega (arith, is.1); high = omega (arith, is.1) }, is.2), is.0)
regular_to locations size (Directory parent next_cookie rows) is = absurd is
regular_to locations size (SymbolicLink text) is = absurd is

regular_from : (locations : List Location) (size : ℕ) (b : Content) → HasBlocks locations size b → HasSize size b → RegularIs locations size b
regular_from locations size (Regular s blocks) t e = (e, omega (arith, t.0.low, t.0.high), t.1)
regular_from locations size (Directory parent next_cookie rows) t e = absurd e
regular_from locations size (SymbolicLink text) t e = absurd e

regular_reads : (locations : List Location) (size : ℕ) → size ≤ max_file_bytes → Reads (regular_at locations size) content_bytes (RegularIs locations size)
unfolding regular_at blocks_at
regular_reads locations size small = as_reads content_bytes (RegularIs locations size) (λ b e. regular_written size b e)
    (regular_to locations size) (regular_from locations size)
    (then_reads (λ (b : Content). length (blocks_in b)) _ _ (λ (b : Content). EachIs BlockIs locations_behind locations (blocks_in b)) (HasSize size)
    (uint_reads (blocks_of size) (blocks_of size) (omega (arith, small))) (λ n _.
    by_chain (λ (b : Content). EachIs BlockIs locations_behind locations (blocks_in b))
    (λ b e t. (record { count = e.1; each = t }, tt)) (λ b e t. t.0.each)
    (last_reads blocks_in (λ blocks. Regular size blocks) _ (each_reads block_at block_bytes BlockIs locations_behind block_reads n locations)
    (λ b c e f. regular_known size b c e.0 f) (λ c is. (refl, is.count)) (λ c. refl))))

-- ---- a directory

abbrev parent_of : Content → ℕ
parent_of (Regular size blocks) = 0
parent_of (Directory parent next_cookie rows) = parent
parent_of (SymbolicLink text) = 0

abbrev cookie_of : Content → ℕ
cookie_of (Regular size blocks) = 0
cookie_of (Directory parent next_cookie rows) = next_cookie
cookie_of (SymbolicLink text) = 0

abbrev rows_in : Content → List (ℕ × List ℕ × ℕ)
rows_in (Regular size blocks) = []
rows_in (Directory parent next_cookie rows) = rows
rows_in (SymbolicLink text) = []

abbrev IsDirectory : Content → Type 0
IsDirectory (Regular size blocks) = ⊥
IsDirectory (Directory parent next_cookie rows) = Unit {0}
IsDirectory (SymbolicLink text) = ⊥

abbrev pub DirectoryIs : Content → Type 0
DirectoryIs (Regular size blocks) = ⊥
DirectoryIs (Directory parent next_cookie rows) = (parent < max_fileid) × (next_cookie ≤ max_cookie) × (length rows < 2 ^ 32) × AllByRecursion IsRow rows
DirectoryIs (SymbolicLink text) = ⊥

directory_known : (parent cookie : ℕ) (b : Content) (c : List (ℕ × List ℕ × ℕ)) → IsDirectory b → parent_of b ≡ parent → cookie_of b ≡ cookie → rows_in b ≡ c → b ≡ Directory parent cookie c
directory_known parent cookie (Regular size blocks) c e p k r = absurd e
directory_known parent cookie (Directory own next_cookie rows) c e p k r = cc
directory_known parent cookie (SymbolicLink text) c e p k r = absurd e

directory_written : (b : Content) → IsDirectory b
    → uhyper (parent_of b) ++ (uhyper (cookie_of b) ++ (uint (length (rows_in b)) ++ (flat_map row_bytes (rows_in b) ++ []))) ≡ content_bytes b
unfolding content_bytes
directory_written (Regular size blocks) e = absurd e
directory_written (Directory parent next_cookie rows) e = simp (append_assoc, append-nil) refl
directory_written (SymbolicLink text) e = absurd e

-- the fields of a directory
abbrev HasRows : Content → Type 0
HasRows b = Within 0 (max_fileid - 1) (parent_of b) × (Within 0 max_cookie (cookie_of b) × (Within 0 max_uint (length (rows_in b)) × AllByRecursion IsRow (rows_in b)))

directory_to : (b : Content) → DirectoryIs b → HasRows b × IsDirectory b
directory_to (Regular size blocks) is = absurd is
directory_to (Directory parent next_cookie rows) is =
    ((record { low = omega arith; high = omega (arith, is.0) }, (record { low = omega arith; high = is.1 }, (record { low = omega arith; high = omega (arith, is.2) }, is.3))), tt)
directory_to (SymbolicLink text) is = absurd is

directory_from : (b : Content) → HasRows b → IsDirectory b → DirectoryIs b
directory_from (Regular size blocks) t e = absurd e
directory_from (Directory parent next_cookie rows) t e = (omega (arith, t.0.high), t.1.0.high, omega (arith, t.1.1.0.high), t.1.1.1)
directory_from (SymbolicLink text) t e = absurd e

directory_reads : Reads directory_at content_bytes DirectoryIs
unfolding directory_at rows_at
directory_reads = as_reads content_bytes DirectoryIs directory_written directory_to directory_from
    (then_reads parent_of _ _ _ IsDirectory (uhyper_reads 0 (max_fileid - 1) (lit< tt)) (λ parent _.
    then_reads cookie_of _ _ _ _ (uhyper_reads 0 max_cookie (lit< tt)) (λ cookie _.
    then_reads (λ (b : Content). length (rows_in b)) _ _ _ _ (uint_reads 0 max_uint (lit< tt)) (λ n _.
    by_chain (λ (b : Content). AllByRecursion IsRow (rows_in b))
    (λ b e t. (record { count = e.1; each = rows_each 0 tt (rows_in b) t }, tt)) (λ b e t. rows_all 0 tt (rows_in b) t.0.each)
    (last_reads rows_in (λ rows. Directory parent cookie rows) _ (each_reads (λ _. row_at) row_bytes (λ _. IsRow) (λ s row. s) (λ _. row_reads) n tt)
    (λ b c e f. directory_known parent cookie b c e.0.0.0 e.0.0.1 e.0.1 f) (λ c is. (((tt, refl), refl), is.count)) (λ c. refl))))))

-- ---- a symbolic link

abbrev text_of : Content → List ℕ
text_of (Regular size blocks) = []
text_of (Directory parent next_cookie rows) = []
text_of (SymbolicLink text) = text

abbrev IsLink : Content → Type 0
IsLink (Regular size blocks) = ⊥
IsLink (Directory parent next_cookie rows) = ⊥
IsLink (SymbolicLink text) = Unit {0}

abbrev pub LinkIs : ℕ → Content → Type 0
LinkIs size (Regular s blocks) = ⊥
LinkIs size (Directory parent next_cookie rows) = ⊥
LinkIs size (SymbolicLink text) = length text ≡ size

link_known : (b : Content) (c : List ℕ) → IsLink b → text_of b ≡ c → b ≡ SymbolicLink c
link_known (Regular size blocks) c e f = absurd e
link_known (Directory parent next_cookie rows) c e f = absurd e
link_known (SymbolicLink text) c e f = ap SymbolicLink f

link_written : (b : Content) → IsLink b → uint (length (text_of b)) ++ (text_of b ++ []) ≡ content_bytes b
unfolding content_bytes
link_written (Regular size blocks) e = absurd e
link_written (Directory parent next_cookie rows) e = absurd e
link_written (SymbolicLink text) e = simp append-nil refl

link_to : (size : ℕ) (b : Content) → LinkIs size b → (Within size size (length (text_of b)) × Unit {0}) × IsLink b
link_to size (Regular s blocks) is = absurd is
link_to size (Directory parent next_cookie rows) is = absurd is
link_to size (SymbolicLink text) is = ((record { low = omega (arith, is); high = omega (arith, is) }, tt), tt)

link_from : (size : ℕ) (b : Content) → (Within size size (length (text_of b)) × Unit {0}) → IsLink b → LinkIs size b
link_from size (Regular s blocks) t e = absurd e
link_from size (Directory parent next_cookie rows) t e = absurd e
link_from size (SymbolicLink text) t e = omega (arith, t.0.low, t.0.high)

link_reads : (size : ℕ) → size ≤ max_link_text_bytes → Reads (link_at size) content_bytes (LinkIs size)
unfolding link_at
link_reads size small = as_reads content_bytes (LinkIs size) link_written (link_to size) (link_from size)
    (then_reads (λ (b : Content). length (text_of b)) _ _ (λ (b : Content). Unit {0}) IsLink (uint_reads size size (omega (arith, small))) (λ n _.
    by_chain (λ (b : Content). Unit {0}) (λ b e t. (e.1, tt)) (λ b e t. tt)
    (last_reads text_of (λ text. SymbolicLink text) _ (raw_reads n) (λ b c e f. link_known b c e.0 f) (λ c is. (tt, is)) (λ c. refl))))

-- ---- contents

abbrev pub ContentIs : Kind → List Location → ℕ → Content → Type 0
ContentIs node.Regular locations size = RegularIs locations size
ContentIs node.Directory locations size = DirectoryIs
ContentIs node.SymbolicLink locations size = LinkIs size

content_reads : (k : Kind) (locations : List Location) (size : ℕ) → size ≤ most_size k → Reads (content_at k locations size) content_bytes (ContentIs k locations size)
content_reads node.Regular locations size small = regular_reads locations size small
content_reads node.Directory locations size small = directory_reads
content_reads node.SymbolicLink locations size small = link_reads size small

content_kind : (k : Kind) (locations : List Location) (size : ℕ) (c : Content) → ContentIs k locations size c → kind_of c ≡ k
content_kind node.Regular locations size (Regular s blocks) is = refl
content_kind node.Regular locations size (Directory parent next_cookie rows) is = absurd is
content_kind node.Regular locations size (SymbolicLink text) is = absurd is
content_kind node.Directory locations size (Regular s blocks) is = absurd is
content_kind node.Directory locations size (Directory parent next_cookie rows) is = refl
content_kind node.Directory locations size (SymbolicLink text) is = absurd is
content_kind node.SymbolicLink locations size (Regular s blocks) is = absurd is
content_kind node.SymbolicLink locations size (Directory parent next_cookie rows) is = absurd is
content_kind node.SymbolicLink locations size (SymbolicLink text) is = refl

-- ---- inodes, with the size that they say

abbrev pub owner_of : Attributes → Owner
owner_of a = record { mode = a.mode; nlink = a.nlink; uid = a.uid; gid = a.gid }

-- an inode that says a size, and has this identifier
pub record InodeIs (id : ItemId) (locations : List Location) (b : ℕ × InodeItem) : Type 0 where
  pub is_id : b.1.id ≡ id
  pub owner : IsOwner (most_links (kind_of b.1.content)) (owner_of b.1.attributes)
  pub size : b.0 ≤ most_size (kind_of b.1.content)
  pub times : AreTimes b.1.attributes.times
  pub verifier : IsVerifier b.1.attributes.verifier
  pub fileid : b.1.attributes.fileid < max_fileid
  pub content : ContentIs (kind_of b.1.content) locations b.0 b.1.content

abbrev pub written_inode : ℕ × InodeItem → List ℕ
written_inode b =
    written_kind (kind_of b.1.content) ++ written_owner (owner_of b.1.attributes) ++ uhyper b.0 ++ times_bytes b.1.attributes.times
    ++ verifier_bytes b.1.attributes.verifier ++ uhyper b.1.attributes.fileid ++ content_bytes b.1.content

links_small : (k : Kind) → most_links k < 2 ^ 32
links_small node.Regular = lit< tt
links_small node.Directory = lit< tt
links_small node.SymbolicLink = lit< tt

size_small : (k : Kind) → most_size k < 2 ^ 64
size_small node.Regular = lit< tt
size_small node.Directory = lit< tt
size_small node.SymbolicLink = lit< tt

attributes_same : (x a : Attributes) → x.mode ≡ a.mode → x.nlink ≡ a.nlink → x.uid ≡ a.uid → x.gid ≡ a.gid → x.times ≡ a.times → x.verifier ≡ a.verifier → x.fileid ≡ a.fileid → x ≡ a
attributes_same x a m n u g times verifier fileid =
    let same : record { mode = x.mode; nlink = x.nlink; uid = x.uid; gid = x.gid; times = x.times; verifier = x.verifier; fileid = x.fileid }
    ≡ record { mode = a.mode; nlink = a.nlink; uid = a.uid; gid = a.gid; times = a.times; verifier = a.verifier; fileid = a.fileid } = cc in
    same

inode_same : (x : InodeItem) (id : ItemId) (a : Attributes) (c : Content) → x.id ≡ id → x.attributes ≡ a → x.content ≡ c → x ≡ record { id = id; attributes = a; content = c }
inode_same x id a c e f g =
    let same : record { id = x.id; attributes = x.attributes; content = x.content } ≡ record { id = id; attributes = a; content = c } = cc in
    same

inode_known : (id : ItemId) (owner : Owner) (size : ℕ) (b : ℕ × InodeItem) (a : Attributes) (c : Content) → b.1.id ≡ id → owner_of b.1.attributes ≡ owner → b.0 ≡ size
    → b.1.attributes.times ≡ a.times → b.1.attributes.verifier ≡ a.verifier → b.1.attributes.fileid ≡ a.fileid → owner_of a ≡ owner → b.1.content ≡ c
    → b ≡ (size, record { id = id; attributes = a; content = c })
inode_known id owner size b a c is_id own is_size times verifier fileid other content =
    let o : owner_of b.1.attributes ≡ owner_of a = own ∙ sym other in
    let x = b.1.attributes in
    let m : x.mode ≡ a.mode = ap (λ (t : Owner). t.mode) o in
    let n : x.nlink ≡ a.nlink = ap (λ (t : Owner). t.nlink) o in
    let u : x.uid ≡ a.uid = ap (λ (t : Owner). t.uid) o in
    let g : x.gid ≡ a.gid = ap (λ (t : Owner). t.gid) o in
    let attributes : b.1.attributes ≡ a = attributes_same x a m n u g times verifier fileid in
    let inode : b.1 ≡ record { id = id; attributes = a; content = c } = inode_same b.1 id a c is_id attributes content in
    let made : ℕ → InodeItem → ℕ × InodeItem = λ s i. (s, i) in
    ap (λ (s : ℕ). made s b.1) is_size ∙ ap (made size) inode

-- what is judged of an inode from its content on, from its moments on, from its size on, and of all of it
abbrev OfContent : List Location → ℕ × InodeItem → Type 0
OfContent locations b = ContentIs (kind_of b.1.content) locations b.0 b.1.content × Unit {0}

abbrev OfTimes : List Location → ℕ × InodeItem → Type 0
OfTimes locations b = AreTimes b.1.attributes.times × (IsVerifier b.1.attributes.verifier × (Within 0 (max_fileid - 1) b.1.attributes.fileid × OfContent locations b))

abbrev OfSize : List Location → ℕ × InodeItem → Type 0
OfSize locations b = Within 0 (most_size (kind_of b.1.content)) b.0 × OfTimes locations b

abbrev OfOwner : List Location → ℕ × InodeItem → Type 0
OfOwner locations b = IsOwner (most_links (kind_of b.1.content)) (owner_of b.1.attributes) × OfSize locations b

pub inode_reads : (id : ItemId) (locations : List Location) → Reads (inode_at id locations) written_inode (InodeIs id locations)
unfolding inode_at
inode_reads id locations = as_reads written_inode (InodeIs id locations)
    (λ b e. simp (append_assoc, append-nil) refl)
    (λ b is. ((tt, (is.owner, (record { low = omega arith; high = is.size }, (is.times, (is.verifier, (record { low = omega arith; high = omega (arith, is.fileid) }, (is.content, tt))))))), is.is_id))
    (λ b t e. record { is_id = e; owner = t.1.0; size = t.1.1.0.high; times = t.1.1.1.0; verifier = t.1.1.1.1.0; fileid = omega (arith, t.1.1.1.1.1.0.high); content = t.1.1.1.1.1.1.0 })
    (then_reads (λ (b : ℕ × InodeItem). kind_of b.1.content) _ _ _ (λ (b : ℕ × InodeItem). b.1.id ≡ id) kind_reads (λ k _.
    by_chain (OfOwner locations) (λ b e t. (subst (λ (j : Kind). IsOwner (most_links j) (owner_of b.1.attributes)) e.1 t.0, t.1))
    (λ b e t. (subst (λ (j : Kind). IsOwner (most_links j) (owner_of b.1.attributes)) (sym e.1) t.0, t.1))
    (then_reads (λ (b : ℕ × InodeItem). owner_of b.1.attributes) _ _ _ _ (owner_reads (most_links k) (links_small k)) (λ owner _.
    by_chain (OfSize locations) (λ b e t. (subst (λ (j : Kind). Within 0 (most_size j) b.0) e.0.1 t.0, t.1))
    (λ b e t. (subst (λ (j : Kind). Within 0 (most_size j) b.0) (sym e.0.1) t.0, t.1))
    (then_reads (λ (b : ℕ × InodeItem). b.0) _ _ _ _ (uhyper_reads 0 (most_size k) (size_small k)) (λ size is_size.
    then_reads (λ (b : ℕ × InodeItem). b.1.attributes.times) _ _ _ _ times_reads (λ times _.
    then_reads (λ (b : ℕ × InodeItem). b.1.attributes.verifier) _ _ _ _ verifier_reads (λ verifier _.
    then_reads (λ (b : ℕ × InodeItem). b.1.attributes.fileid) _ _ _ _ (uhyper_reads 0 (max_fileid - 1) (lit< tt)) (λ fileid _.
    by_chain (OfContent locations)
    (λ b e t. (subst (λ (j : Kind). ContentIs j locations size b.1.content) e.0.0.0.0.0.1 (subst (λ (s : ℕ). ContentIs (kind_of b.1.content) locations s b.1.content) e.0.0.0.1 t.0), tt))
    (λ b e t. (subst (λ (j : Kind). ContentIs j locations b.0 b.1.content) (sym e.0.0.0.0.0.1) (subst (λ (s : ℕ). ContentIs k locations s b.1.content) (sym e.0.0.0.1) t.0), tt))
    (last_reads (λ (b : ℕ × InodeItem). b.1.content)
    (λ content. (
      size,
      record {
        id = id;
        attributes = record { mode = owner.mode; nlink = owner.nlink; uid = owner.uid; gid = owner.gid; times = times; verifier = verifier; fileid = fileid };
        content = content;
      },
    )) _ (content_reads k locations size is_size.high)
    (λ b c e f.
    let a : Attributes = record { mode = owner.mode; nlink = owner.nlink; uid = owner.uid; gid = owner.gid; times = times; verifier = verifier; fileid = fileid } in
    inode_known id owner size b a c e.0.0.0.0.0.0 e.0.0.0.0.1 e.0.0.0.1 e.0.0.1 e.0.1 e.1 refl f)
    (λ c is. ((((((refl, content_kind k locations size c is), refl), refl), refl), refl), refl)) (λ c. refl)))))))))))
