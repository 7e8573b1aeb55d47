-- An item whose links go to other places is the same item.
use Rattle.std.proofs.Common.{◌≡◌, ℕ, Option, Some, None, List, [], ◌∷◌, ◌++◌, length, map, refl, ap, ◌∙◌}
use Rattle.std.specs.List.{flat_map}
use Rattle.std.proofs.lemmas.List.{length-map}
use Rattle.sky_base.specs.declared.place.ItemId.{ItemId}
use Rattle.sky_base.specs.declared.place.Link.{Link}
use Rattle.sky_base.specs.declared.place.Location.{Location}
use Rattle.sky_xdr.specs.Encoding.{uint}
use Rattle.sky_item.specs.declared.item.Content.{Content}
use Rattle.sky_item.specs.declared.item.Content.TheVariants.{Regular, Directory, SymbolicLink}
use Rattle.sky_item.specs.declared.item.Item.{Item}
use Rattle.sky_item.specs.declared.item.Item.TheVariants as kind
use Rattle.sky_item.specs.declared.lists.NumberedLink.{NumberedLink}
use Rattle.sky_item.specs.Encoding.{block_bytes, numbered_bytes, all_numbered_bytes, content_bytes, node_code, size_of, inode_bytes, page_bytes, numbers_bytes, check_bytes, body_bytes, id_of, kind_code, body_of}
use Rattle.sky_item.specs.Items.{moved_block, moved_numbered, moved_content, moved}

blocks_same : (place : ItemId → Location) (blocks : List (Option Link)) → flat_map block_bytes (map (moved_block place) blocks) ≡ flat_map block_bytes blocks
unfolding block_bytes
blocks_same place [] = refl
blocks_same place (None ∷ blocks) = ap (λ (t : List ℕ). block_bytes None ++ t) (blocks_same place blocks)
blocks_same place (Some link ∷ blocks) = ap (λ (t : List ℕ). block_bytes (Some link) ++ t) (blocks_same place blocks)

links_same : (place : ItemId → Location) (links : List NumberedLink) → flat_map numbered_bytes (map (moved_numbered place) links) ≡ flat_map numbered_bytes links
unfolding numbered_bytes
links_same place [] = refl
links_same place (n ∷ links) = ap (λ (t : List ℕ). numbered_bytes n ++ t) (links_same place links)

all_same : (place : ItemId → Location) (links : List NumberedLink) → all_numbered_bytes (map (moved_numbered place) links) ≡ all_numbered_bytes links
unfolding all_numbered_bytes
all_same place links = ap (λ (n : ℕ). uint n ++ flat_map numbered_bytes (map (moved_numbered place) links)) (length-map links (moved_numbered place)) ∙ ap (λ (t : List ℕ). uint (length links) ++ t) (links_same place links)

content_same : (place : ItemId → Location) (c : Content) → content_bytes (moved_content place c) ≡ content_bytes c
unfolding content_bytes
content_same place (Regular size blocks) =
    ap (λ (n : ℕ). uint n ++ flat_map block_bytes (map (moved_block place) blocks)) (length-map blocks (moved_block place)) ∙ ap (λ (t : List ℕ). uint (length blocks) ++ t) (blocks_same place blocks)
content_same place (Directory parent next_cookie rows) = refl
content_same place (SymbolicLink text) = refl

code_same : (place : ItemId → Location) (c : Content) → node_code (moved_content place c) ≡ node_code c
code_same place (Regular size blocks) = refl
code_same place (Directory parent next_cookie rows) = refl
code_same place (SymbolicLink text) = refl

size_same : (place : ItemId → Location) (c : Content) → size_of (moved_content place c) ≡ size_of c
size_same place (Regular size blocks) = refl
size_same place (Directory parent next_cookie rows) = refl
size_same place (SymbolicLink text) = refl

bytes_same : (place : ItemId → Location) (item : Item) → body_bytes (moved place item) ≡ body_bytes item
unfolding body_bytes inode_bytes page_bytes check_bytes numbers_bytes
bytes_same place (kind.Block b) = refl
bytes_same place (kind.Inode i) = rw (code_same place i.content, size_same place i.content, content_same place i.content) refl
bytes_same place (kind.Page p) = rw (all_same place p.slots) refl
bytes_same place (kind.Check c) = rw (all_same place c.pages) refl

kind_same : (place : ItemId → Location) (item : Item) → kind_code (moved place item) ≡ kind_code item
kind_same place (kind.Block b) = refl
kind_same place (kind.Inode i) = refl
kind_same place (kind.Page p) = refl
kind_same place (kind.Check c) = refl

pub same_id : (place : ItemId → Location) (item : Item) → id_of (moved place item) ≡ id_of item
same_id place (kind.Block b) = refl
same_id place (kind.Inode i) = refl
same_id place (kind.Page p) = refl
same_id place (kind.Check c) = refl

pub same_body : (place : ItemId → Location) (item : Item) → body_of (moved place item) ≡ body_of item
same_body place item =
    let made : ℕ → List ℕ → ℕ × List ℕ = λ k t. (k, t) in
    ap (λ (k : ℕ). made k (body_bytes (moved place item))) (kind_same place item) ∙ ap (made (kind_code item)) (bytes_same place item)
