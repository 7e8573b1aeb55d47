-- The body of an item, behind what stands before it, is read as that item, and from no other bytes.
use Rattle.std.proofs.Common.{◌≡◌, ℕ, zero, suc, ◌+◌, ◌-◌, ◌*◌, ◌≤◌, Bool, true, false, cond, eqb, List, [], ◌∷◌, ◌++◌, length, Result, Ok, Err, refl, sym, ap, subst, ◌∙◌, arith, lit≤, eq-eqb}
use Rattle.std.specs.List.{AllByRecursion}
use Rattle.std.proofs.lemmas.Bool.{eqb-true}
use Rattle.std.proofs.lemmas.List.{append-nil, nil_from_length}
use Rattle.sha2.specs.Sha256.{sha256}
use Rattle.sky_base.specs.Limits.{max_block_bytes, max_page_slots, max_pages, max_fileid}
use Rattle.sky_base.specs.declared.place.ItemId.{ItemId}
use Rattle.sky_base.specs.declared.place.Location.{Location}
use Rattle.sky_xdr.specs.Encoding.{AreBytes}
use Rattle.sky_item.specs.declared.item.Content.{Content}
use Rattle.sky_item.specs.declared.item.Content.TheVariants.{Regular, Directory, SymbolicLink}
use Rattle.sky_item.specs.declared.item.InodeItem.{InodeItem}
use Rattle.sky_item.specs.declared.item.Item.{Item}
use Rattle.sky_item.specs.declared.item.Item.TheVariants as kind
use Rattle.sky_item.specs.declared.parts.Head.{Head}
use Rattle.sky_item.specs.Encoding.{node_code, size_of, blocks_of, owner_bytes, inode_bytes, body_bytes, kind_code, id_of, content_locations, locations_of}
use Rattle.sky_item.specs.Items.{IsLocation, IsContent, IsItem, IsId, AreAttributes, AreCheckNumbers, max_nlink}
use Rattle.sky_item.specs.Reading.{ended}
use Rattle.sky_item.specs.Fields.{most_links, most_size, inode_at, sized, size_place, least_body, most_body, page_at, check_at, body_item}
use Rattle.sky_item.proofs.Codecs.{Within}
use Rattle.sky_item.proofs.NodeLaws.{kind_of, kind_number, ContentIs, InodeIs, written_inode, inode_reads}
use Rattle.sky_item.proofs.PageLaws.{PageIs, page_reads, CheckIs, NumbersAre, numbers_of, check_reads}
use Rattle.sky_item.proofs.PlaceLaws.{blocks_placed, blocks_each, numbered_placed, numbered_each, fileids_each, fileids_ascend}
use Rattle.sky_item.proofs.Sizes.{rows_few, numbered_few, ascends_few}

-- ---- what is an item's body is read as it

-- what stands before the locations of an item
abbrev pub head_of : Item → Head
head_of item = record { kind = kind_code item; id = id_of item; body = length (body_bytes item); count = length (locations_of item); digest = sha256 (body_bytes item) }

code_is : (c : Content) → kind_number (kind_of c) ≡ node_code c
code_is (Regular size blocks) = refl
code_is (Directory parent next_cookie rows) = refl
code_is (SymbolicLink text) = refl

nlink_is : (c : Content) → most_links (kind_of c) ≡ max_nlink c
nlink_is (Regular size blocks) = refl
nlink_is (Directory parent next_cookie rows) = refl
nlink_is (SymbolicLink text) = refl

-- an inode that says its size is written as it is
inode_written : (i : InodeItem) → written_inode (size_of i.content, i) ≡ inode_bytes i
unfolding inode_bytes owner_bytes
inode_written i = rw (code_is i.content) refl

size_fits : (c : Content) → IsContent c → size_of c ≤ most_size (kind_of c)
size_fits (Regular size blocks) is = is.0
size_fits (Directory parent next_cookie rows) is = is.3
size_fits (SymbolicLink text) is = is

content_is : (c : Content) → IsContent c → ContentIs (kind_of c) (content_locations c) (size_of c) c
content_is (Regular size blocks) is = (refl, is.1, blocks_each blocks is.2)
content_is (Directory parent next_cookie rows) is = (is.0, is.1, omega (arith, rows_few rows, is.3), is.2)
content_is (SymbolicLink text) is = refl

inode_is : (i : InodeItem) → IsItem (kind.Inode i) → InodeIs i.id (content_locations i.content) (size_of i.content, i)
inode_is i is =
    let a = is.1 in
    record {
      is_id = refl;
      owner = record { mode = a.mode; nlink = subst (λ (n : ℕ). i.attributes.nlink ≤ n) (sym (nlink_is i.content)) a.nlink; uid = a.uid; gid = a.gid };
      size = size_fits i.content is.2;
      times = a.times;
      verifier = a.verifier;
      fileid = a.fileid;
      content = content_is i.content is.2;
    }

-- a value that is the whole of what was read
whole : {A : Type 0} (r : Result (A × List ℕ) ℕ) (x : A) → r ≡ Ok (x, []) → ended r ≡ Ok x
whole r x e = ap ended e

sized_again : (body : List ℕ) (i : InodeItem) → sized body (Ok (size_of i.content, i)) ≡ Ok (kind.Inode i)
sized_again body i = rw (eq-eqb (size_of i.content) (size_of i.content) refl) refl

pub body_again : (item : Item) → IsItem item → body_item (head_of item) (locations_of item) (body_bytes item) ≡ Ok item
unfolding body_bytes
body_again (kind.Block b) is = refl
body_again (kind.Inode i) is =
    let s : ℕ × InodeItem = (size_of i.content, i) in
    let all : written_inode s ++ [] ≡ inode_bytes i = append-nil (written_inode s) ∙ inode_written i in
    let read = ap (inode_at i.id (content_locations i.content)) (sym all) ∙ (inode_reads i.id (content_locations i.content)).again s [] (inode_is i is) in
    ap (sized (inode_bytes i)) (whole (inode_at i.id (content_locations i.content) (inode_bytes i)) s read) ∙ sized_again (inode_bytes i) i
body_again (kind.Page p) is =
    let item : Item = kind.Page p in
    let ls = locations_of item in
    let few = numbered_few (p.number * max_page_slots) ((p.number + 1) * max_page_slots) p.slots is.3 in
    let fields : PageIs p.id ls item =
    ((record { low = omega arith; high = omega (arith, is.1) }, (record { low = is.2; high = omega (arith, few) }, numbered_each (p.number * max_page_slots) ((p.number + 1) * max_page_slots) p.slots is.3.numbers is.3.each)), refl) in
    let read = ap (page_at p.id ls) (sym (append-nil (body_bytes item))) ∙ (page_reads p.id ls).again item [] fields in
    whole (page_at p.id ls (body_bytes item)) item read
body_again (kind.Check c) is =
    let item : Item = kind.Check c in
    let ls = locations_of item in
    let n = is.1 in
    let numbers : NumbersAre (numbers_of c) = record {
      volume = record { low = n.least_volume; high = n.volume };
      covers = record { low = omega arith; high = omega (arith, n.covers) };
      next_fileid = record { low = omega arith; high = n.next_fileid };
      first_seq = record { low = omega arith; high = omega (arith, n.first_seq) };
      merged = record { low = omega arith; high = omega (arith, n.merged) };
      base_epoch = record { low = omega arith; high = omega (arith, n.base_epoch) };
      base_seq = record { low = omega arith; high = omega (arith, n.base_seq) };
    } in
    let fields : CheckIs c.id ls item = (
      (
        numbers,
        (
          record { low = omega arith; high = omega (arith, numbered_few 0 max_pages c.pages is.2) },
          (
            numbered_each 0 max_pages c.pages is.2.numbers is.2.each,
            (record { low = omega arith; high = omega (arith, ascends_few 0 max_fileid c.touched is.3) }, fileids_each 0 c.touched is.3),
          ),
        ),
      ),
      refl,
    ) in
    let read = ap (check_at c.id ls) (sym (append-nil (body_bytes item))) ∙ (check_reads c.id ls).again item [] fields in
    whole (check_at c.id ls (body_bytes item)) item read

-- ---- what is read is an item's body

-- a body that was read behind a head and these locations, which are as many as the item's links
pub record BodyIs (h : Head) (ls : List Location) (body : List ℕ) (item : Item) : Type 0 where
  pub code : kind_code item ≡ h.kind
  pub id : id_of item ≡ h.id
  pub bytes : body_bytes item ≡ body
  pub is : AllByRecursion IsLocation ls → IsId h.id → Within (least_body h.kind) (most_body h.kind) (length body) → length (locations_of item) ≡ length ls → IsItem item × (locations_of item ≡ ls)

-- an Ok, at the type of what reading gives
abbrev done : {A : Type 0} → A → Result A ℕ
done x = Ok x

ok_value : {A : Type 0} (x y : A) → done x ≡ done y → x ≡ y
ok_value x y e = cc

-- a whole value that was read
ended_is : {A : Type 0} (r : Result (A × List ℕ) ℕ) (x : A) → ended r ≡ Ok x → r ≡ Ok (x, [])
ended_is (Ok (y, [])) x e = let same = ok_value y x e in ap (λ z. Ok (z, [])) same
ended_is (Ok (y, b ∷ bytes)) x e = absurd cc
ended_is (Err left) x e = absurd cc

-- an inode that was read, whose size is that of its content
record Sized (r : Result (ℕ × InodeItem) ℕ) (item : Item) : Type 0 where
  size : ℕ
  inode : InodeItem
  read : r ≡ Ok (size, inode)
  same : size ≡ size_of inode.content
  is : kind.Inode inode ≡ item

sized_choice : (body : List ℕ) (size : ℕ) (inode : InodeItem) (b : Bool) (item : Item) → eqb size (size_of inode.content) ≡ b
    → cond b (done (kind.Inode inode)) (Err (length body - size_place)) ≡ Ok item → Sized (Ok (size, inode)) item
sized_choice body size inode true item test e = record { size = size; inode = inode; read = refl; same = eqb-true _ _ test; is = ok_value (kind.Inode inode) item e }
sized_choice body size inode false item test e = absurd cc

sized_is : (body : List ℕ) (r : Result (ℕ × InodeItem) ℕ) (item : Item) → sized body r ≡ Ok item → Sized r item
sized_is body (Ok (size, inode)) item e = sized_choice body size inode (eqb size (size_of inode.content)) item refl e
sized_is body (Err left) item e = absurd cc

content_placed : (c : Content) (size : ℕ) (ls : List Location) → size ≤ most_size (kind_of c) → size ≡ size_of c → ContentIs (kind_of c) ls size c → AllByRecursion IsLocation ls
    → length (content_locations c) ≡ length ls → IsContent c × (content_locations c ≡ ls)
content_placed (Regular s blocks) size ls most same is all count =
    let r = blocks_placed ls blocks all is.2 count in
    ((omega (arith, most, same), is.1 ∙ ap blocks_of same, r.each), r.at)
content_placed (Directory parent next_cookie rows) size ls most same is all count = ((is.0, is.1, is.3, omega (arith, most, same)), sym (nil_from_length ls (sym count)))
content_placed (SymbolicLink text) size ls most same is all count = (omega (arith, most, same), sym (nil_from_length ls (sym count)))

inode_placed : (id : ItemId) (ls : List Location) (size : ℕ) (i : InodeItem) → InodeIs id ls (size, i) → size ≡ size_of i.content → AllByRecursion IsLocation ls → IsId id
    → length (content_locations i.content) ≡ length ls → IsItem (kind.Inode i) × (content_locations i.content ≡ ls)
inode_placed id ls size i is same all id_fits count =
    let c = content_placed i.content size ls is.size same is.content all count in
    let a : AreAttributes (max_nlink i.content) i.attributes = record {
      mode = is.owner.mode;
      nlink = subst (λ (n : ℕ). i.attributes.nlink ≤ n) (nlink_is i.content) is.owner.nlink;
      uid = is.owner.uid;
      gid = is.owner.gid;
      times = is.times;
      verifier = is.verifier;
      fileid = is.fileid;
    } in
    ((subst IsId (sym is.is_id) id_fits, a, c.0), c.1)

inode_sound : (h : Head) (ls : List Location) (body : List ℕ) (item : Item) → AreBytes body → h.kind ≡ 2 → sized body (ended (inode_at h.id ls body)) ≡ Ok item → BodyIs h ls body item
unfolding body_bytes
inode_sound h ls body item fits code e =
    let s = sized_is body (ended (inode_at h.id ls body)) item e in
    let r = (inode_reads h.id ls).sound body (s.size, s.inode) [] fits (ended_is (inode_at h.id ls body) (s.size, s.inode) s.read) in
    let bytes : inode_bytes s.inode ≡ body =
    sym (inode_written s.inode) ∙ ap (λ (n : ℕ). written_inode (n, s.inode)) (sym s.same) ∙ sym (append-nil (written_inode (s.size, s.inode))) ∙ sym r.parts in
    subst (BodyIs h ls body) s.is
    (record { code = sym code; id = r.is.is_id; bytes = bytes; is = λ all id_fits _ count. inode_placed h.id ls s.size s.inode r.is s.same all id_fits count })

page_placed : (id : ItemId) (ls : List Location) (item : Item) → PageIs id ls item → AllByRecursion IsLocation ls → IsId id → length (locations_of item) ≡ length ls → IsItem item × (locations_of item ≡ ls)
page_placed id ls (kind.Block b) is all id_fits count = absurd is.1
page_placed id ls (kind.Inode i) is all id_fits count = absurd is.1
page_placed id ls (kind.Page p) is all id_fits count =
    let f = is.0 in
    let r = numbered_placed (p.number * max_page_slots) ((p.number + 1) * max_page_slots) ls p.slots (omega arith) all f.1.1 count in
    ((subst IsId (sym is.1) id_fits, omega (arith, f.0.high), f.1.0.low, r.each), r.at)
page_placed id ls (kind.Check c) is all id_fits count = absurd is.1

page_code : (id : ItemId) (ls : List Location) (item : Item) → PageIs id ls item → (kind_code item ≡ 3) × (id_of item ≡ id)
page_code id ls (kind.Block b) is = absurd is.1
page_code id ls (kind.Inode i) is = absurd is.1
page_code id ls (kind.Page p) is = (refl, is.1)
page_code id ls (kind.Check c) is = absurd is.1

page_sound : (h : Head) (ls : List Location) (body : List ℕ) (item : Item) → AreBytes body → h.kind ≡ 3 → ended (page_at h.id ls body) ≡ Ok item → BodyIs h ls body item
page_sound h ls body item fits code e =
    let r = (page_reads h.id ls).sound body item [] fits (ended_is (page_at h.id ls body) item e) in
    let k = page_code h.id ls item r.is in
    record { code = k.0 ∙ sym code; id = k.1; bytes = sym (append-nil (body_bytes item)) ∙ sym r.parts; is = λ all id_fits _ count. page_placed h.id ls item r.is all id_fits count }

check_placed : (id : ItemId) (ls : List Location) (item : Item) → CheckIs id ls item → AllByRecursion IsLocation ls → IsId id → length (locations_of item) ≡ length ls → IsItem item × (locations_of item ≡ ls)
check_placed id ls (kind.Block b) is all id_fits count = absurd is.1
check_placed id ls (kind.Inode i) is all id_fits count = absurd is.1
check_placed id ls (kind.Page p) is all id_fits count = absurd is.1
check_placed id ls (kind.Check c) is all id_fits count =
    let f = is.0 in
    let n = f.0 in
    let numbers : AreCheckNumbers c = record {
      least_volume = n.volume.low;
      volume = n.volume.high;
      covers = omega (arith, n.covers.high);
      next_fileid = n.next_fileid.high;
      first_seq = omega (arith, n.first_seq.high);
      merged = omega (arith, n.merged.high);
      base_epoch = omega (arith, n.base_epoch.high);
      base_seq = omega (arith, n.base_seq.high);
    } in
    let r = numbered_placed 0 max_pages ls c.pages (lit≤ tt) all f.1.1.0 count in
    ((subst IsId (sym is.1) id_fits, numbers, r.each, fileids_ascend 0 c.touched f.1.1.1.1), r.at)

check_code : (id : ItemId) (ls : List Location) (item : Item) → CheckIs id ls item → (kind_code item ≡ 4) × (id_of item ≡ id)
check_code id ls (kind.Block b) is = absurd is.1
check_code id ls (kind.Inode i) is = absurd is.1
check_code id ls (kind.Page p) is = absurd is.1
check_code id ls (kind.Check c) is = (refl, is.1)

check_sound : (h : Head) (ls : List Location) (body : List ℕ) (item : Item) → AreBytes body → h.kind ≡ 4 → ended (check_at h.id ls body) ≡ Ok item → BodyIs h ls body item
check_sound h ls body item fits code e =
    let r = (check_reads h.id ls).sound body item [] fits (ended_is (check_at h.id ls body) item e) in
    let k = check_code h.id ls item r.is in
    record { code = k.0 ∙ sym code; id = k.1; bytes = sym (append-nil (body_bytes item)) ∙ sym r.parts; is = λ all id_fits _ count. check_placed h.id ls item r.is all id_fits count }

block_sound : (h : Head) (ls : List Location) (body : List ℕ) (item : Item) → h.kind ≡ 1 → done (kind.Block (record { id = h.id; bytes = body })) ≡ Ok item → BodyIs h ls body item
unfolding body_bytes
block_sound h ls body item code e =
    let same = ok_value (kind.Block (record { id = h.id; bytes = body })) item e in
    subst (BodyIs h ls body) same
    (record {
      code = sym code;
      id = refl;
      bytes = refl;
      is = λ all id_fits long count.
          let w : Within 1 max_block_bytes (length body) = subst (λ (k : ℕ). Within (least_body k) (most_body k) (length body)) code long in
          ((id_fits, w.low, w.high), sym (nil_from_length ls (sym count)));
    })

-- the body behind a head of this kind
body_by : (code : ℕ) (h : Head) (ls : List Location) (body : List ℕ) (item : Item) → h.kind ≡ code → Within 1 4 code → AreBytes body
    → body_item (record h { kind = code }) ls body ≡ Ok item → BodyIs h ls body item
body_by zero h ls body item is w fits e = absurd (omega (arith, w.low))
body_by (suc zero) h ls body item is w fits e = block_sound h ls body item is e
body_by (suc (suc zero)) h ls body item is w fits e = inode_sound h ls body item fits is e
body_by (suc (suc (suc zero))) h ls body item is w fits e = page_sound h ls body item fits is e
body_by (suc (suc (suc (suc zero)))) h ls body item is w fits e = check_sound h ls body item fits is e
body_by (suc (suc (suc (suc (suc n))))) h ls body item is w fits e = absurd (omega (arith, w.high))

pub body_sound : (h : Head) (ls : List Location) (body : List ℕ) (item : Item) → Within 1 4 h.kind → AreBytes body → body_item h ls body ≡ Ok item → BodyIs h ls body item
body_sound h ls body item w fits e = body_by h.kind h ls body item refl w fits e
