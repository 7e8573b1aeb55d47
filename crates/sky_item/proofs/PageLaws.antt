-- The bodies of pages and checkpoints, and what stands before the body of an item, are read from the bytes that are their
-- encoding, and from no others.
use Rattle.std.proofs.Common.{◌≡◌, ℕ, ◌+◌, ◌-◌, ◌*◌, ◌^◌, ◌<◌, ◌≤◌, Bool, true, false, cond, eqb, List, [], ◌++◌, length, refl, sym, ap, subst, ◌∙◌, append_assoc, arith, lit<, lit≤}
use Rattle.std.specs.List.{flat_map}
use Rattle.std.proofs.lemmas.List.{append-nil}
use Rattle.sky_base.specs.Limits.{max_number, max_page_slots, max_pages, max_fileid, max_volume}
use Rattle.sky_base.specs.declared.place.ItemId.{ItemId}
use Rattle.sky_base.specs.declared.place.Link.{Link}
use Rattle.sky_base.specs.declared.place.Location.{Location}
use Rattle.sky_xdr.specs.Encoding.{uint, uhyper}
use Rattle.sky_item.specs.declared.item.CheckItem.{CheckItem}
use Rattle.sky_item.specs.declared.item.Item.{Item}
use Rattle.sky_item.specs.declared.item.Item.TheVariants as kind
use Rattle.sky_item.specs.declared.item.PageItem.{PageItem}
use Rattle.sky_item.specs.declared.lists.NumberedLink.{NumberedLink}
use Rattle.sky_item.specs.declared.parts.CheckNumbers.{CheckNumbers}
use Rattle.sky_item.specs.declared.parts.Head.{Head}
use Rattle.sky_item.specs.Encoding.{id_bytes, location_bytes, numbered_bytes, all_numbered_bytes, page_bytes, numbers_bytes, check_bytes, body_bytes}
use Rattle.sky_item.specs.Items.{IsId, IsLocation}
use Rattle.sky_item.specs.Reading.{uhyper_within}
use Rattle.sky_item.specs.Fields.{max_uint, location_at, locations_at, next_location, numbered_at, numbers_behind, all_numbered_at, page_at, check_numbers_at, fileids_at, check_at, least_body, most_body, head_at}
use Rattle.sky_item.proofs.Codecs.{Reads, Within, Any, uint_reads, uhyper_reads, raw_reads, each_reads, EachIs, AreEach, then_reads, last_reads, by_reads, as_reads, by_chain}
use Rattle.sky_item.proofs.PartLaws.{id_reads, location_reads}

-- ---- items that go by numbers

-- an item that goes by a number within the bound, and lies at the next of the locations
pub record NumberedIs (bound : ℕ) (s : ℕ × List Location) (n : NumberedLink) : Type 0 where
  pub number : Within s.0 (bound - 1) n.number
  pub id : IsId n.link.id
  pub at : n.link.at ≡ next_location s.1

link_same : (l : Link) (id : ItemId) (at : Location) → l.id ≡ id → l.at ≡ at → l ≡ record { id = id; at = at }
link_same l id at e f = let same : record { id = l.id; at = l.at } ≡ record { id = id; at = at } = cc in same

numbered_same : (n : NumberedLink) (number : ℕ) (id : ItemId) (at : Location) → n.number ≡ number → n.link.id ≡ id → n.link.at ≡ at → n ≡ record { number = number; link = record { id = id; at = at } }
numbered_same n number id at e f g =
    let link : n.link ≡ record { id = id; at = at } = link_same n.link id at f g in
    let made : ℕ → Link → NumberedLink = λ k l. record { number = k; link = l } in
    ap (λ (k : ℕ). made k n.link) e ∙ ap (made number) link

pub numbered_reads : (bound : ℕ) → bound ≤ 2 ^ 62 → (s : ℕ × List Location) → Reads (numbered_at bound s) numbered_bytes (NumberedIs bound s)
unfolding numbered_at numbered_bytes
numbered_reads bound small s = as_reads numbered_bytes (NumberedIs bound s)
    (λ b e. simp append-nil refl)
    (λ b is. ((is.number, (is.id, tt)), is.at))
    (λ b t e. record { number = t.0; id = t.1.0; at = e })
    (then_reads (λ (n : NumberedLink). n.number) _ _ _ (λ (n : NumberedLink). n.link.at ≡ next_location s.1) (uhyper_reads s.0 (bound - 1) (omega (arith, small))) (λ number _.
    last_reads (λ (n : NumberedLink). n.link.id) (λ id. record { number = number; link = record { id = id; at = next_location s.1 } }) _ id_reads
    (λ b c e f. numbered_same b number c (next_location s.1) e.1 f e.0)
    (λ c is. (refl, refl)) (λ c. refl)))

-- ---- pages

abbrev pub page_number : Item → ℕ
page_number (kind.Block b) = 0
page_number (kind.Inode i) = 0
page_number (kind.Page p) = p.number
page_number (kind.Check c) = 0

abbrev pub slots_of : Item → List NumberedLink
slots_of (kind.Block b) = []
slots_of (kind.Inode i) = []
slots_of (kind.Page p) = p.slots
slots_of (kind.Check c) = []

abbrev pub IsPage : ItemId → Item → Type 0
IsPage id (kind.Block b) = ⊥
IsPage id (kind.Inode i) = ⊥
IsPage id (kind.Page p) = p.id ≡ id
IsPage id (kind.Check c) = ⊥

-- the slots of a page of this number
abbrev pub AreSlots : List Location → ℕ → List NumberedLink → Type 0
AreSlots locations number slots = EachIs (NumberedIs ((number + 1) * max_page_slots)) numbers_behind (number * max_page_slots, locations) slots

-- the fields of a page
abbrev pub HasSlots : List Location → Item → Type 0
HasSlots locations b = Within 0 (max_pages - 1) (page_number b) × (Within 1 max_page_slots (length (slots_of b)) × AreSlots locations (page_number b) (slots_of b))

abbrev pub PageIs : ItemId → List Location → Item → Type 0
PageIs id locations b = HasSlots locations b × IsPage id b

page_same : (p : PageItem) (id : ItemId) (number : ℕ) (c : List NumberedLink) → p.id ≡ id → p.number ≡ number → p.slots ≡ c → p ≡ record { id = id; number = number; slots = c }
page_same p id number c e f g =
    let same : record { id = p.id; number = p.number; slots = p.slots } ≡ record { id = id; number = number; slots = c } = cc in
    same

page_known : (id : ItemId) (number : ℕ) (b : Item) (c : List NumberedLink) → IsPage id b → page_number b ≡ number → slots_of b ≡ c → b ≡ kind.Page (record { id = id; number = number; slots = c })
page_known id number (kind.Block b) c e f g = absurd e
page_known id number (kind.Inode i) c e f g = absurd e
page_known id number (kind.Page p) c e f g = ap kind.Page (page_same p id number c e f g)
page_known id number (kind.Check k) c e f g = absurd e

page_written : (id : ItemId) (b : Item) → IsPage id b → uhyper (page_number b) ++ (uint (length (slots_of b)) ++ (flat_map numbered_bytes (slots_of b) ++ [])) ≡ body_bytes b
unfolding body_bytes page_bytes all_numbered_bytes
page_written id (kind.Block b) e = absurd e
page_written id (kind.Inode i) e = absurd e
page_written id (kind.Page p) e = simp append-nil refl
page_written id (kind.Check c) e = absurd e

pub page_reads : (id : ItemId) (locations : List Location) → Reads (page_at id locations) body_bytes (PageIs id locations)
unfolding page_at all_numbered_at
page_reads id locations = as_reads body_bytes (PageIs id locations) (page_written id) (λ b is. is) (λ b t e. (t, e))
    (then_reads page_number _ _ (λ (b : Item). Within 1 max_page_slots (length (slots_of b)) × AreSlots locations (page_number b) (slots_of b)) (IsPage id)
    (uhyper_reads 0 (max_pages - 1) (lit< tt)) (λ number is_number.
    then_reads (λ (b : Item). length (slots_of b)) _ _ (λ (b : Item). AreSlots locations (page_number b) (slots_of b)) _ (uint_reads 1 max_page_slots (lit< tt)) (λ n _.
    by_chain (λ (b : Item). AreSlots locations (page_number b) (slots_of b))
    (λ b e t. (record { count = e.1; each = subst (λ (k : ℕ). AreSlots locations k (slots_of b)) e.0.1 t }, tt))
    (λ b e t. subst (λ (k : ℕ). AreSlots locations k (slots_of b)) (sym e.0.1) t.0.each)
    (last_reads slots_of (λ slots. kind.Page (record { id = id; number = number; slots = slots })) _
    (each_reads (numbered_at ((number + 1) * max_page_slots)) numbered_bytes (NumberedIs ((number + 1) * max_page_slots)) numbers_behind
    (numbered_reads ((number + 1) * max_page_slots) (omega (arith, is_number.high))) n (number * max_page_slots, locations))
    (λ b c e f. page_known id number b c e.0.0 e.0.1 f) (λ c is. ((refl, refl), is.count)) (λ c. refl)))))

-- ---- checkpoints

abbrev pub numbers_of : CheckItem → CheckNumbers
numbers_of c = record {
  volume = c.volume;
  covers = c.covers;
  next_fileid = c.next_fileid;
  first_seq = c.first_seq;
  merged = c.merged;
  base_epoch = c.base_epoch;
  base_seq = c.base_seq;
}

pub record NumbersAre (n : CheckNumbers) : Type 0 where
  pub volume : Within 1 max_volume n.volume
  pub covers : Within 0 (max_number - 1) n.covers
  pub next_fileid : Within 0 max_fileid n.next_fileid
  pub first_seq : Within 0 (max_number - 1) n.first_seq
  pub merged : Within 0 (max_number - 1) n.merged
  pub base_epoch : Within 0 (max_number - 1) n.base_epoch
  pub base_seq : Within 0 (max_number - 1) n.base_seq

abbrev written_numbers : CheckNumbers → List ℕ
written_numbers n = uhyper n.volume ++ uhyper n.covers ++ uhyper n.next_fileid ++ uhyper n.first_seq ++ uhyper n.merged ++ uhyper n.base_epoch ++ uhyper n.base_seq

numbers_same : (b : CheckNumbers) (volume covers next_fileid first_seq merged base_epoch base_seq : ℕ) → b.volume ≡ volume → b.covers ≡ covers → b.next_fileid ≡ next_fileid
    → b.first_seq ≡ first_seq → b.merged ≡ merged → b.base_epoch ≡ base_epoch → b.base_seq ≡ base_seq
    → b ≡ record { volume = volume; covers = covers; next_fileid = next_fileid; first_seq = first_seq; merged = merged; base_epoch = base_epoch; base_seq = base_seq }
numbers_same b volume covers next_fileid first_seq merged base_epoch base_seq e f g h i j k =
    let same : record { volume = b.volume; covers = b.covers; next_fileid = b.next_fileid; first_seq = b.first_seq; merged = b.merged; base_epoch = b.base_epoch; base_seq = b.base_seq }
    ≡ record { volume = volume; covers = covers; next_fileid = next_fileid; first_seq = first_seq; merged = merged; base_epoch = base_epoch; base_seq = base_seq } = cc in
    same

numbers_reads : Reads check_numbers_at written_numbers NumbersAre
unfolding check_numbers_at
numbers_reads = by_reads written_numbers NumbersAre
    (λ b. simp (append_assoc, append-nil) refl)
    (λ b is. (is.volume, (is.covers, (is.next_fileid, (is.first_seq, (is.merged, (is.base_epoch, (is.base_seq, tt))))))))
    (λ b t. record { volume = t.0; covers = t.1.0; next_fileid = t.1.1.0; first_seq = t.1.1.1.0; merged = t.1.1.1.1.0; base_epoch = t.1.1.1.1.1.0; base_seq = t.1.1.1.1.1.1.0 })
    (then_reads (λ (n : CheckNumbers). n.volume) _ _ _ Any (uhyper_reads 1 max_volume (lit< tt)) (λ volume _.
    then_reads (λ (n : CheckNumbers). n.covers) _ _ _ _ (uhyper_reads 0 (max_number - 1) (lit< tt)) (λ covers _.
    then_reads (λ (n : CheckNumbers). n.next_fileid) _ _ _ _ (uhyper_reads 0 max_fileid (lit< tt)) (λ next_fileid _.
    then_reads (λ (n : CheckNumbers). n.first_seq) _ _ _ _ (uhyper_reads 0 (max_number - 1) (lit< tt)) (λ first_seq _.
    then_reads (λ (n : CheckNumbers). n.merged) _ _ _ _ (uhyper_reads 0 (max_number - 1) (lit< tt)) (λ merged _.
    then_reads (λ (n : CheckNumbers). n.base_epoch) _ _ _ _ (uhyper_reads 0 (max_number - 1) (lit< tt)) (λ base_epoch _.
    last_reads (λ (n : CheckNumbers). n.base_seq)
    (λ base_seq. record { volume = volume; covers = covers; next_fileid = next_fileid; first_seq = first_seq; merged = merged; base_epoch = base_epoch; base_seq = base_seq }) _
    (uhyper_reads 0 (max_number - 1) (lit< tt))
    (λ b c e f. numbers_same b volume covers next_fileid first_seq merged base_epoch c e.0.0.0.0.0.1 e.0.0.0.0.1 e.0.0.0.1 e.0.0.1 e.0.1 e.1 f)
    (λ c is. ((((((tt, refl), refl), refl), refl), refl), refl)) (λ c. refl))))))))

abbrev pub check_numbers : Item → CheckNumbers
check_numbers (kind.Block b) = record { volume = 0; covers = 0; next_fileid = 0; first_seq = 0; merged = 0; base_epoch = 0; base_seq = 0 }
check_numbers (kind.Inode i) = record { volume = 0; covers = 0; next_fileid = 0; first_seq = 0; merged = 0; base_epoch = 0; base_seq = 0 }
check_numbers (kind.Page p) = record { volume = 0; covers = 0; next_fileid = 0; first_seq = 0; merged = 0; base_epoch = 0; base_seq = 0 }
check_numbers (kind.Check c) = numbers_of c

abbrev pub pages_of : Item → List NumberedLink
pages_of (kind.Block b) = []
pages_of (kind.Inode i) = []
pages_of (kind.Page p) = []
pages_of (kind.Check c) = c.pages

abbrev pub touched_of : Item → List ℕ
touched_of (kind.Block b) = []
touched_of (kind.Inode i) = []
touched_of (kind.Page p) = []
touched_of (kind.Check c) = c.touched

abbrev pub IsCheck : ItemId → Item → Type 0
IsCheck id (kind.Block b) = ⊥
IsCheck id (kind.Inode i) = ⊥
IsCheck id (kind.Page p) = ⊥
IsCheck id (kind.Check c) = c.id ≡ id

abbrev pub ArePages : List Location → List NumberedLink → Type 0
ArePages locations pages = EachIs (NumberedIs max_pages) numbers_behind (0, locations) pages

abbrev pub FileidIs : ℕ → ℕ → Type 0
FileidIs least fileid = Within least (max_fileid - 1) fileid

abbrev pub AreFileids : List ℕ → Type 0
AreFileids touched = EachIs FileidIs (λ least fileid. fileid + 1) 0 touched

-- the fields of a checkpoint
abbrev pub HasPages : List Location → Item → Type 0
HasPages locations b =
    NumbersAre (check_numbers b) × (Within 0 max_pages (length (pages_of b)) × (ArePages locations (pages_of b) × (Within 0 max_uint (length (touched_of b)) × AreFileids (touched_of b))))

abbrev pub CheckIs : ItemId → List Location → Item → Type 0
CheckIs id locations b = HasPages locations b × IsCheck id b

abbrev check_with : ItemId → CheckNumbers → List NumberedLink → List ℕ → CheckItem
check_with id n pages touched = record {
  id = id;
  volume = n.volume;
  covers = n.covers;
  next_fileid = n.next_fileid;
  first_seq = n.first_seq;
  merged = n.merged;
  base_epoch = n.base_epoch;
  base_seq = n.base_seq;
  pages = pages;
  touched = touched;
}

check_same : (c : CheckItem) (id : ItemId) (n : CheckNumbers) (pages : List NumberedLink) (touched : List ℕ) → c.id ≡ id → numbers_of c ≡ n → c.pages ≡ pages → c.touched ≡ touched → c ≡ check_with id n pages touched
check_same c id n pages touched e f g h =
    ap (λ (i : ItemId). check_with i (numbers_of c) c.pages c.touched) e ∙ ap (λ (m : CheckNumbers). check_with id m c.pages c.touched) f
    ∙ ap (λ (p : List NumberedLink). check_with id n p c.touched) g ∙ ap (check_with id n pages) h

check_known : (id : ItemId) (n : CheckNumbers) (pages : List NumberedLink) (b : Item) (c : List ℕ) → IsCheck id b → check_numbers b ≡ n → pages_of b ≡ pages → touched_of b ≡ c → b ≡ kind.Check (check_with id n pages c)
check_known id n pages (kind.Block b) c e f g h = absurd e
check_known id n pages (kind.Inode i) c e f g h = absurd e
check_known id n pages (kind.Page p) c e f g h = absurd e
check_known id n pages (kind.Check k) c e f g h = ap kind.Check (check_same k id n pages c e f g h)

check_written : (id : ItemId) (b : Item) → IsCheck id b
    → written_numbers (check_numbers b) ++ (uint (length (pages_of b)) ++ (flat_map numbered_bytes (pages_of b) ++ (uint (length (touched_of b)) ++ (flat_map uhyper (touched_of b) ++ [])))) ≡ body_bytes b
unfolding body_bytes check_bytes numbers_bytes all_numbered_bytes
check_written id (kind.Block b) e = absurd e
check_written id (kind.Inode i) e = absurd e
check_written id (kind.Page p) e = absurd e
check_written id (kind.Check c) e = simp (append_assoc, append-nil) refl

pub check_reads : (id : ItemId) (locations : List Location) → Reads (check_at id locations) body_bytes (CheckIs id locations)
unfolding check_at all_numbered_at fileids_at
check_reads id locations = as_reads body_bytes (CheckIs id locations) (check_written id) (λ b is. is) (λ b t e. (t, e))
    (then_reads check_numbers _ _ (λ (b : Item). Within 0 max_pages (length (pages_of b)) × (ArePages locations (pages_of b) × (Within 0 max_uint (length (touched_of b)) × AreFileids (touched_of b)))) (IsCheck id)
    numbers_reads (λ numbers _.
    then_reads (λ (b : Item). length (pages_of b)) _ _ (λ (b : Item). ArePages locations (pages_of b) × (Within 0 max_uint (length (touched_of b)) × AreFileids (touched_of b))) _ (uint_reads 0 max_pages (lit< tt)) (λ n _.
    by_chain (λ (b : Item). ArePages locations (pages_of b) × (Within 0 max_uint (length (touched_of b)) × AreFileids (touched_of b)))
    (λ b e t. (record { count = e.1; each = t.0 }, t.1)) (λ b e t. (t.0.each, t.1))
    (then_reads pages_of _ _ (λ (b : Item). Within 0 max_uint (length (touched_of b)) × AreFileids (touched_of b)) _
    (each_reads (numbered_at max_pages) numbered_bytes (NumberedIs max_pages) numbers_behind (numbered_reads max_pages (lit≤ tt)) n (0, locations)) (λ pages is_pages.
    then_reads (λ (b : Item). length (touched_of b)) _ _ (λ (b : Item). AreFileids (touched_of b)) _ (uint_reads 0 max_uint (lit< tt)) (λ m _.
    by_chain (λ (b : Item). AreFileids (touched_of b))
    (λ b e t. (record { count = e.1; each = t }, tt)) (λ b e t. t.0.each)
    (last_reads touched_of (λ touched. kind.Check (check_with id numbers pages touched)) _
    (each_reads (λ least. uhyper_within least (max_fileid - 1)) uhyper FileidIs (λ least fileid. fileid + 1) (λ least. uhyper_reads least (max_fileid - 1) (lit< tt)) m 0)
    (λ b c e f. check_known id numbers pages b c e.0.0.0.0 e.0.0.0.1 e.0.1 f) (λ c is. ((((refl, refl), is_pages.count), refl), is.count)) (λ c. refl))))))))

-- ---- what stands before the body

abbrev pub written_head : Head → List ℕ
written_head h = uint h.kind ++ id_bytes h.id ++ uint h.body ++ uint h.count ++ h.digest

pub record IsHead (h : Head) : Type 0 where
  pub kind : Within 1 4 h.kind
  pub id : IsId h.id
  pub body : Within (least_body h.kind) (most_body h.kind) h.body
  pub count : Within 0 max_uint h.count
  pub digest : length h.digest ≡ 32

pub head_same : (h : Head) (code : ℕ) (id : ItemId) (body count : ℕ) (digest : List ℕ) → h.kind ≡ code → h.id ≡ id → h.body ≡ body → h.count ≡ count → h.digest ≡ digest
    → h ≡ record { kind = code; id = id; body = body; count = count; digest = digest }
head_same h code id body count digest e f g i j =
    let same : record { kind = h.kind; id = h.id; body = h.body; count = h.count; digest = h.digest } ≡ record { kind = code; id = id; body = body; count = count; digest = digest } = cc in
    same

bound_of : (block : Bool) → cond block 32768 (2 ^ 32 - 1) < 2 ^ 32
bound_of true = lit< tt
bound_of false = lit< tt

pub body_bound : (code : ℕ) → most_body code < 2 ^ 32
body_bound code = bound_of (eqb code 1)

pub head_reads : Reads head_at written_head IsHead
unfolding head_at
head_reads = by_reads written_head IsHead
    (λ b. simp (append_assoc, append-nil) refl)
    (λ b is. (is.kind, (is.id, (is.body, (is.count, (is.digest, tt))))))
    (λ b t. record { kind = t.0; id = t.1.0; body = t.1.1.0; count = t.1.1.1.0; digest = t.1.1.1.1.0 })
    (then_reads (λ (h : Head). h.kind) _ _ _ Any (uint_reads 1 4 (lit< tt)) (λ code _.
    then_reads (λ (h : Head). h.id) _ _ _ _ id_reads (λ id _.
    by_chain (λ (h : Head). Within (least_body h.kind) (most_body h.kind) h.body × (Within 0 max_uint h.count × ((length h.digest ≡ 32) × Unit {0})))
    (λ b e t. (subst (λ (k : ℕ). Within (least_body k) (most_body k) b.body) e.0.1 t.0, t.1))
    (λ b e t. (subst (λ (k : ℕ). Within (least_body k) (most_body k) b.body) (sym e.0.1) t.0, t.1))
    (then_reads (λ (h : Head). h.body) _ _ _ _ (uint_reads (least_body code) (most_body code) (body_bound code)) (λ body _.
    then_reads (λ (h : Head). h.count) _ _ _ _ (uint_reads 0 max_uint (lit< tt)) (λ count _.
    last_reads (λ (h : Head). h.digest) (λ digest. record { kind = code; id = id; body = body; count = count; digest = digest }) _ (raw_reads 32)
    (λ b c e f. head_same b code id body count c e.0.0.0.1 e.0.0.1 e.0.1 e.1 f)
    (λ c is. ((((tt, refl), refl), refl), refl)) (λ c. refl)))))))

-- locations, one behind the other
pub locations_reads : (n : ℕ) → Reads (locations_at n) (flat_map location_bytes) (AreEach (λ _. IsLocation) (λ s at. s) n (tt {0}))
unfolding locations_at
locations_reads n = each_reads (λ _. location_at) location_bytes (λ _. IsLocation) (λ s at. s) (λ _. location_reads) n (tt {0})
