-- Items: what is an item's encoding is read as it, and what is read is encoded so.
--   item_again                 an encoding is read as its item
--   item_sound                 what is read is an item, and the bytes are its encoding
--   one_item, no_prefix        no bytes are the encodings of two items, nor begin with that of another
--   copy_same                  an item elsewhere is the same item
use Rattle.std.proofs.Common.{◌≡◌, ℕ, ◌+◌, ◌-◌, ◌*◌, ◌^◌, ◌<◌, ◌≤◌, Bool, true, false, cond, ltb, eqb, List, [], ◌++◌, length, take, drop, Result, Ok, Err, refl, sym, ap, subst, ◌∙◌, append_assoc, arith, eq-eqb}
use Rattle.std.specs.List.{flat_map, AllByRecursion}
use Rattle.std.specs.Str.{bytes_eq}
use Rattle.std.proofs.lemmas.Bool.{eqb-true, ltb-false, le-ltb}
use Rattle.std.proofs.lemmas.List.{nil_from_length, take_all, take_at, drop_at, length-append}
use Rattle.std.proofs.lemmas.Nat.{from_be_bytes-to_be_bytes_4}
use Rattle.std.proofs.lemmas.Slice.Eq.{bytes_eq-Decides}
use Rattle.sha2.specs.Sha256.{sha256}
use Rattle.sha2.proofs.Facts256.{length-sha256}
use Rattle.sky_base.specs.declared.place.Damage.{Damage}
use Rattle.sky_base.specs.declared.place.Damage.TheVariants.{Short, Form, Digest}
use Rattle.sky_base.specs.declared.place.Location.{Location}
use Rattle.sky_xdr.specs.Encoding.{AreBytes, uint}
use Rattle.sky_xdr.specs.Reading.{word}
use Rattle.sky_xdr.proofs.Numbers.{length-uint}
use Rattle.sky_item.specs.declared.item.Content.{Content}
use Rattle.sky_item.specs.declared.item.Content.TheVariants.{Regular, Directory, SymbolicLink}
use Rattle.sky_item.specs.declared.item.Item.{Item}
use Rattle.sky_item.specs.declared.item.Item.TheVariants as kind
use Rattle.sky_item.specs.declared.parts.Head.{Head}
use Rattle.sky_item.specs.Encoding.{id_bytes, location_bytes, kind_code, id_of, content_locations, locations_of, body_bytes, item_header, item_bytes}
use Rattle.sky_item.specs.Items.{IsId, IsContent, IsItem, IsLocation, EncodesItem}
use Rattle.sky_item.specs.Reading.{behind}
use Rattle.sky_item.specs.Fields.{max_uint, least_body, most_body, count_place, head_at, locations_at, body_item, counted, item_behind, fields_of, said_start, said_length, stored_digest, computed_digest, verified, item_at}
use Rattle.sky_item.proofs.Codecs.{Within}
use Rattle.sky_item.proofs.PageLaws.{written_head, IsHead, head_same, body_bound, head_reads, locations_reads}
use Rattle.sky_item.proofs.PlaceLaws.{locations_each, locations_all, blocks_located, numbered_located}
use Rattle.sky_item.proofs.BodyLaws.{head_of, body_again, BodyIs, body_sound}
use Rattle.sky_item.proofs.Sizes.{length-id_bytes, length-location_bytes, length-flat_map_of, length-body_bytes, links_few, body_small}

-- ---- numbers at places

word_uint : (n : ℕ) (rest : List ℕ) → n < 2 ^ 32 → word (uint n ++ rest) ≡ n
unfolding word uint
word_uint n rest lt = from_be_bytes-to_be_bytes_4 n lt

-- the bytes of a head, and what stands behind it
abbrev headed : Head → List ℕ → List ℕ
headed h rest = written_head h ++ rest

said_body : (h : Head) (rest : List ℕ) → h.body < 2 ^ 32 → word (drop 20 (headed h rest)) ≡ h.body
said_body h rest lt =
    let e : headed h rest ≡ (uint h.kind ++ id_bytes h.id) ++ (uint h.body ++ (uint h.count ++ (h.digest ++ rest))) = simp append_assoc refl in
    let long : length (uint h.kind ++ id_bytes h.id) ≡ 20 = omega (arith, length-append (uint h.kind) (id_bytes h.id), length-uint h.kind, length-id_bytes h.id) in
    ap (λ (t : List ℕ). word (drop 20 t)) e ∙ ap word (drop_at (uint h.kind ++ id_bytes h.id) _ 20 long) ∙ word_uint h.body _ lt

said_count : (h : Head) (rest : List ℕ) → h.count < 2 ^ 32 → word (drop count_place (headed h rest)) ≡ h.count
said_count h rest lt =
    let e : headed h rest ≡ (uint h.kind ++ id_bytes h.id ++ uint h.body) ++ (uint h.count ++ (h.digest ++ rest)) = simp append_assoc refl in
    let long : length (uint h.kind ++ id_bytes h.id ++ uint h.body) ≡ 24 =
    omega (arith, length-append (uint h.kind ++ id_bytes h.id) (uint h.body), length-append (uint h.kind) (id_bytes h.id), length-uint h.kind, length-id_bytes h.id, length-uint h.body) in
    ap (λ (t : List ℕ). word (drop 24 t)) e ∙ ap word (drop_at (uint h.kind ++ id_bytes h.id ++ uint h.body) _ 24 long) ∙ word_uint h.count _ lt

said_digest : (h : Head) (rest : List ℕ) → length h.digest ≡ 32 → stored_digest (headed h rest) ≡ h.digest
said_digest h rest is =
    let e : headed h rest ≡ (uint h.kind ++ id_bytes h.id ++ uint h.body ++ uint h.count) ++ (h.digest ++ rest) = simp append_assoc refl in
    let long : length (uint h.kind ++ id_bytes h.id ++ uint h.body ++ uint h.count) ≡ 28 =
    omega (
      arith,
      length-append (uint h.kind ++ id_bytes h.id ++ uint h.body) (uint h.count),
      length-append (uint h.kind ++ id_bytes h.id) (uint h.body),
      length-append (uint h.kind) (id_bytes h.id),
      length-uint h.kind,
      length-id_bytes h.id,
      length-uint h.body,
      length-uint h.count,
    ) in
    ap stored_digest e ∙ ap (take 32) (drop_at (uint h.kind ++ id_bytes h.id ++ uint h.body ++ uint h.count) _ 28 long) ∙ take_at h.digest rest 32 is

-- a head, its locations and its body
pub record Parts (bytes : List ℕ) (h : Head) (ls : List Location) (body : List ℕ) : Type 0 where
  pub bytes_are : bytes ≡ headed h (flat_map location_bytes ls ++ body)
  pub head : IsHead h
  pub count : length ls ≡ h.count

length-head : (h : Head) → length h.digest ≡ 32 → length (written_head h) ≡ 60
length-head h is =
    omega (
      arith,
      length-append (uint h.kind ++ id_bytes h.id ++ uint h.body ++ uint h.count) h.digest,
      length-append (uint h.kind ++ id_bytes h.id ++ uint h.body) (uint h.count),
      length-append (uint h.kind ++ id_bytes h.id) (uint h.body),
      length-append (uint h.kind) (id_bytes h.id),
      length-uint h.kind,
      length-id_bytes h.id,
      length-uint h.body,
      length-uint h.count,
      is,
    )

-- what such bytes say
pub record Says (bytes : List ℕ) (h : Head) (ls : List Location) (body : List ℕ) : Type 0 where
  pub start : said_start bytes ≡ 60 + 28 * length ls
  pub size : said_length bytes ≡ 60 + 28 * length ls + h.body
  pub long : length bytes ≡ 60 + 28 * length ls + length body
  pub stored : stored_digest bytes ≡ h.digest
  pub computed : computed_digest bytes ≡ sha256 body

body_fits : (h : Head) → Within (least_body h.kind) (most_body h.kind) h.body → h.body < 2 ^ 32
body_fits h w = omega (arith, w.high, body_bound h.kind)

parts_say : (bytes : List ℕ) (h : Head) (ls : List Location) (body : List ℕ) → Parts bytes h ls body → Says bytes h ls body
parts_say bytes h ls body p =
    let rest : List ℕ = flat_map location_bytes ls ++ body in
    let is = p.head in
    let count : word (drop count_place bytes) ≡ h.count = ap (λ (t : List ℕ). word (drop count_place t)) p.bytes_are ∙ said_count h rest (omega (arith, is.count.high)) in
    let size : word (drop 20 bytes) ≡ h.body = ap (λ (t : List ℕ). word (drop 20 t)) p.bytes_are ∙ said_body h rest (omega (arith, body_fits h is.body)) in
    let front : length (written_head h ++ flat_map location_bytes ls) ≡ 60 + 28 * length ls =
    omega (arith, length-append (written_head h) (flat_map location_bytes ls), length-head h is.digest, length-flat_map_of location_bytes 28 ls length-location_bytes) in
    let grouped : bytes ≡ (written_head h ++ flat_map location_bytes ls) ++ body = p.bytes_are ∙ sym (append_assoc (written_head h) (flat_map location_bytes ls) body) in
    let start : said_start bytes ≡ 60 + 28 * length ls = omega (arith, count, p.count) in
    record {
      start = start;
      size = omega (arith, start, size);
      long = omega (arith, ap length grouped, length-append (written_head h ++ flat_map location_bytes ls) body, front);
      stored = ap stored_digest p.bytes_are ∙ said_digest h rest is.digest;
      computed = ap (λ (n : ℕ). sha256 (drop n bytes)) start ∙ ap (λ (t : List ℕ). sha256 (drop (60 + 28 * length ls) t)) grouped
          ∙ ap sha256 (drop_at (written_head h ++ flat_map location_bytes ls) body (60 + 28 * length ls) front);
    }

-- ---- what is an encoding is read

content_fit : (c : Content) → IsContent c → AllByRecursion IsLocation (content_locations c)
content_fit (Regular size blocks) is = blocks_located blocks is.2
content_fit (Directory parent next_cookie rows) is = tt
content_fit (SymbolicLink text) is = tt

locations_fit : (item : Item) → IsItem item → AllByRecursion IsLocation (locations_of item)
locations_fit (kind.Block b) is = tt
locations_fit (kind.Inode i) is = content_fit i.content is.2
locations_fit (kind.Page p) is = numbered_located p.slots is.3.each
locations_fit (kind.Check c) is = numbered_located c.pages is.2.each

code_within : (item : Item) → Within 1 4 (kind_code item)
code_within (kind.Block b) = record { low = omega arith; high = omega arith }
code_within (kind.Inode i) = record { low = omega arith; high = omega arith }
code_within (kind.Page p) = record { low = omega arith; high = omega arith }
code_within (kind.Check c) = record { low = omega arith; high = omega arith }

id_fits : (item : Item) → IsItem item → IsId (id_of item)
id_fits (kind.Block b) is = is.0
id_fits (kind.Inode i) is = is.0
id_fits (kind.Page p) is = is.0
id_fits (kind.Check c) is = is.0

body_within : (item : Item) → IsItem item → length (body_bytes item) ≤ max_uint
body_within item is = omega (arith, length-body_bytes item is, body_small item is)

block_within : (item : Item) → IsItem item → Within (least_body (kind_code item)) (most_body (kind_code item)) (length (body_bytes item))
unfolding body_bytes
block_within (kind.Block b) is = record { low = is.1; high = is.2 }
block_within (kind.Inode i) is = record { low = omega arith; high = body_within (kind.Inode i) is }
block_within (kind.Page p) is = record { low = omega arith; high = body_within (kind.Page p) is }
block_within (kind.Check c) is = record { low = omega arith; high = body_within (kind.Check c) is }

head_is : (item : Item) → IsItem item → IsHead (head_of item)
head_is item is = record {
  kind = code_within item;
  id = id_fits item is;
  body = block_within item is;
  count = record { low = omega arith; high = omega (arith, links_few item is) };
  digest = length-sha256 (body_bytes item);
}

item_parts : (item : Item) → IsItem item → Parts (item_bytes item) (head_of item) (locations_of item) (body_bytes item)
unfolding item_bytes item_header
item_parts item is = record {
  bytes_are = append_assoc (written_head (head_of item)) (flat_map location_bytes (locations_of item)) (body_bytes item);
  head = head_is item is;
  count = refl;
}

fields_again : (item : Item) → IsItem item → fields_of (item_bytes item) ≡ Ok item
unfolding fields_of
fields_again item is =
    let bytes : List ℕ = item_bytes item in
    let h : Head = head_of item in
    let ls : List Location = locations_of item in
    let body : List ℕ = body_bytes item in
    let p = item_parts item is in
    let first : head_at bytes ≡ Ok (h, flat_map location_bytes ls ++ body) = ap head_at p.bytes_are ∙ head_reads.again h (flat_map location_bytes ls ++ body) p.head in
    let second : locations_at h.count (flat_map location_bytes ls ++ body) ≡ Ok (ls, body) =
    (locations_reads h.count).again ls body (record { count = refl; each = locations_each tt ls (locations_fit item is) }) in
    let third : counted bytes h.count (Ok item) ≡ Ok item = rw (eq-eqb (length ls) (length ls) refl) refl in
    ap (behind (item_behind bytes)) first ∙ ap (λ (r : Result (List Location × List ℕ) ℕ). counted bytes h.count (behind (body_item h) r)) second
    ∙ ap (counted bytes h.count) (body_again item is) ∙ third

-- the choice of what is judged behind the fields
verified_again : (bytes : List ℕ) (item : Item) → said_length bytes ≡ length bytes → stored_digest bytes ≡ computed_digest bytes → verified bytes (Ok item) ≡ Ok item
verified_again bytes item size digest =
    let short : ltb (said_length bytes) (length bytes) ≡ false = le-ltb _ _ (omega (arith, size)) in
    let same : bytes_eq (stored_digest bytes) (computed_digest bytes) ≡ true = (bytes_eq-Decides (stored_digest bytes) (computed_digest bytes)).1 digest in
    rw (short, same) refl

pub item_again : (bytes : List ℕ) (item : Item) → EncodesItem bytes item → item_at bytes ≡ Ok item
unfolding item_at
item_again bytes item e =
    let whole : List ℕ = item_bytes item in
    let s = parts_say whole (head_of item) (locations_of item) (body_bytes item) (item_parts item e.is) in
    let size : said_length whole ≡ length whole = omega (arith, s.size, s.long) in
    let long : ltb (length whole) (said_length whole) ≡ false = le-ltb _ _ (omega (arith, size)) in
    let all : take (said_length whole) whole ≡ whole = ap (λ (n : ℕ). take n whole) size ∙ take_all (length whole) whole (omega arith) in
    let read : verified whole (fields_of (take (said_length whole) whole)) ≡ Ok item =
    ap (λ (t : List ℕ). verified whole (fields_of t)) all ∙ ap (verified whole) (fields_again item e.is) ∙ verified_again whole item size (s.stored ∙ sym s.computed) in
    let chosen : cond (ltb (length whole) (said_length whole)) (Err (Short (length whole))) (verified whole (fields_of (take (said_length whole) whole))) ≡ Ok item = rw long read in
    subst (λ (t : List ℕ). cond (ltb (length t) (said_length t)) (Err (Short (length t))) (verified t (fields_of (take (said_length t) t))) ≡ Ok item) (sym e.encoded) chosen

-- ---- what is read is encoded so

-- a step that gave a value
record Went {A R : Type 0} (k : A → List ℕ → Result R ℕ) (r : Result (A × List ℕ) ℕ) (y : R) : Type 0 where
  x : A
  rest : List ℕ
  read : r ≡ Ok (x, rest)
  next : k x rest ≡ Ok y

went : {A R : Type 0} (k : A → List ℕ → Result R ℕ) (r : Result (A × List ℕ) ℕ) (y : R) → behind k r ≡ Ok y → Went k r y
went k (Ok (x, rest)) y e = record { x = x; rest = rest; read = refl; next = e }
went k (Err left) y e = absurd cc

abbrev found : Item → Result Item ℕ
found item = Ok item

found_is : (a b : Item) → found a ≡ found b → a ≡ b
found_is a b e = cc

count_choice : (bytes : List ℕ) (count : ℕ) (a : Item) (b : Bool) (item : Item) → eqb (length (locations_of a)) count ≡ b
    → cond b (found a) (Err (length bytes - count_place)) ≡ Ok item → (a ≡ item) × (length (locations_of a) ≡ count)
count_choice bytes count a true item test e = (found_is a item e, eqb-true _ _ test)
count_choice bytes count a false item test e = absurd cc

counted_is : (bytes : List ℕ) (count : ℕ) (r : Result Item ℕ) (item : Item) → counted bytes count r ≡ Ok item → (r ≡ Ok item) × (length (locations_of item) ≡ count)
counted_is bytes count (Ok a) item e =
    let t = count_choice bytes count a (eqb (length (locations_of a)) count) item refl e in
    (ap found t.0, subst (λ (i : Item). length (locations_of i) ≡ count) t.0 t.1)
counted_is bytes count (Err left) item e = absurd cc

-- the fields of an item that were read
record FieldsRead (bytes : List ℕ) (item : Item) : Type 0 where
  h : Head
  ls : List Location
  body : List ℕ
  parts : Parts bytes h ls body
  all : AllByRecursion IsLocation ls
  is : BodyIs h ls body item
  links : length (locations_of item) ≡ h.count

fields_sound : (bytes : List ℕ) (item : Item) → AreBytes bytes → fields_of bytes ≡ Ok item → FieldsRead bytes item
unfolding fields_of
fields_sound bytes item fits e =
    let first = went (item_behind bytes) (head_at bytes) item e in
    let h = first.x in
    let c = counted_is bytes h.count (behind (body_item h) (locations_at h.count first.rest)) item first.next in
    let second = went (body_item h) (locations_at h.count first.rest) item c.0 in
    let head = head_reads.sound bytes h first.rest fits first.read in
    let locations = (locations_reads h.count).sound first.rest second.x second.rest head.fits second.read in
    record {
      h = h;
      ls = second.x;
      body = second.rest;
      parts = record { bytes_are = head.parts ∙ ap (λ (t : List ℕ). written_head h ++ t) locations.parts; head = head.is; count = locations.is.count };
      all = locations_all tt second.x locations.is.each;
      is = body_sound h second.x second.rest item head.is.kind locations.fits second.next;
      links = c.1;
    }

abbrev given : Item → Result Item Damage
given item = Ok item

given_is : (a b : Item) → given a ≡ given b → a ≡ b
given_is a b e = cc

-- what was verified
record Verified (bytes : List ℕ) (r : Result Item ℕ) (item : Item) : Type 0 where
  fields : r ≡ Ok item
  within : ltb (said_length bytes) (length bytes) ≡ false
  digest : bytes_eq (stored_digest bytes) (computed_digest bytes) ≡ true

verified_choice : (bytes : List ℕ) (a : Item) (past same : Bool) (item : Item) → ltb (said_length bytes) (length bytes) ≡ past → bytes_eq (stored_digest bytes) (computed_digest bytes) ≡ same
    → cond past (Err (Form (said_length bytes))) (cond same (given a) (Err (Digest (stored_digest bytes) (computed_digest bytes)))) ≡ Ok item → Verified bytes (Ok a) item
verified_choice bytes a true same item t u e = absurd cc
verified_choice bytes a false true item t u e = record { fields = ap found (given_is a item e); within = t; digest = u }
verified_choice bytes a false false item t u e = absurd cc

verified_is : (bytes : List ℕ) (r : Result Item ℕ) (item : Item) → verified bytes r ≡ Ok item → Verified bytes r item
verified_is bytes (Ok a) item e = verified_choice bytes a (ltb (said_length bytes) (length bytes)) (bytes_eq (stored_digest bytes) (computed_digest bytes)) item refl refl e
verified_is bytes (Err left) item e = absurd cc

unless_short : (b : Bool) (d : Damage) (r : Result Item Damage) (item : Item) → cond b (Err d) r ≡ Ok item → (b ≡ false) × (r ≡ Ok item)
unless_short true d r item e = absurd cc
unless_short false d r item e = (refl, e)

-- fields whose digest and whose length are right
encodes : (bytes : List ℕ) (item : Item) → FieldsRead bytes item → said_length bytes ≡ length bytes → stored_digest bytes ≡ computed_digest bytes → EncodesItem bytes item
encodes bytes item f size digest =
    let h = f.h in
    let s = parts_say bytes h f.ls f.body f.parts in
    let long : h.body ≡ length f.body = omega (arith, s.size, s.long, size) in
    let within = subst (λ (n : ℕ). Within (least_body h.kind) (most_body h.kind) n) long f.parts.head.body in
    let r = f.is.is f.all f.parts.head.id within (omega (arith, f.links, f.parts.count)) in
    let body_long : length (body_bytes item) ≡ h.body = ap length f.is.bytes ∙ sym long in
    let hash : sha256 (body_bytes item) ≡ h.digest = ap sha256 f.is.bytes ∙ sym s.computed ∙ sym digest ∙ s.stored in
    let head : head_of item ≡ h = head_same (head_of item) h.kind h.id h.body h.count h.digest f.is.code f.is.id body_long f.links hash in
    record {
      is = r.0;
      encoded = f.parts.bytes_are ∙ ap (λ (k : Head). headed k (flat_map location_bytes f.ls ++ f.body)) (sym head)
          ∙ ap (λ (ls : List Location). headed (head_of item) (flat_map location_bytes ls ++ f.body)) (sym r.1)
          ∙ ap (λ (t : List ℕ). headed (head_of item) (flat_map location_bytes (locations_of item) ++ t)) (sym f.is.bytes) ∙ sym (item_parts item r.0).bytes_are;
    }

pub item_sound : (bytes : List ℕ) (item : Item) → AreBytes bytes → item_at bytes ≡ Ok item → EncodesItem bytes item
unfolding item_at
item_sound bytes item fits e =
    let u = unless_short (ltb (length bytes) (said_length bytes)) (Short (length bytes)) (verified bytes (fields_of (take (said_length bytes) bytes))) item e in
    let v = verified_is bytes (fields_of (take (said_length bytes) bytes)) item u.1 in
    let low : said_length bytes ≤ length bytes = ltb-false _ _ u.0 in
    let high : length bytes ≤ said_length bytes = ltb-false _ _ v.within in
    let size : said_length bytes ≡ length bytes = omega (arith, low, high) in
    let all : take (said_length bytes) bytes ≡ bytes = take_all (said_length bytes) bytes high in
    let fields : fields_of bytes ≡ Ok item = ap fields_of (sym all) ∙ v.fields in
    encodes bytes item (fields_sound bytes item fits fields) size ((bytes_eq-Decides (stored_digest bytes) (computed_digest bytes)).0 v.digest)

-- ---- one reading

pub one_item : (bytes : List ℕ) (a b : Item) → EncodesItem bytes a → EncodesItem bytes b → a ≡ b
one_item bytes a b p q = given_is a b (sym (item_again bytes a p) ∙ item_again bytes b q)

pub no_prefix : (bytes more : List ℕ) (a b : Item) → EncodesItem bytes a → EncodesItem (bytes ++ more) b → more ≡ []
no_prefix bytes more a b p q =
    let ls : List Location = locations_of a in
    let h : Head = head_of a in
    let first = item_parts a p.is in
    let s = parts_say (item_bytes a) h ls (body_bytes a) first in
    let rest : List ℕ = flat_map location_bytes ls ++ body_bytes a in
    let start : bytes ++ more ≡ headed h (rest ++ more) = ap (λ (t : List ℕ). t ++ more) (p.encoded ∙ first.bytes_are) ∙ append_assoc (written_head h) rest more in
    let is = first.head in
    let count : word (drop count_place (bytes ++ more)) ≡ h.count = ap (λ (t : List ℕ). word (drop count_place t)) start ∙ said_count h (rest ++ more) (omega (arith, is.count.high)) in
    let size : word (drop 20 (bytes ++ more)) ≡ h.body = ap (λ (t : List ℕ). word (drop 20 t)) start ∙ said_body h (rest ++ more) (body_fits h is.body) in
    let other = parts_say (item_bytes b) (head_of b) (locations_of b) (body_bytes b) (item_parts b q.is) in
    let same : said_length (bytes ++ more) ≡ said_length (item_bytes b) = ap said_length q.encoded in
    let long : length (bytes ++ more) ≡ length (item_bytes b) = ap length q.encoded in
    let short : length bytes ≡ length (item_bytes a) = ap length p.encoded in
    nil_from_length more (omega (arith, count, size, other.size, other.long, same, long, short, s.long, length-append bytes more))
