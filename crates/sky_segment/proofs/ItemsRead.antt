-- Items of an object, one behind the other: what is encoded is read again, and what is read is encoded so.
--   word_prefix, said_prefix         numbers near the start of bytes, whatever stands behind them
--   read_size                        an item that was read has as many bytes as it says
--   next_again, next_sound           one item
--   items_more, items_again, items_sound     many items
--   items_more, items_stop, items_refused     one more item behind those that were read, or a damage
use Rattle.std.proofs.Common.{◌≡◌, ℕ, zero, suc, ◌+◌, ◌^◌, ◌<◌, ◌≤◌, Bool, true, false, cond, ltb, List, [], ◌∷◌, ◌++◌, length, take, drop, Result, Ok, Err, refl, sym, ap, subst, ◌∙◌, append_assoc, arith}
use Rattle.std.specs.List.{flat_map, AllByRecursion}
use Rattle.std.specs.Str.{bytes_eq}
use Rattle.std.proofs.lemmas.Bool.{ltb-false, le-ltb}
use Rattle.std.proofs.lemmas.List.{take_at, drop_at, take-append-drop, take-append-le, drop-append-le, length-append, length-drop}
use Rattle.std.proofs.lemmas.Nat.{from_be_bytes-to_be_bytes_4}
use Rattle.sky_base.specs.declared.place.Damage.{Damage}
use Rattle.sky_base.specs.declared.place.Damage.TheVariants.{Short, Form, Digest}
use Rattle.sky_xdr.specs.Encoding.{AreBytes, uint}
use Rattle.sky_xdr.specs.Reading.{word, ◌>>=◌}
use Rattle.sky_xdr.proofs.Numbers.{AreBytes-take, AreBytes-drop}
use Rattle.sky_item.specs.declared.fault.ItemFault.{ItemFault}
use Rattle.sky_item.specs.declared.fault.ItemFault.TheVariants as fault
use Rattle.sky_item.specs.declared.item.Item.{Item}
use Rattle.sky_item.specs.declared.item.Item.TheVariants as kind
use Rattle.sky_item.specs.Encoding.{kind_code, item_header, item_bytes}
use Rattle.sky_item.specs.Items.{IsItem}
use Rattle.sky_item.specs.Fields.{fields_of, said_length, stored_digest, computed_digest, verified, item_at}
use Rattle.sky_item.proofs.ItemLaws.{item_again, item_sound}
use Rattle.sky_item.proofs.Sizes.{length-item_bytes}
use Rattle.sky_segment.specs.Objects.{kind_stands, may_stand}
use Rattle.sky_segment.specs.Damages.{with_rest, next_item, items_at, GivesBy}

-- ---- numbers

word_take : (a b : List ℕ) → take 4 a ≡ take 4 b → word a ≡ word b
unfolding word
word_take a b e = rw e refl

pub word_prefix : (k : ℕ) (text rest : List ℕ) → k + 4 ≤ length text → word (drop k (text ++ rest)) ≡ word (drop k text)
word_prefix k text rest long =
    let first : drop k (text ++ rest) ≡ drop k text ++ rest = drop-append-le k text rest (omega arith) in
    let second : take 4 (drop k text ++ rest) ≡ take 4 (drop k text) = take-append-le 4 (drop k text) rest (omega (arith, length-drop k text)) in
    ap (λ (t : List ℕ). word t) first ∙ word_take (drop k text ++ rest) (drop k text) second

pub said_prefix : (text rest : List ℕ) → 28 ≤ length text → said_length (text ++ rest) ≡ said_length text
said_prefix text rest long = omega (arith, word_prefix 24 text rest (omega arith), word_prefix 20 text rest (omega arith))

-- ---- an item

-- a test that did not refuse
unless : {A : Type 0} (b : Bool) (d : Damage) (r : Result A Damage) (y : A) → cond b (Err d) r ≡ Ok y → (b ≡ false) × (r ≡ Ok y)
unless true d r y e = absurd cc
unless false d r y e = (refl, e)

verified_within : (text : List ℕ) (r : Result Item ℕ) (item : Item) → verified text r ≡ Ok item → ltb (said_length text) (length text) ≡ false
verified_within text (Ok a) item e =
    (unless (ltb (said_length text) (length text)) (Form (said_length text)) (cond (bytes_eq (stored_digest text) (computed_digest text)) (Ok a) (Err (Digest (stored_digest text) (computed_digest text)))) item e).0
verified_within text (Err left) item e = absurd cc

pub read_size : (text : List ℕ) (item : Item) → item_at text ≡ Ok item → said_length text ≡ length text
unfolding item_at
read_size text item e =
    let u = unless (ltb (length text) (said_length text)) (Short (length text)) (verified text (fields_of (take (said_length text) text))) item e in
    let low : said_length text ≤ length text = ltb-false _ _ u.0 in
    let high : length text ≤ said_length text = ltb-false _ _ (verified_within text (fields_of (take (said_length text) text)) item u.1) in
    omega (arith, low, high)

-- the kind that the bytes of an item say
kind_fits : (item : Item) → kind_code item < 2 ^ 32
kind_fits (kind.Block b) = omega arith
kind_fits (kind.Inode i) = omega arith
kind_fits (kind.Page p) = omega arith
kind_fits (kind.Check c) = omega arith

word_uint : (n : ℕ) (rest : List ℕ) → n < 2 ^ 32 → word (uint n ++ rest) ≡ n
unfolding word uint
word_uint n rest lt = from_be_bytes-to_be_bytes_4 n lt

pub said_kind : (item : Item) (rest : List ℕ) → word (item_bytes item ++ rest) ≡ kind_code item
unfolding item_bytes item_header
said_kind item rest = simp append_assoc (word_uint (kind_code item) _ (kind_fits item))

-- what is read, by whether it is whole, whether its kind may stand there, and what it is
abbrev choose : Bool → Bool → ℕ → List ℕ → Result Item Damage → Result (Item × List ℕ) Damage
choose short stands held rest r = cond short (Err (Short held)) (cond stands (with_rest rest r) (Err (Form 0)))

abbrev next_of : Item → List ℕ → Result (Item × List ℕ) Damage
next_of item rest = Ok (item, rest)

choose_again : (short stands : Bool) (held : ℕ) (behind rest : List ℕ) (r : Result Item Damage) (item : Item) → short ≡ false → stands ≡ true → behind ≡ rest → r ≡ Ok item
    → choose short stands held behind r ≡ next_of item rest
choose_again short stands held behind rest r item p q b e = rw (p, q, b, e) refl

-- what was chosen
record Chosen (short stands : Bool) (behind rest : List ℕ) (r : Result Item Damage) (item : Item) : Type 0 where
  whole : short ≡ false
  kind_may : stands ≡ true
  left : behind ≡ rest
  read : r ≡ Ok item

next_is : (a b : Item) (x y : List ℕ) → next_of a x ≡ next_of b y → (a ≡ b) × (x ≡ y)
next_is a b x y e =
    let one : Item × List ℕ = (a, x) in
    let other : Item × List ℕ = (b, y) in
    let made : Item × List ℕ → Result (Item × List ℕ) Damage = λ t. Ok t in
    let f : made one ≡ made other = e in
    let same : one ≡ other = cc in
    (ap (λ (t : Item × List ℕ). t.0) same, ap (λ (t : Item × List ℕ). t.1) same)

choose_sound : (short stands : Bool) (held : ℕ) (behind rest : List ℕ) (r : Result Item Damage) (item : Item) → choose short stands held behind r ≡ Ok (item, rest) → Chosen short stands behind rest r item
choose_sound true stands held behind rest r item e = absurd cc
choose_sound false false held behind rest r item e = absurd cc
choose_sound false true held behind rest (Ok a) item e =
    let same = next_is a item behind rest e in record { whole = refl; kind_may = refl; left = same.1; read = ap (λ (i : Item). Ok i) same.0 }
choose_sound false true held behind rest (Err d) item e = absurd cc

pub next_again : (last : Bool) (item : Item) (rest : List ℕ) → IsItem item → may_stand last item ≡ true → next_item last (item_bytes item ++ rest) ≡ Ok (item, rest)
unfolding next_item
next_again last item rest is stands =
    let text : List ℕ = item_bytes item in
    let read : item_at text ≡ Ok item = item_again text item (record { is = is; encoded = refl }) in
    let size : said_length text ≡ length text = read_size text item read in
    let long = length-item_bytes item is in
    let said : length text ≡ said_length (text ++ rest) = sym (said_prefix text rest (omega (arith, long)) ∙ size) in
    let first : take (said_length (text ++ rest)) (text ++ rest) ≡ text = take_at text rest (said_length (text ++ rest)) said in
    choose_again (ltb (length (text ++ rest)) (said_length (text ++ rest))) (kind_stands last (word (text ++ rest))) (length (text ++ rest))
    (drop (said_length (text ++ rest)) (text ++ rest)) rest (item_at (take (said_length (text ++ rest)) (text ++ rest))) item
    (le-ltb _ _ (omega (arith, said, length-append text rest))) (ap (kind_stands last) (said_kind item rest) ∙ stands)
    (drop_at text rest (said_length (text ++ rest)) said) (ap item_at first ∙ read)

-- an item that was read, and what stands behind it
pub record NextRead (last : Bool) (bytes : List ℕ) (item : Item) (rest : List ℕ) : Type 0 where
  pub is : IsItem item
  pub kind_may : may_stand last item ≡ true
  pub parts : bytes ≡ item_bytes item ++ rest
  pub fits : AreBytes rest

pub next_sound : (last : Bool) (bytes : List ℕ) (item : Item) (rest : List ℕ) → AreBytes bytes → next_item last bytes ≡ Ok (item, rest) → NextRead last bytes item rest
unfolding next_item
next_sound last bytes item rest fits e =
    let c = choose_sound (ltb (length bytes) (said_length bytes)) (kind_stands last (word bytes)) (length bytes) (drop (said_length bytes) bytes) rest (item_at (take (said_length bytes) bytes)) item e in
    let i = item_sound (take (said_length bytes) bytes) item (AreBytes-take (said_length bytes) bytes fits) c.read in
    let parts : bytes ≡ item_bytes item ++ rest = sym (take-append-drop (said_length bytes) bytes) ∙ ap (λ (t : List ℕ). t ++ drop (said_length bytes) bytes) i.encoded ∙ ap (λ (t : List ℕ). item_bytes item ++ t) c.left in
    record {
      is = i.is;
      kind_may = ap (kind_stands last) (sym (said_kind item rest)) ∙ ap (λ (t : List ℕ). kind_stands last (word t)) (sym parts) ∙ c.kind_may;
      parts = parts;
      fits = subst AreBytes c.left (AreBytes-drop (said_length bytes) bytes fits);
    }

-- what stands behind an item is not longer
pub next_shorter : (last : Bool) (bytes : List ℕ) (item : Item) (rest : List ℕ) → next_item last bytes ≡ Ok (item, rest) → length rest ≤ length bytes
unfolding next_item
next_shorter last bytes item rest e =
    let c = choose_sound (ltb (length bytes) (said_length bytes)) (kind_stands last (word bytes)) (length bytes) (drop (said_length bytes) bytes) rest (item_at (take (said_length bytes) bytes)) item e in
    omega (arith, ap length c.left, length-drop (said_length bytes) bytes)

-- ---- many items

abbrev consed : Item → List Item × List ℕ → Result (List Item × List ℕ) Damage
consed item x = Ok (item ∷ x.0, x.1)

abbrev items_behind : Bool → ℕ → Item × List ℕ → Result (List Item × List ℕ) Damage
items_behind last n x = items_at last n x.1 >>= consed x.0

items-suc : (last : Bool) (n : ℕ) (bytes : List ℕ) → items_at last (suc n) bytes ≡ (next_item last bytes >>= items_behind last n)
unfolding items_at
items-suc last n bytes = refl

pub items-zero : (last : Bool) (bytes : List ℕ) → items_at last 0 bytes ≡ Ok ([], bytes)
unfolding items_at
items-zero last bytes = refl

pub items_first : (last : Bool) (n : ℕ) (bytes mid : List ℕ) (item : Item) (r : Result (List Item × List ℕ) Damage) → next_item last bytes ≡ Ok (item, mid) → items_at last n mid ≡ r
    → items_at last (suc n) bytes ≡ (r >>= consed item)
items_first last n bytes mid item r first others =
    items-suc last n bytes ∙ ap (λ (t : Result (Item × List ℕ) Damage). t >>= items_behind last n) first ∙ ap (λ (t : Result (List Item × List ℕ) Damage). t >>= consed item) others

pub items_again : (last : Bool) (items : List Item) (rest : List ℕ) → AllByRecursion IsItem items → AllByRecursion (λ item. may_stand last item ≡ true) items
    → items_at last (length items) (flat_map item_bytes items ++ rest) ≡ Ok (items, rest)
items_again last [] rest each kinds = items-zero last rest
items_again last (item ∷ items) rest each kinds =
    let mid : List ℕ = flat_map item_bytes items ++ rest in
    let first : next_item last (item_bytes item ++ mid) ≡ Ok (item, mid) = next_again last item mid each.0 kinds.0 in
    let others : items_at last (length items) mid ≡ Ok (items, rest) = items_again last items rest each.1 kinds.1 in
    ap (items_at last (suc (length items))) (append_assoc (item_bytes item) (flat_map item_bytes items) rest)
    ∙ items_first last (length items) (item_bytes item ++ mid) mid item (Ok (items, rest)) first others

-- items that were read, and what stands behind them
pub record ItemsRead (last : Bool) (n : ℕ) (bytes : List ℕ) (items : List Item) (rest : List ℕ) : Type 0 where
  pub each : AllByRecursion IsItem items
  pub kinds : AllByRecursion (λ item. may_stand last item ≡ true) items
  pub many : length items ≡ n
  pub parts : bytes ≡ flat_map item_bytes items ++ rest

abbrev pub many_of : List Item → List ℕ → Result (List Item × List ℕ) Damage
many_of items rest = Ok (items, rest)

pub many_is : (a b : List Item) (x y : List ℕ) → many_of a x ≡ many_of b y → (a ≡ b) × (x ≡ y)
many_is a b x y e =
    let one : List Item × List ℕ = (a, x) in
    let other : List Item × List ℕ = (b, y) in
    let made : List Item × List ℕ → Result (List Item × List ℕ) Damage = λ t. Ok t in
    let f : made one ≡ made other = e in
    let same : one ≡ other = cc in
    (ap (λ (t : List Item × List ℕ). t.0) same, ap (λ (t : List Item × List ℕ). t.1) same)

-- the first item and the others
pub record Split (last : Bool) (n : ℕ) (bytes : List ℕ) (items : List Item) (rest : List ℕ) : Type 0 where
  pub item : Item
  pub mid : List ℕ
  pub others : List Item
  pub first : next_item last bytes ≡ Ok (item, mid)
  pub behind : items_at last n mid ≡ Ok (others, rest)
  pub are : item ∷ others ≡ items

split_others : (last : Bool) (n : ℕ) (bytes : List ℕ) (items : List Item) (rest : List ℕ) (item : Item) (mid : List ℕ) (r : Result (List Item × List ℕ) Damage)
    → next_item last bytes ≡ Ok (item, mid) → items_at last n mid ≡ r → (r >>= consed item) ≡ Ok (items, rest) → Split last n bytes items rest
split_others last n bytes items rest item mid (Ok (others, more)) first behind e =
    let same = many_is (item ∷ others) items more rest e in
    record { item = item; mid = mid; others = others; first = first; behind = behind ∙ ap (many_of others) same.1; are = same.0 }
split_others last n bytes items rest item mid (Err d) first behind e = absurd cc

split_first : (last : Bool) (n : ℕ) (bytes : List ℕ) (items : List Item) (rest : List ℕ) (r : Result (Item × List ℕ) Damage)
    → next_item last bytes ≡ r → (r >>= items_behind last n) ≡ Ok (items, rest) → Split last n bytes items rest
split_first last n bytes items rest (Ok (item, mid)) first e = split_others last n bytes items rest item mid (items_at last n mid) first refl e
split_first last n bytes items rest (Err d) first e = absurd cc

pub items_split : (last : Bool) (n : ℕ) (bytes : List ℕ) (items : List Item) (rest : List ℕ) → items_at last (suc n) bytes ≡ Ok (items, rest) → Split last n bytes items rest
items_split last n bytes items rest e = split_first last n bytes items rest (next_item last bytes) refl (sym (items-suc last n bytes) ∙ e)

pub items_sound : (last : Bool) (n : ℕ) (bytes : List ℕ) (items : List Item) (rest : List ℕ) → AreBytes bytes → items_at last n bytes ≡ Ok (items, rest) → ItemsRead last n bytes items rest
items_sound last zero bytes items rest fits e =
    let same = many_is [] items bytes rest (sym (items-zero last bytes) ∙ e) in
    subst (λ (t : List Item). ItemsRead last 0 bytes t rest) same.0 (record { each = tt; kinds = tt; many = refl; parts = same.1 })
items_sound last (suc n) bytes items rest fits e =
    let s = items_split last n bytes items rest e in
    let one = next_sound last bytes s.item s.mid fits s.first in
    let others = items_sound last n s.mid s.others rest one.fits s.behind in
    subst (λ (t : List Item). ItemsRead last (suc n) bytes t rest) s.are (record {
      each = (one.is, others.each);
      kinds = (one.kind_may, others.kinds);
      many = ap suc others.many;
      parts = one.parts ∙ ap (λ (t : List ℕ). item_bytes s.item ++ t) others.parts ∙ sym (append_assoc (item_bytes s.item) (flat_map item_bytes s.others) rest);
    })

-- ---- a loop

-- one more item behind those that were read
pub items_more : (last : Bool) (k : ℕ) (bytes : List ℕ) (items : List Item) (rest : List ℕ) (item : Item) (more : List ℕ)
    → items_at last k bytes ≡ Ok (items, rest) → next_item last rest ≡ Ok (item, more) → items_at last (k + 1) bytes ≡ Ok (items ++ item ∷ [], more)
items_more last zero bytes items rest item more so_far one =
    let same = many_is [] items bytes rest (sym (items-zero last bytes) ∙ so_far) in
    let here : next_item last bytes ≡ Ok (item, more) = ap (next_item last) same.1 ∙ one in
    subst (λ (t : List Item). items_at last 1 bytes ≡ many_of (t ++ item ∷ []) more) same.0 (items_first last 0 bytes more item (Ok ([], more)) here (items-zero last more))
items_more last (suc k) bytes items rest item more so_far one =
    let s = items_split last k bytes items rest so_far in
    let behind : items_at last (suc k) s.mid ≡ many_of (s.others ++ item ∷ []) more = ap (λ (n : ℕ). items_at last n s.mid) (omega arith) ∙ items_more last k s.mid s.others rest item more s.behind one in
    let all : items_at last (suc (suc k)) bytes ≡ many_of ((s.item ∷ s.others) ++ item ∷ []) more = items_first last (suc k) bytes s.mid s.item (many_of (s.others ++ item ∷ []) more) s.first behind in
    ap (λ (n : ℕ). items_at last n bytes) (omega arith) ∙ all ∙ ap (λ (t : List Item). many_of (t ++ item ∷ []) more) s.are

-- a damage behind those that were read
pub items_stop : (last : Bool) (k n : ℕ) (bytes : List ℕ) (items : List Item) (rest : List ℕ) (d : Damage)
    → items_at last k bytes ≡ Ok (items, rest) → next_item last rest ≡ Err d → k < n → items_at last n bytes ≡ Err d
items_stop last k zero bytes items rest d so_far one below = absurd (omega arith)
items_stop last zero (suc n) bytes items rest d so_far one below =
    let same = many_is [] items bytes rest (sym (items-zero last bytes) ∙ so_far) in
    items-suc last n bytes ∙ ap (λ (t : List ℕ). next_item last t >>= items_behind last n) same.1 ∙ ap (λ (r : Result (Item × List ℕ) Damage). r >>= items_behind last n) one
items_stop last (suc k) (suc n) bytes items rest d so_far one below =
    let s = items_split last k bytes items rest so_far in
    items_first last n bytes s.mid s.item (Err d) s.first (items_stop last k n s.mid s.others rest d s.behind one (omega arith))

-- what a call answers whose next item was refused, or had no memory
pub items_refused : {X Y : Type 0} (one : X → Item × List ℕ) (view : Y → List Item × List ℕ) (last : Bool) (k n : ℕ) (bytes : List ℕ) (items : List Item) (rest : List ℕ) (e : ItemFault)
    → items_at last k bytes ≡ Ok (items, rest) → GivesBy one (Err e) (next_item last rest) → k < n → GivesBy view (Err e) (items_at last n bytes)
items_refused one view last k n bytes items rest (fault.Damage d) so_far refused below = items_stop last k n bytes items rest d so_far refused below
items_refused one view last k n bytes items rest fault.Memory so_far refused below = tt
