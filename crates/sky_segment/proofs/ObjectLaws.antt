-- Objects: what is an object is read as its items, and what is read is an object of them.
--   length-object_bytes      how many bytes an object has
--   items_few                an object has fewer than 2^32 items
--   object_again, object_sound, one_object
--   gives_found, gives_given     what a call returned that gives what reading gives
--   empty_object
use Rattle.std.proofs.Common.{◌≡◌, ℕ, ◌+◌, ◌-◌, ◌*◌, ◌^◌, ◌<◌, ◌≤◌, Bool, true, false, cond, ltb, eqb, Option, Some, None, List, [], ◌∷◌, ◌++◌, length, drop, Result, Ok, Err, IfOk, Vec, Global, refl, sym, ap, subst, ◌∙◌, append_assoc, arith}
use Rattle.std.specs.List.{flat_map, AllByRecursion}
use Rattle.std.proofs.lemmas.Bool.{eqb-true, ltb-false, le-ltb}
use Rattle.std.proofs.lemmas.List.{append-nil, length-append}
use Rattle.sky_base.specs.Limits.{max_number, max_object_bytes}
use Rattle.sky_base.specs.declared.object.SegName.{SegName}
use Rattle.sky_base.specs.declared.place.Damage.{Damage}
use Rattle.sky_base.specs.declared.place.Damage.TheVariants.{Short, Form}
use Rattle.sky_xdr.specs.Encoding.{AreBytes}
use Rattle.sky_xdr.specs.Reading.{◌>>=◌}
use Rattle.sky_xdr.proofs.Numbers.{AreBytes-drop}
use Rattle.sky_item.specs.declared.fault.ItemFault.{ItemFault}
use Rattle.sky_item.specs.declared.fault.ItemFault.TheVariants as fault
use Rattle.sky_item.specs.declared.item.Item.{Item}
use Rattle.sky_item.specs.Encoding.{item_bytes}
use Rattle.sky_item.specs.Items.{IsItem}
use Rattle.sky_item.proofs.Sizes.{length-item_bytes}
use Rattle.sky_segment.specs.Objects.{object_header, object_header_bytes, object_bytes, IsObject}
use Rattle.sky_segment.specs.Damages.{said_count, header_fields, first_wrong, items_at, all_of, behind_header, object_at, GivesBy}
use Rattle.sky_segment.proofs.ItemsRead.{items_again, items_sound, many_is}
use Rattle.sky_segment.proofs.Headers.{length-object_header, header_again, header_sound, one_header, one_count}

-- ---- sizes

pub length-object_bytes : (name : SegName) (items : List Item) → length (object_bytes name items) ≡ 36 + length (flat_map item_bytes items)
unfolding object_bytes
length-object_bytes name items = omega (arith, length-append (object_header name (length items)) (flat_map item_bytes items), length-object_header name (length items))

-- each item has 60 bytes or more
pub items_long : (items : List Item) → AllByRecursion IsItem items → 60 * length items ≤ length (flat_map item_bytes items)
items_long [] each = omega arith
items_long (item ∷ items) each = omega (arith, items_long items each.1, length-append (item_bytes item) (flat_map item_bytes items), length-item_bytes item each.0)

pub items_few : (name : SegName) (items : List Item) → AllByRecursion IsItem items → length (object_bytes name items) ≤ max_object_bytes → length items < 2 ^ 32
items_few name items each within = omega (arith, items_long items each, length-object_bytes name items)

-- ---- what is an object is read

-- what is read, by the tests before the header
abbrev tested : Bool → Bool → Damage → Damage → Result (List Item) Damage → Result (List Item) Damage
tested long short d e r = cond long (Err d) (cond short (Err e) r)

tested_again : (long short : Bool) (d e : Damage) (r : Result (List Item) Damage) (items : List Item) → long ≡ false → short ≡ false → r ≡ Ok items → tested long short d e r ≡ Ok items
tested_again long short d e r items p q is = rw (p, q, is) refl

whole_again : (name : SegName) (bytes : List ℕ) (count : ℕ) (rest : List ℕ) (items : List Item) → first_wrong (header_fields name bytes) ≡ None → said_count bytes ≡ count → drop object_header_bytes bytes ≡ rest
    → items_at name.last count rest ≡ Ok (items, []) → behind_header name.last bytes (first_wrong (header_fields name bytes)) ≡ Ok items
whole_again name bytes count rest items right many behind read =
    ap (behind_header name.last bytes) right ∙ ap (λ (n : ℕ). items_at name.last n (drop object_header_bytes bytes) >>= all_of bytes) many
    ∙ ap (λ (t : List ℕ). items_at name.last count t >>= all_of bytes) behind ∙ ap (λ (r : Result (List Item × List ℕ) Damage). r >>= all_of bytes) read

pub object_again : (name : SegName) (bytes : List ℕ) (items : List Item) → IsObject name bytes items → object_at name bytes ≡ Ok items
unfolding object_at object_bytes
object_again name bytes items o =
    let all : List ℕ = flat_map item_bytes items in
    let within : length (object_bytes name items) ≤ max_object_bytes = omega (arith, o.within, ap length o.encoded) in
    let few : length items < 2 ^ 32 = items_few name items o.each within in
    let h = header_again name (length items) all o.run o.seq few o.one_check in
    let read : items_at name.last (length items) all ≡ Ok (items, []) = ap (items_at name.last (length items)) (sym (append-nil all)) ∙ items_again name.last items [] o.each o.kinds in
    let is : object_at name (object_bytes name items) ≡ Ok items =
    tested_again (ltb max_object_bytes (length (object_bytes name items))) (ltb (length (object_bytes name items)) object_header_bytes) (Form max_object_bytes) (Short (length (object_bytes name items)))
    (behind_header name.last (object_bytes name items) (first_wrong (header_fields name (object_bytes name items)))) items
    (le-ltb _ _ within) (le-ltb _ _ (omega (arith, length-object_bytes name items)))
    (whole_again name (object_bytes name items) (length items) all items h.right h.many h.behind read) in
    ap (object_at name) o.encoded ∙ is

-- ---- what is read is an object

-- what the tests let through
record Passed (long short : Bool) (r : Result (List Item) Damage) (items : List Item) : Type 0 where
  not_long : long ≡ false
  not_short : short ≡ false
  read : r ≡ Ok items

tested_sound : (long short : Bool) (d e : Damage) (r : Result (List Item) Damage) (items : List Item) → tested long short d e r ≡ Ok items → Passed long short r items
tested_sound true short d e r items h = absurd cc
tested_sound false true d e r items h = absurd cc
tested_sound false false d e r items h = record { not_long = refl; not_short = refl; read = h }

-- no field of the header was wrong
none_is : (last : Bool) (bytes : List ℕ) (o : Option ℕ) (items : List Item) → behind_header last bytes o ≡ Ok items → (o ≡ None) × ((items_at last (said_count bytes) (drop object_header_bytes bytes) >>= all_of bytes) ≡ Ok items)
none_is last bytes (Some at) items e = absurd cc
none_is last bytes None items e = (refl, e)

abbrev given : List Item → Result (List Item) Damage
given items = Ok items

given_is : (a b : List Item) → given a ≡ given b → a ≡ b
given_is a b e = cc

-- no byte was left behind the items
all_is : (bytes : List ℕ) (r : Result (List Item × List ℕ) Damage) (items : List Item) → (r >>= all_of bytes) ≡ Ok items → r ≡ Ok (items, [])
all_is bytes (Ok (xs, [])) items e = ap (λ (t : List Item). Ok (t, [])) (given_is xs items e)
all_is bytes (Ok (xs, b ∷ rest)) items e = absurd cc
all_is bytes (Err d) items e = absurd cc

pub object_sound : (name : SegName) (bytes : List ℕ) (items : List Item) → name.run < max_number → name.seq < max_number → AreBytes bytes → object_at name bytes ≡ Ok items → IsObject name bytes items
unfolding object_at object_bytes
object_sound name bytes items run seq fits e =
    let p = tested_sound (ltb max_object_bytes (length bytes)) (ltb (length bytes) object_header_bytes) (Form max_object_bytes) (Short (length bytes))
    (behind_header name.last bytes (first_wrong (header_fields name bytes))) items e in
    let n = none_is name.last bytes (first_wrong (header_fields name bytes)) items p.read in
    let long : object_header_bytes ≤ length bytes = ltb-false _ _ p.not_short in
    let within : length bytes ≤ max_object_bytes = ltb-false _ _ p.not_long in
    let h = header_sound name bytes fits long n.0 in
    let a = all_is bytes (items_at name.last (said_count bytes) (drop object_header_bytes bytes)) items n.1 in
    let i = items_sound name.last (said_count bytes) (drop object_header_bytes bytes) items [] (AreBytes-drop object_header_bytes bytes fits) a in
    record {
      run = run;
      seq = seq;
      each = i.each;
      kinds = i.kinds;
      one_check = λ t. i.many ∙ h.1 t;
      encoded = h.0 ∙ ap (λ (k : ℕ). object_header name k ++ drop object_header_bytes bytes) (sym i.many)
          ∙ ap (λ (t : List ℕ). object_header name (length items) ++ t) (i.parts ∙ append-nil (flat_map item_bytes items));
      within = within;
    }

pub one_object : (bytes : List ℕ) (a b : SegName) (xs ys : List Item) → IsObject a bytes xs → IsObject b bytes ys → (a ≡ b) × (xs ≡ ys)
unfolding object_bytes
one_object bytes a b xs ys p q =
    let name : a ≡ b = one_header a b (length xs) (length ys) (flat_map item_bytes xs) (flat_map item_bytes ys) p.run p.seq q.run q.seq (sym p.encoded ∙ q.encoded) in
    let read : object_at b bytes ≡ Ok xs = ap (λ (n : SegName). object_at n bytes) (sym name) ∙ object_again a bytes xs p in
    (name, given_is xs ys (sym read ∙ object_again b bytes ys q))

-- no bytes are left where an object is one with more bytes
pub no_prefix : (bytes more : List ℕ) (a b : SegName) (xs ys : List Item) → IsObject a bytes xs → IsObject b (bytes ++ more) ys → more ≡ []
unfolding object_bytes
no_prefix bytes more a b xs ys p q =
    let all : List ℕ = flat_map item_bytes xs in
    let few : length xs < 2 ^ 32 = items_few a xs p.each (omega (arith, p.within, ap length p.encoded)) in
    let others : length ys < 2 ^ 32 = items_few b ys q.each (omega (arith, q.within, ap length q.encoded)) in
    let e : object_header a (length xs) ++ (all ++ more) ≡ object_header b (length ys) ++ flat_map item_bytes ys =
    sym (append_assoc (object_header a (length xs)) all more) ∙ ap (λ (t : List ℕ). t ++ more) (sym p.encoded) ∙ q.encoded in
    let name : a ≡ b = one_header a b (length xs) (length ys) (all ++ more) (flat_map item_bytes ys) p.run p.seq q.run q.seq e in
    let same = one_count a b (length xs) (length ys) (all ++ more) (flat_map item_bytes ys) few others e in
    let first : items_at a.last (length xs) (all ++ more) ≡ Ok (xs, more) = items_again a.last xs more p.each p.kinds in
    let second : items_at b.last (length ys) (flat_map item_bytes ys ++ []) ≡ Ok (ys, []) = items_again b.last ys [] q.each q.kinds in
    let bridge : items_at a.last (length xs) (all ++ more) ≡ items_at b.last (length ys) (flat_map item_bytes ys ++ []) =
    ap (λ (n : SegName). items_at n.last (length xs) (all ++ more)) name ∙ ap (λ (n : ℕ). items_at b.last n (all ++ more)) same.0
    ∙ ap (items_at b.last (length ys)) (same.1 ∙ sym (append-nil (flat_map item_bytes ys))) in
    (many_is xs ys more [] (sym first ∙ bridge ∙ second)).1

-- ---- what a call returned

pub gives_found : (r : Result (Vec Item Global) ItemFault) (name : SegName) (bytes : List ℕ) → name.run < max_number → name.seq < max_number → AreBytes bytes
    → GivesBy (λ v. v.items) r (object_at name bytes) → IfOk r (λ v. IsObject name bytes v.items)
gives_found (Ok v) name bytes run seq fits e = object_sound name bytes v.items run seq fits e
gives_found (Err fault) name bytes run seq fits e = tt

pub gives_given : (r : Result (Vec Item Global) ItemFault) (name : SegName) (bytes : List ℕ) (items : List Item)
    → GivesBy (λ v. v.items) r (object_at name bytes) → IsObject name bytes items → GivesBy (λ v. v.items) r (Ok items)
gives_given r name bytes items e is = subst (λ (x : Result (List Item) Damage). GivesBy (λ (v : Vec Item Global). v.items) r x) (object_again name bytes items is) e

-- what a call returned that read the items behind a header
pub behind_refused : (bytes : List ℕ) (r : Result (List Item × List ℕ) Damage) (e : ItemFault) {X : Type 0} (view : X → List Item × List ℕ) {Y : Type 0} (show : Y → List Item)
    → GivesBy view (Err e) r → GivesBy show (Err e) (r >>= all_of bytes)
behind_refused bytes r (fault.Damage d) view show e = ap (λ (t : Result (List Item × List ℕ) Damage). t >>= all_of bytes) e
behind_refused bytes r fault.Memory view show e = tt

pub all_read : (bytes : List ℕ) (items : List Item) (rest : List ℕ) (r : Result (List Item × List ℕ) Damage) → r ≡ Ok (items, rest) → eqb (length rest) 0 ≡ true → (r >>= all_of bytes) ≡ Ok items
all_read bytes items [] r e none = ap (λ (t : Result (List Item × List ℕ) Damage). t >>= all_of bytes) e
all_read bytes items (b ∷ rest) r e none = absurd (omega (arith, eqb-true (length (b ∷ rest)) 0 none))

pub some_left : (bytes : List ℕ) (items : List Item) (rest : List ℕ) (r : Result (List Item × List ℕ) Damage) → r ≡ Ok (items, rest) → eqb (length rest) 0 ≡ false
    → (r >>= all_of bytes) ≡ Err (Form (length bytes - length rest))
some_left bytes items [] r e some = absurd cc
some_left bytes items (b ∷ rest) r e some = ap (λ (t : Result (List Item × List ℕ) Damage). t >>= all_of bytes) e

-- ---- an object of no items

pub empty_object : (name : SegName) → name.run < max_number → name.seq < max_number → name.last ≡ false → IsObject name (object_header name 0) []
unfolding object_bytes
empty_object name run seq segment = record {
  run = run;
  seq = seq;
  each = tt;
  kinds = tt;
  one_check = λ t. absurd (let e : true ≡ false = sym t ∙ segment in cc);
  encoded = sym (append-nil (object_header name 0));
  within = omega (arith, length-object_header name 0);
}
