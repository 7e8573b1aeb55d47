-- Objects that are being made.
--   size_with_item, size_grows     how many bytes an object has with one more item
--   draft_again                    the items of the bytes that are kept
--   kept_by                        bytes that are kept
--   more_is_draft                  with one more item an object can still become one of the format
--   lies_there                     an item lies where it was added
--   done_is_object                 what is made is an object
use Rattle.std.proofs.Common.{◌≡◌, ℕ, ◌+◌, ◌^◌, ◌<◌, ◌≤◌, Bool, true, false, not, ◌||◌, eqb, leb, List, [], ◌∷◌, ◌++◌, length, take, drop, Result, Ok, refl, sym, ap, subst, ◌∙◌, append_assoc, arith}
use Rattle.std.specs.List.{flat_map, AllByRecursion}
use Rattle.std.proofs.lemmas.Bool.{and_parts, leb-true, eqb-true}
use Rattle.std.proofs.lemmas.Grind.{flat_map-append}
use Rattle.std.proofs.lemmas.List.{append-nil, take_at, drop_at, length-append}
use Rattle.sky_base.specs.Limits.{max_number, max_object_bytes}
use Rattle.sky_base.specs.declared.object.SegName.{SegName}
use Rattle.sky_base.specs.declared.place.Damage.{Damage}
use Rattle.sky_base.specs.declared.place.Location.{Location}
use Rattle.sky_item.specs.declared.item.Item.{Item}
use Rattle.sky_item.specs.Encoding.{item_bytes, length_of_item}
use Rattle.sky_item.specs.Items.{IsItem, IsLocation}
use Rattle.sky_item.proofs.Sizes.{length-item_bytes}
use Rattle.sky_xdr.specs.Encoding.{uint}
use Rattle.sky_segment.specs.Objects.{object_header, object_header_bytes, object_bytes, may_stand, IsObject, LiesAt}
use Rattle.sky_segment.specs.Damages.{count_place, items_at}
use Rattle.sky_segment.specs.Drafts.{Draft, IsDraft, IsKept, size_of_draft, is_complete, takes_kind, with_item, has_room, next_place, items_or_none, kept_items, draft_of}
use Rattle.sky_segment.proofs.ItemsRead.{items_again}
use Rattle.sky_segment.proofs.Headers.{length-object_header, header_counted}
use Rattle.sky_segment.proofs.ObjectLaws.{length-object_bytes, items_long}

-- ---- sizes

length-items_more : (items : List Item) (item : Item) → length (flat_map item_bytes (items ++ item ∷ [])) ≡ length (flat_map item_bytes items) + length (item_bytes item)
length-items_more items item =
    omega (arith, ap length (flat_map-append item_bytes items (item ∷ [])), length-append (flat_map item_bytes items) (item_bytes item ++ []), length-append (item_bytes item) [])

pub size_with_item : (d : Draft) (item : Item) → size_of_draft (with_item d item) ≡ size_of_draft d + length (item_bytes item)
size_with_item d item = omega (arith, length-object_bytes d.name d.items, length-object_bytes d.name (d.items ++ item ∷ []), length-items_more d.items item)

pub size_grows : (d : Draft) (item : Item) → IsItem item → size_of_draft (with_item d item) ≡ size_of_draft d + length_of_item item
size_grows d item is = omega (arith, size_with_item d item, length-item_bytes item is)

-- ---- what is kept

pub draft_again : (name : SegName) (count : ℕ) (items : List Item) (bytes : List ℕ) → bytes ≡ object_header name 0 ++ flat_map item_bytes items → length items ≡ count
    → AllByRecursion IsItem items → AllByRecursion (λ item. may_stand name.last item ≡ true) items → draft_of name count bytes ≡ record { name = name; items = items }
unfolding kept_items
draft_again name count items bytes is many each kinds =
    let all : List ℕ = flat_map item_bytes items in
    let behind : drop object_header_bytes bytes ≡ all ++ [] = ap (drop object_header_bytes) is ∙ drop_at (object_header name 0) all 36 (length-object_header name 0) ∙ sym (append-nil all) in
    let read : items_at name.last count (drop object_header_bytes bytes) ≡ Ok (items, []) =
    ap (λ (n : ℕ). items_at name.last n (drop object_header_bytes bytes)) (sym many) ∙ ap (items_at name.last (length items)) behind ∙ items_again name.last items [] each kinds in
    let made : List Item → Draft = λ xs. record { name = name; items = xs } in
    ap (λ (r : Result (List Item × List ℕ) Damage). made (items_or_none r)) read

pub kept_by : (name : SegName) (count : ℕ) (d : Draft) (bytes : List ℕ) → d.name ≡ name → bytes ≡ object_header name 0 ++ flat_map item_bytes d.items → length d.items ≡ count → IsDraft d
    → (draft_of name count bytes ≡ d) × IsKept name count bytes
kept_by name count d bytes same is many draft =
    let kinds = subst (λ (n : SegName). AllByRecursion (λ item. may_stand n.last item ≡ true) d.items) same draft.kinds in
    let whole : d ≡ record { name = name; items = d.items } = ap (λ (n : SegName). record { name = n; items = d.items }) same in
    let view : draft_of name count bytes ≡ d = draft_again name count d.items bytes is many draft.each kinds ∙ sym whole in (
      view,
      record {
        draft = subst IsDraft (sym view) draft;
        many = ap (λ (x : Draft). length x.items) view ∙ many;
        encoded = is ∙ ap (λ (x : Draft). object_header name 0 ++ flat_map item_bytes x.items) (sym view);
      },
    )

-- ---- one more item

all_push : {X : Type 0} (P : X → Type 0) (xs : List X) (x : X) → AllByRecursion P xs → P x → AllByRecursion P (xs ++ x ∷ [])
all_push P [] x all here = (here, tt)
all_push P (y ∷ ys) x all here = (all.0, all_push P ys x all.1 here)

-- of checkpoints an object takes one
one_more : (last : Bool) (n : ℕ) → (not last || eqb n 0) ≡ true → last ≡ true → n + 1 ≤ 1
one_more true n e t = omega (arith, eqb-true n 0 e)
one_more false n e t = absurd cc

pub more_is_draft : (d : Draft) (item : Item) → IsDraft d → IsItem item → has_room d item ≡ true → takes_kind d item ≡ true → IsDraft (with_item d item)
more_is_draft d item is here room kind =
    let k = and_parts (may_stand d.name.last item) (not d.name.last || eqb (length d.items) 0) kind in
    record {
      run = is.run;
      seq = is.seq;
      each = all_push IsItem d.items item is.each here;
      kinds = all_push (λ i. may_stand d.name.last i ≡ true) d.items item is.kinds k.0;
      one_check = λ t. omega (arith, one_more d.name.last (length d.items) k.1 t, length-append d.items (item ∷ []));
      within = leb-true _ _ room;
    }

-- ---- where an item lies

pub lies_there : (d : Draft) (item : Item) (more : List Item) → IsItem item → LiesAt (object_bytes d.name (d.items ++ item ∷ more)) (next_place d item) item
unfolding object_bytes
lies_there d item more is =
    let n : ℕ = length (d.items ++ item ∷ more) in
    let first : List ℕ = object_header d.name n ++ flat_map item_bytes d.items in
    let text : List ℕ = item_bytes item in
    let behind : List ℕ = flat_map item_bytes more in
    let bytes : object_header d.name n ++ flat_map item_bytes (d.items ++ item ∷ more) ≡ first ++ (text ++ behind) =
    ap (λ (t : List ℕ). object_header d.name n ++ t) (flat_map-append item_bytes d.items (item ∷ more)) ∙ sym (append_assoc (object_header d.name n) (flat_map item_bytes d.items) (text ++ behind)) in
    let long : length first ≡ size_of_draft d =
    omega (arith, length-append (object_header d.name n) (flat_map item_bytes d.items), length-object_header d.name n, length-object_bytes d.name d.items) in
    let there : take (length text) (drop (size_of_draft d) (object_header d.name n ++ flat_map item_bytes (d.items ++ item ∷ more))) ≡ text =
    ap (λ (t : List ℕ). take (length text) (drop (size_of_draft d) t)) bytes ∙ ap (take (length text)) (drop_at first (text ++ behind) (size_of_draft d) long) ∙ take_at text behind (length text) refl in
    record {
      within = omega (arith, ap length bytes, length-append first (text ++ behind), length-append text behind, long);
      encoded = record { is = is; encoded = there };
    }

-- ---- what is made

-- an object that is complete
complete_one : (last : Bool) (n : ℕ) → (not last || eqb n 1) ≡ true → last ≡ true → n ≡ 1
complete_one true n e t = eqb-true n 1 e
complete_one false n e t = absurd cc

pub done_is_object : (d : Draft) (bytes : List ℕ) → IsDraft d → is_complete d ≡ true → bytes ≡ object_header d.name (length d.items) ++ flat_map item_bytes d.items → IsObject d.name bytes d.items
unfolding object_bytes
done_is_object d bytes is complete e = record {
  run = is.run;
  seq = is.seq;
  each = is.each;
  kinds = is.kinds;
  one_check = complete_one d.name.last (length d.items) complete;
  encoded = e;
  within = omega (arith, is.within, ap length e);
}

-- ---- a builder

-- how many bytes are kept
pub kept_size : (name : SegName) (count : ℕ) (bytes : List ℕ) (d : Draft) → draft_of name count bytes ≡ d → IsKept name count bytes → length bytes ≡ size_of_draft d
kept_size name count bytes d e k =
    let items : List Item = kept_items name.last count bytes in
    let all : length bytes ≡ size_of_draft (draft_of name count bytes) =
    omega (arith, ap length k.encoded, length-append (object_header name 0) (flat_map item_bytes items), length-object_header name 0, length-object_bytes name items) in
    all ∙ ap size_of_draft e

pub kept_few : (name : SegName) (count : ℕ) (bytes : List ℕ) → IsKept name count bytes → count < 2 ^ 31
kept_few name count bytes k =
    let items : List Item = kept_items name.last count bytes in
    omega (arith, k.many, k.draft.within, length-object_bytes name items, items_long items k.draft.each)

pub empty_is_draft : (name : SegName) → name.run < max_number → name.seq < max_number → IsDraft (record { name = name; items = [] })
empty_is_draft name run seq = record {
  run = run;
  seq = seq;
  each = tt;
  kinds = tt;
  one_check = λ t. omega arith;
  within = omega (arith, length-object_bytes name []);
}

pub kept_at_first : (name : SegName) (bytes : List ℕ) → name.run < max_number → name.seq < max_number → bytes ≡ object_header name 0
    → (draft_of name 0 bytes ≡ record { name = name; items = [] }) × IsKept name 0 bytes
kept_at_first name bytes run seq is =
    kept_by name 0 (record { name = name; items = [] }) bytes refl (is ∙ sym (append-nil (object_header name 0))) refl (empty_is_draft name run seq)

pub room_is : (d : Draft) (item : Item) (size long : ℕ) → size ≡ size_of_draft d → long ≡ length (item_bytes item) → leb (size + long) 4194304 ≡ has_room d item
room_is d item size long p q = ap (λ (n : ℕ). leb n 4194304) (omega (arith, p, q, size_with_item d item))

pub room_left : (d : Draft) (item : Item) → has_room d item ≡ true → size_of_draft d + length (item_bytes item) ≤ max_object_bytes
room_left d item room = omega (arith, leb-true _ _ room, size_with_item d item)

pub kept_more : (name : SegName) (count : ℕ) (old new : List ℕ) (d : Draft) (item : Item) → draft_of name count old ≡ d → IsKept name count old → IsItem item → has_room d item ≡ true → takes_kind d item ≡ true
    → new ≡ old ++ item_bytes item → (draft_of name (count + 1) new ≡ with_item d item) × IsKept name (count + 1) new
kept_more name count old new d item e k here room kind is =
    let draft = subst IsDraft e k.draft in
    let items : old ≡ object_header name 0 ++ flat_map item_bytes d.items = k.encoded ∙ ap (λ (x : Draft). object_header name 0 ++ flat_map item_bytes x.items) e in
    let more : flat_map item_bytes (d.items ++ item ∷ []) ≡ flat_map item_bytes d.items ++ item_bytes item =
    flat_map-append item_bytes d.items (item ∷ []) ∙ ap (λ (t : List ℕ). flat_map item_bytes d.items ++ t) (append-nil (item_bytes item)) in
    let all : new ≡ object_header name 0 ++ flat_map item_bytes (d.items ++ item ∷ []) =
    is ∙ ap (λ (t : List ℕ). t ++ item_bytes item) items ∙ append_assoc (object_header name 0) (flat_map item_bytes d.items) (item_bytes item)
    ∙ ap (λ (t : List ℕ). object_header name 0 ++ t) (sym more) in
    let many : length (d.items ++ item ∷ []) ≡ count + 1 = omega (arith, length-append d.items (item ∷ []), ap (λ (x : Draft). length x.items) e, k.many) in
    kept_by name (count + 1) (with_item d item) new (sym (ap (λ (x : Draft). x.name) e)) all many (more_is_draft d item draft here room kind)

pub place_is : (name : SegName) (count : ℕ) (old : List ℕ) (d : Draft) (item : Item) (offset long : ℕ) → draft_of name count old ≡ d → IsKept name count old → offset ≡ length old → long ≡ length (item_bytes item)
    → record { dir = name.dir; run = name.run; seq = name.seq; offset = offset; length = long } ≡ next_place d item
place_is name count old d item offset long e k p q =
    let f : ℕ → Location = λ n. record { dir = name.dir; run = name.run; seq = name.seq; offset = n; length = long } in
    let g : ℕ → Location = λ n. record { dir = name.dir; run = name.run; seq = name.seq; offset = size_of_draft (draft_of name count old); length = n } in
    ap f (p ∙ kept_size name count old (draft_of name count old) refl k) ∙ ap g q ∙ ap (λ (x : Draft). next_place x item) e

pub there_is_location : (name : SegName) (count : ℕ) (old : List ℕ) (d : Draft) (item : Item) → draft_of name count old ≡ d → IsKept name count old → has_room d item ≡ true → IsLocation (next_place d item)
there_is_location name count old d item e k room =
    let draft = subst IsDraft e k.draft in record { run = draft.run; seq = draft.seq; within = room_left d item room }

pub kept_done : (name : SegName) (count : ℕ) (old new : List ℕ) (d : Draft) → draft_of name count old ≡ d → IsKept name count old → is_complete d ≡ true
    → new ≡ (take count_place old ++ uint count) ++ drop object_header_bytes old → IsObject d.name new d.items
kept_done name count old new d e k complete is =
    let items : List Item = kept_items name.last count old in
    let all : List ℕ = flat_map item_bytes items in
    let grouped : new ≡ take count_place old ++ (uint count ++ drop object_header_bytes old) = is ∙ append_assoc (take count_place old) (uint count) (drop object_header_bytes old) in
    let written : new ≡ object_header name (length items) ++ all = grouped ∙ header_counted name 0 count all old k.encoded ∙ ap (λ (n : ℕ). object_header name n ++ all) (sym k.many) in
    subst (λ (x : Draft). IsObject x.name new x.items) e (done_is_object (draft_of name count old) new k.draft (ap is_complete e ∙ complete) written)
