-- Pages as they are kept, and the items that they are.
use Rattle.std.proofs.Common.{◌≡◌, ◌≢◌, ◌==◌, ◌↔◌, ⊎_elim, inl, inr, ℕ, zero, suc, ◌+◌, ◌*◌, ◌/◌, ◌≤◌, ◌<◌, Bool, true, false, cond, List, [], ◌∷◌, ◌++◌, map, length, take, drop, set, Option, Some, None, IsTrue, T, refl, sym, ◌∙◌, ap, subst, arith}
use Rattle.std.specs.Prelude.{IsSome, IfSome, unwrap_or}
use Rattle.std.specs.List.{AllByRecursion, insert, remove}
use Rattle.std.specs.declared.cmp.Ordering.TheVariants.{Less, Equal, Greater}
use Rattle.std.specs.Ordering.{eq_by_cmp, is_lt, nat_cmp}
use Rattle.std.specs.Cmp.{nat_cmp_total}
use Rattle.std.specs.FinMap.{FinMap, empty, entries, entries-from_sorted, find, from_sorted, get, get-empty, get-entries, get-from_entries, get-from_sorted, get-insert, get-remove, is_sorted, len, len-empty, len-entries, empty_of_len}
use Rattle.std.specs.FinMap.Entries.{below_all}
use Rattle.std.proofs.lemmas.Bool.{and_from, cases_lt, eq-eqb, eqb-true, lt-ltb}
use Rattle.std.proofs.lemmas.List.{length-map, map-append}
use Rattle.sky_base.specs.Limits.{max_page_slots}
use Rattle.sky_base.specs.declared.place.ItemId.{ItemId}
use Rattle.sky_base.specs.declared.place.Link.{Link}
use Rattle.sky_item.specs.Items.{AreNumbered, AscendsWithin, IsItem, IsLink}
use Rattle.sky_item.specs.declared.item.Item.{Item}
use Rattle.sky_item.specs.declared.item.Item.TheVariants as kind
use Rattle.sky_item.specs.declared.lists.NumberedLink.{NumberedLink}
use Rattle.sky_imap.specs.Kept.{IsKept, page_kept}
use Rattle.sky_imap.specs.Links.{Begins, IsPlaceOf, entry_of, links_in, map_of, numbers_of}
use Rattle.sky_imap.specs.PageMap.{HasLinks, IsPage, PageMap, empty_page, item_of_page, page_in, page_of, with_slot, without_slot}
use Rattle.sky_imap.proofs.AscendLaws.{ascends-append, higher, length-ascends, rest_at, rest_of, set_at, ascends-weaker, all_higher, put_first}
use Rattle.sky_imap.proofs.FoundLaws.{all_found, first_found, get_out, later_found, same_links}

-- ---- the slots of a page, in order

below_is : (l b : ℕ) (x : ℕ) (links : List NumberedLink) → x < l → AscendsWithin l b (numbers_of links) → IsTrue (below_all nat_cmp x (map entry_of links))
below_is l b x [] lt is = refl
below_is l b x (n ∷ links) lt is =
    let first : l ≤ n.number = is.0 in
    let less : IsTrue (is_lt (nat_cmp x n.number)) = ap (λ (t : Bool). is_lt (cond t Less (cond (x == n.number) Equal Greater))) (lt-ltb x n.number (omega arith)) in
    and_from _ _ less (below_is (n.number + 1) b x links (omega arith) is.2)

sorted_is : (l b : ℕ) (links : List NumberedLink) → AscendsWithin l b (numbers_of links) → IsTrue (is_sorted nat_cmp (map entry_of links))
sorted_is l b [] is = refl
sorted_is l b (n ∷ links) is = and_from _ _ (below_is (n.number + 1) b n.number links (omega arith) is.2) (sorted_is (n.number + 1) b links is.2)

pub entries_in : (l b : ℕ) (links : List NumberedLink) → AscendsWithin l b (numbers_of links) → entries (map_of links) ≡ map entry_of links
entries_in l b links is =
    let tested : T (is_sorted nat_cmp (map entry_of links)) = subst T (sym (sorted_is l b links is)) tt in
    ap entries (same_links (map_of links) (from_sorted (map entry_of links))
    (λ q. get-from_entries nat_cmp_total (map entry_of links) q ∙ sym (get-from_sorted nat_cmp (map entry_of links) q tested)))
    ∙ entries-from_sorted nat_cmp (map entry_of links) tested

back : (links : List NumberedLink) → map (λ (e : ℕ × Link). record { number = e.0; link = e.1 }) (map entry_of links) ≡ links
back [] = refl
back (n ∷ links) = ap (λ (l : List NumberedLink). n ∷ l) (back links)

pub links_are : (l b : ℕ) (links : List NumberedLink) → AscendsWithin l b (numbers_of links) → links_in (map_of links) ≡ links
links_are l b links is = ap (map (λ (e : ℕ × Link). record { number = e.0; link = e.1 })) (entries_in l b links is) ∙ back links

pub len_in : (l b : ℕ) (links : List NumberedLink) → AscendsWithin l b (numbers_of links) → len (map_of links) ≡ length links
len_in l b links is = len-entries (map_of links) ∙ ap length (entries_in l b links is) ∙ length-map links entry_of

-- a number that is tested against 0
pub tested : (slots : FinMap nat_cmp Link) (n : ℕ) → n ≡ len slots → (IsTrue (n == 0) → slots ≡ empty) × (slots ≡ empty → IsTrue (n == 0))
tested slots n is = (λ zero. empty_of_len slots (sym is ∙ eqb-true n 0 zero), λ e. eq-eqb n 0 (is ∙ ap len e ∙ len-empty nat_cmp Link))

-- ---- what a page is

of_its_own : (n q : ℕ) → n * 2048 ≤ q → q < (n + 1) * 2048 → q / 2048 ≡ n
of_its_own n q low high = omega arith

pub is_page : (number : ℕ) (links : List NumberedLink) → IsKept number links → IsPage (page_kept number links)
is_page number links kept = record { number = kept.is_page; own = own }
  where
    none : (o : Option Link) → o ≡ None → IsSome o → ⊥
    none None e some = cc
    none (Some link) e some = cc

    own : (q : ℕ) → IsSome (get (map_of links) q) → page_of q ≡ number
    own q some =
        ⊎_elim (λ low. absurd (none (get (map_of links) q) (get_out q (number * max_page_slots) ((number + 1) * max_page_slots) links kept.ascends (inl low)) some))
        (λ least. ⊎_elim (λ below. of_its_own number q least below)
        (λ high. absurd (none (get (map_of links) q) (get_out q (number * max_page_slots) ((number + 1) * max_page_slots) links kept.ascends (inr high)) some)) (cases_lt q ((number + 1) * max_page_slots)))
        (cases_lt q (number * max_page_slots))

within : (n q : ℕ) → q / 2048 ≡ n → (n * 2048 ≤ q) × (q < (n + 1) * 2048)
within n q is = (omega arith, omega arith)

-- ---- a slot that is put in, replaced or taken out

numbers-append : (xs ys : List NumberedLink) → numbers_of (xs ++ ys) ≡ numbers_of xs ++ numbers_of ys
numbers-append xs ys = map-append (λ (n : NumberedLink). n.number) xs ys

joined : (number fileid : ℕ) (link : Link) (xs ys : List NumberedLink) → page_of fileid ≡ number → AscendsWithin (number * max_page_slots) fileid (numbers_of xs) → AscendsWithin (fileid + 1) ((number + 1) * max_page_slots) (numbers_of ys)
    → AscendsWithin (number * max_page_slots) ((number + 1) * max_page_slots) (numbers_of (xs ++ (record { number = fileid; link = link }) ∷ ys))
joined number fileid link xs ys own low high =
    let range = within number fileid own in
    let least : number * max_page_slots ≤ fileid = range.0 in
    let below : fileid < (number + 1) * max_page_slots = range.1 in
    subst (AscendsWithin (number * max_page_slots) ((number + 1) * max_page_slots)) (sym (numbers-append xs ((record { number = fileid; link = link }) ∷ ys)))
    (ascends-append (number * max_page_slots) fileid ((number + 1) * max_page_slots) (numbers_of xs) (fileid ∷ numbers_of ys) least (omega arith) low (omega arith, below, high))

abbrev pub IsHere : ℕ → ℕ → List NumberedLink → ℕ → Type 0
IsHere number fileid links place = IsPlaceOf fileid (number * max_page_slots) ((number + 1) * max_page_slots) links place

put_over : (y : NumberedLink) (fileid : ℕ) (xs : List NumberedLink) → Begins fileid xs → put_first y xs ≡ y ∷ rest_of xs
put_over y fileid [] begins = absurd begins
put_over y fileid (x ∷ xs) begins = refl

pub kept-set : (number fileid : ℕ) (link : Link) (links : List NumberedLink) (place : ℕ) → IsKept number links → page_of fileid ≡ number → IsHere number fileid links place → Begins fileid (drop place links)
    → IsKept number (set links place (record { number = fileid; link = link }))
kept-set number fileid link links place kept own here begins =
    let y : NumberedLink = record { number = fileid; link = link } in record {
      is_page = kept.is_page;
      ascends = subst (λ (l : List NumberedLink). AscendsWithin (number * max_page_slots) ((number + 1) * max_page_slots) (numbers_of l))
          (sym (set_at links place y ∙ ap (λ (l : List NumberedLink). take place links ++ l) (put_over y fileid (drop place links) begins)))
          (joined number fileid link (take place links) (rest_of (drop place links)) own here.before (higher fileid ((number + 1) * max_page_slots) (drop place links) begins here.behind));
    }

pub kept-insert : (number fileid : ℕ) (link : Link) (links : List NumberedLink) (place : ℕ) → IsKept number links → page_of fileid ≡ number → IsHere number fileid links place → ¬ (Begins fileid (drop place links))
    → IsKept number (insert links place (record { number = fileid; link = link }))
kept-insert number fileid link links place kept own here differs = record {
  is_page = kept.is_page;
  ascends = joined number fileid link (take place links) (drop place links) own here.before (all_higher fileid ((number + 1) * max_page_slots) (drop place links) differs here.behind);
}

-- a number that is there is in their range
in_range : (l b fileid : ℕ) (links : List NumberedLink) (place : ℕ) → AscendsWithin l b (numbers_of links) → Begins fileid (drop place links) → (l ≤ fileid) × (fileid < b)
in_range l b fileid [] zero is begins = absurd begins
in_range l b fileid [] (suc place) is begins = absurd begins
in_range l b fileid (n ∷ links) zero is begins =
    let first : l ≤ n.number = is.0 in let below : n.number < b = is.1 in let same : n.number ≡ fileid = begins in (omega arith, omega arith)
in_range l b fileid (n ∷ links) (suc place) is begins =
    let first : l ≤ n.number = is.0 in
    let rest = in_range (n.number + 1) b fileid links place is.2 begins in
    let low : n.number + 1 ≤ fileid = rest.0 in
    let high : fileid < b = rest.1 in (omega arith, high)

pub kept-remove : (number fileid : ℕ) (links : List NumberedLink) (place : ℕ) → IsKept number links → IsHere number fileid links place → Begins fileid (drop place links) → IsKept number (remove links place)
kept-remove number fileid links place kept here begins =
    let range = in_range (number * max_page_slots) ((number + 1) * max_page_slots) fileid links place kept.ascends begins in
    let least : number * max_page_slots ≤ fileid = range.0 in
    let below : fileid < (number + 1) * max_page_slots = range.1 in record {
      is_page = kept.is_page;
      ascends = subst (λ (l : List NumberedLink). AscendsWithin (number * max_page_slots) ((number + 1) * max_page_slots) (numbers_of (take place links ++ l))) (sym (rest_at links place))
          (subst (AscendsWithin (number * max_page_slots) ((number + 1) * max_page_slots)) (sym (numbers-append (take place links) (rest_of (drop place links))))
          (ascends-append (number * max_page_slots) fileid ((number + 1) * max_page_slots) (numbers_of (take place links)) (numbers_of (rest_of (drop place links))) least (omega arith) here.before
          (ascends-weaker fileid (fileid + 1) ((number + 1) * max_page_slots) (numbers_of (rest_of (drop place links))) (omega arith) (higher fileid ((number + 1) * max_page_slots) (drop place links) begins here.behind))));
    }

-- a page has no more slots than fileids
pub few_slots : (number : ℕ) (links : List NumberedLink) → IsKept number links → length links ≤ max_page_slots
few_slots number links kept =
    few number (length links) (subst (λ (n : ℕ). n + number * 2048 ≤ (number + 1) * 2048) (length-map links (λ (n : NumberedLink). n.number))
    (length-ascends (number * max_page_slots) ((number + 1) * max_page_slots) (numbers_of links) (omega arith) kept.ascends))
  where
    few : (n m : ℕ) → m + n * 2048 ≤ (n + 1) * 2048 → m ≤ 2048
    few n m le = omega arith

-- ---- the item that a page is

pub some_slots : (links : List NumberedLink) → map_of links ≢ empty → 1 ≤ length links
some_slots [] some = absurd (some refl)
some_slots (n ∷ links) some = omega arith

-- the first of the slots, and those behind it, are found in the page
each_link : (l b : ℕ) (links : List NumberedLink) → AscendsWithin l b (numbers_of links) → ((q : ℕ) → l ≤ q → IfSome (get (map_of links) q) IsLink) → AllByRecursion (λ (n : NumberedLink). IsLink n.link) links
each_link l b [] is all = tt
each_link l b (n ∷ links) is all = (
  subst (λ (o : Option Link). IfSome o IsLink) (first_found n links) (all n.number is.0),
  each_link (n.number + 1) b links is.2
      (λ q le. let least : l ≤ n.number = is.0 in subst (λ (o : Option Link). IfSome o IsLink) (later_found n links q le) (all q (omega arith))),
)

pub is_numbered : (number : ℕ) (links : List NumberedLink) → IsKept number links → HasLinks (page_kept number links) → AreNumbered (number * max_page_slots) ((number + 1) * max_page_slots) links
is_numbered number links kept all =
    record { numbers = kept.ascends; each = each_link (number * max_page_slots) ((number + 1) * max_page_slots) links kept.ascends (λ q le. all q) }

-- a page is the one that its item is
forth : (es : List (ℕ × Link)) → map entry_of (map (λ (e : ℕ × Link). record { number = e.0; link = e.1 }) es) ≡ es
forth [] = refl
forth (e ∷ es) = ap (λ (l : List (ℕ × Link)). e ∷ l) (forth es)

pub map_back : (m : FinMap nat_cmp Link) → map_of (links_in m) ≡ m
map_back m = same_links (map_of (links_in m)) m (λ q. get-from_entries nat_cmp_total (map entry_of (links_in m)) q ∙ ap (find nat_cmp q) (forth (entries m)) ∙ sym (get-entries m q))

pub comes_back : (id : ItemId) (page : PageMap) → page_in (item_of_page id page) ≡ Some page
comes_back id page = ap (λ (s : FinMap nat_cmp Link). Some (record { number = page.number; slots = s })) (map_back page.slots)

-- ---- what the calls say of a page's slots

pub here_is : (number fileid : ℕ) (links seen : List NumberedLink) (place : ℕ) → seen ≡ links → IsKept number links → ((least bound : ℕ) → AscendsWithin least bound (numbers_of seen) → IsPlaceOf fileid least bound seen place)
    → IsHere number fileid links place
here_is number fileid links seen place e kept is =
    subst (λ (l : List NumberedLink). IsHere number fileid l place) e
    (is (number * max_page_slots) ((number + 1) * max_page_slots) (subst (λ (l : List NumberedLink). AscendsWithin (number * max_page_slots) ((number + 1) * max_page_slots) (numbers_of l)) (sym e) kept.ascends))

pub begins_here : {b : Bool} (fileid : ℕ) (links seen : List NumberedLink) (place : ℕ) → seen ≡ links → IsTrue b ↔ Begins fileid (drop place seen) → b ≡ true → Begins fileid (drop place links)
begins_here fileid links seen place e tells is = subst (λ (l : List NumberedLink). Begins fileid (drop place l)) e (tells.0 is)

pub differs_here : {b : Bool} (fileid : ℕ) (links seen : List NumberedLink) (place : ℕ) → seen ≡ links → IsTrue b ↔ Begins fileid (drop place seen) → b ≡ false → ¬ (Begins fileid (drop place links))
differs_here fileid links seen place e tells is begins =
    let both : true ≡ false = sym (tells.1 (subst (λ (l : List NumberedLink). Begins fileid (drop place l)) (sym e) begins)) ∙ is in cc

-- a page with other slots
pub with_slots : (number : ℕ) (m n : FinMap nat_cmp Link) → m ≡ n → ◌≡◌ {A = PageMap} (record { number = number; slots = m }) (record { number = number; slots = n })
with_slots number m n e = ap (λ (s : FinMap nat_cmp Link). record { number = number; slots = s }) e

-- ---- the links of a page

pub links_of_new : (number : ℕ) → HasLinks (empty_page number)
links_of_new number q = subst (λ (o : Option Link). IfSome o IsLink) (sym (get-empty nat_cmp q)) tt

pub links-set : (page : PageMap) (fileid : ℕ) (link : Link) → HasLinks page → IsLink link → HasLinks (with_slot page fileid link)
links-set page fileid link all is q =
    subst (λ (o : Option Link). IfSome o IsLink) (sym (get-insert nat_cmp_total page.slots fileid link q))
    (elim (eq_by_cmp nat_cmp q fileid) as (λ b. IfSome (cond b (Some link) (get page.slots q)) IsLink) [ true ↦ is | false ↦ all q ])

pub links-clear : (page : PageMap) (fileid : ℕ) → HasLinks page → HasLinks (without_slot page fileid)
links-clear page fileid all q =
    subst (λ (o : Option Link). IfSome o IsLink) (sym (get-remove nat_cmp_total page.slots fileid q))
    (elim (eq_by_cmp nat_cmp q fileid) as (λ b. IfSome (cond b None (get page.slots q)) IsLink) [ true ↦ tt | false ↦ all q ])

pub links_of_item : (item : Item) (page : PageMap) → IsItem item → page_in item ≡ Some page → HasLinks page
links_of_item (kind.Page p) page is e = subst HasLinks (inside e) (λ q. all_found IsLink p.slots is.3.each q)
  where
    inside : {a b : PageMap} → Some a ≡ Some b → a ≡ b
    inside {a} {b} same = ap (λ (o : Option PageMap). unwrap_or o a) same
links_of_item (kind.Block b) page is e = absurd cc
links_of_item (kind.Inode i) page is e = absurd cc
links_of_item (kind.Check c) page is e = absurd cc
