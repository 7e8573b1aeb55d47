-- What is found of a number in items that ascend by their numbers.
use Rattle.std.proofs.Common.{◌≡◌, ◌≢◌, ◌⊎◌, ⊎_elim, inl, inr, ℕ, ◌+◌, ◌≤◌, ◌<◌, Bool, true, false, cond, List, [], ◌∷◌, ◌++◌, map, take, drop, set, Option, Some, None, Ordering, IsTrue, refl, sym, ◌∙◌, ap, subst, arith}
use Rattle.std.specs.Option.{IfSome, option_or}
use Rattle.std.specs.List.{AllByRecursion, insert, remove}
use Rattle.std.specs.declared.cmp.Ordering.TheVariants.{Less, Equal, Greater}
use Rattle.std.specs.Ordering.{eq_by_cmp, is_eq, nat_cmp}
use Rattle.std.specs.Cmp.{nat_cmp_total, tied_itself}
use Rattle.std.specs.FinMap as map
use Rattle.std.specs.FinMap.{FinMap, find, get, get-from_entries, get-insert, get-remove, nat_cmp-IsAntisymmetric, same_map}
use Rattle.std.proofs.lemmas.List.{take-append-drop}
use Rattle.sky_base.specs.declared.place.Link.{Link}
use Rattle.sky_item.specs.Items.{AscendsWithin}
use Rattle.sky_item.specs.declared.lists.NumberedLink.{NumberedLink}
use Rattle.sky_imap.specs.Links.{Begins, IsPlaceOf, entry_of, map_of, numbers_of}
use Rattle.sky_imap.proofs.AscendLaws.{all_higher, higher, put_first, rest_at, rest_of, set_at}

-- what is found of a number
found : ℕ → List NumberedLink → Option Link
found q links = find nat_cmp q (map entry_of links)

found_is : (links : List NumberedLink) (q : ℕ) → get (map_of links) q ≡ found q links
unfolding found
found_is links q = get-from_entries nat_cmp_total (map entry_of links) q

pub same_links : (m n : FinMap nat_cmp Link) → ((q : ℕ) → get m q ≡ get n q) → m ≡ n
same_links m n is = same_map nat_cmp_total nat_cmp-IsAntisymmetric m n is

-- a number is this one, or another, which a look-up passes
ties : (o : Ordering) → (o ≡ Equal) ⊎ (is_eq o ≡ false)
ties Less = inr refl
ties Equal = inl refl
ties Greater = inr refl

passes : (q n : ℕ) → q ≢ n → eq_by_cmp nat_cmp q n ≡ false
passes q n differ = ⊎_elim (λ e. absurd (differ (nat_cmp-IsAntisymmetric q n e))) (λ other. other) (ties (nat_cmp q n))

this : (n : ℕ) → eq_by_cmp nat_cmp n n ≡ true
this n = ap is_eq (tied_itself nat_cmp_total n)

found-append : (q : ℕ) (xs ys : List NumberedLink) → found q (xs ++ ys) ≡ option_or (found q xs) (found q ys)
unfolding found
found-append q [] ys = refl
found-append q (x ∷ xs) ys =
    elim (eq_by_cmp nat_cmp q x.number) as (λ b. cond b (Some x.link) (found q (xs ++ ys)) ≡ option_or (cond b (Some x.link) (found q xs)) (found q ys)) [
      | true ↦ refl
      | false ↦ found-append q xs ys
    ]

-- a number that is out of their range isn't there
found_out : (q l b : ℕ) (xs : List NumberedLink) → AscendsWithin l b (numbers_of xs) → (q < l) ⊎ (b ≤ q) → found q xs ≡ None
unfolding found
found_out q l b [] is out = refl
found_out q l b (x ∷ xs) is out =
    let first : l ≤ x.number = is.0 in
    let below : x.number < b = is.1 in
    let other : q ≢ x.number = λ same. ⊎_elim (λ low. omega arith) (λ high. omega arith) out in
    ap (λ (b : Bool). cond b (Some x.link) (found q xs)) (passes q x.number other)
    ∙ found_out q (x.number + 1) b xs is.2 (⊎_elim (λ low. inl (omega arith)) (λ high. inr high) out)

-- the first is found
found_first : (q : ℕ) (x : NumberedLink) (xs : List NumberedLink) → found q (x ∷ xs) ≡ cond (eq_by_cmp nat_cmp q x.number) (Some x.link) (found q xs)
unfolding found
found_first q x xs = refl

-- ---- at the place of a number

-- what is found of the number itself
found_behind : (number l b : ℕ) (links : List NumberedLink) (i : ℕ) → IsPlaceOf number l b links i → found number links ≡ found number (drop i links)
found_behind number l b links i is =
    ap (found number) (sym (take-append-drop i links))
    ∙ found-append number (take i links) (drop i links)
    ∙ ap (λ (o : Option Link). option_or o (found number (drop i links))) (found_out number l number (take i links) is.before (inr (omega arith)))

first_is : (number : ℕ) (x : NumberedLink) (xs : List NumberedLink) → x.number ≡ number → found number (x ∷ xs) ≡ Some x.link
first_is number x xs e =
    found_first number x xs
    ∙ ap (λ (n : ℕ). cond (eq_by_cmp nat_cmp n x.number) (Some x.link) (found number xs)) (sym e)
    ∙ ap (λ (b : Bool). cond b (Some x.link) (found number xs)) (this x.number)

begins_is : (number : ℕ) (xs : List NumberedLink) (x : NumberedLink) (ys : List NumberedLink) → xs ≡ x ∷ ys → Begins number xs → x.number ≡ number
begins_is number xs x ys e begins = subst (Begins number) e begins

pub get_here : (number l b : ℕ) (links : List NumberedLink) (i : ℕ) (x : NumberedLink) → IsPlaceOf number l b links i → Begins number (drop i links) → drop i links ≡ x ∷ rest_of (drop i links)
    → get (map_of links) number ≡ Some x.link
get_here number l b links i x is begins e =
    found_is links number
    ∙ found_behind number l b links i is
    ∙ ap (found number) e
    ∙ first_is number x (rest_of (drop i links)) (begins_is number (drop i links) x (rest_of (drop i links)) e begins)

pub get_absent : (number l b : ℕ) (links : List NumberedLink) (i : ℕ) → IsPlaceOf number l b links i → ¬ (Begins number (drop i links)) → get (map_of links) number ≡ None
get_absent number l b links i is differs =
    found_is links number
    ∙ found_behind number l b links i is
    ∙ found_out number (number + 1) b (drop i links) (all_higher number b (drop i links) differs is.behind) (inl (omega arith))

-- ---- one put in, replaced or taken out

put_in : (q number : ℕ) (link : Link) (ws bs : List NumberedLink) → found number ws ≡ None
    → found q (ws ++ (record { number = number; link = link }) ∷ bs) ≡ cond (eq_by_cmp nat_cmp q number) (Some link) (option_or (found q ws) (found q bs))
put_in q number link ws bs none =
    found-append q ws ((record { number = number; link = link }) ∷ bs)
    ∙ ap (option_or (found q ws)) (found_first q (record { number = number; link = link }) bs)
    ∙ by (eq_by_cmp nat_cmp q number) refl
  where
    same : (b : Bool) → eq_by_cmp nat_cmp q number ≡ b → IsTrue b → found q ws ≡ None
    same true e t = ap (λ (n : ℕ). found n ws) (nat_cmp-IsAntisymmetric q number (tied (nat_cmp q number) e)) ∙ none
      where
        tied : (o : Ordering) → is_eq o ≡ true → o ≡ Equal
        tied Less e = absurd cc
        tied Equal e = refl
        tied Greater e = absurd cc
    same false e t = absurd cc

    by : (b : Bool) → eq_by_cmp nat_cmp q number ≡ b → option_or (found q ws) (cond b (Some link) (found q bs)) ≡ cond b (Some link) (option_or (found q ws) (found q bs))
    by true e = ap (λ (o : Option Link). option_or o (Some link)) (same true e refl)
    by false e = refl

without : (q number : ℕ) (ws : List NumberedLink) (x : NumberedLink) (bs : List NumberedLink) → x.number ≡ number → found number ws ≡ None → found number bs ≡ None
    → found q (ws ++ bs) ≡ cond (eq_by_cmp nat_cmp q number) None (found q (ws ++ x ∷ bs))
without q number ws x bs is none_before none_behind =
    found-append q ws bs
    ∙ by (eq_by_cmp nat_cmp q number) refl
    ∙ ap (cond (eq_by_cmp nat_cmp q number) None) (sym (found-append q ws (x ∷ bs)))
  where
    tied : (o : Ordering) → is_eq o ≡ true → o ≡ Equal
    tied Less e = absurd cc
    tied Equal e = refl
    tied Greater e = absurd cc

    by : (b : Bool) → eq_by_cmp nat_cmp q number ≡ b → option_or (found q ws) (found q bs) ≡ cond b None (option_or (found q ws) (found q (x ∷ bs)))
    by true e =
        let same : q ≡ number = nat_cmp-IsAntisymmetric q number (tied (nat_cmp q number) e) in
        ap (λ (n : ℕ). option_or (found n ws) (found n bs)) same ∙ ap (λ (o : Option Link). option_or o (found number bs)) none_before ∙ none_behind
    by false e =
        ap (option_or (found q ws))
        (ap (λ (b : Bool). cond b (Some x.link) (found q bs)) (sym (ap (eq_by_cmp nat_cmp q) is ∙ e)) ∙ sym (found_first q x bs))

before : (number l b : ℕ) (links : List NumberedLink) (i : ℕ) → IsPlaceOf number l b links i → found number (take i links) ≡ None
before number l b links i is = found_out number l number (take i links) is.before (inr (omega arith))

pub map_of-insert : (number l b : ℕ) (links : List NumberedLink) (i : ℕ) (link : Link) → IsPlaceOf number l b links i
    → map_of (insert links i (record { number = number; link = link })) ≡ map.insert (map_of links) number link
map_of-insert number l b links i link is =
    same_links _ _
    (λ q. found_is (insert links i (record { number = number; link = link })) q
    ∙ put_in q number link (take i links) (drop i links) (before number l b links i is)
    ∙ ap (cond (eq_by_cmp nat_cmp q number) (Some link)) (sym (found-append q (take i links) (drop i links)) ∙ ap (found q) (take-append-drop i links) ∙ sym (found_is links q))
    ∙ sym (get-insert nat_cmp_total (map_of links) number link q))

put_over : (q number : ℕ) (link : Link) (ws : List NumberedLink) (x : NumberedLink) (bs : List NumberedLink) → x.number ≡ number
    → cond (eq_by_cmp nat_cmp q number) (Some link) (option_or (found q ws) (found q bs)) ≡ cond (eq_by_cmp nat_cmp q number) (Some link) (found q (ws ++ x ∷ bs))
put_over q number link ws x bs is =
    by (eq_by_cmp nat_cmp q number) refl ∙ ap (cond (eq_by_cmp nat_cmp q number) (Some link)) (sym (found-append q ws (x ∷ bs)))
  where
    by : (b : Bool) → eq_by_cmp nat_cmp q number ≡ b → cond b (Some link) (option_or (found q ws) (found q bs)) ≡ cond b (Some link) (option_or (found q ws) (found q (x ∷ bs)))
    by true e = refl
    by false e = ap (option_or (found q ws)) (ap (λ (b : Bool). cond b (Some x.link) (found q bs)) (sym (ap (eq_by_cmp nat_cmp q) is ∙ e)) ∙ sym (found_first q x bs))

set_is : (number : ℕ) (links : List NumberedLink) (i : ℕ) (y : NumberedLink) → Begins number (drop i links) → set links i y ≡ take i links ++ y ∷ rest_of (drop i links)
set_is number links i y begins = set_at links i y ∙ ap (λ (l : List NumberedLink). take i links ++ l) (first (drop i links) begins)
  where
    first : (xs : List NumberedLink) → Begins number xs → put_first y xs ≡ y ∷ rest_of xs
    first [] begins = absurd begins
    first (x ∷ xs) begins = refl

abbrev first_of : List NumberedLink → NumberedLink → NumberedLink
first_of [] d = d
first_of (x ∷ xs) d = x

parts : (number : ℕ) (links : List NumberedLink) (i : ℕ) (d : NumberedLink) → Begins number (drop i links) → ((first_of (drop i links) d).number ≡ number) × (drop i links ≡ first_of (drop i links) d ∷ rest_of (drop i links))
parts number links i d begins = by (drop i links) begins
  where
    by : (xs : List NumberedLink) → Begins number xs → ((first_of xs d).number ≡ number) × (xs ≡ first_of xs d ∷ rest_of xs)
    by [] begins = absurd begins
    by (x ∷ xs) begins = (begins, refl)

pub map_of-set : (number l b : ℕ) (links : List NumberedLink) (i : ℕ) (link : Link) → IsPlaceOf number l b links i → Begins number (drop i links)
    → map_of (set links i (record { number = number; link = link })) ≡ map.insert (map_of links) number link
map_of-set number l b links i link is begins =
    let y : NumberedLink = record { number = number; link = link } in
    let cut = parts number links i y begins in
    same_links _ _
    (λ q. found_is (set links i y) q
    ∙ ap (found q) (set_is number links i y begins)
    ∙ put_in q number link (take i links) (rest_of (drop i links)) (before number l b links i is)
    ∙ put_over q number link (take i links) (first_of (drop i links) y) (rest_of (drop i links)) cut.0
    ∙ ap (cond (eq_by_cmp nat_cmp q number) (Some link)) (ap (λ (l : List NumberedLink). found q (take i links ++ l)) (sym cut.1) ∙ ap (found q) (take-append-drop i links) ∙ sym (found_is links q))
    ∙ sym (get-insert nat_cmp_total (map_of links) number link q))

pub map_of-remove : (number l b : ℕ) (links : List NumberedLink) (i : ℕ) (d : NumberedLink) → IsPlaceOf number l b links i → Begins number (drop i links)
    → map_of (remove links i) ≡ map.remove (map_of links) number
map_of-remove number l b links i d is begins =
    let cut = parts number links i d begins in
    let behind : found number (rest_of (drop i links)) ≡ None = found_out number (number + 1) b (rest_of (drop i links)) (higher number b (drop i links) begins is.behind) (inl (omega arith)) in
    same_links _ _
    (λ q. found_is (remove links i) q
    ∙ ap (λ (l : List NumberedLink). found q (take i links ++ l)) (rest_at links i)
    ∙ without q number (take i links) (first_of (drop i links) d) (rest_of (drop i links)) cut.0 (before number l b links i is) behind
    ∙ ap (cond (eq_by_cmp nat_cmp q number) None) (ap (λ (l : List NumberedLink). found q (take i links ++ l)) (sym cut.1) ∙ ap (found q) (take-append-drop i links) ∙ sym (found_is links q))
    ∙ sym (get-remove nat_cmp_total (map_of links) number q))

-- nothing goes where nothing is
pub remove-absent : (m : FinMap nat_cmp Link) (number : ℕ) → get m number ≡ None → m ≡ map.remove m number
remove-absent m number none = same_links _ _ (λ q. by q (eq_by_cmp nat_cmp q number) refl ∙ sym (get-remove nat_cmp_total m number q))
  where
    tied : (o : Ordering) → is_eq o ≡ true → o ≡ Equal
    tied Less e = absurd cc
    tied Equal e = refl
    tied Greater e = absurd cc

    by : (q : ℕ) (b : Bool) → eq_by_cmp nat_cmp q number ≡ b → get m q ≡ cond b None (get m q)
    by q true e = ap (get m) (nat_cmp-IsAntisymmetric q number (tied (nat_cmp q number) e)) ∙ none
    by q false e = refl

-- a number that is out of their range isn't there
pub get_out : (q l b : ℕ) (links : List NumberedLink) → AscendsWithin l b (numbers_of links) → (q < l) ⊎ (b ≤ q) → get (map_of links) q ≡ None
get_out q l b links is out = found_is links q ∙ found_out q l b links is out

-- the first of them is found, and those behind it are found as without it
pub first_found : (n : NumberedLink) (links : List NumberedLink) → get (map_of (n ∷ links)) n.number ≡ Some n.link
first_found n links = found_is (n ∷ links) n.number ∙ first_is n.number n links refl

pub later_found : (n : NumberedLink) (links : List NumberedLink) (q : ℕ) → n.number + 1 ≤ q → get (map_of (n ∷ links)) q ≡ get (map_of links) q
later_found n links q later =
    let other : q ≢ n.number = λ same. omega arith in
    found_is (n ∷ links) q ∙ found_first q n links ∙ ap (λ (b : Bool). cond b (Some n.link) (found q links)) (passes q n.number other) ∙ sym (found_is links q)

found_none : (q : ℕ) → found q [] ≡ None
unfolding found
found_none q = refl

-- what holds of each of them holds of what is found
pub all_found : (P : Link → Type 0) (links : List NumberedLink) → AllByRecursion (λ (n : NumberedLink). P n.link) links → (q : ℕ) → IfSome (get (map_of links) q) P
all_found P links all q = subst (λ (o : Option Link). IfSome o P) (sym (found_is links q)) (by links all)
  where
    by : (links : List NumberedLink) → AllByRecursion (λ (n : NumberedLink). P n.link) links → IfSome (found q links) P
    by [] all = subst (λ (o : Option Link). IfSome o P) (sym (found_none q)) tt
    by (n ∷ links) all =
        subst (λ (o : Option Link). IfSome o P) (sym (found_first q n links))
        (elim (eq_by_cmp nat_cmp q n.number) as (λ b. IfSome (cond b (Some n.link) (found q links)) P) [ true ↦ all.0 | false ↦ by links all.1 ])
