-- No cookie is used again.
use Rattle.std.proofs.Common.{◌≡◌, ℕ, ◌+◌, ◌<◌, ◌≤◌, ◌⊎◌, inl, inr, ⊎_elim, List, [], ◌∷◌, refl, sym, subst, arith}
use Rattle.std.specs.List.{All, AllByRecursion, Contains}
use Rattle.std.specs.List.Sorted.{IsStrictlySortedBy, IsStrictlyIncreasing}
use Rattle.std.specs.Ordering.{nat_cmp}
use Rattle.std.specs.declared.cmp.Ordering.TheVariants.{Less}
use Rattle.std.proofs.lemmas.Bool.{lt-ltb}
use Rattle.std.proofs.lemmas.List.Elements.{All-from_recursion, recursion_from_All, All-contains, All-contains_itself}
use Rattle.std.proofs.lemmas.Map.Keys.{IsStrictlyIncreasing-from_sorted}
use Rattle.sky_base.specs.Listing.{Entry, Listing, with_entry, without_entry}
use Rattle.sky_dir.specs.Commands.{Command, Add, Drop, after_all, cookies_given}
use Rattle.sky_dir.specs.Orderly.{AscendsBelow}
use Rattle.sky_dir.proofs.OrderlyLemmas.{all_push, all_without, ascends_push, ascends_without, below_from_ascends}

pub ascends_after : (l : Listing) (cs : List Command) → AscendsBelow l.next_cookie l.entries → AscendsBelow (after_all l cs).next_cookie (after_all l cs).entries
ascends_after l [] h = h
ascends_after l (Add name fileid ∷ cs) h =
    ascends_after (with_entry l name fileid) cs (ascends_push l.next_cookie (l.next_cookie + 1) l.entries (record { cookie = l.next_cookie; name = name; fileid = fileid }) h (omega arith) (omega arith))
ascends_after l (Drop name ∷ cs) h = ascends_after (without_entry l name) cs (ascends_without l.next_cookie name l.entries h)

-- each cookie that is given out is at or above a number that the next cookie is at or above
from_next : (n : ℕ) (l : Listing) (cs : List Command) → n ≤ l.next_cookie → AllByRecursion (λ c. n ≤ c) (cookies_given l cs)
from_next n l [] h = tt
from_next n l (Add name fileid ∷ cs) h = (h, from_next n (with_entry l name fileid) cs (omega arith))
from_next n l (Drop name ∷ cs) h = from_next n (without_entry l name) cs h

pub given_fresh : (l : Listing) (cs : List Command) → All (λ c. l.next_cookie ≤ c) (cookies_given l cs)
given_fresh l cs = All-from_recursion (λ c. l.next_cookie ≤ c) (cookies_given l cs) (from_next l.next_cookie l cs (omega arith))

less_of_above : (n : ℕ) (xs : List ℕ) → AllByRecursion (λ c. n + 1 ≤ c) xs → AllByRecursion (λ c. nat_cmp n c ≡ Less) xs
less_of_above n [] h = tt
less_of_above n (x ∷ xs) h = let lt : n < x = omega (arith, h.0) in (rw (lt-ltb n x lt) refl, less_of_above n xs h.1)

given_sorted : (l : Listing) (cs : List Command) → IsStrictlySortedBy nat_cmp (cookies_given l cs)
unfolding IsStrictlySortedBy
given_sorted l [] = tt
given_sorted l (Add name fileid ∷ cs) =
    (less_of_above l.next_cookie (cookies_given (with_entry l name fileid) cs) (from_next (l.next_cookie + 1) (with_entry l name fileid) cs (omega arith)), given_sorted (with_entry l name fileid) cs)
given_sorted l (Drop name ∷ cs) = given_sorted (without_entry l name) cs

pub given_once : (l : Listing) (cs : List Command) → IsStrictlyIncreasing (cookies_given l cs)
given_once l cs = IsStrictlyIncreasing-from_sorted (cookies_given l cs) (given_sorted l cs)

-- what holds of each entry of the beginning and of each that has a cookie given out holds of each entry of the end
each_after : (P : Entry → Type 0) (l : Listing) (cs : List Command) → AllByRecursion P l.entries → AllByRecursion (λ c. (e : Entry) → e.cookie ≡ c → P e) (cookies_given l cs)
    → AllByRecursion P (after_all l cs).entries
each_after P l [] h new = h
each_after P l (Add name fileid ∷ cs) h new =
    let e : Entry = record { cookie = l.next_cookie; name = name; fileid = fileid } in
    each_after P (with_entry l name fileid) cs (all_push P l.entries e h (new.0 e refl)) new.1
each_after P l (Drop name ∷ cs) h new = each_after P (without_entry l name) cs (all_without P name l.entries h) new

pub origin_of : (l : Listing) (cs : List Command) (e : Entry) → Contains (after_all l cs).entries e → Contains l.entries e ⊎ Contains (cookies_given l cs) e.cookie
origin_of l cs e here =
    let P : Entry → Type 0 = λ (d : Entry). Contains l.entries d ⊎ Contains (cookies_given l cs) d.cookie in
    let given : AllByRecursion (Contains (cookies_given l cs)) (cookies_given l cs) = recursion_from_All (Contains (cookies_given l cs)) (cookies_given l cs) (All-contains_itself (cookies_given l cs)) in
    let there : AllByRecursion (Contains l.entries) l.entries = recursion_from_All (Contains l.entries) l.entries (All-contains_itself l.entries) in
    let each = each_after P l cs (left (cookies_given l cs) l.entries l.entries there) (right l.entries (cookies_given l cs) (cookies_given l cs) given) in
    All-contains P (after_all l cs).entries e (All-from_recursion P (after_all l cs).entries each) here
  where
    left : (given : List ℕ) (all es : List Entry) → AllByRecursion (Contains all) es → AllByRecursion (λ (d : Entry). Contains all d ⊎ Contains given d.cookie) es
    left given all [] h = tt
    left given all (d ∷ es) h = (inl h.0, left given all es h.1)

    right : (all : List Entry) (given cs : List ℕ) → AllByRecursion (Contains given) cs → AllByRecursion (λ c. (d : Entry) → d.cookie ≡ c → Contains all d ⊎ Contains given d.cookie) cs
    right all given [] h = tt
    right all given (c ∷ cs) h = (λ d q. inr (subst (Contains given) (sym q) h.0), right all given cs h.1)

-- ---- one entry a cookie

apart : (x : Entry) (es : List Entry) → AllByRecursion (λ f. x.cookie < f.cookie) es → AllByRecursion (λ d. x.cookie ≡ d.cookie → x ≡ d) es
apart x [] h = tt
apart x (f ∷ es) h = (λ q. absurd (omega (arith, h.0)), apart x es h.1)

both_ways : (x : Entry) (es ds : List Entry) → AllByRecursion (λ f. x.cookie < f.cookie) es → AllByRecursion (λ e. AllByRecursion (λ d. e.cookie ≡ d.cookie → e ≡ d) ds) es
    → AllByRecursion (λ e. AllByRecursion (λ d. e.cookie ≡ d.cookie → e ≡ d) (x ∷ ds)) es
both_ways x [] ds h rest = tt
both_ways x (f ∷ es) ds h rest = ((λ q. absurd (omega (arith, h.0)), rest.0), both_ways x es ds h.1 rest.1)

one_each : (n : ℕ) (es : List Entry) → AscendsBelow n es → AllByRecursion (λ e. AllByRecursion (λ d. e.cookie ≡ d.cookie → e ≡ d) es) es
one_each n [] h = tt
one_each n (x ∷ es) h = ((λ q. refl, apart x es h.0), both_ways x es es h.0 (one_each n es h.2))

pub same_entry : (n : ℕ) (es : List Entry) (e d : Entry) → AscendsBelow n es → Contains es e → Contains es d → e.cookie ≡ d.cookie → e ≡ d
same_entry n es e d h at_e at_d =
    let Q : Entry → Type 0 = λ (x : Entry). AllByRecursion (λ y. x.cookie ≡ y.cookie → x ≡ y) es in
    let P : Entry → Type 0 = λ (y : Entry). e.cookie ≡ y.cookie → e ≡ y in
    let first : Q e = All-contains Q es e (All-from_recursion Q es (one_each n es h)) at_e in
    All-contains P es d (All-from_recursion P es first) at_d

pub same_after : (l : Listing) (cs : List Command) (d e : Entry) → AscendsBelow l.next_cookie l.entries → Contains l.entries d → Contains (after_all l cs).entries e → e.cookie ≡ d.cookie → e ≡ d
same_after l cs d e h at_d at_e q =
    let low : d.cookie < l.next_cookie = All-contains (λ (x : Entry). x.cookie < l.next_cookie) l.entries d (All-from_recursion (λ (x : Entry). x.cookie < l.next_cookie) l.entries (below_from_ascends l.next_cookie l.entries h)) at_d in
    ⊎_elim (λ old. same_entry l.next_cookie l.entries e d h old at_d q)
    (λ new. let high : l.next_cookie ≤ e.cookie = All-contains (λ c. l.next_cookie ≤ c) (cookies_given l cs) e.cookie (given_fresh l cs) new in absurd (omega arith))
    (origin_of l cs e at_e)
