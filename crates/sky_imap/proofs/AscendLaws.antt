-- Numbers that ascend, and where one is among them.
use Rattle.std.proofs.Common.{◌≡◌, ◌≢◌, ℕ, zero, suc, ◌+◌, ◌≤◌, ◌<◌, true, false, List, [], ◌∷◌, ◌++◌, length, take, drop, set, get_or, ltb, refl, ap, subst, arith}
use Rattle.std.proofs.lemmas.Bool.{ltb-true, ltb-false}
use Rattle.std.specs.List.Sorted.{IsNonDecreasingBy, IsPartitionPoint}
use Rattle.sky_item.specs.Items.{AscendsWithin}
use Rattle.sky_item.specs.declared.lists.NumberedLink.{NumberedLink}
use Rattle.sky_imap.specs.Links.{Begins, IsPlaceOf, numbers_of}

-- from a lower number on
pub ascends-weaker : (l m b : ℕ) (ns : List ℕ) → l ≤ m → AscendsWithin m b ns → AscendsWithin l b ns
ascends-weaker l m b [] le is = tt
ascends-weaker l m b (n ∷ ns) le is = let first : m ≤ n = is.0 in (omega arith, is.1, is.2)

-- below a higher one
pub ascends-below : (l b c : ℕ) (ns : List ℕ) → b ≤ c → AscendsWithin l b ns → AscendsWithin l c ns
ascends-below l b c [] le is = tt
ascends-below l b c (n ∷ ns) le is = let below : n < b = is.1 in (is.0, omega arith, ascends-below (n + 1) b c ns le is.2)

-- numbers below a bound, and then those from it on
pub ascends-append : (l m b : ℕ) (xs ys : List ℕ) → l ≤ m → m ≤ b → AscendsWithin l m xs → AscendsWithin m b ys → AscendsWithin l b (xs ++ ys)
ascends-append l m b [] ys le lo first second = ascends-weaker l m b ys le second
ascends-append l m b (n ∷ xs) ys le lo first second =
    let below : n < m = first.1 in (first.0, omega arith, ascends-append (n + 1) m b xs ys (omega arith) lo first.2 second)

-- they don't fall
lowest : (l b : ℕ) (xs : List NumberedLink) (j : ℕ) (d : NumberedLink) → AscendsWithin l b (numbers_of xs) → j < length xs → l ≤ (get_or xs j d).number
lowest l b [] j d is lt = absurd (omega arith)
lowest l b (x ∷ xs) zero d is lt = is.0
lowest l b (x ∷ xs) (suc j) d is lt =
    let first : l ≤ x.number = is.0 in let rest : x.number + 1 ≤ (get_or xs j d).number = lowest (x.number + 1) b xs j d is.2 (omega arith) in omega arith

never_falls : (l b : ℕ) (xs : List NumberedLink) (i j : ℕ) (d : NumberedLink) → AscendsWithin l b (numbers_of xs) → i ≤ j → j < length xs → (get_or xs i d).number ≤ (get_or xs j d).number
never_falls l b [] i j d is le lt = absurd (omega arith)
never_falls l b (x ∷ xs) zero zero d is le lt = omega arith
never_falls l b (x ∷ xs) zero (suc j) d is le lt = let rest : x.number + 1 ≤ (get_or xs j d).number = lowest (x.number + 1) b xs j d is.2 (omega arith) in omega arith
never_falls l b (x ∷ xs) (suc i) zero d is le lt = absurd (omega arith)
never_falls l b (x ∷ xs) (suc i) (suc j) d is le lt = never_falls (x.number + 1) b xs i j d is.2 (omega arith) (omega arith)

pub rises : (l b : ℕ) (xs : List NumberedLink) → AscendsWithin l b (numbers_of xs) → IsNonDecreasingBy (λ n. n.number) xs
rises l b xs is i j d le lt = never_falls l b xs i j d is le lt

-- where numbers are parted, both parts ascend
parted : (l b number : ℕ) (xs : List NumberedLink) (i : ℕ) → AscendsWithin l b (numbers_of xs) → i ≤ length xs
    → ((k : ℕ) (d : NumberedLink) → k < i → (get_or xs k d).number < number) → ((k : ℕ) (d : NumberedLink) → i ≤ k → k < length xs → number ≤ (get_or xs k d).number)
    → AscendsWithin l number (numbers_of (take i xs)) × AscendsWithin number b (numbers_of (drop i xs))
parted l b number [] zero is within low high = (tt, tt)
parted l b number [] (suc i) is within low high = (tt, tt)
parted l b number (x ∷ xs) zero is within low high = (tt, (high 0 x (omega arith) (omega arith), is.1, is.2))
parted l b number (x ∷ xs) (suc i) is within low high =
    let rest = parted (x.number + 1) b number xs i is.2 (omega arith) (λ k d lt. low (suc k) d (omega arith)) (λ k d le lt. high (suc k) d (omega arith) (omega arith)) in
    ((is.0, low 0 x (omega arith), rest.0), rest.1)

pub place_is : (l b number : ℕ) (xs : List NumberedLink) (i : ℕ) → AscendsWithin l b (numbers_of xs) → i ≤ length xs
    → IsPartitionPoint (λ (n : NumberedLink). ltb n.number number ≡ true) (λ (n : NumberedLink). ltb n.number number ≡ false) xs i → IsPlaceOf number l b xs i
place_is l b number xs i is within point =
    let both = parted l b number xs i is within (λ k d lt. ltb-true (get_or xs k d).number number (point.0 k d (omega arith) lt)) (λ k d le lt. ltb-false (get_or xs k d).number number (point.1 k d le lt)) in
    record { within = within; before = both.0; behind = both.1 }

-- what stands at a place begins what is left from there on
abbrev pub put_first : NumberedLink → List NumberedLink → List NumberedLink
put_first y [] = []
put_first y (x ∷ xs) = y ∷ xs

abbrev pub rest_of : List NumberedLink → List NumberedLink
rest_of [] = []
rest_of (x ∷ xs) = xs

pub set_at : (xs : List NumberedLink) (i : ℕ) (y : NumberedLink) → set xs i y ≡ take i xs ++ put_first y (drop i xs)
set_at [] zero y = refl
set_at [] (suc i) y = refl
set_at (x ∷ xs) zero y = refl
set_at (x ∷ xs) (suc i) y = ap (λ (l : List NumberedLink). x ∷ l) (set_at xs i y)

pub rest_at : (xs : List NumberedLink) (i : ℕ) → drop (suc i) xs ≡ rest_of (drop i xs)
rest_at [] zero = refl
rest_at [] (suc i) = refl
rest_at (x ∷ xs) zero = refl
rest_at (x ∷ xs) (suc i) = rest_at xs i

pub first_at : (xs : List NumberedLink) (i : ℕ) (number : ℕ) (d : NumberedLink) → Begins number (drop i xs) → drop i xs ≡ get_or xs i d ∷ rest_of (drop i xs)
first_at [] zero number d begins = absurd begins
first_at [] (suc i) number d begins = absurd begins
first_at (x ∷ xs) zero number d begins = refl
first_at (x ∷ xs) (suc i) number d begins = first_at xs i number d begins

-- behind a number, or where it isn't, all are higher
pub higher : (number b : ℕ) (xs : List NumberedLink) → Begins number xs → AscendsWithin number b (numbers_of xs) → AscendsWithin (number + 1) b (numbers_of (rest_of xs))
higher number b [] begins is = tt
higher number b (x ∷ xs) begins is = subst (λ (n : ℕ). AscendsWithin (n + 1) b (numbers_of xs)) begins is.2

pub all_higher : (number b : ℕ) (xs : List NumberedLink) → ¬ (Begins number xs) → AscendsWithin number b (numbers_of xs) → AscendsWithin (number + 1) b (numbers_of xs)
all_higher number b [] differs is = tt
all_higher number b (x ∷ xs) differs is =
    let least : number ≤ x.number = is.0 in let other : x.number ≢ number = differs in (omega arith, is.1, is.2)

-- a list that ascends from a number on isn't longer than the numbers from there to the bound
pub length-ascends : (l b : ℕ) (ns : List ℕ) → l ≤ b → AscendsWithin l b ns → length ns + l ≤ b
length-ascends l b [] le is = omega arith
length-ascends l b (n ∷ ns) le is = let first : l ≤ n = is.0 in let below : n < b = is.1 in let rest : length ns + (n + 1) ≤ b = length-ascends (n + 1) b ns (omega arith) is.2 in omega arith
