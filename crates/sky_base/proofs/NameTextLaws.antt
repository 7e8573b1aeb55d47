-- The text of an object's name is that of no other name.
use Rattle.std.proofs.Common.{◌≡◌, ◌⊎◌, ⊎_elim, ℕ, zero, suc, ◌+◌, ◌*◌, ◌/◌, ◌%◌, ◌^◌, ◌<◌, ◌≤◌, Bool, true, false, nat_eq, List, [], ◌∷◌, ◌++◌, length, take, drop, get_or, refl, append_assoc, sym, ◌∙◌, ap, subst, arith, add-one}
use Rattle.std.proofs.lemmas.List.{append_cancel_left, length-append, drop-set, get_or-append-add}
use Rattle.std.proofs.Math.Seq.{take-append_seam, take-append-add, drop-append-add, get_or-append_seam}
use Rattle.std.proofs.Math.ListN.{get_or-append, set}
use borrow.Rule.Slice.PartMut.{put_mid}
use Rattle.std.proofs.Math.Nat.{pow-suc, pow-le-pow_right}
use Rattle.std.proofs.lemmas.Bool.Decides.{nat_tests}
use Rattle.sky_base.specs.Limits.{max_number}
use Rattle.sky_base.specs.NameText.{hex_digit, hex_digits, IsNumbered, name_text, dir_letter, kind_letter}
use Rattle.sky_base.specs.declared.object.Dir.{Dir}
use Rattle.sky_base.specs.declared.object.Dir.TheVariants.{Proxy, Cleaner}
use Rattle.sky_base.specs.declared.object.SegName.{SegName}

-- a digit is that of one value
pub same_digit : (a b : ℕ) → a < 16 → b < 16 → hex_digit a ≡ hex_digit b → a ≡ b
same_digit a b low high same = grind (arith, nat_tests)

-- so many digits
pub hex_digits-length : (n number : ℕ) → length (hex_digits n number) ≡ n
unfolding hex_digits
hex_digits-length zero number = refl
hex_digits-length (suc n) number =
    omega (arith, length-append (hex_digits n (number / 16)) (hex_digit (number % 16) ∷ []), hex_digits-length n (number / 16))

-- one more digit at the end
hex_digits-next : (n number : ℕ) → hex_digits (suc n) number ≡ hex_digits n (number / 16) ++ hex_digit (number % 16) ∷ []
unfolding hex_digits
hex_digits-next n number = refl

pub hex_digits-more : (n number value : ℕ) → value < 16 → hex_digits (n + 1) (number * 16 + value) ≡ hex_digits n number ++ hex_digit value ∷ []
hex_digits-more n number value small =
    let high : (number * 16 + value) / 16 ≡ number = omega arith in
    let low : (number * 16 + value) % 16 ≡ value = omega arith in
    rw (add-one, hex_digits-next, high, low) refl

-- lists of one length, each with one more element
pub same_ends : (xs ys : List ℕ) (a b : ℕ) → length xs ≡ length ys → xs ++ a ∷ [] ≡ ys ++ b ∷ [] → (xs ≡ ys) × (a ≡ b)
same_ends xs ys a b long same =
    let prefix : xs ≡ ys = sym (take-append_seam xs (a ∷ [])) ∙ ap (take (length xs)) same ∙ ap (λ (n : ℕ). take n (ys ++ b ∷ [])) long ∙ take-append_seam ys (b ∷ []) in
    let ends : ys ++ a ∷ [] ≡ ys ++ b ∷ [] = ap (λ (zs : List ℕ). zs ++ a ∷ []) (sym prefix) ∙ same in
    let last : a ∷ [] ≡ b ∷ [] = append_cancel_left ys (a ∷ []) (b ∷ []) ends in
    (prefix, cc)

-- digits are those of one number that they have room for
pub same_number : (n a b : ℕ) → a < 16 ^ n → b < 16 ^ n → hex_digits n a ≡ hex_digits n b → a ≡ b
unfolding hex_digits
same_number zero a b low high same = omega arith
same_number (suc n) a b low high same =
    let both = same_ends (hex_digits n (a / 16)) (hex_digits n (b / 16)) (hex_digit (a % 16)) (hex_digit (b % 16)) (hex_digits-length n (a / 16) ∙ sym (hex_digits-length n (b / 16))) same in
    let power : 16 ^ suc n ≡ 16 ^ n * 16 = pow-suc 16 n in
    let upper : a / 16 ≡ b / 16 = same_number n (a / 16) (b / 16) (omega arith) (omega arith) both.0 in
    let lower : a % 16 ≡ b % 16 = same_digit (a % 16) (b % 16) (omega arith) (omega arith) both.1 in
    omega arith

-- numbers below the limit have room in 16 digits
pub same_numbered : (a b : ℕ) → a < max_number → b < max_number → hex_digits 16 a ≡ hex_digits 16 b → a ≡ b
same_numbered a b low high same = same_number 16 a b (omega arith) (omega arith) same

exact_letters : (a b : Dir) → dir_letter a ≡ dir_letter b → a ≡ b
exact_letters Proxy Proxy e = refl
exact_letters Proxy Cleaner e = absurd (omega arith)
exact_letters Cleaner Proxy e = absurd (omega arith)
exact_letters Cleaner Cleaner e = refl

exact_kinds : (a b : Bool) → kind_letter a ≡ kind_letter b → a ≡ b
exact_kinds true true e = refl
exact_kinds true false e = absurd (omega arith)
exact_kinds false true e = absurd (omega arith)
exact_kinds false false e = refl

name_of : Dir → ℕ → ℕ → Bool → SegName
name_of dir run seq last = record { dir = dir; run = run; seq = seq; last = last }

name_of-parts : (a : SegName) → name_of a.dir a.run a.seq a.last ≡ a
unfolding name_of
name_of-parts a = refl

-- lists that begin with lists of one length
same_parts : (xs ys zs ws : List ℕ) → length xs ≡ length ys → xs ++ zs ≡ ys ++ ws → (xs ≡ ys) × (zs ≡ ws)
same_parts xs ys zs ws long same =
    let prefix : xs ≡ ys = sym (take-append_seam xs zs) ∙ ap (take (length xs)) same ∙ ap (λ (n : ℕ). take n (ys ++ ws)) long ∙ take-append_seam ys ws in
    (prefix, append_cancel_left ys zs ws (ap (λ (l : List ℕ). l ++ zs) (sym prefix) ∙ same))

-- a text is that of one name
pub same_name : (a b : SegName) → IsNumbered a → IsNumbered b → name_text a ≡ name_text b → a ≡ b
same_name a b of_a of_b same =
    let first : dir_letter a.dir ≡ dir_letter b.dir = cc in
    let behind : hex_digits 16 a.run ++ 47 ∷ (hex_digits 16 a.seq ++ 46 ∷ kind_letter a.last ∷ []) ≡ hex_digits 16 b.run ++ 47 ∷ (hex_digits 16 b.seq ++ 46 ∷ kind_letter b.last ∷ []) = cc in
    let runs = same_parts (hex_digits 16 a.run) (hex_digits 16 b.run) _ _ (hex_digits-length 16 a.run ∙ sym (hex_digits-length 16 b.run)) behind in
    let tail : hex_digits 16 a.seq ++ 46 ∷ kind_letter a.last ∷ [] ≡ hex_digits 16 b.seq ++ 46 ∷ kind_letter b.last ∷ [] = let e = runs.1 in cc in
    let seqs = same_parts (hex_digits 16 a.seq) (hex_digits 16 b.seq) _ _ (hex_digits-length 16 a.seq ∙ sym (hex_digits-length 16 b.seq)) tail in
    let kinds : kind_letter a.last ≡ kind_letter b.last = let e = seqs.1 in cc in
    let dir : a.dir ≡ b.dir = exact_letters a.dir b.dir first in
    let run : a.run ≡ b.run = same_numbered a.run b.run of_a.run of_b.run runs.0 in
    let seq : a.seq ≡ b.seq = same_numbered a.seq b.seq of_a.seq of_b.seq seqs.0 in
    let last : a.last ≡ b.last = exact_kinds a.last b.last kinds in
    let parts : name_of a.dir a.run a.seq a.last ≡ name_of b.dir b.run b.seq b.last = cc in
    sym (name_of-parts a) ∙ parts ∙ name_of-parts b

-- the last digit that isn't there yet is written before those that are
pub digits_step : (k left : ℕ) (digits : List ℕ) → k < length digits
    → hex_digits k (left / 16) ++ drop k (set digits k (hex_digit (left % 16))) ≡ hex_digits (k + 1) left ++ drop (k + 1) digits
digits_step k left digits within =
    let there : drop k (set digits k (hex_digit (left % 16))) ≡ hex_digit (left % 16) ∷ drop (k + 1) digits = drop-set digits k (hex_digit (left % 16)) within in
    let more : hex_digits (k + 1) left ≡ hex_digits k (left / 16) ++ hex_digit (left % 16) ∷ [] = rw add-one (hex_digits-next k left) in
    rw (there, more) (sym (append_assoc (hex_digits k (left / 16)) (hex_digit (left % 16) ∷ []) (drop (k + 1) digits)))

-- no digits
pub hex_digits-none : (number : ℕ) → hex_digits 0 number ≡ []
unfolding hex_digits
hex_digits-none number = refl

-- one more digit fits 64 bits
pub room : (i number : ℕ) → i < 16 → number < 16 ^ i → number * 16 + 16 ≤ 2 ^ 64
room i number within below =
    let next : 16 ^ suc i ≡ 16 ^ i * 16 = pow-suc 16 i in
    let most : 16 ^ suc i ≤ 16 ^ 16 = pow-le-pow_right {n = 16} (omega arith) {i = suc i} {j = 16} (omega arith) in
    omega arith

-- and has room behind the others
pub below_next : (i number value : ℕ) → value < 16 → number < 16 ^ i → number * 16 + value < 16 ^ (i + 1)
below_next i number value small below =
    let next : 16 ^ (i + 1) ≡ 16 ^ i * 16 = rw add-one (pow-suc 16 i) in
    omega arith

-- each of the digits is one
pub is_digit : (n number k : ℕ) → k < n → (value : ℕ) × (value < 16) × (hex_digit value ≡ get_or (hex_digits n number) k 0)
is_digit zero number k within = absurd (omega arith)
is_digit (suc n) number k within =
    let long : length (hex_digits n (number / 16)) ≡ n = hex_digits-length n (number / 16) in
    let next = hex_digits-next n number in
    ⊎_elim
    (λ below. let found = is_digit n (number / 16) k below in
    (found.0, found.1, found.2 ∙ sym (get_or-append (hex_digits n (number / 16)) (hex_digit (number % 16) ∷ []) 0 k (omega arith)) ∙ ap (λ (l : List ℕ). get_or l k 0) (sym next)))
    (λ same. let at : length (hex_digits n (number / 16)) ≡ k = omega arith in
    (number % 16, omega arith, sym (get_or-append_seam (hex_digits n (number / 16)) (hex_digit (number % 16)) [] 0) ∙ ap (λ (i : ℕ). get_or (hex_digits n (number / 16) ++ hex_digit (number % 16) ∷ []) i 0) at ∙ ap (λ (l : List ℕ). get_or l k 0) (sym next)))
    (two k n (omega arith))
  where
    two : (k n : ℕ) → k < suc n → (k < n) ⊎ (k ≡ n)
    two k n within = grind (arith, nat_tests)

-- a list behind one of n elements
take_more : (xs ys : List ℕ) (n m : ℕ) → length xs ≡ n → take (n + m) (xs ++ ys) ≡ xs ++ take m ys
take_more xs ys n m long = subst (λ (k : ℕ). take (k + m) (xs ++ ys) ≡ xs ++ take m ys) long (take-append-add xs ys m)

drop_more : (xs ys : List ℕ) (n m : ℕ) → length xs ≡ n → drop (n + m) (xs ++ ys) ≡ drop m ys
drop_more xs ys n m long = subst (λ (k : ℕ). drop (k + m) (xs ++ ys) ≡ drop m ys) long (drop-append-add xs ys m)

get_more : (xs ys : List ℕ) (n m : ℕ) → length xs ≡ n → get_or (xs ++ ys) (n + m) 0 ≡ get_or ys m 0
get_more xs ys n m long = subst (λ (k : ℕ). get_or (xs ++ ys) (k + m) 0 ≡ get_or ys m 0) long (get_or-append-add xs ys m 0)

take_first : (xs ys : List ℕ) (n : ℕ) → length xs ≡ n → take n (xs ++ ys) ≡ xs
take_first xs ys n long = subst (λ (k : ℕ). take k (xs ++ ys) ≡ xs) long (take-append_seam xs ys)

module _ (name : SegName) where
  -- the text's parts stand at their places
  pub run_at : take 16 (drop 2 (name_text name)) ≡ hex_digits 16 name.run
  run_at = take_first (hex_digits 16 name.run) (47 ∷ (hex_digits 16 name.seq ++ 46 ∷ kind_letter name.last ∷ [])) 16 (hex_digits-length 16 name.run)

  behind_run : drop 19 (name_text name) ≡ hex_digits 16 name.seq ++ 46 ∷ kind_letter name.last ∷ []
  behind_run = drop_more (hex_digits 16 name.run) (47 ∷ (hex_digits 16 name.seq ++ 46 ∷ kind_letter name.last ∷ [])) 16 1 (hex_digits-length 16 name.run)

  pub seq_at : take 16 (drop 19 (name_text name)) ≡ hex_digits 16 name.seq
  seq_at = ap (take 16) behind_run ∙ take_first (hex_digits 16 name.seq) (46 ∷ kind_letter name.last ∷ []) 16 (hex_digits-length 16 name.seq)

  pub kind_at : get_or (name_text name) 36 0 ≡ kind_letter name.last
  kind_at =
      get_more (hex_digits 16 name.run) (47 ∷ (hex_digits 16 name.seq ++ 46 ∷ kind_letter name.last ∷ [])) 16 18 (hex_digits-length 16 name.run)
      ∙ get_more (hex_digits 16 name.seq) (46 ∷ kind_letter name.last ∷ []) 16 1 (hex_digits-length 16 name.seq)

  pub name_text-length : length (name_text name) ≡ 37
  name_text-length =
      omega (
        arith,
        length-append (hex_digits 16 name.run) (47 ∷ (hex_digits 16 name.seq ++ 46 ∷ kind_letter name.last ∷ [])),
        length-append (hex_digits 16 name.seq) (46 ∷ kind_letter name.last ∷ []),
        hex_digits-length 16 name.run,
        hex_digits-length 16 name.seq,
      )

-- the blank text with the letters and the digits of a name in their places
pub filled : (d k : ℕ) (run seq : List ℕ) → length run ≡ 16 → length seq ≡ 16
    → put_mid 19 16 (put_mid 2 16 (d ∷ 47 ∷ 48 ∷ 48 ∷ 48 ∷ 48 ∷ 48 ∷ 48 ∷ 48 ∷ 48 ∷ 48 ∷ 48 ∷ 48 ∷ 48 ∷ 48 ∷ 48 ∷ 48 ∷ 48 ∷ 47 ∷ 48 ∷ 48 ∷ 48 ∷ 48 ∷ 48 ∷ 48 ∷ 48 ∷ 48 ∷ 48 ∷ 48 ∷ 48 ∷ 48 ∷ 48 ∷ 48 ∷ 48 ∷ 48 ∷ 46 ∷ k ∷ []) run) seq
    ≡ d ∷ 47 ∷ (run ++ 47 ∷ (seq ++ 46 ∷ k ∷ []))
filled d k run seq run_long seq_long =
    let rest : List ℕ = 48 ∷ 48 ∷ 48 ∷ 48 ∷ 48 ∷ 48 ∷ 48 ∷ 48 ∷ 48 ∷ 48 ∷ 48 ∷ 48 ∷ 48 ∷ 48 ∷ 48 ∷ 48 ∷ 46 ∷ k ∷ [] in
    let first : take 17 (run ++ 47 ∷ rest) ≡ run ++ 47 ∷ [] = take_more run (47 ∷ rest) 16 1 run_long in
    let behind : drop 17 (run ++ 47 ∷ rest) ≡ rest = drop_more run (47 ∷ rest) 16 1 run_long in
    let one : (d ∷ 47 ∷ take 17 (run ++ 47 ∷ rest)) ++ (seq ++ drop 16 (drop 17 (run ++ 47 ∷ rest))) ≡ (d ∷ 47 ∷ (run ++ 47 ∷ [])) ++ (seq ++ drop 16 rest) =
    ap (λ (xs : List ℕ). (d ∷ 47 ∷ xs) ++ (seq ++ drop 16 (drop 17 (run ++ 47 ∷ rest)))) first ∙ ap (λ (ys : List ℕ). (d ∷ 47 ∷ (run ++ 47 ∷ [])) ++ (seq ++ drop 16 ys)) behind in
    one ∙ ap (λ (xs : List ℕ). d ∷ 47 ∷ xs) (append_assoc run (47 ∷ []) (seq ++ 46 ∷ k ∷ []))

-- the letter of a kind, read back
pub kind_read : (last : Bool) (letter : ℕ) → kind_letter last ≡ letter → nat_eq letter 107 ≡ last
kind_read true letter e = subst (λ (l : ℕ). nat_eq l 107 ≡ true) e refl
kind_read false letter e = subst (λ (l : ℕ). nat_eq l 107 ≡ false) e refl

-- a name with these parts
pub same_fields : (name : SegName) (dir : Dir) (run seq : ℕ) (last : Bool) → name.dir ≡ dir → name.run ≡ run → name.seq ≡ seq → name.last ≡ last
    → record { dir = dir; run = run; seq = seq; last = last } ≡ name
unfolding name_of
same_fields name dir run seq last is_dir is_run is_seq is_last =
    let parts : name_of dir run seq last ≡ name_of name.dir name.run name.seq name.last = cc in parts ∙ name_of-parts name
