-- Numbers and booleans: what is encoded is read again, and what is read is encoded so.
--   length-uint, length-uhyper, length-bool                 how many bytes a encoding has
--   AreBytes-uint, AreBytes-uhyper, AreBytes-bool           each byte of a encoding is below 256
--   AreBytes-append, AreBytes-take, AreBytes-drop, AreBytes-zeros      bytes put together and taken apart
--   uint_again, uhyper_again, bool_again                    a encoding is read again, whatever follows it
--   uint_took, uhyper_took, bool_took                       what was read is encoded so (Took), and fits its type
--   end_again, end_took                                     the end is where nothing is left
--   Took-then                                               two items, one after the other
--   uint_same, uhyper_same, bool_same                       one encoding stands for one value
--   uint-word, uhyper-double_word                           the encoding of the first bytes' number is those bytes
--   word_fits, double_word_fits                             that number fits its type
--   bind_ok, guard_ok, ok_is, pair_is                       steps of reading that did not fail
use Rattle.std.proofs.Common.{◌≡◌, ℕ, zero, suc, ◌+◌, ◌-◌, replicate, ◌^◌, ◌<◌, ◌≤◌, Bool, true, false, cond, ltb, eqb, List, [], ◌++◌, length, take, drop, Result, Ok, Err, refl, sym, ap, subst, ◌∙◌, append_assoc, arith, inl, inr, lit<}
use Rattle.std.specs.Int.{w32, w64, to_be_bytes}
use Rattle.std.proofs.lemmas.Bool.{cases_lt, eqb-true, ltb-false, le-ltb}
use Rattle.std.proofs.lemmas.List.{nil_from_length, take-append-drop, length-append, length-take, get_or-drop, get_or-take, get_or_past, get_or_append_left, get_or-append_right, get_or-replicate, length-replicate}
use Rattle.std.proofs.lemmas.Nat.{be_bytes_4, be_bytes_8, from_be_bytes-to_be_bytes_4, from_be_bytes-to_be_bytes_8}
use Rattle.byteorder.specs.Endian.{big_number}
use Rattle.sky_xdr.specs.declared.fault.XdrFault.{XdrFault}
use Rattle.sky_xdr.specs.declared.fault.XdrFault.TheVariants.{Short, BadBool, Left}
use Rattle.sky_xdr.specs.Encoding.{AreBytes, uint, uhyper, bool}
use Rattle.sky_xdr.specs.Reading.{◌>>=◌, word, double_word, uint_at, uhyper_at, bool_at, end_at}

pub AreBytes-drop : (n : ℕ) (bytes : List ℕ) → AreBytes bytes → AreBytes (drop n bytes)
AreBytes-drop n bytes h i = rw get_or-drop (h (n + i))

pub AreBytes-take : (n : ℕ) (bytes : List ℕ) → AreBytes bytes → AreBytes (take n bytes)
AreBytes-take n bytes h i =
    elim (cases_lt i n) [
      | inl lt ↦ rw (get_or-take n bytes i 0 lt) (h i)
      | inr le ↦ rw (get_or_past (take n bytes) i 0 (omega (arith, length-take n bytes))) (omega arith)
    ]

pub AreBytes-append : (xs ys : List ℕ) → AreBytes xs → AreBytes ys → AreBytes (xs ++ ys)
AreBytes-append xs ys p q i =
    elim (cases_lt i (length xs)) [
      | inl lt ↦ rw (get_or_append_left xs ys 0 i lt) (p i)
      | inr le ↦ rw (get_or-append_right xs ys (length xs) i 0 refl le) (q (i - length xs))
    ]

pub AreBytes-zeros : (n : ℕ) → AreBytes (replicate n 0)
AreBytes-zeros n i =
    elim (cases_lt i n) [
      | inl lt ↦ rw (get_or-replicate {A = ℕ} n i 0 0 lt) (omega arith)
      | inr le ↦ rw (get_or_past {X = ℕ} (replicate n 0) i 0 (omega (arith, length-replicate {A = ℕ} n 0))) (omega arith)
    ]

-- the value of a step that did not fail
pub bind_ok : {A B : Type 0} (r : Result A XdrFault) (f : A → Result B XdrFault) (y : B) → (r >>= f) ≡ Ok y → (x : A) × (r ≡ Ok x) × (f x ≡ Ok y)
bind_ok (Ok x) f y e = (x, refl, e)
bind_ok (Err d) f y e = absurd cc

-- a test that did not fail
pub guard_ok : {A : Type 0} (b : Bool) (d : XdrFault) (r : Result A XdrFault) (y : A) → cond b (Err d) r ≡ Ok y → (b ≡ false) × (r ≡ Ok y)
guard_ok true d r y e = absurd cc
guard_ok false d r y e = (refl, e)

-- an Ok, at the type of what reading gives
abbrev pub done : {A : Type 0} → A → Result A XdrFault
done x = Ok x

pub ok_is : {A : Type 0} (x y : A) → done x ≡ done y → x ≡ y
ok_is x y e = cc

-- what reading gives is one value and one rest
pub pair_is : {X : Type 0} (x y : X) (a b : List ℕ) (r : Result (X × List ℕ) XdrFault) → r ≡ Ok (x, a) → r ≡ Ok (y, b) → (x ≡ y) × (a ≡ b)
pair_is {X = X} x y a b r p q =
    let e = ok_is (x, a) (y, b) (sym p ∙ q) in
    (ap (λ (t : X × List ℕ). t.0) e, ap (λ (t : X × List ℕ). t.1) e)

-- ---- sizes

pub length-uint : (n : ℕ) → length (uint n) ≡ 4
unfolding uint
length-uint n = refl

pub length-uhyper : (n : ℕ) → length (uhyper n) ≡ 8
unfolding uhyper
length-uhyper n = refl

pub length-bool : (b : Bool) → length (bool b) ≡ 4
length-bool b = length-uint (cond b 1 0)

-- ---- each byte is below 256

pub AreBytes-uint : (n : ℕ) → AreBytes (uint n)
unfolding uint
AreBytes-uint n zero = omega arith
AreBytes-uint n (suc zero) = omega arith
AreBytes-uint n (suc (suc zero)) = omega arith
AreBytes-uint n (suc (suc (suc zero))) = omega arith
AreBytes-uint n (suc (suc (suc (suc i)))) = omega arith

pub AreBytes-uhyper : (n : ℕ) → AreBytes (uhyper n)
unfolding uhyper
AreBytes-uhyper n zero = omega arith
AreBytes-uhyper n (suc zero) = omega arith
AreBytes-uhyper n (suc (suc zero)) = omega arith
AreBytes-uhyper n (suc (suc (suc zero))) = omega arith
AreBytes-uhyper n (suc (suc (suc (suc zero)))) = omega arith
AreBytes-uhyper n (suc (suc (suc (suc (suc zero))))) = omega arith
AreBytes-uhyper n (suc (suc (suc (suc (suc (suc zero)))))) = omega arith
AreBytes-uhyper n (suc (suc (suc (suc (suc (suc (suc zero))))))) = omega arith
AreBytes-uhyper n (suc (suc (suc (suc (suc (suc (suc (suc i)))))))) = omega arith

pub AreBytes-bool : (b : Bool) → AreBytes (bool b)
AreBytes-bool b = AreBytes-uint (cond b 1 0)

-- ---- what was encoded is read again

pub uint_again : (n : ℕ) (rest : List ℕ) → n < 2 ^ 32 → uint_at (uint n ++ rest) ≡ Ok (n, rest)
unfolding uint_at uint word
uint_again n rest lt =
    let long : ltb (length (to_be_bytes w32 n ++ rest)) 4 ≡ false = le-ltb _ _ (omega (arith, length-append (to_be_bytes w32 n) rest)) in
    rw (long, from_be_bytes-to_be_bytes_4 n lt) refl

pub uhyper_again : (n : ℕ) (rest : List ℕ) → n < 2 ^ 64 → uhyper_at (uhyper n ++ rest) ≡ Ok (n, rest)
unfolding uhyper_at uhyper double_word
uhyper_again n rest lt =
    let long : ltb (length (to_be_bytes w64 n ++ rest)) 8 ≡ false = le-ltb _ _ (omega (arith, length-append (to_be_bytes w64 n) rest)) in
    rw (long, from_be_bytes-to_be_bytes_8 n lt) refl

pub bool_again : (b : Bool) (rest : List ℕ) → bool_at (bool b ++ rest) ≡ Ok (b, rest)
unfolding bool_at
bool_again true rest = rw (uint_again 1 rest (lit< tt)) refl
bool_again false rest = rw (uint_again 0 rest (lit< tt)) refl

-- ---- what is read is encoded so

-- what was read from the start: its encoding, the bytes behind it, and that they are bytes
pub record Took (bytes text rest : List ℕ) : Type 0 where
  pub parts : bytes ≡ text ++ rest
  pub rest_fits : AreBytes rest

pub Took-then : (a x b y c : List ℕ) → Took a x b → Took b y c → Took a (x ++ y) c
Took-then a x b y c p q = record { parts = p.parts ∙ ap (λ (t : List ℕ). x ++ t) q.parts ∙ sym (append_assoc x y c); rest_fits = q.rest_fits }

pub uint-word : (bytes : List ℕ) → AreBytes bytes → 4 ≤ length bytes → uint (word bytes) ≡ take 4 bytes
unfolding uint word
uint-word bytes fits long = be_bytes_4 (take 4 bytes) _ (omega (arith, length-take 4 bytes)) (AreBytes-take 4 bytes fits) refl

pub uhyper-double_word : (bytes : List ℕ) → AreBytes bytes → 8 ≤ length bytes → uhyper (double_word bytes) ≡ take 8 bytes
unfolding uhyper double_word
uhyper-double_word bytes fits long = be_bytes_8 (take 8 bytes) _ (omega (arith, length-take 8 bytes)) (AreBytes-take 8 bytes fits) refl

pub word_fits : (bytes : List ℕ) → AreBytes bytes → word bytes < 2 ^ 32
unfolding word
word_fits bytes fits = let f = AreBytes-take 4 bytes fits in omega (arith, f 0, f 1, f 2, f 3)

pub double_word_fits : (bytes : List ℕ) → AreBytes bytes → double_word bytes < 2 ^ 64
unfolding double_word
double_word_fits bytes fits = let f = AreBytes-take 8 bytes fits in omega (arith, f 0, f 1, f 2, f 3, f 4, f 5, f 6, f 7)

pub uint_took : (bytes : List ℕ) (n : ℕ) (rest : List ℕ) → AreBytes bytes → uint_at bytes ≡ Ok (n, rest) → Took bytes (uint n) rest × (n < 2 ^ 32)
unfolding uint_at
uint_took bytes n rest fits e =
    let g = guard_ok (ltb (length bytes) 4) Short (Ok (word bytes, drop 4 bytes)) (n, rest) e in
    let long : 4 ≤ length bytes = ltb-false _ _ g.0 in
    let is = pair_is (word bytes) n (drop 4 bytes) rest (Ok (word bytes, drop 4 bytes)) refl g.1 in
    let prefix : uint n ≡ take 4 bytes = ap uint (sym is.0) ∙ uint-word bytes fits long in
    (record { parts = rw (prefix, ← is.1) (sym (take-append-drop 4 bytes)); rest_fits = rw (← is.1) (AreBytes-drop 4 bytes fits) }, rw (← is.0) (word_fits bytes fits))

pub uhyper_took : (bytes : List ℕ) (n : ℕ) (rest : List ℕ) → AreBytes bytes → uhyper_at bytes ≡ Ok (n, rest) → Took bytes (uhyper n) rest × (n < 2 ^ 64)
unfolding uhyper_at
uhyper_took bytes n rest fits e =
    let g = guard_ok (ltb (length bytes) 8) Short (Ok (double_word bytes, drop 8 bytes)) (n, rest) e in
    let long : 8 ≤ length bytes = ltb-false _ _ g.0 in
    let is = pair_is (double_word bytes) n (drop 8 bytes) rest (Ok (double_word bytes, drop 8 bytes)) refl g.1 in
    let prefix : uhyper n ≡ take 8 bytes = ap uhyper (sym is.0) ∙ uhyper-double_word bytes fits long in
    (record { parts = rw (prefix, ← is.1) (sym (take-append-drop 8 bytes)); rest_fits = rw (← is.1) (AreBytes-drop 8 bytes fits) }, rw (← is.0) (double_word_fits bytes fits))

-- the boolean by whether the number is 0, and whether it is 1
abbrev tested : Bool → Bool → List ℕ → Result (Bool × List ℕ) XdrFault
tested is_zero is_one rest = cond is_zero (Ok (false, rest)) (cond is_one (Ok (true, rest)) (Err BadBool))

-- the boolean that a number stands for, where it stands for one
abbrev bool_of : ℕ × List ℕ → Result (Bool × List ℕ) XdrFault
bool_of n = tested (eqb n.0 0) (eqb n.0 1) n.1

bool_found : (p q : Bool) (n : ℕ) (rest : List ℕ) (b : Bool) (after : List ℕ) → (p ≡ true → n ≡ 0) → (q ≡ true → n ≡ 1)
    → tested p q rest ≡ Ok (b, after) → (n ≡ cond b 1 0) × (rest ≡ after)
bool_found true q n rest b after is_zero is_one e =
    let is = pair_is false b rest after (Ok (false, rest)) refl e in (is_zero refl ∙ ap (λ (c : Bool). cond c 1 0) is.0, is.1)
bool_found false true n rest b after is_zero is_one e =
    let is = pair_is true b rest after (Ok (true, rest)) refl e in (is_one refl ∙ ap (λ (c : Bool). cond c 1 0) is.0, is.1)
bool_found false false n rest b after is_zero is_one e = absurd cc

pub bool_took : (bytes : List ℕ) (b : Bool) (rest : List ℕ) → AreBytes bytes → bool_at bytes ≡ Ok (b, rest) → Took bytes (bool b) rest
unfolding bool_at
bool_took bytes b rest fits e =
    let s = bind_ok (uint_at bytes) bool_of (b, rest) e in
    let is = bool_found (eqb s.0.0 0) (eqb s.0.0 1) s.0.0 s.0.1 b rest (eqb-true _ _) (eqb-true _ _) s.2 in
    let t = uint_took bytes s.0.0 s.0.1 fits s.1 in
    record { parts = t.0.parts ∙ ap (λ (k : ℕ). uint k ++ s.0.1) is.0 ∙ ap (λ (r : List ℕ). bool b ++ r) is.1; rest_fits = subst AreBytes is.1 t.0.rest_fits }

-- ---- the end

pub end_again : end_at [] ≡ Ok tt
unfolding end_at
end_again = refl

abbrev ending : Bool → Result (Unit {0}) XdrFault
ending is_empty = cond is_empty (Ok tt) (Err Left)

ended : (is_empty : Bool) (end : Unit {0}) → ending is_empty ≡ Ok end → is_empty ≡ true
ended true end e = refl
ended false end e = absurd cc

pub end_took : (bytes : List ℕ) (end : Unit {0}) → end_at bytes ≡ Ok end → bytes ≡ []
unfolding end_at
end_took bytes end e = nil_from_length bytes (eqb-true _ _ (ended (eqb (length bytes) 0) end e))

-- ---- one encoding stands for one value

pub uint_same : (m n : ℕ) (x y : List ℕ) → m < 2 ^ 32 → n < 2 ^ 32 → uint m ++ x ≡ uint n ++ y → (m ≡ n) × (x ≡ y)
uint_same m n x y p q e = pair_is m n x y (uint_at (uint m ++ x)) (uint_again m x p) (ap uint_at e ∙ uint_again n y q)

pub uhyper_same : (m n : ℕ) (x y : List ℕ) → m < 2 ^ 64 → n < 2 ^ 64 → uhyper m ++ x ≡ uhyper n ++ y → (m ≡ n) × (x ≡ y)
uhyper_same m n x y p q e = pair_is m n x y (uhyper_at (uhyper m ++ x)) (uhyper_again m x p) (ap uhyper_at e ∙ uhyper_again n y q)

pub bool_same : (a b : Bool) (x y : List ℕ) → bool a ++ x ≡ bool b ++ y → (a ≡ b) × (x ≡ y)
bool_same a b x y e = pair_is a b x y (bool_at (bool a ++ x)) (bool_again a x) (ap bool_at e ∙ bool_again b y)

-- ---- what the code reads, the highest byte first, is the number

pub word-big_number : (bytes prefix : List ℕ) → prefix ≡ take 4 bytes → big_number 4 prefix ≡ word bytes
unfolding word
word-big_number bytes prefix e = rw e (omega arith)

pub double_word-big_number : (bytes prefix : List ℕ) → prefix ≡ take 8 bytes → big_number 8 prefix ≡ double_word bytes
unfolding double_word
double_word-big_number bytes prefix e = rw e (omega arith)

pub uint_prefix : (bytes prefix back : List ℕ) (n : ℕ) → AreBytes bytes → 4 ≤ length bytes → prefix ≡ take 4 bytes → back ≡ drop 4 bytes → n ≡ big_number 4 prefix → bytes ≡ uint n ++ back
uint_prefix bytes prefix back n fits long f b is =
    let number : n ≡ word bytes = is ∙ word-big_number bytes prefix f in
    rw (number, uint-word bytes fits long, b) (sym (take-append-drop 4 bytes))

pub uhyper_prefix : (bytes prefix back : List ℕ) (n : ℕ) → AreBytes bytes → 8 ≤ length bytes → prefix ≡ take 8 bytes → back ≡ drop 8 bytes → n ≡ big_number 8 prefix → bytes ≡ uhyper n ++ back
uhyper_prefix bytes prefix back n fits long f b is =
    let number : n ≡ double_word bytes = is ∙ double_word-big_number bytes prefix f in
    rw (number, uhyper-double_word bytes fits long, b) (sym (take-append-drop 8 bytes))
