-- Readers and encodings: what is encoded is read again, and what is read is encoded so.
--   Reads                      both of these hold of the values with Is
--   uint_reads, uhyper_reads, ushort_reads, raw_reads      numbers within limits, and so many bytes
--   Chain                      the same of fields one behind the other, where some of the value is known already
--   then_reads, done_reads, by_reads    a field and those behind it; the end; the same seen otherwise
--   each_reads                 many values, one behind the other
use Rattle.std.proofs.Common.{◌≡◌, ℕ, zero, suc, ◌^◌, ◌<◌, ◌≤◌, Bool, true, false, cond, ltb, leb, List, [], ◌∷◌, ◌++◌, length, take, drop, Result, Ok, Err, refl, sym, ap, subst, ◌∙◌, append_assoc, arith}
use Rattle.std.specs.List.{flat_map}
use Rattle.std.specs.Int.{w16, to_be_bytes}
use Rattle.std.proofs.lemmas.Bool.{ltb-false, le-ltb, and_from, and_parts, le-leb, leb-true}
use Rattle.std.proofs.lemmas.Nat.{be_bytes_2, from_be_bytes-to_be_bytes_2}
use Rattle.std.proofs.lemmas.List.{take_at, drop_at, take-append-drop, length-append, length-take}
use Rattle.sky_xdr.specs.declared.fault.XdrFault.{XdrFault}
use Rattle.sky_xdr.specs.Encoding.{AreBytes, uint, uhyper}
use Rattle.sky_xdr.specs.Reading.{uint_at, uhyper_at}
use Rattle.sky_xdr.proofs.Numbers.{uint_again, uhyper_again, uint_took, uhyper_took, AreBytes-take, AreBytes-drop}
use Rattle.sky_item.specs.Encoding.{ushort}
use Rattle.sky_item.specs.Reading.{Reader, refused, behind, bind, give, is_within, judged, uint_within, uhyper_within, raw_at, half_word, ushort_up_to, each_at}
use Rattle.sky_item.proofs.Each.{ok_pair, each_none, each_split, first_gives}

-- a value was read from the start of bytes, and these are left
pub record Read {A : Type 0} (enc : A → List ℕ) (Is : A → Type 0) (bytes : List ℕ) (x : A) (rest : List ℕ) : Type 0 where
  pub is : Is x
  pub parts : bytes ≡ enc x ++ rest
  pub fits : AreBytes rest

pub record Reads {A : Type 0} (p : Reader A) (enc : A → List ℕ) (Is : A → Type 0) : Type 0 where
  pub again : (x : A) (rest : List ℕ) → Is x → p (enc x ++ rest) ≡ Ok (x, rest)
  pub sound : (bytes : List ℕ) (x : A) (rest : List ℕ) → AreBytes bytes → p bytes ≡ Ok (x, rest) → Read enc Is bytes x rest

-- ---- numbers

-- a number within limits
pub record Within (least most n : ℕ) : Type 0 where
  pub low : least ≤ n
  pub high : n ≤ most

within_true : (least most n : ℕ) → Within least most n → is_within least most n ≡ true
within_true least most n w = and_from _ _ (le-leb _ _ w.low) (le-leb _ _ w.high)

within_is : (least most n : ℕ) → is_within least most n ≡ true → Within least most n
within_is least most n e = let b = and_parts (leb least n) (leb n most) e in record { low = leb-true _ _ b.0; high = leb-true _ _ b.1 }

-- the number that was read, if a test holds
abbrev chosen : Bool → ℕ → List ℕ → List ℕ → Result (ℕ × List ℕ) ℕ
chosen b m more bytes = cond b (Ok (m, more)) (refused bytes)

-- a number that was judged
record Judged (least most : ℕ) (r : Result (ℕ × List ℕ) XdrFault) (n : ℕ) (rest : List ℕ) : Type 0 where
  read : r ≡ Ok (n, rest)
  within : Within least most n

judged_choice : (least most : ℕ) (bytes : List ℕ) (m : ℕ) (more : List ℕ) (b : Bool) (n : ℕ) (rest : List ℕ) → is_within least most m ≡ b
    → chosen b m more bytes ≡ Ok (n, rest) → Judged least most (Ok (m, more)) n rest
judged_choice least most bytes m more true n rest test e =
    let same = ok_pair m n more rest (Ok (m, more)) refl e in
    record { read = ap (λ (k : ℕ). Ok (k, more)) same.0 ∙ ap (λ (t : List ℕ). Ok (n, t)) same.1; within = subst (Within least most) same.0 (within_is least most m test) }
judged_choice least most bytes m more false n rest test e = absurd cc

judged_sound : (least most : ℕ) (bytes : List ℕ) (r : Result (ℕ × List ℕ) XdrFault) (n : ℕ) (rest : List ℕ) → judged least most bytes r ≡ Ok (n, rest) → Judged least most r n rest
judged_sound least most bytes (Ok (m, more)) n rest e = judged_choice least most bytes m more (is_within least most m) n rest refl e
judged_sound least most bytes (Err fault) n rest e = absurd cc

judged_again : (least most n : ℕ) (bytes rest : List ℕ) → Within least most n → judged least most bytes (Ok (n, rest)) ≡ Ok (n, rest)
judged_again least most n bytes rest w = ap (λ (b : Bool). chosen b n rest bytes) (within_true least most n w)

pub uint_reads : (least most : ℕ) → most < 2 ^ 32 → Reads (uint_within least most) uint (Within least most)
unfolding uint_within
uint_reads least most small = record {
  again = λ n rest w. ap (judged least most (uint n ++ rest)) (uint_again n rest (omega (arith, w.high))) ∙ judged_again least most n (uint n ++ rest) rest w;
  sound = λ bytes n rest fits e.
      let j = judged_sound least most bytes (uint_at bytes) n rest e in
      let t = uint_took bytes n rest fits j.read in
      record { is = j.within; parts = t.0.parts; fits = t.0.rest_fits };
}

pub uhyper_reads : (least most : ℕ) → most < 2 ^ 64 → Reads (uhyper_within least most) uhyper (Within least most)
unfolding uhyper_within
uhyper_reads least most small = record {
  again = λ n rest w. ap (judged least most (uhyper n ++ rest)) (uhyper_again n rest (omega (arith, w.high))) ∙ judged_again least most n (uhyper n ++ rest) rest w;
  sound = λ bytes n rest fits e.
      let j = judged_sound least most bytes (uhyper_at bytes) n rest e in
      let t = uhyper_took bytes n rest fits j.read in
      record { is = j.within; parts = t.0.parts; fits = t.0.rest_fits };
}

-- ---- bytes

-- where a test chose what was read
unless : {X : Type 0} (b : Bool) (d : ℕ) (r : Result X ℕ) (y : X) → cond b (Err d) r ≡ Ok y → (b ≡ false) × (r ≡ Ok y)
unless true d r y e = absurd cc
unless false d r y e = (refl, e)

pub raw_reads : (n : ℕ) → Reads (raw_at n) (λ v. v) (λ v. length v ≡ n)
unfolding raw_at
raw_reads n = record {
  again = λ v rest is.
      let long : ltb (length (v ++ rest)) n ≡ false = le-ltb _ _ (omega (arith, length-append v rest)) in
      rw (long, take_at v rest n is, drop_at v rest n is) refl;
  sound = λ bytes v rest fits e.
      let t = unless (ltb (length bytes) n) (length bytes) (Ok (take n bytes, drop n bytes)) (v, rest) e in
      let same = ok_pair (take n bytes) v (drop n bytes) rest (Ok (take n bytes, drop n bytes)) refl t.1 in
      let long : n ≤ length bytes = ltb-false _ _ t.0 in
      record {
        is = omega (arith, ap length same.0, length-take n bytes);
        parts = sym (take-append-drop n bytes) ∙ ap (λ (a : List ℕ). a ++ drop n bytes) same.0 ∙ ap (λ (b : List ℕ). v ++ b) same.1;
        fits = subst AreBytes same.1 (AreBytes-drop n bytes fits);
      };
}

-- ---- chains

-- reads the values with T, of which E says what is known already
pub record Chain {B : Type 0} (q : Reader B) (enc : B → List ℕ) (T : B → Type 0) (E : B → Type 0) : Type 0 where
  pub again : (b : B) (rest : List ℕ) → T b → E b → q (enc b ++ rest) ≡ Ok (b, rest)
  pub sound : (bytes : List ℕ) (b : B) (rest : List ℕ) → AreBytes bytes → q bytes ≡ Ok (b, rest) → Read enc (λ y. T y × E y) bytes b rest

-- what a bind read
pub record Bound {A B : Type 0} (p : Reader A) (k : A → Reader B) (bytes : List ℕ) (y : B) (rest : List ℕ) : Type 0 where
  pub x : A
  pub mid : List ℕ
  pub first : p bytes ≡ Ok (x, mid)
  pub second : k x mid ≡ Ok (y, rest)

pub bound_by : {A B : Type 0} (p : Reader A) (k : A → Reader B) (bytes : List ℕ) (y : B) (rest : List ℕ) (r : Result (A × List ℕ) ℕ) → p bytes ≡ r → behind k r ≡ Ok (y, rest) → Bound p k bytes y rest
bound_by p k bytes y rest (Ok (x, mid)) first e = record { x = x; mid = mid; first = first; second = e }
bound_by p k bytes y rest (Err left) first e = absurd cc

bind_split : {A B : Type 0} (p : Reader A) (k : A → Reader B) (bytes : List ℕ) (y : B) (rest : List ℕ) → bind p k bytes ≡ Ok (y, rest) → Bound p k bytes y rest
unfolding bind
bind_split p k bytes y rest e = bound_by p k bytes y rest (p bytes) refl e

bind_again : {A B : Type 0} (p : Reader A) (k : A → Reader B) (bytes mid : List ℕ) (x : A) (r : Result (B × List ℕ) ℕ) → p bytes ≡ Ok (x, mid) → k x mid ≡ r → bind p k bytes ≡ r
unfolding bind
bind_again p k bytes mid x r first second = ap (behind k) first ∙ second

-- a field, which is f of the value, and those behind it
pub then_reads : {A B : Type 0} {p : Reader A} {encA : A → List ℕ} {IsA : A → Type 0} (f : B → A) (k : A → Reader B) (encB : B → List ℕ) (T E : B → Type 0)
    → Reads p encA IsA → ((a : A) → IsA a → Chain (k a) encB T (λ b. E b × (f b ≡ a))) → Chain (bind p k) (λ b. encA (f b) ++ encB b) (λ b. IsA (f b) × T b) E
then_reads {A = A} {p = p} {encA = encA} {IsA = IsA} f k encB T E reads others = record {
  again = λ b rest t e.
      subst (λ (bytes : List ℕ). bind p k bytes ≡ Ok (b, rest)) (sym (append_assoc (encA (f b)) (encB b) rest))
      (bind_again p k _ (encB b ++ rest) (f b) (Ok (b, rest)) (reads.again (f b) (encB b ++ rest) t.0) ((others (f b) t.0).again b rest t.1 (e, refl)));
  sound = λ bytes b rest fits e.
      let s = bind_split p k bytes b rest e in
      let first = reads.sound bytes s.x s.mid fits s.first in
      let second = (others s.x first.is).sound s.mid b rest first.fits s.second in
      let here = second.is.1.1 in
      record {
        is = ((subst IsA (sym here) first.is, second.is.0), second.is.1.0);
        parts = first.parts ∙ ap (λ (t : List ℕ). encA s.x ++ t) second.parts ∙ ap (λ (a : A). encA a ++ (encB b ++ rest)) (sym here) ∙ sym (append_assoc (encA (f b)) (encB b) rest);
        fits = second.fits;
      };
}

-- behind the last field, where the value is known
pub done_reads : {B : Type 0} (b0 : B) (E : B → Type 0) → ((b : B) → E b → b ≡ b0) → E b0 → Chain (give b0) (λ _. []) (λ _. Unit {0}) E
unfolding give
done_reads {B = B} b0 E known holds = record {
  again = λ b rest t e. ap (λ (y : B). Ok (y, rest)) (sym (known b e));
  sound = λ bytes b rest fits e.
      let same = ok_pair b0 b bytes rest (Ok (b0, bytes)) refl e in
      record { is = (tt, subst E same.0 holds); parts = same.1; fits = subst AreBytes same.1 fits };
}

-- the same, seen otherwise
pub by_chain : {B : Type 0} {q : Reader B} {enc : B → List ℕ} {T E : B → Type 0} (T2 : B → Type 0)
    → ((b : B) → E b → T2 b → T b) → ((b : B) → E b → T b → T2 b) → Chain q enc T E → Chain q enc T2 E
by_chain T2 to from chain = record {
  again = λ b rest t e. chain.again b rest (to b e t) e;
  sound = λ bytes b rest fits e. let r = chain.sound bytes b rest fits e in record { is = (from b r.is.1 r.is.0, r.is.1); parts = r.parts; fits = r.fits };
}

-- nothing is known of a value
abbrev pub Any : {B : Type 0} → B → Type 0
Any b = Unit {0}

pub by_reads : {B : Type 0} {q : Reader B} {enc : B → List ℕ} {T : B → Type 0} (enc2 : B → List ℕ) (Is : B → Type 0)
    → ((b : B) → enc b ≡ enc2 b) → ((b : B) → Is b → T b) → ((b : B) → T b → Is b) → Chain q enc T Any → Reads q enc2 Is
by_reads {q = q} enc2 Is written to from chain = record {
  again = λ b rest is. subst (λ (t : List ℕ). q (t ++ rest) ≡ Ok (b, rest)) (written b) (chain.again b rest (to b is) tt);
  sound = λ bytes b rest fits e.
      let r = chain.sound bytes b rest fits e in
      record { is = from b r.is.0; parts = r.parts ∙ ap (λ (t : List ℕ). t ++ rest) (written b); fits = r.fits };
}

-- the same, where what is known of a value is a part of what it must be
pub as_reads : {B : Type 0} {q : Reader B} {enc : B → List ℕ} {T E : B → Type 0} (enc2 : B → List ℕ) (Is : B → Type 0)
    → ((b : B) → E b → enc b ≡ enc2 b) → ((b : B) → Is b → T b × E b) → ((b : B) → T b → E b → Is b) → Chain q enc T E → Reads q enc2 Is
as_reads {q = q} enc2 Is written to from chain = record {
  again = λ b rest is. let both = to b is in subst (λ (t : List ℕ). q (t ++ rest) ≡ Ok (b, rest)) (written b both.1) (chain.again b rest both.0 both.1);
  sound = λ bytes b rest fits e.
      let r = chain.sound bytes b rest fits e in
      record { is = from b r.is.0 r.is.1; parts = r.parts ∙ ap (λ (t : List ℕ). t ++ rest) (written b r.is.1); fits = r.fits };
}

-- the same with another encoding
pub written_chain : {B : Type 0} {q : Reader B} {enc : B → List ℕ} {T E : B → Type 0} (enc2 : B → List ℕ)
    → ((b : B) → E b → enc b ≡ enc2 b) → Chain q enc T E → Chain q enc2 T E
written_chain {q = q} enc2 written chain = record {
  again = λ b rest t e. subst (λ (x : List ℕ). q (x ++ rest) ≡ Ok (b, rest)) (written b e) (chain.again b rest t e);
  sound = λ bytes b rest fits e.
      let r = chain.sound bytes b rest fits e in
      record { is = r.is; parts = r.parts ∙ ap (λ (t : List ℕ). t ++ rest) (written b r.is.1); fits = r.fits };
}

-- what reads values, as the last of a chain
pub last_reads : {B C : Type 0} {q : Reader C} {enc : C → List ℕ} {Is : C → Type 0} (f : B → C) (g : C → B) (E : B → Type 0)
    → Reads q enc Is → ((b : B) (c : C) → E b → f b ≡ c → b ≡ g c) → ((c : C) → Is c → E (g c)) → ((c : C) → f (g c) ≡ c)
    → Chain (bind q (λ c. give (g c))) (λ b. enc (f b) ++ []) (λ b. Is (f b) × Unit {0}) E
last_reads f g E reads known holds back =
    then_reads f (λ c. give (g c)) (λ _. []) (λ _. Unit {0}) E reads (λ c is. done_reads (g c) (λ b. E b × (f b ≡ c)) (λ b e. known b c e.0 e.1) (holds c is, back c))

-- ---- two bytes

short_choice : (most : ℕ) (bytes : List ℕ) (m : ℕ) (more : List ℕ) (b : Bool) (n : ℕ) (rest : List ℕ) → leb m most ≡ b
    → chosen b m more bytes ≡ Ok (n, rest) → ((m ≡ n) × (more ≡ rest)) × (n ≤ most)
short_choice most bytes m more true n rest test e =
    let same = ok_pair m n more rest (Ok (m, more)) refl e in
    (same, subst (λ (k : ℕ). k ≤ most) same.0 (leb-true _ _ test))
short_choice most bytes m more false n rest test e = absurd cc

pub ushort_reads : (most : ℕ) → most < 2 ^ 16 → Reads (ushort_up_to most) ushort (λ n. n ≤ most)
unfolding ushort_up_to ushort half_word
ushort_reads most small = record {
  again = λ n rest is.
      let long : ltb (length (to_be_bytes w16 n ++ rest)) 2 ≡ false = le-ltb _ _ (omega (arith, length-append (to_be_bytes w16 n) rest)) in
      let le : leb n most ≡ true = le-leb _ _ is in
      rw (long, from_be_bytes-to_be_bytes_2 n (omega (arith, is)), le) refl;
  sound = λ bytes n rest fits e.
      let t = unless (ltb (length bytes) 2) (length bytes) (chosen (leb (half_word (take 2 bytes)) most) (half_word (take 2 bytes)) (drop 2 bytes) bytes) (n, rest) e in
      let s = short_choice most bytes (half_word (take 2 bytes)) (drop 2 bytes) (leb (half_word (take 2 bytes)) most) n rest refl t.1 in
      let long : 2 ≤ length bytes = ltb-false _ _ t.0 in
      let first : to_be_bytes w16 n ≡ take 2 bytes = be_bytes_2 (take 2 bytes) n (omega (arith, length-take 2 bytes)) (AreBytes-take 2 bytes fits) (sym s.0.0) in
      record {
        is = s.1;
        parts = sym (take-append-drop 2 bytes) ∙ ap (λ (a : List ℕ). a ++ drop 2 bytes) (sym first) ∙ ap (λ (b : List ℕ). to_be_bytes w16 n ++ b) s.0.1;
        fits = subst AreBytes s.0.1 (AreBytes-drop 2 bytes fits);
      };
}

-- ---- many values

-- each value is as it must be where it is read
abbrev pub EachIs : {S A : Type 0} → (S → A → Type 0) → (S → A → S) → S → List A → Type 0
EachIs Is next s [] = Unit {0}
EachIs Is next s (x ∷ xs) = Is s x × EachIs Is next (next s x) xs

pub record AreEach {S A : Type 0} (Is : S → A → Type 0) (next : S → A → S) (n : ℕ) (s : S) (xs : List A) : Type 0 where
  pub count : length xs ≡ n
  pub each : EachIs Is next s xs

each_again : {S A : Type 0} (p : S → Reader A) (enc : A → List ℕ) (Is : S → A → Type 0) (next : S → A → S) → ((s : S) → Reads (p s) enc (Is s))
    → (n : ℕ) (s : S) (xs : List A) (rest : List ℕ) → length xs ≡ n → EachIs Is next s xs → each_at p next n s (flat_map enc xs ++ rest) ≡ Ok (xs, rest)
each_again p enc Is next reads zero s [] rest count each = each_none p next s rest
each_again p enc Is next reads zero s (x ∷ xs) rest count each = absurd (omega arith)
each_again p enc Is next reads (suc n) s [] rest count each = absurd (omega arith)
each_again p enc Is next reads (suc n) s (x ∷ xs) rest count each =
    subst (λ (t : List ℕ). each_at p next (suc n) s t ≡ Ok (x ∷ xs, rest)) (sym (append_assoc (enc x) (flat_map enc xs) rest))
    (first_gives p next n s (enc x ++ (flat_map enc xs ++ rest)) x (flat_map enc xs ++ rest) (Ok (xs, rest)) ((reads s).again x (flat_map enc xs ++ rest) each.0)
    (each_again p enc Is next reads n (next s x) xs rest (omega arith) each.1))

each_sound : {S A : Type 0} (p : S → Reader A) (enc : A → List ℕ) (Is : S → A → Type 0) (next : S → A → S) → ((s : S) → Reads (p s) enc (Is s))
    → (n : ℕ) (s : S) (bytes : List ℕ) (xs : List A) (rest : List ℕ) → AreBytes bytes → each_at p next n s bytes ≡ Ok (xs, rest) → Read (flat_map enc) (AreEach Is next n s) bytes xs rest
each_sound {A = A} p enc Is next reads zero s bytes xs rest fits e =
    let none : List A = [] in
    let same = ok_pair none xs bytes rest (each_at p next 0 s bytes) (each_none p next s bytes) e in
    subst (λ (ys : List A). Read (flat_map enc) (AreEach Is next 0 s) bytes ys rest) same.0
    (record { is = record { count = refl; each = tt }; parts = same.1; fits = subst AreBytes same.1 fits })
each_sound {A = A} p enc Is next reads (suc n) s bytes xs rest fits e =
    let t = each_split p next n s bytes xs rest e in
    let first = (reads s).sound bytes t.x t.mid fits t.first in
    let others = each_sound p enc Is next reads n (next s t.x) t.mid t.others rest first.fits t.behind in
    subst (λ (ys : List A). Read (flat_map enc) (AreEach Is next (suc n) s) bytes ys rest) t.is
    (record {
      is = record { count = ap suc others.is.count; each = (first.is, others.is.each) };
      parts = first.parts ∙ ap (λ (r : List ℕ). enc t.x ++ r) others.parts ∙ sym (append_assoc (enc t.x) (flat_map enc t.others) rest);
      fits = others.fits;
    })

pub each_reads : {S A : Type 0} (p : S → Reader A) (enc : A → List ℕ) (Is : S → A → Type 0) (next : S → A → S) → ((s : S) → Reads (p s) enc (Is s))
    → (n : ℕ) (s : S) → Reads (each_at p next n s) (flat_map enc) (AreEach Is next n s)
each_reads p enc Is next reads n s = record {
  again = λ xs rest is. each_again p enc Is next reads n s xs rest is.count is.each;
  sound = λ bytes xs rest fits e. each_sound p enc Is next reads n s bytes xs rest fits e;
}
