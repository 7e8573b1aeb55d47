-- Grammars that are put together from parts: what is of the grammar is read, and what is read is of the grammar.
--   Reads                                  a reading function reads a part: both of these hold
--   uint_reads, uhyper_reads, bool_reads, fixed_reads, opaque_reads, optional_reads        the parts of XDR
--   Again                                  bytes are read as this value, whatever follows them
--   then_again, last_again, alone_again    a part and what stands behind it; the last part; a part alone
--   Sound                                  what is read is of a grammar
--   then_sound, last_sound, give_sound, refuse_sound      the same steps
--   case_sound, alone_sound                behind a number: a choice by it, and a value of no more bytes
--   in_then                                bytes of a P and then bytes of a Q
--   LongAs                                 bytes of a part are as long as the written ones; long_then, long_3 .. long_6 of parts put together
--   in_3 .. in_6                           the same of three parts and more, put together from the left
use Rattle.std.proofs.Common.{◌≡◌, ℕ, ◌+◌, ◌^◌, ◌<◌, Bool, true, false, cond, eqb, Option, Some, None, List, [], ◌++◌, length, Result, Ok, refl, sym, ap, subst, ◌∙◌, append_assoc, arith}
use Rattle.std.proofs.lemmas.Bool.{eqb-true}
use Rattle.std.proofs.lemmas.List.{append-nil, length-append}
use Rattle.sky_xdr.specs.declared.fault.XdrFault.{XdrFault}
use Rattle.sky_xdr.specs.Encoding.{AreBytes, uint, uhyper, bool, fixed, opaque}
use Rattle.sky_xdr.specs.Reading.{bind, uint_at, uhyper_at, bool_at, fixed_at, opaque_at}
use Rattle.sky_xdr.specs.Grammar.{◌and_then◌, IsUint, IsUhyper, IsBool, IsFixedOf, IsOpaqueWithin, IsOptional}
use Rattle.sky_xdr.specs.GrammarReading.{give, refuse, optional_at}
use Rattle.sky_xdr.proofs.Numbers.{bind_ok, pair_is, uint_again, uhyper_again, bool_again, uint_took, uhyper_took, bool_took, AreBytes-drop}
use Rattle.sky_xdr.proofs.Opaques.{accepted_again, opaque_took, length-opaque, length-IsOpaque}
use Rattle.sky_xdr.proofs.FixedData.{fixed_accepted, fixed_took, length-fixed, length-IsFixed}

-- bytes begin with a P, and then there is the rest
pub record Begins (P : List ℕ → Type 0) (bytes rest : List ℕ) : Type 0 where
  pub prefix : List ℕ
  pub is : P prefix
  pub parts : bytes ≡ prefix ++ rest
  pub rest_fits : AreBytes rest

-- bytes of a P, and then bytes of a Q
pub in_then : {P Q : List ℕ → Type 0} (x y : List ℕ) → P x → Q y → (P and_then Q) (x ++ y)
in_then x y p q = record { first = x; second = y; parts = refl; is_first = p; is_second = q }

-- these bytes are read as this value, whatever follows them
pub record Again {A : Type 0} (at : List ℕ → Result (A × List ℕ) XdrFault) (value : A) (bytes : List ℕ) : Type 0 where
  pub read : (rest : List ℕ) → at (bytes ++ rest) ≡ Ok (value, rest)

-- what is read is of the grammar
pub record Sound {A : Type 0} (at : List ℕ → Result (A × List ℕ) XdrFault) (Is : A → List ℕ → Type 0) : Type 0 where
  pub begins : (bytes : List ℕ) (value : A) (rest : List ℕ) → AreBytes bytes → at bytes ≡ Ok (value, rest) → Begins (Is value) bytes rest

-- a reading function reads a part
pub record Reads {A : Type 0} (at : List ℕ → Result (A × List ℕ) XdrFault) (Is : A → List ℕ → Type 0) : Type 0 where
  pub again : (value : A) (bytes : List ℕ) → Is value bytes → Again at value bytes
  pub sound : Sound at Is

-- ---- the parts of XDR

pub uint_reads : Reads uint_at IsUint
uint_reads = record {
  again = λ n bytes is. record { read = λ rest. rw is.0 (uint_again n rest is.1) };
  sound = record {
    begins = λ bytes n rest fits e.
        let t = uint_took bytes n rest fits e in
        record { prefix = _; is = (refl, t.1); parts = t.0.parts; rest_fits = t.0.rest_fits };
  };
}

pub uhyper_reads : Reads uhyper_at IsUhyper
uhyper_reads = record {
  again = λ n bytes is. record { read = λ rest. rw is.0 (uhyper_again n rest is.1) };
  sound = record {
    begins = λ bytes n rest fits e.
        let t = uhyper_took bytes n rest fits e in
        record { prefix = _; is = (refl, t.1); parts = t.0.parts; rest_fits = t.0.rest_fits };
  };
}

pub bool_reads : Reads bool_at IsBool
bool_reads = record {
  again = λ b bytes is. record { read = λ rest. rw is (bool_again b rest) };
  sound = record {
    begins = λ bytes b rest fits e.
        let t = bool_took bytes b rest fits e in
        record { prefix = _; is = refl; parts = t.parts; rest_fits = t.rest_fits };
  };
}

pub fixed_reads : (n : ℕ) → Reads (fixed_at n) (IsFixedOf n)
fixed_reads n = record {
  again = λ v bytes is. record { read = λ rest. rw (← is.1) (fixed_accepted bytes v rest is.0) };
  sound = record {
    begins = λ bytes v rest fits e.
        let t = fixed_took n bytes v rest e in
        record { prefix = t.begins.prefix; is = (t.begins.accepted, t.size); parts = t.begins.parts; rest_fits = subst AreBytes t.rest_is (AreBytes-drop _ bytes fits) };
  };
}

pub opaque_reads : (max : ℕ) → max < 2 ^ 32 → Reads (opaque_at max) (IsOpaqueWithin max)
opaque_reads max small = record {
  again = λ v bytes is. record { read = λ rest. accepted_again max bytes v rest is.0 is.1 (omega (arith, is.1)) };
  sound = record {
    begins = λ bytes v rest fits e.
        let t = opaque_took max bytes v rest fits e in
        record { prefix = t.begins.prefix; is = (t.begins.accepted, t.within); parts = t.begins.parts; rest_fits = t.rest_fits };
  };
}

-- ---- what is of the grammar is read

-- the next part is read, and what stands behind it as k says
pub bind_again : {A B : Type 0} (p : List ℕ → Result (A × List ℕ) XdrFault) (k : A → List ℕ → Result (B × List ℕ) XdrFault) (a : A) (b : B) (x y : List ℕ)
    → Again p a x → Again (k a) b y → Again (bind p k) b (x ++ y)
unfolding bind
bind_again p k a b x y first second = record { read = λ rest. rw (append_assoc x y rest) (rw (first.read (y ++ rest)) (second.read rest)) }

pub give_again : {A : Type 0} (a : A) → Again (give a) a []
unfolding give
give_again a = record { read = λ rest. refl }

pub then_again : {A B : Type 0} {p : List ℕ → Result (A × List ℕ) XdrFault} {Is : A → List ℕ → Type 0} {a : A} {b : B} {Q : List ℕ → Type 0} {bytes : List ℕ}
    (k : A → List ℕ → Result (B × List ℕ) XdrFault) → Reads p Is → ((y : List ℕ) → Q y → Again (k a) b y) → (Is a and_then Q) bytes → Again (bind p k) b bytes
then_again {p = p} {a = a} {b = b} k reads behind is =
    rw is.parts (bind_again p k a b is.first is.second (reads.again a is.first is.is_first) (behind is.second is.is_second))

pub last_again : {A B : Type 0} {p : List ℕ → Result (A × List ℕ) XdrFault} {Is : A → List ℕ → Type 0} {a : A} {bytes : List ℕ}
    (f : A → B) → Reads p Is → Is a bytes → Again (bind p (λ x. give (f x))) (f a) bytes
last_again {p = p} {a = a} {bytes = bytes} f reads is =
    rw (← append-nil bytes) (bind_again p (λ x. give (f x)) a (f a) bytes [] (reads.again a bytes is) (give_again (f a)))

-- a part behind which k wants no more bytes
pub alone_again : {A B : Type 0} {p : List ℕ → Result (A × List ℕ) XdrFault} {Is : A → List ℕ → Type 0} {a : A} {b : B} {bytes : List ℕ}
    (k : A → List ℕ → Result (B × List ℕ) XdrFault) → Reads p Is → Again (k a) b [] → Is a bytes → Again (bind p k) b bytes
alone_again {p = p} {a = a} {b = b} {bytes = bytes} k reads none is =
    rw (← append-nil bytes) (bind_again p k a b bytes [] (reads.again a bytes is) none)

-- ---- what is read is of the grammar

-- bytes that make a P when they stand behind an R
abbrev pub Behind : (List ℕ → Type 0) → (List ℕ → Type 0) → List ℕ → Type 0
Behind R P y = (x : List ℕ) → R x → P (x ++ y)

pub then_sound : {A B : Type 0} {p : List ℕ → Result (A × List ℕ) XdrFault} {Is : A → List ℕ → Type 0} {M : B → List ℕ → Type 0}
    (k : A → List ℕ → Result (B × List ℕ) XdrFault) → Reads p Is → ((a : A) → Sound (k a) (λ b. Behind (Is a) (M b))) → Sound (bind p k) M
unfolding bind
then_sound {p = p} {M = M} k reads behind = record {
  begins = λ bytes b rest fits e.
      let s = bind_ok (p bytes) (λ x. k x.0 x.1) (b, rest) e in
      let first = reads.sound.begins bytes s.0.0 s.0.1 fits s.1 in
      let second = (behind s.0.0).begins s.0.1 b rest first.rest_fits s.2 in
      record {
        prefix = first.prefix ++ second.prefix;
        is = second.is first.prefix first.is;
        parts = first.parts ∙ ap (λ (t : List ℕ). first.prefix ++ t) second.parts ∙ sym (append_assoc first.prefix second.prefix rest);
        rest_fits = second.rest_fits;
      };
}

pub give_sound : {B : Type 0} {M : B → List ℕ → Type 0} (b : B) → M b [] → Sound (give b) M
unfolding give
give_sound {M = M} b is = record {
  begins = λ bytes value rest fits e.
      let same = pair_is b value bytes rest (Ok (b, bytes)) refl e in
      record { prefix = []; is = subst (λ v. M v []) same.0 is; parts = same.1; rest_fits = subst AreBytes same.1 fits };
}

pub last_sound : {A B : Type 0} {p : List ℕ → Result (A × List ℕ) XdrFault} {Is : A → List ℕ → Type 0} {M : B → List ℕ → Type 0}
    (f : A → B) → Reads p Is → ((a : A) (x : List ℕ) → Is a x → M (f a) x) → Sound (bind p (λ x. give (f x))) M
last_sound {Is = Is} {M = M} f reads behind =
    then_sound _ reads (λ a. give_sound (f a) (λ x is. rw append-nil (behind a x is)))

pub refuse_sound : {B : Type 0} {M : B → List ℕ → Type 0} (fault : XdrFault) → Sound (refuse fault) M
unfolding refuse
refuse_sound fault = record { begins = λ bytes value rest fits e. absurd cc }

-- a choice by a test
choice_sound : {B : Type 0} {M : B → List ℕ → Type 0} (b : Bool) (p q : List ℕ → Result (B × List ℕ) XdrFault)
    → (b ≡ true → Sound p M) → Sound q M → Sound (cond b p q) M
choice_sound true p q same other = same refl
choice_sound false p q same other = other

-- behind a number, a choice by whether the number is this one
pub case_sound : {B : Type 0} (M : B → List ℕ → Type 0) (n m : ℕ) {p q : List ℕ → Result (B × List ℕ) XdrFault}
    → Sound p (λ b. Behind (IsUint m) (M b)) → Sound q (λ b. Behind (IsUint n) (M b)) → Sound (cond (eqb n m) p q) (λ b. Behind (IsUint n) (M b))
case_sound M n m {p = p} {q = q} same other =
    choice_sound (eqb n m) p q (λ is. subst (λ (k : ℕ). Sound p (λ b. Behind (IsUint k) (M b))) (sym (eqb-true n m is)) same) other

-- behind a number, a value of no more bytes
pub alone_sound : {B : Type 0} (M : B → List ℕ → Type 0) (m : ℕ) (value : B)
    → ((x : List ℕ) → IsUint m x → M value x) → Sound (give value) (λ b. Behind (IsUint m) (M b))
alone_sound M m value is = give_sound value (λ x is_x. rw append-nil (is x is_x))

-- ---- optional data

optional_again : {A : Type 0} (p : List ℕ → Result (A × List ℕ) XdrFault) (Is : A → List ℕ → Type 0) → Reads p Is
    → (value : Option A) (bytes : List ℕ) → IsOptional Is value bytes → Again (optional_at p) value bytes
unfolding optional_at
optional_again p Is reads None bytes is =
    rw (← append-nil bytes) (bind_again bool_at _ false None bytes [] (bool_reads.again false bytes is) (give_again None))
optional_again p Is reads (Some x) bytes is = then_again {a = true} _ bool_reads (λ y is_y. last_again _ reads is_y) is

optional_sound : {A : Type 0} (p : List ℕ → Result (A × List ℕ) XdrFault) (Is : A → List ℕ → Type 0) → Reads p Is → (there : Bool)
    → Sound (cond there (bind p (λ x. give (Some x))) (give None)) (λ value. Behind (IsBool there) (IsOptional Is value))
optional_sound p Is reads true = last_sound _ reads (λ a y is_y x is_x. in_then x y is_x is_y)
optional_sound p Is reads false = give_sound None (λ x is. rw append-nil is)

pub optional_reads : {A : Type 0} {p : List ℕ → Result (A × List ℕ) XdrFault} {Is : A → List ℕ → Type 0} → Reads p Is → Reads (optional_at p) (IsOptional Is)
unfolding optional_at
optional_reads {p = p} {Is = Is} reads = record {
  again = optional_again p Is reads;
  sound = then_sound _ bool_reads (optional_sound p Is reads);
}

-- ---- parts put together from the left

regroup_3 : (a b c : List ℕ) → a ++ b ++ c ≡ a ++ (b ++ c)
regroup_3 a b c = simp append_assoc

pub in_3 : {P Q R : List ℕ → Type 0} (a b c : List ℕ) → P a → Q b → R c → (P and_then Q and_then R) (a ++ b ++ c)
in_3 a b c in_a in_b in_c = rw (regroup_3 a b c) (in_then a (b ++ c) in_a (in_then b c in_b in_c))

regroup_4 : (a b c d : List ℕ) → a ++ b ++ c ++ d ≡ a ++ (b ++ (c ++ d))
regroup_4 a b c d = simp append_assoc

pub in_4 : {P Q R S : List ℕ → Type 0} (a b c d : List ℕ) → P a → Q b → R c → S d → (P and_then Q and_then R and_then S) (a ++ b ++ c ++ d)
in_4 a b c d in_a in_b in_c in_d = rw (regroup_4 a b c d) (in_then a (b ++ (c ++ d)) in_a (in_then b (c ++ d) in_b (in_then c d in_c in_d)))

regroup_5 : (a b c d e : List ℕ) → a ++ b ++ c ++ d ++ e ≡ a ++ (b ++ (c ++ (d ++ e)))
regroup_5 a b c d e = simp append_assoc

pub in_5 : {P Q R S T : List ℕ → Type 0} (a b c d e : List ℕ) → P a → Q b → R c → S d → T e → (P and_then Q and_then R and_then S and_then T) (a ++ b ++ c ++ d ++ e)
in_5 a b c d e in_a in_b in_c in_d in_e = rw (regroup_5 a b c d e) (in_then a (b ++ (c ++ (d ++ e))) in_a (in_then b (c ++ (d ++ e)) in_b (in_then c (d ++ e) in_c (in_then d e in_d in_e))))

regroup_6 : (a b c d e f : List ℕ) → a ++ b ++ c ++ d ++ e ++ f ≡ a ++ (b ++ (c ++ (d ++ (e ++ f))))
regroup_6 a b c d e f = simp append_assoc

pub in_6 : {P Q R S T U : List ℕ → Type 0} (a b c d e f : List ℕ) → P a → Q b → R c → S d → T e → U f → (P and_then Q and_then R and_then S and_then T and_then U) (a ++ b ++ c ++ d ++ e ++ f)
in_6 a b c d e f in_a in_b in_c in_d in_e in_f = rw (regroup_6 a b c d e f) (in_then a (b ++ (c ++ (d ++ (e ++ f)))) in_a (in_then b (c ++ (d ++ (e ++ f))) in_b (in_then c (d ++ (e ++ f)) in_c (in_then d (e ++ f) in_d (in_then e f in_e in_f)))))

-- ---- as many bytes as are written

-- each list of bytes that is a P is as long as this one
pub record LongAs (P : List ℕ → Type 0) (text : List ℕ) : Type 0 where
  pub same : (bytes : List ℕ) → P bytes → length bytes ≡ length text

pub uint_long : (n : ℕ) → LongAs (IsUint n) (uint n)
uint_long n = record { same = λ bytes is. ap length is.0 }

pub uhyper_long : (n : ℕ) → LongAs (IsUhyper n) (uhyper n)
uhyper_long n = record { same = λ bytes is. ap length is.0 }

pub bool_long : (b : Bool) → LongAs (IsBool b) (bool b)
bool_long b = record { same = λ bytes is. ap length is }

pub fixed_long : (n : ℕ) (v : List ℕ) → LongAs (IsFixedOf n v) (fixed v)
fixed_long n v = record { same = λ bytes is. length-IsFixed bytes v is.0 ∙ sym (length-fixed v) }

pub opaque_long : (max : ℕ) (v : List ℕ) → LongAs (IsOpaqueWithin max v) (opaque v)
opaque_long max v = record { same = λ bytes is. length-IsOpaque bytes v is.0 ∙ sym (length-opaque v) }

pub long_then : {P Q : List ℕ → Type 0} (a b : List ℕ) → LongAs P a → LongAs Q b → LongAs (P and_then Q) (a ++ b)
long_then a b first second = record {
  same = λ bytes is.
      let x : length is.first ≡ length a = first.same is.first is.is_first in
      let y : length is.second ≡ length b = second.same is.second is.is_second in
      ap length is.parts ∙ length-append is.first is.second ∙ ap (λ (k : ℕ). k + length is.second) x ∙ ap (λ (k : ℕ). length a + k) y ∙ sym (length-append a b);
}

pub long_3 : {P Q R : List ℕ → Type 0} (a b c : List ℕ) → LongAs P a → LongAs Q b → LongAs R c → LongAs (P and_then Q and_then R) (a ++ b ++ c)
long_3 a b c long_a long_b long_c = rw (regroup_3 a b c) (long_then a (b ++ c) long_a (long_then b c long_b long_c))

pub long_4 : {P Q R S : List ℕ → Type 0} (a b c d : List ℕ) → LongAs P a → LongAs Q b → LongAs R c → LongAs S d → LongAs (P and_then Q and_then R and_then S) (a ++ b ++ c ++ d)
long_4 a b c d long_a long_b long_c long_d = rw (regroup_4 a b c d) (long_then a (b ++ (c ++ d)) long_a (long_then b (c ++ d) long_b (long_then c d long_c long_d)))

pub long_5 : {P Q R S T : List ℕ → Type 0} (a b c d e : List ℕ) → LongAs P a → LongAs Q b → LongAs R c → LongAs S d → LongAs T e → LongAs (P and_then Q and_then R and_then S and_then T) (a ++ b ++ c ++ d ++ e)
long_5 a b c d e long_a long_b long_c long_d long_e = rw (regroup_5 a b c d e) (long_then a (b ++ (c ++ (d ++ e))) long_a (long_then b (c ++ (d ++ e)) long_b (long_then c (d ++ e) long_c (long_then d e long_d long_e))))

pub long_6 : {P Q R S T U : List ℕ → Type 0} (a b c d e f : List ℕ) → LongAs P a → LongAs Q b → LongAs R c → LongAs S d → LongAs T e → LongAs U f → LongAs (P and_then Q and_then R and_then S and_then T and_then U) (a ++ b ++ c ++ d ++ e ++ f)
long_6 a b c d e f long_a long_b long_c long_d long_e long_f = rw (regroup_6 a b c d e f) (long_then a (b ++ (c ++ (d ++ (e ++ f)))) long_a (long_then b (c ++ (d ++ (e ++ f))) long_b (long_then c (d ++ (e ++ f)) long_c (long_then d (e ++ f) long_d (long_then e f long_e long_f)))))
