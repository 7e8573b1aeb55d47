-- The header of an object: what is encoded is read again, and what is read is encoded so.
--   length-object_header     how many bytes it has
--   header_again             a header as its name wants it
--   header_sound             a header in which no field is wrong
--   header_counted           a header in which another number of items is written
--   one_header               no bytes begin with the headers of two names
use Rattle.std.proofs.Common.{◌≡◌, ℕ, ◌+◌, ◌^◌, ◌<◌, ◌≤◌, Bool, true, false, eqb, not, ◌||◌, Option, None, List, [], ◌∷◌, ◌++◌, length, take, drop, refl, sym, ap, subst, ◌∙◌, append_assoc, arith, eq-eqb}
use Rattle.std.specs.Str.{bytes_eq}
use Rattle.std.proofs.lemmas.Bool.{eqb-true}
use Rattle.std.proofs.lemmas.List.{take_at, drop_at, take-append-drop, length-append, length-drop, drop-drop}
use Rattle.std.proofs.lemmas.Nat.{from_be_bytes-to_be_bytes_4, from_be_bytes-to_be_bytes_8}
use Rattle.std.proofs.lemmas.Slice.Eq.{bytes_eq-Decides}
use Rattle.sky_base.specs.Limits.{max_number}
use Rattle.sky_base.specs.declared.object.Dir.{Dir}
use Rattle.sky_base.specs.declared.object.Dir.TheVariants.{Proxy, Cleaner}
use Rattle.sky_base.specs.declared.object.SegName.{SegName}
use Rattle.sky_xdr.specs.Encoding.{AreBytes, uint, uhyper}
use Rattle.sky_xdr.specs.Reading.{word, double_word}
use Rattle.sky_xdr.proofs.Numbers.{length-uint, length-uhyper, AreBytes-drop, uint-word, uhyper-double_word, uint_same, uhyper_same}
use Rattle.sky_item.specs.Encoding.{dir_code}
use Rattle.sky_segment.specs.Objects.{magic, last_code, object_header, object_header_bytes}
use Rattle.sky_segment.specs.Damages.{count_place, said_count, header_fields, first_wrong}

pub length-object_header : (name : SegName) (count : ℕ) → length (object_header name count) ≡ 36
unfolding object_header
length-object_header name count = simp (length-append, length-uint, length-uhyper) refl

word_uint : (n : ℕ) (rest : List ℕ) → n < 2 ^ 32 → word (uint n ++ rest) ≡ n
unfolding word uint
word_uint n rest lt = from_be_bytes-to_be_bytes_4 n lt

double_word_uhyper : (n : ℕ) (rest : List ℕ) → n < 2 ^ 64 → double_word (uhyper n ++ rest) ≡ n
unfolding double_word uhyper
double_word_uhyper n rest lt = from_be_bytes-to_be_bytes_8 n lt

-- ---- fields at their places

-- what stands from each field on
pub record Layout (bytes : List ℕ) (m : List ℕ) (d r s l c : ℕ) (rest : List ℕ) : Type 0 where
  pub at_8 : drop 8 bytes ≡ uint d ++ (uhyper r ++ (uhyper s ++ (uint l ++ (uint c ++ rest))))
  pub at_12 : drop 12 bytes ≡ uhyper r ++ (uhyper s ++ (uint l ++ (uint c ++ rest)))
  pub at_20 : drop 20 bytes ≡ uhyper s ++ (uint l ++ (uint c ++ rest))
  pub at_28 : drop 28 bytes ≡ uint l ++ (uint c ++ rest)
  pub at_32 : drop 32 bytes ≡ uint c ++ rest
  pub at_36 : drop 36 bytes ≡ rest

abbrev laid : List ℕ → (d r s l c : ℕ) → List ℕ → List ℕ
laid m d r s l c rest = m ++ (uint d ++ (uhyper r ++ (uhyper s ++ (uint l ++ (uint c ++ rest)))))

-- from one field to the next
next_field : (k n : ℕ) (bytes x rest : List ℕ) → drop k bytes ≡ x ++ rest → length x ≡ n → drop (k + n) bytes ≡ rest
next_field k n bytes x rest e long = sym (drop-drop n k bytes) ∙ ap (drop n) e ∙ drop_at x rest n long

layout : (m : List ℕ) (d r s l c : ℕ) (rest : List ℕ) → length m ≡ 8 → Layout (laid m d r s l c rest) m d r s l c rest
layout m d r s l c rest long =
    let bytes : List ℕ = laid m d r s l c rest in
    let a = drop_at m (uint d ++ (uhyper r ++ (uhyper s ++ (uint l ++ (uint c ++ rest))))) 8 long in
    let b = next_field 8 4 bytes (uint d) _ a (length-uint d) in
    let e = next_field 12 8 bytes (uhyper r) _ b (length-uhyper r) in
    let f = next_field 20 8 bytes (uhyper s) _ e (length-uhyper s) in
    let g = next_field 28 4 bytes (uint l) _ f (length-uint l) in
    record { at_8 = a; at_12 = b; at_20 = e; at_28 = f; at_32 = g; at_36 = next_field 32 4 bytes (uint c) rest g (length-uint c) }

pub header_laid : (name : SegName) (count : ℕ) (rest : List ℕ) → object_header name count ++ rest ≡ laid magic (dir_code name.dir) name.run name.seq (last_code name.last) count rest
unfolding object_header
header_laid name count rest = simp append_assoc refl

dir_small : (dir : Dir) → dir_code dir < 2 ^ 32
dir_small Proxy = omega arith
dir_small Cleaner = omega arith

last_small : (last : Bool) → last_code last < 2 ^ 32
last_small true = omega arith
last_small false = omega arith

-- ---- a header as its name wants it

-- what is known of each field
record Right (name : SegName) (bytes : List ℕ) : Type 0 where
  at_0 : bytes_eq (take 8 bytes) magic ≡ true
  at_8 : eqb (word (drop 8 bytes)) (dir_code name.dir) ≡ true
  at_12 : eqb (double_word (drop 12 bytes)) name.run ≡ true
  at_20 : eqb (double_word (drop 20 bytes)) name.seq ≡ true
  at_28 : eqb (word (drop 28 bytes)) (last_code name.last) ≡ true
  at_32 : (not name.last || eqb (said_count bytes) 1) ≡ true

abbrev checked : Bool → Bool → Bool → Bool → Bool → Bool → Option ℕ
checked a b c d e f = first_wrong ((0, a) ∷ (8, b) ∷ (12, c) ∷ (20, d) ∷ (28, e) ∷ (32, f) ∷ [])

all_right : (a b c d e f : Bool) → a ≡ true → b ≡ true → c ≡ true → d ≡ true → e ≡ true → f ≡ true → checked a b c d e f ≡ None
all_right a b c d e f p q r s t u = rw (p, q, r, s, t, u) refl

record AllTrue (a b c d e f : Bool) : Type 0 where
  p : a ≡ true
  q : b ≡ true
  r : c ≡ true
  s : d ≡ true
  t : e ≡ true
  u : f ≡ true

none_wrong : (a b c d e f : Bool) → checked a b c d e f ≡ None → AllTrue a b c d e f
none_wrong false b c d e f h = absurd cc
none_wrong true false c d e f h = absurd cc
none_wrong true true false d e f h = absurd cc
none_wrong true true true false e f h = absurd cc
none_wrong true true true true false f h = absurd cc
none_wrong true true true true true false h = absurd cc
none_wrong true true true true true true h = record { p = refl; q = refl; r = refl; s = refl; t = refl; u = refl }

right_none : (name : SegName) (bytes : List ℕ) → Right name bytes → first_wrong (header_fields name bytes) ≡ None
right_none name bytes h =
    all_right (bytes_eq (take 8 bytes) magic) (eqb (word (drop 8 bytes)) (dir_code name.dir)) (eqb (double_word (drop 12 bytes)) name.run)
    (eqb (double_word (drop 20 bytes)) name.seq) (eqb (word (drop 28 bytes)) (last_code name.last)) (not name.last || eqb (said_count bytes) 1) h.at_0 h.at_8 h.at_12 h.at_20 h.at_28 h.at_32

none_right : (name : SegName) (bytes : List ℕ) → first_wrong (header_fields name bytes) ≡ None → Right name bytes
none_right name bytes e =
    let h = none_wrong (bytes_eq (take 8 bytes) magic) (eqb (word (drop 8 bytes)) (dir_code name.dir)) (eqb (double_word (drop 12 bytes)) name.run)
    (eqb (double_word (drop 20 bytes)) name.seq) (eqb (word (drop 28 bytes)) (last_code name.last)) (not name.last || eqb (said_count bytes) 1) e in
    record { at_0 = h.p; at_8 = h.q; at_12 = h.r; at_20 = h.s; at_28 = h.t; at_32 = h.u }

one_true : (last : Bool) (n : ℕ) → (last ≡ true → n ≡ 1) → (not last || eqb n 1) ≡ true
one_true true n one = eq-eqb n 1 (one refl)
one_true false n one = refl

one_is : (last : Bool) (n : ℕ) → (not last || eqb n 1) ≡ true → last ≡ true → n ≡ 1
one_is true n e t = eqb-true n 1 e
one_is false n e t = absurd cc

-- what a header says behind which these bytes stand
pub record HeaderRead (name : SegName) (bytes : List ℕ) (count : ℕ) (rest : List ℕ) : Type 0 where
  pub right : first_wrong (header_fields name bytes) ≡ None
  pub many : said_count bytes ≡ count
  pub behind : drop object_header_bytes bytes ≡ rest

header_read : (name : SegName) (bytes : List ℕ) (count : ℕ) (rest : List ℕ) → name.run < max_number → name.seq < max_number → count < 2 ^ 32 → (name.last ≡ true → count ≡ 1)
    → bytes ≡ laid magic (dir_code name.dir) name.run name.seq (last_code name.last) count rest
    → Layout bytes magic (dir_code name.dir) name.run name.seq (last_code name.last) count rest → HeaderRead name bytes count rest
header_read name bytes count rest run seq few one is l =
    let many : said_count bytes ≡ count = ap word l.at_32 ∙ word_uint count rest few in
    let others : List ℕ = uint (dir_code name.dir) ++ (uhyper name.run ++ (uhyper name.seq ++ (uint (last_code name.last) ++ (uint count ++ rest)))) in
    let start : take 8 bytes ≡ magic = ap (take 8) is ∙ take_at magic others 8 refl in
    record {
      right = right_none name bytes (record {
        at_0 = (bytes_eq-Decides (take 8 bytes) magic).1 start;
        at_8 = eq-eqb _ _ (ap word l.at_8 ∙ word_uint (dir_code name.dir) _ (dir_small name.dir));
        at_12 = eq-eqb _ _ (ap double_word l.at_12 ∙ double_word_uhyper name.run _ (omega arith));
        at_20 = eq-eqb _ _ (ap double_word l.at_20 ∙ double_word_uhyper name.seq _ (omega arith));
        at_28 = eq-eqb _ _ (ap word l.at_28 ∙ word_uint (last_code name.last) _ (last_small name.last));
        at_32 = one_true name.last (said_count bytes) (λ t. many ∙ one t);
      });
      many = many;
      behind = l.at_36;
    }

pub header_again : (name : SegName) (count : ℕ) (rest : List ℕ) → name.run < max_number → name.seq < max_number → count < 2 ^ 32 → (name.last ≡ true → count ≡ 1)
    → HeaderRead name (object_header name count ++ rest) count rest
header_again name count rest run seq few one =
    let is = header_laid name count rest in
    let l = layout magic (dir_code name.dir) name.run name.seq (last_code name.last) count rest refl in
    header_read name (object_header name count ++ rest) count rest run seq few one is
    (subst (λ (t : List ℕ). Layout t magic (dir_code name.dir) name.run name.seq (last_code name.last) count rest) (sym is) l)

-- ---- a header in which no field is wrong

-- a number and what stands behind it
uint_field : (k n : ℕ) (bytes : List ℕ) → AreBytes bytes → k + 4 ≤ length bytes → word (drop k bytes) ≡ n → drop k bytes ≡ uint n ++ drop (k + 4) bytes
uint_field k n bytes fits long e =
    let first : uint n ≡ take 4 (drop k bytes) = ap uint (sym e) ∙ uint-word (drop k bytes) (AreBytes-drop k bytes fits) (omega (arith, length-drop k bytes)) in
    sym (take-append-drop 4 (drop k bytes)) ∙ ap (λ (t : List ℕ). t ++ drop 4 (drop k bytes)) (sym first) ∙ ap (λ (t : List ℕ). uint n ++ t) (drop-drop 4 k bytes)

uhyper_field : (k n : ℕ) (bytes : List ℕ) → AreBytes bytes → k + 8 ≤ length bytes → double_word (drop k bytes) ≡ n → drop k bytes ≡ uhyper n ++ drop (k + 8) bytes
uhyper_field k n bytes fits long e =
    let first : uhyper n ≡ take 8 (drop k bytes) = ap uhyper (sym e) ∙ uhyper-double_word (drop k bytes) (AreBytes-drop k bytes fits) (omega (arith, length-drop k bytes)) in
    sym (take-append-drop 8 (drop k bytes)) ∙ ap (λ (t : List ℕ). t ++ drop 8 (drop k bytes)) (sym first) ∙ ap (λ (t : List ℕ). uhyper n ++ t) (drop-drop 8 k bytes)

pub header_sound : (name : SegName) (bytes : List ℕ) → AreBytes bytes → object_header_bytes ≤ length bytes → first_wrong (header_fields name bytes) ≡ None
    → (bytes ≡ object_header name (said_count bytes) ++ drop object_header_bytes bytes) × (name.last ≡ true → said_count bytes ≡ 1)
header_sound name bytes fits long e =
    let h = none_right name bytes e in
    let a : bytes ≡ magic ++ drop 8 bytes = sym (take-append-drop 8 bytes) ∙ ap (λ (t : List ℕ). t ++ drop 8 bytes) ((bytes_eq-Decides (take 8 bytes) magic).0 h.at_0) in
    let b = uint_field 8 (dir_code name.dir) bytes fits (omega arith) (eqb-true _ _ h.at_8) in
    let c = uhyper_field 12 name.run bytes fits (omega arith) (eqb-true _ _ h.at_12) in
    let d = uhyper_field 20 name.seq bytes fits (omega arith) (eqb-true _ _ h.at_20) in
    let f = uint_field 28 (last_code name.last) bytes fits (omega arith) (eqb-true _ _ h.at_28) in
    let g = uint_field 32 (said_count bytes) bytes fits (omega arith) refl in
    let rest : List ℕ = drop 36 bytes in
    let all : bytes ≡ laid magic (dir_code name.dir) name.run name.seq (last_code name.last) (said_count bytes) rest =
    a ∙ ap (λ (t : List ℕ). magic ++ t) (b ∙ ap (λ (t : List ℕ). uint (dir_code name.dir) ++ t) (c ∙ ap (λ (t : List ℕ). uhyper name.run ++ t)
    (d ∙ ap (λ (t : List ℕ). uhyper name.seq ++ t) (f ∙ ap (λ (t : List ℕ). uint (last_code name.last) ++ t) g)))) in
    (all ∙ sym (header_laid name (said_count bytes) rest), one_is name.last (said_count bytes) h.at_32)

-- ---- another number of items

-- what stands before the number of items
abbrev front : SegName → List ℕ
front name = magic ++ (uint (dir_code name.dir) ++ (uhyper name.run ++ (uhyper name.seq ++ uint (last_code name.last))))

header_front : (name : SegName) (n : ℕ) (rest : List ℕ) → object_header name n ++ rest ≡ front name ++ (uint n ++ rest)
unfolding object_header
header_front name n rest = simp append_assoc refl

length-front : (name : SegName) → length (front name) ≡ 32
length-front name = simp (length-append, length-uint, length-uhyper) refl

-- a header in which another number is written
pub header_counted : (name : SegName) (m n : ℕ) (rest bytes : List ℕ) → bytes ≡ object_header name m ++ rest
    → take count_place bytes ++ (uint n ++ drop object_header_bytes bytes) ≡ object_header name n ++ rest
header_counted name m n rest bytes is =
    let first : take 32 bytes ≡ front name = ap (take 32) (is ∙ header_front name m rest) ∙ take_at (front name) (uint m ++ rest) 32 (length-front name) in
    let behind : drop 36 bytes ≡ rest = ap (drop 36) is ∙ drop_at (object_header name m) rest 36 (length-object_header name m) in
    ap (λ (t : List ℕ). t ++ (uint n ++ drop 36 bytes)) first ∙ ap (λ (t : List ℕ). front name ++ (uint n ++ t)) behind ∙ sym (header_front name n rest)

-- ---- one name

dir_same : (a b : Dir) → dir_code a ≡ dir_code b → a ≡ b
dir_same Proxy Proxy e = refl
dir_same Proxy Cleaner e = absurd (omega arith)
dir_same Cleaner Proxy e = absurd (omega arith)
dir_same Cleaner Cleaner e = refl

last_same : (a b : Bool) → last_code a ≡ last_code b → a ≡ b
last_same true true e = refl
last_same true false e = absurd (omega arith)
last_same false true e = absurd (omega arith)
last_same false false e = refl

name_same : (a b : SegName) → a.dir ≡ b.dir → a.run ≡ b.run → a.seq ≡ b.seq → a.last ≡ b.last → a ≡ b
name_same a b p q r s =
    let f : Dir → SegName = λ x. record { dir = x; run = a.run; seq = a.seq; last = a.last } in
    let g : ℕ → SegName = λ x. record { dir = b.dir; run = x; seq = a.seq; last = a.last } in
    let h : ℕ → SegName = λ x. record { dir = b.dir; run = b.run; seq = x; last = a.last } in
    let k : Bool → SegName = λ x. record { dir = b.dir; run = b.run; seq = b.seq; last = x } in
    ap f p ∙ ap g q ∙ ap h r ∙ ap k s

pub one_header : (a b : SegName) (m n : ℕ) (x y : List ℕ) → a.run < max_number → a.seq < max_number → b.run < max_number → b.seq < max_number
    → object_header a m ++ x ≡ object_header b n ++ y → a ≡ b
one_header a b m n x y arun aseq brun bseq e =
    let all = sym (header_laid a m x) ∙ e ∙ header_laid b n y in
    let la = layout magic (dir_code a.dir) a.run a.seq (last_code a.last) m x refl in
    let lb = layout magic (dir_code b.dir) b.run b.seq (last_code b.last) n y refl in
    let d = uint_same (dir_code a.dir) (dir_code b.dir) _ _ (dir_small a.dir) (dir_small b.dir) (sym la.at_8 ∙ ap (drop 8) all ∙ lb.at_8) in
    let r = uhyper_same a.run b.run _ _ (omega arith) (omega arith) (sym la.at_12 ∙ ap (drop 12) all ∙ lb.at_12) in
    let s = uhyper_same a.seq b.seq _ _ (omega arith) (omega arith) (sym la.at_20 ∙ ap (drop 20) all ∙ lb.at_20) in
    let l = uint_same (last_code a.last) (last_code b.last) _ _ (last_small a.last) (last_small b.last) (sym la.at_28 ∙ ap (drop 28) all ∙ lb.at_28) in
    name_same a b (dir_same a.dir b.dir d.0) r.0 s.0 (last_same a.last b.last l.0)

pub one_count : (a b : SegName) (m n : ℕ) (x y : List ℕ) → m < 2 ^ 32 → n < 2 ^ 32 → object_header a m ++ x ≡ object_header b n ++ y → (m ≡ n) × (x ≡ y)
one_count a b m n x y mfew nfew e =
    let all = sym (header_laid a m x) ∙ e ∙ header_laid b n y in
    let la = layout magic (dir_code a.dir) a.run a.seq (last_code a.last) m x refl in
    let lb = layout magic (dir_code b.dir) b.run b.seq (last_code b.last) n y refl in
    uint_same m n x y mfew nfew (sym la.at_32 ∙ ap (drop 32) all ∙ lb.at_32)
