-- A record goes on: by some bytes of a header, or of a fragment.
use Rattle.std.proofs.Common.{◌≡◌, ℕ, zero, suc, ◌+◌, ◌-◌, ◌%◌, ◌^◌, ◌<◌, ◌≤◌, Bool, true, false, cond, ltb, leb, List, [], ◌∷◌, ◌++◌, length, get_or, take, refl, sym, ap, subst, ◌∙◌, append_assoc, arith, inl, inr}
use Rattle.std.specs.Int.{w32, from_be_bytes}
use Rattle.std.proofs.lemmas.Bool.{cases_lt, ltb-true, ltb-false, leb-true, leb-false, lt-ltb, cond_both}
use Rattle.std.proofs.lemmas.List.{append-nil, length-append, length-take, get_or-take, get_or_past}
use Rattle.std.proofs.lemmas.Grind.{flat_map-append}
use Rattle.std.proofs.lemmas.Nat.{be_bytes_4}
use Rattle.sky_base.specs.Limits.{max_record_bytes}
use Rattle.sky_record.specs.Record.{Fragment, header, fragment, encoding, joined, NoneLast, IsWhole, IsRecord, IsRecordPrefix}
use Rattle.sky_record.specs.Stream.{Progress, AtHeader, InFragment, TooLong, IsSoFar}
use Rattle.sky_record.specs.Parts.{with_due, with_header}

abbrev pub IsBytes : List ℕ → Type 0
IsBytes bytes = (i : ℕ) → get_or bytes i 0 < 256

pub IsBytes-one : (b : ℕ) → b < 256 → IsBytes (b ∷ [])
IsBytes-one b lt zero = lt
IsBytes-one b lt (suc i) = omega arith

pub IsBytes-append : (xs ys : List ℕ) → IsBytes xs → IsBytes ys → IsBytes (xs ++ ys)
IsBytes-append [] ys p q i = q i
IsBytes-append (x ∷ xs) ys p q zero = p 0
IsBytes-append (x ∷ xs) ys p q (suc i) = IsBytes-append xs ys (λ j. p (suc j)) q i

pub IsBytes-take : (n : ℕ) (bytes : List ℕ) → IsBytes bytes → IsBytes (take n bytes)
IsBytes-take n bytes h i =
    elim (cases_lt i n) [
      | inl lt ↦ rw (get_or-take n bytes i 0 lt) (h i)
      | inr le ↦ rw (get_or_past (take n bytes) i 0 (omega (arith, length-take n bytes))) (omega arith)
    ]

-- ---- fragments

pub encoding-push : (fs : List Fragment) (f : Fragment) → encoding (fs ++ f ∷ []) ≡ encoding fs ++ fragment f
encoding-push fs f = flat_map-append fragment fs (f ∷ []) ∙ ap (λ (t : List ℕ). encoding fs ++ t) (append-nil (fragment f))

pub joined-push : (fs : List Fragment) (f : Fragment) → joined (fs ++ f ∷ []) ≡ joined fs ++ f.bytes
joined-push fs f = flat_map-append (λ (x : Fragment). x.bytes) fs (f ∷ []) ∙ ap (λ (t : List ℕ). joined fs ++ t) (append-nil f.bytes)

NoneLast-push : (fs : List Fragment) (f : Fragment) → NoneLast fs → f.last ≡ false → NoneLast (fs ++ f ∷ [])
NoneLast-push [] f h e = (e, tt)
NoneLast-push (g ∷ fs) f h e = (h.0, NoneLast-push fs f h.1 e)

IsWhole-push : (fs : List Fragment) (f : Fragment) → NoneLast fs → f.last ≡ true → IsWhole (fs ++ f ∷ [])
IsWhole-push [] f h e = e
IsWhole-push (g ∷ []) f h e = (h.0, e)
IsWhole-push (g ∷ k ∷ fs) f h e = (h.0, IsWhole-push (k ∷ fs) f h.1 e)

-- a whole record's fragments: some that are not the last, and the last
pub IsWhole-parts : (fs : List Fragment) → IsWhole fs → (prefix : List Fragment) × (final : Fragment) × NoneLast prefix × (final.last ≡ true) × (fs ≡ prefix ++ final ∷ [])
IsWhole-parts [] h = absurd h
IsWhole-parts (f ∷ []) h = ([], f, tt, h, refl)
IsWhole-parts (f ∷ g ∷ fs) h =
    let p = IsWhole-parts (g ∷ fs) h.1 in
    (f ∷ p.0, p.1, (h.0, p.2), p.3, ap (λ (t : List Fragment). f ∷ t) p.4)

pub no_prefix : IsRecordPrefix [] []
no_prefix = record { fragments = []; none_last = tt; encoded = refl; joins = refl; within = omega arith }

-- one more fragment that is not the last
prefix_goes_on : (text bytes part : List ℕ) → IsRecordPrefix text bytes → length (bytes ++ part) ≤ max_record_bytes → IsRecordPrefix (text ++ (header false (length part) ++ part)) (bytes ++ part)
prefix_goes_on text bytes part h within =
    let f : Fragment = record { last = false; bytes = part } in
    record {
      fragments = h.fragments ++ f ∷ [];
      none_last = NoneLast-push h.fragments f h.none_last refl;
      encoded = ap (λ (t : List ℕ). t ++ fragment f) h.encoded ∙ sym (encoding-push h.fragments f);
      joins = ap (λ (t : List ℕ). t ++ part) h.joins ∙ sym (joined-push h.fragments f);
      within = within;
    }

-- the last one
record_ends : (text bytes part : List ℕ) → IsRecordPrefix text bytes → length (bytes ++ part) ≤ max_record_bytes → IsRecord (text ++ (header true (length part) ++ part)) (bytes ++ part)
record_ends text bytes part h within =
    let f : Fragment = record { last = true; bytes = part } in
    record {
      fragments = h.fragments ++ f ∷ [];
      whole = IsWhole-push h.fragments f h.none_last refl;
      encoded = ap (λ (t : List ℕ). t ++ fragment f) h.encoded ∙ sym (encoding-push h.fragments f);
      joins = ap (λ (t : List ℕ). t ++ part) h.joins ∙ sym (joined-push h.fragments f);
      within = within;
    }

-- ---- after a header, and any part of its fragment

in_fragment : (prefix before part text : List ℕ) (last : Bool) (due : ℕ) → IsRecordPrefix prefix before → text ≡ prefix ++ (header last (length part + due) ++ part)
    → length (before ++ part) + due ≤ max_record_bytes → IsSoFar text (before ++ part) (with_due last due)
in_fragment prefix before part text last (suc due) h e within = rw (lt-ltb 0 (suc due) (omega arith)) (record {
  prefix = prefix;
  before = before;
  part = part;
  is_prefix = h;
  text_is = e;
  bytes_is = refl;
  some_due = omega arith;
  within = within;
})
in_fragment prefix before part text true zero h e within =
    let e' : text ≡ prefix ++ (header true (length part) ++ part) = e ∙ ap (λ (n : ℕ). prefix ++ (header true n ++ part)) (omega arith) in
    subst (λ (t : List ℕ). IsRecord t (before ++ part)) (sym e') (record_ends prefix before part h (omega arith))
in_fragment prefix before part text false zero h e within =
    let e' : text ≡ prefix ++ (header false (length part) ++ part) = e ∙ ap (λ (n : ℕ). prefix ++ (header false n ++ part)) (omega arith) in
    record { prefix = prefix ++ (header false (length part) ++ part); is_prefix = prefix_goes_on prefix before part h (omega arith); text_is = e' ∙ sym (append-nil (prefix ++ (header false (length part) ++ part))); short = omega arith }

-- ---- at a header

-- a header is the one encoding of what it says
header-is : (bytes : List ℕ) → length bytes ≡ 4 → IsBytes bytes → header (leb (2 ^ 31) (from_be_bytes w32 bytes)) (from_be_bytes w32 bytes % 2 ^ 31) ≡ bytes
header-is bytes len fits =
    let word : ℕ = from_be_bytes w32 bytes in
    let below : word < 2 ^ 32 = omega (arith, fits 0, fits 1, fits 2, fits 3) in
    let word-is : cond (leb (2 ^ 31) word) (2 ^ 31 + word % 2 ^ 31) (word % 2 ^ 31) ≡ word =
    cond_both (leb (2 ^ 31) word) (2 ^ 31 + word % 2 ^ 31) (word % 2 ^ 31) (λ (n : ℕ). n ≡ word) (λ e. omega (arith, leb-true (2 ^ 31) word e)) (λ e. omega (arith, leb-false (2 ^ 31) word e)) in
    be_bytes_4 bytes (cond (leb (2 ^ 31) word) (2 ^ 31 + word % 2 ^ 31) (word % 2 ^ 31)) len fits word-is

pub short_header : (had : ℕ) (part : List ℕ) → length part < 4 → with_header had part ≡ AtHeader part
short_header had part short = rw (lt-ltb (length part) 4 short) refl

pub header_goes_on : (text bytes part more : List ℕ) → IsSoFar text bytes (AtHeader part) → length (part ++ more) ≤ 4 → IsBytes (part ++ more)
    → IsSoFar (text ++ more) bytes (with_header (length bytes) (part ++ more))
header_goes_on text bytes part more h le fits =
    let all : List ℕ = part ++ more in
    let word : ℕ = from_be_bytes w32 all in
    let size : ℕ = word % 2 ^ 31 in
    let last : Bool = leb (2 ^ 31) word in
    let text_is : text ++ more ≡ h.prefix ++ all = ap (λ (t : List ℕ). t ++ more) h.text_is ∙ append_assoc h.prefix part more in
    cond_both (ltb (length all) 4) (AtHeader all) (cond (ltb max_record_bytes (length bytes + size)) TooLong (with_due last size)) (λ (p : Progress). IsSoFar (text ++ more) bytes p)
    (λ short. record { prefix = h.prefix; is_prefix = h.is_prefix; text_is = text_is; short = ltb-true (length all) 4 short })
    (λ long.
    let len : length all ≡ 4 = omega (arith, ltb-false (length all) 4 long) in
    let encoded : text ++ more ≡ h.prefix ++ header last size = text_is ∙ ap (λ (t : List ℕ). h.prefix ++ t) (sym (header-is all len fits)) in
    cond_both (ltb max_record_bytes (length bytes + size)) TooLong (with_due last size) (λ (p : Progress). IsSoFar (text ++ more) bytes p)
    (λ passes. record { prefix = h.prefix; last = last; size = size; is_prefix = h.is_prefix; text_is = encoded; size_fits = omega arith; passes = ltb-true max_record_bytes (length bytes + size) passes })
    (λ within.
    let e : text ++ more ≡ h.prefix ++ (header last (0 + size) ++ []) =
    encoded ∙ ap (λ (n : ℕ). h.prefix ++ header last n) (omega arith) ∙ ap (λ (t : List ℕ). h.prefix ++ t) (sym (append-nil (header last (0 + size)))) in
    let fits_all : length (bytes ++ []) + size ≤ max_record_bytes = omega (arith, ltb-false max_record_bytes (length bytes + size) within, length-append bytes []) in
    subst (λ (b : List ℕ). IsSoFar (text ++ more) b (with_due last size)) (append-nil bytes) (in_fragment h.prefix bytes [] (text ++ more) last size h.is_prefix e fits_all)))

-- ---- in a fragment

pub fragment_goes_on : (text bytes more : List ℕ) (last : Bool) (due : ℕ) → IsSoFar text bytes (InFragment last due) → length more ≤ due
    → IsSoFar (text ++ more) (bytes ++ more) (with_due last (due - length more))
fragment_goes_on text bytes more last due h le =
    let left : ℕ = due - length more in
    let size_is : length h.part + due ≡ length (h.part ++ more) + left = omega (arith, length-append h.part more) in
    let bytes_is : bytes ++ more ≡ h.before ++ (h.part ++ more) = ap (λ (t : List ℕ). t ++ more) h.bytes_is ∙ append_assoc h.before h.part more in
    let text_is : text ++ more ≡ h.prefix ++ (header last (length (h.part ++ more) + left) ++ (h.part ++ more)) =
    ap (λ (t : List ℕ). t ++ more) h.text_is ∙ append_assoc h.prefix (header last (length h.part + due) ++ h.part) more ∙ ap (λ (t : List ℕ). h.prefix ++ t) (append_assoc (header last (length h.part + due)) h.part more)
    ∙ ap (λ (n : ℕ). h.prefix ++ (header last n ++ (h.part ++ more))) size_is in
    let fits : length (h.before ++ (h.part ++ more)) + left ≤ max_record_bytes = omega (arith, ap length bytes_is, length-append bytes more, h.within) in
    subst (λ (b : List ℕ). IsSoFar (text ++ more) b (with_due last left)) (sym bytes_is) (in_fragment h.prefix h.before (h.part ++ more) (text ++ more) last left h.is_prefix text_is fits)
