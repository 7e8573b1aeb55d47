-- The numbers of a header and of a moment, read at their places.
use Rattle.std.proofs.Common.{◌≡◌, ◌-◌, ◌<◌, ◌≤◌, ◌^◌, ℕ, List, [], ◌∷◌, ◌++◌, length, take, drop, get_or, refl, sym, ap, ◌∙◌, append_assoc, arith}
use Rattle.std.proofs.lemmas.List.{append-nil, take-append-drop, length-drop, drop-drop, nil_from_length}
use Rattle.byteorder.specs.Endian.{big_number}
use Rattle.sky_base.specs.declared.moment.Moment.{Moment}
use Rattle.sky_xdr.specs.Encoding.{AreBytes, uint}
use Rattle.sky_xdr.specs.Reading.{word}
use Rattle.sky_xdr.proofs.Numbers.{uint_prefix, uint-word, word_fits, AreBytes-drop}
use Rattle.sky_script.specs.Frame.{header, SetMoment, in_frame}
use Rattle.sky_script.proofs.FrameLaws.{length-moment}

-- nine bytes are a header, whose numbers are read at their places
pub header_is : (bytes : List ℕ) (session len : ℕ) → AreBytes bytes → length bytes ≡ 9 → session ≡ big_number 4 (take (length bytes - 1) (drop 1 bytes)) → len ≡ big_number 4 (take (length bytes - 5) (drop 5 bytes))
    → bytes ≡ header (get_or bytes 0 0) session len
header_is (a ∷ b ∷ c ∷ d ∷ e ∷ f ∷ g ∷ h ∷ i ∷ []) session len fits long s l =
    let all : List ℕ = a ∷ b ∷ c ∷ d ∷ e ∷ f ∷ g ∷ h ∷ i ∷ [] in
    let back : List ℕ = f ∷ g ∷ h ∷ i ∷ [] in
    let prefix : List ℕ = b ∷ c ∷ d ∷ e ∷ [] in
    let first : prefix ++ back ≡ uint session ++ back = uint_prefix (prefix ++ back) prefix back session (AreBytes-drop 1 all fits) (omega arith) refl refl s in
    let second : back ≡ uint len ++ [] = uint_prefix back back [] len (AreBytes-drop 5 all fits) (omega arith) refl refl l in
    ap (λ (x : List ℕ). a ∷ x) (first ∙ ap (λ (x : List ℕ). uint session ++ x) (second ∙ append-nil (uint len)))
header_is _ session len fits long s l = absurd (omega arith)

-- and so are eight bytes a moment
pub moment_is : (bytes : List ℕ) (seconds nanos : ℕ) → AreBytes bytes → length bytes ≡ 8 → seconds ≡ big_number 4 bytes → nanos ≡ big_number 4 (take (length bytes - 4) (drop 4 bytes))
    → bytes ≡ uint seconds ++ uint nanos
moment_is (a ∷ b ∷ c ∷ d ∷ e ∷ f ∷ g ∷ h ∷ []) seconds nanos fits long s n =
    let all : List ℕ = a ∷ b ∷ c ∷ d ∷ e ∷ f ∷ g ∷ h ∷ [] in
    let back : List ℕ = e ∷ f ∷ g ∷ h ∷ [] in
    let first : all ≡ uint seconds ++ back = uint_prefix all (a ∷ b ∷ c ∷ d ∷ []) back seconds fits (omega arith) refl refl s in
    let second : back ≡ uint nanos ++ [] = uint_prefix back back [] nanos (AreBytes-drop 4 all fits) (omega arith) refl refl n in
    first ∙ ap (λ (x : List ℕ). uint seconds ++ x) (second ∙ append-nil (uint nanos))
moment_is _ seconds nanos fits long s n = absurd (omega arith)

-- eight bytes of a moment behind its header are its frame
pub in_moment : (payload : List ℕ) (at : Moment) → payload ≡ uint at.seconds ++ uint at.nanos → header 4 0 8 ++ payload ≡ in_frame (SetMoment at)
in_moment payload at e =
    let m = uint at.seconds ++ uint at.nanos in
    ap (λ (x : List ℕ). header 4 0 8 ++ x) e ∙ ap (λ (n : ℕ). header 4 0 n ++ m) (sym (length-moment at))

-- four bytes, and what follows them
word_split : (bytes : List ℕ) → AreBytes bytes → 4 ≤ length bytes → bytes ≡ uint (word bytes) ++ drop 4 bytes
word_split bytes fits long = rw (uint-word bytes fits long) (sym (take-append-drop 4 bytes))

-- at least nine bytes begin with a header
pub header_split : (bytes : List ℕ) → AreBytes bytes → 9 ≤ length bytes → bytes ≡ header (get_or bytes 0 0) (word (drop 1 bytes)) (word (drop 5 bytes)) ++ drop 9 bytes
header_split [] fits long = absurd (omega arith)
header_split (a ∷ rest) fits long =
    let tail_fits : AreBytes rest = AreBytes-drop 1 (a ∷ rest) fits in
    let first : rest ≡ uint (word rest) ++ drop 4 rest = word_split rest tail_fits (omega arith) in
    let second : drop 4 rest ≡ uint (word (drop 4 rest)) ++ drop 4 (drop 4 rest) =
    word_split (drop 4 rest) (AreBytes-drop 4 rest tail_fits) (omega (arith, length-drop 4 rest)) in
    let both : uint (word rest) ++ drop 4 rest ≡ uint (word rest) ++ (uint (word (drop 4 rest)) ++ drop 8 rest) =
    ap (λ (x : List ℕ). uint (word rest) ++ x) (second ∙ ap (λ (x : List ℕ). uint (word (drop 4 rest)) ++ x) (drop-drop 4 4 rest)) in
    ap (λ (x : List ℕ). a ∷ x) (first ∙ both ∙ sym (append_assoc (uint (word rest)) (uint (word (drop 4 rest))) (drop 8 rest)))

-- the moment that eight bytes encode
pub moment_of : List ℕ → Moment
moment_of bytes = record { seconds = word bytes; nanos = word (drop 4 bytes) }

pub moment_split : (bytes : List ℕ) → AreBytes bytes → length bytes ≡ 8 → bytes ≡ uint (moment_of bytes).seconds ++ uint (moment_of bytes).nanos
unfolding moment_of
moment_split bytes fits long =
    let none : drop 4 (drop 4 bytes) ≡ [] = nil_from_length (drop 4 (drop 4 bytes)) (omega (arith, length-drop 4 (drop 4 bytes), length-drop 4 bytes, long)) in
    let second : drop 4 bytes ≡ uint (word (drop 4 bytes)) =
    word_split (drop 4 bytes) (AreBytes-drop 4 bytes fits) (omega (arith, length-drop 4 bytes, long)) ∙ ap (λ (x : List ℕ). uint (word (drop 4 bytes)) ++ x) none ∙ append-nil (uint (word (drop 4 bytes))) in
    word_split bytes fits (omega arith) ∙ ap (λ (x : List ℕ). uint (word bytes) ++ x) second

-- its numbers fit
pub moment_fits : (bytes : List ℕ) → AreBytes bytes → ((moment_of bytes).seconds < 2 ^ 32) × ((moment_of bytes).nanos < 2 ^ 32)
unfolding moment_of
moment_fits bytes fits = (word_fits bytes fits, word_fits (drop 4 bytes) (AreBytes-drop 4 bytes fits))
