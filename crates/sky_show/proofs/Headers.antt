-- The numbers of a header, read at their places.
use Rattle.std.proofs.Common.{◌≡◌, ◌-◌, ℕ, List, [], ◌∷◌, ◌++◌, length, take, drop, get_or, refl, ap, ◌∙◌, arith}
use Rattle.std.proofs.lemmas.List.{append-nil}
use Rattle.byteorder.specs.Endian.{big_number}
use Rattle.sky_xdr.specs.Encoding.{AreBytes, uint}
use Rattle.sky_xdr.proofs.Numbers.{uint_prefix, AreBytes-drop}
use Rattle.sky_script.specs.Frame.{header}

-- nine bytes are a header, whose numbers are read at their places
pub header_is : (bytes : List ℕ) (session len : ℕ) → AreBytes bytes → length bytes ≡ 9 → session ≡ big_number 4 (take (length bytes - 1) (drop 1 bytes)) → len ≡ big_number 4 (take (length bytes - 5) (drop 5 bytes))
    → bytes ≡ header (get_or bytes 0 0) session len
header_is (a ∷ b ∷ c ∷ d ∷ e ∷ f ∷ g ∷ h ∷ i ∷ []) session len fits long s l =
    let all : List ℕ = a ∷ b ∷ c ∷ d ∷ e ∷ f ∷ g ∷ h ∷ i ∷ [] in
    let back : List ℕ = f ∷ g ∷ h ∷ i ∷ [] in
    let prefix : List ℕ = b ∷ c ∷ d ∷ e ∷ [] in
    let first : prefix ++ back ≡ uint session ++ back = uint_prefix (prefix ++ back) prefix back session (AreBytes-drop 1 all fits) (omega arith) refl refl s in
    let second : back ≡ uint len ++ [] = uint_prefix back back [] len (AreBytes-drop 5 all fits) (omega arith) refl refl l in
    ap (λ (x : List ℕ). a ∷ x) (first ∙ ap (λ (x : List ℕ). uint session ++ x) (second ∙ append-nil (uint len)))
header_is _ session len fits long s l = absurd (omega arith)
