-- What a write may leave, torn or whole. Crates above cite these.
use Rattle.std.proofs.Common.{◌≡◌, ℕ, ◌+◌, ◌-◌, ◌≤◌, List, ◌++◌, length, take, drop, refl, ◌∙◌, ap, arith, append_assoc, length-append, length-drop}
use Rattle.std.proofs.lemmas.List.{take_at, drop_at, length-take-le}
use Rattle.sky_outside.specs.Image.{written, Torn}

-- nothing of a range was torn
pub Torn-none : (at n : ℕ) (image : List ℕ) → Torn at n image image
Torn-none at n image = record { before = refl; behind = refl; size = refl }

-- a range was torn, and torn again
pub Torn-again : (at n : ℕ) (a b c : List ℕ) → Torn at n a b → Torn at n b c → Torn at n a c
Torn-again at n a b c first second = record {
  before = second.before ∙ first.before;
  behind = second.behind ∙ first.behind;
  size = second.size ∙ first.size;
}

-- a write leaves the image with any bytes in its range
pub Torn-written : (image : List ℕ) (at : ℕ) (bytes : List ℕ) → at + length bytes ≤ length image → Torn at (length bytes) image (written image at bytes)
Torn-written image at bytes fits =
    let prefix : length (take at image) ≡ at = length-take-le at image (omega arith) in
    let rest : List ℕ = drop (at + length bytes) image in
    let both : length (take at image ++ bytes) ≡ at + length bytes = omega (arith, prefix, length-append (take at image) bytes) in
    let long : length rest ≡ length image - (at + length bytes) = length-drop (at + length bytes) image in
    let regrouped : written image at bytes ≡ take at image ++ (bytes ++ rest) = append_assoc (take at image) bytes rest in
    record {
      before = ap (λ (l : List ℕ). take at l) regrouped ∙ take_at (take at image) (bytes ++ rest) at prefix;
      behind = drop_at (take at image ++ bytes) rest (at + length bytes) both;
      size = omega (arith, both, long, length-append (take at image ++ bytes) rest);
    }
