-- Parts of an image, and parts of these.
use Rattle.std.proofs.Common.{◌≡◌, ℕ, ◌+◌, ◌-◌, ◌≤◌, List, take, drop, ◌∙◌, ap, arith}
use Rattle.std.proofs.lemmas.List.{take-take, drop-take, drop-drop}
use Rattle.sky_outside.specs.Image.{bytes_at}

-- a part of a part is a part of the whole
pub part_of_part : (image : List ℕ) (at len p n : ℕ) → p + n ≤ len → bytes_at (bytes_at image at len) p n ≡ bytes_at image (at + p) n
part_of_part image at len p n fits =
    let part : List ℕ = drop at image in
    let split : len ≡ p + (len - p) = omega arith in
    let dropped : drop p (take len part) ≡ take (len - p) (drop p part) = ap (λ (k : ℕ). drop p (take k part)) split ∙ drop-take p (len - p) part in
    let shorter : take n (take (len - p) (drop p part)) ≡ take n (drop p part) = take-take n (len - p) (drop p part) (omega arith) in
    ap (λ (l : List ℕ). take n l) dropped ∙ shorter ∙ ap (λ (l : List ℕ). take n l) (drop-drop p at image)
