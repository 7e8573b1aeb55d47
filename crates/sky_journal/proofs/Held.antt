-- What is copied out of a piece of an image that is in memory.
use Rattle.std.proofs.Common.{◌≡◌, ℕ, ◌+◌, ◌-◌, ◌≤◌, List, length, take, drop, Option, Some, ◌∙◌, ap, subst, arith}
use Rattle.sky_outside.specs.Image.{bytes_at}
use Rattle.sky_journal.specs.Looking.{AreHeld, Covers}
use Rattle.sky_journal.proofs.Parts.{part_of_part}

-- what is taken from the bytes that are held is what the image has
pub taken : (held : Option ℕ) (at len from n : ℕ) (buf image : List ℕ) → held ≡ Some at → Covers held len from n → length buf ≡ len → AreHeld held buf image
    → take ((from - at) + n - (from - at)) (drop (from - at) buf) ≡ bytes_at image from n
taken held at len from n buf image is covers long held_is =
    let within : Covers (Some at) len from n = subst (λ (o : Option ℕ). Covers o len from n) is covers in
    let same : AreHeld (Some at) buf image = subst (λ (o : Option ℕ). AreHeld o buf image) is held_is in
    let count : (from - at) + n - (from - at) ≡ n = omega arith in
    let place : at + (from - at) ≡ from = omega (arith, within.0) in
    let fits : (from - at) + n ≤ length buf = omega (arith, within.0, within.1, long) in
    ap (λ (k : ℕ). take k (drop (from - at) buf)) count
    ∙ ap (λ (l : List ℕ). bytes_at l (from - at) n) same
    ∙ part_of_part image at (length buf) (from - at) n fits
    ∙ ap (λ (k : ℕ). bytes_at image k n) place
