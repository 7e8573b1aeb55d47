-- A disk's image: its bytes, in order.
use Rattle.std.specs.Prelude.{◌≡◌, ℕ, ◌+◌, List, ◌++◌, length, take, drop}

-- n bytes of it, from this place on
abbrev pub bytes_at : List ℕ → ℕ → ℕ → List ℕ
bytes_at image at n = take n (drop at image)

-- the image with these bytes at this place
abbrev pub written : List ℕ → ℕ → List ℕ → List ℕ
written image at bytes = take at image ++ bytes ++ drop (at + length bytes) image

-- an image with any bytes in this range, and otherwise as it was
pub record Torn (at n : ℕ) (old new : List ℕ) : Type 0 where
  pub before : take at new ≡ take at old
  pub behind : drop (at + n) new ≡ drop (at + n) old
  pub size : length new ≡ length old
