-- How bytes begin where a frame is due: with one, with what is refused, or with a part of one that is cut short.
use Rattle.std.specs.Prelude.{◌≡◌, ◌<◌, ◌≤◌, ◌^◌, ℕ, true, false, List, ◌++◌, length, Option}
use Rattle.sky_base.specs.declared.moment.Moment.{Moment}
use Rattle.sky_outside.specs.Told.{Had}
use Rattle.sky_xdr.specs.Encoding.{AreBytes}
use Rattle.sky_script.specs.Frame.{InFrame, SetMoment, IsInFrame, in_frame, header, is_header, second}

-- What a reader takes where no frame can be, and no byte more: a header that is none of a frame that may go in, or a whole
-- frame 4 whose nanoseconds are a second or more.
pub data IsRefused (taken : List ℕ) : Type 0 where
  refused_header : (kind session len : ℕ) → kind < 2 ^ 8 → session < 2 ^ 32 → len < 2 ^ 32 → taken ≡ header kind session len
      → is_header kind session len ≡ false → IsRefused taken
  refused_moment : (at : Moment) → at.seconds < 2 ^ 32 → at.nanos < 2 ^ 32 → taken ≡ in_frame (SetMoment at)
      → second ≤ at.nanos → IsRefused taken

-- A part of a frame, and not all of it: a part of its header, or its header and less than the payload that it says.
pub data IsCutShort (taken : List ℕ) : Type 0 where
  within_header : length taken < 9 → IsCutShort taken
  within_payload : (kind session len : ℕ) (more : List ℕ) → taken ≡ header kind session len ++ more
      → is_header kind session len ≡ true → length more < len → IsCutShort taken

-- a source had such bytes at its beginning, and now has what followed them
abbrev pub HadSome : (List ℕ → Type 0) → Option (List ℕ) → Option (List ℕ) → Type 0
HadSome P before now = (taken : List ℕ) × P taken × Had before now taken

-- how bytes begin
pub data Begins (bytes : List ℕ) : Type 0 where
  with_frame : (f : InFrame) (rest : List ℕ) → IsInFrame f → bytes ≡ in_frame f ++ rest → Begins bytes
  with_refused : (taken rest : List ℕ) → IsRefused taken → bytes ≡ taken ++ rest → Begins bytes
  cut_short : IsCutShort bytes → Begins bytes

-- Bytes begin in one way and in no other.
pub record HasOneBeginning (bytes : List ℕ) : Type 0 where
  pub some : AreBytes bytes → Begins bytes
  pub one_frame : (f g : InFrame) (rest others : List ℕ) → IsInFrame f → IsInFrame g → bytes ≡ in_frame f ++ rest → bytes ≡ in_frame g ++ others
      → (f ≡ g) × (rest ≡ others)
  pub one_refused : (taken other rest others : List ℕ) → IsRefused taken → IsRefused other → bytes ≡ taken ++ rest → bytes ≡ other ++ others
      → (taken ≡ other) × (rest ≡ others)
  pub not_refused : (f : InFrame) (taken rest others : List ℕ) → IsInFrame f → bytes ≡ in_frame f ++ rest → IsRefused taken → bytes ≡ taken ++ others → ⊥
  pub not_cut : (f : InFrame) (rest : List ℕ) → IsInFrame f → bytes ≡ in_frame f ++ rest → IsCutShort bytes → ⊥
  pub refused_not_cut : (taken rest : List ℕ) → IsRefused taken → bytes ≡ taken ++ rest → IsCutShort bytes → ⊥
