-- What the calls of a journal that write to its disk leave as it was.
use Rattle.std.specs.Prelude.{◌≡◌, ◌⊎◌, ℕ, ◌*◌, List, drop, true}
use Rattle.sky_outside.specs.Image.{bytes_at}
use Rattle.sky_journal.specs.Laid.{BeginsAt}
use Rattle.sky_journal.specs.Journal.{JournalView}

-- the journal after a call of its disk failed: as it was, and down
abbrev pub after_failure : JournalView → JournalView
after_failure j = record j { down = true }

-- behind the second area, and in each area that is closed for this journal, the image is as it was
pub record LeavesRest (j : JournalView) (old new : List ℕ) : Type 0 where
  pub behind : drop (2 * j.size) new ≡ drop (2 * j.size) old
  pub closed : (start : ℕ) → (start ≡ 0) ⊎ (start ≡ j.size) → (BeginsAt start j.older → ⊥) → (BeginsAt start j.newer → ⊥) → bytes_at new start j.size ≡ bytes_at old start j.size
