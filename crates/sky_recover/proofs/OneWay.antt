-- A site that tells what it has is found in one way. Crates above cite this.
use Rattle.std.proofs.Common.{◌≡◌, ℕ, ◌≤◌, List, Some, Ok, sym, ap, ◌∙◌, subst}
use Rattle.sky_outside.specs.CloudMap.{CloudMap}
use Rattle.sky_outside.specs.Told.{WhereTold}
use Rattle.sky_outside.specs.declared.storage.Storage.{Ghosts}
use Rattle.sky_outside.proofs.ToldLaws.{WhereTold-at}
use Rattle.sky_journal.specs.Journal.{JournalView, IsJournal, SameButSpare, StandsFor, first_base}
use Rattle.sky_sound.specs.Recovery.{history_of}
use Rattle.sky_sound.specs.Settled.{settled}
use Rattle.sky_sound.proofs.Settled.{settled_one}
use Rattle.sky_sound.proofs.Texts.{ok_same}
use Rattle.sky_recover.specs.Opening.{BeginsAt, Found, IsFoundOn, IsLeftOf, IsReadOn, SameButMemory}
use Rattle.sky_recover.proofs.Covered.{based}

module _ (volume size covers : ℕ) (image : List ℕ) where
  -- a journal that stands over an image, and begins with a number up to covers, is left as the one that is read there
  pub left_as_read : (j read : JournalView) (older newer : List (List ℕ)) → j.volume ≡ volume → j.size ≡ size → IsJournal j → StandsFor j image older newer → first_base j ≤ covers
      → IsReadOn volume size covers image read → settled covers read ≡ settled covers j
  left_as_read j read older newer volume_is size_is is stands low on =
      settled_one covers j read image older newer on.says.older on.says.newer (on.volume_is ∙ sym volume_is) (on.size_is ∙ sym size_is) is on.is stands on.says.stands low
      (based read covers image on.is on.says)

  -- two that are read from one image are left alike
  pub read_once : (one two : JournalView) → IsReadOn volume size covers image one → IsReadOn volume size covers image two → settled covers two ≡ settled covers one
  read_once one two first second =
      left_as_read one two first.says.older first.says.newer first.volume_is first.size_is first.is first.says.stands (based one covers image first.is first.says) second

-- so is the journal of two that were found
journal_once : (volume size : ℕ) (image : List ℕ) (one two : Found) → two.history.before ≡ one.history.before → IsLeftOf volume size one image → IsLeftOf volume size two image
    → SameButSpare one.journal two.journal
journal_once volume size image one two before first second =
    let covers : ℕ = one.history.before in
    let on : IsReadOn volume size covers image second.read = subst (λ (n : ℕ). IsReadOn volume size n image second.read) before second.is in
    let left : SameButSpare (settled covers second.read) two.journal = subst (λ (n : ℕ). SameButSpare (settled n second.read) two.journal) before second.left in
    let x : ℕ = two.journal.spare in
    left
    ∙ ap (λ (v : JournalView). record v { spare = x }) (read_once volume size covers image first.read second.read first.is on)
    ∙ ap (λ (v : JournalView). record v { spare = x }) (sym first.left)

module _ {S : Type 0} (g : Ghosts S) (s : S) where
  both_at : (P : List ℕ → CloudMap → Type 0) (image : List ℕ) (objects : CloudMap) → g.image s ≡ Some image → g.objects s ≡ Some objects
      → WhereTold (g.image s) (λ i. WhereTold (g.objects s) (P i)) → P image objects
  both_at P image objects told held holds =
      WhereTold-at (g.objects s) (P image) objects held (WhereTold-at (g.image s) (λ i. WhereTold (g.objects s) (P i)) image told holds)

  pub found_once : (volume size : ℕ) (image : List ℕ) (objects : CloudMap) (one two : Found) → g.image s ≡ Some image → g.objects s ≡ Some objects
      → IsFoundOn g volume size s one → IsFoundOn g volume size s two → SameButMemory one two
  found_once volume size image objects one two told held first second =
      let begins = WhereTold-at (g.objects s) (BeginsAt volume one) objects held first.cloud in
      let again = WhereTold-at (g.objects s) (BeginsAt volume two) objects held second.cloud in
      let said = both_at (λ i o. history_of volume size i o ≡ Ok one.history) image objects told held first.history in
      let same = both_at (λ i o. history_of volume size i o ≡ Ok two.history) image objects told held second.history in
      record {
        epoch = again.epoch ∙ sym begins.epoch;
        history = ok_same two.history one.history (history_of volume size image objects) same said;
        journal = journal_once volume size image one two (again.before ∙ sym begins.before) (WhereTold-at (g.image s) (IsLeftOf volume size one) image told first.journal)
            (WhereTold-at (g.image s) (IsLeftOf volume size two) image told second.journal);
      }
