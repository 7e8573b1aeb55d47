-- What recovery finds on a site of which the entries above covers and the last checkpoint are as they were. Crates above cite this.
use Rattle.std.proofs.Common.{◌≡◌, ℕ, List, Result, Ok, refl, sym, ap, ◌∙◌, arith}
use Rattle.sky_outside.specs.CloudMap.{CloudMap}
use Rattle.sky_nfs.specs.History.{History, tree_after_changes}
use Rattle.sky_sound.specs.Boot.{claimed}
use Rattle.sky_sound.specs.Cloud.{HasNoCheckpoint, cloud_tree}
use Rattle.sky_sound.specs.Entries.{changes_in, entries_above, journal_of, last_number}
use Rattle.sky_sound.specs.Recovery.{Recovered, recovered, history_of, IsSound, FindsSame}
use Rattle.sky_sound.specs.Refusal.{Refusal}
use Rattle.sky_sound.proofs.Above.{recovered_is, history_is, history_from_entries, sound_has_no_checkpoint}
use Rattle.sky_sound.proofs.Claims.{checkpoint_in-claimed, epoch_kept-claimed}
use Rattle.sky_recover.specs.Settling.{KeepsAbove}

module _ (volume size : ℕ) (image : List ℕ) (objects : CloudMap) where
  -- a sound site is found as it is
  pub finds_itself : IsSound volume size image objects → FindsSame volume size image objects image objects
  finds_itself is = record { sound = is; same = refl; epoch = omega arith }

  -- the entries that a sound site says
  pub sound_entries : IsSound volume size image objects → (list : List (ℕ × List ℕ)) × (journal_of volume size 0 image ≡ Ok list)
  sound_entries is = let found = history_from_entries volume size image objects is.history is.stands_for in (found.0, found.1)

  -- the history and what is found, of these entries above covers
  history_by : List (ℕ × List ℕ) → Result History Refusal
  history_by above = Ok (record { before = 0; tree = cloud_tree volume objects; changes = changes_in above })

  found_by : List (ℕ × List ℕ) → Result Recovered Refusal
  found_by above = Ok (record { length = last_number 0 above; tree = tree_after_changes (cloud_tree volume objects) (changes_in above) })

  history_is_by : (left : List ℕ) (held : CloudMap) (list : List (ℕ × List ℕ)) → HasNoCheckpoint held → journal_of volume size 0 left ≡ Ok list → history_of volume size left held ≡ history_by (entries_above 0 list)
  unfolding history_by
  history_is_by left held list none says = history_is volume size left held list none says

  recovered_is_by : (left : List ℕ) (held : CloudMap) (list : List (ℕ × List ℕ)) → HasNoCheckpoint held → journal_of volume size 0 left ≡ Ok list → recovered volume size left held ≡ found_by (entries_above 0 list)
  unfolding found_by
  recovered_is_by left held list none says = recovered_is volume size left held list none says

  -- the same entries above covers, and a cloud in which the next epoch was claimed
  pub finds_claimed : (left : List ℕ) (list : List (ℕ × List ℕ)) → IsSound volume size image objects → journal_of volume size 0 image ≡ Ok list → KeepsAbove volume size 0 list left
      → FindsSame volume size image objects left (claimed objects)
  finds_claimed left list is says keeps =
      let none : HasNoCheckpoint objects = sound_has_no_checkpoint volume size image objects is in
      let still : HasNoCheckpoint (claimed objects) = checkpoint_in-claimed objects ∙ none in
      record {
        sound = record {
          history = is.history;
          stands_for = history_is_by left (claimed objects) keeps.read still keeps.says
              ∙ ap history_by keeps.above
              ∙ sym (history_is_by image objects list none says)
              ∙ is.stands_for;
          legal = is.legal;
        };
        same = recovered_is_by left (claimed objects) keeps.read still keeps.says ∙ ap found_by keeps.above ∙ sym (recovered_is_by image objects list none says);
        epoch = epoch_kept-claimed objects;
      }
