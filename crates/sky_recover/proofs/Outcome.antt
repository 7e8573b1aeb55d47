-- What an opening found and left, from what its steps gave. Crates above cite this.
use Rattle.std.specs.Prelude.{nat_lt, IsSome}
use Rattle.std.proofs.Common.{◌≡◌, ℕ, ◌+◌, List, length, Some, Result, Ok, refl, sym, ap, subst, ◌∙◌, arith}
use Rattle.sky_calls.specs.Durable.{DurableView}
use Rattle.sky_nfs.specs.History.{History}
use Rattle.sky_nfs.specs.Tree.{empty_tree}
use Rattle.sky_nfs.specs.Validity.{IsValidTree}
use Rattle.sky_nfs.specs.declared.call.Change.{Change}
use Rattle.sky_outside.specs.CloudMap.{CloudMap}
use Rattle.sky_outside.specs.Told.{WhereTold}
use Rattle.sky_outside.specs.declared.storage.Storage.{Ghosts}
use Rattle.sky_outside.proofs.ToldLaws.{WhereTold-at, WhereTold-from}
use Rattle.sky_journal.specs.Journal.{JournalView, IsJournal, entries, number_behind}
use Rattle.sky_sound.specs.Cloud.{HasNoCheckpoint, epoch_after}
use Rattle.sky_sound.specs.Entries.{changes_in, entries_above, journal_of}
use Rattle.sky_sound.specs.Recovery.{history_of}
use Rattle.sky_sound.specs.Refusal.{Refusal}
use Rattle.sky_sound.proofs.Above.{history_is}
use Rattle.sky_sound.proofs.Settled.{settled_area, settled_stays}
use Rattle.sky_recover.specs.Opening.{BeginsAt, IsFoundOn, IsLeftOf, IsOpened, IsOpenOn, found_by}
use Rattle.sky_recover.specs.Refusals.{IsClaimable}
use Rattle.sky_recover.specs.Settling.{IsRead}
use Rattle.sky_recover.specs.Steps.{IsContinued}
use Rattle.sky_recover.specs.declared.opened.Opened.{Opened}
use Rattle.sky_recover.proofs.Moments.{WhereBothTold-from}

module _ {S : Type 0} (g : Ghosts S) (v a : ℕ) (s u w : S) (j : JournalView) (d : DurableView) (o : Opened)
    (is_j : IsJournal j) (volume_is : j.volume ≡ v) (size_is : j.size ≡ a) (same : g.image u ≡ g.image s) (read : WhereTold (g.image u) (IsRead j 0)) (went : IsContinued g v j u w d) where
  history : History
  history = record { before = 0; tree = empty_tree v; changes = went.changes }

  read_at : (image : List ℕ) → g.image s ≡ Some image → IsRead j 0 image
  read_at image told = WhereTold-at (g.image u) (IsRead j 0) image (same ∙ told) read

  -- the changes are those of the image
  said : (image : List ℕ) (objects : CloudMap) → HasNoCheckpoint objects → g.image s ≡ Some image → history_of v a image objects ≡ Ok history
  unfolding history
  said image objects none told =
      let reads = read_at image told in
      let list : List (ℕ × List ℕ) = entries j reads.older reads.newer in
      let are : went.changes ≡ changes_in (entries_above 0 list) =
      WhereTold-at (g.image u) (λ x. (l : List (ℕ × List ℕ)) → journal_of j.volume j.size 0 x ≡ Ok l → went.changes ≡ changes_in (entries_above 0 l)) image (same ∙ told) went.told list reads.says in
      let says : journal_of v a 0 image ≡ Ok list =
      ap (λ (n : ℕ). journal_of n a 0 image) (sym volume_is) ∙ ap (λ (n : ℕ). journal_of j.volume n 0 image) (sym size_is) ∙ reads.says in
      history_is v a image objects list none says
      ∙ ap (λ (l : List Change). let r : Result History Refusal = Ok (record { before = 0; tree = empty_tree v; changes = l }) in r) (sym are)

  found : IsValidTree (empty_tree v) → WhereTold (g.objects s) (λ objects. o.epoch ≡ epoch_after objects) → WhereTold (g.objects s) IsClaimable
      → IsFoundOn g v a s (found_by o history d.journal)
  unfolding history said
  found valid epoch_is claimable = record {
    legal = record { valid = valid; done = went.done };
    storable = went.storable;
    volume = refl;
    journal_volume = ap (λ (x : JournalView). x.volume) went.settled ∙ volume_is;
    journal_size = ap (λ (x : JournalView). x.size) went.settled ∙ size_is;
    pending = ap (λ (x : JournalView). x.pending) went.settled;
    up = ap (λ (x : JournalView). x.down) went.settled;
    history = WhereBothTold-from g s (λ image objects. history_of v a image objects ≡ Ok history) (λ image objects told held. said image objects (WhereTold-at (g.objects s) IsClaimable objects held claimable).no_checkpoint told);
    cloud = WhereTold-from (g.objects s) (BeginsAt v (found_by o history d.journal))
        (λ objects held. record {
          no_checkpoint = (WhereTold-at (g.objects s) IsClaimable objects held claimable).no_checkpoint;
          before = refl;
          tree = refl;
          epoch = WhereTold-at (g.objects s) (λ x. o.epoch ≡ epoch_after x) objects held epoch_is;
        });
    journal = WhereTold-from (g.image s) (IsLeftOf v a (found_by o history d.journal))
        (λ image told. record { read = j; is = record { is = is_j; volume_is = volume_is; size_is = size_is; says = read_at image told }; left = went.settled });
  }

  as_long : number_behind d.journal.newer 0 ≡ 0 + length went.changes
  as_long = omega (arith, went.count)

  opens : IsJournal d.journal → IsOpenOn g w (found_by o history d.journal)
  unfolding history
  opens is_d = record {
    is = is_d;
    area = subst (λ (x : JournalView). IsSome x.newer) (sym went.settled) (settled_area 0 j);
    up = ap (λ (x : JournalView). x.down) went.settled;
    pending = ap (λ (x : JournalView). x.pending) went.settled;
    stored = as_long;
    stands = went.stands;
    has = went.has;
    stays = settled_stays 0 j d.journal went.settled;
  }

  pub opened : IsJournal d.journal → IsValidTree (empty_tree v) → WhereTold (g.objects s) (λ objects. o.epoch ≡ epoch_after objects) → WhereTold (g.objects s) IsClaimable
      → o.k ≡ number_behind d.journal.newer 0 → o.journal ≡ nat_lt 0 o.k → IsOpened g v a s w d o
  unfolding history
  opened is_d valid epoch_is claimable k_is journal_is = record {
    history = history;
    found = found valid epoch_is claimable;
    opens = opens is_d;
    tree = went.tree_is;
    k = k_is ∙ as_long;
    journal = journal_is ∙ ap (λ (n : ℕ). nat_lt 0 n) (k_is ∙ as_long);
    nothing_before = refl;
    begins = refl;
  }
