-- What a site tells, what an opening found on it, and what a crash leaves until its first frame.
--   told_both, tells_both         a site that tells what it has
--   found_none, opened_leaves     what an opening leaves
--   found_prefix                  what recovery finds is what the opening found
--   refused_unsound               a sound site is refused for nothing that it has
use Rattle.std.specs.Prelude.{is_some, ◌&&◌}
use Rattle.std.proofs.Common.{◌≡◌, ◌+◌, ◌-◌, ◌<◌, ℕ, true, Option, Some, None, Ok, List, length, take, refl, sym, ap, subst, ◌∙◌, arith}
use Rattle.std.proofs.Math.Seq.{take-length}
use Rattle.sky_base.specs.declared.place.Lost.TheVariants as lost
use Rattle.sky_base.specs.declared.status.Status.{Status}
use Rattle.sky_base.specs.declared.status.Status.TheVariants as status
use Rattle.sky_nfs.specs.History.{History, history_length, last_tree, tree_after_changes, tree_at_length}
use Rattle.sky_nfs.specs.declared.call.Change.{Change}
use Rattle.sky_outside.specs.CloudMap.{CloudMap}
use Rattle.sky_outside.specs.Moments.{HoldsNow, LeavesOnly, NothingPending, OfPair}
use Rattle.sky_outside.specs.declared.storage.Storage.{Ghosts}
use Rattle.sky_outside.proofs.MomentLaws.{LeavesOnly-start, only_read}
use Rattle.sky_outside.proofs.ToldLaws.{WhereTold-at}
use Rattle.sky_recover.specs.Opening.{BeginsAt, Found, IsFoundOn, LeavesFound, WhereBothTold}
use Rattle.sky_recover.specs.declared.fault.OpenFault.TheVariants as fault
use Rattle.sky_recover.proofs.Refused.{sound_unrefused}
use Rattle.sky_settings.specs.declared.settings.Fields.{Fields}
use Rattle.sky_sound.specs.Boot.{Claims, claimed}
use Rattle.sky_sound.specs.Cloud.{epoch_after}
use Rattle.sky_sound.specs.Recovery.{FindsSame, IsSound, history_of, recovered}
use Rattle.sky_sound.proofs.Above.{history_recovered}
use Rattle.sky_sound.proofs.Claims.{epoch_after-claimed}
use Rattle.sky_world.specs.Finding.{FindsPrefix}
use Rattle.sky_world.specs.Meaning.{kept_of}
use Rattle.sky_world.specs.Opening.{IsRefusedAs}
use Rattle.sky_world.specs.World.{tells}
use Rattle.sky_world.proofs.FindingLaws.{both_told_at, both_told_from, leaves_as}
use Rattle.bluesky.specs.Run.{IsOfDamage}
use Rattle.bluesky.specs.Stop.{Opened}

-- ---- what is told

two_told : {A B : Type 0} (a : Option A) (b : Option B) → (is_some a && is_some b) ≡ true → (x : A) × (y : B) × (a ≡ Some x) × (b ≡ Some y)
two_told None b told = absurd cc
two_told (Some x) None told = absurd cc
two_told (Some x) (Some y) told = (x, y, refl, refl)

two_tell : {A B : Type 0} (a : Option A) (b : Option B) (x : A) (y : B) → a ≡ Some x → b ≡ Some y → (is_some a && is_some b) ≡ true
two_tell None b x y p q = absurd cc
two_tell (Some w) None x y p q = absurd cc
two_tell (Some w) (Some z) x y p q = refl

module _ {S : Type 0} (g : Ghosts S) where
  -- a site that tells what it has, tells this
  pub told_both : (s : S) → tells g s ≡ true → (image : List ℕ) × (objects : CloudMap) × (g.image s ≡ Some image) × (g.objects s ≡ Some objects)
  told_both s told = two_told (g.image s) (g.objects s) told

  pub tells_both : (s : S) (image : List ℕ) (objects : CloudMap) → g.image s ≡ Some image → g.objects s ≡ Some objects → tells g s ≡ true
  tells_both s image objects is held = two_tell (g.image s) (g.objects s) image objects is held

-- what a cloud that tells holds once an epoch was claimed
claims_told : (a b : Option CloudMap) (held : CloudMap) → a ≡ Some held → Claims 1 a b → (objects : CloudMap) × (b ≡ Some objects) × (objects ≡ claimed held)
claims_told None b held is claims = absurd cc
claims_told (Some x) None held is claims = absurd claims
claims_told (Some x) (Some y) held is claims = let same : x ≡ held = cc in (y, refl, claims ∙ ap claimed same)

-- ---- until the first frame

module _ {S : Type 0} (g : Ghosts S) (settings : Fields) where
  abbrev volume : ℕ
  volume = settings.volume

  abbrev size : ℕ
  size = settings.journal_area

  -- recovery finds the same on the site itself
  found_now : (s : S) → NothingPending g s → (image : List ℕ) (objects : CloudMap) → g.image s ≡ Some image → g.objects s ≡ Some objects → IsSound volume size image objects
      → LeavesOnly g s s (FindsSame volume size image objects)
  found_now s nothing image objects is held sound =
      LeavesOnly-start g s (FindsSame volume size image objects)
      (λ left now may.
      let same : left ≡ image = only_read g s image is nothing left may.0 in
      let beside : now ≡ objects = WhereTold-at (g.objects s) (λ told. now ≡ told) objects held may.1 in
      let here : FindsSame volume size image objects image objects = record { sound = sound; same = refl; epoch = omega arith } in
      subst (λ (i : List ℕ). FindsSame volume size image objects i now) (sym same)
      (subst (λ (o : CloudMap). FindsSame volume size image objects image o) (sym beside) here))

  -- nothing was done yet
  pub found_none : (s : S) → NothingPending g s → LeavesFound g volume size s s
  found_none s nothing =
      both_told_from g s (λ image objects. IsSound volume size image objects → LeavesOnly g s s (FindsSame volume size image objects)) (λ image objects is held sound. found_now s nothing image objects is held sound)

  -- what was found on a site is there, and so the site is sound
  pub history_found : (s : S) (found : Found) (image : List ℕ) (objects : CloudMap) → g.image s ≡ Some image → g.objects s ≡ Some objects → IsFoundOn g volume size s found
      → history_of volume size image objects ≡ Ok found.history
  history_found s found image objects is held on = both_told_at g s (λ i o. history_of volume size i o ≡ Ok found.history) image objects is held on.history

  pub found_sound : (s : S) (found : Found) (image : List ℕ) (objects : CloudMap) → g.image s ≡ Some image → g.objects s ≡ Some objects → IsFoundOn g volume size s found
      → IsSound volume size image objects
  found_sound s found image objects is held on = record {
    history = found.history;
    stands_for = history_found s found image objects is held on;
    legal = on.legal;
  }

  -- what an opening that found something leaves
  pub leaves_found : (s t : S) (found : Found) (P : List ℕ → CloudMap → OfPair) → IsFoundOn g volume size s found → LeavesFound g volume size s t
      → ((read : List ℕ) (held : CloudMap) (image : List ℕ) (objects : CloudMap) → FindsSame volume size read held image objects → P read held image objects)
      → WhereBothTold g s (λ read held. LeavesOnly g s t (P read held))
  leaves_found s t found P on leaves from =
      both_told_from g s (λ read held. LeavesOnly g s t (P read held))
      (λ read held is held_is.
      let sound : IsSound volume size read held = found_sound s found read held is held_is on in
      leaves_as g s t (FindsSame volume size read held) (P read held) (from read held)
      (both_told_at g s (λ i o. IsSound volume size i o → LeavesOnly g s t (FindsSame volume size i o)) read held is held_is leaves sound))

  pub opened_leaves : (s t : S) (found : Found) (P : List ℕ → CloudMap → OfPair) → Opened g settings s t found
      → ((read : List ℕ) (held : CloudMap) (image : List ℕ) (objects : CloudMap) → FindsSame volume size read held image objects → P read held image objects)
      → WhereBothTold g s (λ read held. LeavesOnly g s t (P read held))
  opened_leaves s t found P opened from = leaves_found s t found P opened.found_on opened.leaves from

  -- ---- what was found

  -- all changes of a history are the first ones up to its length
  tree_at_end : (h : History) → tree_at_length h (history_length h) ≡ last_tree h
  tree_at_end h =
      let long : (h.before + length h.changes) - h.before ≡ length h.changes = omega arith in
      ap (λ (n : ℕ). tree_after_changes h.tree (take n h.changes)) long ∙ ap (λ (l : List Change). tree_after_changes h.tree l) (take-length h.changes)

  -- where recovery finds the same as on a site, it finds what an opening found there; and behind the opening its epoch was claimed
  pub found_prefix : (s : S) (found : Found) (read : List ℕ) (held : CloudMap) → g.image s ≡ Some read → g.objects s ≡ Some held → IsFoundOn g volume size s found
      → (image : List ℕ) (objects : CloudMap) → FindsSame volume size read held image objects → found.epoch < epoch_after objects
      → FindsPrefix found.epoch (history_length found.history) (kept_of found) image objects
  found_prefix s found read held is held_is on image objects same later =
      let h : History = found.history in
      let was = history_recovered volume size read held h (history_found s found read held is held_is on) in
      let tree : last_tree h ≡ tree_at_length h (history_length h) = sym (tree_at_end h) in
      let now : recovered volume size image objects ≡ Ok (record { length = history_length h; tree = tree_at_length h (history_length h) }) =
      same.same ∙ was ∙ ap (λ t. Ok (record { length = history_length h; tree = t })) tree in
      record {
        n = history_length h;
        least = omega arith;
        most = omega arith;
        sound = subst (λ (v : ℕ). IsSound v found.journal.size image objects) (sym on.volume) (subst (λ (z : ℕ). IsSound volume z image objects) (sym on.journal_size) same.sound);
        found = subst (λ (v : ℕ). recovered v found.journal.size image objects ≡ Ok (record { length = history_length h; tree = tree_at_length h (history_length h) })) (sym on.volume)
            (subst (λ (z : ℕ). recovered volume z image objects ≡ Ok (record { length = history_length h; tree = tree_at_length h (history_length h) })) (sym on.journal_size) now);
        later_epoch = later;
      }

  -- behind an opening the cloud holds the boot object of its epoch
  pub claimed_later : (s t : S) (found : Found) (held : CloudMap) → g.objects s ≡ Some held → IsFoundOn g volume size s found → Claims 1 (g.objects s) (g.objects t)
      → (objects : CloudMap) → HoldsNow g t objects → found.epoch < epoch_after objects
  claimed_later s t found held is on claims objects now =
      let begins : found.epoch ≡ epoch_after held = (WhereTold-at (g.objects s) (BeginsAt volume found) held is on.cloud).epoch in
      let told = claims_told (g.objects s) (g.objects t) held is claims in
      let same : objects ≡ claimed held = WhereTold-at (g.objects t) (λ o. objects ≡ o) told.0 told.1 now ∙ told.2 in
      omega (arith, begins, ap epoch_after same, epoch_after-claimed held)

-- ---- a sound site

-- it is refused for nothing that it has
sound_not_refused : (number area : ℕ) (v : Status) (image : List ℕ) (objects : CloudMap) → IsSound number area image objects → IsRefusedAs number area v image objects → IsOfDamage v → ⊥
sound_not_refused number area (status.Foreign at) image objects sound refused damage = sound_unrefused number area image objects sound ℕ (fault.Foreign at) refused
sound_not_refused number area (status.Missing name) image objects sound refused damage = sound_unrefused number area image objects sound ℕ (fault.Lost (lost.Missing name)) refused
sound_not_refused number area (status.Damaged name harm) image objects sound refused damage = sound_unrefused number area image objects sound ℕ (fault.Lost (lost.Damaged name harm)) refused
sound_not_refused number area status.Done image objects sound refused damage = damage
sound_not_refused number area status.Words image objects sound refused damage = damage
sound_not_refused number area (status.Malformed at) image objects sound refused damage = damage
sound_not_refused number area status.Early image objects sound refused damage = damage
sound_not_refused number area status.SourceFault image objects sound refused damage = damage
sound_not_refused number area status.SinkFault image objects sound refused damage = damage
sound_not_refused number area status.JournalFault image objects sound refused damage = damage
sound_not_refused number area status.CloudFault image objects sound refused damage = damage
sound_not_refused number area status.Memory image objects sound refused damage = damage
sound_not_refused number area status.Worn image objects sound refused damage = damage
sound_not_refused number area status.Long image objects sound refused damage = damage
sound_not_refused number area status.Settings image objects sound refused damage = damage

module _ {S : Type 0} (g : Ghosts S) (number area : ℕ) (s : S) where
  -- a site that is refused for what it has is none
  pub refused_unsound : (v : Status) → WhereBothTold g s (IsRefusedAs number area v) → IsOfDamage v → WhereBothTold g s (λ image objects. IsSound number area image objects → ⊥)
  refused_unsound v refused damage =
      both_told_from g s (λ image objects. IsSound number area image objects → ⊥)
      (λ image objects is held sound. sound_not_refused number area v image objects sound (both_told_at g s (IsRefusedAs number area v) image objects is held refused) damage)

  -- a status that comes on no site that tells what it has
  pub untold_unsound : (tells g s ≡ true → ⊥) → WhereBothTold g s (λ image objects. IsSound number area image objects → ⊥)
  untold_unsound none =
      both_told_from g s (λ image objects. IsSound number area image objects → ⊥) (λ image objects is held sound. none (tells_both g s image objects is held))
