-- By what an opening is refused, and that a sound site is refused by none of it. Crates above cite this.
use Rattle.std.specs.Prelude.{◌&&◌, IsErrOf, IsTrue}
use Rattle.std.proofs.Common.{◌≡◌, ⊎_elim, inl, inr, ℕ, Bool, true, false, List, [], ◌∷◌, ◌++◌, Option, Some, None, Result, Ok, Err, refl, sym, ap, ◌∙◌, subst}
use Rattle.std.proofs.lemmas.Bool.{true≢false}
use Rattle.sky_base.specs.declared.object.SegName.{SegName}
use Rattle.sky_base.specs.declared.place.Damage.TheVariants.{Form}
use Rattle.sky_base.specs.declared.place.Lost.TheVariants.{Damaged}
use Rattle.sky_nfs.specs.History.{History, are_done, history_length, is_done, last_tree, tree_after_change, tree_after_changes}
use Rattle.sky_nfs.specs.Tree.{Tree, empty_tree}
use Rattle.sky_nfs.specs.declared.call.Change.{Change}
use Rattle.sky_outside.specs.CloudMap.{CloudMap, listing}
use Rattle.sky_outside.specs.Told.{WhereTold}
use Rattle.sky_outside.specs.declared.site.Held.{Held}
use Rattle.sky_outside.specs.declared.storage.Storage.{Ghosts}
use Rattle.sky_outside.proofs.ToldLaws.{WhereTold-at, WhereTold-from}
use Rattle.sky_checkpoint.specs.Listing.{last_checkpoint}
use Rattle.sky_sound.specs.Cloud.{HasNoCheckpoint}
use Rattle.sky_sound.specs.Entries.{change_of, changes_in, entries_above, journal_of, with_change}
use Rattle.sky_sound.specs.Recovery.{IsSound, recovered}
use Rattle.sky_sound.specs.Refusal.{Refusal, Foreign}
use Rattle.sky_sound.proofs.Above.{checkpoint_refused, foreign_refused, history_from_entries, history_recovered}
use Rattle.sky_sound.proofs.Texts.{ok_same}
use Rattle.sky_recover.specs.Faults.{of_claim, of_list, of_replay}
use Rattle.sky_recover.specs.Opening.{WhereBothTold}
use Rattle.sky_recover.specs.Refusals.{IsClaimable, IsJudged, IsLost, IsOfDevices, IsRefusedBy, IsWorn, refusal_of}
use Rattle.sky_recover.specs.Replaying.{FailsAt, FailsOn}
use Rattle.sky_recover.specs.declared.fault.ClaimFault.{ClaimFault}
use Rattle.sky_recover.specs.declared.fault.ClaimFault.TheVariants as claim
use Rattle.sky_recover.specs.declared.fault.ListFault.{ListFault}
use Rattle.sky_recover.specs.declared.fault.ListFault.TheVariants as list
use Rattle.sky_recover.specs.declared.fault.OpenFault.{OpenFault}
use Rattle.sky_recover.specs.declared.fault.OpenFault.TheVariants as fault
use Rattle.sky_recover.specs.declared.fault.ReplayFault.{ReplayFault}
use Rattle.sky_recover.specs.declared.fault.ReplayFault.TheVariants as replay
use Rattle.sky_recover.proofs.Moments.{WhereBothTold-from}

-- a call ended so
abbrev pub failed : {E : Type 0} → (T : Type 0) → E → Result T E
failed T why = Err why

-- ---- changes that are all answered OK

with-append : (o : Option Change) (xs ys : List Change) → with_change o (xs ++ ys) ≡ with_change o xs ++ ys
with-append None xs ys = refl
with-append (Some change) xs ys = refl

pub changes_in-append : (xs ys : List (ℕ × List ℕ)) → changes_in (xs ++ ys) ≡ changes_in xs ++ changes_in ys
changes_in-append [] ys = refl
changes_in-append (x ∷ xs) ys =
    ap (λ (l : List Change). with_change (change_of x.1) l) (changes_in-append xs ys) ∙ with-append (change_of x.1) (changes_in xs) (changes_in ys)

first_true : (a b : Bool) → IsTrue (a && b) → a ≡ true
first_true true b is = refl
first_true false b is = let no : false ≡ true = is in absurd cc

second_true : (a b : Bool) → IsTrue (a && b) → IsTrue b
second_true true b is = is
second_true false b is = let no : false ≡ true = is in absurd cc

done_at : (t : Tree) (xs : List Change) (change : Change) (ys : List Change) → IsTrue (are_done t (xs ++ change ∷ ys)) → is_done (tree_after_changes t xs) change ≡ true
done_at t [] change ys done = first_true (is_done t change) (are_done (tree_after_change t change) ys) done
done_at t (x ∷ xs) change ys done = done_at (tree_after_change t x) xs change ys (second_true (is_done t x) (are_done (tree_after_change t x) (xs ++ change ∷ ys)) done)

-- where each change is answered OK, none fails
none_fails : (start : Tree) (size covers : ℕ) (list : List (ℕ × List ℕ)) (image : List ℕ) (at : ℕ) → IsTrue (are_done start (changes_in (entries_above covers list)))
    → FailsAt start size covers list image at → ⊥
none_fails start size covers list image at done fails =
    let change : Change = fails.refused.change in
    let whole : changes_in (entries_above covers list) ≡ changes_in fails.before ++ change ∷ changes_in fails.behind =
    ap changes_in fails.parts ∙ changes_in-append fails.before (fails.entry ∷ fails.behind)
    ∙ ap (λ (o : Option Change). changes_in fails.before ++ with_change o (changes_in fails.behind)) fails.refused.change_is in
    let here : is_done (tree_after_changes start (changes_in fails.before)) change ≡ true =
    done_at start (changes_in fails.before) change (changes_in fails.behind) (subst (λ (l : List Change). IsTrue (are_done start l)) whole done) in
    true≢false (sym here ∙ fails.refused.refused)

-- ---- a sound site

module _ (volume size : ℕ) (image : List ℕ) (objects : CloudMap) (is : IsSound volume size image objects) where
  sound_done : (list : List (ℕ × List ℕ)) → journal_of volume size 0 image ≡ Ok list → IsTrue (are_done (empty_tree volume) (changes_in (entries_above 0 list)))
  sound_done list says =
      let found = history_from_entries volume size image objects is.history is.stands_for in
      let done : IsTrue (are_done (empty_tree volume) (changes_in (entries_above 0 found.0))) = subst (λ (h : History). IsTrue (are_done h.tree h.changes)) (sym found.2) is.legal.done in
      subst (λ (l : List (ℕ × List ℕ)). IsTrue (are_done (empty_tree volume) (changes_in (entries_above 0 l)))) (ok_same found.0 list (journal_of volume size 0 image) found.1 says) done

  not_refused : (why : Refusal) → recovered volume size image objects ≡ Err why → ⊥
  not_refused why refused =
      let found : recovered volume size image objects ≡ Ok (record { length = history_length is.history; tree = last_tree is.history }) =
      history_recovered volume size image objects is.history is.stands_for in
      absurd cc

  -- a sound site is refused by no object and by no byte of its disk
  pub sound_unrefused : (T : Type 0) (why : OpenFault) → IsRefusedBy volume size why image objects → IsOfDevices (failed T why)
  sound_unrefused T fault.DiskFault by = tt
  sound_unrefused T fault.CloudFault by = tt
  sound_unrefused T fault.Memory by = tt
  sound_unrefused T (fault.Foreign at) by =
      ⊎_elim (λ (e : recovered volume size image objects ≡ Err (Foreign at)). not_refused (Foreign at) e)
      (λ (f : FailsOn volume size image objects at). none_fails (empty_tree volume) size 0 f.list image at (sound_done f.list f.says) f.fails) by
  sound_unrefused T (fault.Lost what) by = not_refused (refusal_of what) by
  sound_unrefused T fault.Worn by = tt

-- ---- each step's refusals

-- the last checkpoint of the proxy that is listed is lost
pub lost_listed : (told : Option CloudMap) (held : List Held) (name : SegName) → WhereTold told (λ objects. held ≡ listing objects) → last_checkpoint held ≡ Some name
    → WhereTold told (λ objects. IsLost objects (Damaged name (Form 0)))
lost_listed told held name listed is =
    WhereTold-from told (λ objects. IsLost objects (Damaged name (Form 0)))
    (λ objects told_is volume size image.
    let all : held ≡ listing objects = WhereTold-at told (λ o. held ≡ listing o) objects told_is listed in checkpoint_refused volume size image objects name (ap last_checkpoint (sym all) ∙ is))

module _ {S : Type 0} (g : Ghosts S) (volume size : ℕ) (s : S) where
  anyway : (why : OpenFault) → ((image : List ℕ) (objects : CloudMap) → IsRefusedBy volume size why image objects) → WhereBothTold g s (IsRefusedBy volume size why)
  anyway why holds = WhereBothTold-from g s (IsRefusedBy volume size why) (λ image objects told held. holds image objects)

  -- by the cloud's list
  pub refused_listed : (T : Type 0) (why : ListFault) → WhereTold (g.objects s) (IsJudged (failed T (of_list why))) → WhereBothTold g s (IsRefusedBy volume size (of_list why))
  refused_listed T list.CloudFault judged = anyway fault.CloudFault (λ image objects. tt)
  refused_listed T list.Memory judged = anyway fault.Memory (λ image objects. tt)
  refused_listed T (list.Lost what) judged =
      WhereBothTold-from g s (IsRefusedBy volume size (fault.Lost what))
      (λ image objects told held. WhereTold-at (g.objects s) (λ o. IsLost o what) objects held judged volume size image)
  refused_listed T list.Worn judged =
      WhereBothTold-from g s (IsRefusedBy volume size fault.Worn)
      (λ image objects told held. let worn = WhereTold-at (g.objects s) IsWorn objects held judged in (worn.no_checkpoint, worn.no_epoch))

  module _ (claimable : WhereTold (g.objects s) IsClaimable) where
    none_at : (objects : CloudMap) → g.objects s ≡ Some objects → HasNoCheckpoint objects
    none_at objects held = (WhereTold-at (g.objects s) IsClaimable objects held claimable).no_checkpoint

    -- by the journal, or by the put
    pub refused_claim : (T : Type 0) (why : ClaimFault) → ((at : ℕ) → IsErrOf (failed T why) (claim.Foreign at) → WhereTold (g.image s) (λ image. journal_of volume size 0 image ≡ Err at))
        → WhereBothTold g s (IsRefusedBy volume size (of_claim why))
    refused_claim T claim.DiskFault foreign = anyway fault.DiskFault (λ image objects. tt)
    refused_claim T claim.CloudFault foreign = anyway fault.CloudFault (λ image objects. tt)
    refused_claim T claim.Memory foreign = anyway fault.Memory (λ image objects. tt)
    refused_claim T (claim.Foreign at) foreign =
        WhereBothTold-from g s (IsRefusedBy volume size (fault.Foreign at))
        (λ image objects told held.
        inl (foreign_refused volume size image objects at (none_at objects held) (WhereTold-at (g.image s) (λ x. journal_of volume size 0 x ≡ Err at) image told (foreign at refl))))

    -- by a change
    pub refused_replay : (T : Type 0) (why : ReplayFault)
        → ((at : ℕ) → IsErrOf (failed T why) (replay.Foreign at)
        → WhereTold (g.image s) (λ image. (list : List (ℕ × List ℕ)) × (journal_of volume size 0 image ≡ Ok list) × FailsAt (empty_tree volume) size 0 list image at))
        → WhereBothTold g s (IsRefusedBy volume size (of_replay why))
    refused_replay T replay.DiskFault foreign = anyway fault.DiskFault (λ image objects. tt)
    refused_replay T replay.Memory foreign = anyway fault.Memory (λ image objects. tt)
    refused_replay T (replay.Foreign at) foreign =
        WhereBothTold-from g s (IsRefusedBy volume size (fault.Foreign at))
        (λ image objects told held.
        let f = WhereTold-at (g.image s) (λ x. (list : List (ℕ × List ℕ)) × (journal_of volume size 0 x ≡ Ok list) × FailsAt (empty_tree volume) size 0 list x at) image told (foreign at refl) in
        inr (record { no_checkpoint = none_at objects held; list = f.0; says = f.1; fails = f.2 }))

  -- where a sound site is refused, it is by its devices or for want of memory
  pub sound_ends : (T : Type 0) (why : OpenFault) → WhereBothTold g s (IsRefusedBy volume size why)
      → WhereBothTold g s (λ image objects. IsSound volume size image objects → IsOfDevices (failed T why))
  sound_ends T why refused =
      WhereBothTold-from g s (λ image objects. IsSound volume size image objects → IsOfDevices (failed T why))
      (λ image objects told held is.
      sound_unrefused volume size image objects is T why
      (WhereTold-at (g.objects s) (IsRefusedBy volume size why image) objects held
      (WhereTold-at (g.image s) (λ x. WhereTold (g.objects s) (IsRefusedBy volume size why x)) image told refused)))
