-- What a crash may leave of a site within an opening: recovery finds the same. Crates above cite this.
use Rattle.std.proofs.Common.{◌≡◌, ◌⊎◌, ⊎_elim, ℕ, List, Option, Some, Ok, refl, sym, ap, ◌∙◌, subst}
use Rattle.sky_outside.specs.CloudMap.{CloudMap, after_put, Happened}
use Rattle.sky_outside.specs.Moments.{BesideObjects, LeavesOnly, MayLeaveNow, NothingPending, OnlyLooks}
use Rattle.sky_outside.specs.Told.{WhereTold}
use Rattle.sky_outside.specs.declared.storage.Storage.{Ghosts}
use Rattle.sky_outside.proofs.ToldLaws.{WhereTold-at, WhereTold-from}
use Rattle.sky_outside.proofs.MomentLaws.{LeavesOnly-start, LeavesOnly-then, only_read}
use Rattle.std.specs.Option.{option_map}
use Rattle.sky_sound.specs.Boot.{boot_bytes, boot_name, claimed}
use Rattle.sky_sound.specs.Cloud.{epoch_after}
use Rattle.sky_sound.specs.Entries.{journal_of}
use Rattle.sky_sound.specs.Recovery.{IsSound, FindsSame}
use Rattle.sky_recover.specs.Opening.{LeavesFound, WhereBothTold}
use Rattle.sky_recover.specs.Settling.{KeepsAbove}
use Rattle.sky_recover.specs.Steps.{KeepsEntries, PutsOrNot}
use Rattle.sky_recover.proofs.Finds.{finds_claimed, finds_itself, sound_entries}

-- to show a fact of both, show it at what is told
pub WhereBothTold-from : {S : Type 0} (g : Ghosts S) (s : S) (P : List ℕ → CloudMap → Type 0)
    → ((image : List ℕ) (objects : CloudMap) → g.image s ≡ Some image → g.objects s ≡ Some objects → P image objects) → WhereBothTold g s P
WhereBothTold-from g s P holds =
    WhereTold-from (g.image s) (λ image. WhereTold (g.objects s) (P image)) (λ image told. WhereTold-from (g.objects s) (P image) (λ objects held. holds image objects told held))

module _ {S : Type 0} (g : Ghosts S) (volume size : ℕ) where
  module _ (image : List ℕ) (objects : CloudMap) (is : IsSound volume size image objects) where
    -- the image and the objects are as they were, or the epoch was claimed
    itself : (left : List ℕ) (held : CloudMap) → left ≡ image → held ≡ objects → FindsSame volume size image objects left held
    itself left held same equal =
        subst (λ (l : List ℕ). FindsSame volume size image objects l held) (sym same) (subst (λ (h : CloudMap). FindsSame volume size image objects image h) (sym equal) (finds_itself volume size image objects is))

    after : (left : List ℕ) (held : CloudMap) (list : List (ℕ × List ℕ)) → journal_of volume size 0 image ≡ Ok list → KeepsAbove volume size 0 list left → held ≡ claimed objects
        → FindsSame volume size image objects left held
    after left held list says keeps equal = subst (λ (h : CloudMap). FindsSame volume size image objects left h) (sym equal) (finds_claimed volume size image objects left list is says keeps)

    now : (s : S) → g.image s ≡ Some image → g.objects s ≡ Some objects → NothingPending g s → (left : List ℕ) (held : CloudMap) → MayLeaveNow g s left held → FindsSame volume size image objects left held
    now s told held_is nothing left held may =
        itself left held (only_read g s image told nothing left may.0) (WhereTold-at (g.objects s) (λ x. held ≡ x) objects held_is may.1)

    looks_leave : (s t : S) → g.image s ≡ Some image → g.objects s ≡ Some objects → NothingPending g s → OnlyLooks g s t → LeavesOnly g s t (FindsSame volume size image objects)
    looks_leave s t told held_is nothing looks =
        LeavesOnly-then g s s t (FindsSame volume size image objects) (MayLeaveNow g s) (FindsSame volume size image objects)
        (LeavesOnly-start g s (FindsSame volume size image objects) (now s told held_is nothing)) looks.moments (λ left held p. p) (now s told held_is nothing)

    puts_leave : (s t u : S) (epoch : ℕ) → g.image s ≡ Some image → g.objects s ≡ Some objects → NothingPending g s → OnlyLooks g s t → epoch ≡ epoch_after objects
        → LeavesOnly g t u (PutsOrNot g (λ o. after_put (boot_name epoch) (boot_bytes epoch) o) t) → LeavesOnly g s u (FindsSame volume size image objects)
    puts_leave s t u epoch told held_is nothing looks epoch_is puts =
        LeavesOnly-then g s t u (FindsSame volume size image objects) (PutsOrNot g (λ o. after_put (boot_name epoch) (boot_bytes epoch) o) t) (FindsSame volume size image objects)
        (looks_leave s t told held_is nothing looks) puts (λ left held p. p)
        (λ left held put.
        let same : left ≡ image = only_read g s image told nothing left (looks.crash left put.0) in
        let either : (held ≡ objects) ⊎ (held ≡ after_put (boot_name epoch) (boot_bytes epoch) objects) =
        WhereTold-at (g.objects t) (λ x. (held ≡ x) ⊎ (held ≡ after_put (boot_name epoch) (boot_bytes epoch) x)) objects (looks.cloud.objects ∙ held_is) put.1 in
        let entries = sound_entries volume size image objects is in
        ⊎_elim (λ (e : held ≡ objects). itself left held same e)
        (λ (e : held ≡ after_put (boot_name epoch) (boot_bytes epoch) objects).
        after left held entries.0 entries.1
        (subst (λ (l : List ℕ). KeepsAbove volume size 0 entries.0 l) (sym same) (record { read = entries.0; says = entries.1; above = refl }))
        (e ∙ ap (λ (n : ℕ). after_put (boot_name n) (boot_bytes n) objects) epoch_is))
        either)

    keeps_leave : (s t u w : S) (epoch : ℕ) → g.image s ≡ Some image → g.objects s ≡ Some objects → NothingPending g s → OnlyLooks g s t → epoch ≡ epoch_after objects
        → LeavesOnly g t u (PutsOrNot g (λ o. after_put (boot_name epoch) (boot_bytes epoch) o) t) → g.image u ≡ g.image t
        → Happened (λ o. after_put (boot_name epoch) (boot_bytes epoch) o) (g.objects t) (g.objects u) → KeepsEntries g volume size u w → LeavesOnly g s w (FindsSame volume size image objects)
    keeps_leave s t u w epoch told held_is nothing looks epoch_is puts same_image put keeps =
        let entries = sound_entries volume size image objects is in
        let change : CloudMap → CloudMap = λ o. after_put (boot_name epoch) (boot_bytes epoch) o in
        let there : g.image u ≡ Some image = same_image ∙ looks.image ∙ told in
        let objects_there : g.objects u ≡ Some (claimed objects) =
        put ∙ ap (option_map change) (looks.cloud.objects ∙ held_is) ∙ ap (λ (n : ℕ). let o : Option CloudMap = Some (after_put (boot_name n) (boot_bytes n) objects) in o) epoch_is in
        LeavesOnly-then g s u w (FindsSame volume size image objects) (BesideObjects g u (KeepsAbove volume size 0 entries.0)) (FindsSame volume size image objects)
        (puts_leave s t u epoch told held_is nothing looks epoch_is puts)
        (WhereTold-at (g.image u)
        (λ x. (list : List (ℕ × List ℕ)) → journal_of volume size 0 x ≡ Ok list → LeavesOnly g u w (BesideObjects g u (KeepsAbove volume size 0 list)))
        image there keeps entries.0 entries.1)
        (λ left held p. p)
        (λ left held q. after left held entries.0 entries.1 q.0 (WhereTold-at (g.objects u) (λ x. held ≡ x) (claimed objects) objects_there q.1))

  abbrev Left : S → S → List ℕ → CloudMap → Type 0
  Left s t image objects = IsSound volume size image objects → LeavesOnly g s t (FindsSame volume size image objects)

  -- the cloud was listed
  pub found_listed : (s t : S) → NothingPending g s → OnlyLooks g s t → LeavesFound g volume size s t
  found_listed s t nothing looks = WhereBothTold-from g s (Left s t) (λ image objects told held is. looks_leave image objects is s t told held nothing looks)

  module _ (s t : S) (epoch : ℕ) (nothing : NothingPending g s) (looks : OnlyLooks g s t) (epoch_is : WhereTold (g.objects s) (λ objects. epoch ≡ epoch_after objects)) where
    at_objects : (objects : CloudMap) → g.objects s ≡ Some objects → epoch ≡ epoch_after objects
    at_objects objects held = WhereTold-at (g.objects s) (λ o. epoch ≡ epoch_after o) objects held epoch_is

    -- and the boot object was put, or maybe not
    pub found_put : (u : S) → LeavesOnly g t u (PutsOrNot g (λ o. after_put (boot_name epoch) (boot_bytes epoch) o) t) → LeavesFound g volume size s u
    found_put u puts =
        WhereBothTold-from g s (Left s u) (λ image objects told held is. puts_leave image objects is s t u epoch told held nothing looks (at_objects objects held) puts)

    -- and the journal's entries were kept
    pub found_kept : (u w : S) → LeavesOnly g t u (PutsOrNot g (λ o. after_put (boot_name epoch) (boot_bytes epoch) o) t) → g.image u ≡ g.image t
        → Happened (λ o. after_put (boot_name epoch) (boot_bytes epoch) o) (g.objects t) (g.objects u) → KeepsEntries g volume size u w → LeavesFound g volume size s w
    found_kept u w puts same put keeps =
        WhereBothTold-from g s (Left s w) (λ image objects told held is. keeps_leave image objects is s t u w epoch told held nothing looks (at_objects objects held) puts same put keeps)
