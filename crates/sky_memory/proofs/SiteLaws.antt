-- What a call of a site in memory does to what it holds.
use Rattle.std.proofs.Common.{◌≡◌, ℕ, Bool, true, false, cond, List, [], ◌∷◌, ◌++◌, refl, sym, ◌∙◌, ap}
use Rattle.sky_base.specs.declared.object.SegName.{SegName}
use Rattle.sky_outside.specs.CloudMap.{CloudMap, after_put, after_removal}
use Rattle.sky_memory.specs.Past.{SiteAt, Call, after_step, after_call, after_calls, overwritten}
use Rattle.sky_memory.specs.Record.{RecordState, after_next, happens}
use Rattle.sky_memory.specs.declared.record.Step.{Step}
use Rattle.sky_memory.specs.declared.record.Step.TheVariants.{Look, Write, Sync, Put, Remove}
use Rattle.sky_memory.specs.declared.fate.Fate.{Fate}
use Rattle.sky_memory.specs.declared.fate.Fate.TheVariants.{Beyond, Fails, Goes}

-- one call more
pub after_calls-push : (calls : List Call) (call : Call) (s : SiteAt) → after_calls (calls ++ call ∷ []) s ≡ after_call call (after_calls calls s)
after_calls-push [] call s = refl
after_calls-push (c ∷ calls) call s = after_calls-push calls call (after_call c s)

-- after a call that goes so
abbrev pub after_fate : Step → List ℕ → Fate → SiteAt → SiteAt
after_fate step bytes Beyond s = s
after_fate step bytes (Fails happened) s = after_step step bytes happened s
after_fate step bytes Goes s = after_step step bytes true s

pub at_next : (r : RecordState) (step : Step) (bytes : List ℕ) (fate : Fate) (s : SiteAt) → after_calls (after_next r step bytes fate).calls s ≡ after_fate step bytes fate (after_calls r.calls s)
at_next r step bytes Beyond s = refl
at_next r step bytes (Fails happened) s = after_calls-push r.calls (record { step = step; bytes = bytes; happened = happened }) s
at_next r step bytes Goes s = after_calls-push r.calls (record { step = step; bytes = bytes; happened = true }) s

pub at_kept : (r new : RecordState) (step : Step) (bytes : List ℕ) (fate : Fate) (s : SiteAt) → new ≡ after_next r step bytes fate → after_calls new.calls s ≡ after_fate step bytes fate (after_calls r.calls s)
at_kept r new step bytes fate s is = ap (λ (n : RecordState). after_calls n.calls s) is ∙ at_next r step bytes fate s

-- whether a call changes what a read gives, or what is held
abbrev pub writes : Step → Bool
writes (Write at) = true
writes step = false

abbrev pub changes_objects : Step → Bool
changes_objects (Put name) = true
changes_objects (Remove name) = true
changes_objects step = false

same_image : (step : Step) (bytes : List ℕ) (happened : Bool) (s : SiteAt) → writes step ≡ false → (after_step step bytes happened s).image ≡ s.image
same_image Look bytes happened s no_write = refl
same_image (Write at) bytes happened s no_write = absurd cc
same_image Sync bytes true s no_write = refl
same_image Sync bytes false s no_write = refl
same_image (Put name) bytes happened s no_write = refl
same_image (Remove name) bytes happened s no_write = refl

same_objects : (step : Step) (bytes : List ℕ) (happened : Bool) (s : SiteAt) → changes_objects step ≡ false → (after_step step bytes happened s).objects ≡ s.objects
same_objects Look bytes happened s no_change = refl
same_objects (Write at) bytes happened s no_change = refl
same_objects Sync bytes true s no_change = refl
same_objects Sync bytes false s no_change = refl
same_objects (Put name) bytes happened s no_change = absurd cc
same_objects (Remove name) bytes happened s no_change = absurd cc

pub image_after : (step : Step) (bytes : List ℕ) (fate : Fate) (s : SiteAt) → writes step ≡ false → (after_fate step bytes fate s).image ≡ s.image
image_after step bytes Beyond s no_write = refl
image_after step bytes (Fails happened) s no_write = same_image step bytes happened s no_write
image_after step bytes Goes s no_write = same_image step bytes true s no_write

pub objects_after : (step : Step) (bytes : List ℕ) (fate : Fate) (s : SiteAt) → changes_objects step ≡ false → (after_fate step bytes fate s).objects ≡ s.objects
objects_after step bytes Beyond s no_change = refl
objects_after step bytes (Fails happened) s no_change = same_objects step bytes happened s no_change
objects_after step bytes Goes s no_change = same_objects step bytes true s no_change

pub written_after : (at : ℕ) (bytes : List ℕ) (fate : Fate) (s : SiteAt) → (after_fate (Write at) bytes fate s).image ≡ cond (happens fate) (overwritten s.image at bytes) s.image
written_after at bytes Beyond s = refl
written_after at bytes (Fails happened) s = refl
written_after at bytes Goes s = refl

pub put_after : (name : SegName) (bytes : List ℕ) (fate : Fate) (s : SiteAt) → (after_fate (Put name) bytes fate s).objects ≡ cond (happens fate) (after_put name bytes s.objects) s.objects
put_after name bytes Beyond s = refl
put_after name bytes (Fails happened) s = refl
put_after name bytes Goes s = refl

pub removed_after : (name : SegName) (bytes : List ℕ) (fate : Fate) (s : SiteAt) → (after_fate (Remove name) bytes fate s).objects ≡ cond (happens fate) (after_removal name s.objects) s.objects
removed_after name bytes Beyond s = refl
removed_after name bytes (Fails happened) s = refl
removed_after name bytes Goes s = refl

module _ (r new : RecordState) (s : SiteAt) (bytes : List ℕ) (fate : Fate) where
  -- an image and objects that are those of the record still are
  pub image_kept : (step : Step) (image : List ℕ) → writes step ≡ false → new ≡ after_next r step bytes fate → image ≡ (after_calls r.calls s).image → image ≡ (after_calls new.calls s).image
  image_kept step image no_write is was =
      was ∙ sym (image_after step bytes fate (after_calls r.calls s) no_write) ∙ ap (λ (t : SiteAt). t.image) (sym (at_kept r new step bytes fate s is))

  pub objects_kept : (step : Step) (objects : CloudMap) → changes_objects step ≡ false → new ≡ after_next r step bytes fate → objects ≡ (after_calls r.calls s).objects → objects ≡ (after_calls new.calls s).objects
  objects_kept step objects no_change is was =
      was ∙ sym (objects_after step bytes fate (after_calls r.calls s) no_change) ∙ ap (λ (t : SiteAt). t.objects) (sym (at_kept r new step bytes fate s is))

  pub written_kept : (at : ℕ) (happened : Bool) (image now : List ℕ) → new ≡ after_next r (Write at) bytes fate → happened ≡ happens fate → image ≡ (after_calls r.calls s).image
      → now ≡ cond happened (overwritten image at bytes) image → now ≡ (after_calls new.calls s).image
  written_kept at happened image now is goes was wrote =
      wrote
      ∙ ap (λ b. cond b (overwritten image at bytes) image) goes
      ∙ ap (λ (l : List ℕ). cond (happens fate) (overwritten l at bytes) l) was
      ∙ sym (written_after at bytes fate (after_calls r.calls s))
      ∙ ap (λ (t : SiteAt). t.image) (sym (at_kept r new (Write at) bytes fate s is))

  pub put_kept : (name : SegName) (happened : Bool) (objects now : CloudMap) → new ≡ after_next r (Put name) bytes fate → happened ≡ happens fate → objects ≡ (after_calls r.calls s).objects
      → now ≡ cond happened (after_put name bytes objects) objects → now ≡ (after_calls new.calls s).objects
  put_kept name happened objects now is goes was put =
      put
      ∙ ap (λ b. cond b (after_put name bytes objects) objects) goes
      ∙ ap (λ (m : CloudMap). cond (happens fate) (after_put name bytes m) m) was
      ∙ sym (put_after name bytes fate (after_calls r.calls s))
      ∙ ap (λ (t : SiteAt). t.objects) (sym (at_kept r new (Put name) bytes fate s is))

  pub removed_kept : (name : SegName) (happened : Bool) (objects now : CloudMap) → new ≡ after_next r (Remove name) bytes fate → happened ≡ happens fate → objects ≡ (after_calls r.calls s).objects
      → now ≡ cond happened (after_removal name objects) objects → now ≡ (after_calls new.calls s).objects
  removed_kept name happened objects now is goes was removed =
      removed
      ∙ ap (λ b. cond b (after_removal name objects) objects) goes
      ∙ ap (λ (m : CloudMap). cond (happens fate) (after_removal name m) m) was
      ∙ sym (removed_after name bytes fate (after_calls r.calls s))
      ∙ ap (λ (t : SiteAt). t.objects) (sym (at_kept r new (Remove name) bytes fate s is))
