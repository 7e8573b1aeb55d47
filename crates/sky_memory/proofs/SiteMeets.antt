-- What a call of a site in memory does, by what a disk and a cloud tell.
use Rattle.std.proofs.Common.{◌≡◌, ◌⊎◌, ⊎_elim, inl, inr, ◌↔◌, ℕ, ◌+◌, ◌≤◌, Bool, true, false, cond, List, [], ◌∷◌, ◌++◌, length, take, Some, Result, Ok, Err, OnOk, OnErr, arith, refl, sym, ◌∙◌, ap, subst}
use Rattle.std.proofs.lemmas.List.{take-append-le, take_all, length-append}
use Rattle.std.proofs.lemmas.Bool.Decides.{leb_tells}
use Rattle.sky_base.specs.declared.object.SegName.{SegName}
use Rattle.sky_outside.specs.declared.stream.Failed.{Failed}
use Rattle.sky_outside.specs.declared.site.PutFault.{PutFault}
use Rattle.sky_outside.specs.declared.site.PutFault.TheVariants.{Memory}
use Rattle.sky_outside.specs.Image.{written, Torn}
use Rattle.sky_outside.specs.CloudMap.{CloudMap, after_put, after_removal, Happened, HappenedOrNot}
use Rattle.sky_outside.specs.Moments.{SameDisk, SameCloud, Elapses}
use Rattle.sky_outside.proofs.ImageLaws.{Torn-none}
use Rattle.sky_memory.specs.Device.{SiteState}
use Rattle.sky_memory.specs.Past.{SiteAt, Call, at_first, after_step, after_calls, overwritten, LeavesImage, Leaves, LeavesSince}
use Rattle.sky_memory.specs.PastLaws.{written_or_not, whole_now, size_now}
use Rattle.sky_memory.specs.MemSite.{MemSiteState, now_at, Made}
use Rattle.sky_memory.specs.Record.{RecordState, after_next, answer_of, put_answer_of}
use Rattle.sky_memory.specs.declared.record.Step.{Step}
use Rattle.sky_memory.specs.declared.record.Step.TheVariants.{Look, Write, Sync, Put, Remove}
use Rattle.sky_memory.specs.declared.fate.Fate.{Fate}
use Rattle.sky_memory.specs.declared.fate.Fate.TheVariants.{Beyond, Fails, Goes}
use Rattle.sky_memory.specs.contracts.mem_site.MemSiteStorage.TheImpl as storage
use Rattle.sky_memory.proofs.SiteLaws.{after_fate, at_kept, image_after, objects_after, writes, changes_objects}

-- a write where it fits
written_fits : (image : List ℕ) (at : ℕ) (bytes : List ℕ) → at + length bytes ≤ length image → overwritten image at bytes ≡ written image at bytes
written_fits image at bytes within =
    ⊎_elim (λ is. ap (λ b. cond b (written image at bytes) image) is.0) (λ other. absurd (omega (arith, within, other.1))) (leb_tells (at + length bytes) (length image))

-- what a write does, by how it goes
wrote : (fate : Fate) (s : SiteAt) (at : ℕ) (bytes : List ℕ) → at + length bytes ≤ length s.image → OnOk (answer_of fate) ((after_fate (Write at) bytes fate s).image ≡ written s.image at bytes)
wrote Beyond s at bytes within = tt
wrote (Fails happened) s at bytes within = tt
wrote Goes s at bytes within = written_fits s.image at bytes within

torn : (fate : Fate) (s : SiteAt) (at : ℕ) (bytes : List ℕ) → OnErr (answer_of fate) (Torn at (length bytes) s.image (after_fate (Write at) bytes fate s).image)
torn Beyond s at bytes = Torn-none at (length bytes) s.image
torn (Fails happened) s at bytes = written_or_not happened s.image at bytes
torn Goes s at bytes = tt

tears : (fate : Fate) (s : SiteAt) (at : ℕ) (bytes image : List ℕ) → LeavesImage (after_fate (Write at) bytes fate s) image → (before : List ℕ) × LeavesImage s before × Torn at (length bytes) before image
tears Beyond s at bytes image left = (image, left, Torn-none at (length bytes) image)
tears (Fails happened) s at bytes image left = left
tears Goes s at bytes image left = left

-- what a sync does
flushed : (fate : Fate) (s : SiteAt) → OnOk (answer_of fate) ((image : List ℕ) → LeavesImage (after_fate Sync [] fate s) image → image ≡ (after_fate Sync [] fate s).image)
flushed Beyond s = tt
flushed (Fails happened) s = tt
flushed Goes s = λ image left. left

synced_leaves : (happened : Bool) (s : SiteAt) (image : List ℕ) → LeavesImage s s.image → LeavesImage (after_step Sync [] happened s) image → LeavesImage s image
synced_leaves true s image read left = subst (LeavesImage s) (sym left) read
synced_leaves false s image read left = left

flush_leaves : (fate : Fate) (s : SiteAt) (image : List ℕ) → LeavesImage s s.image → LeavesImage (after_fate Sync [] fate s) image → LeavesImage s image
flush_leaves Beyond s image read left = left
flush_leaves (Fails happened) s image read left = synced_leaves happened s image read left
flush_leaves Goes s image read left = synced_leaves true s image read left

-- whether a call leaves the disk and what is pending alone
abbrev pub leaves_disk : Step → Bool
leaves_disk (Write at) = false
leaves_disk Sync = false
leaves_disk step = true

step_leaves : (step : Step) (bytes : List ℕ) (happened : Bool) (s : SiteAt) (image : List ℕ) → leaves_disk step ≡ true → LeavesImage (after_step step bytes happened s) image ↔ LeavesImage s image
step_leaves Look bytes happened s image alone = (λ left. left, λ left. left)
step_leaves (Write at) bytes happened s image alone = absurd cc
step_leaves Sync bytes happened s image alone = absurd cc
step_leaves (Put name) bytes happened s image alone = (λ left. left, λ left. left)
step_leaves (Remove name) bytes happened s image alone = (λ left. left, λ left. left)

fate_leaves : (fate : Fate) (step : Step) (bytes : List ℕ) (s : SiteAt) (image : List ℕ) → leaves_disk step ≡ true → LeavesImage (after_fate step bytes fate s) image ↔ LeavesImage s image
fate_leaves Beyond step bytes s image alone = (λ left. left, λ left. left)
fate_leaves (Fails happened) step bytes s image alone = step_leaves step bytes happened s image alone
fate_leaves Goes step bytes s image alone = step_leaves step bytes true s image alone

-- what a put or a removal does
changed_or_not : (happened : Bool) (change : CloudMap → CloudMap) (objects : CloudMap) → HappenedOrNot change (Some objects) (Some (cond happened (change objects) objects))
changed_or_not true change objects = inr refl
changed_or_not false change objects = inl refl

put_ok : (fate : Fate) (s : SiteAt) (name : SegName) (bytes : List ℕ) → OnOk (put_answer_of fate) (Happened (after_put name bytes) (Some s.objects) (Some (after_fate (Put name) bytes fate s).objects))
put_ok Beyond s name bytes = tt
put_ok (Fails happened) s name bytes = tt
put_ok Goes s name bytes = refl

put_any : (fate : Fate) (s : SiteAt) (name : SegName) (bytes : List ℕ) → HappenedOrNot (after_put name bytes) (Some s.objects) (Some (after_fate (Put name) bytes fate s).objects)
put_any Beyond s name bytes = inl refl
put_any (Fails happened) s name bytes = changed_or_not happened (after_put name bytes) s.objects
put_any Goes s name bytes = inr refl

removal_ok : (fate : Fate) (s : SiteAt) (name : SegName) → OnOk (answer_of fate) (Happened (after_removal name) (Some s.objects) (Some (after_fate (Remove name) [] fate s).objects))
removal_ok Beyond s name = tt
removal_ok (Fails happened) s name = tt
removal_ok Goes s name = refl

removal_any : (fate : Fate) (s : SiteAt) (name : SegName) → HappenedOrNot (after_removal name) (Some s.objects) (Some (after_fate (Remove name) [] fate s).objects)
removal_any Beyond s name = inl refl
removal_any (Fails happened) s name = changed_or_not happened (after_removal name) s.objects
removal_any Goes s name = inr refl

OnOk-some : (fate : Fate) (a b : List ℕ) → OnOk (answer_of fate) (a ≡ b) → OnOk (answer_of fate) (Some a ≡ Some b)
OnOk-some Beyond a b holds = tt
OnOk-some (Fails happened) a b holds = tt
OnOk-some Goes a b holds = ap Some holds

-- the calls are those from before, or one more
abbrev pub Grows : List Call → List Call → Type 0
Grows old new = (new ≡ old) ⊎ ((call : Call) × (new ≡ old ++ call ∷ []))

grows_next : (r : RecordState) (step : Step) (bytes : List ℕ) (fate : Fate) → Grows r.calls (after_next r step bytes fate).calls
grows_next r step bytes Beyond = inl refl
grows_next r step bytes (Fails happened) = inr (record { step = step; bytes = bytes; happened = happened }, refl)
grows_next r step bytes Goes = inr (record { step = step; bytes = bytes; happened = true }, refl)

grown_length : (old new : List Call) → Grows old new → length old ≤ length new
grown_length old new grows = ⊎_elim (λ same. omega (arith, ap length same)) (λ more. omega (arith, ap length more.1, length-append old (more.0 ∷ []))) grows

-- as many calls as there were are the same ones
same_front : (old new : List Call) (k : ℕ) → Grows old new → k ≤ length old → take k new ≡ take k old
same_front old new k grows within =
    ⊎_elim (λ same. ap (take k) same) (λ more. ap (take k) more.1 ∙ take-append-le k old (more.0 ∷ []) within) grows

-- some number of the new calls is one of the old, or it is all of them
front_or_all : (old new : List Call) (k : ℕ) → Grows old new → k ≤ length new → (k ≤ length old) ⊎ (length new ≤ k)
front_or_all old new k grows within =
    ⊎_elim (λ same. inl (omega (arith, ap length same)))
    (λ more. ⊎_elim inl (λ above. inr (omega (arith, ap length more.1, length-append old (more.0 ∷ []), above))) (two k (length old))) grows
  where
    two : (a b : ℕ) → (a ≤ b) ⊎ (b + 1 ≤ a)
    two a b = ⊎_elim (λ le. inl le.1) (λ gt. inr (omega (arith, gt.1))) (leb_tells a b)

-- what was left since a moment, after the calls have grown
no_more : (s : SiteAt) (old new : List Call) (t : ℕ) (image : List ℕ) (objects : CloudMap) → Grows old new → LeavesSince s new t image objects
    → LeavesSince s old t image objects ⊎ Leaves (after_calls new s) image objects
no_more s old new t image objects grows since =
    ⊎_elim (λ within. inl (since.0, since.1, within, subst (λ (l : List Call). Leaves (after_calls l s) image objects) (same_front old new since.0 grows within) since.3))
    (λ all. inr (subst (λ (l : List Call). Leaves (after_calls l s) image objects) (take_all since.0 new all) since.3)) (front_or_all old new since.0 grows since.2)

no_less : (s : SiteAt) (old new : List Call) (t : ℕ) (image : List ℕ) (objects : CloudMap) → Grows old new → LeavesSince s old t image objects → LeavesSince s new t image objects
no_less s old new t image objects grows since =
    (since.0, since.1, omega (arith, since.2, grown_length old new grows), subst (λ (l : List Call). Leaves (after_calls l s) image objects) (sym (same_front old new since.0 grows since.2)) since.3)

module _ (old new : MemSiteState) where
  -- time goes by where the calls grow
  pub time_by : new.first ≡ old.first → Grows old.noted.calls new.noted.calls → Elapses storage.ghosts old new
  time_by first grows = record {
    later = grown_length old.noted.calls new.noted.calls grows;
    no_more = λ t image objects le since.
        subst (λ (f : SiteState). LeavesSince (at_first f) old.noted.calls t image objects ⊎ Leaves (now_at new) image objects) first
        (no_more (at_first new.first) old.noted.calls new.noted.calls t image objects grows since);
    no_less = λ t image objects le since.
        no_less (at_first new.first) old.noted.calls new.noted.calls t image objects grows (subst (λ (f : SiteState). LeavesSince (at_first f) old.noted.calls t image objects) (sym first) since);
    tells = λ _. ((now_at new).image, (whole_now new.first new.noted.calls).read);
  }

module _ (old new : MemSiteState) (step : Step) (bytes : List ℕ) (fate : Fate) (made : Made step bytes fate old new) where
  -- time goes by with a call
  pub time : Elapses storage.ghosts old new
  time = time_by old new made.first (subst (λ (r : RecordState). Grows old.noted.calls r.calls) (sym made.noted) (grows_next old.noted step bytes fate))

  -- what it holds then
  pub now_made : now_at new ≡ after_fate step bytes fate (now_at old)
  now_made = ap (λ (f : SiteState). after_calls new.noted.calls (at_first f)) made.first ∙ at_kept old.noted new.noted step bytes fate (at_first old.first) made.noted

  pub image_same : writes step ≡ false → (now_at new).image ≡ (now_at old).image
  image_same no_write = ap (λ (s : SiteAt). s.image) now_made ∙ image_after step bytes fate (now_at old) no_write

  pub objects_same : changes_objects step ≡ false → (now_at new).objects ≡ (now_at old).objects
  objects_same no_change = ap (λ (s : SiteAt). s.objects) now_made ∙ objects_after step bytes fate (now_at old) no_change

  pub same_image : writes step ≡ false → Some (now_at new).image ≡ Some (now_at old).image
  same_image no_write = ap (λ (s : SiteAt). Some s.image) now_made ∙ ap Some (image_after step bytes fate (now_at old) no_write)

  pub same_cloud : changes_objects step ≡ false → SameCloud storage.ghosts old new
  same_cloud no_change = record { objects = ap (λ (s : SiteAt). Some s.objects) now_made ∙ ap Some (objects_after step bytes fate (now_at old) no_change); standing = refl }

  pub same_disk : leaves_disk step ≡ true → writes step ≡ false → SameDisk storage.ghosts old new
  same_disk alone no_write = record {
    image = same_image no_write;
    may_leave = λ image. subst (λ (s : SiteAt). LeavesImage s image ↔ LeavesImage (now_at old) image) (sym now_made) (fate_leaves fate step bytes (now_at old) image alone);
  }

-- a fact of an answer, by the fate that it tells
by_fate : {E : Type 0} (result answer : Result Unit E) (P : Type 0) → result ≡ answer → OnOk answer P → OnOk result P
by_fate result answer P is holds = subst (λ r. OnOk r P) (sym is) holds

by_fate_err : {E : Type 0} (result answer : Result Unit E) (P : Type 0) → result ≡ answer → OnErr answer P → OnErr result P
by_fate_err result answer P is holds = subst (λ r. OnErr r P) (sym is) holds

module _ (old new : MemSiteState) (fate : Fate) (result : Result Unit Failed) (is : result ≡ answer_of fate) where
  pub write_ok : (at : ℕ) (bytes : List ℕ) → Made (Write at) bytes fate old new → at + length bytes ≤ length old.first.image → OnOk result (Some (now_at new).image ≡ Some (written (now_at old).image at bytes))
  write_ok at bytes made within =
      let within_now : at + length bytes ≤ length (now_at old).image = omega (arith, within, size_now old.first old.noted.calls) in
      by_fate result (answer_of fate) _ is
      (subst (λ (s : SiteAt). OnOk (answer_of fate) (Some s.image ≡ Some (written (now_at old).image at bytes))) (sym (now_made old new (Write at) bytes fate made)) (OnOk-some fate _ _ (wrote fate (now_at old) at bytes within_now)))

  pub write_err : (at : ℕ) (bytes : List ℕ) → Made (Write at) bytes fate old new → OnErr result (Torn at (length bytes) (now_at old).image (now_at new).image)
  write_err at bytes made =
      by_fate_err result (answer_of fate) _ is
      (subst (λ (s : SiteAt). OnErr (answer_of fate) (Torn at (length bytes) (now_at old).image s.image)) (sym (now_made old new (Write at) bytes fate made)) (torn fate (now_at old) at bytes))

  pub sync_ok : Made Sync [] fate old new → OnOk result ((image : List ℕ) → LeavesImage (now_at new) image → image ≡ (now_at new).image)
  sync_ok made =
      by_fate result (answer_of fate) _ is
      (subst (λ (s : SiteAt). OnOk (answer_of fate) ((image : List ℕ) → LeavesImage s image → image ≡ s.image)) (sym (now_made old new Sync [] fate made)) (flushed fate (now_at old)))

  pub remove_ok : (name : SegName) → Made (Remove name) [] fate old new → OnOk result (Happened (after_removal name) (Some (now_at old).objects) (Some (now_at new).objects))
  remove_ok name made =
      by_fate result (answer_of fate) _ is
      (subst (λ (s : SiteAt). OnOk (answer_of fate) (Happened (after_removal name) (Some (now_at old).objects) (Some s.objects))) (sym (now_made old new (Remove name) [] fate made)) (removal_ok fate (now_at old) name))

module _ (old new : MemSiteState) (fate : Fate) where
  pub write_tears : (at : ℕ) (bytes : List ℕ) → Made (Write at) bytes fate old new → (image : List ℕ) → LeavesImage (now_at new) image
      → (before : List ℕ) × LeavesImage (now_at old) before × Torn at (length bytes) before image
  write_tears at bytes made image left = tears fate (now_at old) at bytes image (subst (λ (s : SiteAt). LeavesImage s image) (now_made old new (Write at) bytes fate made) left)

  pub sync_leaves : Made Sync [] fate old new → (image : List ℕ) → LeavesImage (now_at new) image → LeavesImage (now_at old) image
  sync_leaves made image left =
      flush_leaves fate (now_at old) image (whole_now old.first old.noted.calls).read (subst (λ (s : SiteAt). LeavesImage s image) (now_made old new Sync [] fate made) left)

  pub remove_any : (name : SegName) → Made (Remove name) [] fate old new → HappenedOrNot (after_removal name) (Some (now_at old).objects) (Some (now_at new).objects)
  remove_any name made =
      subst (λ (s : SiteAt). HappenedOrNot (after_removal name) (Some (now_at old).objects) (Some s.objects)) (sym (now_made old new (Remove name) [] fate made)) (removal_any fate (now_at old) name)

  pub put_made_any : (name : SegName) (bytes : List ℕ) → Made (Put name) bytes fate old new → HappenedOrNot (after_put name bytes) (Some (now_at old).objects) (Some (now_at new).objects)
  put_made_any name bytes made =
      subst (λ (s : SiteAt). HappenedOrNot (after_put name bytes) (Some (now_at old).objects) (Some s.objects)) (sym (now_made old new (Put name) bytes fate made)) (put_any fate (now_at old) name bytes)

  pub put_made_ok : (result : Result Unit PutFault) (name : SegName) (bytes : List ℕ) → result ≡ put_answer_of fate → Made (Put name) bytes fate old new
      → OnOk result (Happened (after_put name bytes) (Some (now_at old).objects) (Some (now_at new).objects))
  put_made_ok result name bytes is made =
      by_fate result (put_answer_of fate) _ is
      (subst (λ (s : SiteAt). OnOk (put_answer_of fate) (Happened (after_put name bytes) (Some (now_at old).objects) (Some s.objects))) (sym (now_made old new (Put name) bytes fate made)) (put_ok fate (now_at old) name bytes))

-- what holds of each answer holds of an error
pub on_any : {E : Type 0} (result : Result Unit E) (P : Type 0) → P → OnErr result P
on_any (Ok x) P holds = tt
on_any (Err e) P holds = holds

-- a call that changed nothing
pub unchanged_time : (old new : MemSiteState) → new ≡ old → Elapses storage.ghosts old new
unchanged_time old new same = time_by old new (ap (λ (s : MemSiteState). s.first) same) (inl (ap (λ (s : MemSiteState). s.noted.calls) same))

pub unchanged_disk : (old new : MemSiteState) → new ≡ old → SameDisk storage.ghosts old new
unchanged_disk old new same = record {
  image = ap (λ (s : MemSiteState). Some (now_at s).image) same;
  may_leave = λ image. subst (λ (s : MemSiteState). LeavesImage (now_at s) image ↔ LeavesImage (now_at old) image) (sym same) (λ left. left, λ left. left);
}

-- a put that found no memory, or was made
abbrev pub Puts : SegName → List ℕ → Fate → Result Unit PutFault → MemSiteState → MemSiteState → Type 0
Puts name bytes fate result old new = ((result ≡ Err Memory) × (new ≡ old)) ⊎ ((result ≡ put_answer_of fate) × Made (Put name) bytes fate old new)

-- no call is answered by a want of memory
never_memory : (fate : Fate) → put_answer_of fate ≡ Err Memory → ⊥
never_memory Beyond is = cc is
never_memory (Fails happened) is = cc is
never_memory Goes is = cc is

module _ (name : SegName) (bytes : List ℕ) (fate : Fate) (result : Result Unit PutFault) (old new : MemSiteState) (puts : Puts name bytes fate result old new) where
  pub put_time : Elapses storage.ghosts old new
  put_time = ⊎_elim (λ none. unchanged_time old new none.1) (λ put. time old new (Put name) bytes fate put.1) puts

  pub put_disk : SameDisk storage.ghosts old new
  put_disk = ⊎_elim (λ none. unchanged_disk old new none.1) (λ put. same_disk old new (Put name) bytes fate put.1 refl refl) puts

  pub put_stored : OnOk result (Happened (after_put name bytes) (Some (now_at old).objects) (Some (now_at new).objects))
  put_stored = ⊎_elim (λ none. by_fate result (Err Memory) _ none.0 tt) (λ put. put_made_ok old new fate result name bytes put.0 put.1) puts

  pub put_failed : OnErr result (HappenedOrNot (after_put name bytes) (Some (now_at old).objects) (Some (now_at new).objects))
  put_failed =
      ⊎_elim (λ none. on_any result _ (inl (ap (λ (s : MemSiteState). Some (now_at s).objects) none.1)))
      (λ put. on_any result _ (put_made_any old new fate name bytes put.1)) puts

  pub put_memory : result ≡ Err Memory → new ≡ old
  put_memory is = ⊎_elim (λ none. none.1) (λ put. absurd (never_memory fate (sym put.0 ∙ is))) puts

  pub put_made : (result ≡ Err Memory → ⊥) → Made (Put name) bytes fate old new
  put_made other = ⊎_elim (λ none. absurd (other none.0)) (λ put. put.1) puts

  pub put_answers : (result ≡ Err Memory → ⊥) → result ≡ put_answer_of fate
  put_answers other = ⊎_elim (λ none. absurd (other none.0)) (λ put. put.0) puts
