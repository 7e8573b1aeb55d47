-- What a stop within a call leaves is among what a crash may leave.
use Rattle.std.proofs.Common.{◌≡◌, ◌⊎◌, ⊎_elim, inl, inr, ℕ, zero, suc, ◌+◌, ◌≤◌, ◌==◌, min, Bool, true, false, cond, List, [], ◌∷◌, length, take, Some, Result, Ok, Err, IfOk, slice_get, arith, refl, sym, ◌∙◌, ap, subst}
use Rattle.sky_base.specs.declared.object.SegName.{SegName}
use Rattle.sky_outside.specs.CloudMap.{CloudMap}
use Rattle.sky_memory.specs.Device.{SiteState}
use Rattle.sky_memory.specs.Past.{SiteAt, Call, at_first, after_step, after_call, after_calls, overwritten, inverted, by_part, Leaves, LeavesSince, stopped_image, stopped_objects, stopped_at}
use Rattle.sky_memory.specs.PastLaws.{IsWhole, whole_step, overwritten-torn, inverted-torn, MayTearTo-none}
use Rattle.std.proofs.lemmas.List.{take_all}
use Rattle.sky_memory.specs.Replay.{IsAt, IsStoppedAt}
use Rattle.sky_memory.specs.declared.past.Past.{Past}
use Rattle.sky_memory.specs.declared.record.Step.{Step}
use Rattle.sky_memory.specs.declared.record.Step.TheVariants.{Look, Write, Sync, Put, Remove}

-- what holds of each of three choices
by_parts : {A : Type 0} (P : A → Type 0) (part : ℕ) (a b c : A) → P a → P b → P c → P (by_part part a b c)
by_parts P part a b c here all other =
    elim (part == 0) as (λ v. P (cond v a (cond (part == 1) b c))) [ true ↦ here | false ↦ elim (part == 1) as (λ v. P (cond v b c)) [ true ↦ all | false ↦ other ] ]

-- before a call, or after it
LeavesEither : Step → List ℕ → Bool → SiteAt → List ℕ → CloudMap → Type 0
LeavesEither step bytes happened s image objects = Leaves s image objects ⊎ Leaves (after_step step bytes happened s) image objects

stop_write : (size : ℕ) (part at : ℕ) (bytes : List ℕ) (happened : Bool) (s : SiteAt) → IsWhole size s → LeavesEither (Write at) bytes happened s (stopped_image part (Write at) bytes s) s.objects
unfolding LeavesEither
stop_write size part at bytes happened s whole =
    by_parts (λ image. LeavesEither (Write at) bytes happened s image s.objects) part s.image (overwritten s.image at bytes) (overwritten s.image at (inverted bytes)) (inl (whole.read, refl))
    (inr ((s.image, whole.read, overwritten-torn s.image at bytes), refl)) (inr ((s.image, whole.read, inverted-torn s.image at bytes), refl))

sync_objects : (bytes : List ℕ) (happened : Bool) (s : SiteAt) → (after_step Sync bytes happened s).objects ≡ s.objects
sync_objects bytes true s = refl
sync_objects bytes false s = refl

stop_sync : (size : ℕ) (part : ℕ) (bytes : List ℕ) (s : SiteAt) (objects : CloudMap) → objects ≡ s.objects → IsWhole size s → Leaves s (stopped_image part Sync bytes s) objects
stop_sync size part bytes s objects same whole =
    by_parts (λ image. Leaves s image objects) part s.synced s.image s.inverted (MayTearTo-none s.pending s.synced, same) (whole.read, same) (whole.inverts, same)

-- a put or a removal that is left or not
put_or_not : (none : Bool) (name : SegName) (bytes : List ℕ) (happened : Bool) (size : ℕ) (s : SiteAt) → IsWhole size s
    → LeavesEither (Put name) bytes happened s s.image (after_step (Put name) bytes (cond none false happened) s).objects
unfolding LeavesEither
put_or_not true name bytes happened size s whole = inl (whole.read, refl)
put_or_not false name bytes happened size s whole = inr (whole.read, refl)

removal_or_not : (none : Bool) (name : SegName) (bytes : List ℕ) (happened : Bool) (size : ℕ) (s : SiteAt) → IsWhole size s
    → LeavesEither (Remove name) bytes happened s s.image (after_step (Remove name) bytes (cond none false happened) s).objects
unfolding LeavesEither
removal_or_not true name bytes happened size s whole = inl (whole.read, refl)
removal_or_not false name bytes happened size s whole = inr (whole.read, refl)

stop_step : (size : ℕ) (part : ℕ) (step : Step) (bytes : List ℕ) (happened : Bool) (s : SiteAt) → IsWhole size s
    → LeavesEither step bytes happened s (stopped_image part step bytes s) (after_step step bytes (cond (part == 0) false happened) s).objects
unfolding LeavesEither
stop_step size part Look bytes happened s whole = inl (whole.read, refl)
stop_step size part (Write at) bytes happened s whole = stop_write size part at bytes happened s whole
stop_step size part Sync bytes happened s whole = inl (stop_sync size part bytes s _ (sync_objects bytes (cond (part == 0) false happened) s) whole)
stop_step size part (Put name) bytes happened s whole = put_or_not (part == 0) name bytes happened size s whole
stop_step size part (Remove name) bytes happened s whole = removal_or_not (part == 0) name bytes happened size s whole

stop_call : (size : ℕ) (part : ℕ) (call : Call) (s : SiteAt) → IsWhole size s
    → Leaves s (stopped_image part call.step call.bytes s) (stopped_objects part call s) ⊎ Leaves (after_call call s) (stopped_image part call.step call.bytes s) (stopped_objects part call s)
unfolding LeavesEither
stop_call size part call s whole = stop_step size part call.step call.bytes call.happened s whole

-- what a stop leaves is left since its call
stop_since : (size : ℕ) (part : ℕ) (calls : List Call) (number : ℕ) (s : SiteAt) → IsWhole size s
    → LeavesSince s calls (min number (length calls)) (stopped_at part calls number s).0 (stopped_at part calls number s).1
stop_since size part [] number s whole = (0, omega arith, omega arith, (whole.read, refl))
stop_since size part (call ∷ calls) zero s whole =
    ⊎_elim (λ before. (0, omega arith, omega arith, before)) (λ behind. (1, omega arith, omega arith, behind)) (stop_call size part call s whole)
stop_since size part (call ∷ calls) (suc number) s whole =
    let since = stop_since size part calls number (after_call call s) (whole_step size call.step call.bytes call.happened s whole) in
    (suc since.0, omega (arith, since.1), omega (arith, since.2), since.3)

pub stop_among : (part : ℕ) (first : SiteState) (calls : List Call) (number : ℕ)
    → LeavesSince (at_first first) calls (min number (length calls)) (stopped_at part calls number (at_first first)).0 (stopped_at part calls number (at_first first)).1
stop_among part first calls number = stop_since (length first.image) part calls number (at_first first) (record { synced = refl; read = refl; inverts = refl })

-- the call that a stop falls into
pub stop_within : (part : ℕ) (calls : List Call) (number : ℕ) (s : SiteAt) (call : Call) → slice_get calls number ≡ Some call
    → stopped_at part calls number s ≡ (stopped_image part call.step call.bytes (after_calls (take number calls) s), stopped_objects part call (after_calls (take number calls) s))
stop_within part [] number s call found = absurd cc
stop_within part (c ∷ calls) zero s call found = let same : c ≡ call = cc in ap (λ (k : Call). (stopped_image part k.step k.bytes s, stopped_objects part k s)) same
stop_within part (c ∷ calls) (suc number) s call found = stop_within part calls number (after_call c s) call found

-- or none
pub stop_beyond : (part : ℕ) (calls : List Call) (number : ℕ) (s : SiteAt) → length calls ≤ number → stopped_at part calls number s ≡ ((after_calls calls s).image, (after_calls calls s).objects)
stop_beyond part [] number s beyond = refl
stop_beyond part (c ∷ calls) zero s beyond = absurd (omega arith)
stop_beyond part (c ∷ calls) (suc number) s beyond = stop_beyond part calls number (after_call c s) (omega arith)

-- one call more of those that are done again
pub next_call : (calls : List Call) (number : ℕ) (s : SiteAt) (call : Call) → slice_get calls number ≡ Some call → after_calls (take (number + 1) calls) s ≡ after_call call (after_calls (take number calls) s)
next_call calls number s call found = ap (λ n. after_calls (take n calls) s) (suc_is number) ∙ by calls number s found
  where
    suc_is : (n : ℕ) → n + 1 ≡ suc n
    suc_is n = omega arith

    by : (calls : List Call) (number : ℕ) (s : SiteAt) → slice_get calls number ≡ Some call → after_calls (take (suc number) calls) s ≡ after_call call (after_calls (take number calls) s)
    by [] number s found = absurd cc
    by (c ∷ calls) zero s found = let same : c ≡ call = cc in ap (λ (k : Call). after_call k s) same
    by (c ∷ calls) (suc number) s found = by calls number (after_call c s) found

-- a site whose calls were all done again
pub left_beyond : (past : Past) (part : ℕ) (calls : List Call) (count number : ℕ) (s : SiteAt) → count ≡ length calls → count ≤ number → IsAt past (after_calls (take count calls) s)
    → IsStoppedAt past (stopped_at part calls number s).0 (stopped_at part calls number s).1
left_beyond past part calls count number s counts beyond at =
    let all : take count calls ≡ calls = take_all count calls (omega (arith, counts)) in
    let whole : IsAt past (after_calls calls s) = subst (λ (l : List Call). IsAt past (after_calls l s)) all at in
    let stop = stop_beyond part calls number s (omega (arith, counts, beyond)) in
    record { left = whole.image ∙ ap (λ (p : List ℕ × CloudMap). p.0) (sym stop); held = whole.objects ∙ ap (λ (p : List ℕ × CloudMap). p.1) (sym stop) }

-- and one that was stopped within a call
pub left_within : (past : Past) (part : ℕ) (calls : List Call) (number : ℕ) (s : SiteAt) (call : Call) → slice_get calls number ≡ Some call
    → IsStoppedAt past (stopped_image part call.step call.bytes (after_calls (take number calls) s)) (stopped_objects part call (after_calls (take number calls) s))
    → IsStoppedAt past (stopped_at part calls number s).0 (stopped_at part calls number s).1
left_within past part calls number s call found stopped = subst (λ (p : List ℕ × CloudMap). IsStoppedAt past p.0 p.1) (sym (stop_within part calls number s call found)) stopped

-- what holds of a value that there may be
pub IfOk-map : {T E : Type 0} (r : Result T E) (P Q : T → Type 0) → ((x : T) → P x → Q x) → IfOk r P → IfOk r Q
IfOk-map (Ok x) P Q to holds = to x holds
IfOk-map (Err e) P Q to holds = tt
