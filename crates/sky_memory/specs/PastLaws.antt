-- Laws of what a site in memory holds after its calls.
use Rattle.std.proofs.Common.{◌≡◌, ℕ, ◌+◌, ◌≤◌, nat_le, Bool, true, false, cond, List, [], ◌∷◌, length, ⊎_elim, arith, refl, sym, ◌∙◌, ap, subst}
use Rattle.std.proofs.lemmas.List.{take_all, length-map}
use Rattle.std.proofs.lemmas.Bool.Decides.{leb_tells}
use Rattle.sky_outside.specs.Image.{written, Torn}
use Rattle.sky_outside.specs.CloudMap.{CloudMap}
use Rattle.sky_outside.proofs.ImageLaws.{Torn-none, Torn-written}
use Rattle.sky_memory.specs.Device.{SiteState}
use Rattle.sky_memory.specs.Past.{SiteAt, Call, at_first, after_step, after_call, after_calls, overwritten, inverted, MayTearTo, LeavesImage, Leaves, LeavesSince}
use Rattle.sky_memory.specs.declared.record.Step.{Step}
use Rattle.sky_memory.specs.declared.record.Step.TheVariants.{Look, Write, Sync, Put, Remove}

-- what the test of it says
fits : (a b : ℕ) → nat_le a b ≡ true → a ≤ b
fits a b tested = ⊎_elim (λ is. is.1) (λ other. absurd cc) (leb_tells a b)

-- a write where it fits, and none where it doesn't
pub overwritten-torn : (image : List ℕ) (at : ℕ) (bytes : List ℕ) → Torn at (length bytes) image (overwritten image at bytes)
overwritten-torn image at bytes =
    elim (nat_le (at + length bytes) (length image)) as (λ b. nat_le (at + length bytes) (length image) ≡ b → Torn at (length bytes) image (cond b (written image at bytes) image)) [
      | true ↦ λ tested. Torn-written image at bytes (fits _ _ tested)
      | false ↦ λ _. Torn-none at (length bytes) image
    ] refl

pub inverted-torn : (image : List ℕ) (at : ℕ) (bytes : List ℕ) → Torn at (length bytes) image (overwritten image at (inverted bytes))
inverted-torn image at bytes = subst (λ n. Torn at n image (overwritten image at (inverted bytes))) (length-map bytes _) (overwritten-torn image at (inverted bytes))

-- a crash may tear nothing
pub MayTearTo-none : (writes : List (ℕ × ℕ)) (synced : List ℕ) → MayTearTo writes synced synced
MayTearTo-none [] synced = refl
MayTearTo-none (w ∷ ws) synced = (synced, MayTearTo-none ws synced, Torn-none w.0 w.1 synced)

-- and leaves the length
pub MayTearTo-size : (writes : List (ℕ × ℕ)) (synced image : List ℕ) → MayTearTo writes synced image → length image ≡ length synced
MayTearTo-size [] synced image is = ap length is
MayTearTo-size (w ∷ ws) synced image tears = tears.2.size ∙ MayTearTo-size ws synced tears.0 tears.1

-- A site whose bytes keep their number, and of which a crash may leave what a read gives, and what is pending inverted.
pub record IsWhole (size : ℕ) (s : SiteAt) : Type 0 where
  pub synced : length s.synced ≡ size
  pub read : LeavesImage s s.image
  pub inverts : LeavesImage s s.inverted

-- one more write, that happened or not
pub written_or_not : (happened : Bool) (image : List ℕ) (at : ℕ) (bytes : List ℕ) → Torn at (length bytes) image (cond happened (overwritten image at bytes) image)
written_or_not true image at bytes = overwritten-torn image at bytes
written_or_not false image at bytes = Torn-none at (length bytes) image

whole_size : (size : ℕ) (s : SiteAt) → IsWhole size s → length s.image ≡ size
whole_size size s whole = MayTearTo-size s.pending s.synced s.image whole.read ∙ whole.synced

whole_sync : (size : ℕ) (happened : Bool) (bytes : List ℕ) (s : SiteAt) → IsWhole size s → IsWhole size (after_step Sync bytes happened s)
whole_sync size true bytes s whole = record { synced = whole_size size s whole; read = refl; inverts = refl }
whole_sync size false bytes s whole = whole

pub whole_step : (size : ℕ) (step : Step) (bytes : List ℕ) (happened : Bool) (s : SiteAt) → IsWhole size s → IsWhole size (after_step step bytes happened s)
whole_step size Look bytes happened s whole = whole
whole_step size (Write at) bytes happened s whole = record {
  synced = whole.synced;
  read = (s.image, whole.read, written_or_not happened s.image at bytes);
  inverts = (s.inverted, whole.inverts, inverted-torn s.inverted at bytes);
}
whole_step size Sync bytes happened s whole = whole_sync size happened bytes s whole
whole_step size (Put name) bytes happened s whole = record { synced = whole.synced; read = whole.read; inverts = whole.inverts }
whole_step size (Remove name) bytes happened s whole = record { synced = whole.synced; read = whole.read; inverts = whole.inverts }

pub whole_calls : (size : ℕ) (calls : List Call) (s : SiteAt) → IsWhole size s → IsWhole size (after_calls calls s)
whole_calls size [] s whole = whole
whole_calls size (call ∷ calls) s whole = whole_calls size calls (after_call call s) (whole_step size call.step call.bytes call.happened s whole)

-- after any calls
pub whole_now : (first : SiteState) (calls : List Call) → IsWhole (length first.image) (after_calls calls (at_first first))
whole_now first calls = whole_calls (length first.image) calls (at_first first) (record { synced = refl; read = refl; inverts = refl })

pub size_now : (first : SiteState) (calls : List Call) → length (after_calls calls (at_first first)).image ≡ length first.image
size_now first calls = whole_size (length first.image) (after_calls calls (at_first first)) (whole_now first calls)

pub size_left : (first : SiteState) (calls : List Call) (image : List ℕ) → LeavesImage (after_calls calls (at_first first)) image → length image ≡ length first.image
size_left first calls image left =
    let s = after_calls calls (at_first first) in MayTearTo-size s.pending s.synced image left ∙ (whole_now first calls).synced

-- what a crash may leave now is left since each earlier moment
pub since_now : (s : SiteAt) (calls : List Call) (t : ℕ) (image : List ℕ) (objects : CloudMap) → t ≤ length calls → Leaves (after_calls calls s) image objects → LeavesSince s calls t image objects
since_now s calls t image objects le leaves =
    (length calls, le, omega arith, subst (λ (l : List Call). Leaves (after_calls l s) image objects) (sym (take_all (length calls) calls (omega arith))) leaves)

-- and nothing else is left since now
pub now_since : (s : SiteAt) (calls : List Call) (image : List ℕ) (objects : CloudMap) → LeavesSince s calls (length calls) image objects → Leaves (after_calls calls s) image objects
now_since s calls image objects since = subst (λ (l : List Call). Leaves (after_calls l s) image objects) (take_all since.0 calls since.1) since.3
