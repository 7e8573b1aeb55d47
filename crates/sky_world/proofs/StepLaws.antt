-- Laws of the steps: each has an outcome, and only one.
use Rattle.std.proofs.Common.{◌≡◌, ℕ, ◌<◌, Bool, true, false, List, [], ◌∷◌, ◌++◌, length, Option, refl, sym, ap, subst, ◌∙◌, ◌⊎◌, inl, inr, append_assoc}
use Rattle.std.proofs.lemmas.Bool.{true≢false}
use Rattle.std.proofs.lemmas.List.{get_or-set_same, set-set}
use Rattle.sky_record.specs.Stream.{Progress, AtHeader, InFragment, Whole, TooLong}
use Rattle.sky_script.specs.Frame as frame
use Rattle.sky_script.specs.Frame.{OutFrame}
use Rattle.sky_world.specs.Meaning.{State, Session, Absent, Closed, Supply, Ample, Scarce, Answered, by_meaning, put_off, out_of_memory, after_message, after_reply, puts_off, service_of, session_at, with_kept, with_session, frame_for, is_open, Passes, Then, WhereOpen, Closes, StepRecord, StepRecords, StepProgress}
use Rattle.sky_sound.specs.Kept.{Kept}
use Rattle.sky_world.specs.Message.{meaning_of}
use Rattle.sky_world.specs.Service.{reply_to, reply_put_off}

-- ---- the session that was set

pub session_at-same : (s : State) (n : ℕ) (x : Session) → n < length s.sessions → session_at (with_session s n x) n ≡ x
session_at-same s n x lt = get_or-set_same s.sessions n x Absent lt

pub with_session-twice : (s : State) (n : ℕ) (x y : Session) → with_session (with_session s n x) n y ≡ with_session s n y
with_session-twice s n x y = ap (λ (ss : List Session). let t : State = record s { sessions = ss } in t) (set-set s.sessions n x y)

-- ---- where a session is open, and where it is not

module _ (Does : State → List OutFrame → State → Type 0) where
  pub where_open : (n : ℕ) (s : State) (outs : List OutFrame) (new : State) → is_open (session_at s n) ≡ true → Does s outs new → WhereOpen n Does s outs new
  where_open n s outs new e does = rw e does

  pub where_closed : (n : ℕ) (s : State) (outs : List OutFrame) (new : State) → is_open (session_at s n) ≡ false → Passes s outs new → WhereOpen n Does s outs new
  where_closed n s outs new e passes = rw e passes

  pub of_open : (n : ℕ) (s : State) (outs : List OutFrame) (new : State) → is_open (session_at s n) ≡ true → WhereOpen n Does s outs new → Does s outs new
  of_open n s outs new e where_does = rw e at where_does

  pub of_closed : (n : ℕ) (s : State) (outs : List OutFrame) (new : State) → is_open (session_at s n) ≡ false → WhereOpen n Does s outs new → Passes s outs new
  of_closed n s outs new e where_does = rw e at where_does

either : (b : Bool) → (b ≡ true) ⊎ (b ≡ false)
either true = inl refl
either false = inr refl

pub open_or_not : (n : ℕ) (s : State) → (is_open (session_at s n) ≡ true) ⊎ (is_open (session_at s n) ≡ false)
open_or_not n s = either (is_open (session_at s n))

-- ---- records, and further records

-- a session that is not open has its records passed over
pub records_pass : (mem : Supply) (n : ℕ) (records : List (List ℕ)) (s : State) (outs : List OutFrame) (new : State) → is_open (session_at s n) ≡ false → StepRecords mem n records s outs new → Passes s outs new
records_pass mem n [] s outs new e steps = steps
records_pass mem n (bytes ∷ records) s outs new e steps = of_closed (Then (StepRecord mem n bytes) (StepRecords mem n records)) n s outs new e steps

pub records_passed : (mem : Supply) (n : ℕ) (records : List (List ℕ)) (s : State) → is_open (session_at s n) ≡ false → StepRecords mem n records s [] s
records_passed mem n [] s e = (refl, refl)
records_passed mem n (bytes ∷ records) s e = where_closed (Then (StepRecord mem n bytes) (StepRecords mem n records)) n s [] s e (refl, refl)

pub records_then : (mem : Supply) (n : ℕ) (records further : List (List ℕ)) (s : State) (a : List OutFrame) (t : State) (b : List OutFrame) (u : State)
    → StepRecords mem n records s a t → StepRecords mem n further t b u → StepRecords mem n (records ++ further) s (a ++ b) u
records_then mem n [] further s a t b u p q =
    let from : StepRecords mem n further s b u = subst (λ (x : State). StepRecords mem n further x b u) p.1 q in
    subst (λ (x : List OutFrame). StepRecords mem n further s (x ++ b) u) (sym p.0) from
records_then mem n (bytes ∷ records) further s a t b u p q =
    let First : State → List OutFrame → State → Type 0 = StepRecord mem n bytes in
    elim (open_or_not n s) [
      | inl e ↦
          let h = of_open (Then First (StepRecords mem n records)) n s a t e p in
          let rest = records_then mem n records further h.0 h.2 t b u h.4 q in
          where_open (Then First (StepRecords mem n (records ++ further))) n s (a ++ b) u e (h.0, h.1, h.2 ++ b, h.3, rest, ap (λ (x : List OutFrame). x ++ b) h.5 ∙ append_assoc h.1 h.2 b)
      | inr e ↦
          let h = of_closed (Then First (StepRecords mem n records)) n s a t e p in
          let closed : is_open (session_at t n) ≡ false = ap (λ (x : State). is_open (session_at x n)) h.1 ∙ e in
          let k = records_pass mem n further t b u closed q in
          where_closed (Then First (StepRecords mem n (records ++ further))) n s (a ++ b) u e (ap (λ (x : List OutFrame). x ++ b) h.0 ∙ k.0, k.1 ∙ h.1)
    ]

-- ---- each step has an outcome

abbrev pub HasOutcome : (State → List OutFrame → State → Type 0) → State → Type 0
HasOutcome Does s = (outs : List OutFrame) × (new : State) × Does s outs new

-- by what it means a record always has an answer
pub record_some : (mem : Supply) (n : ℕ) (bytes : List ℕ) (s : State) → HasOutcome (StepRecord mem n bytes) s
record_some mem n bytes s =
    elim (either (puts_off s (meaning_of bytes))) [
      | inl e ↦
          let reply : Option (List ℕ) = reply_put_off (meaning_of bytes) in
          (frame_for n reply ∷ [], after_reply n reply (with_kept s s.kept), record { reply = reply; after = s.kept; answered = put_off e refl refl; answers = refl; leads = refl })
      | inr e ↦
          let reply : Option (List ℕ) = reply_to (service_of s) (meaning_of bytes) in
          let after : Kept = after_message s (meaning_of bytes) in
          (frame_for n reply ∷ [], after_reply n reply (with_kept s after), record { reply = reply; after = after; answered = by_meaning e refl refl; answers = refl; leads = refl })
    ]

pub records_some : (mem : Supply) (n : ℕ) (records : List (List ℕ)) (s : State) → HasOutcome (StepRecords mem n records) s
records_some mem n [] s = ([], s, (refl, refl))
records_some mem n (bytes ∷ records) s =
    let First : State → List OutFrame → State → Type 0 = StepRecord mem n bytes in
    elim (open_or_not n s) [
      | inl e ↦
          let h = record_some mem n bytes s in
          let k = records_some mem n records h.1 in
          (h.0 ++ k.0, k.1, where_open (Then First (StepRecords mem n records)) n s (h.0 ++ k.0) k.1 e (h.1, h.0, k.0, h.2, k.2, refl))
      | inr e ↦ ([], s, where_closed (Then First (StepRecords mem n records)) n s [] s e (refl, refl))
    ]

pub progress_some : (n : ℕ) (progress : Progress) (s : State) → HasOutcome (StepProgress n progress) s
progress_some n (AtHeader part) s = ([], s, (refl, refl))
progress_some n (InFragment last due) s = ([], s, (refl, refl))
progress_some n Whole s = ([], s, (refl, refl))
progress_some n TooLong s =
    elim (open_or_not n s) [
      | inl e ↦ (frame.Closed n ∷ [], with_session s n Closed, where_open (Closes n) n s (frame.Closed n ∷ []) (with_session s n Closed) e (refl, refl))
      | inr e ↦ ([], s, where_closed (Closes n) n s [] s e (refl, refl))
    ]

-- ---- and only one, where there was memory

ample_not_scarce : Ample ≡ Scarce → ⊥
ample_not_scarce e = cc

abbrev pub IsOne : (State → List OutFrame → State → Type 0) → Type 0
IsOne Does = (s : State) (a b : List OutFrame) (t u : State) → Does s a t → Does s b u → (a ≡ b) × (t ≡ u)

-- what both are
pub both : (s : State) (a b x : List OutFrame) (t u y : State) → (a ≡ x) × (t ≡ y) → (b ≡ x) × (u ≡ y) → (a ≡ b) × (t ≡ u)
both s a b x t u y p q = (p.0 ∙ sym q.0, p.1 ∙ sym q.1)

pub passes_one : IsOne Passes
passes_one s a b t u p q = both s a b [] t u s p q

pub closes_one : (n : ℕ) → IsOne (Closes n)
closes_one n s a b t u p q = both s a b (frame.Closed n ∷ []) t u (with_session s n Closed) p q

-- where there was memory, the answer to a record is that of its meaning
answered_one : (s : State) (bytes : List ℕ) (p q : Option (List ℕ)) (h k : Kept) → Answered Ample s bytes p h → Answered Ample s bytes q k → (p ≡ q) × (h ≡ k)
answered_one s bytes p q h k (by_meaning room e f) (by_meaning room' e' f') = (e ∙ sym e', f ∙ sym f')
answered_one s bytes p q h k (put_off full e f) (put_off full' e' f') = (e ∙ sym e', f ∙ sym f')
answered_one s bytes p q h k (by_meaning room e f) (put_off full e' f') = absurd (true≢false (sym full ∙ room))
answered_one s bytes p q h k (put_off full e f) (by_meaning room e' f') = absurd (true≢false (sym full ∙ room))
answered_one s bytes p q h k (out_of_memory scarce out stays) other = absurd (ample_not_scarce scarce)
answered_one s bytes p q h k (by_meaning room e f) (out_of_memory scarce out stays) = absurd (ample_not_scarce scarce)
answered_one s bytes p q h k (put_off full e f) (out_of_memory scarce out stays) = absurd (ample_not_scarce scarce)

pub record_one : (n : ℕ) (bytes : List ℕ) → IsOne (StepRecord Ample n bytes)
record_one n bytes s a b t u p q =
    let same = answered_one s bytes p.reply q.reply p.after q.after p.answered q.answered in
    let outs : frame_for n p.reply ≡ frame_for n q.reply = ap (frame_for n) same.0 in (
      p.answers ∙ ap (λ (f : OutFrame). f ∷ []) outs ∙ sym q.answers,
      p.leads ∙ ap (λ (r : Option (List ℕ)). after_reply n r (with_kept s p.after)) same.0 ∙ ap (λ (h : Kept). after_reply n q.reply (with_kept s h)) same.1 ∙ sym q.leads,
    )

module _ (First Second : State → List OutFrame → State → Type 0) where
  pub then_one : IsOne First → IsOne Second → IsOne (Then First Second)
  then_one first second s a b t u p q =
      let h = first s p.1 q.1 p.0 q.0 p.3 q.3 in
      let moved : Second p.0 q.2 u = subst (λ (x : State). Second x q.2 u) (sym h.1) q.4 in
      let k = second p.0 p.2 q.2 t u p.4 moved in
      (p.5 ∙ ap (λ (x : List OutFrame). x ++ p.2) h.0 ∙ ap (λ (x : List OutFrame). q.1 ++ x) k.0 ∙ sym q.5, k.1)

module _ (Does : State → List OutFrame → State → Type 0) where
  pub where_open_one : (n : ℕ) → IsOne Does → IsOne (WhereOpen n Does)
  where_open_one n one s a b t u p q =
      elim (open_or_not n s) [
        | inl e ↦ one s a b t u (of_open Does n s a t e p) (of_open Does n s b u e q)
        | inr e ↦ passes_one s a b t u (of_closed Does n s a t e p) (of_closed Does n s b u e q)
      ]

pub records_one : (n : ℕ) (records : List (List ℕ)) → IsOne (StepRecords Ample n records)
records_one n [] s a b t u p q = passes_one s a b t u p q
records_one n (bytes ∷ records) s a b t u p q =
    let First : State → List OutFrame → State → Type 0 = StepRecord Ample n bytes in
    where_open_one (Then First (StepRecords Ample n records)) n (then_one First (StepRecords Ample n records) (record_one n bytes) (records_one n records)) s a b t u p q

pub progress_one : (n : ℕ) (progress : Progress) → IsOne (StepProgress n progress)
progress_one n (AtHeader part) s a b t u p q = passes_one s a b t u p q
progress_one n (InFragment last due) s a b t u p q = passes_one s a b t u p q
progress_one n Whole s a b t u p q = passes_one s a b t u p q
progress_one n TooLong s a b t u p q = where_open_one (Closes n) n (closes_one n) s a b t u p q
