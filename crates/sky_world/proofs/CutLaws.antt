-- A payload that is cut into two frames is answered as the whole payload is.
use Rattle.std.proofs.Common.{◌≡◌, ℕ, ◌<◌, true, false, Option, Some, None, List, [], ◌∷◌, ◌++◌, length, ◌⊎◌, ⊎_elim, inl, inr, refl, sym, ap, subst, ◌∙◌, append_assoc}
use Rattle.std.proofs.lemmas.Bool.{cases_lt}
use Rattle.std.proofs.lemmas.List.{append-nil, get_or_past}
use Rattle.sky_record.specs.Stream.{Progress, AtHeader, InFragment, Whole, TooLong, Received, ReadsRecords, Completes}
use Rattle.sky_record.proofs.Reading.{one_reading, closed_reads_on}
use Rattle.sky_script.specs.Frame as frame
use Rattle.sky_script.specs.Frame.{OutFrame}
use Rattle.sky_xdr.specs.Encoding.{AreBytes}
use Rattle.sky_xdr.proofs.Numbers.{AreBytes-append}
use Rattle.sky_world.specs.Bytes.{HasBytes, HasByteStreams}
use Rattle.sky_world.specs.Meaning.{State, Session, Absent, Open, Closed, Supply, Answered, by_meaning, put_off, out_of_memory, session_at, with_kept, with_session, is_open, frame_for, after_reply, Passes, Then, Closes, StepRecord, StepRecords, StepProgress, StepBytes, Step}
use Rattle.sky_sound.specs.Kept.{Kept}
use Rattle.sky_world.proofs.SessionLaws.{all-at}
use Rattle.sky_world.proofs.FeedLaws.{completed, progress_passed}
use Rattle.sky_world.proofs.StepLaws.{session_at-same, with_session-twice, where_open, of_open, of_closed, records_then, records_passed, records_pass}

-- what is too long does not matter to a session that is not open
progress_passes : (n : ℕ) (progress : Progress) (s : State) (outs : List OutFrame) (t : State) → is_open (session_at s n) ≡ false → StepProgress n progress s outs t → Passes s outs t
progress_passes n (AtHeader part) s outs t e p = p
progress_passes n (InFragment last due) s outs t e p = p
progress_passes n Whole s outs t e p = p
progress_passes n TooLong s outs t e p = of_closed (Closes n) n s outs t e p

module _ (mem : Supply) (s : State) (n : ℕ) (lt : n < length s.sessions) where
  -- the session is open with this stream, and this is the history
  abbrev at : Kept → List ℕ → State
  at h stream = with_session (with_kept s h) n (Open stream)

  -- it was closed
  abbrev shut : Kept → State
  shut h = with_session (with_kept s h) n Closed

  at_open : (h : Kept) (x : List ℕ) → is_open (session_at (at h x) n) ≡ true
  at_open h x = ap is_open (session_at-same (with_kept s h) n (Open x) lt)

  shut_closed : (h : Kept) → is_open (session_at (shut h) n) ≡ false
  shut_closed h = ap is_open (session_at-same (with_kept s h) n Closed lt)

  shut_at : (h : Kept) → session_at (shut h) n ≡ Closed
  shut_at h = session_at-same (with_kept s h) n Closed lt

  shut_twice : (h : Kept) (x : List ℕ) → with_session (at h x) n Closed ≡ shut h
  shut_twice h x = with_session-twice (with_kept s h) n (Open x) Closed

  -- ---- what the stream is does not matter to the records

  -- a step from one stream is one from another, and leads to the same things kept
  abbrev Swaps : (State → List OutFrame → State → Type 0) → Kept → (x y : List ℕ) (outs : List OutFrame) (t : State) → Type 0
  Swaps Does h x y outs t = (k : Kept) × (((t ≡ at k x) × Does (at h y) outs (at k y)) ⊎ ((t ≡ shut k) × Does (at h y) outs (shut k)))

  swap_answer : (bytes : List ℕ) (h : Kept) (x y : List ℕ) (reply : Option (List ℕ)) (k : Kept) → Answered mem (at h x) bytes reply k → Answered mem (at h y) bytes reply k
  swap_answer bytes h x y reply k (by_meaning room e f) = by_meaning room e f
  swap_answer bytes h x y reply k (put_off full e f) = put_off full e f
  swap_answer bytes h x y reply k (out_of_memory scarce out f) = out_of_memory scarce out f

  swap_reply : (bytes : List ℕ) (h : Kept) (x y : List ℕ) (reply : Option (List ℕ)) (k : Kept) (outs : List OutFrame) (t : State) → Answered mem (at h x) bytes reply k → outs ≡ frame_for n reply ∷ []
      → t ≡ after_reply n reply (with_kept (at h x) k) → Swaps (StepRecord mem n bytes) h x y outs t
  swap_reply bytes h x y None k outs t a e f =
      (k, inr (f ∙ shut_twice k x, record { reply = None; after = k; answered = swap_answer bytes h x y None k a; answers = e; leads = sym (shut_twice k y) }))
  swap_reply bytes h x y (Some reply) k outs t a e f =
      (k, inl (f, record { reply = Some reply; after = k; answered = swap_answer bytes h x y (Some reply) k a; answers = e; leads = refl }))

  swap_record : (bytes : List ℕ) (h : Kept) (x y : List ℕ) (outs : List OutFrame) (t : State) → StepRecord mem n bytes (at h x) outs t → Swaps (StepRecord mem n bytes) h x y outs t
  swap_record bytes h x y outs t p = swap_reply bytes h x y p.reply p.after outs t p.answered p.answers p.leads

  swap_records : (records : List (List ℕ)) (h : Kept) (x y : List ℕ) (outs : List OutFrame) (t : State) → StepRecords mem n records (at h x) outs t → Swaps (StepRecords mem n records) h x y outs t
  swap_records [] h x y outs t p = (h, inl (p.1, (p.0, refl)))
  swap_records (bytes ∷ records) h x y outs t p =
      let First : State → List OutFrame → State → Type 0 = StepRecord mem n bytes in
      let Both : State → List OutFrame → State → Type 0 = Then First (StepRecords mem n records) in
      let d = of_open Both n (at h x) outs t (at_open h x) p in
      let swapped = swap_record bytes h x y d.1 d.0 d.3 in
      let k : Kept = swapped.0 in
      elim swapped.1 [
        | inl f ↦
            let rest = swap_records records k x y d.2 t (subst (λ (u : State). StepRecords mem n records u d.2 t) f.0 d.4) in
            elim rest.1 [
              | inl r ↦ (rest.0, inl (r.0, where_open Both n (at h y) outs (at rest.0 y) (at_open h y) (at k y, d.1, d.2, f.1, r.1, d.5)))
              | inr r ↦ (rest.0, inr (r.0, where_open Both n (at h y) outs (shut rest.0) (at_open h y) (at k y, d.1, d.2, f.1, r.1, d.5)))
            ]
        | inr f ↦
            let rest = subst (λ (u : State). StepRecords mem n records u d.2 t) f.0 d.4 in
            let passed = records_pass mem n records (shut k) d.2 t (shut_closed k) rest in
            (k, inr (passed.1, where_open Both n (at h y) outs (shut k) (at_open h y) (shut k, d.1, d.2, f.1, subst (λ (u : State). StepRecords mem n records (shut k) d.2 u) passed.1 rest, d.5)))
      ]

  -- what a stream does at its end
  ends_first : (progress : Progress) (h : Kept) (x : List ℕ) (outs : List OutFrame) (t : State) → StepProgress n progress (at h x) outs t
      → ((outs ≡ []) × (t ≡ at h x)) ⊎ ((progress ≡ TooLong) × (outs ≡ frame.Closed n ∷ []) × (t ≡ shut h))
  ends_first (AtHeader part) h x outs t p = inl p
  ends_first (InFragment last due) h x outs t p = inl p
  ends_first Whole h x outs t p = inl p
  ends_first TooLong h x outs t p = let d = of_open (Closes n) n (at h x) outs t (at_open h x) p in inr (refl, d.0, d.1 ∙ shut_twice h x)

  -- ---- two payloads

  module _ (stream p q : List ℕ) where
    -- both at once
    abbrev Whole_step : List OutFrame → State → Type 0
    Whole_step outs new = StepBytes mem (Open stream) n (p ++ q) s outs new

    -- where they begin
    abbrev begun : State
    begun = at s.kept (stream ++ (p ++ q))

    -- a session that the first closes, by a record
    closed_first : (fits : AreBytes stream) (p_fits : AreBytes p) (q_fits : AreBytes q) (records : List (List ℕ)) (end : Received) (outs : List OutFrame) (h : Kept) → Completes stream p records end
        → StepRecords mem n records begun outs (shut h) → Whole_step outs (shut h)
    closed_first fits p_fits q_fits records end outs h c steps =
        let k = completed stream (p ++ q) p q c.before records c.part end fits (AreBytes-append p q p_fits q_fits) refl c.read c.goes_on in
        let all = records_then mem n records k.later begun outs (shut h) [] (shut h) steps (records_passed mem n k.later (shut h) (shut_closed h)) in
        let here = subst (λ (o : List OutFrame). StepRecords mem n (records ++ k.later) begun o (shut h)) (append-nil outs) all in
        (records ++ k.later, k.end, k.completes, (shut h, outs, [], here, progress_passed n k.end.progress (shut h) (shut_closed h), sym (append-nil outs)))

    text_is : (stream ++ p) ++ q ≡ stream ++ (p ++ q)
    text_is = append_assoc stream p q

    -- one that the first closes, by a record that is too long
    too_long_first : (records : List (List ℕ)) (bytes : List ℕ) (outs : List OutFrame) (h : Kept) → Completes stream p records (record { bytes = bytes; progress = TooLong })
        → StepRecords mem n records begun outs (at h (stream ++ (p ++ q))) → Whole_step (outs ++ frame.Closed n ∷ []) (shut h)
    too_long_first records bytes outs h c steps =
        let y : List ℕ = stream ++ (p ++ q) in
        let end : Received = record { bytes = bytes; progress = TooLong } in
        let read = closed_reads_on (stream ++ p) q (c.before ++ records) bytes TooLong c.goes_on (λ o. o) in
        let goes_on = subst (λ (t : List ℕ). ReadsRecords t (c.before ++ records) end) text_is read in
        let closes : Closes n (at h y) (frame.Closed n ∷ []) (shut h) = (refl, sym (shut_twice h y)) in
        (records, end, record { before = c.before; part = c.part; read = c.read; goes_on = goes_on }, (at h y, outs, frame.Closed n ∷ [], steps, where_open (Closes n) n (at h y) (frame.Closed n ∷ []) (shut h) (at_open h y) closes, refl))

    -- one that the first leaves open
    open_first : (records later : List (List ℕ)) (end last : Received) (outs more rest : List OutFrame) (h : Kept) (mid new : State) → Completes stream p records end → Completes (stream ++ p) q later last
        → StepRecords mem n records begun outs (at h (stream ++ (p ++ q))) → StepRecords mem n later (at h (stream ++ (p ++ q))) more mid → StepProgress n last.progress mid rest new
        → Whole_step (outs ++ (more ++ rest)) new
    open_first records later end last outs more rest h mid new c d steps further ends =
        let y : List ℕ = stream ++ (p ++ q) in
        let before : d.before ≡ c.before ++ records = (one_reading (stream ++ p) d.before (c.before ++ records) d.part end d.read c.goes_on).0 in
        let records_are : d.before ++ later ≡ c.before ++ (records ++ later) = ap (λ (t : List (List ℕ)). t ++ later) before ∙ append_assoc c.before records later in
        let goes_on = subst (λ (t : List (List ℕ)). ReadsRecords y t last) records_are (subst (λ (t : List ℕ). ReadsRecords t (d.before ++ later) last) text_is d.goes_on) in (
          records ++ later,
          last,
          record { before = c.before; part = c.part; read = c.read; goes_on = goes_on },
          (mid, outs ++ more, rest, records_then mem n records later begun outs (at h y) more mid steps further, ends, sym (append_assoc outs more rest)),
        )

    -- what the first leaves
    passes_second : (x : Session) (outs further : List OutFrame) (mid new : State) → x ≡ Closed → StepBytes mem x n q mid further new → Passes mid further new
    passes_second x outs further mid new e step = rw e at step

    cut_shut : AreBytes stream → AreBytes p → AreBytes q → (records : List (List ℕ)) (end : Received) (outs rest further : List OutFrame) (h : Kept) (first mid new : State) → Completes stream p records end → first ≡ shut h
        → StepRecords mem n records begun outs (shut h) → StepProgress n end.progress first rest mid → StepBytes mem (session_at mid n) n q mid further new → Whole_step ((outs ++ rest) ++ further) new
    cut_shut fits p_fits q_fits records end outs rest further h first mid new c is steps ends second =
        let passed = progress_passes n end.progress (shut h) rest mid (shut_closed h) (subst (λ (u : State). StepProgress n end.progress u rest mid) is ends) in
        let closed : session_at mid n ≡ Closed = ap (λ (u : State). session_at u n) passed.1 ∙ shut_at h in
        let later = passes_second (session_at mid n) outs further mid new closed second in
        let whole = closed_first fits p_fits q_fits records end outs h c steps in
        let none : (outs ++ rest) ++ further ≡ outs =
        ap (λ (o : List OutFrame). (outs ++ rest) ++ o) later.0 ∙ append-nil (outs ++ rest) ∙ ap (λ (o : List OutFrame). outs ++ o) passed.0 ∙ append-nil outs in
        let here = subst (λ (o : List OutFrame). Whole_step o (shut h)) (sym none) whole in
        subst (λ (u : State). Whole_step ((outs ++ rest) ++ further) u) (sym (later.1 ∙ passed.1)) here

    cut_too_long : (records : List (List ℕ)) (end : Received) (outs rest further : List OutFrame) (h : Kept) (mid new : State) → Completes stream p records end → end.progress ≡ TooLong
        → StepRecords mem n records begun outs (at h (stream ++ (p ++ q))) → rest ≡ frame.Closed n ∷ [] → mid ≡ shut h → StepBytes mem (session_at mid n) n q mid further new
        → Whole_step ((outs ++ rest) ++ further) new
    cut_too_long records end outs rest further h mid new c long steps rest_is mid_is second =
        let closed : session_at mid n ≡ Closed = ap (λ (u : State). session_at u n) mid_is ∙ shut_at h in
        let later = passes_second (session_at mid n) outs further mid new closed second in
        let c' = subst (λ (x : Progress). Completes stream p records (record { bytes = end.bytes; progress = x })) long c in
        let whole = too_long_first records end.bytes outs h c' steps in
        let all : (outs ++ rest) ++ further ≡ outs ++ frame.Closed n ∷ [] = ap (λ (o : List OutFrame). (outs ++ rest) ++ o) later.0 ∙ append-nil (outs ++ rest) ∙ ap (λ (o : List OutFrame). outs ++ o) rest_is in
        let here = subst (λ (o : List OutFrame). Whole_step o (shut h)) (sym all) whole in
        subst (λ (u : State). Whole_step ((outs ++ rest) ++ further) u) (sym (later.1 ∙ mid_is)) here

    cut_still_open : (records : List (List ℕ)) (end : Received) (outs rest further : List OutFrame) (h : Kept) (mid new : State) → Completes stream p records end
        → StepRecords mem n records begun outs (at h (stream ++ (p ++ q))) → rest ≡ [] → mid ≡ at h (stream ++ p) → StepBytes mem (session_at mid n) n q mid further new
        → Whole_step ((outs ++ rest) ++ further) new
    cut_still_open records end outs rest further h mid new c steps rest_is mid_is second =
        let y : List ℕ = stream ++ (p ++ q) in
        let x : State = at h (stream ++ p) in
        let here : StepBytes mem (session_at x n) n q x further new = subst (λ (u : State). StepBytes mem (session_at u n) n q u further new) mid_is second in
        let step = subst (λ (v : Session). StepBytes mem v n q x further new) (session_at-same (with_kept s h) n (Open (stream ++ p)) lt) here in
        let fed_is : with_session x n (Open ((stream ++ p) ++ q)) ≡ at h y = with_session-twice (with_kept s h) n (Open (stream ++ p)) (Open ((stream ++ p) ++ q)) ∙ ap (at h) text_is in
        let t = step.3 in
        let further_steps = subst (λ (u : State). StepRecords mem n step.0 u t.1 t.0) fed_is t.3 in
        let whole = open_first records step.0 end step.1 outs t.1 t.2 h t.0 new c step.2 steps further_steps t.4 in
        let all : (outs ++ rest) ++ further ≡ outs ++ (t.1 ++ t.2) = ap (λ (o : List OutFrame). (outs ++ o) ++ further) rest_is ∙ ap (λ (o : List OutFrame). o ++ further) (append-nil outs) ∙ ap (λ (o : List OutFrame). outs ++ o) t.5 in
        subst (λ (o : List OutFrame). Whole_step o new) (sym all) whole

    -- one after the other they are as both at once
    cut_open : AreBytes stream → AreBytes p → AreBytes q → (outs further : List OutFrame) (mid new : State) → StepBytes mem (Open stream) n p s outs mid → StepBytes mem (session_at mid n) n q mid further new
        → Whole_step (outs ++ further) new
    cut_open fits p_fits q_fits outs further mid new first second =
        let t = first.3 in
        let all : (t.1 ++ t.2) ++ further ≡ outs ++ further = ap (λ (o : List OutFrame). o ++ further) (sym t.5) in
        let swapped = swap_records first.0 s.kept (stream ++ p) (stream ++ (p ++ q)) t.1 t.0 t.3 in
        let h : Kept = swapped.0 in
        subst (λ (o : List OutFrame). Whole_step o new) all (
        elim swapped.1 [
          | inr r ↦ cut_shut fits p_fits q_fits first.0 first.1 t.1 t.2 further h t.0 mid new first.2 r.0 r.1 t.4 second
          | inl r ↦
              elim (ends_first first.1.progress h (stream ++ p) t.2 mid (subst (λ (u : State). StepProgress n first.1.progress u t.2 mid) r.0 t.4)) [
                | inl e ↦ cut_still_open first.0 first.1 t.1 t.2 further h mid new first.2 r.1 e.0 e.1 second
                | inr e ↦ cut_too_long first.0 first.1 t.1 t.2 further h mid new first.2 e.0 r.1 e.1 e.2 second
              ]
        ]
        )

-- where a session is open, its number is one of those that there are
open_within : (s : State) (n : ℕ) (stream : List ℕ) → session_at s n ≡ Open stream → n < length s.sessions
open_within s n stream e =
    ⊎_elim (λ lt. lt) (λ le. let none : Absent ≡ Open stream = sym (get_or_past s.sessions n Absent le) ∙ e in absurd cc) (cases_lt n (length s.sessions))

-- a session that is not open is passed over
passes_of : (mem : Supply) (x : Session) (n : ℕ) (payload : List ℕ) (s : State) (outs : List OutFrame) (t : State) → is_open x ≡ false → StepBytes mem x n payload s outs t → Passes s outs t
passes_of mem Absent n payload s outs t e p = p
passes_of mem (Open stream) n payload s outs t e p = absurd cc
passes_of mem Closed n payload s outs t e p = p

of_passes : (mem : Supply) (x : Session) (n : ℕ) (payload : List ℕ) (s : State) (outs : List OutFrame) (t : State) → is_open x ≡ false → Passes s outs t → StepBytes mem x n payload s outs t
of_passes mem Absent n payload s outs t e p = p
of_passes mem (Open stream) n payload s outs t e p = absurd cc
of_passes mem Closed n payload s outs t e p = p

pass_both : (mem : Supply) (s : State) (n : ℕ) (p q : List ℕ) (outs further : List OutFrame) (mid new : State) → is_open (session_at s n) ≡ false → StepBytes mem (session_at s n) n p s outs mid
    → StepBytes mem (session_at mid n) n q mid further new → StepBytes mem (session_at s n) n (p ++ q) s (outs ++ further) new
pass_both mem s n p q outs further mid new e first second =
    let f = passes_of mem (session_at s n) n p s outs mid e first in
    let here = subst (λ (u : State). StepBytes mem (session_at u n) n q u further new) f.1 second in
    let g = passes_of mem (session_at s n) n q s further new e here in
    of_passes mem (session_at s n) n (p ++ q) s (outs ++ further) new e (ap (λ (o : List OutFrame). o ++ further) f.0 ∙ g.0, g.1)

-- ---- the two frames

pub cut_step : (mem : Supply) (s : State) (n : ℕ) (p q : List ℕ) (outs further : List OutFrame) (mid new : State) → HasByteStreams s → AreBytes p → AreBytes q
    → Step mem s (frame.Bytes n p) outs mid → Step mem mid (frame.Bytes n q) further new → Step mem s (frame.Bytes n (p ++ q)) (outs ++ further) new
cut_step mem s n p q outs further mid new has p_fits q_fits first second = go (session_at s n) refl
  where
    go : (x : Session) → session_at s n ≡ x → Step mem s (frame.Bytes n (p ++ q)) (outs ++ further) new
    go Absent e = pass_both mem s n p q outs further mid new (ap is_open e) first second
    go Closed e = pass_both mem s n p q outs further mid new (ap is_open e) first second
    go (Open stream) e =
        let h = subst (λ (x : Session). StepBytes mem x n p s outs mid) e first in
        let fits = subst HasBytes e (all-at HasBytes s.sessions n Absent has tt) in
        subst (λ (x : Session). StepBytes mem x n (p ++ q) s (outs ++ further) new) (sym e) (cut_open mem s n (open_within s n stream e) stream p q fits p_fits q_fits outs further mid new h second)
