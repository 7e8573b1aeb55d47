-- Laws of the loop that handles a payload.
use Rattle.std.proofs.Common.{◌≡◌, ℕ, ◌+◌, ◌-◌, ◌<◌, ◌≤◌, Bool, true, false, Option, List, [], ◌∷◌, ◌++◌, length, take, drop, refl, sym, ap, subst, ◌∙◌, arith}
use Rattle.std.proofs.Math.Seq.{take-add}
use Rattle.std.proofs.lemmas.List.{append-nil, take_all, take_rest, take-append-drop, length-drop, length-take}
use Rattle.sky_outside.specs.Told.{Given, GivenPart}
use Rattle.sky_outside.proofs.ToldLaws.{Given-none}
use Rattle.sky_outside.specs.declared.storage.Storage.{Ghosts}
use Rattle.sky_record.specs.Stream.{Received, nothing, IsOpen}
use Rattle.sky_script.specs.Frame.{Bytes, OutFrame, out_frames}
use Rattle.sky_world.specs.declared.sessions.Session.TheVariants as slot
use Rattle.sky_xdr.specs.Encoding.{AreBytes}
use Rattle.sky_xdr.proofs.Numbers.{AreBytes-append, AreBytes-take}
use Rattle.sky_world.specs.Finding.{RecordUnderWay}
use Rattle.sky_world.specs.Meaning.{State, Open, Closed, Scarce, Step, StepBytes, session_at, with_kept}
use Rattle.sky_sound.specs.Kept.{Kept}
use Rattle.sky_world.specs.Feeding.{Feeds, FeedFails, UnderWay, WentWithin, Handled, HandledPart, HandledDown}
use Rattle.sky_world.specs.World.{ServiceView, ServesFor, SinkGot, StandsAt}
use Rattle.sky_world.proofs.FeedLaws.{closed, fed, feeds_one, feeds_open, under_way_begins, under_way_on, under_way_whole, under_way_closes, under_way_ends, under_way_down, frames_given, frames_given_part}
use Rattle.sky_world.proofs.WithinLaws.{as_step, kept_stable, under_way, within_begins, within_holds, within_now, within_went}

-- ---- what is left of a payload, and a prefix of that

abbrev pub rest_of : List ℕ → ℕ → List ℕ
rest_of payload taken = take (length payload - taken) (drop taken payload)

next_part : (payload : List ℕ) (taken count : ℕ) → take taken payload ++ take count (rest_of payload taken) ≡ take (taken + count) payload
next_part payload taken count = ap (λ (t : List ℕ). take taken payload ++ take count t) (take_rest payload taken) ∙ sym (take-add taken count payload)

parts : (payload : List ℕ) (taken count : ℕ) → payload ≡ (take taken payload ++ take count (rest_of payload taken)) ++ drop (taken + count) payload
parts payload taken count = sym (take-append-drop (taken + count) payload) ∙ ap (λ (t : List ℕ). t ++ drop (taken + count) payload) (sym (next_part payload taken count))

-- ---- the loop

-- So much of the payload was handled, the session is open, the service is this one, and the sink was given the answers.
pub record SoFar {S : Type 0} (g : Ghosts S) (number : ℕ) (first : ServiceView) (d : S) (initial : Received) (payload : List ℕ) (taken : ℕ) (service : ServiceView) (e : S) (received : Received) (sink : SinkGot) : Type 0 where
  pub within : taken ≤ length payload
  pub ready : IsOpen received.progress
  pub handled : (s : State) (stream : List ℕ) → number < length s.sessions → session_at s number ≡ Open stream → ServesFor g first d s → StandsAt initial stream
      → (outs : List OutFrame) × (kept : Kept) × ServesFor g service e (with_kept s kept) × UnderWay s number stream (take taken payload) outs kept received × Given sink.before sink.after (out_frames outs)
      × WentWithin g d e s (Bytes number payload) outs

-- what a sink had been given before, and now
abbrev pub got : Option (List ℕ) → Option (List ℕ) → SinkGot
got before after = record { before = before; after = after }

-- a state with what it has
same_state : {S : Type 0} (g : Ghosts S) (service : ServiceView) (d : S) (s : State) → ServesFor g service d s → ServesFor g service d (with_kept s s.kept)
same_state g service d s serves = record { epoch = serves.epoch; tree = serves.tree; moment = serves.moment; invariant = serves.invariant }

pub so_far_begins : {S : Type 0} (g : Ghosts S) (number : ℕ) (first : ServiceView) (d : S) (initial : Received) (payload : List ℕ) (before : Option (List ℕ)) → IsOpen initial.progress
    → SoFar g number first d initial payload 0 first d initial (got before before)
so_far_begins g number first d initial payload before ready = record {
  within = omega arith;
  ready = ready;
  handled = λ s stream lt open_is serves at.
      let u = under_way_begins g s number stream lt at.records initial at.read in
      let at_start : State = fed s number (stream ++ []) s.kept in
      let step : StepBytes Scarce (Open stream) number [] s [] at_start = under_way_whole g s number stream lt [] [] s.kept initial u ready in
      let under : RecordUnderWay s (Bytes number payload) = under_way s number stream payload open_is 0 0 (omega arith) [] [] at_start at_start step step (omega arith) in
      ([], s.kept, same_state g first d s serves, u, Given-none before, within_begins g s (Bytes number payload) under d s.kept serves.invariant refl refl);
}

module _ {S : Type 0} (g : Ghosts S) (number : ℕ) (first : ServiceView) (d : S) (initial : Received) (payload : List ℕ) (taken : ℕ) (service : ServiceView) (e : S) (old : Received) (before mid after : Option (List ℕ))
    (so_far : SoFar g number first d initial payload taken service e old (got before mid)) where
  -- in a state, and for a stream, this is the record that is under way then
  module _ (s : State) (stream : List ℕ) (lt : number < length s.sessions) (open_is : session_at s number ≡ Open stream) where
    abbrev piece_under : (outs further : List OutFrame) (kept : Kept) → UnderWay s number stream (take taken payload) outs kept old → (count : ℕ) (next : State)
        → StepBytes Scarce (Open stream) number (take taken payload ++ take count (rest_of payload taken)) s (outs ++ further) next → length further ≤ 1 → RecordUnderWay s (Bytes number payload)
    piece_under outs further kept u count next step one =
        under_way s number stream payload open_is taken (taken + count) (omega arith) outs further (fed s number (stream ++ take taken payload) kept) next
        (under_way_whole g s number stream lt (take taken payload) outs kept old u so_far.ready)
        (subst (λ (bytes : List ℕ). StepBytes Scarce (Open stream) number bytes s (outs ++ further) next) (next_part payload taken count) step) one

    -- its bytes are bytes
    piece_bytes : (count : ℕ) → AreBytes payload → AreBytes (take taken payload ++ take count (rest_of payload taken))
    piece_bytes count fits = subst AreBytes (sym (next_part payload taken count)) (AreBytes-take (taken + count) payload fits)

  pub so_far_on : (count : ℕ) (later : ServiceView) (f : S) (new : Received) (outs : List OutFrame) (stays : Bool) → stays ≡ true → IsOpen new.progress → count ≤ length (rest_of payload taken)
      → Feeds g number service e old (take count (rest_of payload taken)) outs stays later f new → Given mid after (out_frames outs) → SoFar g number first d initial payload (taken + count) later f new (got before after)
  so_far_on count later f new outs stays holds ready le feeds given = record {
    within = omega (arith, so_far.within, length-take (length payload - taken) (drop taken payload), length-drop taken payload);
    ready = ready;
    handled = λ s stream lt open_is serves at.
        let h = so_far.handled s stream lt open_is serves at in
        let piece : List ℕ = take count (rest_of payload taken) in
        let on = under_way_on g s number stream lt (take taken payload) piece h.0 outs h.1 service later e f old new stays holds h.2 h.3 feeds in
        let next : State = fed s number (stream ++ (take taken payload ++ piece)) on.0 in
        let step = under_way_whole g s number stream lt (take taken payload ++ piece) (h.0 ++ outs) on.0 new on.2 ready in
        let under : RecordUnderWay s (Bytes number payload) = piece_under s stream lt open_is h.0 outs h.1 h.3 count next step (feeds_one g number service e old piece outs stays later f new feeds) in (
          h.0 ++ outs,
          on.0,
          on.1,
          subst (λ (t : List ℕ). UnderWay s number stream t (h.0 ++ outs) on.0 new) (next_part payload taken count) on.2,
          frames_given before mid after h.0 outs h.4 given,
          within_went g s (Bytes number payload) under d e f h.5 on.3,
        );
  }

  pub so_far_closes : (count : ℕ) (later : ServiceView) (f : S) (new : Received) (outs : List OutFrame) (stays : Bool) → stays ≡ false → AreBytes payload
      → Feeds g number service e old (take count (rest_of payload taken)) outs stays later f new → Given mid after (out_frames outs) → Handled g number first d initial payload later f (slot.Closed new) (got before after)
  so_far_closes count later f new outs stays holds fits feeds given = λ s stream lt open_is serves at.
      let h = so_far.handled s stream lt open_is serves at in
      let piece : List ℕ = take count (rest_of payload taken) in
      let ends = under_way_closes g s number stream lt (take taken payload) piece h.0 outs h.1 service later e f old new stays holds at.bytes h.2 h.3 feeds in
      let next : State = closed s number ends.0 in
      let step = ends.2 (take taken payload ++ piece) [] (piece_bytes s stream lt open_is count fits) (sym (append-nil (take taken payload ++ piece))) in
      let under : RecordUnderWay s (Bytes number payload) = piece_under s stream lt open_is h.0 outs h.1 h.3 count next step (feeds_one g number service e old piece outs stays later f new feeds) in
      let whole = ends.2 payload (drop (taken + count) payload) fits (parts payload taken count) in
      (Closed, ends.0, h.0 ++ outs, tt, ends.1, as_step s number stream payload open_is payload (h.0 ++ outs) next whole, frames_given before mid after h.0 outs h.4 given, within_went g s (Bytes number payload) under d e f h.5 ends.3)

  pub so_far_fails : (count : ℕ) (later : ServiceView) (f : S) (new : Received) (outs : List OutFrame) (stays : Bool) → AreBytes payload → Feeds g number service e old (take count (rest_of payload taken)) outs stays later f new
      → GivenPart mid after (out_frames outs) → HandledPart g number first d initial payload f (got before after)
  so_far_fails count later f new outs true fits feeds given = λ s stream lt open_is serves at.
      let h = so_far.handled s stream lt open_is serves at in
      let piece : List ℕ = take count (rest_of payload taken) in
      let done : List ℕ = take taken payload ++ piece in
      let on = under_way_on g s number stream lt (take taken payload) piece h.0 outs h.1 service later e f old new true refl h.2 h.3 feeds in
      let step = under_way_whole g s number stream lt done (h.0 ++ outs) on.0 new on.2 (feeds_open g number service e old piece outs true later f new feeds refl) in
      let under : RecordUnderWay s (Bytes number payload) =
      piece_under s stream lt open_is h.0 outs h.1 h.3 count (fed s number (stream ++ done) on.0) step (feeds_one g number service e old piece outs true later f new feeds) in
      let ends = under_way_ends g s number stream lt done (drop (taken + count) payload) payload (h.0 ++ outs) on.0 new at.bytes fits (parts payload taken count) on.2 in
      let part = frames_given_part before mid after h.0 outs h.4 given in
      record {
        under = under;
        kept = part.0;
        less = part.1;
        given = part.2;
        went = within_went g s (Bytes number payload) under d e f h.5 on.3;
        stable = kept_stable g on.0 f on.1.invariant;
        rest = ends.0;
        last = ends.1;
        goes_on = as_step s number stream payload open_is payload ((h.0 ++ outs) ++ ends.0) ends.1 ends.2;
      }
  so_far_fails count later f new outs false fits feeds given = λ s stream lt open_is serves at.
      let h = so_far.handled s stream lt open_is serves at in
      let piece : List ℕ = take count (rest_of payload taken) in
      let done : List ℕ = take taken payload ++ piece in
      let ends = under_way_closes g s number stream lt (take taken payload) piece h.0 outs h.1 service later e f old new false refl at.bytes h.2 h.3 feeds in
      let next : State = closed s number ends.0 in
      let step = ends.2 done [] (piece_bytes s stream lt open_is count fits) (sym (append-nil done)) in
      let under : RecordUnderWay s (Bytes number payload) = piece_under s stream lt open_is h.0 outs h.1 h.3 count next step (feeds_one g number service e old piece outs false later f new feeds) in
      let whole = as_step s number stream payload open_is payload (h.0 ++ outs) next (ends.2 payload (drop (taken + count) payload) fits (parts payload taken count)) in
      let part = frames_given_part before mid after h.0 outs h.4 given in
      record {
        under = under;
        kept = part.0;
        less = part.1;
        given = part.2;
        went = within_went g s (Bytes number payload) under d e f h.5 ends.3;
        stable = kept_stable g ends.0 f ends.1.invariant;
        rest = [];
        last = next;
        goes_on = subst (λ (o : List OutFrame). Step Scarce s (Bytes number payload) o next) (sym (append-nil (h.0 ++ outs))) whole;
      }

  pub so_far_down : (count : ℕ) (f : S) → FeedFails g service e old (take count (rest_of payload taken)) f → HandledDown g number first d initial payload f (got before mid)
  so_far_down count f fails = λ s stream lt open_is serves at.
      let h = so_far.handled s stream lt open_is serves at in
      let piece : List ℕ = take count (rest_of payload taken) in
      let done : List ℕ = take taken payload ++ piece in
      let down = under_way_down g s number stream lt (take taken payload) piece h.0 h.1 service e f old h.2 h.3 fails in
      let step = under_way_whole g s number stream lt done (h.0 ++ down.0 ∷ []) down.1 nothing down.2 tt in
      let under : RecordUnderWay s (Bytes number payload) = piece_under s stream lt open_is h.0 (down.0 ∷ []) h.1 h.3 count (fed s number (stream ++ done) down.1) step (omega arith) in
      record {
        under = under;
        unsaid = down.0;
        own_is = refl;
        given = h.4;
        leaves = within_holds g s (Bytes number payload) under d e f h.5 down.3;
        behind = within_now g s (Bytes number payload) under d e f h.5 down.3;
      }

  pub so_far_whole : length payload ≤ taken → AreBytes payload → Handled g number first d initial payload service e (slot.Open old) (got before mid)
  so_far_whole le fits = λ s stream lt open_is serves at.
      let h = so_far.handled s stream lt open_is serves at in
      let whole : take taken payload ≡ payload = take_all taken payload le in
      let u : UnderWay s number stream payload h.0 h.1 old = subst (λ (t : List ℕ). UnderWay s number stream t h.0 h.1 old) whole h.3 in
      let next : State = fed s number (stream ++ payload) h.1 in
      let step = as_step s number stream payload open_is payload h.0 next (under_way_whole g s number stream lt payload h.0 h.1 old u so_far.ready) in
      let stands : StandsAt old (stream ++ payload) = record {
        bytes = AreBytes-append stream payload at.bytes fits;
        goes_on = so_far.ready;
        records = u.before ++ u.records;
        read = u.goes_on;
      } in
      (Open (stream ++ payload), h.1, h.0, stands, h.2, step, h.4, h.5)
