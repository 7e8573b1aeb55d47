-- Laws of the states that the world stands for.
use Rattle.std.proofs.Common.{◌≡◌, ℕ, ◌<◌, ◌≤◌, Bool, Option, Some, List, [], ◌∷◌, ◌++◌, length, get_or, set, take, ⊎_elim, refl, sym, ap, subst, ◌∙◌, arith}
use Rattle.std.specs.Prelude.{IsSome}
use Rattle.std.proofs.lemmas.Bool.{cases_eq}
use Rattle.std.proofs.lemmas.List.{append-nil, length-set, set-get_or, get_or-set_same, get_or-set_other}
use Rattle.sky_base.specs.declared.moment.Moment.{Moment}
use Rattle.sky_journal.specs.Journal.{JournalView, last_of, number_behind, wiped}
use Rattle.sky_journal.specs.Journal.{StandsFor}
use Rattle.sky_nfs.specs.History.{IsLegalHistory, history_length}
use Rattle.sky_nfs.specs.Tree.{Tree}
use Rattle.sky_outside.specs.CloudMap.{CloudMap}
use Rattle.sky_outside.specs.Moments.{BesideObjects, LeavesOnly, MayLeaveNow, OfPair, SameCloud}
use Rattle.sky_outside.specs.Told.{BothTold, Given, GivenPart, WhereTold}
use Rattle.sky_outside.specs.declared.storage.Storage.{Ghosts}
use Rattle.sky_outside.proofs.MomentLaws.{HoldsNow-same}
use Rattle.sky_outside.proofs.ToldLaws.{Given-none, WhereTold-at, WhereTold-from}
use Rattle.sky_record.specs.Stream.{Received, nothing}
use Rattle.sky_record.proofs.Reading.{reads_nothing}
use Rattle.sky_recover.specs.Opening.{Found, IsFoundOn, IsOpenOn, LeavesFound}
use Rattle.sky_script.specs.Frame.{InFrame, Begin, Bytes, Close, SetMoment, Stat, Restart, RestartWithoutJournal, OutFrame, Counted, out_frame, session_count}
use Rattle.sky_script.specs.declared.frame.Stats.{Stats}
use Rattle.sky_sound.specs.Boot.{claimed}
use Rattle.sky_xdr.proofs.Numbers.{AreBytes-zeros}
use Rattle.sky_world.specs.Disk.{HoldsPrefix}
use Rattle.sky_sound.specs.Invariant.{Invariant}
use Rattle.sky_world.specs.Finding.{FindsBehind, FindsNow, FindsPrefix, HandlesOne, LeavesFinding, LeavesWithin, LeftWithin, RecordUnderWay, floor_of, reached}
use Rattle.sky_world.specs.Sessions.{closed}
use Rattle.sky_world.specs.declared.sessions.Session.{Session}
use Rattle.sky_world.specs.declared.sessions.Session.TheVariants.{Absent, Open, Closed}
use Rattle.sky_world.specs.Meaning as meaning
use Rattle.sky_world.specs.Meaning.{State, Scarce, Step, opening, stats_of, session_at, with_kept, with_session, StepBytes}
use Rattle.sky_sound.specs.Kept.{Kept}
use Rattle.sky_world.specs.Opening.{reopened_world}
use Rattle.sky_world.specs.World.{ServiceView, SinkGot, WorldView, IsRestart, Stands, StandsAt, SessionStandsFor, Stepped, SteppedPart, SteppedDown, stats_shown}
use Rattle.sky_world.specs.Feeding.{Handled, HandledPart, HandledDown, HoldsWithin, IsStable, LeavesHolding, WentWithin}
use Rattle.sky_world.proofs.DiskLaws.{Extends, cloud_on, longer, told_both, went_nowhere}
use Rattle.sky_world.proofs.FeedLaws.{given_one, given_part_one}
use Rattle.sky_world.proofs.FindingLaws.{Begins, begins_at, both_told_at, both_told_from, finds_at, leaves_as, leaves_finding, stands_begins, stands_find}
use Rattle.sky_world.proofs.HistoryLaws.{step_legal}
use Rattle.sky_world.proofs.KeepLaws.{last_is}
use Rattle.sky_world.proofs.GoesLaws.{step_extends}
use Rattle.sky_world.proofs.ReopenLaws.{restart_leaves, restarted, tells_alike}
use Rattle.sky_world.proofs.SiteLaws.{step_same}
use Rattle.sky_world.proofs.WipeLaws.{HoldsNone, LeavesWiped, bare_leaves, restarted_bare, told_there}

-- ---- the cloud beside a history that goes on

begins_on : (epoch : ℕ) (kept later : Kept) (objects : CloudMap) → Extends kept later → Begins epoch kept objects → Begins epoch later objects
begins_on epoch kept later objects x begins = record {
  begins = omega (arith, begins.begins, x.before, x.completed);
  within = omega (arith, begins.within, x.completed, longer kept later x);
  has = cloud_on kept later x begins.within objects begins.has;
  later_epoch = begins.later_epoch;
}

-- behind a step that is no restart the cloud has the beginning of the history that it leads to
step_begins : {S : Type 0} (g : Ghosts S) (d : S) (s t : State) (j : JournalView) (f : InFrame) (outs : List OutFrame) → Step Scarce s f outs t → (IsRestart f → ⊥) → Invariant g s.epoch s.kept j d
    → WhereTold (g.objects d) (Begins s.epoch t.kept)
step_begins g d s t j f outs step stays on =
    WhereTold-from (g.objects d) (Begins s.epoch t.kept)
    (λ objects held. begins_on s.epoch s.kept t.kept objects (step_extends Scarce s t f outs stays step) (begins_at g s.epoch s.kept j d on objects held))

-- a session, and the one that it stands for, put in the places of others
pub stands_with : {S : Type 0} (g : Ghosts S) (d : S) (w : WorldView) (s : State) (number : ℕ) (slot : Session) (session : meaning.Session) → number < session_count → Stands g w d s → SessionStandsFor slot session
    → Stands g (record w { sessions = set w.sessions number slot }) d (with_session s number session)
stands_with g d w s number slot session lt stands for = record {
  volume = stands.volume;
  area = stands.area;
  told = stands.told;
  service = (let p = stands.service in record { epoch = p.epoch; tree = p.tree; moment = p.moment; invariant = p.invariant });
  count = length-set w.sessions number slot ∙ stands.count;
  state_count = length-set s.sessions number session ∙ stands.state_count;
  sessions = λ k.
      ⊎_elim
      (λ e. rw (e, get_or-set_same w.sessions number slot Absent (omega (arith, stands.count)), get_or-set_same s.sessions number session meaning.Absent (omega (arith, stands.state_count))) for)
      (λ ne. rw (get_or-set_other w.sessions number k slot Absent ne, get_or-set_other s.sessions number k session meaning.Absent ne) (stands.sessions k)) (cases_eq k number);
}

-- ---- the payload of a frame

-- what an open session of the world stands for
open_of : (received : Received) (x : meaning.Session) → SessionStandsFor (Open received) x → (stream : List ℕ) × (x ≡ meaning.Open stream) × StandsAt received stream
open_of received (meaning.Open stream) h = (stream, refl, h)
open_of received meaning.Absent h = absurd h
open_of received meaning.Closed h = absurd h

-- what another one stands for is passed over
passed : (slot : Session) (x : meaning.Session) (number : ℕ) (payload : List ℕ) (s : State) → ((received : Received) → slot ≡ Open received → ⊥) → SessionStandsFor slot x → StepBytes Scarce x number payload s [] s
passed slot meaning.Absent number payload s closed h = (refl, refl)
passed slot meaning.Closed number payload s closed h = (refl, refl)
passed (Open received) (meaning.Open stream) number payload s closed h = absurd (closed received refl)
passed Absent (meaning.Open stream) number payload s closed h = absurd h
passed (Closed received) (meaning.Open stream) number payload s closed h = absurd h

-- the sessions of the world
abbrev with_sessions : WorldView → List Session → WorldView
with_sessions w sessions = record w { sessions = sessions }

closed_stands : (slot : Session) (x : meaning.Session) → SessionStandsFor slot x → SessionStandsFor (closed slot) (meaning.ended x)
closed_stands Absent meaning.Absent h = tt
closed_stands Absent (meaning.Open stream) h = absurd h
closed_stands Absent meaning.Closed h = absurd h
closed_stands (Open received) meaning.Absent h = absurd h
closed_stands (Open received) (meaning.Open stream) h = tt
closed_stands (Open received) meaning.Closed h = absurd h
closed_stands (Closed received) meaning.Absent h = absurd h
closed_stands (Closed received) (meaning.Open stream) h = absurd h
closed_stands (Closed received) meaning.Closed h = tt

-- ---- what crashes leave, record by record

-- a frame that is handled at once
abbrev whole : (s : State) (f : InFrame) (outs : List OutFrame) (t : State) → HandlesOne s f [] s outs t → length outs ≤ 1 → RecordUnderWay s f
whole s f outs t handled one = record { said = []; mid = s; own = outs; next = t; handled = handled; one = one }

-- while this record is under way
leaves_last : {S : Type 0} (g : Ghosts S) (d e : S) (s : State) (f : InFrame) (u : RecordUnderWay s f) → LeavesFinding g d e s.epoch (floor_of f u.mid) (reached f u.mid u.next) → LeavesWithin g d e s f (u.said ++ u.own)
leaves_last g d e s f u leaves =
    let P : OfPair = FindsPrefix s.epoch (floor_of f u.mid) (reached f u.mid u.next) in
    let Q : OfPair = LeftWithin s f (u.said ++ u.own) in
    both_told_from g d (λ image objects. LeavesOnly g d e Q)
    (λ image objects is held.
    leaves_as g d e P Q (λ left now p. record { under = u; rest = []; answers = append-nil (u.said ++ u.own); finds = p }) (both_told_at g d (λ i o. LeavesOnly g d e P) image objects is held leaves))

-- where no call of the disk was made
nothing_happens : {S : Type 0} (g : Ghosts S) (w : WorldView) (d : S) (s : State) → Stands g w d s → LeavesFinding g d d s.epoch s.kept.mark s.kept
nothing_happens g w d s stands =
    let on = stands.service.invariant in
    leaves_finding g d d s.epoch s.kept.mark s.kept on.legal (stands_begins g w d s stands) (went_nowhere g s.epoch s.kept w.service.journal d on).leaves

-- what is found now is found behind a step, where the site tells what it told before
found_behind : {S : Type 0} (g : Ghosts S) (s t : S) (epoch : ℕ) (kept : Kept) (R : List ℕ → List ℕ → Type 0) (Q : CloudMap → CloudMap → Type 0) → BothTold R (g.image s) (g.image t) → BothTold Q (g.objects s) (g.objects t)
    → FindsNow g t epoch kept → FindsBehind g s t epoch kept.mark kept
found_behind g s t epoch kept R Q images clouds now =
    both_told_from g s (λ read held. (image : List ℕ) (objects : CloudMap) → MayLeaveNow g t image objects → FindsPrefix epoch kept.mark kept image objects)
    (λ read held is held_is.
    let i = told_there R (g.image s) (g.image t) read images is in
    let o = told_there Q (g.objects s) (g.objects t) held clouds held_is in
    both_told_at g t (λ r h. (image : List ℕ) (objects : CloudMap) → MayLeaveNow g t image objects → FindsPrefix epoch kept.mark kept image objects) i.0 o.0 i.1 o.1 now)

-- in the payload of a session
module _ {S : Type 0} (g : Ghosts S) (d e : S) (s : State) (n : ℕ) (payload : List ℕ) (j : JournalView) (on : Invariant g s.epoch s.kept j d) where
  -- the history behind a record under way is legal, and begins where the cloud ends
  under_legal : (u : RecordUnderWay s (Bytes n payload)) → IsLegalHistory u.next.kept.history
  under_legal u = step_legal Scarce s u.next (Bytes n (take u.handled.1 payload)) (u.said ++ u.own) u.handled.4 on.legal

  under_begins : (u : RecordUnderWay s (Bytes n payload)) → WhereTold (g.objects d) (Begins s.epoch u.next.kept)
  under_begins u = step_begins g d s u.next j (Bytes n (take u.handled.1 payload)) (u.said ++ u.own) u.handled.4 (λ r. r) on

  under_epoch : (u : RecordUnderWay s (Bytes n payload)) → u.next.epoch ≡ s.epoch
  under_epoch u = (step_same Scarce s u.next (Bytes n (take u.handled.1 payload)) (u.said ++ u.own) (λ r. r) u.handled.4).1

  -- what its disk holds is what recovery finds
  under_finds : (u : RecordUnderWay s (Bytes n payload)) (mark : ℕ) (objects : CloudMap) → g.objects d ≡ Some objects → (left : List ℕ) (now : CloudMap) → BesideObjects g d (HoldsPrefix mark u.next.kept) left now
      → FindsPrefix s.epoch mark u.next.kept left now
  under_finds u mark objects held left now p =
      let same : now ≡ objects = WhereTold-at (g.objects d) (λ told. now ≡ told) objects held p.1 in
      let begins : Begins s.epoch u.next.kept objects = WhereTold-at (g.objects d) (Begins s.epoch u.next.kept) objects held (under_begins u) in
      finds_at s.epoch mark u.next.kept left now p.0 (under_legal u) (subst (λ (o : CloudMap). Begins s.epoch u.next.kept o) (sym same) begins)

  payload_leaves : (outs : List OutFrame) → LeavesHolding g d e s (Bytes n payload) outs → LeavesWithin g d e s (Bytes n payload) outs
  payload_leaves outs leaves =
      let P : OfPair = BesideObjects g d (HoldsWithin s (Bytes n payload) outs) in
      let Q : OfPair = LeftWithin s (Bytes n payload) outs in
      both_told_from g d (λ image objects. LeavesOnly g d e Q)
      (λ image objects told held.
      leaves_as g d e P Q
      (λ left now p. record { under = p.0.under; rest = p.0.rest; answers = p.0.answers; finds = under_finds p.0.under p.0.under.mid.kept.mark objects held left now (p.0.holds, p.1) })
      (WhereTold-at (g.image d) (λ r. LeavesOnly g d e P) image told leaves))

  -- and so it is behind the record
  payload_behind : (u : RecordUnderWay s (Bytes n payload)) (mark : ℕ)
      → WhereTold (g.image d) (λ read. (image : List ℕ) (objects : CloudMap) → MayLeaveNow g e image objects → BesideObjects g d (HoldsPrefix mark u.next.kept) image objects)
      → FindsBehind g d e s.epoch mark u.next.kept
  payload_behind u mark holds =
      both_told_from g d (λ read held. (image : List ℕ) (objects : CloudMap) → MayLeaveNow g e image objects → FindsPrefix s.epoch mark u.next.kept image objects)
      (λ read held told held_is left now may.
      let there = WhereTold-at (g.image d) (λ r. (image : List ℕ) (objects : CloudMap) → MayLeaveNow g e image objects → BesideObjects g d (HoldsPrefix mark u.next.kept) image objects) read told holds in
      under_finds u mark held held_is left now (there left now may))

  -- where all is stable
  stable_behind : (outs : List OutFrame) (u : RecordUnderWay s (Bytes n payload)) → WentWithin g d e s (Bytes n payload) outs → IsStable g e u.next.kept → FindsBehind g d e u.next.epoch u.next.kept.mark u.next.kept
  stable_behind outs u went stable =
      let k : Kept = u.next.kept in
      let found : FindsBehind g d e s.epoch k.mark k = payload_behind u k.mark
      (WhereTold-from (g.image d) (λ read. (image : List ℕ) (objects : CloudMap) → MayLeaveNow g e image objects → BesideObjects g d (HoldsPrefix k.mark k) image objects)
      (λ read told image objects may.
      let there = told_both (g.image d) (g.image e) read went.tells told in
      (WhereTold-at (g.image e) (λ r. (i : List ℕ) → g.may_leave e i → HoldsPrefix k.mark k i) there.0 there.1 stable image may.0, HoldsNow-same g d e objects went.beside.objects may.1))) in
      subst (λ (epoch : ℕ). FindsBehind g d e epoch k.mark k) (sym (under_epoch u)) found

module _ {S : Type 0} (g : Ghosts S) (w : WorldView) (d e : S) (number : ℕ) (payload : List ℕ) (lt : number < session_count) (sink : SinkGot) where
  pub stepped_open : (received : Received) (later : ServiceView) (next : Session) → get_or w.sessions number Absent ≡ Open received → Handled g number w.service d received payload later e next sink
      → Stepped g w d (Bytes number payload) (record w { service = later; sessions = set w.sessions number next }) e sink
  stepped_open received later next slot handled = λ s stands.
      let at = open_of received (session_at s number) (subst (λ (x : Session). SessionStandsFor x (session_at s number)) slot (stands.sessions number)) in
      let h = handled s at.0 (omega (arith, stands.state_count, lt)) at.1 stands.service at.2 in
      let new : State = with_session (with_kept s h.1) number h.0 in
      let step : Step Scarce s (Bytes number payload) h.2 new = h.5 in
      let x : Extends s.kept h.1 = step_extends Scarce s new (Bytes number payload) h.2 (λ r. r) step in
      let there : Stands g (record w { service = later }) e (with_kept s h.1) =
      record {
        volume = stands.volume ∙ ap (λ (t : Tree). t.volume) (sym x.tree);
        area = stands.area ∙ sym x.size;
        told = stands.told ∙ sym (tells_alike g d e h.7.beside h.7.tells);
        service = h.4;
        count = stands.count;
        state_count = stands.state_count;
        sessions = stands.sessions;
      } in
      let then : Stands g (record w { service = later; sessions = set w.sessions number next }) e new = stands_with g e (record w { service = later }) (with_kept s h.1) number next h.0 lt there h.3 in (
        h.2,
        new,
        step,
        then,
        h.6,
        payload_leaves g d e s number payload w.service.journal stands.service.invariant h.2 h.7.leaves,
        stands_find g (record w { service = later; sessions = set w.sessions number next }) e new then,
      )

  -- the same, of the world that came of it
  pub stepped_fed : (received : Received) (new : WorldView) (next : Session) → get_or w.sessions number Absent ≡ Open received → Handled g number w.service d received payload new.service e next sink
      → new.settings ≡ w.settings → new.sessions ≡ set w.sessions number next → new.ended ≡ w.ended → Stepped g w d (Bytes number payload) new e sink
  stepped_fed received new next slot handled settings sessions over =
      let v : WorldView = record w { service = new.service; sessions = set w.sessions number next } in
      let is : new ≡ v = λ k. record { settings = settings k; service = new.service; sessions = sessions k; ended = over k } in
      subst (λ (v : WorldView). Stepped g w d (Bytes number payload) v e sink) (sym is) (stepped_open received new.service next slot handled)

  pub stepped_part : (received : Received) → get_or w.sessions number Absent ≡ Open received → HandledPart g number w.service d received payload e sink → SteppedPart g w d (Bytes number payload) e sink
  stepped_part received slot handled = λ s stands.
      let at = open_of received (session_at s number) (subst (λ (x : Session). SessionStandsFor x (session_at s number)) slot (stands.sessions number)) in
      let h = handled s at.0 (omega (arith, stands.state_count, lt)) at.1 stands.service at.2 in
      record {
        under = h.under;
        kept = h.kept;
        less = h.less;
        given = h.given;
        leaves = payload_leaves g d e s number payload w.service.journal stands.service.invariant (h.under.said ++ h.under.own) h.went.leaves;
        behind = stable_behind g d e s number payload w.service.journal stands.service.invariant (h.under.said ++ h.under.own) h.under h.went h.stable;
        rest = h.rest;
        last = h.last;
        goes_on = h.goes_on;
      }

  pub stepped_down : (received : Received) → get_or w.sessions number Absent ≡ Open received → HandledDown g number w.service d received payload e sink → SteppedDown g w d (Bytes number payload) e sink
  stepped_down received slot handled = λ s stands.
      let at = open_of received (session_at s number) (subst (λ (x : Session). SessionStandsFor x (session_at s number)) slot (stands.sessions number)) in
      let h = handled s at.0 (omega (arith, stands.state_count, lt)) at.1 stands.service at.2 in
      record {
        under = h.under;
        unsaid = h.unsaid;
        own_is = h.own_is;
        given = h.given;
        leaves = payload_leaves g d e s number payload w.service.journal stands.service.invariant (h.under.said ++ h.under.own) h.leaves;
        behind = payload_behind g d e s number payload w.service.journal stands.service.invariant h.under h.under.mid.kept.mark h.behind;
      }

module _ {S : Type 0} (g : Ghosts S) (w : WorldView) (d : S) (told : Option (List ℕ)) where
  -- what a sink got that was given nothing
  abbrev pub untouched : SinkGot
  untouched = record { before = told; after = told }

  pub stepped_passed : (number : ℕ) (payload : List ℕ) (slot : Session) → get_or w.sessions number Absent ≡ slot → ((received : Received) → slot ≡ Open received → ⊥)
      → Stepped g w d (Bytes number payload) (with_sessions w (set w.sessions number slot)) d untouched
  stepped_passed number payload slot is closed = λ s stands.
      let same : set w.sessions number slot ≡ w.sessions = ap (λ (x : Session). set w.sessions number x) (sym is) ∙ set-get_or w.sessions number Absent in
      let pass : (bytes : List ℕ) → Step Scarce s (Bytes number bytes) [] s =
      λ bytes. passed slot (session_at s number) number bytes s closed (subst (λ (x : Session). SessionStandsFor x (session_at s number)) is (stands.sessions number)) in
      let under : RecordUnderWay s (Bytes number payload) = record { said = []; mid = s; own = []; next = s; handled = (0, 0, omega arith, pass (take 0 payload), pass (take 0 payload)); one = omega arith } in
      let then = subst (λ (ss : List Session). Stands g (with_sessions w ss) d s) (sym same) stands in
      ([], s, pass payload, then, Given-none told, leaves_last g d d s (Bytes number payload) under (nothing_happens g w d s stands), stands_find g (with_sessions w (set w.sessions number slot)) d s then)

  -- ---- the other frames

  -- a session begins
  pub stepped_begin : (number : ℕ) → number < session_count → Stepped g w d (Begin number) (with_sessions w (set w.sessions number (Open nothing))) d untouched
  stepped_begin number lt = λ s stands.
      let at : StandsAt nothing [] = record { bytes = AreBytes-zeros 0; goes_on = tt; records = []; read = reads_nothing } in
      let t : State = with_session s number (meaning.Open []) in
      let then = stands_with g d w s number (Open nothing) (meaning.Open []) lt stands at in
      ([], t, (refl, refl), then, Given-none told, leaves_last g d d s (Begin number) (whole s (Begin number) [] t (refl, refl, (refl, refl)) (omega arith)) (nothing_happens g w d s stands), stands_find g (with_sessions w (set w.sessions number (Open nothing))) d t then)

  -- a session ends
  pub stepped_close : (number : ℕ) → number < session_count
      → Stepped g w d (Close number) (with_sessions w (set w.sessions number (closed (get_or w.sessions number Absent)))) d untouched
  stepped_close number lt = λ s stands.
      let x : meaning.Session = meaning.ended (session_at s number) in
      let t : State = with_session s number x in
      let next : Session = closed (get_or w.sessions number Absent) in
      let then = stands_with g d w s number next x lt stands (closed_stands (get_or w.sessions number Absent) (session_at s number) (stands.sessions number)) in
      ([], t, (refl, refl), then, Given-none told, leaves_last g d d s (Close number) (whole s (Close number) [] t (refl, refl, (refl, refl)) (omega arith)) (nothing_happens g w d s stands), stands_find g (with_sessions w (set w.sessions number next)) d t then)

  -- a moment is set
  pub stepped_moment : (at : Moment) → Stepped g w d (SetMoment at) (record w { service = record w.service { moment = at } }) d untouched
  stepped_moment at = λ s stands.
      let p = stands.service in
      let t : State = record s { moment = at } in
      let new : WorldView = record w { service = record w.service { moment = at } } in
      let then : Stands g new d t =
      record {
        volume = stands.volume;
        area = stands.area;
        told = stands.told;
        service = record { epoch = p.epoch; tree = p.tree; moment = refl; invariant = p.invariant };
        count = stands.count;
        state_count = stands.state_count;
        sessions = stands.sessions;
      } in
      ([], t, (refl, refl), then, Given-none told, leaves_last g d d s (SetMoment at) (whole s (SetMoment at) [] t (refl, refl, (refl, refl)) (omega arith)) (nothing_happens g w d s stands), stands_find g new d t then)

-- ---- the numbers that are shown

-- a world that stands for a state shows its numbers
stats_are : {S : Type 0} (g : Ghosts S) (w : WorldView) (d : S) (s : State) → Stands g w d s → IsSome w.service.journal.newer → stats_shown w ≡ stats_of s
stats_are g w d s stands area =
    let p = stands.service in
    let on = p.invariant in
    let last : last_of w.service.journal ≡ history_length s.kept.history = last_is g s.epoch s.kept w.service.journal d on area in
    let mark : number_behind w.service.journal.newer 0 ≡ s.kept.mark = on.last ∙ sym on.marked in
    λ k. record { history = last k; mark = mark k; epoch = p.epoch k; covers = 0; merged = 0; residents = 0; proxy_bytes = 0; cleaner_bytes = 0 }

-- the frame that shows them is handled at once
abbrev stat_under : (s : State) → RecordUnderWay s Stat
stat_under s = whole s Stat (Counted (stats_of s) ∷ []) s (refl, refl, (refl, refl)) (omega arith)

pub stepped_stat : {S : Type 0} (g : Ghosts S) (w : WorldView) (d : S) (sink : SinkGot) → IsSome w.service.journal.newer → Given sink.before sink.after (out_frame (Counted (stats_shown w))) → Stepped g w d Stat w d sink
stepped_stat g w d sink area given = λ s stands.
    let happens = leaves_last g d d s Stat (stat_under s) (nothing_happens g w d s stands) in
    let shown = subst (λ (x : Stats). Given sink.before sink.after (out_frame (Counted x))) (stats_are g w d s stands area) given in
    (Counted (stats_of s) ∷ [], s, (refl, refl), stands, given_one sink.before sink.after (Counted (stats_of s)) shown, happens, stands_find g w d s stands)

pub stepped_stat_part : {S : Type 0} (g : Ghosts S) (w : WorldView) (d : S) (sink : SinkGot) → IsSome w.service.journal.newer → GivenPart sink.before sink.after (out_frame (Counted (stats_shown w))) → SteppedPart g w d Stat d sink
stepped_stat_part g w d sink area given = λ s stands.
    let shown = subst (λ (x : Stats). GivenPart sink.before sink.after (out_frame (Counted x))) (stats_are g w d s stands area) given in
    let part = given_part_one sink.before sink.after (Counted (stats_of s)) shown in
    record {
      under = stat_under s;
      kept = part.0;
      less = part.1;
      given = part.2;
      leaves = leaves_last g d d s Stat (stat_under s) (nothing_happens g w d s stands);
      behind = stands_find g w d s stands;
      rest = [];
      last = s;
      goes_on = (refl, refl);
    }

-- what stands for a state does so whether or not it has ended
pub stepped_ended : {S : Type 0} (g : Ghosts S) (w v : WorldView) (d e : S) (f : InFrame) (sink : SinkGot) (over : Bool) → Stepped g w d f v e sink → Stepped g w d f (record v { ended = over }) e sink
stepped_ended g w v d e f sink over stepped = λ s stands.
    let h = stepped s stands in
    let k = h.3 in
    (h.0, h.1, h.2, record { volume = k.volume; area = k.area; told = k.told; service = k.service; count = k.count; state_count = k.state_count; sessions = k.sessions }, h.4, h.5, h.6)

-- ---- restarts

module _ {S : Type 0} (g : Ghosts S) (old : WorldView) (s t : S) (found : Found) (opens : IsOpenOn g t found) (sink : SinkGot) where
  -- the site was opened again
  module _ (is : IsFoundOn g old.settings.volume old.settings.journal_area s found) (claims : BothTold (λ old new. new ≡ claimed old) (g.objects s) (g.objects t)) (images : BothTold (λ old new. Unit {0}) (g.image s) (g.image t))
      (leaves : LeavesFound g old.settings.volume old.settings.journal_area s t) where
    pub stepped_restart : Given sink.before sink.after (out_frame (opening found)) → Stepped g old s Restart (reopened_world old found) t sink
    stepped_restart given = λ state stands.
        let r = restarted g old s t state stands found is opens claims images in (
          opening found ∷ [],
          r.0,
          r.1,
          r.2,
          given_one sink.before sink.after (opening found) given,
          leaves_last g s t state Restart (whole state Restart (opening found ∷ []) r.0 (refl, refl, r.1) (omega arith)) (restart_leaves g old s t state stands leaves),
          stands_find g (reopened_world old found) t r.0 r.2,
        )

    pub stepped_restart_part : GivenPart sink.before sink.after (out_frame (opening found)) → SteppedPart g old s Restart t sink
    stepped_restart_part given = λ state stands.
        let r = restarted g old s t state stands found is opens claims images in
        let under : RecordUnderWay state Restart = whole state Restart (opening found ∷ []) r.0 (refl, refl, r.1) (omega arith) in
        let part = given_part_one sink.before sink.after (opening found) given in
        record {
          under = under;
          kept = part.0;
          less = part.1;
          given = part.2;
          leaves = leaves_last g s t state Restart under (restart_leaves g old s t state stands leaves);
          behind = found_behind g s t r.0.epoch r.0.kept (λ old new. Unit {0}) (λ old new. new ≡ claimed old) images claims (stands_find g (reopened_world old found) t r.0 r.2);
          rest = [];
          last = r.0;
          goes_on = r.1;
        }

  -- and before that the journal was given up
  module _ (m : S) (wipes : LeavesWiped g old.service.journal s m) (holds : HoldsNone g old.service.journal s m) (beside : SameCloud g s m) (is : IsFoundOn g old.settings.volume old.settings.journal_area m found)
      (claims : BothTold (λ old new. new ≡ claimed old) (g.objects m) (g.objects t)) (images : BothTold (λ old new. Unit {0}) (g.image m) (g.image t)) (leaves : LeavesFound g old.settings.volume old.settings.journal_area m t) where
    pub stepped_bare : Given sink.before sink.after (out_frame (opening found)) → Stepped g old s RestartWithoutJournal (reopened_world old found) t sink
    stepped_bare given = λ state stands.
        let r = restarted_bare g old s m state stands wipes holds beside t found is opens claims images in (
          opening found ∷ [],
          r.0,
          r.1,
          r.2,
          given_one sink.before sink.after (opening found) given,
          leaves_last g s t state RestartWithoutJournal (whole state RestartWithoutJournal (opening found ∷ []) r.0 (refl, refl, r.1) (omega arith)) (bare_leaves g old s m state stands wipes holds beside t leaves),
          stands_find g (reopened_world old found) t r.0 r.2,
        )

    -- what is found at the end is found where the site told at the beginning
    bare_behind : (epoch : ℕ) (kept : Kept) → FindsNow g t epoch kept → FindsBehind g s t epoch kept.mark kept
    bare_behind epoch kept now =
        both_told_from g s (λ read held. (image : List ℕ) (objects : CloudMap) → MayLeaveNow g t image objects → FindsPrefix epoch kept.mark kept image objects)
        (λ read held is_read held_is.
        let mid = told_there (λ r l. (older newer : List (List ℕ)) → StandsFor old.service.journal r older newer → StandsFor (wiped old.service.journal) l [] []) (g.image s) (g.image m) read holds is_read in
        both_told_at g m (λ r h. (image : List ℕ) (objects : CloudMap) → MayLeaveNow g t image objects → FindsPrefix epoch kept.mark kept image objects) mid.0 held mid.1 (beside.objects ∙ held_is)
        (found_behind g m t epoch kept (λ old new. Unit {0}) (λ old new. new ≡ claimed old) images claims now))

    pub stepped_bare_part : GivenPart sink.before sink.after (out_frame (opening found)) → SteppedPart g old s RestartWithoutJournal t sink
    stepped_bare_part given = λ state stands.
        let r = restarted_bare g old s m state stands wipes holds beside t found is opens claims images in
        let under : RecordUnderWay state RestartWithoutJournal = whole state RestartWithoutJournal (opening found ∷ []) r.0 (refl, refl, r.1) (omega arith) in
        let part = given_part_one sink.before sink.after (opening found) given in
        record {
          under = under;
          kept = part.0;
          less = part.1;
          given = part.2;
          leaves = leaves_last g s t state RestartWithoutJournal under (bare_leaves g old s m state stands wipes holds beside t leaves);
          behind = bare_behind r.0.epoch r.0.kept (stands_find g (reopened_world old found) t r.0 r.2);
          rest = [];
          last = r.0;
          goes_on = r.1;
        }
