-- Laws of a world that was opened, or opened again.
use Rattle.std.specs.Prelude.{IfErr, IsErr, IsErrOf, replicate}
use Rattle.std.specs.Result.{is_err}
use Rattle.std.proofs.Common.{◌≡◌, ℕ, false, List, [], Option, Some, None, Result, Ok, Err, OnOk, sym, ap, subst, ◌∙◌}
use Rattle.sky_base.specs.declared.status.Status.{Status}
use Rattle.sky_base.specs.declared.status.Status.TheVariants.{Memory, SinkFault}
use Rattle.sky_calls.specs.Durable.{DurableView}
use Rattle.sky_journal.specs.Journal.{JournalView, SameButSpare, StandsFor, wiped}
use Rattle.sky_journal.proofs.Journals.{StandsFor-but}
use Rattle.sky_nfs.specs.History.{last_tree}
use Rattle.sky_nfs.specs.Tree.{epoch_start}
use Rattle.sky_outside.specs.Count.{Counts}
use Rattle.sky_outside.specs.Told.{BothTold, WhereTold}
use Rattle.sky_outside.specs.declared.storage.Storage.{Ghosts}
use Rattle.sky_outside.specs.CloudMap.{CloudMap}
use Rattle.sky_outside.proofs.CountLaws.{counts_none, counts_weaker}
use Rattle.sky_outside.proofs.ToldLaws.{WhereTold-from}
use Rattle.sky_recover.specs.Opening.{Found, IsFoundOn, IsOpenOn, WhereBothTold}
use Rattle.sky_recover.specs.declared.opened.Opened.{Opened}
use Rattle.sky_script.specs.Frame as frame
use Rattle.sky_script.specs.Frame.{OutFrame, session_count}
use Rattle.sky_settings.specs.declared.settings.Fields.{Fields}
use Rattle.sky_sound.specs.Boot.{claimed}
use Rattle.sky_world.specs.Carried.{IsServing}
use Rattle.sky_world.specs.declared.sessions.Session.{Session}
use Rattle.sky_world.specs.declared.sessions.Session.TheVariants.{Absent}
use Rattle.sky_world.specs.Meaning.{opening, start}
use Rattle.sky_world.specs.Opening.{IsOfOpening, IsRefusedAs, opened_world, reopened_world}
use Rattle.sky_world.specs.World.{ServiceView, Stands, WorldView, tells}
use Rattle.sky_world.proofs.OutcomeLaws.{IsOfTell, Reopened, again_same, err_not}
use Rattle.sky_world.proofs.ReopenLaws.{stands_started}

-- ---- counts of faults

-- a write failed at most, behind a call that went well
pub tell_counts : {X Y : Type 0} (r : Result X Status) (is : IfErr r IsOfTell) (status : Status) (other : status ≡ SinkFault → ⊥) (y : Y) (a b : ℕ) → Counts a b (IsErrOf (let q : Result Y Status = Ok y in q) status)
    → Counts a b (IsErrOf r status)
tell_counts r is status other y a b counts = counts_weaker a b counts (λ e. absurd cc) (λ e. absurd (err_not IsOfTell r status is other e))

-- a call that failed, told on
pub told_counts : {X Y : Type 0} (status other : Status) (a b : ℕ) → Counts a b (IsErrOf (let r : Result X Status = Err status in r) other) → Counts a b (IsErrOf (let r : Result Y Status = Err status in r) other)
told_counts {X} {Y} status other a b counts =
    counts_weaker a b counts
    (λ e. let same : status ≡ other = cc in ap (λ (s : Status). let r : Result Y Status = Err s in r) same)
    (λ e. let same : status ≡ other = cc in ap (λ (s : Status). let r : Result X Status = Err s in r) same)

-- a call behind one that went well
pub counts_behind : {X E R : Type 0} (r : Result X E) (a b n : ℕ) → false ≡ is_err r → Counts a b (IsErr r) → Counts b n R → Counts a n R
counts_behind {X} {E} {R} (Ok x) a b n is first second = subst (λ (m : ℕ). Counts m n R) (first.quiet (λ e. absurd cc)) second
counts_behind (Err e) a b n is first second = cc is

-- ---- statuses

-- one of an opening is no failed write
pub not_of_sink : (status : Status) → IsOfOpening status → status ≡ SinkFault → ⊥
not_of_sink status is same = subst IsOfOpening same is

-- an opening that failed writes nothing
pub opening_quiet : {X : Type 0} (status : Status) (a : ℕ) → IsOfOpening status → Counts a a (IsErrOf (let r : Result X Status = Err status in r) SinkFault)
opening_quiet status a is = counts_none a (λ e. let same : status ≡ SinkFault = cc in not_of_sink status is same)

-- a refusal that blames nothing that the site has
pub refused_none : {S : Type 0} (g : Ghosts S) (volume size : ℕ) (s : S) (status : Status) → ((image : List ℕ) (objects : CloudMap) → IsRefusedAs volume size status image objects) → WhereBothTold g s (IsRefusedAs volume size status)
refused_none g volume size s status any =
    WhereTold-from (g.image s) (λ image. WhereTold (g.objects s) (IsRefusedAs volume size status image))
    (λ image is. WhereTold-from (g.objects s) (IsRefusedAs volume size status image) (λ objects held. any image objects))

pub refused_memory : {S : Type 0} (g : Ghosts S) (volume size : ℕ) (s : S) → WhereBothTold g s (IsRefusedAs volume size Memory)
refused_memory g volume size s = refused_none g volume size s Memory (λ image objects. tt)

pub refused_sink : {S : Type 0} (g : Ghosts S) (volume size : ℕ) (s : S) (status : Status) → status ≡ SinkFault → WhereBothTold g s (IsRefusedAs volume size status)
refused_sink g volume size s status same =
    refused_none g volume size s status (λ image objects. subst (λ (x : Status). IsRefusedAs volume size x image objects) (sym same) tt)

-- ---- a journal that was given up

-- what holds after Ok, of two facts
pub ok_both : {X E P Q R : Type 0} (r : Result X E) → (P → Q → R) → OnOk r P → OnOk r Q → OnOk r R
ok_both (Ok x) f p q = f p q
ok_both (Err e) f p q = tt

wiped_same : (j k : JournalView) (image : List ℕ) → SameButSpare (wiped j) k → StandsFor k image [] [] → StandsFor (wiped j) image [] []
wiped_same j k image same stands =
    let but : JournalView = record (wiped j) { spare = k.spare } in
    let there : StandsFor but image [] [] = subst (λ (v : JournalView). StandsFor v image [] []) same stands in
    StandsFor-but but [] j.spare j.down image [] [] there

-- how much memory it has does not matter
pub holds_none : (j k : JournalView) (a b : Option (List ℕ)) → SameButSpare (wiped j) k → BothTold (λ old new. (older newer : List (List ℕ)) → StandsFor j old older newer → StandsFor k new [] []) a b
    → BothTold (λ old new. (older newer : List (List ℕ)) → StandsFor j old older newer → StandsFor (wiped j) new [] []) a b
holds_none j k None None same both = tt
holds_none j k (Some old) None same both = absurd both
holds_none j k None (Some new) same both = absurd both
holds_none j k (Some old) (Some new) same both = λ older newer stands. wiped_same j k new same (both older newer stands)

-- ---- what was opened

-- an opening gave this tree with its journal, and these numbers
abbrev pub OpenedAs : {S : Type 0} → Ghosts S → (volume size : ℕ) → S → S → DurableView → Opened → Type 0
OpenedAs g volume size s t files opened =
    (found : Found) × IsFoundOn g volume size s found × IsOpenOn g t found × (files.tree ≡ last_tree found.history) × (files.journal ≡ found.journal)
    × (opening found ≡ frame.Opened opened.epoch opened.k opened.journal) × (opened.epoch ≡ found.epoch)

-- the service over it
abbrev pub service_over : Opened → DurableView → ServiceView → ServiceView
service_over opened files old = record { epoch = opened.epoch; tree = files.tree; journal = files.journal; moment = old.moment }

-- a world that was opened again
pub reopened_as : {S : Type 0} (g : Ghosts S) (old : WorldView) (s t : S) (files : DurableView) (opened : Opened) (service : ServiceView) (sessions : List Session)
    → OpenedAs g old.settings.volume old.settings.journal_area s t files opened → service ≡ service_over opened files old.service → sessions ≡ replicate session_count Absent
    → Reopened g old s (record old { service = service; sessions = sessions }) t (frame.Opened opened.epoch opened.k opened.journal)
reopened_as g old s t files opened service sessions is same none =
    let found : Found = is.0 in
    let there : ServiceView = record { epoch = found.epoch; tree = last_tree found.history; journal = found.journal; moment = old.service.moment } in
    let over : service_over opened files old.service ≡ there = λ k. record { epoch = is.6 k; tree = is.3 k; journal = is.4 k; moment = old.service.moment } in
    let served : service ≡ there = same ∙ over in
    (is.0, is.1, is.2, λ k. record { settings = old.settings; service = served k; sessions = none k; ended = old.ended }, is.5)

-- which service it had before does not matter, but for the moment
pub again_from : {S : Type 0} (g : Ghosts S) (old mid new : WorldView) (s t : S) (said : OutFrame) → mid.settings ≡ old.settings → mid.ended ≡ old.ended → mid.service.moment ≡ old.service.moment
    → Reopened g mid s new t said → Reopened g old s new t said
again_from g old mid new s t said settings ended moment again =
    (again.0, subst (λ (f : Fields). IsFoundOn g f.volume f.journal_area s again.0) settings again.1, again.2, again.3 ∙ again_same old mid again.0 settings ended moment, again.4)

-- it can answer calls
pub opened_serves : {S : Type 0} (g : Ghosts S) (old new : WorldView) (t : S) (found : Found) → IsOpenOn g t found → new ≡ reopened_world old found → IsServing g new.service t
opened_serves g old new t found opens same =
    subst (λ (w : WorldView). IsServing g w.service t) (sym same) (record { up = record { area = opens.area; up = opens.up }; stands = opens.stands })

-- the world over what was opened for the first time
module _ {S : Type 0} (g : Ghosts S) (settings : Fields) (s t : S) (files : DurableView) (opened : Opened) (world : WorldView) (is : OpenedAs g settings.volume settings.journal_area s t files opened)
    (same : world ≡ record {
      settings = settings;
      service = record { epoch = opened.epoch; tree = files.tree; journal = files.journal; moment = epoch_start };
      sessions = replicate session_count Absent;
      ended = false;
    }) where
  world_is : world ≡ opened_world settings is.0
  world_is =
      same ∙ (λ k. record {
        settings = settings;
        service = record { epoch = is.6 k; tree = is.3 k; journal = is.4 k; moment = epoch_start };
        sessions = replicate session_count Absent;
        ended = false;
      })

  pub world_stands : BothTold (λ old new. new ≡ claimed old) (g.objects s) (g.objects t) → BothTold (λ old new. Unit {0}) (g.image s) (g.image t) → Stands g world t (start (tells g s) is.0)
  world_stands claims images = subst (λ (w : WorldView). Stands g w t (start (tells g s) is.0)) (sym world_is) (stands_started g settings s t is.0 is.1 is.2 claims images)

  pub world_serves : IsServing g world.service t
  world_serves =
      let opens = is.2 in
      subst (λ (w : WorldView). IsServing g w.service t) (sym world_is) (record { up = record { area = opens.area; up = opens.up }; stands = opens.stands })
