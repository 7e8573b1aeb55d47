-- Laws of what the service does with a call: what its tree with the journal did is what the call becomes.
use Rattle.std.specs.Prelude.{IsSome, IsTrue, cond, is_ok, is_none, nat_lt, ◌&&◌, ◌||◌}
use Rattle.std.specs.Option.{option_map}
use Rattle.std.proofs.Common.{◌≡◌, ◌⊎◌, ℕ, ◌<◌, ◌≤◌, Bool, true, false, Option, Some, None, List, [], ◌∷◌, ◌++◌, length, inl, inr, refl, sym, ap, subst, ◌∙◌, arith}
use Rattle.std.proofs.lemmas.Bool.{true≢false}
use Rattle.std.proofs.lemmas.Bool.Decides.{nat_tests}
use Rattle.std.proofs.lemmas.List.{append-nil}
use Rattle.sky_base.specs.declared.cred.Cred.{Cred}
use Rattle.sky_base.specs.declared.moment.Moment.{Moment}
use Rattle.sky_calls.specs.Durable.{IfDone, IfJukebox, IfPutOff, LeavesOldOrAll, entries_kept, is_down, journal_after}
use Rattle.sky_journal.specs.Lasting.{HoldsMore, LeavesOldOrMore}
use Rattle.sky_calls.specs.Stable.{is_stable_call}
use Rattle.sky_calls.specs.declared.outcome.Outcome.{Outcome}
use Rattle.sky_calls.specs.declared.outcome.Outcome.TheVariants.{Done, Jukebox, Down, Memory}
use Rattle.sky_calls.proofs.Carried.{procedure_tree}
use Rattle.sky_entry.specs.Entry.{IsEntry, entry_bytes}
use Rattle.sky_journal.specs.Journal.{JournalView, IsJournal, ReadsEntries, SameButSpare, StandsFor, StandsOn, after_commit, area_with, room_of, wanted_of}
use Rattle.sky_journal.specs.declared.open_area.OpenArea.{OpenArea}
use Rattle.sky_journal.proofs.Reading.{reads}
use Rattle.sky_nfs.specs.Calls.{is_change}
use Rattle.sky_nfs.specs.History.{is_done, tree_after_change}
use Rattle.sky_nfs.specs.Procedure.{procedure, answer_of, refusal_of, tree_after}
use Rattle.sky_nfs.specs.Results.{results_or, wcc}
use Rattle.sky_nfs.specs.Tree.{Tree}
use Rattle.sky_nfs.specs.Validity.{IsValidTree}
use Rattle.sky_nfs.specs.declared.answer.Answer.{Answer}
use Rattle.sky_nfs.specs.declared.call.Call.{Call}
use Rattle.sky_nfs.specs.declared.call.Call.TheVariants as call
use Rattle.sky_nfs.specs.declared.call.Change.{Change}
use Rattle.sky_nfs.specs.declared.status.NfsStatus.{NfsStatus}
use Rattle.sky_nfs.proofs.ProcedureLemmas.{tree_after-reading}
use Rattle.sky_outside.specs.Moments.{BesideObjects, LeavesOnly, SameCloud}
use Rattle.sky_outside.specs.Told.{BothTold}
use Rattle.sky_results.specs.Answers.{answer_bytes}
use Rattle.sky_outside.specs.declared.storage.Storage.{Ghosts}
use Rattle.sky_outside.proofs.MomentLaws.{LeavesOnly-disk_start, only_read}
use Rattle.sky_outside.proofs.ToldLaws.{WhereTold-from}
use Rattle.sky_tree.specs.Memory.{takes_memory}
use Rattle.sky_world.specs.Carried.{Becomes, Carries, CarriesDown, IsServing, has_committed}
use Rattle.sky_world.specs.Meaning.{makes_stable}
use Rattle.sky_world.specs.World.{ServiceView}
use Rattle.sky_sound.specs.Entries.{IsStorable}
use Rattle.sky_world.proofs.CallLaws.{change_makes}
use Rattle.sky_world.proofs.FitLaws.{answer_fits}
use Rattle.sky_world.proofs.StorableLaws.{storable_of}

either : (b : Bool) → (b ≡ true) ⊎ (b ≡ false)
either true = inl refl
either false = inr refl

is_true : (b : Bool) → IsTrue b → b ≡ true
is_true true is = refl
is_true false is = absurd cc

or_second : (a b : Bool) → b ≡ true → IsTrue (a || b)
or_second true b e = refl
or_second false b e = e

or_first : (a b : Bool) → IsTrue a → IsTrue (a || b)
or_first true b is = refl
or_first false b is = absurd cc

no_room : (b : Bool) (wanted room : ℕ) → wanted ≤ room → (b && nat_lt room wanted) ≡ false
no_room true wanted room le = grind (arith, nat_tests)
no_room false wanted room le = refl

some_room : (b : Bool) (wanted room : ℕ) → b ≡ true → room < wanted → (b && nat_lt room wanted) ≡ true
some_room true wanted room e lt = grind (arith, nat_tests)
some_room false wanted room e lt = absurd cc

map_some : (n : Option OpenArea) (more : List (List ℕ)) → IsSome n → IsSome (option_map (area_with more) n)
map_some (Some a) more some = refl
map_some None more some = absurd cc

-- an area stays open
open_by : (done stable makes : Bool) (j : JournalView) (e : List ℕ) → IsSome j.newer → (let k : JournalView = cond done (journal_after stable j e) (cond makes (after_commit j) j) in IsSome k.newer)
open_by true true makes j e some = map_some j.newer (j.pending ++ e ∷ []) some
open_by true false makes j e some = some
open_by false stable true j e some = map_some j.newer j.pending some
open_by false stable false j e some = some

holds_none : (j : JournalView) (a : Option (List ℕ)) → BothTold (λ old new. (older newer : List (List ℕ)) → StandsFor j old older newer → StandsFor j new older (newer ++ [])) a a
holds_none j None = tt
holds_none j (Some x) = λ older newer stands. subst (λ (v : List (List ℕ)). StandsFor j x older v) (sym (append-nil newer)) stands

-- an answer to a COMMIT is OK where it is not refused
results_ok : {A B : Type 0} (refusal : Option NfsStatus) (ok : A) (attributes : B) → is_ok (results_or refusal ok attributes) ≡ is_none refusal
results_ok None ok attributes = refl
results_ok (Some status) ok attributes = refl

committed_is : (t after : Tree) (epoch : ℕ) (cred : Cred) (c : Call) → has_committed (answer_of (refusal_of t cred c) t after epoch cred c) ≡ makes_stable t cred c
unfolding answer_of
committed_is t after epoch cred (call.Commit file offset count) = results_ok (refusal_of t cred (call.Commit file offset count)) _ (wcc t after file)
committed_is t after epoch cred call.Null = refl
committed_is t after epoch cred (call.GetAttr object) = refl
committed_is t after epoch cred (call.SetAttr object set guard) = refl
committed_is t after epoch cred (call.Lookup at) = refl
committed_is t after epoch cred (call.Access object rights) = refl
committed_is t after epoch cred (call.ReadLink link) = refl
committed_is t after epoch cred (call.Read file offset count) = refl
committed_is t after epoch cred (call.Write file offset count how piece) = refl
committed_is t after epoch cred (call.Create at how) = refl
committed_is t after epoch cred (call.Mkdir at set) = refl
committed_is t after epoch cred (call.Symlink at set text) = refl
committed_is t after epoch cred (call.Mknod at what) = refl
committed_is t after epoch cred (call.Remove at) = refl
committed_is t after epoch cred (call.Rmdir at) = refl
committed_is t after epoch cred (call.Rename from to) = refl
committed_is t after epoch cred (call.Link file at) = refl
committed_is t after epoch cred (call.ReadDir directory cookie verifier count) = refl
committed_is t after epoch cred (call.ReadDirPlus directory cookie verifier dircount maxcount) = refl
committed_is t after epoch cred (call.FsStat root) = refl
committed_is t after epoch cred (call.FsInfo root) = refl
committed_is t after epoch cred (call.PathConf object) = refl

pub procedure_committed : (t : Tree) (epoch : ℕ) (cred : Cred) (c : Call) (moment : Moment) → has_committed (procedure t epoch cred c moment).answer ≡ makes_stable t cred c
unfolding procedure
procedure_committed t epoch cred c moment = committed_is t (tree_after t cred c moment) epoch cred c

not_done : (tree : Tree) (change : Change) → is_change change.call ≡ false → is_done tree change ≡ false
not_done tree change e = rw e refl

-- a change that is not done need not be read
none_done : (b : Bool) (c : Change) → b ≡ false → b ≡ true → IsStorable c
none_done b c refused done = absurd (true≢false (sym done ∙ refused))

module _ {S : Type 0} (g : Ghosts S) where
  -- where the disk is not called a crash leaves the entries from before
  waits : (s : S) (j : JournalView) (more : List (List ℕ)) → IsJournal j → StandsOn g j s → LeavesOldOrMore g s s j more
  waits s j more is stands =
      WhereTold-from (g.image s) (λ image. (older newer : List (List ℕ)) → StandsFor j image older newer
      → LeavesOnly g s s (BesideObjects g s (λ left. ReadsEntries j older newer left ⊎ ReadsEntries j older (newer ++ more) left)))
      (λ image told older newer here. LeavesOnly-disk_start g s (λ left. ReadsEntries j older newer left ⊎ ReadsEntries j older (newer ++ more) left)
      (λ left leaves. inl (subst (λ (l : List ℕ). ReadsEntries j older newer l) (sym (only_read g s image told stands.durable left leaves)) (reads j image older newer is here))))

  waits_at : (s t : S) (j : JournalView) (more : List (List ℕ)) → t ≡ s → IsJournal j → StandsOn g j s → LeavesOldOrMore g s t j more
  waits_at s t j more e is stands = subst (λ (d : S). LeavesOldOrMore g s d j more) (sym e) (waits s j more is stands)

  -- ---- a change

  module _ (old new : ServiceView) (s t : S) (change : Change) (changes : IsTrue (is_change change.call)) (serving : IsServing g old s) (was : IsJournal old.journal) (is : IsJournal new.journal) (valid : IsValidTree new.tree)
      (epoch : new.epoch ≡ old.epoch) (moment : new.moment ≡ old.moment) (beside : SameCloud g s t)
      (refused : is_done old.tree change ≡ false → (new.tree ≡ old.tree) × (new.journal ≡ old.journal) × (t ≡ s))
      (any_moment : LeavesOldOrAll g s t old.journal (entry_bytes change)) (quiet : is_stable_call change.call ≡ false → t ≡ s) where
    makes_none : makes_stable old.tree change.cred change.call ≡ false
    makes_none = change_makes old.tree change.cred change.call (is_true (is_change change.call) changes)

    brought_leaves : (stable : Bool) → is_stable_call change.call ≡ stable → LeavesOldOrMore g s t old.journal (cond stable (old.journal.pending ++ entry_bytes change ∷ []) [])
    brought_leaves true e = any_moment
    brought_leaves false e = waits_at s t old.journal [] (quiet e) was serving.stands

    fits_in : (answer : Answer) → answer ≡ (procedure old.tree old.epoch change.cred change.call change.moment).answer → new.tree ≡ tree_after_change old.tree change → length (answer_bytes answer) ≤ 65779
    fits_in answer by tree = rw by (answer_fits old.tree old.epoch change.cred change.call change.moment
        (subst IsValidTree (tree ∙ sym (procedure_tree old.tree old.epoch change.cred change.call change.moment)) valid))

    -- it was done
    carried_done : (answer : Answer) → answer ≡ (procedure old.tree old.epoch change.cred change.call change.moment).answer → new.tree ≡ tree_after_change old.tree change → is_done old.tree change ≡ true
        → SameButSpare (journal_after (is_stable_call change.call) old.journal (entry_bytes change)) new.journal
        → HoldsMore g s t old.journal new.journal (entries_kept (is_stable_call change.call) old.journal (entry_bytes change)) → StandsOn g new.journal t
        → wanted_of old.journal (length (entry_bytes change)) ≤ room_of old.journal → IsEntry (entry_bytes change) change → new.journal.down ≡ false → Carries g old s change answer new t
    carried_done answer by tree done journal holds stands room formed down = record {
      answer_is = by;
      fits = fits_in answer by tree;
      room = no_room (is_done old.tree change) (wanted_of old.journal (length (entry_bytes change))) (room_of old.journal) room;
      tree = tree ∙ sym (procedure_tree old.tree old.epoch change.cred change.call change.moment);
      epoch = epoch;
      moment = moment;
      journal = rw done journal;
      is = is;
      serving = record {
        up = record {
          area = subst (λ (j : JournalView). IsSome j.newer) (sym journal) (open_by true (is_stable_call change.call) false old.journal (entry_bytes change) serving.up.area);
          up = down;
        };
        stands = stands;
      };
      leaves = rw done (brought_leaves (is_stable_call change.call) refl);
      holds = rw done holds;
      storable = λ _. storable_of change formed;
      beside = beside;
    }

    -- it was refused
    carried_refused : (answer : Answer) → answer ≡ (procedure old.tree old.epoch change.cred change.call change.moment).answer → new.tree ≡ tree_after_change old.tree change → is_done old.tree change ≡ false
        → StandsOn g new.journal t → new.journal.down ≡ false → Carries g old s change answer new t
    carried_refused answer by tree done stands down =
        let same = refused done in
        record {
          answer_is = by;
          fits = fits_in answer by tree;
          room = rw done refl;
          tree = tree ∙ sym (procedure_tree old.tree old.epoch change.cred change.call change.moment);
          epoch = epoch;
          moment = moment;
          journal = rw (done, makes_none) (same.1 ∙ ap (λ (j : JournalView). let k : JournalView = record old.journal { spare = j.spare } in k) (sym same.1));
          is = is;
          serving = record { up = record { area = subst (λ (j : JournalView). IsSome j.newer) (sym same.1) serving.up.area; up = down }; stands = stands };
          leaves = rw (done, makes_none) (waits_at s t old.journal [] same.2 was serving.stands);
          holds = rw (done, makes_none) (subst (λ (d : S). HoldsMore g s d old.journal new.journal []) (sym same.2) (subst (λ (j : JournalView). HoldsMore g s s old.journal j []) (sym same.1) (holds_none old.journal (g.image s))));
          storable = none_done (is_done old.tree change) change done;
          beside = beside;
        }

    pub becomes_change : (o : Outcome) → IfDone o (λ a. a ≡ (procedure old.tree old.epoch change.cred change.call change.moment).answer) → IfDone o (λ a. new.tree ≡ tree_after_change old.tree change)
        → IfDone o (λ a. is_done old.tree change ≡ true → SameButSpare (journal_after (is_stable_call change.call) old.journal (entry_bytes change)) new.journal)
        → IfDone o (λ a. is_done old.tree change ≡ true → HoldsMore g s t old.journal new.journal (entries_kept (is_stable_call change.call) old.journal (entry_bytes change)))
        → (is_down o ≡ false → StandsOn g new.journal t)
        → IfDone o (λ a. is_done old.tree change ≡ true → wanted_of old.journal (length (entry_bytes change)) ≤ room_of old.journal)
        → IfDone o (λ a. is_done old.tree change ≡ true → IsEntry (entry_bytes change) change)
        → (is_down o ≡ true → (is_done old.tree change ≡ true) × (wanted_of old.journal (length (entry_bytes change)) ≤ room_of old.journal)) → (is_down o ≡ true → IsEntry (entry_bytes change) change)
        → IfJukebox o (λ room wanted. (is_done old.tree change ≡ true) × (room ≡ room_of old.journal) × (wanted ≡ wanted_of old.journal (length (entry_bytes change))) × (room < wanted))
        → IfPutOff o ((new.tree ≡ old.tree) × SameButSpare old.journal new.journal × (t ≡ s))
        → (o ≡ Memory → is_done old.tree change ≡ true) → new.journal.down ≡ is_down o → Becomes g old s change o new t
    becomes_change (Done answer) by tree journal holds stands room formed tried tried_formed jukebox put_off memory down = elim (either (is_done old.tree change)) [
      | inl done ↦ carried_done answer by tree done (journal done) (holds done) (stands refl) (room done) (formed done) down
      | inr done ↦ carried_refused answer by tree done (stands refl) down
    ]
    becomes_change (Jukebox room wanted) by tree journal holds stands room_is formed tried tried_formed jukebox put_off memory down = (
      some_room (is_done old.tree change) (wanted_of old.journal (length (entry_bytes change))) (room_of old.journal) jukebox.0 (omega (arith, jukebox.1, jukebox.2, jukebox.3)),
      record { tree = put_off.0; epoch = epoch; moment = moment; journal = put_off.1; disk = put_off.2 },
    )
    becomes_change Down by tree journal holds stands room formed tried tried_formed jukebox put_off memory down =
        let t = tried refl in
        record {
          room = no_room (is_done old.tree change) (wanted_of old.journal (length (entry_bytes change))) (room_of old.journal) t.1;
          leaves = rw t.0 (brought_leaves (is_stable_call change.call) refl);
          storable = λ _. storable_of change (tried_formed refl);
        }
    becomes_change Memory by tree journal holds stands room formed tried tried_formed jukebox put_off memory down = (
      or_second (takes_memory old.tree change.cred change.call) (is_done old.tree change) (memory refl),
      record { tree = put_off.0; epoch = epoch; moment = moment; journal = put_off.1; disk = put_off.2 },
    )

  -- ---- a call that changes no file

  module _ (old new : ServiceView) (s t : S) (change : Change) (reading : is_change change.call ≡ false) (serving : IsServing g old s) (was : IsJournal old.journal) (is : IsJournal new.journal) (valid : IsValidTree new.tree)
      (epoch : new.epoch ≡ old.epoch) (moment : new.moment ≡ old.moment) (tree : new.tree ≡ old.tree) where
    tree_is : new.tree ≡ (procedure old.tree old.epoch change.cred change.call change.moment).tree
    tree_is = tree ∙ sym (tree_after-reading old.tree change.cred change.call change.moment reading) ∙ sym (procedure_tree old.tree old.epoch change.cred change.call change.moment)

    look_fits : (answer : Answer) → answer ≡ (procedure old.tree old.epoch change.cred change.call change.moment).answer → length (answer_bytes answer) ≤ 65779
    look_fits answer by = rw by (answer_fits old.tree old.epoch change.cred change.call change.moment (subst IsValidTree tree_is valid))

    -- a COMMIT that is OK
    pub becomes_committed : (answer : Answer) → answer ≡ (procedure old.tree old.epoch change.cred change.call change.moment).answer → has_committed answer ≡ true
        → SameButSpare (after_commit old.journal) new.journal → HoldsMore g s t old.journal new.journal old.journal.pending → LeavesOldOrMore g s t old.journal old.journal.pending → StandsOn g new.journal t → new.journal.down ≡ false
        → SameCloud g s t → Carries g old s change answer new t
    becomes_committed answer by committed journal holds leaves stands down beside =
        let makes : makes_stable old.tree change.cred change.call ≡ true = sym (procedure_committed old.tree old.epoch change.cred change.call change.moment) ∙ ap (λ (a : Answer). has_committed a) (sym by) ∙ committed in
        let done = not_done old.tree change reading in
        record {
          answer_is = by;
          fits = look_fits answer by;
          room = rw done refl;
          tree = tree_is;
          epoch = epoch;
          moment = moment;
          journal = rw (done, makes) journal;
          is = is;
          serving = record { up = record { area = subst (λ (j : JournalView). IsSome j.newer) (sym journal) (map_some old.journal.newer old.journal.pending serving.up.area); up = down }; stands = stands };
          leaves = rw (done, makes) leaves;
          holds = rw (done, makes) holds;
          storable = none_done (is_done old.tree change) change done;
          beside = beside;
        }

    -- another call: all stays
    pub becomes_read : (answer : Answer) → answer ≡ (procedure old.tree old.epoch change.cred change.call change.moment).answer → has_committed answer ≡ false → new.journal ≡ old.journal → t ≡ s → Carries g old s change answer new t
    becomes_read answer by committed journal disk =
        let makes : makes_stable old.tree change.cred change.call ≡ false = sym (procedure_committed old.tree old.epoch change.cred change.call change.moment) ∙ ap (λ (a : Answer). has_committed a) (sym by) ∙ committed in
        let done = not_done old.tree change reading in
        record {
          answer_is = by;
          fits = look_fits answer by;
          room = rw done refl;
          tree = tree_is;
          epoch = epoch;
          moment = moment;
          journal = rw (done, makes) (journal ∙ ap (λ (j : JournalView). let k : JournalView = record old.journal { spare = j.spare } in k) (sym journal));
          is = is;
          serving = subst (λ (d : S). IsServing g new d) (sym disk) (record {
            up = record { area = subst (λ (j : JournalView). IsSome j.newer) (sym journal) serving.up.area; up = ap (λ (j : JournalView). j.down) journal ∙ serving.up.up };
            stands = subst (λ (j : JournalView). StandsOn g j s) (sym journal) serving.stands;
          });
          leaves = rw (done, makes) (waits_at s t old.journal [] disk was serving.stands);
          holds = rw (done, makes) (subst (λ (d : S). HoldsMore g s d old.journal new.journal []) (sym disk) (subst (λ (j : JournalView). HoldsMore g s s old.journal j []) (sym journal) (holds_none old.journal (g.image s))));
          storable = none_done (is_done old.tree change) change done;
          beside = subst (λ (d : S). SameCloud g s d) (sym disk) (record { objects = refl; standing = refl });
        }

    -- a COMMIT for which a call of the disk failed
    pub becomes_down : (answer : Answer) → answer ≡ (procedure old.tree old.epoch change.cred change.call change.moment).answer → has_committed answer ≡ true → LeavesOldOrMore g s t old.journal old.journal.pending → CarriesDown g old s change t
    becomes_down answer by committed leaves =
        let makes : makes_stable old.tree change.cred change.call ≡ true = sym (procedure_committed old.tree old.epoch change.cred change.call change.moment) ∙ ap (λ (a : Answer). has_committed a) (sym by) ∙ committed in
        let done = not_done old.tree change reading in
        record { room = rw done refl; leaves = rw (done, makes) leaves; storable = none_done (is_done old.tree change) change done }
