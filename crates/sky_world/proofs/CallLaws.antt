-- Laws of a call of NFS: what the program does with it, in each state for which it stands.
use Rattle.std.specs.Prelude.{IsSome, IsTrue, ◌&&◌, nat_lt, length}
use Rattle.std.proofs.Common.{◌≡◌, ℕ, Bool, true, false, List, refl, sym, ap, subst, ◌∙◌}
use Rattle.sky_base.specs.declared.cred.Cred.{Cred}
use Rattle.sky_base.specs.declared.moment.Moment.{Moment}
use Rattle.sky_calls.proofs.Carried.{procedure_tree}
use Rattle.sky_calls.proofs.Moments.{StandsOn-spare}
use Rattle.sky_calls.specs.Stable.{is_stable_call}
use Rattle.sky_entry.specs.Entry.{entry_bytes}
use Rattle.sky_journal.specs.Journal.{JournalView, StandsOn}
use Rattle.sky_nfs.specs.Calls.{is_change}
use Rattle.sky_nfs.specs.History.{is_done, last_tree}
use Rattle.sky_nfs.specs.Tree.{Tree}
use Rattle.sky_nfs.specs.declared.answer.Answer.{Answer}
use Rattle.sky_nfs.specs.declared.call.Call.{Call}
use Rattle.sky_nfs.specs.declared.call.Call.TheVariants as call
use Rattle.sky_nfs.specs.declared.call.Change.{Change}
use Rattle.sky_nfs.specs.declared.status.NfsStatus.TheVariants.{Jukebox}
use Rattle.sky_outside.specs.declared.storage.Storage.{Ghosts}
use Rattle.sky_results.specs.Answers.{answer_bytes}
use Rattle.sky_rpc.specs.Reply.{Success, reply_record}
use Rattle.sky_world.specs.Carried.{Carries, CarriesDown, IsServing, Stays, entries_brought, has_no_room, journal_after_call}
use Rattle.sky_world.specs.Disk.{LeavesPrefix, WentOn}
use Rattle.sky_sound.specs.Invariant.{AreStorable, Invariant}
use Rattle.sky_sound.specs.Entries.{IsStorable}
use Rattle.sky_world.specs.Feeding.{Called, by_procedure, without_room, without_memory}
use Rattle.sky_world.specs.Meaning.{State, called_by, kept_after, lacks_room, makes_stable, service_of, with_kept}
use Rattle.sky_sound.specs.Kept.{Kept}
use Rattle.sky_world.specs.Service.{answer_to, bare_answer, reply_without_memory, takes_some}
use Rattle.sky_world.specs.World.{ServiceView, ServesFor}
use Rattle.sky_world.proofs.AnswerLaws.{called_tree}
use Rattle.sky_world.proofs.DiskLaws.{went_nowhere}
use Rattle.sky_world.proofs.HistoryLaws.{call_legal}
use Rattle.sky_world.proofs.KeepLaws.{Moves, invariant_on, invariant_spare, leaves_prefix, moves_by, moves_spare, room_kept, wanted_kept, went}
use Rattle.sky_world.proofs.StorableLaws.{storable_by}

-- ---- a change makes nothing stable that is not a change

pub change_makes : (tree : Tree) (cred : Cred) (c : Call) → is_change c ≡ true → makes_stable tree cred c ≡ false
change_makes tree cred (call.Commit file offset count) e = absurd cc
change_makes tree cred call.Null e = refl
change_makes tree cred (call.GetAttr object) e = refl
change_makes tree cred (call.SetAttr object set guard) e = refl
change_makes tree cred (call.Lookup at) e = refl
change_makes tree cred (call.Access object rights) e = refl
change_makes tree cred (call.ReadLink link) e = refl
change_makes tree cred (call.Read file offset count) e = refl
change_makes tree cred (call.Write file offset count how piece) e = refl
change_makes tree cred (call.Create at how) e = refl
change_makes tree cred (call.Mkdir at set) e = refl
change_makes tree cred (call.Symlink at set text) e = refl
change_makes tree cred (call.Mknod at what) e = refl
change_makes tree cred (call.Remove at) e = refl
change_makes tree cred (call.Rmdir at) e = refl
change_makes tree cred (call.Rename from to) e = refl
change_makes tree cred (call.Link file at) e = refl
change_makes tree cred (call.ReadDir directory cookie verifier count) e = refl
change_makes tree cred (call.ReadDirPlus directory cookie verifier dircount maxcount) e = refl
change_makes tree cred (call.FsStat root) e = refl
change_makes tree cred (call.FsInfo root) e = refl
change_makes tree cred (call.PathConf object) e = refl

first_true : (a b : Bool) → (a && b) ≡ true → a ≡ true
first_true true b e = refl
first_true false b e = absurd cc

pub done_makes : (tree : Tree) (change : Change) → is_done tree change ≡ true → makes_stable tree change.cred change.call ≡ false
done_makes tree change e = change_makes tree change.cred change.call (first_true (is_change change.call) _ e)

module _ {S : Type 0} (g : Ghosts S) (s : S) (state : State) (old : ServiceView) (serves : ServesFor g old s state) (area : IsSome old.journal.newer) where
  -- the service as the state has it
  abbrev as_stated : ServiceView
  as_stated = record { epoch = state.epoch; tree = last_tree state.kept.history; journal = old.journal; moment = state.moment }

  is_stated : old ≡ as_stated
  is_stated = λ k. record { epoch = serves.epoch k; tree = serves.tree k; journal = old.journal; moment = serves.moment k }

  moves : (change : Change) → Moves state.kept old.journal (kept_after state.kept change) (journal_after_call (last_tree state.kept.history) old.journal change) (entries_brought (last_tree state.kept.history) old.journal change)
  moves change =
      moves_by g state.epoch state.kept old.journal s serves.invariant change area (is_done (last_tree state.kept.history) change) (is_stable_call change.call) (makes_stable (last_tree state.kept.history) change.cred change.call)
      (done_makes (last_tree state.kept.history) change)

  -- whether there is room for a change, as the journal has it, is as it is kept
  room_same : (change : Change) → has_no_room (last_tree state.kept.history) old.journal change ≡ lacks_room state.kept change
  room_same change =
      let n = length (entry_bytes change) in
      λ i. is_done (last_tree state.kept.history) change && nat_lt (room_kept g state.epoch state.kept old.journal s serves.invariant i) (wanted_kept g state.epoch state.kept old.journal s serves.invariant n i)

  module _ (change : Change) (at : change.moment ≡ old.moment) where
    -- the call as the state has it
    change_is : change ≡ called_by change.cred change.call state.moment
    change_is = λ k. record { cred = change.cred; moment = (at ∙ serves.moment) k; call = change.call }

    abbrev stated : Change
    stated = called_by change.cred change.call state.moment

    abbrev after : Kept
    after = kept_after state.kept stated

    -- each change is read from its entry as before, and so is this one, where it is done
    storable_after : (is_done (last_tree state.kept.history) stated ≡ true → IsStorable stated) → AreStorable after.history.changes
    storable_after one = storable_by (is_done (last_tree state.kept.history) stated) state.kept.history stated serves.invariant.storable one

    -- ---- it was carried out

    module _ (t : S) (new : ServiceView) (answer : Answer) (carries : Carries g old s change answer new t) where
      carried : Carries g as_stated s stated answer new t
      carried =
          subst (λ (o : ServiceView). Carries g o s stated answer new t) is_stated
          (subst (λ (c : Change). Carries g old s c answer new t) change_is carries)

      moved : Moves state.kept old.journal after new.journal (entries_brought (last_tree state.kept.history) old.journal stated)
      moved = moves_spare state.kept old.journal after (journal_after_call (last_tree state.kept.history) old.journal stated) new.journal _ carried.journal (moves stated)

      stands_after : ServesFor g new t (with_kept state after)
      stands_after = record {
        epoch = carried.epoch;
        tree = carried.tree ∙ procedure_tree (last_tree state.kept.history) state.epoch stated.cred stated.call state.moment ∙ sym (called_tree state.kept.history stated.cred stated.call state.moment);
        moment = carried.moment;
        invariant = invariant_on g state.epoch s t state.kept old.journal after new.journal _ moved serves.invariant (storable_after carried.storable) (call_legal state.kept.history stated.cred stated.call stated.moment serves.invariant.legal) carried.is carried.serving.stands carried.holds carried.beside;
      }

      went_after : WentOn g s t state.kept.mark after
      went_after = went g state.epoch s t state.kept old.journal after new.journal _ moved serves.invariant (storable_after carried.storable) carried.leaves carried.holds carried.beside

      pub answers_done : (xid number : ℕ) (reply : List ℕ) → reply ≡ reply_record xid (Success (answer_bytes answer))
          → (kept : Kept) × Called state xid number change.cred change.call reply kept × ServesFor g new t (with_kept state kept) × WentOn g s t state.kept.mark kept
      answers_done xid number reply is =
          (after, by_procedure (sym (room_same stated) ∙ carried.room) (is ∙ ap (λ (a : Answer). reply_record xid (Success (answer_bytes a))) carried.answer_is) refl, stands_after, went_after)

    -- ---- a call of the disk failed

    module _ (t : S) (down : CarriesDown g old s change t) where
      failed : CarriesDown g as_stated s stated t
      failed =
          subst (λ (o : ServiceView). CarriesDown g o s stated t) is_stated
          (subst (λ (c : Change). CarriesDown g old s c t) change_is down)

      pub fails_down : (xid number : ℕ) → (reply : List ℕ) × (kept : Kept) × Called state xid number change.cred change.call reply kept × LeavesPrefix g s t state.kept.mark kept
      fails_down xid number = (
        reply_record xid (Success (answer_bytes (answer_to (service_of state) change.cred change.call))),
        after,
        by_procedure (sym (room_same stated) ∙ failed.room) refl refl,
        leaves_prefix g state.epoch s t state.kept old.journal after (journal_after_call (last_tree state.kept.history) old.journal stated) _ (moves stated) serves.invariant (storable_after failed.storable) failed.leaves,
      )

    -- ---- all stays

    module _ (t : S) (new : ServiceView) (stays : Stays old s new t) where
      stands_still : ServesFor g new t (with_kept state state.kept)
      stands_still = record {
        epoch = stays.epoch ∙ serves.epoch;
        tree = stays.tree ∙ serves.tree;
        moment = stays.moment ∙ serves.moment;
        invariant = subst (λ (d : S). Invariant g state.epoch state.kept new.journal d) (sym stays.disk) (invariant_spare g state.epoch state.kept old.journal new.journal s stays.journal serves.invariant);
      }

      went_still : WentOn g s t state.kept.mark state.kept
      went_still = subst (λ (d : S). WentOn g s d state.kept.mark state.kept) (sym stays.disk) (went_nowhere g state.epoch state.kept old.journal s serves.invariant)

      pub answers_put_off : (xid number : ℕ) (reply : List ℕ) → has_no_room old.tree old.journal change ≡ true → reply ≡ reply_record xid (Success (answer_bytes (bare_answer number Jukebox)))
          → (kept : Kept) × Called state xid number change.cred change.call reply kept × ServesFor g new t (with_kept state kept) × WentOn g s t state.kept.mark kept
      answers_put_off xid number reply lacks is =
          let stated_lacks : has_no_room (last_tree state.kept.history) old.journal stated ≡ true =
          subst (λ (o : ServiceView). has_no_room o.tree o.journal stated ≡ true) is_stated (subst (λ (c : Change). has_no_room old.tree old.journal c ≡ true) change_is lacks) in
          (state.kept, without_room (sym (room_same stated) ∙ stated_lacks) is refl, stands_still, went_still)

      pub answers_no_memory : (xid number : ℕ) (reply : List ℕ) → IsTrue (takes_some (record { epoch = old.epoch; tree = old.tree; moment = change.moment }) change.cred change.call)
          → reply ≡ reply_record xid (reply_without_memory number)
          → (kept : Kept) × Called state xid number change.cred change.call reply kept × ServesFor g new t (with_kept state kept) × WentOn g s t state.kept.mark kept
      answers_no_memory xid number reply takes is =
          let stated_takes : IsTrue (takes_some (service_of state) change.cred change.call) =
          subst (λ (o : ServiceView). IsTrue (takes_some (record { epoch = o.epoch; tree = o.tree; moment = o.moment }) change.cred change.call)) is_stated
          (subst (λ (m : Moment). IsTrue (takes_some (record { epoch = old.epoch; tree = old.tree; moment = m }) change.cred change.call)) at takes) in
          (state.kept, without_memory stated_takes is refl, stands_still, went_still)

-- a service that stays can answer calls as before
pub serving_still : {S : Type 0} (g : Ghosts S) (old new : ServiceView) (s t : S) → Stays old s new t → IsServing g old s → IsServing g new t
serving_still {S = S} g old new s t stays serving = record {
  up = record {
    area = subst (λ (j : JournalView). IsSome j.newer) (sym stays.journal) serving.up.area;
    up = ap (λ (j : JournalView). j.down) stays.journal ∙ serving.up.up;
  };
  stands = subst (λ (d : S). StandsOn g new.journal d) (sym stays.disk) (StandsOn-spare g s old.journal new.journal stays.journal serving.stands);
}
