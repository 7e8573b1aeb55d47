-- Laws of what recovery finds of a disk that has the first changes of a history, beside a cloud that has the beginning of it.
use Rattle.std.specs.Prelude.{drop, max, IsTrue}
use Rattle.std.specs.List.{AllByRecursion}
use Rattle.std.proofs.Common.{◌≡◌, ℕ, ◌+◌, ◌-◌, ◌<◌, ◌≤◌, Some, Result, Ok, List, map, take, inl, inr, ⊎_elim, sym, ap, subst, ◌∙◌, arith}
use Rattle.std.proofs.lemmas.List.{drop-map}
use Rattle.sky_entry.specs.Entry.{entry_bytes}
use Rattle.sky_journal.specs.Journal.{JournalView}
use Rattle.sky_journal.specs.Text.{numbered}
use Rattle.sky_nfs.specs.History.{History, IsLegalHistory, history_length, last_tree, tree_at_length}
use Rattle.sky_nfs.specs.declared.call.Change.{Change}
use Rattle.sky_outside.specs.CloudMap.{CloudMap}
use Rattle.sky_outside.specs.Moments.{BesideObjects, LeavesOnly, MayLeaveNow, OfPair}
use Rattle.sky_outside.specs.Told.{WhereTold}
use Rattle.sky_outside.specs.declared.storage.Storage.{Ghosts}
use Rattle.sky_outside.proofs.MomentLaws.{only_read}
use Rattle.sky_outside.proofs.ToldLaws.{WhereTold-at, WhereTold-from}
use Rattle.sky_recover.specs.Opening.{WhereBothTold}
use Rattle.sky_sound.specs.Cloud.{cloud_tree, covers_of, epoch_after}
use Rattle.sky_sound.specs.Entries.{changes_in, entries_above, is_of_change, journal_of}
use Rattle.sky_sound.specs.Invariant.{AreStorable, CloudHas, Invariant, entries_between}
use Rattle.sky_sound.specs.Kept.{Kept}
use Rattle.sky_sound.specs.Recovery.{FindsSame, IsSound, Recovered, history_from, history_of}
use Rattle.sky_sound.specs.Refusal.{Refusal}
use Rattle.sky_sound.proofs.Above.{history_is, history_recovered}
use Rattle.sky_world.specs.Disk.{HoldsPrefix, LeavesPrefix, ReadsTo}
use Rattle.sky_world.specs.Finding.{FindsNow, FindsPrefix, LeavesFinding}
use Rattle.sky_world.specs.Meaning.{State, cut_to}
use Rattle.sky_world.specs.World.{Stands, WorldView}
use Rattle.sky_world.proofs.DiskLaws.{holds_read, read_is_prefix, storable_to}
use Rattle.sky_world.proofs.PartLaws.{above_drop, between_legal, between_length, between_tree, changes_of, drop_twice, history_between, of_changes, storable_drop}

-- ---- what is found

-- A cloud has the beginning of the history, up to what is completed; the next opening is in a later epoch than this.
pub record Begins (epoch : ℕ) (kept : Kept) (objects : CloudMap) : Type 0 where
  pub begins : kept.history.before ≤ kept.completed
  pub within : kept.completed ≤ history_length kept.history
  pub has : CloudHas kept objects
  pub later_epoch : epoch < epoch_after objects

module _ (epoch : ℕ) (kept : Kept) (n : ℕ) (image : List ℕ) (objects : CloudMap) (read : ReadsTo kept n image) (storable : AreStorable (cut_to n kept.history).changes) (begins : Begins epoch kept objects) where
  -- the changes that the journal says
  abbrev said_changes : List Change
  said_changes = drop (read.base - kept.history.before) (take (n - kept.history.before) kept.history.changes)

  said_storable : AreStorable said_changes
  said_storable = storable_drop (read.base - kept.history.before) (take (n - kept.history.before) kept.history.changes) storable

  said_list : numbered read.base (entries_between kept.history read.base n) ≡ numbered read.base (map entry_bytes said_changes)
  said_list = ap (λ (es : List (List ℕ)). numbered read.base es) (drop-map entry_bytes (read.base - kept.history.before) (take (n - kept.history.before) kept.history.changes))

  said : journal_of kept.history.tree.volume kept.journal.size (covers_of objects) image ≡ Ok (numbered read.base (entries_between kept.history read.base n))
  said =
      read.reads is_of_change (covers_of objects)
      (subst (λ (l : List (ℕ × List ℕ)). AllByRecursion (λ (e : ℕ × List ℕ). IsTrue (is_of_change e.1)) l) (sym said_list) (of_changes read.base said_changes said_storable))
      (omega (arith, read.most, begins.has.covers))

  -- those above what the cloud has are the changes behind that
  said_above : changes_in (entries_above kept.completed (numbered read.base (entries_between kept.history read.base n))) ≡ drop (kept.completed - kept.history.before) (take (n - kept.history.before) kept.history.changes)
  said_above =
      let c : ℕ = kept.completed in
      let b : ℕ = read.base in
      let cs = take (n - kept.history.before) kept.history.changes in
      let count : b - kept.history.before + (c - b) ≡ c - kept.history.before = omega (arith, read.least, read.most) in
      ap (λ (l : List (ℕ × List ℕ)). changes_in (entries_above c l)) said_list ∙ ap (λ (l : List (ℕ × List ℕ)). changes_in l) (above_drop c b (map entry_bytes said_changes) read.most)
      ∙ ap (λ (es : List (List ℕ)). changes_in (numbered c es)) (drop-map entry_bytes (c - b) said_changes) ∙ changes_of c (drop (c - b) said_changes) (storable_drop (c - b) said_changes said_storable)
      ∙ drop_twice (b - kept.history.before) (c - b) cs ∙ ap (λ (k : ℕ). drop k cs) count

  -- an image that reads as the first n changes stands for those of them that the cloud does not have
  pub history_at : history_of kept.history.tree.volume kept.journal.size image objects ≡ Ok (history_between kept.history kept.completed n)
  history_at =
      let h = kept.history in
      let v : ℕ = h.tree.volume in
      let list : List (ℕ × List ℕ) = numbered read.base (entries_between h read.base n) in
      let covers : covers_of objects ≡ kept.completed = begins.has.covers in
      let changes : changes_in (entries_above (covers_of objects) list) ≡ drop (kept.completed - h.before) (take (n - h.before) h.changes) =
      ap (λ (c : ℕ). changes_in (entries_above c list)) covers ∙ said_above in
      let from : History = history_from (covers_of objects) (cloud_tree v objects) list in
      let same : from ≡ history_between h kept.completed n = λ i. record { before = covers i; tree = begins.has.tree i; changes = changes i } in
      history_is v kept.journal.size image objects list begins.has.no_checkpoint said ∙ ap (λ (x : History). let r : Result History Refusal = Ok x in r) same

  pub sound_at : IsLegalHistory kept.history → IsSound kept.history.tree.volume kept.journal.size image objects
  sound_at legal = record {
    history = history_between kept.history kept.completed n;
    stands_for = history_at;
    legal = between_legal kept.history kept.completed n begins.begins begins.has.valid legal;
  }

-- recovery finds them
pub finds_at : (epoch floor : ℕ) (kept : Kept) (image : List ℕ) (objects : CloudMap) → HoldsPrefix floor kept image → IsLegalHistory kept.history → Begins epoch kept objects → FindsPrefix epoch floor kept image objects
finds_at epoch floor kept image objects holds legal begins =
    let h = kept.history in
    let n : ℕ = holds.n in
    let m : ℕ = max n kept.completed in
    let k : History = history_between h kept.completed n in
    let is : history_of h.tree.volume kept.journal.size image objects ≡ Ok k = history_at epoch kept n image objects holds.reads holds.storable begins in
    let long : history_length k ≡ m = between_length h kept.completed n begins.begins begins.within holds.most in
    let leads : last_tree k ≡ tree_at_length h m = between_tree h kept.completed n begins.begins in
    let first : Recovered = record { length = history_length k; tree = last_tree k } in
    let second : Recovered = record { length = m; tree = tree_at_length h m } in
    let same : first ≡ second = λ i. record { length = long i; tree = leads i } in
    record {
      n = m;
      least = holds.least;
      most = omega (arith, holds.most, begins.within);
      sound = sound_at epoch kept n image objects holds.reads holds.storable begins legal;
      found = history_recovered h.tree.volume kept.journal.size image objects k is ∙ ap (λ (x : Recovered). let r : Result Recovered Refusal = Ok x in r) same;
      later_epoch = begins.later_epoch;
    }

-- ---- at any moment

pub leaves_as : {S : Type 0} (g : Ghosts S) (s t : S) (P Q : OfPair) → ((image : List ℕ) (objects : CloudMap) → P image objects → Q image objects) → LeavesOnly g s t P → LeavesOnly g s t Q
leaves_as g s t P Q to l = record {
  later = l.later;
  since = λ image objects left. to image objects (l.since image objects left);
  before = λ u image objects le left. ⊎_elim inl (λ p. inr (to image objects p)) (l.before u image objects le left);
}

-- to show it where a site tells what it has, show it of what it has
pub both_told_from : {S : Type 0} (g : Ghosts S) (s : S) (P : List ℕ → CloudMap → Type 0) → ((image : List ℕ) (objects : CloudMap) → g.image s ≡ Some image → g.objects s ≡ Some objects → P image objects)
    → WhereBothTold g s P
both_told_from g s P holds =
    WhereTold-from (g.image s) (λ image. WhereTold (g.objects s) (P image))
    (λ image is. WhereTold-from (g.objects s) (P image) (λ objects held. holds image objects is held))

pub both_told_at : {S : Type 0} (g : Ghosts S) (s : S) (P : List ℕ → CloudMap → Type 0) (image : List ℕ) (objects : CloudMap) → g.image s ≡ Some image → g.objects s ≡ Some objects
    → WhereBothTold g s P → P image objects
both_told_at g s P image objects is held holds =
    WhereTold-at (g.objects s) (P image) objects held (WhereTold-at (g.image s) (λ i. WhereTold (g.objects s) (P i)) image is holds)

pub leaves_finding : {S : Type 0} (g : Ghosts S) (s t : S) (epoch floor : ℕ) (kept : Kept) → IsLegalHistory kept.history → WhereTold (g.objects s) (Begins epoch kept) → LeavesPrefix g s t floor kept
    → LeavesFinding g s t epoch floor kept
leaves_finding g s t epoch floor kept legal beside leaves =
    both_told_from g s (λ image objects. LeavesOnly g s t (FindsPrefix epoch floor kept))
    (λ image objects is held.
    leaves_as g s t (BesideObjects g s (HoldsPrefix floor kept)) (FindsPrefix epoch floor kept)
    (λ left now p.
    let same : now ≡ objects = WhereTold-at (g.objects s) (λ told. now ≡ told) objects held p.1 in
    let begins : Begins epoch kept objects = WhereTold-at (g.objects s) (Begins epoch kept) objects held beside in
    finds_at epoch floor kept left now p.0 legal (subst (λ (o : CloudMap). Begins epoch kept o) (sym same) begins))
    (WhereTold-at (g.image s) (λ r. LeavesOnly g s t (BesideObjects g s (HoldsPrefix floor kept))) image is leaves))

-- ---- now

module _ {S : Type 0} (g : Ghosts S) (epoch : ℕ) (kept : Kept) (j : JournalView) (s : S) (on : Invariant g epoch kept j s) where
  pub begins_at : (objects : CloudMap) → g.objects s ≡ Some objects → Begins epoch kept objects
  begins_at objects held = record {
    begins = on.begins;
    within = omega (arith, on.completed, on.stored);
    has = WhereTold-at (g.objects s) (CloudHas kept) objects held on.cloud;
    later_epoch = omega (arith, WhereTold-at (g.objects s) (λ o. epoch_after o ≡ epoch + 1) objects held on.epoch_is);
  }

  pub begins_now : WhereTold (g.objects s) (Begins epoch kept)
  begins_now = WhereTold-from (g.objects s) (Begins epoch kept) (λ objects held. begins_at objects held)

  pub finds_now : FindsNow g s epoch kept
  finds_now =
      both_told_from g s (λ read held. (image : List ℕ) (objects : CloudMap) → MayLeaveNow g s image objects → FindsPrefix epoch kept.mark kept image objects)
      (λ read held is told image objects now.
      let same : image ≡ read = only_read g s read is on.durable image now.0 in
      let beside_is : objects ≡ held = WhereTold-at (g.objects s) (λ o. objects ≡ o) held told now.1 in
      let found : FindsPrefix epoch kept.mark kept read held = finds_at epoch kept.mark kept read held (holds_read g epoch kept j s on read is) on.legal (begins_at held told) in
      subst (λ (i : List ℕ). FindsPrefix epoch kept.mark kept i objects) (sym same) (subst (λ (o : CloudMap). FindsPrefix epoch kept.mark kept read o) (sym beside_is) found))

  -- a site that tells what it has stands for the changes that are stored, behind those that the cloud has, and is sound
  pub history_now : (image : List ℕ) (objects : CloudMap) → g.image s ≡ Some image → g.objects s ≡ Some objects
      → history_of kept.history.tree.volume kept.journal.size image objects ≡ Ok (history_between kept.history kept.completed kept.stored)
  history_now image objects is held =
      history_at epoch kept kept.stored image objects (read_is_prefix g epoch kept j s on image is) (storable_to kept kept.stored on.storable) (begins_at objects held)

  pub sound_now : (image : List ℕ) (objects : CloudMap) → g.image s ≡ Some image → g.objects s ≡ Some objects → IsSound kept.history.tree.volume kept.journal.size image objects
  sound_now image objects is held =
      sound_at epoch kept kept.stored image objects (read_is_prefix g epoch kept j s on image is) (storable_to kept kept.stored on.storable) (begins_at objects held) on.legal

-- ---- a world that stands for a state

module _ {S : Type 0} (g : Ghosts S) (w : WorldView) (s : S) (state : State) (stands : Stands g w s state) where
  pub stands_begins : WhereTold (g.objects s) (Begins state.epoch state.kept)
  stands_begins = begins_now g state.epoch state.kept w.service.journal s stands.service.invariant

  -- recovery would find the changes that are stored
  pub stands_find : FindsNow g s state.epoch state.kept
  stands_find = finds_now g state.epoch state.kept w.service.journal s stands.service.invariant

-- ---- what is found stays

-- what recovery finds the same of as of a prefix is that prefix
pub finds_same : (epoch floor : ℕ) (kept : Kept) (image : List ℕ) (objects : CloudMap) (left : List ℕ) (held : CloudMap) → FindsPrefix epoch floor kept image objects
    → FindsSame kept.history.tree.volume kept.journal.size image objects left held → FindsPrefix epoch floor kept left held
finds_same epoch floor kept image objects left held found same = record {
  n = found.n;
  least = found.least;
  most = found.most;
  sound = same.sound;
  found = same.same ∙ found.found;
  later_epoch = omega (arith, found.later_epoch, same.epoch);
}
