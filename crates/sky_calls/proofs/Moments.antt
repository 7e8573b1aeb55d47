-- What crashes leave while an entry is kept.
use Rattle.std.proofs.Common.{◌≡◌, ◌⊎◌, ℕ, List, [], ◌∷◌, ◌++◌, Option, Some, None, ap, sym, subst, inl}
use Rattle.sky_outside.specs.Moments.{LeavesOnly, BesideObjects}
use Rattle.std.proofs.lemmas.List.{append-nil}
use Rattle.sky_outside.specs.Told.{BothTold}
use Rattle.sky_outside.specs.declared.storage.Storage.{Ghosts}
use Rattle.sky_outside.proofs.ToldLaws.{WhereTold-from}
use Rattle.sky_outside.proofs.MomentLaws.{LeavesOnly-disk_start, only_read}
use Rattle.sky_journal.specs.Journal.{JournalView, IsJournal, StandsFor, StandsOn, ReadsEntries, SameButSpare}
use Rattle.sky_journal.proofs.Disks.{told_then}
use Rattle.sky_journal.proofs.Idle.{CommitMoments}
use Rattle.sky_journal.proofs.Journals.{StandsFor-but}
use Rattle.sky_journal.proofs.Reading.{reads}
use Rattle.sky_calls.specs.Durable.{LeavesOldOrAll, Lasts}

module _ {S : Type 0} (g : Ghosts S) (s t : S) (j : JournalView) (entry : List ℕ) where
  -- while it is committed with all that is pending
  pub committed_moments : (k : JournalView) → k ≡ record j { pending = j.pending ++ entry ∷ []; spare = k.spare } → CommitMoments g s t k → LeavesOldOrAll g s t j entry
  committed_moments k is moments =
      let there : CommitMoments g s t (record j { pending = j.pending ++ entry ∷ []; spare = k.spare }) = subst (λ (v : JournalView). CommitMoments g s t v) is moments in
      told_then
      (λ image. (older newer : List (List ℕ)) → StandsFor (record j { pending = j.pending ++ entry ∷ []; spare = k.spare }) image older newer
      → LeavesOnly g s t (BesideObjects g s (λ left. ReadsEntries j older newer left ⊎ ReadsEntries j older (newer ++ (j.pending ++ entry ∷ [])) left)))
      (λ image. (older newer : List (List ℕ)) → StandsFor j image older newer
      → LeavesOnly g s t (BesideObjects g s (λ left. ReadsEntries j older newer left ⊎ ReadsEntries j older (newer ++ (j.pending ++ entry ∷ [])) left)))
      (g.image s) there
      (λ image told leaves older newer stands. leaves older newer (StandsFor-but j (j.pending ++ entry ∷ []) k.spare j.down image older newer stands))

-- while it waits in memory
pub waiting_moments : {S : Type 0} (g : Ghosts S) (s : S) (j : JournalView) (entry : List ℕ) → IsJournal j → StandsOn g j s → LeavesOldOrAll g s s j entry
waiting_moments g s j entry is stands =
    WhereTold-from (g.image s) (λ image. (older newer : List (List ℕ)) → StandsFor j image older newer
    → LeavesOnly g s s (BesideObjects g s (λ left. ReadsEntries j older newer left ⊎ ReadsEntries j older (newer ++ (j.pending ++ entry ∷ [])) left)))
    (λ image told older newer here. LeavesOnly-disk_start g s (λ left. ReadsEntries j older newer left ⊎ ReadsEntries j older (newer ++ (j.pending ++ entry ∷ [])) left)
    (λ left leaves. inl (subst (λ (l : List ℕ). ReadsEntries j older newer l) (sym (only_read g s image told stands.durable left leaves)) (reads j image older newer is here))))

-- by a journal that is the same but for its memory
pub StandsOn-spare : {S : Type 0} (g : Ghosts S) (s : S) (j k : JournalView) → SameButSpare j k → StandsOn g j s → StandsOn g k s
StandsOn-spare g s j k same stands =
    subst (λ (v : JournalView). StandsOn g v s) (sym same) (record {
      size = stands.size;
      durable = stands.durable;
      laid = told_then (λ image. (older newer : List (List ℕ)) × StandsFor j image older newer)
          (λ image. (older newer : List (List ℕ)) × StandsFor (record j { spare = k.spare }) image older newer) (g.image s) stands.laid
          (λ image told laid. (laid.0, laid.1, StandsFor-but j j.pending k.spare j.down image laid.0 laid.1 laid.2));
    })

pub moments_spare : {S : Type 0} (g : Ghosts S) (s t : S) (j k : JournalView) (entry : List ℕ) → SameButSpare j k → LeavesOldOrAll g s t k entry → LeavesOldOrAll g s t j entry
moments_spare g s t j k entry same moments =
    let there : LeavesOldOrAll g s t (record j { spare = k.spare }) entry = subst (λ (v : JournalView). LeavesOldOrAll g s t v entry) same moments in
    told_then
    (λ image. (older newer : List (List ℕ)) → StandsFor (record j { spare = k.spare }) image older newer
    → LeavesOnly g s t (BesideObjects g s (λ left. ReadsEntries j older newer left ⊎ ReadsEntries j older (newer ++ (j.pending ++ entry ∷ [])) left)))
    (λ image. (older newer : List (List ℕ)) → StandsFor j image older newer
    → LeavesOnly g s t (BesideObjects g s (λ left. ReadsEntries j older newer left ⊎ ReadsEntries j older (newer ++ (j.pending ++ entry ∷ [])) left)))
    (g.image s) there
    (λ image told leaves older newer stands. leaves older newer (StandsFor-but j j.pending k.spare j.down image older newer stands))

pub lasts_spare : {S : Type 0} (g : Ghosts S) (s t : S) (j k : JournalView) (entry : List ℕ) → SameButSpare j k → Lasts g s t k entry → Lasts g s t j entry
lasts_spare g s t j k entry same lasts =
    let there : Lasts g s t (record j { spare = k.spare }) entry = subst (λ (v : JournalView). Lasts g s t v entry) same lasts in
    told_then
    (λ image. (older newer : List (List ℕ)) → StandsFor (record j { spare = k.spare }) image older newer
    → (left : List ℕ) → g.may_leave t left → ReadsEntries j older (newer ++ (j.pending ++ entry ∷ [])) left)
    (λ image. (older newer : List (List ℕ)) → StandsFor j image older newer
    → (left : List ℕ) → g.may_leave t left → ReadsEntries j older (newer ++ (j.pending ++ entry ∷ [])) left)
    (g.image s) there
    (λ image told lasts older newer stands. lasts older newer (StandsFor-but j j.pending k.spare j.down image older newer stands))

-- what the disk then stands for, by a journal that had one entry more pending
pub holds_committed : (j k l : JournalView) (entry : List ℕ) (a b : Option (List ℕ)) → k ≡ record j { pending = j.pending ++ entry ∷ []; spare = k.spare }
    → BothTold (λ old new. (older newer : List (List ℕ)) → StandsFor k old older newer → StandsFor l new older (newer ++ k.pending)) a b
    → BothTold (λ old new. (older newer : List (List ℕ)) → StandsFor j old older newer → StandsFor l new older (newer ++ (j.pending ++ entry ∷ []))) a b
holds_committed j k l entry None None is both = tt
holds_committed j k l entry None (Some y) is both = absurd both
holds_committed j k l entry (Some x) None is both = absurd both
holds_committed j k l entry (Some x) (Some y) is both = λ older newer stands.
    subst (λ (v : List (List ℕ)). StandsFor l y older (newer ++ v)) (ap (λ (v : JournalView). v.pending) is)
    (both older newer (subst (λ (v : JournalView). StandsFor v x older newer) (sym is) (StandsFor-but j (j.pending ++ entry ∷ []) k.spare j.down x older newer stands)))

-- and by one that is the same but for its memory
pub holds_spare : (j k l : JournalView) (brought : List (List ℕ)) (a b : Option (List ℕ)) → SameButSpare j k
    → BothTold (λ old new. (older newer : List (List ℕ)) → StandsFor k old older newer → StandsFor l new older (newer ++ brought)) a b
    → BothTold (λ old new. (older newer : List (List ℕ)) → StandsFor j old older newer → StandsFor l new older (newer ++ brought)) a b
holds_spare j k l brought None None same both = tt
holds_spare j k l brought None (Some y) same both = absurd both
holds_spare j k l brought (Some x) None same both = absurd both
holds_spare j k l brought (Some x) (Some y) same both = λ older newer stands.
    both older newer (subst (λ (v : JournalView). StandsFor v x older newer) (sym same) (StandsFor-but j j.pending k.spare j.down x older newer stands))

-- where it waits, the disk stands for what it stood for
pub holds_waiting : (j k : JournalView) (entry : List ℕ) (a : Option (List ℕ)) → k ≡ record j { pending = j.pending ++ entry ∷ []; spare = k.spare }
    → BothTold (λ old new. (older newer : List (List ℕ)) → StandsFor j old older newer → StandsFor k new older (newer ++ [])) a a
holds_waiting j k entry None is = tt
holds_waiting j k entry (Some x) is = λ older newer stands.
    subst (λ (v : List (List ℕ)). StandsFor k x older v) (sym (append-nil newer))
    (subst (λ (v : JournalView). StandsFor v x older newer) (sym is) (StandsFor-but j (j.pending ++ entry ∷ []) k.spare j.down x older newer stands))
