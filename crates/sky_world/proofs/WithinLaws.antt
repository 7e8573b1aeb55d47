-- Laws of what a crash leaves on the disk within a payload, record by record.
use Rattle.std.proofs.Common.{◌≡◌, ℕ, ◌≤◌, Option, List, [], ◌++◌, length, take, refl, sym, ap, subst, ◌∙◌, append_assoc}
use Rattle.std.proofs.lemmas.List.{append-nil}
use Rattle.sky_journal.specs.Journal.{JournalView}
use Rattle.sky_outside.specs.CloudMap.{CloudMap}
use Rattle.sky_outside.specs.Moments.{BesideObjects, LeavesOnly, MayLeaveNow}
use Rattle.sky_outside.specs.Told.{WhereTold}
use Rattle.sky_outside.specs.declared.storage.Storage.{Ghosts}
use Rattle.sky_outside.proofs.MomentLaws.{HoldsNow-same, LeavesOnly-disk_start, LeavesOnly-disk_then, only_read}
use Rattle.sky_outside.proofs.ToldLaws.{WhereTold-at, WhereTold-from}
use Rattle.sky_script.specs.Frame.{InFrame, Bytes, OutFrame}
use Rattle.sky_world.specs.Disk.{HoldsPrefix, LeavesPrefix, WentOn}
use Rattle.sky_sound.specs.Invariant.{Invariant}
use Rattle.sky_world.specs.Feeding.{Acknowledges, Answers, HoldsWithin, IsStable, LeavesHolding, WentWithin}
use Rattle.sky_world.specs.Finding.{RecordUnderWay}
use Rattle.sky_world.specs.Meaning.{State, Session, Open, Scarce, Step, StepBytes, session_at}
use Rattle.sky_sound.specs.Kept.{Kept}
use Rattle.sky_world.specs.World.{ServiceView}
use Rattle.sky_world.proofs.DiskLaws.{both_same, both_then, holds_read, told_both}

-- ---- what is kept is stable

module _ {S : Type 0} (g : Ghosts S) where
  pub kept_stable : {epoch : ℕ} {j : JournalView} (kept : Kept) (s : S) → Invariant g epoch kept j s → IsStable g s kept
  kept_stable {epoch} {j} kept s on =
      WhereTold-from (g.image s) (λ read. (image : List ℕ) → g.may_leave s image → HoldsPrefix kept.mark kept image)
      (λ read is image left. subst (λ (i : List ℕ). HoldsPrefix kept.mark kept i) (sym (only_read g s read is on.durable image left)) (holds_read g epoch kept j s on read is))

  pub acknowledges : (old new : ServiceView) (s t : S) (bytes : List ℕ) (reply : Option (List ℕ)) → Answers g old s bytes reply new t → Acknowledges g old s bytes reply t
  acknowledges old new s t bytes reply answers = record { each = λ state serves. let a = answers.each state serves in (a.0, a.1, kept_stable a.0 t a.2.invariant) }

-- ---- the record under way

module _ (s : State) (n : ℕ) (stream payload : List ℕ) (open_is : session_at s n ≡ Open stream) where
  -- what becomes of the bytes of an open session is the step of a frame
  pub as_step : (bytes : List ℕ) (outs : List OutFrame) (t : State) → StepBytes Scarce (Open stream) n bytes s outs t → Step Scarce s (Bytes n bytes) outs t
  as_step bytes outs t step = subst (λ (x : Session). StepBytes Scarce x n bytes s outs t) (sym open_is) step

  abbrev pub under_way : (part up_to : ℕ) → part ≤ up_to → (said own : List OutFrame) (mid next : State) → StepBytes Scarce (Open stream) n (take part payload) s said mid
      → StepBytes Scarce (Open stream) n (take up_to payload) s (said ++ own) next → length own ≤ 1 → RecordUnderWay s (Bytes n payload)
  under_way part up_to le said own mid next first second one = record {
    said = said;
    mid = mid;
    own = own;
    next = next;
    handled = (part, up_to, le, as_step (take part payload) said mid first, as_step (take up_to payload) (said ++ own) next second);
    one = one;
  }

module _ (s : State) (f : InFrame) where
  -- what is left within some answers is left within those and more
  pub within_more : (outs more : List OutFrame) (image : List ℕ) → HoldsWithin s f outs image → HoldsWithin s f (outs ++ more) image
  within_more outs more image h = record {
    under = h.under;
    rest = h.rest ++ more;
    answers = sym (append_assoc (h.under.said ++ h.under.own) h.rest more) ∙ ap (λ (o : List OutFrame). o ++ more) h.answers;
    holds = h.holds;
  }

  -- while the last record is under way
  pub within_last : (u : RecordUnderWay s f) (image : List ℕ) → HoldsPrefix u.mid.kept.mark u.next.kept image → HoldsWithin s f (u.said ++ u.own) image
  within_last u image h = record { under = u; rest = []; answers = append-nil (u.said ++ u.own); holds = h }

-- ---- from record to record

module _ {S : Type 0} (g : Ghosts S) (s : State) (f : InFrame) (u : RecordUnderWay s f) where
  -- none has been handled yet
  pub within_begins : {epoch : ℕ} {j : JournalView} (d : S) (kept : Kept) → Invariant g epoch kept j d → u.mid.kept ≡ kept → u.next.kept ≡ kept → WentWithin g d d s f (u.said ++ u.own)
  within_begins d kept on mid next =
      let stable : IsStable g d kept = kept_stable g kept d on in
      let both : (image : List ℕ) → HoldsPrefix kept.mark kept image → HoldsPrefix u.mid.kept.mark u.next.kept image =
      λ image h. subst (λ (k : Kept). HoldsPrefix k.mark u.next.kept image) (sym mid) (subst (λ (k : Kept). HoldsPrefix kept.mark k image) (sym next) h) in
      record {
        leaves =
            WhereTold-from (g.image d) (λ read. LeavesOnly g d d (BesideObjects g d (HoldsWithin s f (u.said ++ u.own))))
            (λ read is. LeavesOnly-disk_start g d (HoldsWithin s f (u.said ++ u.own))
            (λ image left. within_last s f u image (both image (WhereTold-at (g.image d) (λ r. (i : List ℕ) → g.may_leave d i → HoldsPrefix kept.mark kept i) read is stable image left))));
        tells = both_same (g.image d);
        beside = record { objects = refl; standing = refl };
      }

  module _ (d e t : S) (went : WentWithin g d e s f u.said) where
    -- the record under way was handled from e to t
    pub within_holds : LeavesPrefix g e t u.mid.kept.mark u.next.kept → LeavesHolding g d t s f (u.said ++ u.own)
    within_holds leaves =
        WhereTold-from (g.image d) (λ read. LeavesOnly g d t (BesideObjects g d (HoldsWithin s f (u.said ++ u.own))))
        (λ read is.
        let there = told_both (g.image d) (g.image e) read went.tells is in
        LeavesOnly-disk_then g d e t (HoldsWithin s f u.said) (HoldsPrefix u.mid.kept.mark u.next.kept) (HoldsWithin s f (u.said ++ u.own)) went.beside
        (WhereTold-at (g.image d) (λ r. LeavesOnly g d e (BesideObjects g d (HoldsWithin s f u.said))) read is went.leaves)
        (WhereTold-at (g.image e) (λ r. LeavesOnly g e t (BesideObjects g e (HoldsPrefix u.mid.kept.mark u.next.kept))) there.0 there.1 leaves)
        (λ image h. within_more s f u.said u.own image h) (λ image h. within_last s f u image h))

    pub within_went : WentOn g e t u.mid.kept.mark u.next.kept → WentWithin g d t s f (u.said ++ u.own)
    within_went second = record {
      leaves = within_holds second.leaves;
      tells = both_then (g.image d) (g.image e) (g.image t) went.tells second.tells;
      beside = record { objects = second.beside.objects ∙ went.beside.objects; standing = second.beside.standing ∙ went.beside.standing };
    }

    -- what was stable before it is stable still
    pub within_now : LeavesPrefix g e t u.mid.kept.mark u.next.kept
        → WhereTold (g.image d) (λ read. (image : List ℕ) (objects : CloudMap) → MayLeaveNow g t image objects → BesideObjects g d (HoldsPrefix u.mid.kept.mark u.next.kept) image objects)
    within_now leaves =
        WhereTold-from (g.image d) (λ read. (image : List ℕ) (objects : CloudMap) → MayLeaveNow g t image objects → BesideObjects g d (HoldsPrefix u.mid.kept.mark u.next.kept) image objects)
        (λ read is image objects may.
        let there = told_both (g.image d) (g.image e) read went.tells is in
        let l = WhereTold-at (g.image e) (λ r. LeavesOnly g e t (BesideObjects g e (HoldsPrefix u.mid.kept.mark u.next.kept))) there.0 there.1 leaves in
        let p = l.since image objects (g.counts_now t (g.moment e) image objects l.later may.0 may.1) in
        (p.0, HoldsNow-same g d e objects went.beside.objects p.1))
