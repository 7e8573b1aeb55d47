-- Closing areas that have no entry above covers, and opening one behind covers.
use Rattle.std.specs.Prelude.{IfSome}
use Rattle.std.proofs.Common.{◌≡◌, ◌⊎◌, ⊎_elim, inr, ℕ, ◌<◌, ◌≤◌, false, List, [], ◌++◌, Option, Some, None, Ok, refl, sym, ap, ◌∙◌, subst, arith}
use Rattle.sky_base.specs.Limits.{max_number}
use Rattle.sky_outside.specs.Moments.{LeavesOnly, BesideObjects, NothingPending, SameCloud}
use Rattle.sky_outside.specs.Told.{WhereTold, BothTold}
use Rattle.sky_outside.specs.declared.storage.Storage.{Ghosts}
use Rattle.sky_outside.proofs.MomentLaws.{LeavesOnly-disk_start, LeavesOnly-disk_then, only_read}
use Rattle.sky_outside.proofs.ToldLaws.{WhereTold-at, WhereTold-from}
use Rattle.sky_journal.specs.Journal.{JournalView, IsJournal, StandsFor, ReadsAs, ReadsEntries, SameButSpare, after_rotation, base_in, entries, first_base, new_area, number_behind, numbered_in, without_newer, without_older, wiped}
use Rattle.sky_journal.specs.Text.{numbered}
use Rattle.sky_journal.specs.declared.open_area.OpenArea.{OpenArea}
use Rattle.sky_journal.proofs.Disks.{both_at, both_same, leaves_weaker}
use Rattle.sky_journal.proofs.Journals.{IsJournal-but, IsJournal-after_rotation, IsJournal-wiped, IsJournal-without_older}
use Rattle.sky_journal.proofs.Reading.{reads}
use Rattle.sky_journal.proofs.Wiped.{LeavesWiped}
use Rattle.sky_sound.specs.Entries.{AreOfChanges, journal_of, entries_above}
use Rattle.sky_sound.proofs.Above.{above_append}
use Rattle.sky_sound.specs.Settled.{settled}
use Rattle.sky_sound.proofs.Settled.{settled_begins, settled_from, settled_goes_on, unless_goes, unless_stays}
use Rattle.sky_recover.specs.Settling.{IsRead, KeepsAbove, LeavesAbove, StaysAbove}
use Rattle.sky_recover.proofs.Covered.{of_changes_first, of_changes_second, area_covered, older_low, base_low, first_low, newer_base, read_of_changes, based, list_is, keeps_of, read_from}

some_same : {A : Type 0} (a b : A) → Some a ≡ Some b → a ≡ b
some_same a b e = cc e

-- where the second is told, so is the first
both_back : {A : Type 0} (R : A → A → Type 0) (old new : Option A) (y : A) → new ≡ Some y → BothTold R old new → (x : A) × (old ≡ Some x) × R x y
both_back R None None y e both = cc e
both_back R None (Some n) y e both = absurd both
both_back R (Some o) None y e both = absurd both
both_back R (Some o) (Some n) y e both = (o, refl, subst (λ z. R o z) (some_same n y e) both)

-- what holds of both leads to more
both_more : {A : Type 0} (P Q : A → A → Type 0) (old new : Option A) → BothTold P old new → ((x y : A) → old ≡ Some x → P x y → Q x y) → BothTold Q old new
both_more P Q None None both leads = tt
both_more P Q None (Some y) both leads = absurd both
both_more P Q (Some x) None both leads = absurd both
both_more P Q (Some x) (Some y) both leads = leads x y refl both

-- and so of three, one after the other
both_chain : {A : Type 0} (P Q R : A → A → Type 0) (a b c : Option A) → BothTold P a b → BothTold Q b c → ((x y z : A) → a ≡ Some x → P x y → Q y z → R x z) → BothTold R a c
both_chain P Q R None None None p q leads = tt
both_chain P Q R None None (Some z) p q leads = absurd q
both_chain P Q R None (Some y) c p q leads = absurd p
both_chain P Q R (Some x) None c p q leads = absurd p
both_chain P Q R (Some x) (Some y) None p q leads = absurd q
both_chain P Q R (Some x) (Some y) (Some z) p q leads = leads x y z refl p q

-- ---- closing both areas

-- what a crash may leave while both are closed
abbrev pub WipeMoments : {S : Type 0} → Ghosts S → S → S → JournalView → Type 0
WipeMoments g s t j = WhereTold (g.image s) (λ image. (older newer : List (List ℕ)) → StandsFor j image older newer
    → LeavesOnly g s t (BesideObjects g s (LeavesWiped j older newer)))

-- for what the journal then stands
abbrev pub Wipes : {S : Type 0} → Ghosts S → S → S → JournalView → JournalView → Type 0
Wipes g s t j k = BothTold (λ old new. (older newer : List (List ℕ)) → StandsFor j old older newer → StandsFor k new [] []) (g.image s) (g.image t)

-- what a crash may leave while an area is opened, and for what the journal then stands
abbrev pub RotateMoments : {S : Type 0} → Ghosts S → S → S → JournalView → ℕ → Type 0
RotateMoments g s t j base = WhereTold (g.image s) (λ image. (older newer : List (List ℕ)) → StandsFor j image older newer
    → LeavesOnly g s t (BesideObjects g s (ReadsAs j.volume j.size (first_base (after_rotation j base)) (entries j older newer))))

abbrev pub Rotates : {S : Type 0} → Ghosts S → S → S → JournalView → JournalView → Type 0
Rotates g s t j k = BothTold (λ old new. (older newer : List (List ℕ)) → StandsFor j old older newer → StandsFor k new newer []) (g.image s) (g.image t)

module _ (j : JournalView) (covers : ℕ) (image : List ℕ) (is : IsJournal j) (low : number_behind j.newer 0 ≤ covers) (older newer : List (List ℕ)) (stands : StandsFor j image older newer) where
  older_none : entries_above covers (numbered_in j.older older) ≡ []
  older_none =
      area_covered j.volume j.size covers image j.older older stands.older_is (omega (arith, older_low j.size j.older j.newer is.in_order is.newer, low))

  -- no entry is above
  pub none_above : entries_above covers (entries j older newer) ≡ []
  none_above =
      above_append covers (numbered_in j.older older) (numbered_in j.newer newer)
      ∙ ap (λ (l : List (ℕ × List ℕ)). l ++ entries_above covers (numbered_in j.newer newer)) older_none
      ∙ area_covered j.volume j.size covers image j.newer newer stands.newer_is low

  -- so each of what a wipe leaves says the entries above
  pub wipe_keeps : AreOfChanges (entries j older newer) → (left : List ℕ) → LeavesWiped j older newer left
      → KeepsAbove j.volume j.size covers (entries j older newer) left
  wipe_keeps all left which =
      let first : first_base j ≤ covers = omega (arith, first_low j.size j.older j.newer is.in_order is.older is.newer, low) in
      let second : first_base (without_newer j) ≤ covers = omega (arith, base_low j.size j.older is.older, older_low j.size j.older j.newer is.in_order is.newer, low) in
      let alone : AreOfChanges (entries (without_newer j) [] older) = of_changes_first (numbered_in j.older older) (numbered_in j.newer newer) all in
      ⊎_elim (λ (r : ReadsEntries j older newer left). keeps_of j.volume j.size covers (first_base j) (entries j older newer) (entries j older newer) left r first all refl)
      (λ more.
      ⊎_elim
      (λ (r : ReadsEntries (without_newer j) [] older left).
      keeps_of j.volume j.size covers (first_base (without_newer j)) (entries (without_newer j) [] older) (entries j older newer) left r second alone (older_none ∙ sym none_above))
      (λ (r : ReadsEntries (wiped j) [] [] left). keeps_of j.volume j.size covers 0 [] (entries j older newer) left r (omega arith) tt (sym none_above)) more)
      which

module _ {S : Type 0} (g : Ghosts S) (j : JournalView) (covers : ℕ) (is : IsJournal j) (low : number_behind j.newer 0 ≤ covers) where
  -- one moment of a wipe
  wipe_at : (s t : S) (image : List ℕ) (list : List (ℕ × List ℕ)) → g.image s ≡ Some image → IsRead j covers image → journal_of j.volume j.size covers image ≡ Ok list → WipeMoments g s t j
      → LeavesOnly g s t (BesideObjects g s (KeepsAbove j.volume j.size covers list))
  wipe_at s t image list told read says moments =
      let all : AreOfChanges (entries j read.older read.newer) = read_of_changes j.volume j.size covers image (entries j read.older read.newer) read.says in
      let here = WhereTold-at (g.image s) (λ image. (older newer : List (List ℕ)) → StandsFor j image older newer
      → LeavesOnly g s t (BesideObjects g s (LeavesWiped j older newer))) image told moments read.older read.newer read.stands in
      leaves_weaker g s t (LeavesWiped j read.older read.newer) (KeepsAbove j.volume j.size covers list) here
      (λ left which.
      subst (λ (l : List (ℕ × List ℕ)). KeepsAbove j.volume j.size covers l left) (list_is j covers image list read says)
      (wipe_keeps j covers image is low read.older read.newer read.stands all left which))

  pub wipe_leaves : (s t : S) → WhereTold (g.image s) (IsRead j covers) → WipeMoments g s t j → LeavesAbove g s t j covers
  wipe_leaves s t read moments =
      WhereTold-from (g.image s) (λ image. (list : List (ℕ × List ℕ)) → journal_of j.volume j.size covers image ≡ Ok list
      → LeavesOnly g s t (BesideObjects g s (KeepsAbove j.volume j.size covers list)))
      (λ image told list says. wipe_at s t image list told (WhereTold-at (g.image s) (IsRead j covers) image told read) says moments)

  -- ---- and opening one

  module _ (k : JournalView) (wipes : SameButSpare (wiped j) k) (s t u : S) (read : WhereTold (g.image s) (IsRead j covers)) (first : Wipes g s t j k) where
    pub anew_leaves : SameCloud g s t → WipeMoments g s t j → RotateMoments g t u k covers → LeavesAbove g s u j covers
    anew_leaves beside wipe rotate =
        WhereTold-from (g.image s) (λ image. (list : List (ℕ × List ℕ)) → journal_of j.volume j.size covers image ≡ Ok list
        → LeavesOnly g s u (BesideObjects g s (KeepsAbove j.volume j.size covers list)))
        (λ image told list says.
        let r = WhereTold-at (g.image s) (IsRead j covers) image told read in
        let now = both_at (λ old new. (older newer : List (List ℕ)) → StandsFor j old older newer → StandsFor k new [] []) (g.image s) (g.image t) image told first in
        let next = WhereTold-at (g.image t) (λ image. (older newer : List (List ℕ)) → StandsFor k image older newer
        → LeavesOnly g t u (BesideObjects g t (ReadsAs k.volume k.size (first_base (after_rotation k covers)) (entries k older newer)))) now.0 now.1 rotate [] [] (now.2 r.older r.newer r.stands) in
        LeavesOnly-disk_then g s t u (KeepsAbove j.volume j.size covers list) (ReadsAs k.volume k.size (first_base (after_rotation k covers)) (entries k [] [])) (KeepsAbove j.volume j.size covers list)
        beside (wipe_at s t image list told r says wipe) next (λ left p. p) (λ left q. opened list left (before image list r says) q))
      where
        before : (image : List ℕ) (list : List (ℕ × List ℕ)) → IsRead j covers image → journal_of j.volume j.size covers image ≡ Ok list → entries_above covers list ≡ []
        before image list r says =
            ap (λ (l : List (ℕ × List ℕ)). entries_above covers l) (sym (list_is j covers image list r says)) ∙ none_above j covers image is low r.older r.newer r.stands

        opened : (list : List (ℕ × List ℕ)) (left : List ℕ) → entries_above covers list ≡ [] → ReadsAs k.volume k.size (first_base (after_rotation k covers)) (entries k [] []) left
            → KeepsAbove j.volume j.size covers list left
        opened list left none q =
            let same : ReadsAs j.volume j.size covers [] left = subst (λ (v : JournalView). ReadsAs v.volume v.size (first_base (after_rotation v covers)) (entries v [] []) left) wipes q in
            keeps_of j.volume j.size covers covers [] list left same (omega arith) tt (sym none)

  module _ (k m : JournalView) (wipes : SameButSpare (wiped j) k) (rotates : SameButSpare (after_rotation k covers) m) (number : covers < max_number) where
    k_is : IsJournal k
    k_is = subst IsJournal (sym wipes) (IsJournal-but (wiped j) k.spare j.down (IsJournal-wiped j is))

    -- the journal then
    pub m_is : m ≡ record (wiped j) { newer = Some (new_area 0 covers); spare = m.spare }
    m_is = rotates ∙ ap (λ (v : JournalView). record (after_rotation v covers) { spare = m.spare }) wipes

    m_journal : IsJournal m
    m_journal =
        subst IsJournal (sym m_is)
        (IsJournal-but (after_rotation (wiped j) covers) m.spare j.down (IsJournal-after_rotation (wiped j) covers (IsJournal-wiped j is) number tt refl))

    pub settled_anew : j.down ≡ false → SameButSpare (settled covers j) m
    settled_anew up =
        let same = settled_begins covers j low in
        settled_from covers j m (ap (λ (v : JournalView). v.volume) m_is) (ap (λ (v : JournalView). v.size) m_is) (ap (λ (v : JournalView). v.disk) m_is)
        (ap (λ (v : JournalView). v.older) m_is ∙ sym same.0) (ap (λ (v : JournalView). v.newer) m_is ∙ sym same.1) (ap (λ (v : JournalView). v.pending) m_is) (ap (λ (v : JournalView). v.down) m_is ∙ up)

    -- it has no entry
    none_new : (first second : List (List ℕ)) → first ≡ [] → second ≡ [] → entries m first second ≡ []
    unfolding numbered
    none_new first second e d =
        ap (λ (v : JournalView). entries v first second) m_is ∙ ap (λ (l : List (List ℕ)). numbered covers l) d

    pub read_anew : (image : List ℕ) → StandsFor m image [] [] → IsRead m covers image
    read_anew image stands =
        read_from m covers image [] [] m_journal stands (subst AreOfChanges (sym (none_new [] [] refl refl)) tt)
        (subst (λ (v : JournalView). first_base v ≤ covers) (sym m_is) (omega arith))

    module _ (s t u : S) (read : WhereTold (g.image s) (IsRead j covers)) (first : Wipes g s t j k) (second : Rotates g t u k m) where
      -- the image then
      pub read_then : WhereTold (g.image u) (IsRead m covers)
      read_then =
          WhereTold-from (g.image u) (IsRead m covers)
          (λ image told.
          let b = both_back (λ old new. (older newer : List (List ℕ)) → StandsFor k old older newer → StandsFor m new newer []) (g.image t) (g.image u) image told second in
          let a = both_back (λ old new. (older newer : List (List ℕ)) → StandsFor j old older newer → StandsFor k new [] []) (g.image s) (g.image t) b.0 b.1 first in
          let r = WhereTold-at (g.image s) (IsRead j covers) a.0 a.1 read in
          read_anew image (b.2 [] [] (a.2 r.older r.newer r.stands)))

      keeps_anew : (old new : List ℕ) (list : List (ℕ × List ℕ)) → IsRead j covers old → StandsFor m new [] [] → journal_of j.volume j.size covers old ≡ Ok list
          → KeepsAbove j.volume j.size covers list new
      keeps_anew old new list r stands says =
          let gone : entries m [] [] ≡ [] = none_new [] [] refl refl in
          let before : entries_above covers list ≡ [] =
          ap (λ (l : List (ℕ × List ℕ)). entries_above covers l) (sym (list_is j covers old list r says)) ∙ none_above j covers old is low r.older r.newer r.stands in
          let kept : KeepsAbove m.volume m.size covers list new =
          keeps_of m.volume m.size covers (first_base m) (entries m [] []) list new (reads m new [] [] m_journal stands)
          (subst (λ (v : JournalView). first_base v ≤ covers) (sym m_is) (omega arith)) (subst AreOfChanges (sym gone) tt)
          (ap (λ (l : List (ℕ × List ℕ)). entries_above covers l) gone ∙ sym before) in
          subst (λ (v : JournalView). KeepsAbove v.volume v.size covers list new) m_is kept

      pub stays_anew : StaysAbove g s u j covers
      stays_anew =
          both_chain (λ old new. (older newer : List (List ℕ)) → StandsFor j old older newer → StandsFor k new [] [])
          (λ old new. (older newer : List (List ℕ)) → StandsFor k old older newer → StandsFor m new newer [])
          (λ old new. (list : List (ℕ × List ℕ)) → journal_of j.volume j.size covers old ≡ Ok list → KeepsAbove j.volume j.size covers list new) (g.image s) (g.image t) (g.image u) first second
          (λ x y z told one two list says.
          let r = WhereTold-at (g.image s) (IsRead j covers) x told read in
          keeps_anew x z list r (two [] [] (one r.older r.newer r.stands)) says)

-- ---- closing the older

-- the older area's last number is up to covers
pub low_from : (o : Option OpenArea) (covers : ℕ) → IfSome o (λ a. a.last ≤ covers) → number_behind o 0 ≤ covers
low_from None covers le = omega arith
low_from (Some a) covers le = omega (arith, le)

-- what a crash may leave while it is closed, and for what the journal then stands
abbrev pub ReleaseMoments : {S : Type 0} → Ghosts S → S → S → JournalView → Type 0
ReleaseMoments g s t j = WhereTold (g.image s) (λ image. (older newer : List (List ℕ)) → StandsFor j image older newer
    → LeavesOnly g s t (BesideObjects g s (λ left. ReadsEntries j older newer left ⊎ ReadsEntries (without_older j) [] newer left)))

abbrev pub Releases : {S : Type 0} → Ghosts S → S → S → JournalView → JournalView → Type 0
Releases g s t j k = BothTold (λ old new. (older newer : List (List ℕ)) → StandsFor j old older newer → StandsFor k new [] newer) (g.image s) (g.image t)

module _ (j : JournalView) (covers : ℕ) (is : IsJournal j) (low : number_behind j.older 0 ≤ covers) where
  -- the newer's base is up to covers
  newer_low : first_base j ≤ covers → first_base (without_older j) ≤ covers
  newer_low le = by j.older refl
    where
      by : (o : Option OpenArea) → j.older ≡ o → first_base (without_older j) ≤ covers
      by None e = subst (λ (n : ℕ). n ≤ covers) (ap (λ (o : Option OpenArea). base_in o j.newer) e) le
      by (Some a) e = omega (arith, newer_base j.size j.older j.newer a e is.in_order, subst (λ (o : Option OpenArea). number_behind o 0 ≤ covers) e low)

  module _ (image : List ℕ) (r : IsRead j covers image) where
    rest_same : entries_above covers (numbered_in j.newer r.newer) ≡ entries_above covers (entries j r.older r.newer)
    rest_same =
        ap (λ (l : List (ℕ × List ℕ)). l ++ entries_above covers (numbered_in j.newer r.newer)) (sym (area_covered j.volume j.size covers image j.older r.older r.stands.older_is low))
        ∙ sym (above_append covers (numbered_in j.older r.older) (numbered_in j.newer r.newer))

    all : AreOfChanges (entries j r.older r.newer)
    all = read_of_changes j.volume j.size covers image (entries j r.older r.newer) r.says

    rest_all : AreOfChanges (entries (without_older j) [] r.newer)
    rest_all = of_changes_second (numbered_in j.older r.older) (numbered_in j.newer r.newer) all

    release_keeps : (list : List (ℕ × List ℕ)) (left : List ℕ) → journal_of j.volume j.size covers image ≡ Ok list → ReadsEntries j r.older r.newer left ⊎ ReadsEntries (without_older j) [] r.newer left
        → KeepsAbove j.volume j.size covers list left
    release_keeps list left says which =
        let same : entries j r.older r.newer ≡ list = list_is j covers image list r says in
        subst (λ (l : List (ℕ × List ℕ)). KeepsAbove j.volume j.size covers l left) same
        (⊎_elim
        (λ (q : ReadsEntries j r.older r.newer left). keeps_of j.volume j.size covers (first_base j) (entries j r.older r.newer) (entries j r.older r.newer) left q (based j covers image is r) all refl)
        (λ (q : ReadsEntries (without_older j) [] r.newer left).
        keeps_of j.volume j.size covers (first_base (without_older j)) (entries (without_older j) [] r.newer) (entries j r.older r.newer) left q (newer_low (based j covers image is r)) rest_all rest_same)
        which)

  module _ {S : Type 0} (g : Ghosts S) (s t : S) (read : WhereTold (g.image s) (IsRead j covers)) where
    pub released_leaves : ReleaseMoments g s t j → LeavesAbove g s t j covers
    released_leaves moments =
        WhereTold-from (g.image s) (λ image. (list : List (ℕ × List ℕ)) → journal_of j.volume j.size covers image ≡ Ok list
        → LeavesOnly g s t (BesideObjects g s (KeepsAbove j.volume j.size covers list)))
        (λ image told list says.
        let r = WhereTold-at (g.image s) (IsRead j covers) image told read in
        let here = WhereTold-at (g.image s) (λ image. (older newer : List (List ℕ)) → StandsFor j image older newer
        → LeavesOnly g s t (BesideObjects g s (λ left. ReadsEntries j older newer left ⊎ ReadsEntries (without_older j) [] newer left))) image told moments r.older r.newer r.stands in
        leaves_weaker g s t (λ left. ReadsEntries j r.older r.newer left ⊎ ReadsEntries (without_older j) [] r.newer left) (KeepsAbove j.volume j.size covers list) here
        (λ left which. release_keeps image r list left says which))

  module _ (k : JournalView) (releases : SameButSpare (without_older j) k) where
    k_journal : IsJournal k
    k_journal = subst IsJournal (sym releases) (IsJournal-but (without_older j) k.spare j.down (IsJournal-without_older j is))

    pub settled_released : covers < number_behind j.newer 0 → j.pending ≡ [] → j.down ≡ false → SameButSpare (settled covers j) k
    settled_released above none up =
        let same = settled_goes_on covers j above in
        settled_from covers j k (ap (λ (v : JournalView). v.volume) releases) (ap (λ (v : JournalView). v.size) releases) (ap (λ (v : JournalView). v.disk) releases)
        (ap (λ (v : JournalView). v.older) releases ∙ sym (unless_goes covers j.older low) ∙ sym same.0) (ap (λ (v : JournalView). v.newer) releases ∙ sym same.1)
        (ap (λ (v : JournalView). v.pending) releases ∙ none) (ap (λ (v : JournalView). v.down) releases ∙ up)

    module _ {S : Type 0} (g : Ghosts S) (s t : S) (read : WhereTold (g.image s) (IsRead j covers)) where
      read_released : (old new : List ℕ) (r : IsRead j covers old) → StandsFor k new [] r.newer → IsRead k covers new
      read_released old new r stands =
          read_from k covers new [] r.newer k_journal stands (subst (λ (v : JournalView). AreOfChanges (entries v [] r.newer)) (sym releases) (rest_all old r))
          (subst (λ (v : JournalView). first_base v ≤ covers) (sym releases) (newer_low (based j covers old is r)))

      pub released_then : Releases g s t j k → WhereTold (g.image t) (IsRead k covers)
      released_then holds =
          WhereTold-from (g.image t) (IsRead k covers)
          (λ image told.
          let a = both_back (λ old new. (older newer : List (List ℕ)) → StandsFor j old older newer → StandsFor k new [] newer) (g.image s) (g.image t) image told holds in
          let r = WhereTold-at (g.image s) (IsRead j covers) a.0 a.1 read in
          read_released a.0 image r (a.2 r.older r.newer r.stands))

      pub stays_released : Releases g s t j k → StaysAbove g s t j covers
      stays_released holds =
          both_more (λ old new. (older newer : List (List ℕ)) → StandsFor j old older newer → StandsFor k new [] newer)
          (λ old new. (list : List (ℕ × List ℕ)) → journal_of j.volume j.size covers old ≡ Ok list → KeepsAbove j.volume j.size covers list new) (g.image s) (g.image t) holds
          (λ x y told stands list says.
          let r = WhereTold-at (g.image s) (IsRead j covers) x told read in
          let q : ReadsEntries k [] r.newer y = reads k y [] r.newer k_journal (stands r.older r.newer r.stands) in
          release_keeps x r list y says (inr (subst (λ (v : JournalView). ReadsEntries v [] r.newer y) releases q)))

-- ---- leaving all as it is

pub settled_still : (j : JournalView) (covers : ℕ) → covers < number_behind j.newer 0 → j.pending ≡ [] → j.down ≡ false → IfSome j.older (λ a. covers < a.last) → SameButSpare (settled covers j) j
settled_still j covers above none up uncovered =
    let same = settled_goes_on covers j above in
    settled_from covers j j refl refl refl (sym (unless_stays covers j.older uncovered) ∙ sym same.0) (sym same.1) none up

module _ {S : Type 0} (g : Ghosts S) (j : JournalView) (covers : ℕ) (s : S) where
  pub stays_still : StaysAbove g s s j covers
  stays_still =
      both_same (λ old new. (list : List (ℕ × List ℕ)) → journal_of j.volume j.size covers old ≡ Ok list → KeepsAbove j.volume j.size covers list new) (g.image s)
      (λ image list says. record { read = list; says = says; above = refl })

  pub still_leaves : NothingPending g s → LeavesAbove g s s j covers
  still_leaves nothing =
      WhereTold-from (g.image s) (λ image. (list : List (ℕ × List ℕ)) → journal_of j.volume j.size covers image ≡ Ok list
      → LeavesOnly g s s (BesideObjects g s (KeepsAbove j.volume j.size covers list)))
      (λ image told list says.
      LeavesOnly-disk_start g s (KeepsAbove j.volume j.size covers list)
      (λ left may.
      subst (λ (l : List ℕ). KeepsAbove j.volume j.size covers list l) (sym (only_read g s image told nothing left may)) (record { read = list; says = says; above = refl })))
