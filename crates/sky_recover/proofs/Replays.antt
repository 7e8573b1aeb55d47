-- Doing the changes of a journal again, one after the other.
use Rattle.std.specs.Prelude.{◌&&◌, IsTrue, nat_lt}
use Rattle.std.specs.List.{AllByRecursion, slice_get}
use Rattle.std.proofs.Common.{◌≡◌, ℕ, ◌+◌, ◌<◌, ◌≤◌, Bool, true, false, List, [], ◌∷◌, ◌++◌, length, map, Option, Some, None, Ok, refl, sym, ap, ◌∙◌, subst, arith, append_assoc, length-append}
use Rattle.std.proofs.lemmas.Bool.{lt-ltb}
use Rattle.std.proofs.lemmas.List.{append-nil, length_push, map-append}
use Rattle.sky_nfs.specs.History.{are_done, is_done, tree_after_change, tree_after_changes}
use Rattle.sky_nfs.specs.Tree.{Tree}
use Rattle.sky_nfs.specs.declared.call.Change.{Change}
use Rattle.sky_entry.specs.Entry.{entry_bytes}
use Rattle.sky_outside.specs.Moments.{OnlyLooks}
use Rattle.sky_outside.specs.Told.{WhereTold}
use Rattle.sky_outside.specs.declared.storage.Storage.{Ghosts}
use Rattle.sky_outside.proofs.MomentLaws.{OnlyLooks-none, OnlyLooks-then}
use Rattle.sky_outside.proofs.ToldLaws.{WhereTold-at, WhereTold-from}
use Rattle.sky_journal.specs.EntryPlaces.{LieAt, places_of}
use Rattle.sky_journal.specs.Journal.{JournalView, AreInOrder, IsJournal, StandsFor, base_in, entries, number_behind, numbered_in}
use Rattle.sky_journal.specs.Laid.{IsLaid}
use Rattle.sky_journal.specs.Place.{Left}
use Rattle.sky_journal.specs.Text.{numbered}
use Rattle.sky_journal.specs.declared.open_area.OpenArea.{OpenArea}
use Rattle.sky_journal.specs.declared.place.Place.{Place}
use Rattle.sky_journal.proofs.AreaWords.{numbered-length}
use Rattle.sky_journal.proofs.EntryPlaces.{places_lie}
use Rattle.sky_sound.specs.Entries.{AreOfChanges, IsStorable, change_of, changes_in, entries_above, is_of_change, journal_of, with_change}
use Rattle.sky_sound.proofs.Above.{above_yes}
use Rattle.sky_sound.proofs.Texts.{text_of}
use Rattle.sky_recover.specs.Replaying.{DoesNext, FailsAt, FailsNext, IsRedone, IsReplayed, IsRefused, LiesAt, places_above}
use Rattle.sky_recover.specs.Settling.{IsRead}
use Rattle.sky_recover.proofs.Covered.{based, list_is, of_changes_second, read_of_changes}

-- ---- one change more

changes_then : (t : Tree) (changes : List Change) (c : Change) → tree_after_changes t (changes ++ c ∷ []) ≡ tree_after_change (tree_after_changes t changes) c
changes_then t [] c = refl
changes_then t (x ∷ changes) c = changes_then (tree_after_change t x) changes c

istrue_is : (b : Bool) → IsTrue b → b ≡ true
istrue_is true is = refl
istrue_is false is = absurd cc

both_true : (a b : Bool) → a ≡ true → b ≡ true → IsTrue (a && b)
both_true true true first second = refl
both_true true false first second = absurd cc
both_true false b first second = absurd cc

first_true : (a b : Bool) → IsTrue (a && b) → a ≡ true
first_true true b both = refl
first_true false b both = absurd cc

second_true : (a b : Bool) → IsTrue (a && b) → IsTrue b
second_true true b both = both
second_true false b both = absurd cc

done_then : (t : Tree) (changes : List Change) (c : Change) → IsTrue (are_done t changes) → is_done (tree_after_changes t changes) c ≡ true → IsTrue (are_done t (changes ++ c ∷ []))
done_then t [] c all one = both_true (is_done t c) true one refl
done_then t (x ∷ changes) c all one =
    let after : Tree = tree_after_change t x in
    both_true (is_done t x) (are_done after (changes ++ c ∷ [])) (first_true (is_done t x) (are_done after changes) all)
    (istrue_is (are_done after (changes ++ c ∷ [])) (done_then after changes c (second_true (is_done t x) (are_done after changes) all) one))

storable_then : (changes : List Change) (c : Change) → AllByRecursion IsStorable changes → IsStorable c → AllByRecursion IsStorable (changes ++ c ∷ [])
storable_then [] c all one = (one, tt)
storable_then (x ∷ changes) c all one = (all.0, storable_then changes c all.1 one)

-- ---- the entries

with_more : (o : Option Change) (xs ys : List Change) → with_change o (xs ++ ys) ≡ with_change o xs ++ ys
with_more None xs ys = refl
with_more (Some c) xs ys = refl

changes_append : (xs ys : List (ℕ × List ℕ)) → changes_in (xs ++ ys) ≡ changes_in xs ++ changes_in ys
changes_append [] ys = refl
changes_append (x ∷ xs) ys = ap (λ (l : List Change). with_change (change_of x.1) l) (changes_append xs ys) ∙ with_more (change_of x.1) (changes_in xs) (changes_in ys)

changes_one : (xs : List (ℕ × List ℕ)) (e : ℕ × List ℕ) (c : Change) → change_of e.1 ≡ Some c → changes_in (xs ++ e ∷ []) ≡ changes_in xs ++ c ∷ []
changes_one xs e c is = changes_append xs (e ∷ []) ∙ ap (λ (o : Option Change). changes_in xs ++ with_change o []) is

-- all of them are above 0
above_all : (base : ℕ) (es : List (List ℕ)) → entries_above 0 (numbered base es) ≡ numbered base es
unfolding numbered
above_all base [] = refl
above_all base (e ∷ es) = above_yes 0 (base + 1, e) (numbered (base + 1) es) (omega arith) ∙ ap (λ (l : List (ℕ × List ℕ)). (base + 1, e) ∷ l) (above_all (base + 1) es)

all_above : (volume size : ℕ) (image : List ℕ) (list : List (ℕ × List ℕ)) → journal_of volume size 0 image ≡ Ok list → entries_above 0 list ≡ list
all_above volume size image list says =
    let text = text_of is_of_change volume size 0 image list says in
    ap (λ (l : List (ℕ × List ℕ)). entries_above 0 l) text.listed ∙ above_all text.base text.entries ∙ sym text.listed

-- the bytes of numbered entries, and the other way round
bytes_numbered : (base : ℕ) (es : List (List ℕ)) → map (λ (e : ℕ × List ℕ). e.1) (numbered base es) ≡ es
unfolding numbered
bytes_numbered base [] = refl
bytes_numbered base (e ∷ es) = ap (λ (l : List (List ℕ)). e ∷ l) (bytes_numbered (base + 1) es)

numbers_same : (base : ℕ) (es fs : List (List ℕ)) (list : List (ℕ × List ℕ)) → list ≡ numbered base es → map (λ (e : ℕ × List ℕ). e.1) list ≡ fs → list ≡ numbered base fs
numbers_same base es fs list is bytes =
    is ∙ ap (λ (l : List (List ℕ)). numbered base l) (sym (bytes_numbered base es) ∙ ap (λ (l : List (ℕ × List ℕ)). map (λ (e : ℕ × List ℕ). e.1) l) (sym is) ∙ bytes)

all_numbered : (volume size : ℕ) (image : List ℕ) (list : List (ℕ × List ℕ)) (fs : List (List ℕ)) → journal_of volume size 0 image ≡ Ok list → map (λ (e : ℕ × List ℕ). e.1) list ≡ fs
    → entries_above 0 list ≡ numbered 0 fs
all_numbered volume size image list fs says bytes =
    let text = text_of is_of_change volume size 0 image list says in
    let low : text.base ≡ 0 = omega (arith, text.based) in
    all_above volume size image list says ∙ numbers_same 0 text.entries fs list (text.listed ∙ ap (λ (n : ℕ). numbered n text.entries) low) bytes

-- ---- their places

-- all of them are places of entries above 0
above_places : (image : List ℕ) (base : ℕ) (es : List (List ℕ)) (places : List ℕ) → LieAt image es places → places_above 0 (numbered base es) places ≡ places
unfolding LieAt numbered
above_places image base [] [] lie = refl
above_places image base [] (p ∷ ps) lie = absurd lie
above_places image base (e ∷ es) [] lie = absurd lie
above_places image base (e ∷ es) (p ∷ ps) lie =
    let above : nat_lt 0 (base + 1) ≡ true = lt-ltb _ _ (omega arith) in
    rw above (ap (λ (l : List ℕ). p ∷ l) (above_places image (base + 1) es ps lie.1))

-- the place of an entry behind others, of which there are as many places, is the one behind theirs
place_behind : (xs : List ℕ) (x : ℕ) (ys : List ℕ) → slice_get (xs ++ x ∷ ys) (length xs) ≡ Some x
place_behind [] x ys = refl
place_behind (y ∷ xs) x ys = place_behind xs x ys

-- and the entry lies there
lies_behind : (image : List ℕ) (es fs : List (ℕ × List ℕ)) (e : ℕ × List ℕ) (ps qs : List ℕ) (p : ℕ) → length ps ≡ length es
    → LieAt image (map (λ (e : ℕ × List ℕ). e.1) (es ++ e ∷ fs)) (ps ++ p ∷ qs) → LiesAt image e.1 p
unfolding LieAt
lies_behind image [] fs e [] qs p count lie = lie.0
lies_behind image [] fs e (q ∷ ps) qs p count lie = absurd (omega (arith, count))
lies_behind image (x ∷ es) fs e [] qs p count lie = absurd (omega (arith, count))
lies_behind image (x ∷ es) fs e (q ∷ ps) qs p count lie = lies_behind image es fs e ps qs p (omega (arith, count)) lie.1

module _ (volume size : ℕ) (image : List ℕ) (list : List (ℕ × List ℕ)) (says : journal_of volume size 0 image ≡ Ok list) where
  lie_all : LieAt image (map (λ (e : ℕ × List ℕ). e.1) list) (places_of size image)
  lie_all = places_lie is_of_change volume size 0 image list says

  all_places : places_above 0 list (places_of size image) ≡ places_of size image
  all_places =
      let text = text_of is_of_change volume size 0 image list says in
      let bytes : map (λ (e : ℕ × List ℕ). e.1) list ≡ text.entries = ap (λ (l : List (ℕ × List ℕ)). map (λ (e : ℕ × List ℕ). e.1) l) text.listed ∙ bytes_numbered text.base text.entries in
      ap (λ (l : List (ℕ × List ℕ)). places_above 0 l (places_of size image)) text.listed
      ∙ above_places image text.base text.entries (places_of size image) (subst (λ (l : List (List ℕ)). LieAt image l (places_of size image)) bytes lie_all)

  -- where the entries and the places are parted at an entry
  module _ (before : List (ℕ × List ℕ)) (e : ℕ × List ℕ) (behind : List (ℕ × List ℕ)) (first : List ℕ) (at : ℕ) (later : List ℕ) (parts : list ≡ before ++ e ∷ behind)
      (placed : places_of size image ≡ first ++ at ∷ later) (count : length first ≡ length before) where
    pub place_there : slice_get (places_above 0 list (places_of size image)) (length before) ≡ Some at
    place_there =
        ap (λ (l : List ℕ). slice_get l (length before)) (all_places ∙ placed) ∙ ap (λ (n : ℕ). slice_get (first ++ at ∷ later) n) (sym count) ∙ place_behind first at later

    pub lies_there : LiesAt image e.1 at
    lies_there =
        let split : LieAt image (map (λ (e : ℕ × List ℕ). e.1) (before ++ e ∷ behind)) (first ++ at ∷ later) =
        subst (λ (l : List ℕ). LieAt image (map (λ (e : ℕ × List ℕ). e.1) (before ++ e ∷ behind)) l) placed
        (subst (λ (l : List (ℕ × List ℕ)). LieAt image (map (λ (e : ℕ × List ℕ). e.1) l) (places_of size image)) parts lie_all) in
        lies_behind image before behind e first later at count split

-- ---- the count

-- there are as many as the last number says
counted_in : (volume size : ℕ) (image : List ℕ) (o n : Option OpenArea) (older newer : List (List ℕ)) → AreInOrder size o n → IsLaid volume size image o older → IsLaid volume size image n newer
    → base_in o n ≤ 0 → length (numbered_in o older ++ numbered_in n newer) ≡ number_behind n 0
counted_in volume size image None None older newer order first second low = refl
counted_in volume size image None (Some a) older newer order first second low = omega (arith, numbered-length a.base newer, second.numbers, low)
counted_in volume size image (Some b) None older newer order first second low = absurd order
counted_in volume size image (Some b) (Some a) older newer order first second low =
    omega (arith, length-append (numbered b.base older) (numbered a.base newer), numbered-length b.base older, numbered-length a.base newer, first.numbers, second.numbers, order.number, low)

counted : (j : JournalView) (image : List ℕ) (list : List (ℕ × List ℕ)) → IsJournal j → IsRead j 0 image → journal_of j.volume j.size 0 image ≡ Ok list → length list ≡ number_behind j.newer 0
counted j image list is r says =
    ap (λ (l : List (ℕ × List ℕ)). length l) (sym (list_is j 0 image list r says))
    ∙ counted_in j.volume j.size image j.older j.newer r.older r.newer is.in_order r.stands.older_is r.stands.newer_is (based j 0 image is r)

-- ---- the loop

-- entries are parted at a place: the changes of those before it were done, and the others are left
pub record IsParted (j : JournalView) (image : List ℕ) (place : Place) (changes : List Change) (list : List (ℕ × List ℕ)) : Type 0 where
  pub before : List (ℕ × List ℕ)
  pub behind : List (ℕ × List ℕ)
  pub parts : list ≡ before ++ behind
  pub first_places : List ℕ
  pub places : List ℕ
  pub placed : places_of j.size image ≡ first_places ++ places
  pub as_many : length first_places ≡ length before
  pub left : Left j image place behind places
  pub changes_are : changes ≡ changes_in before
  pub encoded : map (λ (e : ℕ × List ℕ). e.1) before ≡ map entry_bytes changes
  pub count : length before ≡ length changes

abbrev pub AreParted : JournalView → Place → List Change → List ℕ → Type 0
AreParted j place changes image = (list : List (ℕ × List ℕ)) → journal_of j.volume j.size 0 image ≡ Ok list → IsParted j image place changes list

-- so many changes were done
pub record IsUnderWay {S : Type 0} (g : Ghosts S) (j : JournalView) (s t : S) (start tree : Tree) (place : Place) (n : ℕ) : Type 0 where
  pub looks : OnlyLooks g s t
  pub quiet : g.disk_faults t ≡ g.disk_faults s
  pub cloud : g.cloud_faults t ≡ g.cloud_faults s
  pub changes : List Change
  pub tree_is : tree ≡ tree_after_changes start changes
  pub done : IsTrue (are_done start changes)
  pub storable : AllByRecursion IsStorable changes
  pub count : length changes ≡ n
  pub told : WhereTold (g.image s) (AreParted j place changes)

-- no entry further
nothing : (list : List (ℕ × List ℕ)) → length list ≡ 0 → list ≡ []
nothing [] none = refl
nothing (e ∷ list) none = absurd (omega arith)

-- an entry further
further : (list : List (ℕ × List ℕ)) → 0 < length list → (e : ℕ × List ℕ) × (rest : List (ℕ × List ℕ)) × (list ≡ e ∷ rest)
further [] some = absurd (omega arith)
further (e ∷ rest) some = (e, rest, refl)

module _ {S : Type 0} (g : Ghosts S) (j : JournalView) (s : S) (start : Tree) where
  -- at first
  pub under_way : (place : Place) → WhereTold (g.image s) (IsRead j 0)
      → ((image : List ℕ) (older newer : List (List ℕ)) → StandsFor j image older newer → Left j image place (entries j older newer) (places_of j.size image)) → IsUnderWay g j s s start start place 0
  under_way place read first = record {
    looks = OnlyLooks-none g s;
    quiet = refl;
    cloud = refl;
    changes = [];
    tree_is = refl;
    done = refl;
    storable = tt;
    count = refl;
    told = WhereTold-from (g.image s) (AreParted j place [])
        (λ image told list says.
        let r = WhereTold-at (g.image s) (IsRead j 0) image told read in record {
          before = [];
          behind = list;
          parts = refl;
          first_places = [];
          places = places_of j.size image;
          placed = refl;
          as_many = refl;
          left = subst (λ (l : List (ℕ × List ℕ)). Left j image place l (places_of j.size image)) (list_is j 0 image list r says) (first image r.older r.newer r.stands);
          changes_are = refl;
          encoded = refl;
          count = refl;
        });
  }

  module _ (is : IsJournal j) (read : WhereTold (g.image s) (IsRead j 0)) (t : S) (tree : Tree) (place : Place) (n : ℕ) (way : IsUnderWay g j s t start tree place n) where
    -- an entry is left, of a change
    next_of : (image : List ℕ) (list : List (ℕ × List ℕ)) → g.image s ≡ Some image → journal_of j.volume j.size 0 image ≡ Ok list → n < number_behind j.newer 0
        → (p : IsParted j image place way.changes list) → (e : ℕ × List ℕ) × (rest : List (ℕ × List ℕ)) × (p.behind ≡ e ∷ rest) × IsTrue (is_of_change e.1)
    next_of image list told says more p =
        let r = WhereTold-at (g.image s) (IsRead j 0) image told read in
        let all : length list ≡ length p.before + length p.behind = ap (λ (l : List (ℕ × List ℕ)). length l) p.parts ∙ length-append p.before p.behind in
        let found = further p.behind (omega (arith, all, counted j image list is r says, p.count, way.count, more)) in
        let of : AreOfChanges p.behind =
        of_changes_second p.before p.behind (subst (λ (l : List (ℕ × List ℕ)). AreOfChanges l) p.parts (read_of_changes j.volume j.size 0 image list says)) in
        (found.0, found.1, found.2, (subst (λ (l : List (ℕ × List ℕ)). AreOfChanges l) found.2 of).0)

    -- one more
    parted_then : (next : Place) (c : Change) (image : List ℕ) (list : List (ℕ × List ℕ)) → g.image s ≡ Some image → journal_of j.volume j.size 0 image ≡ Ok list → n < number_behind j.newer 0
        → DoesNext j place next c image → IsParted j image next (way.changes ++ c ∷ []) list
    parted_then next c image list told says more does =
        let p = WhereTold-at (g.image s) (AreParted j place way.changes) image told way.told list says in
        let x = next_of image list told says more p in
        let d = does x.0 x.1 p.places (subst (λ (l : List (ℕ × List ℕ)). Left j image place l p.places) x.2 p.left) x.3 in record {
          before = p.before ++ x.0 ∷ [];
          behind = x.1;
          parts = p.parts ∙ ap (λ (l : List (ℕ × List ℕ)). p.before ++ l) x.2 ∙ sym (append_assoc p.before (x.0 ∷ []) x.1);
          first_places = p.first_places ++ d.1 ∷ [];
          places = d.2;
          placed = p.placed ∙ ap (λ (l : List ℕ). p.first_places ++ l) d.3 ∙ sym (append_assoc p.first_places (d.1 ∷ []) d.2);
          as_many = length_push p.first_places d.1 ∙ ap (λ (k : ℕ). k + 1) p.as_many ∙ sym (length_push p.before x.0);
          left = d.4;
          changes_are = ap (λ (l : List Change). l ++ c ∷ []) p.changes_are ∙ sym (changes_one p.before x.0 c d.0.change_is);
          encoded = map-append (λ (e : ℕ × List ℕ). e.1) p.before (x.0 ∷ []) ∙ ap (λ (l : List (List ℕ)). l ++ x.0.1 ∷ []) p.encoded
              ∙ ap (λ (b : List ℕ). map entry_bytes way.changes ++ b ∷ []) d.0.encoded ∙ sym (map-append entry_bytes way.changes (c ∷ []));
          count = length_push p.before x.0 ∙ ap (λ (k : ℕ). k + 1) p.count ∙ sym (length_push way.changes c);
        }

    pub one_further : (u : S) (after : Tree) (next : Place) → OnlyLooks g t u → g.disk_faults u ≡ g.disk_faults t → g.cloud_faults u ≡ g.cloud_faults t → n < number_behind j.newer 0
        → (c : Change) → IsRedone tree c after → IsStorable c → WhereTold (g.image t) (DoesNext j place next c) → IsUnderWay g j s u start after next (n + 1)
    one_further u after next looks quiet cloud more c redone storable does = record {
      looks = OnlyLooks-then g s t u way.looks looks;
      quiet = quiet ∙ way.quiet;
      cloud = cloud ∙ way.cloud;
      changes = way.changes ++ c ∷ [];
      tree_is = redone.tree_is ∙ ap (λ (x : Tree). tree_after_change x c) way.tree_is ∙ sym (changes_then start way.changes c);
      done = done_then start way.changes c way.done (ap (λ (x : Tree). is_done x c) (sym way.tree_is) ∙ redone.done);
      storable = storable_then way.changes c way.storable storable;
      count = length_push way.changes c ∙ ap (λ (k : ℕ). k + 1) way.count;
      told = WhereTold-from (g.image s) (AreParted j next (way.changes ++ c ∷ []))
          (λ image told list says.
          parted_then next c image list told says more (WhereTold-at (g.image t) (DoesNext j place next c) image (way.looks.image ∙ told) does));
    }

    -- the next one fails
    pub fails_there : (at : ℕ) → n < number_behind j.newer 0 → WhereTold (g.image t) (FailsNext j place tree at)
        → WhereTold (g.image s) (λ image. (list : List (ℕ × List ℕ)) → journal_of j.volume j.size 0 image ≡ Ok list → FailsAt start j.size 0 list image at)
    fails_there at more fails =
        WhereTold-from (g.image s) (λ image. (list : List (ℕ × List ℕ)) → journal_of j.volume j.size 0 image ≡ Ok list → FailsAt start j.size 0 list image at)
        (λ image told list says.
        let p = WhereTold-at (g.image s) (AreParted j place way.changes) image told way.told list says in
        let x = next_of image list told says more p in
        let left : Left j image place (x.0 ∷ x.1) p.places = subst (λ (l : List (ℕ × List ℕ)). Left j image place l p.places) x.2 p.left in
        let f = WhereTold-at (g.image t) (FailsNext j place tree at) image (way.looks.image ∙ told) fails x.0 x.1 p.places left x.3 in
        let parts : list ≡ p.before ++ x.0 ∷ x.1 = p.parts ∙ ap (λ (l : List (ℕ × List ℕ)). p.before ++ l) x.2 in
        let placed : places_of j.size image ≡ p.first_places ++ at ∷ f.1.0 = p.placed ∙ ap (λ (l : List ℕ). p.first_places ++ l) f.1.1 in record {
          before = p.before;
          entry = x.0;
          behind = x.1;
          parts = all_above j.volume j.size image list says ∙ parts;
          done = subst (λ (l : List Change). IsTrue (are_done start l)) p.changes_are way.done;
          refused = subst (λ (k : Tree). IsRefused k x.0.1) (way.tree_is ∙ ap (λ (l : List Change). tree_after_changes start l) p.changes_are) f.0;
          place = place_there j.volume j.size image list says p.before x.0 x.1 p.first_places at f.1.0 parts placed p.as_many;
          lies = lies_there j.volume j.size image list says p.before x.0 x.1 p.first_places at f.1.0 parts placed p.as_many;
        })

    -- all of them were done
    all_before : (image : List ℕ) (list : List (ℕ × List ℕ)) → g.image s ≡ Some image → journal_of j.volume j.size 0 image ≡ Ok list → number_behind j.newer 0 ≤ n
        → (p : IsParted j image place way.changes list) → list ≡ p.before
    all_before image list told says end p =
        let r = WhereTold-at (g.image s) (IsRead j 0) image told read in
        let all : length list ≡ length p.before + length p.behind = ap (λ (l : List (ℕ × List ℕ)). length l) p.parts ∙ length-append p.before p.behind in
        p.parts ∙ ap (λ (l : List (ℕ × List ℕ)). p.before ++ l) (nothing p.behind (omega (arith, all, counted j image list is r says, p.count, way.count, end))) ∙ append-nil p.before

    pub replayed : n ≡ number_behind j.newer 0 → IsReplayed g j s start tree
    replayed end = record {
      changes = way.changes;
      tree_is = way.tree_is;
      done = way.done;
      storable = way.storable;
      count = way.count ∙ end;
      told = WhereTold-from (g.image s) (λ image. (list : List (ℕ × List ℕ)) → journal_of j.volume j.size 0 image ≡ Ok list → way.changes ≡ changes_in (entries_above 0 list))
          (λ image told list says.
          let p = WhereTold-at (g.image s) (AreParted j place way.changes) image told way.told list says in
          p.changes_are
          ∙ ap (λ (l : List (ℕ × List ℕ)). changes_in l) (sym (all_above j.volume j.size image list says ∙ all_before image list told says (omega (arith, end)) p)));
      encoded = WhereTold-from (g.image s)
          (λ image. (list : List (ℕ × List ℕ)) → journal_of j.volume j.size 0 image ≡ Ok list → entries_above 0 list ≡ numbered 0 (map entry_bytes way.changes))
          (λ image told list says.
          let p = WhereTold-at (g.image s) (AreParted j place way.changes) image told way.told list says in
          all_numbered j.volume j.size image list (map entry_bytes way.changes) says
          (ap (λ (l : List (ℕ × List ℕ)). map (λ (e : ℕ × List ℕ). e.1) l) (all_before image list told says (omega (arith, end)) p) ∙ p.encoded));
    }
