-- What a call of a journal leaves as it was: what is behind the second area, and in areas that are closed.
use Rattle.std.proofs.Common.{◌≡◌, ◌⊎◌, ℕ, ◌+◌, ◌-◌, ◌*◌, ◌≤◌, List, drop, Option, Some, None, Result, Ok, Err, OnErr, refl, sym, ap, ◌∙◌, subst, arith, inl, inr}
use Rattle.std.proofs.lemmas.List.{drop-drop}
use Rattle.sky_outside.specs.Image.{Torn}
use Rattle.sky_outside.specs.Told.{BothTold}
use Rattle.sky_outside.proofs.ImageLaws.{Torn-again}
use Rattle.sky_journal.specs.Laid.{BeginsAt}
use Rattle.sky_journal.specs.Journal.{JournalView, IsJournal, start_beside, after_rotation, without_newer}
use Rattle.sky_journal.specs.Rest.{after_failure, LeavesRest}
use Rattle.sky_journal.specs.declared.open_area.OpenArea.{OpenArea}
use Rattle.sky_journal.proofs.Frames.{Torn-wider}
use Rattle.sky_journal.proofs.Halves.{IsHalf, TornIn, beside, newer_open, older_open, beside_is}

-- ---- what is told before and after

-- what is told of both leads to more
pub both_weaker : {A : Type 0} (R T : A → A → Type 0) (old new : Option A) → BothTold R old new → ((x y : A) → R x y → T x y) → BothTold T old new
both_weaker R T None None both leads = tt
both_weaker R T None (Some y) both leads = absurd both
both_weaker R T (Some x) None both leads = absurd both
both_weaker R T (Some x) (Some y) both leads = leads x y both

-- of two calls, one after the other
pub both_compose : {A : Type 0} (R T W : A → A → Type 0) (a b c : Option A) → BothTold R a b → BothTold T b c → ((x y z : A) → R x y → T y z → W x z) → BothTold W a c
both_compose R T W None None None first second leads = tt
both_compose R T W None None (Some z) first second leads = absurd second
both_compose R T W None (Some y) c first second leads = absurd first
both_compose R T W (Some x) None c first second leads = absurd first
both_compose R T W (Some x) (Some y) None first second leads = absurd second
both_compose R T W (Some x) (Some y) (Some z) first second leads = leads x y z first second

-- ---- a gate that opens

-- where bytes behind a gate are torn
pub opening_begun : (gate n : ℕ) (old new : Option (List ℕ)) → BothTold (Torn (gate + 1) n) old new → BothTold (Torn gate (1 + n)) old new
opening_begun gate n old new torn =
    both_weaker (Torn (gate + 1) n) (Torn gate (1 + n)) old new torn (λ x y t. Torn-wider (gate + 1) n gate (1 + n) x y t (omega arith) (omega arith))

-- and then the gate
pub opening_torn : (gate n : ℕ) (old mid new : Option (List ℕ)) → BothTold (Torn (gate + 1) n) old mid → BothTold (Torn gate 1) mid new → BothTold (Torn gate (1 + n)) old new
opening_torn gate n old mid new first second =
    both_compose (Torn (gate + 1) n) (Torn gate 1) (Torn gate (1 + n)) old mid new first second
    (λ x y z a b. Torn-again gate (1 + n) x y z (Torn-wider (gate + 1) n gate (1 + n) x y a (omega arith) (omega arith)) (Torn-wider gate 1 gate (1 + n) y z b (omega arith) (omega arith)))

-- ---- the rest

-- what is behind a place is behind a later one
drop-later : (k m : ℕ) (old new : List ℕ) → k ≤ m → drop k new ≡ drop k old → drop m new ≡ drop m old
drop-later k m old new le same =
    let whole : k + (m - k) ≡ m = omega (arith, le) in
    ap (λ (n : ℕ). drop n new) (sym whole) ∙ sym (drop-drop (m - k) k new) ∙ ap (λ (l : List ℕ). drop (m - k) l) same ∙ drop-drop (m - k) k old ∙ ap (λ (n : ℕ). drop n old) whole

half_low : (size start : ℕ) → IsHalf size start → start ≤ size
half_low size start (inl h) = omega (arith, h)
half_low size start (inr h) = omega (arith, h)

-- torn within an area that is open, it leaves the rest
rest_in : (j : JournalView) (start : ℕ) (old new : List ℕ) → TornIn j.size start old new
    → ((other : ℕ) → (BeginsAt other j.older → ⊥) → (BeginsAt other j.newer → ⊥) → other ≡ start → ⊥) → LeavesRest j old new
rest_in j start old new t opened = record {
  behind = drop-later (t.at + t.count) (2 * j.size) old new (omega (arith, t.high, half_low j.size start t.half)) t.torn.behind;
  closed = λ other half not_older not_newer. beside j.size start other old new t half (opened other not_older not_newer);
}

-- the same of what a disk tells
pub rest_told : (j : JournalView) (start at count : ℕ) (old new : Option (List ℕ)) → BothTold (Torn at count) old new → IsHalf j.size start → start ≤ at → at + count ≤ start + j.size
    → ((other : ℕ) → (BeginsAt other j.older → ⊥) → (BeginsAt other j.newer → ⊥) → other ≡ start → ⊥) → BothTold (LeavesRest j) old new
rest_told j start at count old new torn half low high opened =
    both_weaker (Torn at count) (LeavesRest j) old new torn
    (λ x y t. rest_in j start x y (record { at = at; count = count; torn = t; half = half; low = low; high = high }) opened)

-- where nothing changes
pub rest_same : (j : JournalView) (told : Option (List ℕ)) → BothTold (LeavesRest j) told told
rest_same j None = tt
rest_same j (Some image) = record { behind = refl; closed = λ start half not_older not_newer. refl }

-- an area that begins here is the newer, or the older
pub opened_newer : (j : JournalView) (a : OpenArea) → j.newer ≡ Some a → (other : ℕ) → (BeginsAt other j.older → ⊥) → (BeginsAt other j.newer → ⊥) → other ≡ a.start → ⊥
opened_newer j a e other not_older not_newer same = not_newer (subst (λ (o : Option OpenArea). BeginsAt other o) (sym e) (sym same))

pub opened_older : (j : JournalView) (a : OpenArea) → j.older ≡ Some a → (other : ℕ) → (BeginsAt other j.older → ⊥) → (BeginsAt other j.newer → ⊥) → other ≡ a.start → ⊥
opened_older j a e other not_older not_newer same = not_older (subst (λ (o : Option OpenArea). BeginsAt other o) (sym e) (sym same))

-- a commit tears its newer area
pub commit_rest : (j : JournalView) (a : OpenArea) (n : ℕ) (old new : Option (List ℕ)) → IsJournal j → j.newer ≡ Some a → a.end + 1 + n ≤ j.size
    → BothTold (Torn (a.start + a.end) (1 + n)) old new → BothTold (LeavesRest j) old new
commit_rest j a n old new is e fits torn =
    rest_told j a.start (a.start + a.end) (1 + n) old new torn (newer_open j a is e).start (omega arith) (omega (arith, fits)) (opened_newer j a e)

-- the closing of an area tears its gate
pub older_rest : (j : JournalView) (a : OpenArea) (old new : Option (List ℕ)) → IsJournal j → j.older ≡ Some a → BothTold (Torn a.start 1) old new → BothTold (LeavesRest j) old new
older_rest j a old new is e torn =
    rest_told j a.start a.start 1 old new torn (older_open j a is e).start (omega arith) (omega (arith, is.least)) (opened_older j a e)

pub newer_rest : (j : JournalView) (a : OpenArea) (old new : Option (List ℕ)) → IsJournal j → j.newer ≡ Some a → BothTold (Torn a.start 1) old new → BothTold (LeavesRest j) old new
newer_rest j a old new is e torn =
    rest_told j a.start a.start 1 old new torn (newer_open j a is e).start (omega arith) (omega (arith, is.least)) (opened_newer j a e)

-- a rotation tears the area that it opens
pub rotation_rest : (j : JournalView) (base start n : ℕ) (old new : Option (List ℕ)) → IsJournal j → start ≡ start_beside j.size j.newer → n ≡ 64
    → BothTold (Torn start (1 + n)) old new → BothTold (LeavesRest (after_rotation j base)) old new
rotation_rest j base start n old new is at long torn =
    let place = beside_is j.size j.newer (omega (arith, is.least)) is.newer in
    rest_told (after_rotation j base) start start (1 + n) old new torn (subst (λ (s : ℕ). IsHalf j.size s) (sym at) place.half) (omega arith) (omega (arith, is.least, long))
    (λ other not_older not_newer same. not_newer (sym at ∙ sym same))

-- ---- a failure

-- what a call that failed says
pub failed_now : {A E : Type 0} (result : Result A E) (j k : JournalView) → k ≡ after_failure j → OnErr result (k ≡ after_failure j)
failed_now (Ok x) j k failed = tt
failed_now (Err e) j k failed = failed

-- ---- a wipe

-- what both of its calls leave
pub wipe_rest : (j m : JournalView) (spare : ℕ) (a b c : Option (List ℕ)) → m ≡ record (without_newer j) { spare = spare } → BothTold (LeavesRest j) a b → BothTold (LeavesRest m) b c
    → BothTold (LeavesRest j) a c
wipe_rest j m spare a b c same first second =
    both_compose (LeavesRest j) (LeavesRest (record (without_newer j) { spare = spare })) (LeavesRest j) a b c first (subst (λ (v : JournalView). BothTold (LeavesRest v) b c) same second)
    (λ x y z one two. record {
      behind = two.behind ∙ one.behind;
      closed = λ start half not_older not_newer. two.closed start half (λ begins. begins) not_older ∙ one.closed start half not_older not_newer;
    })

-- the journal after its first call failed
pub wipe_failed_first : {A E : Type 0} (result : Result A E) (j k : JournalView) → k ≡ after_failure j
    → OnErr result ((k ≡ after_failure j) ⊎ (k ≡ record (after_failure (without_newer j)) { spare = k.spare }))
wipe_failed_first (Ok x) j k failed = tt
wipe_failed_first (Err e) j k failed = inl failed

-- and after its second did
pub wipe_failed : {A E : Type 0} (result : Result A E) (j m k : JournalView) → m ≡ record (without_newer j) { spare = m.spare } → OnErr result (k ≡ after_failure m)
    → OnErr result ((k ≡ after_failure j) ⊎ (k ≡ record (after_failure (without_newer j)) { spare = k.spare }))
wipe_failed (Ok x) j m k same failed = tt
wipe_failed (Err e) j m k same failed =
    inr (failed ∙ ap after_failure same ∙ ap (λ (n : ℕ). record (after_failure (without_newer j)) { spare = n }) (sym (ap (λ (v : JournalView). v.spare) failed)))
