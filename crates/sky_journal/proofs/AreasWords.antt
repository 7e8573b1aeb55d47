-- What is read of two areas.
use Rattle.std.specs.Prelude.{nat_lt, ◌==◌, not, ◌&&◌, ◌||◌}
use Rattle.std.proofs.Common.{◌≡◌, ◌≢◌, ℕ, ◌+◌, Bool, true, false, List, [], ◌∷◌, ◌++◌, length, Ok, Err, refl, sym, ap, ◌∙◌, arith}
use Rattle.std.proofs.lemmas.Bool.{eq-eqb, ne_eqb, le-ltb, not-false, eqb-true}
use Rattle.sky_journal.specs.Layout.{is_open, area_header}
use Rattle.sky_journal.specs.Text.{Area, base_of, area_entries, areas_entries, second_is_older}
use Rattle.sky_journal.specs.AreasRead.{IsReadArea, is_foreign_base}
use Rattle.sky_journal.specs.declared.area.Base.TheVariants.{UpTo, Exactly}
use Rattle.sky_journal.specs.declared.open_area.OpenArea.{OpenArea}
use Rattle.sky_journal.proofs.AreaWords.{numbered-length}

or_false : (b : Bool) → (b || false) ≡ b
or_false true = refl
or_false false = refl

-- which of two areas is the older, by their bases
pub by_bases : (a b : Area) (x y : ℕ) → x ≡ base_of a → y ≡ base_of b → x ≢ y → nat_lt y x ≡ second_is_older a b
by_bases a b x y first second differ =
    let other : (base_of a == base_of b) ≡ false = ne_eqb _ _ (λ e. differ (first ∙ e ∙ sym second)) in
    rw other (ap (λ (n : ℕ). nat_lt n x) second ∙ ap (λ (n : ℕ). nat_lt (base_of b) n) first ∙ sym (or_false (nat_lt (base_of b) (base_of a))))

-- by their first gates, where these are equal
pub by_gates : (a b : Area) (x y : ℕ) (p q : Bool) → x ≡ base_of a → y ≡ base_of b → x ≡ y → p ≡ is_open area_header a.bytes → q ≡ is_open area_header b.bytes → (p && not q) ≡ second_is_older a b
by_gates a b x y p q first second same gate other =
    let equal : (base_of a == base_of b) ≡ true = eq-eqb _ _ (sym first ∙ same ∙ second) in
    let lower : nat_lt (base_of b) (base_of a) ≡ false = le-ltb _ _ (omega arith) in
    rw (equal, lower) (ap (λ (r : Bool). r && not q) gate ∙ ap (λ (r : Bool). is_open area_header a.bytes && not r) other)

-- the older area is foreign
pub older_foreign : (is_entry : List ℕ → Bool) (volume covers : ℕ) (a b : Area) (place : ℕ) → area_entries is_entry volume a (is_foreign_base (UpTo covers) (base_of a)) ≡ Err place
    → areas_entries is_entry volume covers (a ∷ b ∷ []) ≡ Err place
unfolding areas_entries
older_foreign is_entry volume covers a b place e = rw e refl

-- the newer is
pub newer_foreign : (is_entry : List ℕ → Bool) (volume covers : ℕ) (a b : Area) (older : OpenArea) (list : List (ℕ × List ℕ)) (place : ℕ)
    → area_entries is_entry volume a (is_foreign_base (UpTo covers) (base_of a)) ≡ Ok list → IsReadArea volume a older list
    → area_entries is_entry volume b (is_foreign_base (Exactly older.last) (base_of b)) ≡ Err place → areas_entries is_entry volume covers (a ∷ b ∷ []) ≡ Err place
unfolding areas_entries
newer_foreign is_entry volume covers a b older list place first read second =
    let long : base_of a + length list ≡ older.last = omega (arith, read.base, read.filled.numbers, ap length read.listed, numbered-length older.base read.entries) in
    rw (first, long, second) refl

-- both are read
pub both_read : (is_entry : List ℕ → Bool) (volume covers : ℕ) (a b : Area) (older newer : OpenArea) (list more : List (ℕ × List ℕ))
    → area_entries is_entry volume a (is_foreign_base (UpTo covers) (base_of a)) ≡ Ok list → IsReadArea volume a older list
    → area_entries is_entry volume b (is_foreign_base (Exactly older.last) (base_of b)) ≡ Ok more → areas_entries is_entry volume covers (a ∷ b ∷ []) ≡ Ok (list ++ more)
unfolding areas_entries
both_read is_entry volume covers a b older newer list more first read second =
    let long : base_of a + length list ≡ older.last = omega (arith, read.base, read.filled.numbers, ap length read.listed, numbered-length older.base read.entries) in
    rw (first, long, second) refl

pub only_area : (is_entry : List ℕ → Bool) (volume covers : ℕ) (a : Area) → areas_entries is_entry volume covers (a ∷ []) ≡ area_entries is_entry volume a (is_foreign_base (UpTo covers) (base_of a))
unfolding areas_entries
only_area is_entry volume covers a = refl

-- a base that may be exactly a number is that number
pub exactly : (number base : ℕ) → is_foreign_base (Exactly number) base ≡ false → base ≡ number
exactly number base fine = eqb-true base number (not-false (base == number) fine)
