-- A disk of zeros has no entry.
use Rattle.std.specs.Prelude.{◌==◌}
use Rattle.std.specs.List.{AllByRecursion}
use Rattle.std.proofs.Common.{◌≡◌, ℕ, zero, suc, ◌*◌, ◌≤◌, Bool, false, List, [], ◌∷◌, length, map, take, drop, replicate, None, Ok, refl, sym, ap, ◌∙◌, arith}
use Rattle.std.proofs.lemmas.List.{length-replicate}
use Rattle.std.specs.FinMap.{empty, entries, len-empty, len-entries}
use Rattle.sky_base.specs.Order.{name_order}
use Rattle.sky_base.specs.declared.object.SegName.{SegName}
use Rattle.sky_nfs.specs.Tree.{empty_tree}
use Rattle.sky_nfs.specs.Validity.{IsValidTree}
use Rattle.sky_outside.specs.CloudMap.{CloudMap, held_of}
use Rattle.sky_journal.specs.Layout.{is_open}
use Rattle.sky_journal.specs.Text.{Area, open_areas, first_area, second_area, areas_entries, entries_of}
use Rattle.sky_journal.proofs.JournalRead.{large_enough}
use Rattle.sky_checkpoint.specs.Listing.{last_checkpoint}
use Rattle.sky_sound.specs.Cloud.{HasNoCheckpoint, covers_of, cloud_tree}
use Rattle.sky_sound.specs.Entries.{is_of_change}
use Rattle.sky_sound.specs.Recovery.{IsSound, recovered, history_from}
use Rattle.sky_sound.proofs.Above.{recovered_is, history_is}

abbrev Zeros : List ℕ → Type 0
Zeros bytes = AllByRecursion (λ b. b ≡ 0) bytes

zeros_all : (n : ℕ) → Zeros (replicate n 0)
zeros_all zero = tt
zeros_all (suc n) = (refl, zeros_all n)

zeros_take : (n : ℕ) (bytes : List ℕ) → Zeros bytes → Zeros (take n bytes)
zeros_take zero bytes all = tt
zeros_take (suc n) [] all = tt
zeros_take (suc n) (b ∷ bytes) all = (all.0, zeros_take n bytes all.1)

zeros_drop : (n : ℕ) (bytes : List ℕ) → Zeros bytes → Zeros (drop n bytes)
zeros_drop zero bytes all = all
zeros_drop (suc n) [] all = tt
zeros_drop (suc n) (b ∷ bytes) all = zeros_drop n bytes all.1

closed : (bytes : List ℕ) → Zeros bytes → is_open 0 bytes ≡ false
closed [] all = refl
closed (b ∷ bytes) all = ap (λ (n : ℕ). n == 1) all.0

none_open : (a b : Area) → is_open 0 a.bytes ≡ false → is_open 0 b.bytes ≡ false → open_areas a b ≡ []
unfolding open_areas
none_open a b first second = rw (first, second) refl

no_areas : (is_entry : List ℕ → Bool) (volume covers : ℕ) → areas_entries is_entry volume covers [] ≡ Ok []
unfolding areas_entries
no_areas is_entry volume covers = refl

pub blank : (is_entry : List ℕ → Bool) (volume size covers bytes : ℕ) → 2 * size ≤ bytes → entries_of is_entry volume size covers (replicate bytes 0) ≡ Ok []
blank is_entry volume size covers bytes fits =
    let image = replicate bytes 0 in
    large_enough is_entry volume size covers image (omega (arith, length-replicate {A = ℕ} bytes 0))
    ∙ ap (λ (areas : List Area). areas_entries is_entry volume covers areas)
    (none_open (first_area size image) (second_area size image) (closed (take size image) (zeros_take size image (zeros_all bytes)))
    (closed (take size (drop size image)) (zeros_take size (drop size image) (zeros_drop size image (zeros_all bytes)))))
    ∙ no_areas is_entry volume covers

-- a cloud with no objects has no checkpoint
none_listed : (es : List (SegName × List ℕ)) → length es ≡ 0 → last_checkpoint (map held_of es) ≡ None
none_listed [] none = refl
none_listed (e ∷ es) none = absurd (omega (arith, none))

pub empty_unchecked : HasNoCheckpoint empty
empty_unchecked = let nothing : CloudMap = empty in none_listed (entries nothing) (sym (len-entries nothing) ∙ len-empty name_order (List ℕ))

pub blank_recovered : (volume size bytes : ℕ) → 2 * size ≤ bytes → recovered volume size (replicate bytes 0) empty ≡ Ok (record { length = 0; tree = empty_tree volume })
blank_recovered volume size bytes fits =
    let nothing : CloudMap = empty in
    recovered_is volume size (replicate bytes 0) nothing [] empty_unchecked (blank is_of_change volume size (covers_of nothing) bytes fits)

pub blank_sound : (volume size bytes : ℕ) → IsValidTree (empty_tree volume) → 2 * size ≤ bytes → IsSound volume size (replicate bytes 0) empty
blank_sound volume size bytes valid fits =
    let nothing : CloudMap = empty in
    record {
      history = history_from (covers_of nothing) (cloud_tree volume nothing) [];
      stands_for = history_is volume size (replicate bytes 0) nothing [] empty_unchecked (blank is_of_change volume size (covers_of nothing) bytes fits);
      legal = record { valid = valid; done = refl };
    }
