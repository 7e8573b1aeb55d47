-- What a call leaves of a journal is a journal.
use Rattle.std.specs.Prelude.{IfSome}
use Rattle.std.specs.Option.{option_map}
use Rattle.std.proofs.Common.{◌≡◌, ℕ, ◌<◌, Bool, List, [], Option, Some, None, refl, sym, ap, subst, arith}
use Rattle.sky_base.specs.Limits.{max_number}
use Rattle.sky_journal.specs.Journal.{JournalView, IsOpenArea, AreInOrder, ArePending, IsJournal, StandsFor, area_with, after_commit, start_beside, new_area, after_rotation, without_older, without_newer, wiped}
use Rattle.sky_journal.specs.declared.open_area.OpenArea.{OpenArea}
use Rattle.sky_journal.proofs.Halves.{IsBeside, beside_is}

-- ---- what does not matter

pub IsJournal-but : (j : JournalView) (spare : ℕ) (down : Bool) → IsJournal j → IsJournal (record j { spare = spare; down = down })
IsJournal-but j spare down is = record {
  least = is.least;
  most = is.most;
  fits = is.fits;
  older = is.older;
  newer = is.newer;
  in_order = is.in_order;
  framed = is.framed;
  pending = is.pending;
}

pub StandsFor-but : (j : JournalView) (pending : List (List ℕ)) (spare : ℕ) (down : Bool) (image : List ℕ) (older newer : List (List ℕ)) → StandsFor j image older newer
    → StandsFor (record j { pending = pending; spare = spare; down = down }) image older newer
StandsFor-but j pending spare down image older newer is =
    record { size = is.size; older_is = is.older_is; newer_is = is.newer_is; others = is.others }

-- ---- a commit

newer_with : (size : ℕ) (o : Option OpenArea) (pending : List (List ℕ)) → IfSome o (IsOpenArea size) → ArePending size o pending
    → IfSome (option_map (area_with pending) o) (IsOpenArea size)
newer_with size None pending opens fits = tt
newer_with size (Some a) pending opens fits = record {
  start = opens.start;
  header = omega (arith, opens.header);
  within = fits.1;
  order = omega (arith, opens.order);
  number = fits.0;
}

order_with : (size : ℕ) (older newer : Option OpenArea) (pending : List (List ℕ)) → AreInOrder size older newer → AreInOrder size older (option_map (area_with pending) newer)
order_with size None newer pending order = tt
order_with size (Some a) None pending order = order
order_with size (Some a) (Some b) pending order = record { beside = order.beside; number = order.number }

-- there are no pending entries
none_pending : (size : ℕ) (o : Option OpenArea) → IfSome o (IsOpenArea size) → ArePending size o []
none_pending size None opens = refl
none_pending size (Some a) opens = (omega (arith, opens.number), omega (arith, opens.within))

pub IsJournal-after_commit : (j : JournalView) → IsJournal j → IsJournal (after_commit j)
IsJournal-after_commit j is =
    let newer = newer_with j.size j.newer j.pending is.newer is.pending in record {
      least = is.least;
      most = is.most;
      fits = is.fits;
      older = is.older;
      newer = newer;
      in_order = order_with j.size j.older j.newer j.pending is.in_order;
      framed = tt;
      pending = none_pending j.size (option_map (area_with j.pending) j.newer) newer;
    }

-- ---- a rotation

order_new : (size : ℕ) (o : Option OpenArea) (base start : ℕ) → IsBeside size o start → IfSome o (λ a. base ≡ a.last) → AreInOrder size o (Some (new_area start base))
order_new size None base start place goes_on = tt
order_new size (Some a) base start place goes_on = record { beside = place.sum; number = goes_on }

pub IsJournal-after_rotation : (j : JournalView) (base : ℕ) → IsJournal j → base < max_number → IfSome j.newer (λ a. base ≡ a.last) → j.pending ≡ []
    → IsJournal (after_rotation j base)
IsJournal-after_rotation j base is number goes_on none =
    let s = start_beside j.size j.newer in
    let place = beside_is j.size j.newer (omega (arith, is.least)) is.newer in
    let new : IsOpenArea j.size (new_area s base) =
    record { start = place.half; header = omega arith; within = omega (arith, is.least); order = omega arith; number = number } in record {
      least = is.least;
      most = is.most;
      fits = is.fits;
      older = is.newer;
      newer = new;
      in_order = order_new j.size j.newer base s place goes_on;
      framed = is.framed;
      pending = subst (λ (p : List (List ℕ)). ArePending j.size (Some (new_area s base)) p) (sym none) (none_pending j.size (Some (new_area s base)) new);
    }

-- ---- without areas

pub IsJournal-without_older : (j : JournalView) → IsJournal j → IsJournal (without_older j)
IsJournal-without_older j is = record {
  least = is.least;
  most = is.most;
  fits = is.fits;
  older = tt;
  newer = is.newer;
  in_order = tt;
  framed = is.framed;
  pending = is.pending;
}

pub IsJournal-without_newer : (j : JournalView) → IsJournal j → IsJournal (without_newer j)
IsJournal-without_newer j is = record {
  least = is.least;
  most = is.most;
  fits = is.fits;
  older = tt;
  newer = is.older;
  in_order = tt;
  framed = tt;
  pending = none_pending j.size j.older is.older;
}

pub IsJournal-wiped : (j : JournalView) → IsJournal j → IsJournal (wiped j)
IsJournal-wiped j is = record {
  least = is.least;
  most = is.most;
  fits = is.fits;
  older = tt;
  newer = tt;
  in_order = tt;
  framed = tt;
  pending = refl;
}

-- without its only area it is wiped
pub wiped-only : (j : JournalView) → j.older ≡ None → without_newer j ≡ wiped j
wiped-only j e = ap (λ (o : Option OpenArea). record j { older = None; newer = o; pending = [] }) e
