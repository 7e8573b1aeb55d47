-- The status that results begin with.
use Rattle.std.proofs.Common.{◌≡◌, ◌∙◌, ◌<◌, ◌^◌, ℕ, List, ◌++◌, Ok, Err, sym, ap}
use Rattle.sky_xdr.specs.declared.fault.XdrFault.{XdrFault}
use Rattle.sky_xdr.specs.Encoding.{uint}
use Rattle.sky_xdr.specs.Reading.{uint_at}
use Rattle.sky_xdr.proofs.Numbers.{uint_again, uint_same}

-- a number that is there is read
pub is_read : (bytes old new more : List ℕ) (e : XdrFault) (n : ℕ) → old ≡ bytes → bytes ≡ uint n ++ more → n < 2 ^ 32 → uint_at old ≡ Err e → ⊥
is_read bytes old new more e n same begins fits fails =
    let read : uint_at old ≡ Ok (n, more) = ap uint_at (same ∙ begins) ∙ uint_again n more fits in
    absurd cc

-- bytes begin with one number
pub one_number : (bytes old x y : List ℕ) (m n : ℕ) → old ≡ bytes → old ≡ uint m ++ x → bytes ≡ uint n ++ y → m < 2 ^ 32 → n < 2 ^ 32 → m ≡ n
one_number bytes old x y m n same first second p q = (uint_same m n x y p q (sym first ∙ same ∙ second)).0
