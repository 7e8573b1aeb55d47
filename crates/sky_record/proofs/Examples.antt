-- The definitions on small known bytes.
use Rattle.std.proofs.Common.{◌≡◌, true, false, List, [], ◌∷◌, refl}
use Rattle.sky_record.specs.Record.{Fragment, header, encoding, joined, IsWhole}

-- 80000028: the last fragment, of 40 bytes
header-last_40 : header true 40 ≡ 0x80 ∷ 0 ∷ 0 ∷ 0x28 ∷ []
header-last_40 = refl

-- 80020001: the last fragment, of 131,073 bytes
header-last_131073 : header true 131073 ≡ 0x80 ∷ 0x02 ∷ 0 ∷ 0x01 ∷ []
header-last_131073 = refl

-- 00001000: 4,096 bytes, and more fragments after it
header-4096 : header false 4096 ≡ 0 ∷ 0 ∷ 0x10 ∷ 0 ∷ []
header-4096 = refl

-- "hi!" in three fragments, the second one empty
abbrev hi : List Fragment
hi =
    record { last = false; bytes = 104 ∷ 105 ∷ [] }
    ∷ record { last = false; bytes = [] }
    ∷ record { last = true; bytes = 33 ∷ [] }
    ∷ []

encoding-hi : encoding hi ≡ 0 ∷ 0 ∷ 0 ∷ 2 ∷ 104 ∷ 105 ∷ 0 ∷ 0 ∷ 0 ∷ 0 ∷ 0x80 ∷ 0 ∷ 0 ∷ 1 ∷ 33 ∷ []
encoding-hi = refl

joined-hi : joined hi ≡ 104 ∷ 105 ∷ 33 ∷ []
joined-hi = refl

hi_is_whole : IsWhole hi
hi_is_whole = (refl, (refl, refl))

-- an empty record
encoding-empty : encoding (record { last = true; bytes = [] } ∷ []) ≡ 0x80 ∷ 0 ∷ 0 ∷ 0 ∷ []
encoding-empty = refl
