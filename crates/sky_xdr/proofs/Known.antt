-- The definitions against bytes that RFC 4506 fixes: each lemma holds by computation.
use Rattle.std.proofs.Common.{◌≡◌, true, false, [], ◌∷◌, Ok, Err, refl}
use Rattle.std.specs.Prelude.{codes}
use Rattle.sky_xdr.specs.declared.fault.XdrFault.TheVariants.{TooLong, Short, BadBool, Left}
use Rattle.sky_xdr.specs.Encoding.{uint, uhyper, bool, opaque}
use Rattle.sky_xdr.specs.Reading.{word, uint_at, bool_at, opaque_at, end_at}

-- 100003 is 0x000186a3
uint_known : uint 100003 ≡ 0 ∷ 1 ∷ 0x86 ∷ 0xa3 ∷ []
unfolding uint
uint_known = refl

uint_largest : uint 0xffff_ffff ≡ 255 ∷ 255 ∷ 255 ∷ 255 ∷ []
unfolding uint
uint_largest = refl

uhyper_known : uhyper 0x0123_4567_89ab_cdef ≡ 0x01 ∷ 0x23 ∷ 0x45 ∷ 0x67 ∷ 0x89 ∷ 0xab ∷ 0xcd ∷ 0xef ∷ []
unfolding uhyper
uhyper_known = refl

true_known : bool true ≡ 0 ∷ 0 ∷ 0 ∷ 1 ∷ []
unfolding uint
true_known = refl

false_known : bool false ≡ 0 ∷ 0 ∷ 0 ∷ 0 ∷ []
unfolding uint
false_known = refl

-- five bytes take three zeros
opaque_known : opaque (codes "abcde") ≡ 0 ∷ 0 ∷ 0 ∷ 5 ∷ 97 ∷ 98 ∷ 99 ∷ 100 ∷ 101 ∷ 0 ∷ 0 ∷ 0 ∷ []
unfolding uint
opaque_known = refl

-- a multiple of four takes none
opaque_whole : opaque (codes "lisp") ≡ 0 ∷ 0 ∷ 0 ∷ 4 ∷ 108 ∷ 105 ∷ 115 ∷ 112 ∷ []
unfolding uint
opaque_whole = refl

opaque_empty : opaque [] ≡ 0 ∷ 0 ∷ 0 ∷ 0 ∷ []
unfolding uint
opaque_empty = refl

-- the example of section 7, up to the kind of the file
example_known : opaque (codes "sillyprog") ≡ 0 ∷ 0 ∷ 0 ∷ 9 ∷ 0x73 ∷ 0x69 ∷ 0x6c ∷ 0x6c ∷ 0x79 ∷ 0x70 ∷ 0x72 ∷ 0x6f ∷ 0x67 ∷ 0 ∷ 0 ∷ 0 ∷ []
unfolding uint
example_known = refl

-- reading: any padding is accepted
padding_read : opaque_at 2 (0 ∷ 0 ∷ 0 ∷ 2 ∷ 104 ∷ 105 ∷ 7 ∷ 9 ∷ 1 ∷ []) ≡ Ok (104 ∷ 105 ∷ [], 1 ∷ [])
unfolding opaque_at uint_at word
padding_read = refl

-- a length above the limit comes before missing bytes
too_long_first : opaque_at 1 (0 ∷ 0 ∷ 0 ∷ 2 ∷ []) ≡ Err TooLong
unfolding opaque_at uint_at word
too_long_first = refl

padding_missing : opaque_at 2 (0 ∷ 0 ∷ 0 ∷ 2 ∷ 104 ∷ 105 ∷ 7 ∷ []) ≡ Err Short
unfolding opaque_at uint_at word
padding_missing = refl

two_is_no_boolean : bool_at (0 ∷ 0 ∷ 0 ∷ 2 ∷ []) ≡ Err BadBool
unfolding bool_at uint_at word
two_is_no_boolean = refl

byte_left : end_at (0 ∷ []) ≡ Err Left
unfolding end_at
byte_left = refl
