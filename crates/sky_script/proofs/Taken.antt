-- What a reader has taken where it answers.
use Rattle.std.proofs.Common.{◌≡◌, ◌<◌, ℕ, true, Option, Result, Ok, Err, OnErr, List, ◌++◌, length, take, refl, arith}
use Rattle.sky_outside.specs.Told.{Had, HadPart}
use Rattle.sky_outside.proofs.ToldLaws.{Had-then}
use Rattle.std.proofs.lemmas.List.{length-take}
use Rattle.sky_script.specs.Frame.{header, is_header}
use Rattle.sky_script.specs.Beginning.{IsRefused, IsCutShort, within_header, within_payload, HadSome}

-- a part of nine bytes is a part of a header
pub cut_in_header : (a b : Option (List ℕ)) (bytes : List ℕ) → length bytes ≡ 9 → HadPart a b bytes → HadSome IsCutShort a b
cut_in_header a b bytes long part =
    (take part.0 bytes, within_header (omega (arith, part.1, length-take part.0 bytes)), part.2)

-- a header, and then a part of the payload that it says
pub cut_in_payload : (a b c : Option (List ℕ)) (k s l : ℕ) (bytes : List ℕ) → is_header k s l ≡ true → Had a b (header k s l) → HadPart b c (take l bytes) → HadSome IsCutShort a c
cut_in_payload a b c k s l bytes known had part =
    let more = take part.0 (take l bytes) in
    let short : length more < l = omega (arith, part.1, length-take part.0 (take l bytes), length-take l bytes) in
    (header k s l ++ more, within_payload k s l more refl known short, Had-then a b c (header k s l) more had part.2)

-- a header, and then a payload with which it is refused
pub refused_whole : (a b c : Option (List ℕ)) (k s l : ℕ) (payload : List ℕ) → Had a b (header k s l) → Had b c payload → IsRefused (header k s l ++ payload) → HadSome IsRefused a c
refused_whole a b c k s l payload had more refused = (header k s l ++ payload, refused, Had-then a b c (header k s l) payload had more)

-- what holds at an error holds where one is told
pub on_err_told : {X E : Type 0} {P : Type 0} (r : Result X E) (e : E) → r ≡ Err e → OnErr r P → P
on_err_told (Ok x) e told h = absurd cc
on_err_told (Err d) e told h = h
