-- The definitions against bytes that another encoder made of the same changes: each row holds by computation, both ways.
-- A row is a change, and the words of its entry.
use Rattle.std.proofs.Common.{◌≡◌, ℕ, ◌+◌, ◌^◌, Some, None, List, [], ◌∷◌, ◌++◌, length, refl, ap, arith}
use Rattle.std.specs.Prelude.{codes}
use Rattle.std.proofs.lemmas.List.{length-append}
use Rattle.sky_base.specs.declared.cred.Cred.{Cred}
use Rattle.sky_nfs.specs.declared.call.Call.TheVariants.{Write, Create, Rename}
use Rattle.sky_nfs.specs.declared.call.Change.{Change}
use Rattle.sky_nfs.specs.declared.call.CreateHow.TheVariants.{Guarded}
use Rattle.sky_nfs.specs.declared.call.DirOpArgs.{DirOpArgs}
use Rattle.sky_nfs.specs.declared.call.SetAttr as attributes
use Rattle.sky_nfs.specs.declared.call.SetTime.TheVariants.{Keep}
use Rattle.sky_nfs.specs.declared.call.StableHow.TheVariants.{FileSync}
use Rattle.sky_xdr.specs.Encoding.{uint, uhyper, opaque, padding}
use Rattle.sky_xdr.specs.Reading.{bind, word, double_word, uint_at, uhyper_at, bool_at, fixed_at, opaque_at}
use Rattle.sky_xdr.specs.GrammarReading.{give, refuse, optional_at}
use Rattle.sky_rpc.specs.Call.{uints}
use Rattle.sky_rpc.specs.Reading.{uints_at, gids_at}
use Rattle.sky_args.specs.Parts.{dir_op_args_bytes, moment_bytes, set_time_bytes, set_attr_bytes, stable_how_bytes, create_how_bytes}
use Rattle.sky_args.specs.Reading.{lookup_at, write_at, create_at, rename_at, remove_at, handle_at, text_at, verifier_at, dir_op_args_at, moment_at, client_time_at, set_time_from, set_time_at, set_attr_at, stable_how_from, stable_how_at, unchecked_at, guarded_at, exclusive_at, create_how_from, create_how_at, args_at}
use Rattle.sky_xdr.proofs.Numbers.{length-uint, length-uhyper}
use Rattle.sky_xdr.proofs.Opaques.{length-opaque}
use Rattle.sky_args.proofs.Lengths.{length-stable_how_bytes}
use Rattle.sky_entry.proofs.Sizes.{length-body_bytes, length-entry_bytes}
use Rattle.sky_entry.specs.Entry.{caller_bytes, body_bytes, entry_bytes}
use Rattle.sky_entry.specs.Reading.{caller_at, head_at, body_at, entry_at}

-- a change is written as these words, and read from them with bytes behind them
record Row (c : Change) (words : List ℕ) : Type 0 where
  written : entry_bytes c ≡ uints words
  read : entry_at (uints words ++ 1 ∷ 2 ∷ []) ≡ Some (c, length (uints words))

-- words do not begin with an entry
abbrev Refused : List ℕ → Type 0
Refused words = entry_at (uints words) ≡ None

-- the handle of a node of volume 1
abbrev handle : ℕ → List ℕ
handle fileid = uhyper 1 ++ uhyper fileid

abbrev at : List ℕ → DirOpArgs
at name = record { directory = handle 1; name = name }

abbrev mode_set : attributes.SetAttr
mode_set = record { mode = Some 420; uid = None; gid = None; size = None; atime = Keep; mtime = Keep }

abbrev nobody : Cred
nobody = record { uid = 65534; gid = 65534; gids = [] }

abbrev create : Change
create = record { cred = nobody; moment = record { seconds = 10; nanos = 11 }; call = Create (at (codes "a")) (Guarded mode_set) }

abbrev write : Change
write = record {
  cred = record { uid = 1000; gid = 100; gids = 4 ∷ 24 ∷ [] };
  moment = record { seconds = 12; nanos = 999999999 };
  call = Write (handle 2) (2 ^ 32 + 1) 5 FileSync (codes "hello");
}

abbrev rename : Change
rename = record {
  cred = record { uid = 7; gid = 8; gids = 9 ∷ 10 ∷ 11 ∷ 12 ∷ 13 ∷ 14 ∷ 15 ∷ 16 ∷ 17 ∷ 18 ∷ 19 ∷ 20 ∷ 21 ∷ 22 ∷ 23 ∷ 24 ∷ [] };
  moment = record { seconds = 14; nanos = 15 };
  call = Rename (at (codes "a")) (at (codes "b"));
}

-- CREATE GUARDED of "a" with the mode set has 88 bytes
create_has_88 : length (entry_bytes create) ≡ 88
unfolding entry_bytes body_bytes caller_bytes moment_bytes dir_op_args_bytes set_time_bytes set_attr_bytes create_how_bytes uint uhyper
create_has_88 = refl

rows :
    Row create (84 ∷ 10 ∷ 11 ∷ 65534 ∷ 65534 ∷ 0 ∷ 8 ∷ 16 ∷ 0 ∷ 1 ∷ 0 ∷ 1 ∷ 1 ∷ 0x61000000 ∷ 1 ∷ 1 ∷ 420 ∷ 0 ∷ 0 ∷ 0 ∷ 0 ∷ 0 ∷ []) ×
    Row write (80 ∷ 12 ∷ 999999999 ∷ 1000 ∷ 100 ∷ 2 ∷ 4 ∷ 24 ∷ 7 ∷ 16 ∷ 0 ∷ 1 ∷ 0 ∷ 2 ∷ 1 ∷ 1 ∷ 5 ∷ 2 ∷ 5 ∷ 0x68656c6c ∷ 0x6f000000 ∷ []) ×
    Row rename (144 ∷ 14 ∷ 15 ∷ 7 ∷ 8 ∷ 16 ∷ 9 ∷ 10 ∷ 11 ∷ 12 ∷ 13 ∷ 14 ∷ 15 ∷ 16 ∷ 17 ∷ 18 ∷ 19 ∷ 20 ∷ 21 ∷ 22 ∷ 23 ∷ 24 ∷ 14 ∷ 16 ∷ 0 ∷ 1 ∷ 0 ∷ 1 ∷ 1 ∷ 0x61000000 ∷ 16 ∷ 0 ∷ 1 ∷ 0 ∷ 1 ∷ 1 ∷ 0x62000000 ∷ [])
unfolding entry_at body_at head_at caller_at gids_at uints_at entry_bytes body_bytes caller_bytes args_at write_at create_at rename_at handle_at text_at verifier_at dir_op_args_at moment_at client_time_at set_time_from set_time_at set_attr_at stable_how_from stable_how_at unchecked_at guarded_at exclusive_at create_how_from create_how_at dir_op_args_bytes moment_bytes set_time_bytes set_attr_bytes stable_how_bytes create_how_bytes optional_at bind give refuse fixed_at opaque_at bool_at uhyper_at uint_at word double_word uint uhyper
rows = (record { written = refl; read = refl }, record { written = refl; read = refl }, record { written = refl; read = refl })

-- no length; cut short; the arguments pass the length; bytes are left within it; the padding is not zero; LOOKUP; 17 further groups
refused :
    Refused [] ×
    Refused (52 ∷ 1 ∷ 2 ∷ 1 ∷ 2 ∷ 0 ∷ 12 ∷ 16 ∷ 0 ∷ 1 ∷ 0 ∷ 1 ∷ 1 ∷ []) ×
    Refused (48 ∷ 1 ∷ 2 ∷ 1 ∷ 2 ∷ 0 ∷ 12 ∷ 16 ∷ 0 ∷ 1 ∷ 0 ∷ 1 ∷ 1 ∷ 0x61000000 ∷ []) ×
    Refused (56 ∷ 1 ∷ 2 ∷ 1 ∷ 2 ∷ 0 ∷ 12 ∷ 16 ∷ 0 ∷ 1 ∷ 0 ∷ 1 ∷ 1 ∷ 0x61000000 ∷ 0 ∷ []) ×
    Refused (52 ∷ 1 ∷ 2 ∷ 1 ∷ 2 ∷ 0 ∷ 12 ∷ 16 ∷ 0 ∷ 1 ∷ 0 ∷ 1 ∷ 1 ∷ 0x61000001 ∷ []) ×
    Refused (52 ∷ 1 ∷ 2 ∷ 1 ∷ 2 ∷ 0 ∷ 3 ∷ 16 ∷ 0 ∷ 1 ∷ 0 ∷ 1 ∷ 1 ∷ 0x61000000 ∷ []) ×
    Refused (120 ∷ 1 ∷ 2 ∷ 1 ∷ 2 ∷ 17 ∷ 1 ∷ 2 ∷ 3 ∷ 4 ∷ 5 ∷ 6 ∷ 7 ∷ 8 ∷ 9 ∷ 10 ∷ 11 ∷ 12 ∷ 13 ∷ 14 ∷ 15 ∷ 16 ∷ 17 ∷ 12 ∷ 16 ∷ 0 ∷ 1 ∷ 0 ∷ 1 ∷ 1 ∷ 0x61000000 ∷ [])
unfolding entry_at body_at head_at caller_at gids_at uints_at entry_bytes body_bytes caller_bytes args_at lookup_at remove_at handle_at text_at dir_op_args_at moment_at dir_op_args_bytes moment_bytes bind give refuse opaque_at uhyper_at uint_at word double_word uint uhyper
refused = (refl, refl, refl, refl, refl, refl, refl)

handle_has_20 : length (opaque (handle 2)) ≡ 20
unfolding uint uhyper
handle_has_20 = refl

-- WRITE of 65,536 bytes has 65,604, for a caller of no further groups
write_has_65604 : (piece : List ℕ) → length piece ≡ 65536
    → length (entry_bytes (record { cred = nobody; moment = record { seconds = 1; nanos = 2 }; call = Write (handle 2) 0 65536 FileSync piece })) ≡ 65604
write_has_65604 piece long =
    let change : Change = record { cred = nobody; moment = record { seconds = 1; nanos = 2 }; call = Write (handle 2) 0 65536 FileSync piece } in
    let none : padding (length piece) ≡ 0 = ap padding long in
    let file : List ℕ = opaque (handle 2) in
    let args : length (file ++ uhyper 0 ++ uint 65536 ++ stable_how_bytes FileSync ++ opaque piece) ≡ 65576 =
    omega (arith, long, none, handle_has_20, length-opaque piece, length-append (file ++ uhyper 0 ++ uint 65536 ++ stable_how_bytes FileSync) (opaque piece), length-append (file ++ uhyper 0 ++ uint 65536) (stable_how_bytes FileSync), length-append (file ++ uhyper 0) (uint 65536), length-append file (uhyper 0), length-uhyper 0, length-uint 65536, length-stable_how_bytes FileSync) in
    omega (arith, length-entry_bytes change, length-body_bytes change, args)
