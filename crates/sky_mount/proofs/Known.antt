-- The definitions on known bytes: each lemma holds by computation.
use Rattle.std.proofs.Common.{◌≡◌, List, ℕ, [], ◌∷◌, ◌++◌, Ok, Err, codes, refl}
use Rattle.sky_xdr.specs.Encoding.{uint}
use Rattle.sky_xdr.specs.Reading.{word, uint_at, opaque_at, end_at}
use Rattle.sky_mount.specs.declared.args.ArgFault.TheVariants.{NoSuchProc, Garbage}
use Rattle.sky_mount.specs.Mount.{Mnt, Dump, Export, root_handle, mount_results, no_mounts, one_export, results}
use Rattle.sky_mount.specs.Reading.{none_at, path_at, args_at}

-- a word of one byte
abbrev w : ℕ → List ℕ
w n = 0 ∷ 0 ∷ 0 ∷ n ∷ []

mnt_is_read : args_at 1 (w 1 ++ (47 ∷ 0 ∷ 0 ∷ 0 ∷ [])) ≡ Ok (Mnt (codes "/"))
unfolding args_at path_at uint_at opaque_at end_at word
mnt_is_read = refl

mnt_of_nothing : args_at 1 [] ≡ Err Garbage
unfolding args_at path_at uint_at opaque_at
mnt_of_nothing = refl

bytes_left : args_at 0 (w 0) ≡ Err Garbage
unfolding args_at none_at end_at
bytes_left = refl

sixth : args_at 6 [] ≡ Err NoSuchProc
unfolding args_at
sixth = refl

-- MNT of `/` in volume 258
mounted : results 258 (Mnt (codes "/")) ≡ w 0 ++ w 16 ++ (0 ∷ 0 ∷ 0 ∷ 0 ∷ 0 ∷ 0 ∷ 1 ∷ 2 ∷ []) ++ (w 0 ++ w 1) ++ w 2 ++ w 1 ++ w 0
unfolding mount_results root_handle uint
mounted = refl

not_exported : results 258 (Mnt (codes "//")) ≡ w 2
unfolding mount_results uint
not_exported = refl

dumped : results 258 Dump ≡ w 0
unfolding no_mounts uint
dumped = refl

exported : results 258 Export ≡ w 1 ++ w 1 ++ (47 ∷ 0 ∷ 0 ∷ 0 ∷ []) ++ w 0 ++ w 0
unfolding one_export uint
exported = refl
