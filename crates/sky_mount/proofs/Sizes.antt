-- How many bytes the results have.
--   root-parts                                                the results of MNT of the root, item by item
--   seven_written                                             seven writes, one behind the other
--   length-root, length-none, length-no_mounts, length-export how many bytes they have
--   sizes                                                     these, and those of XDR's items, by one name
use Rattle.std.proofs.Common.{◌≡◌, ◌++◌, [], ℕ, List, Some, None, length, refl, sym, ◌∙◌, append_assoc, arith}
use Rattle.std.proofs.lemmas.List.{length-append, append-nil}
use Rattle.sky_nfs.specs.Tree.{root}
use Rattle.sky_xdr.specs.Encoding.{uint, uhyper}
use Rattle.sky_xdr.proofs.Opaques.{length-opaque}
use Rattle.sky_xdr.proofs.Numbers.{length-uint, length-uhyper, length-bool}
use Rattle.sky_mount.specs.Mount.{root_handle, mount_results, no_mounts, one_export}

-- seven parts, of which the third and fourth are one item
seven : (a b c d e f g : List ℕ) → a ++ (b ++ (c ++ d) ++ []) ++ (e ++ f ++ g) ≡ a ++ b ++ c ++ d ++ e ++ f ++ g
seven a b c d e f g = simp (append_assoc, append-nil)

pub root-parts : (volume : ℕ) → mount_results (Some (root_handle volume)) ≡ uint 0 ++ uint 16 ++ uhyper volume ++ uhyper root ++ uint 2 ++ uint 1 ++ uint 0
unfolding mount_results root_handle uhyper
root-parts volume = seven (uint 0) (uint 16) (uhyper volume) (uhyper root) (uint 2) (uint 1) (uint 0)

-- seven writes, one behind the other
pub seven_written : (p q r s t u v w a b c d e f g : List ℕ) → q ≡ p ++ a → r ≡ q ++ b → s ≡ r ++ c → t ≡ s ++ d → u ≡ t ++ e → v ≡ u ++ f → w ≡ v ++ g
    → w ≡ p ++ (a ++ b ++ c ++ d ++ e ++ f ++ g)
seven_written p q r s t u v w a b c d e f g ea eb ec ed ee ef eg = rw (eg, ef, ee, ed, ec, eb, ea) (simp append_assoc)

pub length-root : (volume : ℕ) → length (mount_results (Some (root_handle volume))) ≡ 36
length-root volume = rw root-parts (simp (length-append, length-uint, length-uhyper))

pub length-none : length (mount_results None) ≡ 4
unfolding mount_results
length-none = length-uint 2

pub length-no_mounts : length no_mounts ≡ 4
unfolding no_mounts
length-no_mounts = simp length-bool

pub length-export : length one_export ≡ 20
unfolding one_export uint
length-export = refl

pub ruleset sizes = (length-append, length-uint, length-uhyper, length-bool, length-opaque, root-parts, length-root, length-none, length-no_mounts, length-export)
