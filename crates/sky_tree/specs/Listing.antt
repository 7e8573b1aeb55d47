-- Pages of a directory: what of it is left to show, what a caller allows, and the refusals without the last.
use Rattle.std.specs.Prelude.{ℕ, ◌+◌, ◌*◌, Bool, ◌&&◌, ◌||◌, nat_le, List, [], ◌∷◌, ◌++◌, Option, Some, None}
use Rattle.sky_base.specs.declared.cred.Cred.{Cred}
use Rattle.sky_base.specs.declared.cred.Want.TheVariants.{Read}
use Rattle.sky_base.specs.Listing.{Entry}
use Rattle.sky_dir.specs.Items.{listed_of}
use Rattle.sky_dir.specs.declared.page.Listed.{Listed}
use Rattle.sky_nfs.specs.declared.status.NfsStatus.TheVariants.{Acces, BadCookie}
use Rattle.sky_nfs.specs.Handles.{fileid_in}
use Rattle.sky_nfs.specs.Procedures.ReadDir.{empty_page_size, fits, fits_plus, is_bad_cookie, max_page_bytes}
use Rattle.sky_nfs.specs.Rules.{Rules, directory_rules, lacks}
use Rattle.sky_nfs.specs.Tree.{Tree}
use Rattle.sky_tree.specs.declared.allowed.Allowed.{Allowed}
use Rattle.sky_tree.specs.declared.allowed.Allowed.TheVariants.{Names, NamesPlus}

-- entries with one before them, where there is that one
abbrev pub in_front : Option Listed → List Entry → List Entry
in_front None es = es
in_front (Some e) es = listed_of e ∷ es

-- whether a page stays within what a caller allows
abbrev pub fits_in : Allowed → List Entry → Bool
fits_in (Names count) page = fits count page
fits_in (NamesPlus dircount maxcount) page = fits_plus dircount maxcount page

-- the same, by how many entries it has and by their bytes without attributes and handles
abbrev pub size_fits_in : Allowed → ℕ → ℕ → Bool
size_fits_in (Names count) entries bytes = nat_le (empty_page_size + bytes) (max_page_bytes count)
size_fits_in (NamesPlus dircount maxcount) entries bytes =
    nat_le (empty_page_size + (bytes + 112 * entries)) (max_page_bytes maxcount) && (nat_le entries 1 || nat_le bytes dircount)

-- the refusals that don't ask what fits
abbrev pub listing_rules : Tree → Cred → List ℕ → ℕ → List ℕ → Rules
listing_rules t cred directory cookie verifier =
    directory_rules t directory ++
    (lacks t cred (fileid_in directory) Read, Acces) ∷
    (is_bad_cookie cookie verifier, BadCookie) ∷ []
