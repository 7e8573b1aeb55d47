-- RENAME: its refusals in four parts, and what is known where it isn't refused.
use Rattle.std.proofs.Common.{◌≡◌, ℕ, ◌+◌, ◌++◌, List, Option, Some, None, refl, sym, ap, ◌∙◌, false}
use Rattle.std.specs.Prelude.{IsSome, option_map}
use Rattle.std.specs.Str.{bytes_eq}
use Rattle.std.proofs.lemmas.Bool.{eq-eqb}
use Rattle.sky_base.specs.Listing.{Entry, Listing, fileid_at, size_of_listing, size_of_name, without_entry}
use Rattle.sky_base.specs.declared.cred.Cred.{Cred}
use Rattle.sky_dir.proofs.OrderlyLemmas.{find_other}
use Rattle.sky_dir.proofs.SizeLemmas.{size_falls}
use Rattle.sky_nfs.specs.declared.call.Call.{Call}
use Rattle.sky_nfs.specs.declared.call.DirOpArgs.{DirOpArgs}
use Rattle.sky_nfs.specs.declared.status.NfsStatus.{NfsStatus}
use Rattle.sky_nfs.specs.Handles.{fileid_in}
use Rattle.sky_nfs.specs.Procedure.{refusal_of, rules_of}
use Rattle.sky_nfs.specs.Procedures.Rename.{staying}
use Rattle.sky_nfs.specs.Rules.{Rules, first_of}
use Rattle.sky_nfs.specs.Tree.{Tree, listing_of, named, the_node}
use Rattle.sky_tree.specs.Renaming.{rename_name_rules, rename_place_rules, rename_source_rules, rename_target_rules}
use Rattle.sky_tree.proofs.RuleLemmas.{refused_by, passed_by}

-- ---- the room for the new name

-- another name is found as before where one went
still_named : (l : Listing) (gone name : List ℕ) → bytes_eq gone name ≡ false → fileid_at (without_entry l gone) name ≡ fileid_at l name
still_named l gone name apart = ap (option_map (λ (e : Entry). e.fileid)) (find_other gone name l.entries apart)

some_of : (o : Option ℕ) → IsSome o → (f : ℕ) × (Some f ≡ o)
some_of None h = absurd (cc)
some_of (Some f) h = (f, refl)

-- in one directory the old name goes too
pub staying_same : (t : Tree) (from : ℕ) (from_name : List ℕ) (to : ℕ) (to_name : List ℕ) → from ≡ to → IsSome (named t from from_name) → bytes_eq to_name from_name ≡ false
    → size_of_listing (staying t from from_name to to_name) + size_of_name from_name ≡ size_of_listing (without_entry (listing_of (the_node t to)) to_name)
staying_same t from from_name to to_name same there apart =
    let l : Listing = listing_of (the_node t to) in
    let f = some_of (named t from from_name) there in
    let found : Some f.0 ≡ fileid_at (without_entry l to_name) from_name = f.1 ∙ ap (λ (k : ℕ). named t k from_name) same ∙ sym (still_named l to_name from_name apart) in
    let falls = size_falls (without_entry l to_name) from_name f.0 found in
    rw (eq-eqb from to same) falls

-- ---- the four parts

module _ (t : Tree) (cred : Cred) (at to_at : DirOpArgs) where
  abbrev pub place : Rules
  place = rename_place_rules t at.directory to_at.directory

  abbrev pub later : ℕ → List ℕ → ℕ → List ℕ → Rules
  later from from_name to to_name = rename_source_rules t cred from from_name to ++ rename_target_rules t from from_name to to_name

  -- they are all
  rename_parts : refusal_of t cred (Call.Rename at to_at) ≡ first_of (place ++ (rename_name_rules at.name to_at.name ++ later (fileid_in at.directory) at.name (fileid_in to_at.directory) to_at.name))
  unfolding refusal_of rules_of
  rename_parts = refl

  -- the directories and the names as the code has them
  pub record Args (from : ℕ) (from_name : List ℕ) (to : ℕ) (to_name : List ℕ) : Type 0 where
    pub from_is : from ≡ fileid_in at.directory
    pub to_is : to ≡ fileid_in to_at.directory
    pub from_name_is : from_name ≡ at.name
    pub to_name_is : to_name ≡ to_at.name

  module _ (from : ℕ) (from_name : List ℕ) (to : ℕ) (to_name : List ℕ) (a : Args from from_name to to_name) where
    all_parts : first_of (place ++ (rename_name_rules from_name to_name ++ later from from_name to to_name)) ≡ refusal_of t cred (Call.Rename at to_at)
    all_parts =
        let rules : ℕ → List ℕ → ℕ → List ℕ → Rules = λ f m k n. place ++ (rename_name_rules m n ++ later f m k n) in
        ap (λ (f : ℕ). first_of (rules f from_name to to_name)) a.from_is
        ∙ ap (λ (m : List ℕ). first_of (rules (fileid_in at.directory) m to to_name)) a.from_name_is
        ∙ ap (λ (k : ℕ). first_of (rules (fileid_in at.directory) at.name k to_name)) a.to_is
        ∙ ap (λ (n : List ℕ). first_of (rules (fileid_in at.directory) at.name (fileid_in to_at.directory) n)) a.to_name_is
        ∙ sym rename_parts

    pub place_refused : (e : NfsStatus) → Some e ≡ first_of place → Some e ≡ refusal_of t cred (Call.Rename at to_at)
    place_refused e h = refused_by place (rename_name_rules from_name to_name ++ later from from_name to to_name) e h ∙ all_parts

    pub names_refused : (e : NfsStatus) → None ≡ first_of place → Some e ≡ first_of (rename_name_rules from_name to_name) → Some e ≡ refusal_of t cred (Call.Rename at to_at)
    names_refused e p h =
        refused_by (rename_name_rules from_name to_name) (later from from_name to to_name) e h
        ∙ sym (passed_by place (rename_name_rules from_name to_name ++ later from from_name to to_name) p) ∙ all_parts

    rest_decides : None ≡ first_of place → None ≡ first_of (rename_name_rules from_name to_name) → first_of (later from from_name to to_name) ≡ refusal_of t cred (Call.Rename at to_at)
    rest_decides p n =
        sym (passed_by (rename_name_rules from_name to_name) (later from from_name to to_name) n)
        ∙ sym (passed_by place (rename_name_rules from_name to_name ++ later from from_name to to_name) p) ∙ all_parts

    pub source_refused : (e : NfsStatus) → None ≡ first_of place → None ≡ first_of (rename_name_rules from_name to_name) → Some e ≡ first_of (rename_source_rules t cred from from_name to) → Some e ≡ refusal_of t cred (Call.Rename at to_at)
    source_refused e p n h = refused_by (rename_source_rules t cred from from_name to) (rename_target_rules t from from_name to to_name) e h ∙ rest_decides p n

    pub target_decides : None ≡ first_of place → None ≡ first_of (rename_name_rules from_name to_name) → None ≡ first_of (rename_source_rules t cred from from_name to)
        → first_of (rename_target_rules t from from_name to to_name) ≡ refusal_of t cred (Call.Rename at to_at)
    target_decides p n s = sym (passed_by (rename_source_rules t cred from from_name to) (rename_target_rules t from from_name to to_name) s) ∙ rest_decides p n
