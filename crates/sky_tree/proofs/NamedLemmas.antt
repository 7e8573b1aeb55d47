-- Where a directory is found, the refusals on a name in it decide.
use Rattle.std.proofs.Common.{◌≡◌, ℕ, ◌++◌, [], ◌∷◌, List, Option, Some, None, refl, sym, ap, ◌∙◌, length}
use Rattle.std.specs.Prelude.{Bool, not, nat_lt, unwrap_or}
use Rattle.sky_base.specs.Limits.{max_link_text_bytes}
use Rattle.sky_base.specs.declared.cred.Cred.{Cred}
use Rattle.sky_nfs.specs.declared.call.Call.{Call}
use Rattle.sky_nfs.specs.declared.call.DirOpArgs.{DirOpArgs}
use Rattle.sky_nfs.specs.declared.call.SetAttr.{SetAttr}
use Rattle.sky_nfs.specs.declared.status.NfsStatus.{NfsStatus}
use Rattle.sky_nfs.specs.declared.status.NfsStatus.TheVariants.{Exist, Inval, IsDir, NameTooLong, NotDir, NotEmpty}
use Rattle.sky_nfs.specs.Handles.{fileid_in}
use Rattle.sky_nfs.specs.Procedure.{refusal_of, rules_of}
use Rattle.sky_nfs.specs.Procedures.Mkdir.{new_name_rules, new_attribute_rules}
use Rattle.sky_nfs.specs.Procedures.Remove.{old_name_rules, has_entries}
use Rattle.sky_nfs.specs.Rules.{Rules, first_of, directory_rules, name_rules, new_room_rules, has_byte, is_dot, is_dot_dot, is_dots}
use Rattle.sky_nfs.specs.Tree.{Tree, the_node, is_directory, named}
use Rattle.sky_tree.proofs.RuleLemmas.{refused_by, passed_by, refuses, passes}

-- a link's text
abbrev pub text_rules : List ℕ → Rules
text_rules text = (nat_lt max_link_text_bytes (length text), NameTooLong) ∷ (has_byte 0 text, Inval) ∷ []

-- a new directory or link
abbrev pub object_rules : Tree → Cred → ℕ → List ℕ → SetAttr → Rules
object_rules t cred dir name set = new_name_rules t cred dir name ++ new_attribute_rules cred set ++ new_room_rules t dir name

pub symlink_named : (t : Tree) (cred : Cred) (at : DirOpArgs) (set : SetAttr) (text : List ℕ) (dir : ℕ) (name piece : List ℕ) → dir ≡ fileid_in at.directory → name ≡ at.name → piece ≡ text → None ≡ first_of (directory_rules t at.directory)
    → first_of (name_rules name ++ text_rules piece ++ object_rules t cred dir name set) ≡ refusal_of t cred (Call.Symlink at set text)
unfolding refusal_of rules_of
symlink_named t cred at set text dir name piece d n p h =
    rw (d, n, p) (sym (passed_by (directory_rules t at.directory) (name_rules at.name ++ text_rules text ++ object_rules t cred (fileid_in at.directory) at.name set) h))

pub symlink_refused : (t : Tree) (cred : Cred) (at : DirOpArgs) (set : SetAttr) (text : List ℕ) (e : NfsStatus) → Some e ≡ first_of (directory_rules t at.directory) → Some e ≡ refusal_of t cred (Call.Symlink at set text)
unfolding refusal_of rules_of
symlink_refused t cred at set text e h =
    refused_by (directory_rules t at.directory) (name_rules at.name ++ text_rules text ++ object_rules t cred (fileid_in at.directory) at.name set) e h

pub symlink_made : (t : Tree) (cred : Cred) (at : DirOpArgs) (set : SetAttr) (text : List ℕ) (dir : ℕ) (name piece : List ℕ) → dir ≡ fileid_in at.directory → name ≡ at.name → piece ≡ text → None ≡ first_of (directory_rules t at.directory)
    → None ≡ first_of (name_rules name) → None ≡ first_of (text_rules piece) → (x : Option NfsStatus) → x ≡ first_of (object_rules t cred dir name set) → x ≡ refusal_of t cred (Call.Symlink at set text)
symlink_made t cred at set text dir name piece d n p h short fits x made =
    made ∙ sym (passed_by (text_rules piece) (object_rules t cred dir name set) fits) ∙ sym (passed_by (name_rules name) (text_rules piece ++ object_rules t cred dir name set) short) ∙ symlink_named t cred at set text dir name piece d n p h

-- the two names that no directory gives up
abbrev pub dots_rules : List ℕ → Rules
dots_rules name = (is_dot name, Inval) ∷ (is_dot_dot name, Exist) ∷ []

-- what is no directory, and a directory that has entries
abbrev pub emptied_rules : Tree → ℕ → Rules
emptied_rules t fileid = (not (is_directory (the_node t fileid)), NotDir) ∷ (has_entries (the_node t fileid), NotEmpty) ∷ []

pub rmdir_refused : (t : Tree) (cred : Cred) (at : DirOpArgs) (e : NfsStatus) → Some e ≡ first_of (directory_rules t at.directory) → Some e ≡ refusal_of t cred (Call.Rmdir at)
unfolding refusal_of rules_of
rmdir_refused t cred at e h =
    refused_by (directory_rules t at.directory) (name_rules at.name ++ dots_rules at.name ++ old_name_rules t cred (fileid_in at.directory) at.name ++ emptied_rules t (unwrap_or (named t (fileid_in at.directory) at.name) 0)) e h

pub rmdir_named : (t : Tree) (cred : Cred) (at : DirOpArgs) (dir : ℕ) (name : List ℕ) → dir ≡ fileid_in at.directory → name ≡ at.name → None ≡ first_of (directory_rules t at.directory)
    → first_of (name_rules name ++ dots_rules name ++ old_name_rules t cred dir name ++ emptied_rules t (unwrap_or (named t dir name) 0)) ≡ refusal_of t cred (Call.Rmdir at)
unfolding refusal_of rules_of
rmdir_named t cred at dir name d n h =
    rw (d, n) (sym (passed_by (directory_rules t at.directory) (name_rules at.name ++ dots_rules at.name ++ old_name_rules t cred (fileid_in at.directory) at.name ++ emptied_rules t (unwrap_or (named t (fileid_in at.directory) at.name) 0)) h))

pub rmdir_dots : (t : Tree) (cred : Cred) (at : DirOpArgs) (dir : ℕ) (name : List ℕ) → dir ≡ fileid_in at.directory → name ≡ at.name → None ≡ first_of (directory_rules t at.directory) → None ≡ first_of (name_rules name)
    → first_of (dots_rules name ++ old_name_rules t cred dir name ++ emptied_rules t (unwrap_or (named t dir name) 0)) ≡ refusal_of t cred (Call.Rmdir at)
rmdir_dots t cred at dir name d n h short =
    sym (passed_by (name_rules name) (dots_rules name ++ old_name_rules t cred dir name ++ emptied_rules t (unwrap_or (named t dir name) 0)) short) ∙ rmdir_named t cred at dir name d n h

pub rmdir_old : (t : Tree) (cred : Cred) (at : DirOpArgs) (dir : ℕ) (name : List ℕ) → dir ≡ fileid_in at.directory → name ≡ at.name → None ≡ first_of (directory_rules t at.directory) → None ≡ first_of (name_rules name) → None ≡ first_of (dots_rules name)
    → first_of (old_name_rules t cred dir name ++ emptied_rules t (unwrap_or (named t dir name) 0)) ≡ refusal_of t cred (Call.Rmdir at)
rmdir_old t cred at dir name d n h short plain =
    sym (passed_by (dots_rules name) (old_name_rules t cred dir name ++ emptied_rules t (unwrap_or (named t dir name) 0)) plain) ∙ rmdir_dots t cred at dir name d n h short

pub rmdir_emptied : (t : Tree) (cred : Cred) (at : DirOpArgs) (dir : ℕ) (name : List ℕ) (fileid : ℕ) → dir ≡ fileid_in at.directory → name ≡ at.name → None ≡ first_of (directory_rules t at.directory) → None ≡ first_of (name_rules name) → None ≡ first_of (dots_rules name)
    → None ≡ first_of (old_name_rules t cred dir name) → named t dir name ≡ Some fileid → first_of (emptied_rules t fileid) ≡ refusal_of t cred (Call.Rmdir at)
rmdir_emptied t cred at dir name fileid d n h short plain old found =
    sym (ap (λ (o : Option ℕ). first_of (emptied_rules t (unwrap_or o 0))) found) ∙ sym (passed_by (old_name_rules t cred dir name) (emptied_rules t (unwrap_or (named t dir name) 0)) old) ∙ rmdir_old t cred at dir name d n h short plain

-- what is a directory
abbrev pub kept_rules : Tree → Option ℕ → Rules
kept_rules t found = (is_directory (the_node t (unwrap_or found 0)), IsDir) ∷ []

-- the two names that are directories
abbrev pub plain_rules : List ℕ → Rules
plain_rules name = (is_dots name, IsDir) ∷ []

pub remove_refused : (t : Tree) (cred : Cred) (at : DirOpArgs) (e : NfsStatus) → Some e ≡ first_of (directory_rules t at.directory) → Some e ≡ refusal_of t cred (Call.Remove at)
unfolding refusal_of rules_of
remove_refused t cred at e h =
    refused_by (directory_rules t at.directory) (name_rules at.name ++ plain_rules at.name ++ old_name_rules t cred (fileid_in at.directory) at.name ++ kept_rules t (named t (fileid_in at.directory) at.name)) e h

pub remove_named : (t : Tree) (cred : Cred) (at : DirOpArgs) (dir : ℕ) (name : List ℕ) → dir ≡ fileid_in at.directory → name ≡ at.name → None ≡ first_of (directory_rules t at.directory)
    → first_of (name_rules name ++ plain_rules name ++ old_name_rules t cred dir name ++ kept_rules t (named t dir name)) ≡ refusal_of t cred (Call.Remove at)
unfolding refusal_of rules_of
remove_named t cred at dir name d n h =
    rw (d, n) (sym (passed_by (directory_rules t at.directory) (name_rules at.name ++ plain_rules at.name ++ old_name_rules t cred (fileid_in at.directory) at.name ++ kept_rules t (named t (fileid_in at.directory) at.name)) h))

pub remove_plain : (t : Tree) (cred : Cred) (at : DirOpArgs) (dir : ℕ) (name : List ℕ) → dir ≡ fileid_in at.directory → name ≡ at.name → None ≡ first_of (directory_rules t at.directory) → None ≡ first_of (name_rules name)
    → first_of (plain_rules name ++ old_name_rules t cred dir name ++ kept_rules t (named t dir name)) ≡ refusal_of t cred (Call.Remove at)
remove_plain t cred at dir name d n h short =
    sym (passed_by (name_rules name) (plain_rules name ++ old_name_rules t cred dir name ++ kept_rules t (named t dir name)) short) ∙ remove_named t cred at dir name d n h

pub remove_dotted : (t : Tree) (cred : Cred) (at : DirOpArgs) (dir : ℕ) (name : List ℕ) → dir ≡ fileid_in at.directory → name ≡ at.name → None ≡ first_of (directory_rules t at.directory) → None ≡ first_of (name_rules name)
    → (b : Bool) (e : NfsStatus) → b ≡ is_dots name → Some e ≡ first_of ((b, IsDir) ∷ []) → Some e ≡ refusal_of t cred (Call.Remove at)
remove_dotted t cred at dir name d n h short b e is dotted =
    refused_by (plain_rules name) (old_name_rules t cred dir name ++ kept_rules t (named t dir name)) e (refuses b (is_dots name) IsDir e None is dotted) ∙ remove_plain t cred at dir name d n h short

pub remove_old : (t : Tree) (cred : Cred) (at : DirOpArgs) (dir : ℕ) (name : List ℕ) → dir ≡ fileid_in at.directory → name ≡ at.name → None ≡ first_of (directory_rules t at.directory) → None ≡ first_of (name_rules name)
    → (b : Bool) → b ≡ is_dots name → None ≡ first_of ((b, IsDir) ∷ []) → first_of (old_name_rules t cred dir name ++ kept_rules t (named t dir name)) ≡ refusal_of t cred (Call.Remove at)
remove_old t cred at dir name d n h short b is plain =
    sym (passed_by (plain_rules name) (old_name_rules t cred dir name ++ kept_rules t (named t dir name)) (passes b (is_dots name) IsDir None None is plain refl)) ∙ remove_plain t cred at dir name d n h short

pub remove_kept : (t : Tree) (cred : Cred) (at : DirOpArgs) (dir : ℕ) (name : List ℕ) → dir ≡ fileid_in at.directory → name ≡ at.name → None ≡ first_of (directory_rules t at.directory) → None ≡ first_of (name_rules name)
    → (b : Bool) → b ≡ is_dots name → None ≡ first_of ((b, IsDir) ∷ []) → None ≡ first_of (old_name_rules t cred dir name) → (fileid : ℕ) → named t dir name ≡ Some fileid
    → (kept : Bool) → kept ≡ is_directory (the_node t fileid) → first_of ((kept, IsDir) ∷ []) ≡ refusal_of t cred (Call.Remove at)
remove_kept t cred at dir name d n h short b is plain old fileid found kept stays =
    rw stays (sym (ap (λ (o : Option ℕ). first_of (kept_rules t o)) found) ∙ sym (passed_by (old_name_rules t cred dir name) (kept_rules t (named t dir name)) old) ∙ remove_old t cred at dir name d n h short b is plain)
