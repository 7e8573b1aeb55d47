-- The rules of refusal that several procedures share. A rule is a test, and the status that it gives where it is true.
-- A procedure's rules are tried in the order in which they stand.
use Rattle.std.specs.Prelude.{ℕ, ◌+◌, ◌^◌, Bool, false, cond, not, ◌||◌, ◌==◌, nat_lt, nat_le, List, [], ◌∷◌, ◌++◌, length, Option, Some, None, is_some}
use Rattle.std.specs.List.{list_any}
use Rattle.std.specs.Str.{bytes_eq}
use Rattle.sky_base.specs.declared.cred.Cred.{Cred}
use Rattle.sky_base.specs.declared.cred.Want.{Want}
use Rattle.sky_base.specs.Access.{may, may_or_owns, is_owner_or_superuser, may_set_owners}
use Rattle.sky_base.specs.Limits.{max_name_bytes, max_directory_bytes, max_cookie, max_nodes, max_fileid, max_file_bytes}
use Rattle.sky_base.specs.Listing.{Listing, size_of_listing, size_of_name}
use Rattle.sky_nfs.specs.declared.call.SetAttr.{SetAttr}
use Rattle.sky_nfs.specs.declared.call.SetTime.{SetTime}
use Rattle.sky_nfs.specs.declared.call.SetTime.TheVariants.{Keep, Server, Client}
use Rattle.sky_nfs.specs.declared.status.NfsStatus.{NfsStatus}
use Rattle.sky_nfs.specs.declared.status.NfsStatus.TheVariants.{Stale, BadHandle, NotDir, NameTooLong, Acces, NoSpc}
use Rattle.sky_nfs.specs.Tree.{Tree, node_at, the_node, attributes_at, is_directory, listing_of}
use Rattle.sky_nfs.specs.Handles.{is_handle_of, fileid_in}

-- rules in the order in which they are tried
abbrev pub Rules : Type 0
Rules = List (Bool × NfsStatus)

-- the status of the first rule whose test is true; none where nothing is refused
abbrev pub first_of : Rules → Option NfsStatus
first_of [] = None
first_of (rule ∷ rules) = cond rule.0 (Some rule.1) (first_of rules)

-- a handle that isn't this volume's is BADHANDLE; one whose node is gone is STALE
abbrev pub handle_rules : Tree → List ℕ → Rules
handle_rules t fh =
    (not (is_handle_of t.volume fh), BadHandle) ∷
    (not (is_some (node_at t.nodes (fileid_in fh))), Stale) ∷ []

-- whether no directory stands at a fileid
abbrev pub is_no_directory : Tree → ℕ → Bool
is_no_directory t fileid = not (is_directory (the_node t fileid))

-- a handle of a directory
abbrev pub directory_rules : Tree → List ℕ → Rules
directory_rules t fh = handle_rules t fh ++ (is_no_directory t (fileid_in fh), NotDir) ∷ []

-- the name of the directory itself
abbrev pub dot : List ℕ
dot = 46 ∷ []

-- the name of the parent
abbrev pub dot_dot : List ℕ
dot_dot = 46 ∷ 46 ∷ []

-- whether a name is `.`
abbrev pub is_dot : List ℕ → Bool
is_dot name = bytes_eq name dot

-- whether a name is `..`
abbrev pub is_dot_dot : List ℕ → Bool
is_dot_dot name = bytes_eq name dot_dot

-- whether a name is one of the two
abbrev pub is_dots : List ℕ → Bool
is_dots name = is_dot name || is_dot_dot name

-- whether a text has this byte
abbrev pub has_byte : ℕ → List ℕ → Bool
has_byte b text = list_any (λ c. c == b) text

-- whether a name may not stand in a directory: it is empty, or has a `/` or a NUL
abbrev pub is_bad_name : List ℕ → Bool
is_bad_name name = length name == 0 || has_byte 47 name || has_byte 0 name

-- a name as it may stand in a call
abbrev pub name_rules : List ℕ → Rules
name_rules name =
    (nat_lt max_name_bytes (length name), NameTooLong) ∷
    (is_bad_name name, Acces) ∷ []

-- whether a caller lacks a right
abbrev pub lacks : Tree → Cred → ℕ → Want → Bool
lacks t cred fileid want = not (may (attributes_at t fileid) cred want)

-- whether a caller lacks a right that the owner always has
abbrev pub lacks_unless_owner : Tree → Cred → ℕ → Want → Bool
lacks_unless_owner t cred fileid want = not (may_or_owns (attributes_at t fileid) cred want)

-- whether a caller is neither the owner nor user 0
abbrev pub is_stranger : Tree → Cred → ℕ → Bool
is_stranger t cred fileid = not (is_owner_or_superuser cred (attributes_at t fileid))

-- whether a time from the caller has nanoseconds of a second or more
abbrev pub is_bad_time : SetTime → Bool
is_bad_time Keep = false
is_bad_time Server = false
is_bad_time (Client time) = nat_le (10 ^ 9) time.nanos

-- whether one of the two times is such a one
abbrev pub has_bad_time : SetAttr → Bool
has_bad_time set = is_bad_time set.atime || is_bad_time set.mtime

-- whether a caller may not set these owners of a node with this owner and group
abbrev pub may_not_set_owners : Cred → ℕ → ℕ → SetAttr → Bool
may_not_set_owners cred uid gid set = not (may_set_owners cred uid gid set.uid set.gid)

-- whether a size is set that no file may have
abbrev pub is_too_big : Option ℕ → Bool
is_too_big None = false
is_too_big (Some size) = nat_lt max_file_bytes size

-- room for a new node
abbrev pub node_room_rules : Tree → Rules
node_room_rules t =
    (nat_le max_nodes (length t.nodes), NoSpc) ∷
    (nat_le max_fileid t.next_fileid, NoSpc) ∷ []

-- room for an entry in a listing
abbrev pub entry_room_rules : Listing → List ℕ → Rules
entry_room_rules l name =
    (nat_lt max_directory_bytes (size_of_listing l + size_of_name name), NoSpc) ∷
    (nat_le max_cookie l.next_cookie, NoSpc) ∷ []

-- room for a new node under a name of a directory
abbrev pub new_room_rules : Tree → ℕ → List ℕ → Rules
new_room_rules t dir name = node_room_rules t ++ entry_room_rules (listing_of (the_node t dir)) name
