-- What a credential may do with an object, by the object's owner, group and mode.
use Rattle.std.specs.Prelude.{ℕ, ◌/◌, ◌%◌, Bool, false, cond, not, ◌&&◌, ◌||◌, ◌==◌, Option, Some, None, unwrap_or}
use Rattle.std.specs.List.{list_any}
use Rattle.sky_base.specs.declared.attr.Attr.{Attr}
use Rattle.sky_base.specs.declared.cred.Cred.{Cred}
use Rattle.sky_base.specs.declared.cred.Want.{Want}
use Rattle.sky_base.specs.declared.cred.Want.TheVariants.{Read, Write, Execute}

-- whether a credential is of a group
abbrev pub is_of_group : Cred → ℕ → Bool
is_of_group cred gid = cred.gid == gid || list_any (λ g. g == gid) cred.gids

-- whether it is the owner's
abbrev pub owns : Cred → Attr → Bool
owns cred attr = cred.uid == attr.uid

-- the digit of an octal mode that counts for a credential: the owner's, else the group's, else the others'
abbrev pub digit_for : Attr → Cred → ℕ
digit_for attr cred = cond (owns cred attr) (attr.mode / 64) (cond (is_of_group cred attr.gid) (attr.mode / 8) attr.mode) % 8

-- whether an octal digit grants a want: 4 reading, 2 writing, 1 executing
abbrev pub grants : ℕ → Want → Bool
grants digit Read = digit / 4 % 2 == 1
grants digit Write = digit / 2 % 2 == 1
grants digit Execute = digit % 2 == 1

-- whether a credential may do it: user 0 always, else by the mode
abbrev pub may : Attr → Cred → Want → Bool
may attr cred want = cred.uid == 0 || grants (digit_for attr cred) want

-- whether it may do what the owner always may, whatever the mode is
abbrev pub may_or_owns : Attr → Cred → Want → Bool
may_or_owns attr cred want = may attr cred want || owns cred attr

-- whether it is the owner's or user 0's
abbrev pub is_owner_or_superuser : Cred → Attr → Bool
is_owner_or_superuser cred attr = cred.uid == 0 || owns cred attr

-- whether a field is set to another value than it has
abbrev pub is_changed : Option ℕ → ℕ → Bool
is_changed None old = false
is_changed (Some new) old = not (new == old)

-- whether it may set these owners, each of them or none, of an object with this owner and group: only user 0 gives
-- another owner, and only user 0, or the owner to a group of its own, gives another group
abbrev pub may_set_owners : Cred → ℕ → ℕ → Option ℕ → Option ℕ → Bool
may_set_owners cred uid gid new_uid new_gid =
    cred.uid == 0 ||
    not (is_changed new_uid uid) &&
    (not (is_changed new_gid gid) || cred.uid == uid && is_of_group cred (unwrap_or new_gid gid))
