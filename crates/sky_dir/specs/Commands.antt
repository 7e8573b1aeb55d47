-- What any sequence of additions and removals does to a listing.
use Rattle.std.specs.Prelude.{ℕ, List, [], ◌∷◌}
use Rattle.sky_base.specs.Listing.{Listing, with_entry, without_entry}

-- a command that is carried out: an entry of this name and fileid is added, or the first entry of this name goes
pub data Command : Type 0 where
  Add : List ℕ → ℕ → Command
  Drop : List ℕ → Command

-- the listing after a command
abbrev pub after : Listing → Command → Listing
after l (Add name fileid) = with_entry l name fileid
after l (Drop name) = without_entry l name

-- the listing after all commands, in order
abbrev pub after_all : Listing → List Command → Listing
after_all l [] = l
after_all l (command ∷ commands) = after_all (after l command) commands

-- the cookies that the commands give out, in order
abbrev pub cookies_given : Listing → List Command → List ℕ
cookies_given l [] = []
cookies_given l (Add name fileid ∷ commands) = l.next_cookie ∷ cookies_given (with_entry l name fileid) commands
cookies_given l (Drop name ∷ commands) = cookies_given (without_entry l name) commands
