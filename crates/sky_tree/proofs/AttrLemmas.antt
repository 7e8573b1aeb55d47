-- The changes of a node make of its attributes what the definitions say.
use Rattle.std.proofs.Common.{◌≡◌, ℕ, ◌+◌, ◌-◌, List, [], ◌++◌, Option, Some, None, refl, sym, ap, true, arith, length, drop, length-append, length-drop}
use Rattle.std.specs.Prelude.{is_some, max}
use Rattle.std.proofs.lemmas.List.Sums.{sum_by_push}
use Rattle.sky_base.specs.Listing.{Entry, Listing, fileid_at, with_entry, without_entry, size_of_listing, size_of_name}
use Rattle.sky_base.specs.declared.moment.Moment.{Moment}
use Rattle.sky_base.specs.declared.cred.Cred.{Cred}
use Rattle.sky_dir.proofs.SizeLemmas.{size_falls}
use Rattle.sky_nfs.specs.Changes as nodes
use Rattle.sky_nfs.specs.declared.call.SetAttr.{SetAttr}
use Rattle.sky_nfs.specs.Procedures.SetAttr.{set_node}
use Rattle.sky_nfs.specs.Procedures.Write.{write_node}
use Rattle.sky_nfs.specs.Tree.{Node, Content, File, Directory, Link, attributes_of, directory_listing, directory_test, file_test, is_directory, is_file, listing_of, kind_of, size_of}
use Rattle.sky_nfs.proofs.KeptLemmas.{length-resized}
use Rattle.sky_tree.specs.AttrChanges.{sized, of_size, entered, left, set, taken}

-- another content of the same kind, from now on
touched : (v k : ℕ) (now : Moment) (n : Node) (c : Content) (size : ℕ) → kind_of c ≡ kind_of n.content → size_of c ≡ size → attributes_of v k (nodes.touch now (record n { content = c })) ≡ sized size now (attributes_of v k n)
touched v k now n c size kind is = rw (kind, is) refl

kind-listing : (f : Listing → Listing) (c : Content) → kind_of (nodes.with_listing f c) ≡ kind_of c
kind-listing f (File bytes) = refl
kind-listing f (Directory parent listing) = refl
kind-listing f (Link text) = refl

kind-bytes : (f : List ℕ → List ℕ) (c : Content) → kind_of (nodes.with_bytes f c) ≡ kind_of c
kind-bytes f (File bytes) = refl
kind-bytes f (Directory parent listing) = refl
kind-bytes f (Link text) = refl

-- an entry more
size-entry : (l : Listing) (name : List ℕ) (fileid : ℕ) → size_of_listing (with_entry l name fileid) ≡ size_of_listing l + size_of_name name
size-entry l name fileid = sum_by_push (λ (e : Entry). size_of_name e.name) l.entries (record { cookie = l.next_cookie; name = name; fileid = fileid })

size-entered : (c : Content) (name : List ℕ) (fileid : ℕ) → directory_test c ≡ true → size_of (nodes.with_listing (λ l. with_entry l name fileid) c) ≡ size_of c + size_of_name name
size-entered (File bytes) name fileid h = absurd (cc)
size-entered (Directory parent listing) name fileid h = size-entry listing name fileid
size-entered (Link text) name fileid h = absurd (cc)

pub attributes-enter : (v k : ℕ) (now : Moment) (name : List ℕ) (fileid : ℕ) (n : Node) → is_directory n ≡ true → attributes_of v k (nodes.enter now name fileid n) ≡ entered name now (attributes_of v k n)
attributes-enter v k now name fileid n h =
    touched v k now n (nodes.with_listing (λ l. with_entry l name fileid) n.content) (size_of n.content + size_of_name name) (kind-listing _ n.content) (size-entered n.content name fileid h)

-- an entry less
size-left : (c : Content) (name : List ℕ) (fileid : ℕ) → fileid_at (directory_listing c) name ≡ Some fileid → size_of (nodes.with_listing (λ l. without_entry l name) c) ≡ size_of c - size_of_name name
size-left (File bytes) name fileid h = absurd (cc)
size-left (Directory parent listing) name fileid h = let falls = size_falls listing name fileid (sym h) in omega arith
size-left (Link text) name fileid h = absurd (cc)

pub attributes-leave : (v k : ℕ) (now : Moment) (name : List ℕ) (fileid : ℕ) (n : Node) → fileid_at (listing_of n) name ≡ Some fileid → attributes_of v k (nodes.leave now name n) ≡ left name now (attributes_of v k n)
attributes-leave v k now name fileid n h =
    touched v k now n (nodes.with_listing (λ l. without_entry l name) n.content) (size_of n.content - size_of_name name) (kind-listing _ n.content) (size-left n.content name fileid h)

-- bytes that are written
length-written : (bytes : List ℕ) (offset : ℕ) (piece : List ℕ) → length (nodes.written bytes offset piece) ≡ max (length bytes) (offset + length piece)
length-written bytes offset piece =
    let outer = length-append (nodes.resized bytes offset ++ piece) (drop (offset + length piece) bytes) in
    let inner = length-append (nodes.resized bytes offset) piece in
    let rest = length-drop (offset + length piece) bytes in
    omega (arith, outer, inner, rest, length-resized bytes offset)

size-written : (c : Content) (offset : ℕ) (piece : List ℕ) → file_test c ≡ true → size_of (nodes.with_bytes (λ bytes. nodes.written bytes offset piece) c) ≡ max (size_of c) (offset + length piece)
size-written (File bytes) offset piece h = length-written bytes offset piece
size-written (Directory parent listing) offset piece h = absurd (cc)
size-written (Link text) offset piece h = absurd (cc)

pub attributes-write : (v k : ℕ) (now : Moment) (offset : ℕ) (piece : List ℕ) (n : Node) → is_file n ≡ true → attributes_of v k (write_node now offset piece n) ≡ sized (max (size_of n.content) (offset + length piece)) now (attributes_of v k n)
attributes-write v k now offset piece n h =
    touched v k now n (nodes.with_bytes (λ bytes. nodes.written bytes offset piece) n.content) (max (size_of n.content) (offset + length piece)) (kind-bytes _ n.content) (size-written n.content offset piece h)

-- a size that is set
size-resized : (c : Content) (size : ℕ) → file_test c ≡ true → size_of (nodes.with_bytes (λ bytes. nodes.resized bytes size) c) ≡ size
size-resized (File bytes) size h = length-resized bytes size
size-resized (Directory parent listing) size h = absurd (cc)
size-resized (Link text) size h = absurd (cc)

pub attributes-taken : (v k : ℕ) (now : Moment) (size : ℕ) (n : Node) → is_file n ≡ true → attributes_of v k (nodes.stamp now (nodes.with_size (Some size) now n)) ≡ taken (Some size) now (attributes_of v k n)
attributes-taken v k now size n h =
    touched v k now n (nodes.with_bytes (λ bytes. nodes.resized bytes size) n.content) size (kind-bytes _ n.content) (size-resized n.content size h)

pub attributes-set : (v k : ℕ) (how : SetAttr) (now : Moment) (n : Node) → (is_some how.size ≡ true → is_file n ≡ true) → attributes_of v k (set_node how now n) ≡ set how now (attributes_of v k n)
attributes-set v k how now n file = go how.size refl
  where
    go : (o : Option ℕ) → how.size ≡ o → attributes_of v k (set_node how now n) ≡ set how now (attributes_of v k n)
    go None e = rw e refl
    go (Some size) e =
        let plain : is_file n ≡ true = file (ap is_some e) in
        rw (e, kind-bytes (λ bytes. nodes.resized bytes size) n.content, size-resized n.content size plain) refl

-- a new link, and a new file, whose size is told
pub attributes-link : (v k : ℕ) (cred : Cred) (now : Moment) (mode : ℕ) (how : SetAttr) (text : List ℕ) → attributes_of v k (nodes.new_node cred now mode how (Link text)) ≡ of_size (length text) (attributes_of v k (nodes.new_node cred now mode how (Link [])))
attributes-link v k cred now mode how text = refl

pub attributes-file : (v k : ℕ) (cred : Cred) (now : Moment) (mode : ℕ) (how : SetAttr) (size : ℕ) → attributes_of v k (nodes.new_node cred now mode how (File (nodes.resized [] size))) ≡ of_size size (attributes_of v k (nodes.new_node cred now mode how (File [])))
attributes-file v k cred now mode how size = rw (length-resized [] size) refl
