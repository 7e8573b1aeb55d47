-- The steps of a move may be done in an order in which all that wants memory comes first.
use Rattle.std.proofs.Common.{◌≡◌, ◌≢◌, ℕ, ◌+◌, List, [], ◌∷◌, ◌++◌, Some, None, refl, ap, sym, ◌∙◌, subst, true, false, cond}
use Rattle.std.proofs.Common.{inl, inr}
use Rattle.std.specs.Prelude.{◌⊎◌, ◌==◌, Bool, nat_le, IsSome}
use Rattle.std.specs.Str.{bytes_eq}
use Rattle.std.proofs.lemmas.Bool.{cases_Bool, eqb-true, eqb-false}
use Rattle.sky_base.specs.declared.moment.Moment.{Moment}
use Rattle.sky_base.specs.Listing.{Entry, Listing, fileid_at, with_entry, without_entry, without_name}
use Rattle.sky_dir.proofs.SizeLemmas.{size_stays}
use Rattle.sky_nfs.specs.Changes.{drop_link, edit, enter, erase, leave, put, release, remove_name, stamp, touch, with_listing}
use Rattle.sky_nfs.specs.Procedures.Rename.{move_directory, move_name}
use Rattle.sky_nfs.specs.Tree.{Tree, Node, Content, File, Directory, Link, directory_listing, is_directory, listing_of, named, node_at, the_node}
use Rattle.sky_nodes.specs.Ascending.{Ascends}
use Rattle.sky_nodes.proofs.EditLemmas.{edit-swap, edit-twice, erase-edit, other_node}

-- ---- of a directory

-- an entry that comes last stays where one of another name goes
without-push : (es : List Entry) (e : Entry) (name : List ℕ) → bytes_eq e.name name ≡ false → without_name (es ++ e ∷ []) name ≡ without_name es name ++ e ∷ []
without-push [] e name h = rw h refl
without-push (d ∷ es) e name h =
    elim (bytes_eq d.name name) as (λ b. cond b (es ++ e ∷ []) (d ∷ without_name (es ++ e ∷ []) name) ≡ cond b es (d ∷ without_name es name) ++ e ∷ [])
    [ true ↦ refl | false ↦ ap (λ (l : List Entry). d ∷ l) (without-push es e name h) ]

content_swap : (c : Content) (old new : List ℕ) (f : ℕ) → bytes_eq new old ≡ false → with_listing (λ l. without_entry l old) (with_listing (λ l. with_entry l new f) c) ≡ with_listing (λ l. with_entry l new f) (with_listing (λ l. without_entry l old) c)
content_swap (File bytes) old new f h = refl
content_swap (Directory parent l) old new f h =
    let e : Entry = record { cookie = l.next_cookie; name = new; fileid = f } in
    ap (λ (es : List Entry). Directory parent (record { entries = es; next_cookie = l.next_cookie + 1 })) (without-push l.entries e old h)
content_swap (Link text) old new f h = refl

-- a name comes and another one goes, in either order
leave_enter : (now : Moment) (old new : List ℕ) (f : ℕ) (d : Node) → bytes_eq new old ≡ false → leave now old (enter now new f d) ≡ enter now new f (leave now old d)
leave_enter now old new f d h = ap (λ (c : Content). touch now (record d { content = c })) (content_swap d.content old new f h)

content_absent : (c : Content) (name : List ℕ) (f : ℕ) → None ≡ fileid_at (directory_listing c) name → with_listing (λ l. with_entry l name f) (with_listing (λ l. without_entry l name) c) ≡ with_listing (λ l. with_entry l name f) c
content_absent (File bytes) name f h = refl
content_absent (Directory parent l) name f h = ap (λ (k : Listing). Directory parent (with_entry k name f)) (size_stays l name h)
content_absent (Link text) name f h = refl

-- nothing goes where the name isn't there
enter_absent : (now : Moment) (name : List ℕ) (f : ℕ) (d : Node) → None ≡ fileid_at (listing_of d) name → enter now name f (leave now name d) ≡ enter now name f d
enter_absent now name f d h = ap (λ (c : Content). touch now (record d { content = c })) (content_absent d.content name f h)

-- ---- of the tree

module _ (t : Tree) (now : Moment) (dir : ℕ) (name : List ℕ) (f : ℕ) where
  abbrev pub coming : Node → Node
  coming d = enter now name f d

  abbrev pub going : Node → Node
  going d = leave now name d

  -- the tree in which the entry was replaced, and its node is as it was
  abbrev pub replaced : Tree
  replaced = edit t dir (λ d. coming (going d))

  -- what becomes of a node, by the node
  abbrev pub freed : Tree → ℕ → Node → Tree
  freed u g n = cond (is_directory n) (edit (erase u g) dir drop_link) (cond (nat_le n.nlink 1) (erase u g) (edit u g (λ m. stamp now (drop_link m))))

  -- the node of the entry that went may go after the new one came
  pub replaced_some : (g : ℕ) → named t dir name ≡ Some g → g ≢ dir → Ascends t → IsSome (node_at t.nodes dir) → release replaced now dir g ≡ edit (remove_name t now dir name) dir coming
  replaced_some g found differ ordered there =
      let away : dir ≢ g = λ e. differ (sym e) in
      let same : the_node replaced g ≡ the_node t g = other_node t dir g (coming (going (the_node t dir))) away in
      let was : the_node (edit t dir going) g ≡ the_node t g = other_node t dir g (going (the_node t dir)) away in
      let there_it_is : remove_name t now dir name ≡ release (edit t dir going) now dir g = rw found refl in
      ap (λ (n : Node). freed replaced g n) same ∙ by (is_directory (the_node t g)) (nat_le (the_node t g).nlink 1)
      ∙ sym (ap (λ (n : Node). edit (freed (edit t dir going) g n) dir coming) was) ∙ sym (ap (λ (u : Tree). edit u dir coming) there_it_is)
    where
      first : erase (edit t dir going) g ≡ edit (erase t g) dir going
      first = erase-edit t dir g going ordered there differ

      both : erase replaced g ≡ edit (erase t g) dir (λ d. coming (going d))
      both = erase-edit t dir g (λ d. coming (going d)) ordered there differ

      by : (b d : Bool) → cond b (edit (erase replaced g) dir drop_link) (cond d (erase replaced g) (edit replaced g (λ n. stamp now (drop_link n))))
          ≡ edit (cond b (edit (erase (edit t dir going) g) dir drop_link) (cond d (erase (edit t dir going) g) (edit (edit t dir going) g (λ n. stamp now (drop_link n))))) dir coming
      by true d =
          ap (λ (u : Tree). edit u dir drop_link) both ∙ edit-twice (erase t g) dir (λ d. coming (going d)) drop_link
          ∙ sym (edit-twice (erase t g) dir (λ d. drop_link (going d)) coming)
          ∙ sym (ap (λ (u : Tree). edit u dir coming) (edit-twice (erase t g) dir going drop_link))
          ∙ sym (ap (λ (u : Tree). edit (edit u dir drop_link) dir coming) first)
      by false true = both ∙ sym (edit-twice (erase t g) dir going coming) ∙ sym (ap (λ (u : Tree). edit u dir coming) first)
      by false false =
          ap (λ (u : Tree). edit u g (λ n. stamp now (drop_link n))) (sym (edit-twice t dir going coming)) ∙ edit-swap (edit t dir going) dir g coming (λ n. stamp now (drop_link n)) (λ e. differ (sym e))

  -- and where there was none nothing else is to be done
  pub replaced_none : None ≡ named t dir name → replaced ≡ edit (remove_name t now dir name) dir coming
  replaced_none none = rw (sym none) (ap (put t dir) (enter_absent now name f (the_node t dir) none))

-- the old name may go after the new one came
pub left_after : (t : Tree) (now : Moment) (from : ℕ) (old : List ℕ) (to : ℕ) (new : List ℕ) (f : ℕ) → (from ≡ to → bytes_eq new old ≡ false) → edit (edit t to (λ d. enter now new f d)) from (λ d. leave now old d) ≡ edit (edit t from (λ d. leave now old d)) to (λ d. enter now new f d)
left_after t now from old to new f differ = go (cases_Bool (to == from))
  where
    go : ((to == from) ≡ true) ⊎ ((to == from) ≡ false) → edit (edit t to (λ d. enter now new f d)) from (λ d. leave now old d) ≡ edit (edit t from (λ d. leave now old d)) to (λ d. enter now new f d)
    go (inl same) =
        let is : to ≡ from = eqb-true to from same in
        let apart : bytes_eq new old ≡ false = differ (sym is) in
        subst (λ (k : ℕ). edit (edit t to (λ d. enter now new f d)) k (λ d. leave now old d) ≡ edit (edit t k (λ d. leave now old d)) to (λ d. enter now new f d)) is
        (edit-twice t to (λ d. enter now new f d) (λ d. leave now old d) ∙ ap (put t to) (leave_enter now old new f (the_node t to) apart) ∙ sym (edit-twice t to (λ d. leave now old d) (λ d. enter now new f d)))
    go (inr other) = edit-swap t to from (λ d. enter now new f d) (λ d. leave now old d) (eqb-false to from other)

-- the whole move
pub moved_after : (t : Tree) (now : Moment) (from : ℕ) (old : List ℕ) (to : ℕ) (new : List ℕ) (f : ℕ) (b : Bool) (u w left : Tree) → (from ≡ to → bytes_eq new old ≡ false) → b ≡ is_directory (the_node t f)
    → u ≡ edit (remove_name t now to new) to (λ d. enter now new f d) → left ≡ edit (edit u from (λ d. leave now old d)) f (λ n. stamp now n) → w ≡ cond b (move_directory left from to f) left
    → w ≡ move_name t now from old to new f
moved_after t now from old to new f b u w left differ kind is left_is w_is =
    let moved : left ≡ edit (edit (edit (remove_name t now to new) from (λ d. leave now old d)) to (λ d. enter now new f d)) f (λ n. stamp now n) =
    left_is ∙ ap (λ (x : Tree). edit (edit x from (λ d. leave now old d)) f (λ n. stamp now n)) is ∙ ap (λ (x : Tree). edit x f (λ n. stamp now n)) (left_after (remove_name t now to new) now from old to new f differ) in
    w_is ∙ ap (λ (x : Tree). cond b (move_directory x from to f) x) moved
    ∙ ap (λ (c : Bool). cond c (move_directory (edit (edit (edit (remove_name t now to new) from (λ d. leave now old d)) to (λ d. enter now new f d)) f (λ n. stamp now n)) from to f) (edit (edit (edit (remove_name t now to new) from (λ d. leave now old d)) to (λ d. enter now new f d)) f (λ n. stamp now n))) kind
