-- Valid trees, and a history.
use Rattle.sky_nfs.specs.Handles.{volume_in, fileid_in}
use Rattle.std.proofs.Common.{◌≡◌, ℕ, [], ◌∷◌, refl, false}
use Rattle.std.specs.Prelude.{codes}
use Rattle.sky_nfs.specs.declared.call.Call.{Call}
use Rattle.sky_nfs.specs.declared.call.Change.{Change}
use Rattle.sky_nfs.specs.declared.call.CreateHow.TheVariants.{Guarded}
use Rattle.sky_nfs.specs.History.{History, IsLegalHistory, are_done, history_length, tree_at_length, last_tree}
use Rattle.sky_nfs.specs.Procedure.{tree_after, refusal_of, rules_of, changed_tree}
use Rattle.sky_nfs.specs.Tree.{empty_tree}
use Rattle.sky_nfs.specs.Validity.{IsValidTree}
use Rattle.sky_nfs.proofs.Checks.Sample.{sample, at, fh, owner, second, set_none}

-- the empty tree and the sample are valid
empty_is_valid : IsValidTree (empty_tree 1)
empty_is_valid = record {
  fileids = refl;
  root_is_directory = refl;
  root_is_top = refl;
  entries_name_nodes = refl;
  none_names_root = refl;
  nodes_have_names = refl;
  directories_have_one = refl;
  directories_stand_in_parents = refl;
  ways_lead_up = refl;
  names_differ = refl;
  cookies = refl;
  links = refl;
  modes = refl;
  contents_within = refl;
  links_within = refl;
  nodes_within = refl;
  fileid_within = refl;
  volume_within = refl;
}

sample_is_valid : IsValidTree sample
sample_is_valid = record {
  fileids = refl;
  root_is_directory = refl;
  root_is_top = refl;
  entries_name_nodes = refl;
  none_names_root = refl;
  nodes_have_names = refl;
  directories_have_one = refl;
  directories_stand_in_parents = refl;
  ways_lead_up = refl;
  names_differ = refl;
  cookies = refl;
  links = refl;
  modes = refl;
  contents_within = refl;
  links_within = refl;
  nodes_within = refl;
  fileid_within = refl;
  volume_within = refl;
}

change : Call → ℕ → Change
change call n = record { cred = owner; moment = second n; call = call }

-- two changes from the empty tree, and then one that is refused
history : History
history = record { before = 40; tree = empty_tree 1; changes = change (Call.Mkdir (at 1 (codes "d")) set_none) 1 ∷ change (Call.Create (at 2 (codes "f")) (Guarded set_none)) 2 ∷ [] }

lengths : history_length history ≡ 42
unfolding history volume_in fileid_in
lengths = refl

legal : IsLegalHistory history
unfolding history change tree_after refusal_of rules_of changed_tree volume_in fileid_in
legal = record { valid = empty_is_valid; done = refl }

refused_is_illegal : are_done (last_tree history) (change (Call.Rmdir (at 1 (codes "d"))) 3 ∷ []) ≡ false
unfolding history change tree_after refusal_of rules_of changed_tree volume_in fileid_in
refused_is_illegal = refl

reading_is_illegal : are_done (empty_tree 1) (change (Call.GetAttr (fh 1)) 3 ∷ []) ≡ false
unfolding change tree_after refusal_of rules_of changed_tree volume_in fileid_in
reading_is_illegal = refl

at_lengths :
    tree_at_length history 40 ≡ empty_tree 1
    × tree_at_length history 41 ≡ tree_after (empty_tree 1) owner (Call.Mkdir (at 1 (codes "d")) set_none) (second 1)
    × tree_at_length history 42 ≡ last_tree history
unfolding history change volume_in fileid_in
at_lengths = (refl, refl, refl)
