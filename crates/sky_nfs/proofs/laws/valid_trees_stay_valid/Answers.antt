use Rattle.std.proofs.Common.{refl}
use Rattle.std.proofs.lemmas.Bool.{le-leb}
use Rattle.sky_base.specs.Limits.{max_volume}
use Rattle.sky_nfs.specs.Laws.{EachCallKeepsValid}
use Rattle.sky_nfs.specs.declared.call.Call.TheVariants.{Null, GetAttr, SetAttr, Lookup, Access, ReadLink, Read, Write, Create, Mkdir, Symlink, Mknod, Remove, Rmdir, Rename, Link, ReadDir, ReadDirPlus, FsStat, FsInfo, PathConf, Commit}
use Rattle.sky_nfs.proofs.CreateLemmas.{create_kept, mkdir_kept, symlink_kept}
use Rattle.sky_nfs.proofs.KeptLemmas.{setattr_kept, write_kept, reading_kept}
use Rattle.sky_nfs.proofs.LinkLemmas.{link_kept}
use Rattle.sky_nfs.proofs.RemoveLemmas.{remove_kept, rmdir_kept}
use Rattle.sky_nfs.proofs.RenameLemmas.{rename_kept}
use Rattle.sky_nfs.proofs.laws.valid_trees_stay_valid.Goals as goal

each_kept : EachCallKeepsValid
each_kept Null = reading_kept Null refl
each_kept (GetAttr object) = reading_kept (GetAttr object) refl
each_kept (SetAttr object set guard) = setattr_kept object set guard
each_kept (Lookup at) = reading_kept (Lookup at) refl
each_kept (Access object rights) = reading_kept (Access object rights) refl
each_kept (ReadLink link) = reading_kept (ReadLink link) refl
each_kept (Read file offset count) = reading_kept (Read file offset count) refl
each_kept (Write file offset count how piece) = write_kept file offset count how piece
each_kept (Create at how) = create_kept at how
each_kept (Mkdir at set) = mkdir_kept at set
each_kept (Symlink at set text) = symlink_kept at set text
each_kept (Mknod at what) = reading_kept (Mknod at what) refl
each_kept (Remove at) = remove_kept at
each_kept (Rmdir at) = rmdir_kept at
each_kept (Rename from to) = rename_kept from to
each_kept (Link file at) = link_kept file at
each_kept (ReadDir directory cookie verifier count) = reading_kept (ReadDir directory cookie verifier count) refl
each_kept (ReadDirPlus directory cookie verifier dircount maxcount) = reading_kept (ReadDirPlus directory cookie verifier dircount maxcount) refl
each_kept (FsStat root) = reading_kept (FsStat root) refl
each_kept (FsInfo root) = reading_kept (FsInfo root) refl
each_kept (PathConf object) = reading_kept (PathConf object) refl
each_kept (Commit file offset count) = reading_kept (Commit file offset count) refl

pub returns-clause-begins : goal.returns-clause-begins
returns-clause-begins c = λ volume within. record {
  fileids = refl;
  root_is_directory = refl;
  root_is_top = refl;
  entries_name_nodes = refl;
  none_names_root = refl;
  nodes_have_names = refl;
  directories_have_one = refl;
  directories_stand_in_parents = refl;
  ways_lead_up = refl;
  names_differ = refl;
  cookies = refl;
  links = refl;
  modes = refl;
  contents_within = refl;
  links_within = refl;
  nodes_within = refl;
  fileid_within = refl;
  volume_within = le-leb volume max_volume within;
}

pub returns-clause-stays : goal.returns-clause-stays
returns-clause-stays c = each_kept
