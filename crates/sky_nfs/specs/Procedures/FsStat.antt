-- FSSTAT, FSINFO and PATHCONF, RFC 1813 sections 3.3.18 to 3.3.20: numbers of the file system.
use Rattle.std.specs.Prelude.{ℕ, ◌-◌, ◌^◌, true, false, List, length}
use Rattle.sky_base.specs.Limits.{max_transfer, max_file_bytes, max_nodes, max_name_bytes, max_links}
use Rattle.sky_nfs.specs.declared.answer.FsStatOk.{FsStatOk}
use Rattle.sky_nfs.specs.declared.answer.FsInfoOk.{FsInfoOk}
use Rattle.sky_nfs.specs.declared.answer.PathConfOk.{PathConfOk}
use Rattle.sky_nfs.specs.Tree.{Tree}
use Rattle.sky_nfs.specs.Results.{post_attributes}

-- the results of FSSTAT: the tree has room for so many nodes more
abbrev pub fsstat : Tree → List ℕ → FsStatOk
fsstat t root = record {
  root = post_attributes t root;
  total_bytes = 2 ^ 50;
  free_bytes = 2 ^ 50;
  available_bytes = 2 ^ 50;
  total_files = max_nodes;
  free_files = max_nodes - length t.nodes;
  available_files = max_nodes - length t.nodes;
  invariant_seconds = 0;
}

-- the properties are hard links 1, symbolic links 2, the same PATHCONF everywhere 8, and settable times 16
abbrev pub fsinfo : Tree → List ℕ → FsInfoOk
fsinfo t root = record {
  root = post_attributes t root;
  read_max = max_transfer;
  read_preferred = max_transfer;
  read_multiple = 512;
  write_max = max_transfer;
  write_preferred = max_transfer;
  write_multiple = 512;
  directory_preferred = max_transfer;
  max_file_size = max_file_bytes;
  time_delta = record { seconds = 0; nanos = 1 };
  properties = 27;
}

-- the results of PATHCONF
abbrev pub pathconf : Tree → List ℕ → PathConfOk
pathconf t object = record {
  object = post_attributes t object;
  link_max = max_links;
  name_max = max_name_bytes;
  no_truncation = true;
  chown_restricted = true;
  case_insensitive = false;
  case_preserving = true;
}
