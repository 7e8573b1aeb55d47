-- FSSTAT, FSINFO, PATHCONF and NULL.
use Rattle.sky_nfs.specs.Handles.{volume_in, fileid_in}
use Rattle.std.proofs.Common.{◌≡◌, List, [], ◌∷◌, Some, Ok, refl, true, false}
use Rattle.sky_nfs.specs.declared.answer.Answer.{Answer}
use Rattle.sky_nfs.specs.declared.call.Call.{Call}
use Rattle.sky_nfs.specs.declared.status.NfsStatus.TheVariants.{Stale, BadHandle}
use Rattle.sky_nfs.specs.Tree.{attributes_at}
use Rattle.sky_nfs.specs.Procedure.{procedure, tree_after, refusal_of, rules_of, changed_tree, answer_of}
use Rattle.sky_nfs.proofs.Checks.Sample.{Case, sample, refusals, statuses, fh, gone, foreign, owner, now}

cases : List Case
cases =
    (owner, Call.FsStat foreign, BadHandle) ∷
    (owner, Call.FsStat gone, Stale) ∷
    (owner, Call.FsInfo foreign, BadHandle) ∷
    (owner, Call.FsInfo gone, Stale) ∷
    (owner, Call.PathConf foreign, BadHandle) ∷
    (owner, Call.PathConf gone, Stale) ∷ []

refused : refusals sample cases ≡ statuses cases
unfolding refusal_of rules_of cases volume_in fileid_in
refused = refl

null : procedure sample 1 owner Call.Null now ≡ record { tree = sample; answer = Answer.Null }
unfolding procedure tree_after refusal_of rules_of changed_tree answer_of volume_in fileid_in
null = refl

-- the sample has 7 nodes
fsstat :
    procedure sample 1 owner (Call.FsStat (fh 2)) now
    ≡ record {
      tree = sample;
      answer = Answer.FsStat (Ok (record {
        root = Some (attributes_at sample 2);
        total_bytes = 1125899906842624;
        free_bytes = 1125899906842624;
        available_bytes = 1125899906842624;
        total_files = 1048576;
        free_files = 1048569;
        available_files = 1048569;
        invariant_seconds = 0;
      }));
    }
unfolding procedure tree_after refusal_of rules_of changed_tree answer_of volume_in fileid_in
fsstat = refl

fsinfo :
    procedure sample 1 owner (Call.FsInfo (fh 1)) now
    ≡ record {
      tree = sample;
      answer = Answer.FsInfo (Ok (record {
        root = Some (attributes_at sample 1);
        read_max = 65536;
        read_preferred = 65536;
        read_multiple = 512;
        write_max = 65536;
        write_preferred = 65536;
        write_multiple = 512;
        directory_preferred = 65536;
        max_file_size = 1073741824;
        time_delta = record { seconds = 0; nanos = 1 };
        properties = 27;
      }));
    }
unfolding procedure tree_after refusal_of rules_of changed_tree answer_of volume_in fileid_in
fsinfo = refl

pathconf :
    procedure sample 1 owner (Call.PathConf (fh 1)) now
    ≡ record {
      tree = sample;
      answer = Answer.PathConf (Ok (record {
        object = Some (attributes_at sample 1);
        link_max = 32000;
        name_max = 255;
        no_truncation = true;
        chown_restricted = true;
        case_insensitive = false;
        case_preserving = true;
      }));
    }
unfolding procedure tree_after refusal_of rules_of changed_tree answer_of volume_in fileid_in
pathconf = refl
