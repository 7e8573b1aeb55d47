use Rattle.std.proofs.Common.{◌∷◌, []}
use Rattle.sky_nfs.specs.Handles.{fileid_in}
use Rattle.sky_nfs.specs.Procedures.ReadDir.{is_too_small, left_behind}
use Rattle.sky_nfs.specs.declared.status.NfsStatus.TheVariants.{TooSmall}
use Rattle.sky_tree.specs.Listing.{fits_in, listing_rules}
use Rattle.sky_tree.proofs.RuleLemmas.{refused_by}
use Rattle.sky_tree.proofs.read_dir.page_of.Goals as goal

pub returns-in-Err-clause-refused : goal.returns-in-Err-clause-refused
returns-in-Err-clause-refused c =
    refused_by (listing_rules c.args.nodes.now c.args.cred.now c.args.directory.now c.args.cookie c.args.verifier.now)
    ((is_too_small (fits_in c.args.allowed) (left_behind c.args.nodes.now (fileid_in c.args.directory.now) c.args.cookie), TooSmall) ∷ [])
    c.in-Err.status c.in-Err.ensures.refused
