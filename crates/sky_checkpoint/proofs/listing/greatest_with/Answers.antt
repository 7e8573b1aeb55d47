use Rattle.sky_checkpoint.proofs.ListingLaws.{greatest_greater, greatest_skips}
use Rattle.sky_checkpoint.proofs.listing.greatest_with.Goals as goal

pub returns-in-Proxy-clause-greatest : goal.returns-in-Proxy-clause-greatest
returns-in-Proxy-clause-greatest c = λ listed merged found. greatest_skips listed c.args.held.now merged c.args.greatest (λ other. cc) found

pub returns-in-Cleaner-clause-greatest : goal.returns-in-Cleaner-clause-greatest
returns-in-Cleaner-clause-greatest c = λ listed merged found. rw c.max.ensures (greatest_greater listed c.args.held.now merged c.args.greatest c.in-Cleaner.is found)
