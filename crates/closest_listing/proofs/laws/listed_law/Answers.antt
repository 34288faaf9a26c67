use Rattle.closest_listing.proofs.Listings.{listed}
use Rattle.closest_listing.proofs.laws.listed_law.Goals as goal

pub returns : goal.returns
returns _ = listed
