use Rattle.hls_manifest.proofs.ListingLemmas.{listing_is}
use Rattle.hls_manifest.proofs.laws.listings_read_back.Goals as goal

pub returns : goal.returns
returns c = listing_is
