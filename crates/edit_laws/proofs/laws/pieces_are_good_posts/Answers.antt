use Rattle.edit_laws.proofs.KeptPieces.{pieces_are_good_posts}
use Rattle.edit_laws.proofs.laws.pieces_are_good_posts.Goals as goal

pub returns : goal.returns
returns c = pieces_are_good_posts c.pieces_are_good.ensures.posts
