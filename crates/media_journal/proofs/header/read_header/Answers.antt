use Rattle.media_journal.proofs.HeaderLemmas.{HeaderAnswer-front}
use Rattle.media_journal.proofs.header.read_header.Goals as goal

-- The bytes read are the first 41 of the image.
pub returns-clause-header : goal.returns-clause-header
returns-clause-header g c = λ shows. HeaderAnswer-front _ _ (rw (c.in_ok-read_at.ensures.read shows) at c.header_of.ensures)
