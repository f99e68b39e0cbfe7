use Rattle.media_journal.proofs.ReadingLemmas.{one_reading, one_torn_reading, torn_or_whole}
use Rattle.media_journal.proofs.OpeningLemmas.{reads_as_store, damaged_unreadable}
use Rattle.media_journal.proofs.AnswerLemmas.{one_answer}
use Rattle.media_journal.proofs.open.one_reading.Goals as goal

-- Each law holds of every image.
pub returns : goal.returns
returns c = record {
  whole = one_reading;
  torn = one_torn_reading;
  store = reads_as_store;
  torn_or_whole = λ image h at form rows records torn j gate again other found whole.
      torn_or_whole image h j at gate form again rows other records found torn whole;
  damaged = damaged_unreadable;
  answer = one_answer;
}
