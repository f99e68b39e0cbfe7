use Rattle.tams_machine.proofs.Keeping.{Kept, and_so, asked_keeps, next_is}
use Rattle.tams_machine.proofs.Sending.{of_request}
use Rattle.tams_machine.specs.Answers.{asked_in, outcome_of, state_with_change}
use Rattle.tams_machine.specs.Laws.{KeepsBytes, KeepsDigests}
use Rattle.library_laws.specs.MediaLaws.{IsGoodArchive}
use Rattle.http_wire.specs.Framing.{method_kind}
use Rattle.tams_machine.proofs.laws.answers_keep.Goals as goal

pub returns : goal.returns
returns c = record {
  good = λ base r moment s good at fine.
      let sent = (of_request s.archive.library.id (method_kind r.head.method) r.head.target r.body).is in
      next_is (λ next. IsGoodArchive next.archive) s r.body (outcome_of s r moment).change
      (and_so _ (λ change (k : Kept s (state_with_change s change r.body)). k.good) (asked_keeps c.first_bytes_stay.ensures s r.body moment (asked_in s r) good at fine sent));
  bytes = λ base r moment s good at fine.
      let sent = (of_request s.archive.library.id (method_kind r.head.method) r.head.target r.body).is in
      next_is (KeepsBytes s) s r.body (outcome_of s r moment).change
      (and_so _ (λ change (k : Kept s (state_with_change s change r.body)). k.bytes) (asked_keeps c.first_bytes_stay.ensures s r.body moment (asked_in s r) good at fine sent));
  digests = λ base r moment s good at fine.
      let sent = (of_request s.archive.library.id (method_kind r.head.method) r.head.target r.body).is in
      next_is (KeepsDigests s) s r.body (outcome_of s r moment).change
      (and_so _ (λ change (k : Kept s (state_with_change s change r.body)). k.digests) (asked_keeps c.first_bytes_stay.ensures s r.body moment (asked_in s r) good at fine sent));
}
