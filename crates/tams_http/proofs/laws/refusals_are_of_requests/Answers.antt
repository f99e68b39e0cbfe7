-- What a request asks for is a chain of steps, and each step refuses as a request does.
use Rattle.tams_http.proofs.OfRequests.{of_request}
use Rattle.tams_http.proofs.laws.refusals_are_of_requests.Goals as goal

pub returns : goal.returns
returns c = λ store method target body. (of_request store method target body).is
