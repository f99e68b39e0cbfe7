-- The query of the next page: the pairs of this one but for `page`, in their order, and `page` with
-- the last key of this page, as the URL Standard writes a form (section 5.2).
use Rattle.std.specs.Prelude.{ℕ, List, [], Bool, not, filter, fold, codes}
use Rattle.form_urlencoded.specs.Form.{append_pair}
use Rattle.http_queries.specs.Pairs.{is_pair_named}
use Rattle.http_queries.specs.declared.pairs.Pair.{Pair}

-- the name of the key
abbrev pub page_name : List ℕ
page_name = codes "page"

-- a pair isn't the key
abbrev pub stays_in_link : Pair → Bool
stays_in_link pair = not (is_pair_named page_name pair)

-- a form with a pair more
abbrev pub form_with : List ℕ → Pair → List ℕ
form_with form pair = append_pair form pair.name pair.value

-- the form of the pairs but for the key
abbrev pub form_of : List Pair → List ℕ
form_of pairs = fold form_with [] (filter stays_in_link pairs)

-- the query of the page behind a key
abbrev pub next_query : List Pair → List ℕ → List ℕ
next_query pairs key = append_pair (form_of pairs) page_name key
