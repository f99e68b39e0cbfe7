-- The names that a query may have, by what it asks for, each with what its value must spell; and
-- the first pair of a query that is at fault. Our own profile of the Time-addressable Media
-- Store.
use Rattle.std.specs.Prelude.{ℕ, nat_eq, List, [], ◌∷◌, ◌++◌, Bool, true, false, not, ◌||◌, Option, Some, None, is_some, if◌then◌else◌, bytes_eq, codes}
use Rattle.std.specs.List.{list_any, starts_with}
use Rattle.json_bodies.specs.Flow.{format_of}
use Rattle.media_rows.specs.Ids.{id_of}
use Rattle.time_range.specs.Spelled.{range_in}
use Rattle.http_queries.specs.Numbers.{limit_in, point_in, truth_in}
use Rattle.http_queries.specs.Pairs.{is_pair_named}
use Rattle.http_queries.specs.declared.pairs.Pair.{Pair}
use Rattle.http_queries.specs.declared.rules.QueryKind.{QueryKind}
use Rattle.http_queries.specs.declared.rules.QueryKind.TheVariants.{Sources, Flows, Segments, Cut}
use Rattle.http_queries.specs.declared.rules.ValueRule.{ValueRule}
use Rattle.http_queries.specs.declared.rules.ValueRule.TheVariants as rules

-- ---- names

-- tests on tags, `tag.NAME` and `tag_exists.NAME`; no other name is listed
abbrev pub tag_name_rule : List ℕ → Option ValueRule
tag_name_rule name =
    if starts_with nat_eq name (codes "tag.") then Some rules.Any
    else if starts_with nat_eq name (codes "tag_exists.") then Some rules.Truth
    else None

-- a list of sources
abbrev pub source_rule : List ℕ → Option ValueRule
source_rule name =
    if bytes_eq name (codes "label") then Some rules.Any
    else if bytes_eq name (codes "format") then Some rules.Format
    else if bytes_eq name (codes "limit") then Some rules.Limit
    else if bytes_eq name (codes "page") then Some rules.Id
    else tag_name_rule name

-- a list of flows, with these names besides
abbrev pub flow_rule : List ℕ → Option ValueRule
flow_rule name =
    if bytes_eq name (codes "source_id") then Some rules.Id
    else if bytes_eq name (codes "timerange") then Some rules.Range
    else if bytes_eq name (codes "codec") then Some rules.Any
    else if bytes_eq name (codes "frame_width") || bytes_eq name (codes "frame_height")
    then Some rules.Never
    else source_rule name

-- a list of segments
abbrev pub segment_rule : List ℕ → Option ValueRule
segment_rule name =
    if bytes_eq name (codes "timerange") then Some rules.Range
    else if bytes_eq name (codes "object_id") then Some rules.Any
    else if bytes_eq name (codes "reverse_order") then Some rules.Truth
    else if bytes_eq name (codes "limit") then Some rules.Limit
    else if bytes_eq name (codes "page") then Some rules.Point
    else None

-- a deletion of segments, whose query has no other name
abbrev pub cut_rule : List ℕ → ValueRule
cut_rule name = if bytes_eq name (codes "timerange") then rules.Range else rules.Never

-- the rule of a name, where it is a listed one
unfoldable pub rule_of : QueryKind → List ℕ → Option ValueRule
rule_of Sources name = source_rule name
rule_of Flows name = flow_rule name
rule_of Segments name = segment_rule name
rule_of Cut name = Some (cut_rule name)

-- ---- values

-- a value spells what a rule says
abbrev pub is_read : ValueRule → List ℕ → Bool
is_read rules.Any value = true
is_read rules.Id value = is_some (id_of value)
is_read rules.Point value = is_some (point_in value)
is_read rules.Format value = is_some (format_of value)
is_read rules.Limit value = is_some (limit_in value)
is_read rules.Range value = is_some (range_in value)
is_read rules.Truth value = is_some (truth_in value)
is_read rules.Never value = false

-- ---- faults

-- a pair of a listed name is at fault where its name stood before, or its value isn't read
abbrev pub breaks : List Pair → Pair → Option ValueRule → Bool
breaks earlier pair None = false
breaks earlier pair (Some rule) =
    list_any (is_pair_named pair.name) earlier || not (is_read rule pair.value)

-- a pair is at fault behind earlier ones
abbrev pub is_faulty : QueryKind → List Pair → Pair → Bool
is_faulty kind earlier pair = breaks earlier pair (rule_of kind pair.name)

-- the name of the first pair at fault, with the pairs that stand before these
abbrev pub first_fault : QueryKind → List Pair → List Pair → Option (List ℕ)
first_fault kind earlier [] = None
first_fault kind earlier (pair ∷ pairs) =
    if is_faulty kind earlier pair then Some pair.name
    else first_fault kind (earlier ++ pair ∷ []) pairs

-- the name of the first pair of a query that is at fault
abbrev pub query_fault : QueryKind → List Pair → Option (List ℕ)
query_fault kind pairs = first_fault kind [] pairs
