-- What the pairs of a query ask for. Our own profile of the Time-addressable Media Store.
use Rattle.std.specs.Prelude.{ℕ, nat_eq, List, drop, Bool, false, Option, Some, None, unwrap_or, option_map, option_and_then, if◌then◌else◌, codes}
use Rattle.std.specs.List.{filter_map, starts_with}
use Rattle.json_bodies.specs.Flow.{format_of}
use Rattle.media_rows.specs.Ids.{id_of}
use Rattle.media_rows.specs.declared.command.FlowFilter.{FlowFilter}
use Rattle.media_rows.specs.declared.command.Page.{Page}
use Rattle.media_rows.specs.declared.command.SegmentFilter.{SegmentFilter}
use Rattle.media_rows.specs.declared.command.SourceFilter.{SourceFilter}
use Rattle.media_rows.specs.declared.command.TagTest.{TagTest}
use Rattle.media_rows.specs.declared.command.TagTest.TheVariants.{Equals, Exists}
use Rattle.time_range.specs.Spelled.{range_in}
use Rattle.time_range.specs.declared.ranges.Span.{Span}
use Rattle.http_queries.specs.Numbers.{id_key_in, limit_in, point_in, truth_in, usual_items}
use Rattle.http_queries.specs.Pairs.{value_of}
use Rattle.http_queries.specs.declared.pairs.Pair.{Pair}

-- ---- ranges

-- the timerange that is asked for, where one is
abbrev pub range_of : List Pair → Option (Option Span)
range_of pairs = option_and_then range_in (value_of (codes "timerange") pairs)

-- the same, or all of the timeline
abbrev pub range_or_all : List Pair → Option Span
range_or_all pairs = unwrap_or (range_of pairs) (Some (record { low = None; high = None }))

-- ---- pages

-- how many items are asked for
abbrev pub limit_of : List Pair → ℕ
limit_of pairs = unwrap_or (option_and_then limit_in (value_of (codes "limit") pairs)) usual_items

-- a page of flows or sources
abbrev pub asked_list_page : List Pair → Page
asked_list_page pairs = record {
  after = option_and_then id_key_in (value_of (codes "page") pairs);
  limit = limit_of pairs;
  reverse = false;
}

-- the order that is asked for
abbrev pub is_reverse : List Pair → Bool
is_reverse pairs = unwrap_or (option_and_then truth_in (value_of (codes "reverse_order") pairs))
    false

-- a page of segments
abbrev pub asked_segment_page : List Pair → Page
asked_segment_page pairs = record {
  after = option_and_then point_in (value_of (codes "page") pairs);
  limit = limit_of pairs;
  reverse = is_reverse pairs;
}

-- ---- filters

-- the test whether a tag is there, which stands behind `tag_exists.`
unfoldable pub exists_test : Pair → Option TagTest
exists_test pair = option_map (Exists (drop 11 pair.name)) (truth_in pair.value)

-- the test on a tag that a pair asks for, where it does
abbrev pub tag_test : Pair → Option TagTest
tag_test pair =
    if starts_with nat_eq pair.name (codes "tag.")
    then Some (Equals (drop 4 pair.name) pair.value)
    else if starts_with nat_eq pair.name (codes "tag_exists.") then exists_test pair
    else None

-- the tests on tags, in the query's order
abbrev pub tag_tests : List Pair → List TagTest
tag_tests pairs = filter_map tag_test pairs

-- what a listed source must pass
abbrev pub source_filter : List Pair → SourceFilter
source_filter pairs = record {
  format = option_and_then format_of (value_of (codes "format") pairs);
  label = value_of (codes "label") pairs;
  tags = tag_tests pairs;
}

-- what a listed flow must pass
abbrev pub flow_filter : List Pair → FlowFilter
flow_filter pairs = record {
  source = option_and_then id_of (value_of (codes "source_id") pairs);
  format = option_and_then format_of (value_of (codes "format") pairs);
  codec = value_of (codes "codec") pairs;
  label = value_of (codes "label") pairs;
  tags = tag_tests pairs;
}

-- what a listed segment must pass
abbrev pub segment_filter : List Pair → SegmentFilter
segment_filter pairs = record {
  range = range_or_all pairs;
  object = value_of (codes "object_id") pairs;
}
