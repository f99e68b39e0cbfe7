-- What a command needs so that the library takes it: its texts are UTF-8, its essence text is
-- one, the ids of its objects have their form, its segments are bounded, and its page has an
-- item.
use Rattle.std.specs.Prelude.{Bool, true, nat_le}
use Rattle.std.specs.List.{list_all}
use Rattle.std.specs.Str.{is_utf8}
use Rattle.json_bodies.specs.Hook.{has_hook_texts}
use Rattle.json_bodies.specs.Part.{is_part_text}
use Rattle.json_bodies.specs.Segments.{is_post_good}
use Rattle.media_rows.specs.Sound.{is_want_good}
use Rattle.media_rows.specs.Good.{is_body_text}
use Rattle.media_rows.specs.Ids.{is_object_id}
use Rattle.media_rows.specs.declared.command.Command.{Command}
use Rattle.media_rows.specs.declared.command.Command.TheVariants as commands
use Rattle.media_rows.specs.declared.command.Query.{Query}
use Rattle.media_rows.specs.declared.command.Query.TheVariants as queries
use Rattle.tams_http.specs.declared.ask.Ask.{Ask}
use Rattle.tams_http.specs.declared.ask.Ask.TheVariants.{Run, PutMedia, GetMedia}

-- a question that the library takes
abbrev pub is_query_good : Query → Bool
is_query_good queries.Root = true
is_query_good queries.Service = true
is_query_good queries.Hooks = true
is_query_good (queries.Sources filter page) = nat_le 1 page.limit
is_query_good (queries.Source id) = true
is_query_good (queries.SourcePart id name) = true
is_query_good (queries.Flows filter range page) = nat_le 1 page.limit
is_query_good (queries.Flow id) = true
is_query_good (queries.FlowPart id name) = true
is_query_good (queries.Segments id filter page) = nat_le 1 page.limit
is_query_good (queries.Object object) = is_object_id object
is_query_good queries.Requests = true
is_query_good (queries.Request serial) = true

-- a command that the library takes
abbrev pub is_command_good : Command → Bool
is_command_good (commands.PutFlow flow) = is_body_text flow
is_command_good (commands.SetFlow id part) = is_part_text part
is_command_good (commands.SetSource id part) = is_part_text part
is_command_good (commands.DropFlow id) = true
is_command_good (commands.Allocate id want) = is_want_good want
is_command_good (commands.Keep object start size digest) = is_object_id object
is_command_good (commands.AddSegments id posts) = list_all is_post_good posts.segments
is_command_good (commands.CutSegments id range) = true
is_command_good (commands.PutHook hook) = has_hook_texts hook
is_command_good (commands.DropHook url) = is_utf8 url
is_command_good (commands.Ask query) = is_query_good query

-- so it is for what a request asks for
abbrev pub is_ask_good : Ask → Bool
is_ask_good (Run command) = is_command_good command
is_ask_good (PutMedia object) = is_object_id object
is_ask_good (GetMedia object) = is_object_id object
