use Rattle.std.proofs.Common.{◌≡◌, ◌++◌, option_map, IsTrue}
use Rattle.std.specs.List.{list_all}
use Rattle.serde_json.specs.View.{members_view}
use Rattle.media_rows.specs.Good.{is_tag_text}
use Rattle.json_bodies.specs.Flow.{each_tag}
use Rattle.json_bodies.proofs.tags.each_tag.Given as goal

-- the tags so far stand before those of the members that are left, and each is good
abbrev pub invariant-loop-name : goal.invariant-loop-name
invariant-loop-name l =
    (option_map (λ rest. l.tags ++ rest) (each_tag (members_view l.name-iterator)) ≡ each_tag (members_view l.members.entries))
    × IsTrue (list_all is_tag_text l.tags)
