use Rattle.std.specs.Prelude.{◌≡◌, ◌++◌, drop, map}
use Rattle.json_replies.specs.Shapes.{members_tokens}
use Rattle.json_replies.specs.Values.{tag_member}
use Rattle.json_replies.proofs.lists.show_tags.Given as goal

abbrev pub invariant-loop-tag : goal.invariant-loop-tag
invariant-loop-tag l =
    l.out ++ members_tokens (map tag_member (drop l.tag-index l.tags))
    ≡ l.initial.out ++ members_tokens (map tag_member l.tags)
