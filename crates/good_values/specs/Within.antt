-- Words that the calls within this crate cite, and no other crate.
use Rattle.std.specs.Prelude.{Bool, ◌&&◌}
use Rattle.std.specs.List.{list_all}
use Rattle.std.specs.Str.{is_utf8}
use Rattle.media_rows.specs.declared.flow.FlowBody.{FlowBody}
use Rattle.media_rows.specs.declared.hook.Hook.{Hook}
use Rattle.media_rows.specs.Good.{if_there, is_member_text, is_tag_text}

-- what a client says of a flow is UTF-8, but for the essence
abbrev pub are_plain_texts : FlowBody → Bool
are_plain_texts body =
    if_there is_utf8 body.codec && if_there is_utf8 body.container && if_there is_utf8 body.label
    && if_there is_utf8 body.description && list_all is_tag_text body.tags
    && list_all is_member_text body.members

-- a hook's texts are UTF-8
abbrev pub is_hook_in_utf8 : Hook → Bool
is_hook_in_utf8 hook =
    is_utf8 hook.url && if_there is_utf8 hook.key_name && if_there is_utf8 hook.key_value
