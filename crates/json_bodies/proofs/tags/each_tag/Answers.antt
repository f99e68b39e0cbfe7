-- One more tag stands at the end of those so far.
use Rattle.std.proofs.Common.{◌≡◌, ◌∙◌, sym, refl, ap, true, ℕ, List, [], ◌∷◌, ◌++◌, Option, Some, None, option_map, append_assoc, string_bytes}
use Rattle.std.proofs.lemmas.List.Folds.{list_all-append}
use Rattle.serde_json.specs.Data.{Data, Members, member}
use Rattle.serde_json.specs.View.{view, members_view}
use Rattle.media_rows.specs.Good.{is_tag_text}
use Rattle.media_rows.specs.declared.flow.Tag.{Tag}
use Rattle.json_bodies.specs.Flow.{each_tag}
use Rattle.json_bodies.specs.Kinds.{tag_of_value}
use Rattle.json_bodies.proofs.tags.each_tag.Goals as goal

-- a tag in front of the rest is a tag behind those so far
joined : (so_far : List Tag) (tag : Tag) (rest : Option (List Tag))
    → option_map (λ r. (so_far ++ tag ∷ []) ++ r) rest ≡ option_map (λ r. so_far ++ r) (option_map (λ r. tag ∷ r) rest)
joined so_far tag None = refl
joined so_far tag (Some r) = ap Some (append_assoc so_far (tag ∷ []) r)

more : (so_far : List Tag) (tag : Tag) (name : List ℕ) (value : Data) (rest : Members) (whole : Option (List Tag))
    → option_map (λ r. so_far ++ r) (each_tag (member name value rest)) ≡ whole → tag_of_value name value ≡ Some tag
    → option_map (λ r. (so_far ++ tag ∷ []) ++ r) (each_tag rest) ≡ whole
more so_far tag name value rest whole done is = joined so_far tag (each_tag rest) ∙ (rw is at done)

pub loop-name-preserved : goal.loop-name-preserved
loop-name-preserved c =
    let done = rw c.in-Some.ensures.steps at c.loop-name.invariant.0 in
    let name = string_bytes c.in-Some.name.now in
    let value = view c.in-Some.value.now in
    let is : tag_of_value name value ≡ Some c.in-Some-2.tag = sym c.in_ok-tag.ensures.tag ∙ c.in-Some-2.is in
    let pushed = c.in_ok-push.ensures.ok in
    let tags : option_map (λ r. c.push.new.self ++ r) (each_tag (members_view c.next.new.self)) ≡ each_tag (members_view c.args.members.now.entries) =
    rw pushed (more c.loop-name.tags c.in-Some-2.tag name value (members_view c.next.new.self) _ done is) in
    let good : is_tag_text c.in-Some-2.tag ≡ true = rw c.in-Some-2.is at c.in_ok-tag.ensures.good in
    (tags, rw pushed (list_all-append is_tag_text c.loop-name.tags (c.in-Some-2.tag ∷ []) ∙ rw (c.loop-name.invariant.1, good) refl))
