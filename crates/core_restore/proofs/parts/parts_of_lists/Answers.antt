use Rattle.std.proofs.Common.{◌&&◌, sym, ◌∙◌}
use Rattle.media_rows.specs.Good.{is_good}
use Rattle.media_book.specs.Media.{are_media_good, media_of}
use Rattle.core_restore.specs.Within.{are_values_good, is_rest_good, library_from_kinds}
use Rattle.core_restore.proofs.Handing.{from_rest, none_first, none_second}
use Rattle.core_restore.proofs.Joined.{good_is_parts}
use Rattle.core_restore.proofs.parts.parts_of_lists.Goals as goal
use Rattle.media_rows.proofs.RestoringLemmas.{handed_on}

-- values that aren't good are those of no good library
pub returns-then-not-branch : goal.returns-then-not-branch
returns-then-not-branch c =
    let library = library_from_kinds c.args.id c.args.blocks c.args.next_serial c.args.kinds in
    good_is_parts c.media_are_good.ensures c.args.id c.args.blocks c.args.next_serial c.args.kinds c.requires.order
    ∙ none_first (are_values_good library) (are_media_good (media_of library) && is_rest_good library)
    (sym c.in_ok-are_values_good.ensures ∙ c.if-not-branch.true)

-- all is restored where the rest is
pub returns-in-Ok : goal.returns-in-Ok
returns-in-Ok c =
    from_rest c.args.id c.args.blocks c.args.next_serial c.args.kinds _ _
    (good_is_parts c.media_are_good.ensures c.args.id c.args.blocks c.args.next_serial c.args.kinds c.requires.order)
    (sym c.in_ok-are_values_good.ensures ∙ c.if-not-branch.false) c.in-Ok.ensures.0 c.in-Ok.ensures.1 c.with_rest.ensures

-- nor are media that aren't good
pub returns-in-Err : goal.returns-in-Err
returns-in-Err c =
    let library = library_from_kinds c.args.id c.args.blocks c.args.next_serial c.args.kinds in
    handed_on c.in-Err.fault (are_media_good (media_of library)) (is_good library) (media_of library) library
    (λ never. good_is_parts c.media_are_good.ensures c.args.id c.args.blocks c.args.next_serial c.args.kinds c.requires.order
    ∙ none_second (are_values_good library) (are_media_good (media_of library) && is_rest_good library)
    (none_first (are_media_good (media_of library)) (is_rest_good library) never)) c.in-Err.ensures
