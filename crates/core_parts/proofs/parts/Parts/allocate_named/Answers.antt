use Rattle.std.proofs.Common.{◌≡◌, ℕ, Some, take, sym, ap, ◌∙◌}
use Rattle.std.proofs.lemmas.Option.{slice_get_past, slice_get-get_or}
use Rattle.media_rows.specs.declared.change.Change.TheVariants as changes
use Rattle.media_rows.specs.declared.refusal.Refusal.TheVariants.{IdTaken}
use Rattle.media_rows.specs.Answer.{made_prefix}
use Rattle.media_rows.specs.Changes.{after}
use Rattle.media_rows.specs.Library.{Library}
use Rattle.core_parts.specs.Parts.{within_serials}
use Rattle.core_parts.specs.Within.{front_length}
use Rattle.core_parts.proofs.Named.{named_fault, named_free, named_taken}
use Rattle.core_parts.proofs.parts.Parts.allocate_named.Goals as goal

-- all ids are the front
pub returns-in-Ok : goal.returns-in-Ok
returns-in-Ok c =
    let library = c.args.self.now.library in
    let ids = c.args.ids.now in
    let front : c.front_length-front.result ≡ front_length (made_prefix library.id) ids = c.front_length-front.ensures.front
    ∙ ap (λ p. front_length p ids) (c.bytes.ensures ∙ c.in_ok-prefix.ensures ∙ ap (λ (l : Library). made_prefix l.id) (ap (λ p. p.library) c.self.view_is)) in
    let is = named_free library c.args.flow ids c.front_length-front.result front c.in-Ok.ensures.0
    (slice_get_past ids c.front_length-front.result c.if-front-ids.false) in
    (is.0, c.in-Ok.ensures.1 ∙ ap (λ l. within_serials (after (changes.Allocate c.args.now c.args.flow l) library)) is.1)

-- the first behind the front is the store's own
pub returns-then-front-ids : goal.returns-then-front-ids
returns-then-front-ids c =
    let library = c.args.self.now.library in
    let ids = c.args.ids.now in
    let front : c.front_length-front.result ≡ front_length (made_prefix library.id) ids = c.front_length-front.ensures.front
    ∙ ap (λ p. front_length p ids) (c.bytes.ensures ∙ c.in_ok-prefix.ensures ∙ ap (λ (l : Library). made_prefix l.id) (ap (λ p. p.library) c.self.view_is)) in
    named_taken library c.args.flow ids c.front_length-front.result c.index-ids-front.result front c.in-Ok.ensures.0
    (slice_get-get_or ids c.front_length-front.result c.index-ids-front.result c.if-front-ids.true ∙ ap Some (sym c.index-ids-front.is))
    ∙ ap (λ id. Some (IdTaken id)) (sym c.in_ok-id-in-Ok.ensures)

-- the front is refused
pub returns : goal.returns
returns c =
    let library = c.args.self.now.library in
    let ids = c.args.ids.now in
    let front : c.front_length-front.result ≡ front_length (made_prefix library.id) ids = c.front_length-front.ensures.front
    ∙ ap (λ p. front_length p ids) (c.bytes.ensures ∙ c.in_ok-prefix.ensures ∙ ap (λ (l : Library). made_prefix l.id) (ap (λ p. p.library) c.self.view_is)) in
    named_fault library c.args.flow ids c.front_length-front.result (within_serials (after (changes.Allocate c.args.now c.args.flow ids) library))
    (within_serials (after (changes.Allocate c.args.now c.args.flow (take c.front_length-front.result ids)) library)) c.in-Err.fault front c.in-Err.ensures
