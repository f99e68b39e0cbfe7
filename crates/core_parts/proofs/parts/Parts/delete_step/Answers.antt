use Rattle.std.proofs.Common.{◌≡◌, true, false, Some, ap, ap₂, sym, ◌∙◌}
use Rattle.std.specs.Prelude.{◌&&◌}
use Rattle.media_rows.specs.Changes.{is_flow_gone}
use Rattle.media_rows.specs.Requests.{after_step, first_unfinished, is_finished_by_step, removed_by_step}
use Rattle.media_book.specs.Media.{media_of, without_rows}
use Rattle.core_registry.specs.Going.{hull_if_any, with_requests}
use Rattle.core_registry.specs.Registry.{registry_of, within}
use Rattle.core_parts.specs.Within.{lost_by}
use Rattle.core_parts.proofs.Stepped.{stepping}
use Rattle.core_parts.proofs.parts.Parts.delete_step.Goals as goal
use Rattle.core_parts.proofs.parts.Parts.delete_step.Goals.{then-finished, else-finished}

-- the first segments of the request go, and its flow with them where that is said
pub returns : goal.returns
returns c =
    let library = c.args.self.now.library in
    let request = c.in-Some.request.now in
    let now = c.args.now in
    let due : first_unfinished library.requests ≡ Some request =
    sym (c.in-Some.ensures ∙ ap first_unfinished (c.requests.ensures ∙ ap (λ l. l.requests) (ap (λ p. p.library) c.self.view_is))) in
    let asked : c.requests-2.result.now ≡ library.requests = c.requests-2.ensures ∙ ap (λ l. l.requests) (ap (λ p. p.library) c.self.view_is) in
    let due_there : first_unfinished c.requests-2.result.now ≡ Some request = ap first_unfinished asked ∙ due in
    let media : c.self.inside.media.media ≡ media_of library = ap media_of (ap (λ p. p.library) c.self.view_is) in
    let r : c.in_ok-book.removed ≡ c.in_ok-book.field-0.removed = search in
    let f : c.in_ok-book.finished ≡ c.in_ok-book.field-0.finished = search in
    let b : c.in_ok-book.book ≡ c.in_ok-book.field-0.book = search in
    let removed : c.in_ok-book.removed ≡ removed_by_step library.segments request =
    r ∙ c.in_ok-book.ensures.removed request due_there ∙ ap (λ m. removed_by_step m.segments request) media in
    let finished : c.in_ok-book.finished ≡ is_finished_by_step library.segments request =
    f ∙ c.in_ok-book.ensures.finished request due_there ∙ ap (λ m. is_finished_by_step m.segments request) media in
    let book : c.in_ok-book.book ≡ after_step request.serial (is_finished_by_step library.segments request) now library.requests =
    b ∙ c.in_ok-book.ensures.book request due_there ∙ ap₂ (λ done requests. after_step request.serial done now requests) (sym f ∙ finished) asked in
    let left : c.in_ok-media.media.media ≡ without_rows (removed_by_step library.segments request) now (media_of library) =
    c.in_ok-media.ensures ∙ ap₂ (λ rows m. without_rows rows now m) (c.items-2.ensures ∙ sym r ∙ removed) media in
    let stepped : c.in_ok-stepped.stepped ≡ with_requests (after_step request.serial (is_finished_by_step library.segments request) now library.requests)
    (registry_of library) =
    c.in_ok-stepped.ensures ∙ ap₂ with_requests (sym b ∙ book) (ap registry_of (ap (λ p. p.library) c.self.view_is)) in
    let hull : c.hull_if_any-hull.result ≡ hull_if_any (removed_by_step library.segments request) =
    c.hull_if_any-hull.ensures ∙ ap hull_if_any (c.items.ensures ∙ sym r ∙ removed) in
    let gone : c.if-finished.gone ≡ is_flow_gone request library =
    elim c.if-finished.branch [
      | then-finished w ↦
          let t : true ≡ c.in_ok-book.finished = search in
          let g : c.if-finished.gone ≡ request.delete_flow = search in
          g ∙ ap (λ d. d && request.delete_flow) (t ∙ finished)
      | else-finished w ↦
          let t : false ≡ c.in_ok-book.finished = search in
          let g : c.if-finished.gone ≡ false = search in
          g ∙ ap (λ d. d && request.delete_flow) (t ∙ finished)
    ] in
    c.with_both.ensures
    ∙ stepping c.going_is_told.ensures c.going_flows_forget.ensures library request now c.in_ok-media.media.media c.in_ok-registry.registry due left
    (c.in_ok-registry.ensures
    ∙ ap within
    (ap₂ (λ g h. lost_by g request.flow h now c.in_ok-stepped.stepped) gone hull
    ∙ ap (lost_by (is_flow_gone request library) request.flow (hull_if_any (removed_by_step library.segments request)) now) stepped))
