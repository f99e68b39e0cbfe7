-- How a connection ends within a request of which more was asked for.
use Rattle.std.proofs.Common.{◌≡◌, ◌≢◌, not, ℕ, Bool, true, false, List, [], ◌∷◌, ◌++◌, None, Option, refl, sym, ap, ◌∙◌, subst, arith}
use Rattle.std.specs.Prelude.{option_to_list, is_some}
use Rattle.std.proofs.lemmas.List.{append-nil, append_assoc}
use Rattle.std.proofs.lemmas.List.Concat.{flat_map-append}
use Rattle.std.proofs.lemmas.List.Elements.{All-nil}
use Rattle.disk_trait.specs.Device.{Device}
use Rattle.site_edge.specs.Links.{change_last}
use Rattle.run_history.specs.Machine.{Machine}
use Rattle.run_history.specs.Steps.{Cut, Piece, Step, interim_pieces, piece_bytes}
use Rattle.run_history.specs.Sessions.{Hearing, IsTold, IsUnfinished, LinkEnd, Saying, Session, Whole, bytes_of_pieces, texts_of}
use Rattle.run_history.specs.Traces.{start_of}
use Rattle.run_history.specs.Runs.{Beginning, HasHanded}
use Rattle.run_history.specs.Laws.{under_way}
use Rattle.run_history.specs.Serving.{HasServed, Held, RunCounts}
use Rattle.run_history.specs.Parts.{after_sessions, has_link_failed, pieces_of}
use Rattle.run_history.specs.Reaching.{Reached}
use Rattle.run_history.proofs.Going.{last_changed}
use Rattle.run_history.proofs.Invariant.{parts_suffice}
use Rattle.std.specs.List.{AllByRecursion}
use Rattle.run_history.proofs.Hearings.{ends-steps}
use Rattle.request_hearing.specs.Hearing.{HearPart, IsPartOf, after_hearing, interim_bytes, interim_where}
use Rattle.request_hearing.specs.Asking.{Asking, WaitsFor, asked_trace}
use Rattle.request_hearing.proofs.AskingHearings.{ends_parts}
use Rattle.request_hearing.proofs.Theorems.{bytes-interim}
use Rattle.request_hearing.proofs.AskingSteps.{ends_with_step, pieces_grown, texts_grown}
use Rattle.request_hearing.proofs.Endings.{answers-interim, counts-cut, cut_effect, effect-interim, or_nothing, unheard_on, unsaid_on}

told-held : (link : LinkEnd) (told : List ℕ) (pieces : List Piece) → link ≢ Saying → told ≡ bytes_of_pieces pieces → IsTold None link told pieces
told-held Whole told pieces not_saying is = is
told-held Hearing told pieces not_saying is = is
told-held Saying told pieces not_saying is = absurd (not_saying refl)

module _ {State Request : Type 0} {m : Machine State Request} {b : Beginning State} {old : Device} {given : List ℕ} {held : Held State} {said : Bool}
    {finished : List (Session Request)} {steps : List (Step Request)} {n : RunCounts} (a : Asking m b old given held said finished steps n)
    (text : List ℕ) (moment : Option ℕ) where
  abbrev step : Step Request
  step = Cut text (interim_where said) moment

  -- what it was told, in pieces
  told_interim : bytes_of_pieces (pieces_of m (after_sessions m (start_of b.state) finished) steps) ++ interim_bytes said
      ≡ bytes_of_pieces (pieces_of m (after_sessions m (start_of b.state) finished) (steps ++ step ∷ []))
  told_interim =
      let so_far = pieces_of m (after_sessions m (start_of b.state) finished) steps in
      ap (λ s. bytes_of_pieces so_far ++ s) (sym (bytes-interim said))
      ∙ sym (ap bytes_of_pieces (pieces_grown a.begun.so_far step (cut_effect said moment) refl) ∙ flat_map-append piece_bytes so_far
      (interim_pieces (interim_where said)))

  -- Its peer's end came, or a hearing failed, behind these bytes: it is cut. All that was heard of it is its text.
  pub taken_cut : {new : Device} (parts : List HearPart) (bytes : List ℕ) (link : LinkEnd) (ended : Bool)
      → new.link.connections ≡ change_last (after_hearing parts bytes [] ended (not (not (has_link_failed link))) false) old.link.connections
      → AllByRecursion (IsPartOf bytes [] (not (not (has_link_failed link)))) parts
      → AllByRecursion (λ p. WaitsFor m held.taken (held.unread ++ p.heard) (interim_bytes said ++ p.told)) parts
      → Reached m b (asked_trace m b said finished steps) true false new → link ≢ Saying → (link ≡ Whole → ended ≡ true)
      → held.unread ++ bytes ≡ text → text ≢ []
      → m.cuts text (record { interim = interim_where said; takes_moment = is_some moment }) → IsUnfinished m held.taken text
      → HasHanded m b (finished ++ under_way (steps ++ step ∷ []) Whole ∷ []) new.handed
      → HasServed m b new (given ++ option_to_list moment) (finished ++ under_way (steps ++ step ∷ []) link ∷ []) n
  taken_cut {new} parts bytes link ended heard are waits reached not_saying at_end text_is some cuts unfinished handed =
      let told_so_far = bytes_of_pieces (pieces_of m (after_sessions m (start_of b.state) finished) steps) ++ interim_bytes said in
      let asked = asked_trace m b said finished steps in
      let first = after_sessions m (start_of b.state) finished in
      let u = a.begun.so_far in
      subst (HasServed m b new (given ++ option_to_list moment) (finished ++ under_way (steps ++ step ∷ []) link ∷ []))
      (counts-cut State Request n said moment text)
      (ends_with_step a.begun.so_far step (cut_effect said moment) refl new link _ [] (some, cuts) (omega (arith, answers-interim said)) (All-nil m.good)
      (last_changed (after_hearing parts bytes [] ended (not (not (has_link_failed link))) false) b.before a.begun.connections _ _ _
      a.begun.connections_are heard)
      (append_assoc (texts_of steps) held.unread bytes ∙ ap (λ t. texts_of steps ++ t) text_is
      ∙ sym (append-nil (texts_of (steps ++ step ∷ [])) ∙ texts_grown a.begun.so_far step (cut_effect said moment) refl))
      (record { none_left = λ _. refl; to_the_end = λ is. or_nothing ended ∙ at_end is }, λ _. unfinished, λ saying. absurd (not_saying saying))
      (told-held link (told_so_far ++ []) _ not_saying (append-nil told_so_far ∙ told_interim))
      (unheard_on link not_saying)
      (unsaid_on link not_saying)
      (ends-steps m first steps (step ∷ []) _
      (ends_parts m first steps u.stay held.taken u.taken_is held.unread (interim_bytes said) a.begun.hearings a.begun.on_time told_so_far refl bytes []
      parts waits (not (not (has_link_failed link))) false ended [] (λ _. refl) are))
      (subst (λ t. Reached m b t false false new) (sym (effect-interim said (option_to_list moment) _))
      (parts_suffice State Request m b asked true false new reached))
      (λ on. handed))
