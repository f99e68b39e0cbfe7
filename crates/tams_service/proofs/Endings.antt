-- Answers that end a connection whatever was asked.
use Rattle.std.proofs.Common.{◌≡◌, ◌≤◌, ◌+◌, ℕ, Bool, true, false, List, [], ◌∷◌, ◌++◌, length, All, None, Some, if◌then◌else◌, refl, sym, ap, ◌∙◌, subst, append-nil, arith}
use Rattle.std.proofs.lemmas.Bool.{false≢true}
use Rattle.std.proofs.lemmas.List.Elements.{All-nil}
use Rattle.disk_trait.specs.Calls.{Elapses}
use Rattle.disk_trait.specs.Device.{Device}
use Rattle.site_edge.specs.Links.{Said, Tells}
use Rattle.http_wire.specs.Framing.{wants_interim}
use Rattle.library_laws.specs.MediaLaws.{IsGoodArchive}
use Rattle.http_wire.specs.declared.framing.WireFault.{WireFault}
use Rattle.media_store.specs.Stores.{StoreSeen}
use Rattle.store_states.specs.States.{StoreState}
use Rattle.run_history.specs.Machine.{BeforeAnswer}
use Rattle.run_history.specs.Steps.{IsStep, Refused, Starved, Stopped, where_done}
use Rattle.run_history.specs.Laws.{under_way}
use Rattle.run_history.specs.Serving.{RunCounts}
use Rattle.run_history.specs.Sessions.{Saying, Whole}
use Rattle.connection_loop.specs.declared.ending.ConnectionEnd.TheVariants as endings
use Rattle.connection_loop.specs.Tallies.{plus_answer}
use Rattle.connection_loop.specs.Turns.{held_with}
use Rattle.connection_loop.specs.Endings.{ending_of}
use Rattle.tams_http.specs.Constants.{failure}
use Rattle.tams_machine.specs.Answers.{answer_in}
use Rattle.tams_machine.specs.Machine.{tams_machine}
use Rattle.tams_machine.specs.Requests.{TamsRequest, wire_response}
use Rattle.request_hearing.specs.Asking.{IsAnswerStep, asked_trace}
use Rattle.request_hearing.specs.Hearing.{interim_where}
use Rattle.request_hearing.proofs.AskingReached.{changed_none, replied}
use Rattle.request_hearing.proofs.Theorems.{refused_step}
use Rattle.tams_service.specs.Answering.{AsksAt, ChangedAt, EndsThere, FailedIn, RunPlace, RefuseLeads, StarveLeads, StopLeads, is_writing}
use Rattle.tams_service.specs.Keeping.{KeepsState}
use Rattle.tams_service.proofs.Effects.{ask_of, effect_by, starved_effect, stopped_effect}
use Rattle.tams_service.proofs.Effects as effects
use Rattle.tams_service.proofs.Handed.{handed_nothing}
use Rattle.tams_service.proofs.Keeping.{keeps_told}
use Rattle.tams_service.proofs.Stepping.{step_ends}

-- the archives of states are good
abbrev is_good : StoreState → Type 0
is_good s = IsGoodArchive s.archive

module _ (old new : Device) (n now : RunCounts) (ok : Bool) (tells : old.tells ≡ true) where
  -- ---- no memory

  pub starve_leads : Elapses (Tells false (failure 500)) (Tells ok (failure 500)) old new → Said ok (failure 500) old new → new.handed ≡ old.handed
      → now ≡ plus_answer 0 false n → StarveLeads old new n now
  starve_leads time said same counts p text rest r moment store asks keeps begun =
      let t = asked_trace (tams_machine p.base) p.beginning p.said p.finished p.steps in
      let answered : IsAnswerStep (tams_machine p.base) p.beginning old new p.given (held_with p.state (text ++ rest) p.taken) p.said p.finished p.steps n
      (Starved (ask_of text r moment)) (failure 500) 0 [] [] (moment ∷ []) rest ok ok false =
      record {
        begun = asks.asking.begun;
        is = begun.taken;
        text = refl;
        effect_is = λ at here. starved_effect p text r moment begun.interim at;
        told = said.connections tells;
        full = λ linked _. linked;
        some = λ in_answer. absurd (false≢true in_answer);
        reached = changed_none (replied t [] (failure 500) 0 (omega arith) (λ no. absurd (false≢true no)) (changed_none asks.asking.reached) time);
        good = All-nil is_good;
        written = refl;
        handed = λ on. handed_nothing new asks same (Starved (ask_of text r moment)) refl refl;
      } in
      subst (λ k. EndsThere p new store (moment ∷ []) k endings.Starved) (sym counts)
      (step_ends answered (KeepsState store new) endings.Starved refl tt (λ on. keeps_told store p.state ok (failure 500) old new keeps time))

  -- ---- the disk failed

  module _ (time : Elapses (Tells false (failure 503)) (Tells ok (failure 503)) old new) (said : Said ok (failure 503) old new) (p : RunPlace)
      (text rest : List ℕ) (r : TamsRequest) (moment : ℕ) (store : StoreSeen) (interim : p.said ≡ wants_interim r.head) where
    stopped_at : (states : List StoreState) (writing : Bool) → is_writing states ≡ writing → ChangedAt p old (text ++ rest) n states writing
        → where_done writing (answer_in p.base r moment p.state).change ≡ states
        → IsStep (tams_machine p.base) p.taken p.state (Stopped (ask_of text r moment) (BeforeAnswer writing)) → (writing ≡ true → 1 ≤ length states)
        → now ≡ plus_answer (length states) false n → EndsThere p new store (moment ∷ []) now endings.Stopped
    stopped_at states writing is changed change step some counts =
        let t = asked_trace (tams_machine p.base) p.beginning p.said p.finished p.steps in
        let none : states ≡ states ++ [] = sym (append-nil states) in
        let answered : IsAnswerStep (tams_machine p.base) p.beginning old new p.given (held_with p.state (text ++ rest) p.taken) p.said p.finished p.steps n
        (Stopped (ask_of text r moment) (BeforeAnswer writing)) (failure 503) 0 states [] (moment ∷ []) rest ok ok writing =
        record {
          begun = changed.begun;
          is = step;
          text = refl;
          effect_is = λ at here.
              stopped_effect p text r moment writing states interim change at here
              ∙ ap (λ c. effect_by (effects.replied p.said (failure 503) (at.made + 0)) c (moment ∷ [])) none;
          told = said.connections tells;
          full = λ linked _. linked;
          some = λ in_answer. absurd (false≢true in_answer);
          reached = changed_none (replied t states (failure 503) 0 (omega arith) some changed.reached time);
          good = subst (All is_good) none changed.good;
          written = refl;
          handed = λ on. absurd (false≢true (sym on));
        } in
        subst (λ k. EndsThere p new store (moment ∷ []) k endings.Stopped)
        (ap (λ s. plus_answer (length s) false n) (append-nil states) ∙ sym counts)
        (step_ends answered (KeepsState store new) endings.Stopped refl tt (λ on. absurd (false≢true (sym on))))

    stopped_by : (states : List StoreState) (changes : ℕ) → ChangedAt p old (text ++ rest) n states (is_writing states) → FailedIn p text r moment states
        → length states ≡ changes → now ≡ plus_answer changes false n → EndsThere p new store (moment ∷ []) now endings.Stopped
    stopped_by [] changes changed failed is counts =
        stopped_at [] false refl changed refl (tt, failed) (λ no. absurd (false≢true no)) (counts ∙ ap (λ k. plus_answer k false n) (sym is))
    stopped_by (next ∷ states) changes changed (spells, none, change) is counts =
        stopped_at (next ∷ states) true refl changed
        (ap (λ c. where_done true c) change ∙ ap (λ l. next ∷ l) (sym none))
        (tt, (spells, λ is_none. let same : Some next ≡ None = sym change ∙ is_none in absurd cc)) (λ yes. omega arith)
        (counts ∙ ap (λ k. plus_answer k false n) (sym is))

  pub stop_leads : (changes : ℕ) → Elapses (Tells false (failure 503)) (Tells ok (failure 503)) old new → Said ok (failure 503) old new
      → now ≡ plus_answer changes false n → StopLeads old new n now changes
  stop_leads changes time said counts p text rest r moment store states changed failed interim is =
      stopped_by time said p text rest r moment store interim states changes changed failed is counts

-- ---- the wire refuses

module _ (base : List ℕ) (old new : Device) (store : StoreSeen) (n now : RunCounts) (fault : WireFault) (response : List ℕ) (tells : old.tells ≡ true)
    (counts : now ≡ plus_answer 0 false n) (responds : response ≡ wire_response base fault)
    (ok : Bool) (time : Elapses (Tells false response) (Tells ok response) old new) (said : Said ok response old new) (still : new.handed ≡ old.handed) where
  refused_at : (p : RunPlace) (all : List ℕ) → AsksAt p old all n
      → IsStep (tams_machine p.base) p.taken p.state (Refused all (record { interim = interim_where p.said; response = response }))
      → IsAnswerStep (tams_machine p.base) p.beginning old new p.given (held_with p.state all p.taken) p.said p.finished p.steps n
      (Refused all (record { interim = interim_where p.said; response = response })) response 0 [] [] [] [] ok ok false
  refused_at p all asks step = record {
    begun = asks.asking.begun;
    is = step;
    text = sym (append-nil all);
    effect_is = λ at here. ap (λ k. effect_by (effects.replied p.said response k) [] []) (omega arith);
    told = said.connections tells;
    full = λ linked _. linked;
    some = λ in_answer. absurd (false≢true in_answer);
    reached = changed_none (replied (asked_trace (tams_machine p.base) p.beginning p.said p.finished p.steps) [] response 0 (omega arith)
        (λ no. absurd (false≢true no)) (changed_none asks.asking.reached) time);
    good = All-nil is_good;
    written = refl;
    handed = λ on. handed_nothing new asks still (Refused all (record { interim = interim_where p.said; response = response })) refl refl;
  }

  pub refuse_leads : RefuseLeads base old new store n now fault (if ok then endings.Complete else endings.Unlinked)
  refuse_leads p fed all same asks keeps refused =
      let responded : response ≡ wire_response p.base fault = responds ∙ ap (λ b. wire_response b fault) (sym same) in
      let step = subst
      (λ bytes. IsStep (tams_machine p.base) p.taken p.state (Refused all (record { interim = interim_where p.said; response = bytes })))
      (sym responded) (refused_step p.base p.taken p.state all p.said fed fault refused) in
      subst (λ k. EndsThere p new store [] k (if ok then endings.Complete else endings.Unlinked)) (sym counts)
      (step_ends (refused_at p all asks step) (KeepsState store new) (if ok then endings.Complete else endings.Unlinked) (ending_if ok) tt
      (λ on. keeps_told store p.state ok response old new keeps time))
    where
      ending_if : (k : Bool) → (if k then endings.Complete else endings.Unlinked)
          ≡ ending_of {Request = TamsRequest} (under_way (Refused all (record { interim = interim_where p.said; response = response }) ∷ [])
          (if k then Whole else Saying))
      ending_if true = refl
      ending_if false = refl
