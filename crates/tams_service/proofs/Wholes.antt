-- A request that came whole: its parts, what is planned of it, and what its answer leads to.
use Rattle.std.proofs.Common.{◌≡◌, ◌≢◌, ◌+◌, ◌++◌, ℕ, Bool, false, List, [], ◌∷◌, Option, Some, Ok, inl, refl, sym, ap, ◌∙◌, subst, arith}
use Rattle.std.proofs.lemmas.Bool.{false≢true}
use Rattle.disk_trait.specs.Calls.{DiskReads}
use Rattle.disk_trait.specs.Device.{Device}
use Rattle.http_wire.specs.Feeds.{Fed, span_bytes}
use Rattle.http_wire.specs.Framing.{method_kind}
use Rattle.http_wire.specs.declared.stage.Head.{Head}
use Rattle.media_store.specs.Stores.{StoreSeen}
use Rattle.store_states.specs.Kept.{AgreesWith, kept_state}
use Rattle.run_history.specs.Serving.{RunCounts}
use Rattle.connection_loop.specs.declared.ending.ConnectionEnd.{ConnectionEnd}
use Rattle.connection_loop.specs.declared.ending.ConnectionEnd.TheVariants as endings
use Rattle.connection_loop.specs.Turns.{TurnLeads}
use Rattle.reply_laws.specs.MediaPuts.{MediaAsksAreMedia}
use Rattle.request_hearing.specs.Hearing.{GivesRequest}
use Rattle.request_hearing.proofs.Asking.{asking_quiet}
use Rattle.tams_answers.specs.Answers.{AnswersRequest, IsSent, SentRequest}
use Rattle.tams_answers.specs.declared.answers.Answer.{Answer}
use Rattle.tams_http.specs.Asked.{ask_of}
use Rattle.tams_http.specs.declared.ask.Ask.TheVariants.{PutMedia}
use Rattle.tams_machine.specs.Machine.{tams_machine}
use Rattle.tams_machine.specs.Requests.{TamsRequest}
use Rattle.tams_service.specs.Answering.{AsksAt, GiveLeads, RequestCame, IsRequest, LeadsTo, RunPlace, StarveLeads, StopLeads, TellsAllOf, WholeLeads}
use Rattle.tams_service.specs.Keeping.{KeepsState}
use Rattle.tams_service.specs.Serving.{ServiceSeen}
use Rattle.tams_service.proofs.Giving.{unchanged_at}
use Rattle.tams_service.proofs.Handed.{handed_then}
use Rattle.tams_service.proofs.Keeping.{keeps_so}

-- the parts of a request as they are shown
abbrev pub shown_parts : Fed → Head → SentRequest
shown_parts fed head = record {
  method = head.method;
  target = span_bytes fed head.target;
  body = span_bytes fed head.body;
  ends = head.ends;
}

module _ {taken : ℕ} {all : List ℕ} {said : Bool} {fed : Fed} {head : Head} (g : GivesRequest taken all said fed head) where
  pub parts_are : IsSent (shown_parts fed head) g.request
  parts_are = record {
    method = sym g.tells.method;
    target = sym g.tells.target;
    body = sym g.tells_body.content;
    ends = sym g.ends;
  }

  -- it asks for no put of an object's bytes
  pub no_put : MediaAsksAreMedia → (store : ℕ) (object : List ℕ)
      → ask_of store head.method (span_bytes fed head.target) (span_bytes fed head.body) ≢ Ok (PutMedia object)
  no_put agree store object asks =
      let kind : ask_of store (method_kind g.request.head.method) g.request.head.target (span_bytes fed head.body) ≡ Ok (PutMedia object) =
      rw (← g.tells.method, ← g.tells.target) asks in
      false≢true (sym g.other ∙ agree store g.request.head.method g.request.head.target (span_bytes fed head.body) object kind)

-- ---- what it leads to

-- a device is as honest, and shows and tells as much, behind reads
pub tells_read : (old mid : Device) (ok : Bool) → DiskReads ok old mid → TellsAllOf old → TellsAllOf mid
tells_read old mid ok reads all =
    let same = reads.calls.same in record { honest = same.honest ∙ all.honest; shows = same.shows ∙ all.shows; tells = same.tells ∙ all.tells }

-- a run stands where it did behind reads of the disk
pub asks_read : (p : RunPlace) (old mid : Device) (unread : List ℕ) (n : RunCounts) (ok : Bool) → DiskReads ok old mid → AsksAt p old unread n
    → AsksAt p mid unread n
asks_read p old mid unread n ok reads asks = record {
  asking = asking_quiet asks.asking reads.time reads.calls.link;
  handed = handed_then p old mid 0 asks.handed (omega (arith, reads.handed));
}

module _ (service next : ServiceSeen) (old mid new : Device) (begun given : List ℕ) (n now : RunCounts) (moment : ℕ) (more : given ≡ begun ++ moment ∷ [])
    (same : next.fed ≡ service.fed) (ok : Bool) (reads : DiskReads ok old mid) where
  -- where the run stands behind it
  led : (p : RunPlace) (result : Option ConnectionEnd) → p.given ≡ begun → LeadsTo p new next.store moment service.fed.unread now result
      → TurnLeads (tams_machine p.base) p.beginning new given next.fed.unread (p.taken + 1) (KeepsState next.store new) p.finished now result
  led p result is leads =
      subst (λ g. TurnLeads (tams_machine p.base) p.beginning new g next.fed.unread (p.taken + 1) (KeepsState next.store new) p.finished now result)
      (ap (λ l. l ++ moment ∷ []) is ∙ sym more)
      (subst (λ (f : Fed). TurnLeads (tams_machine p.base) p.beginning new (p.given ++ moment ∷ []) f.unread (p.taken + 1)
      (KeepsState next.store new) p.finished
      now result) (sym same) leads)

  -- where it stands behind the reads
  asked : (p : RunPlace) (all : List ℕ) (head : Head) (g : GivesRequest p.taken all p.said service.fed head) → AsksAt p old all n
      → AsksAt p mid (g.text ++ service.fed.unread) n
  asked p all head g asks = subst (λ u. AsksAt p mid u n) g.text_is (asks_read p old mid all n ok reads asks)

  pub whole_given : (head : Head) (answer : Answer) (result : Option ConnectionEnd) (read : StoreSeen) → read.kept ≡ service.store.kept → read.spent ≡ false
      → ((held : List (List ℕ)) → AgreesWith old service.store.kept held → AgreesWith mid service.store.kept held)
      → ((held : List (List ℕ)) (r : TamsRequest) → AgreesWith old service.store.kept held → IsSent (shown_parts service.fed head) r
      → AnswersRequest service.base (kept_state service.store.kept held) r moment answer)
      → GiveLeads mid new read next.store n now answer moment head.ends result → WholeLeads service next head old new begun given n now result
  whole_given head answer result read kept unspent stays answers gives p all base is asks keeps g few =
      let r = g.request in
      let request : IsRequest p g.text head.ends r = record { spells = g.spells; interim = g.interim; ends_is = sym g.ends } in
      let planned = subst (λ b. AnswersRequest b p.state r moment answer) (sym base)
      (subst (λ s. AnswersRequest service.base s r moment answer) (sym keeps.state) (answers p.state.archive.held r keeps.agrees (parts_are g))) in
      led p result is (gives p g.text service.fed.unread r (asked p all head g asks)
      (keeps_so service.store read old mid p.state keeps kept unspent (stays p.state.archive.held keeps.agrees)) request planned few)

  pub whole_starved : (head : Head) → next.store.kept ≡ service.store.kept → next.store.spent ≡ false
      → ((held : List (List ℕ)) → AgreesWith old service.store.kept held → AgreesWith mid service.store.kept held) → StarveLeads mid new n now
      → WholeLeads service next head old new begun given n now (Some endings.Starved)
  whole_starved head kept unspent stays starves p all base is asks keeps g few =
      let at : RequestCame p g.text g.request = record { taken = inl g.spells; interim = g.interim } in
      led p (Some endings.Starved) is
      (starves p g.text service.fed.unread g.request moment next.store (asked p all head g asks)
      (keeps_so service.store next.store old mid p.state keeps kept unspent (stays p.state.archive.held keeps.agrees)) at)

  -- a read failed
  pub whole_stopped : (head : Head) → StopLeads mid new n now 0 → WholeLeads service next head old new begun given n now (Some endings.Stopped)
  whole_stopped head stops p all base is asks keeps g few =
      led p (Some endings.Stopped) is
      (stops p g.text service.fed.unread g.request moment next.store [] (unchanged_at p mid (g.text ++ service.fed.unread) n (asked p all head g asks))
      (inl g.spells) g.interim refl)
