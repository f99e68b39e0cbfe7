-- What a site in memory keeps over its calls.
use Rattle.std.proofs.Common.{◌≡◌, ◌<◌, ◌≤◌, ◌++◌, ◌∷◌, [], ℕ, List, length, map, Result, Ok, Err, refl, sym, ap, ◌∙◌, arith}
use Rattle.std.specs.Prelude.{IfOk, OnErr}
use Rattle.std.proofs.lemmas.List.Elements.{All-push}
use Rattle.disk_trait.specs.Device.{Connection}
use Rattle.site_edge.specs.Links.{change_last}
use Rattle.site_edge.specs.Lines.{Talk, heard_more, with_changed_connection}
use Rattle.site_edge.specs.declared.tally.Tally.{Tally}
use Rattle.site_edge.specs.declared.span.ToldSpan.{ToldSpan}
use Rattle.site_edge.specs.declared.span.Added.{Added}
use Rattle.site_edge.specs.MemorySite.{SiteState, IsKeptBySite, add_to, told_after, told_of, disk_calls}
use Rattle.site_edge.proofs.ConnectionLemmas.{length-change_last, told-heard_more, told_kept}

told_after-push : (spans : List ToldSpan) (span : ToldSpan) (told : List (List ℕ))
    → told_after (spans ++ span ∷ []) told ≡ add_to (told_after spans told) span.adds
told_after-push [] span told = refl
told_after-push (first ∷ spans) span told = told_after-push spans span (add_to told first.adds)

-- a call that changed the last connection, but not what it was told
pub kept_changed : (change : Connection → Connection) (site : SiteState) (tally : Tally) (talks : List Talk) → ((c : Connection) → (change c).told ≡ c.told)
    → talks ≡ change_last (with_changed_connection change) site.talks → IsKeptBySite site → IsKeptBySite (record site { tally = tally; talks = talks })
kept_changed change site tally talks same is kept = record {
  piece = kept.piece;
  under_way = λ way. rw (is, length-change_last) (kept.under_way way);
  since = kept.since;
  spans = kept.spans;
  told = kept.told ∙ sym (ap (λ ts. map (λ c. c.told) (map (λ talk. talk.connection) ts)) is ∙ told_kept change site.talks same);
}

-- a hearing, which found no memory or changed the last connection
pub kept_heard : {E : Type 0} (r : Result ℕ E) (out : List ℕ) (site : SiteState) (talks : List Talk)
    → IfOk r (λ count. talks ≡ change_last (with_changed_connection (heard_more count out)) site.talks) → OnErr r (talks ≡ site.talks)
    → IsKeptBySite site → IsKeptBySite (record site { talks = talks })
kept_heard (Ok count) out site talks heard none kept = kept_changed (heard_more count out) site site.tally talks (told-heard_more count out) heard kept
kept_heard (Err e) out site talks heard none kept = rw none kept

-- a call that ended a span
pub kept_ended : (adds : Added) (old new : SiteState) → IsKeptBySite old → new.piece ≡ old.piece → 0 < length new.talks → disk_calls new ≡ disk_calls old
    → new.since ≡ disk_calls old → new.spans ≡ old.spans ++ record { from = old.since; to = disk_calls old; adds = adds } ∷ []
    → told_of new ≡ add_to (told_of old) adds → IsKeptBySite new
kept_ended adds old new kept piece some calls since spans told =
    let last : ToldSpan = record { from = old.since; to = disk_calls old; adds = adds } in
    record {
      piece = rw piece kept.piece;
      under_way = λ way. some;
      since = omega arith;
      spans = rw (calls, spans) (All-push (λ span. span.to ≤ disk_calls old) old.spans last kept.spans (omega arith));
      told = ap (λ s. told_after s []) spans ∙ (told_after-push old.spans last [] ∙ (ap (λ t. add_to t adds) kept.told ∙ sym told));
    }
