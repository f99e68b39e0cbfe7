-- A run of generated requests over a store in memory.
use Rattle.std.proofs.Common.{◌≡◌, ◌<◌, ◌+◌, if◌then◌else◌, ◌++◌, ◌∷◌, ◌∙◌, ℕ, zero, suc, Bool, true, false, List, [], All, Option, Some, None, IfSome, length, map, slice_get, refl, sym, ap, subst, inl, inr, arith}
use Rattle.std.specs.Prelude.{SomeIff, is_some, unwrap_or}
use Rattle.std.proofs.lemmas.Bool.{false≢true}
use Rattle.std.proofs.lemmas.List.{length_push}
use Rattle.std.proofs.lemmas.List.Elements.{All-append, All-nil, All-cons}
use Rattle.std.specs.Char.{encode_utf8}
use Rattle.std.specs.Str.{chars, is_utf8}
use Rattle.disk_trait.specs.Device.{Connection, Device, Link}
use Rattle.disk_trait.specs.MemoryDisk.{DiskState, fresh_disk}
use Rattle.site_edge.specs.MemorySite.{SiteState, fresh_site, site_device}
use Rattle.disk_trait.specs.Calls.{IsCounted}
use Rattle.disk_trait.specs.Forms.{form_in_use}
use Rattle.media_rows.specs.Library.{Library}
use Rattle.media_rows.specs.Snapshot.{rows_of}
use Rattle.media_rows.specs.declared.row.Row.{Row}
use Rattle.generated_workload.specs.StoredBytes.{StoredBytesAreTheObjects, stored_total, stored_bytes_of}
use Rattle.generated_workload.specs.Workload.{workload_requests}
use Rattle.run_history.specs.Serving.{RunCounts}
use Rattle.run_history.specs.Traces.{counts_of_run}
use Rattle.connection_loop.specs.declared.ending.ConnectionEnd.{ConnectionEnd}
use Rattle.connection_loop.specs.declared.ending.ConnectionEnd.TheVariants as endings
use Rattle.connection_loop.specs.Endings.{ending_of}
use Rattle.snapshot_rows.specs.Texts.{IsOneList, SpellsRows}
use Rattle.store_opening.specs.Laws.{KeptStands}
use Rattle.store_opening.specs.Opening.{IsKept, bytes_in_image}
use Rattle.store_states.specs.Kept.{StoreView, kept_state}
use Rattle.store_states.specs.Laws.{IsOneState}
use Rattle.store_states.specs.States.{StandsFor, StoreState}
use Rattle.tams_machine.specs.Machine.{tams_machine}
use Rattle.tams_machine.specs.Requests.{TamsRequest}
use Rattle.tams_outcomes.specs.declared.outcome.RunOutcome.{RunOutcome}
use Rattle.tams_outcomes.specs.declared.outcome.RunOutcome.TheVariants.{Formatted, Served, Cut, NoMemory, LinkFault}
use Rattle.store_commands.specs.declared.generating.Answered.{Answered}
use Rattle.store_commands.specs.declared.generating.StoreSizes.{StoreSizes}
use Rattle.store_commands.specs.declared.generating.TheConstants.{BLOCKS, HALF, STORE_ID}
use Rattle.store_commands.specs.Completeness.{IsAnswered}
use Rattle.tams_outcomes.specs.Touching.{NoneRose}
use Rattle.store_commands.specs.Generating.{IsWorkloadRun, workload_base, workload_start}
use Rattle.store_commands.specs.Histories.{NoPeer, OnePeer, replay_outcome}
use Rattle.store_commands.specs.Beginning.{beginning}
use Rattle.store_commands.specs.FormatEnds.{FormatMoments, IsMade}
use Rattle.store_commands.specs.ServeEnds.{ReplayEnds}
use Rattle.store_commands.specs.Standing.{HasAnswered, HeardToItsEnd, IsMadeInMemory, kept_of_library, zeros}
use Rattle.store_commands.proofs.CompletenessLemmas.{none_served, peer_answered, well_unstopped}

-- ---- the store

-- the address is text
pub base_is_text : is_utf8 workload_base ≡ true
unfolding is_utf8 chars encode_utf8
base_is_text = refl

-- a store that was made on a fresh site
pub made_in_memory : (disk : DiskState) (bytes fail more : List ℕ) (peers : List (List ℕ)) (piece : ℕ) (old new : SiteState) (blocks half media : ℕ)
    → disk ≡ fresh_disk bytes fail → old ≡ fresh_site disk peers piece more → IsCounted true (site_device old).faults (site_device new).faults
    → (site_device new).link ≡ (site_device old).link
    → IsMade (site_device old) (site_device new) (record { blocks = BLOCKS; half = HALF; id = STORE_ID }) blocks half media
    → FormatMoments (site_device old) (site_device new) (record { blocks = BLOCKS; half = HALF; id = STORE_ID }) (Formatted blocks half media)
    → IsMadeInMemory (site_device new)
made_in_memory disk bytes fail more peers piece old new blocks half media disk_is old_is counted link made moments =
    let clean : (site_device old).faults ≡ 0 = rw (old_is, disk_is) refl in
    record {
      begins = record {
        tells = record { honest = refl; shows = refl; tells = refl; clock_tells = refl };
        few = omega arith;
        settled = moments.settled refl refl;
        stands = made.stands refl;
      };
      faults = counted.stays refl ∙ clean;
      link_faults = ap (λ (l : Link). l.faults) link ∙ rw old_is refl;
      connections = ap (λ (l : Link). l.connections) link ∙ rw old_is refl;
    }

-- ---- a clock that stands

are_zeros : (n : ℕ) → All (λ moment. moment ≡ 0) (zeros n)
are_zeros zero = All-nil (λ moment. moment ≡ 0)
are_zeros (suc n) = All-append (λ moment. moment ≡ 0) (zeros n) (0 ∷ []) (are_zeros n) (All-cons (λ moment. moment ≡ 0) 0 [] refl
    (All-nil (λ moment. moment ≡ 0)))

zeros_length : (n : ℕ) → length (zeros n) ≡ n
zeros_length zero = refl
zeros_length (suc n) = omega (arith, length_push (zeros n) 0, zeros_length n)

-- it tells on while a u64 counts its calls
pub lasts_zeros : (calls next : Option ℕ)
    → SomeIff next (unwrap_or calls 18446744073709551615 + 1 < 18446744073709551616) (unwrap_or calls 18446744073709551615 + 1)
    → is_some calls ≡ true → length (zeros (unwrap_or calls 0)) + 1 < 18446744073709551616 → is_some next ≡ true
lasts_zeros None next added tells few = cc
lasts_zeros (Some n) (Some m) added tells few = refl
lasts_zeros (Some n) None added tells few = absurd (added (omega (arith, few, zeros_length n)))

-- ---- the numbers of a run that served

abbrev answers_of : RunOutcome → ℕ
answers_of (Served requests changes skipped) = requests
answers_of _ = 0

abbrev changes_of : RunOutcome → ℕ
changes_of (Served requests changes skipped) = changes
changes_of _ = 0

served_by_skips : (some : Bool) (answers changes skipped : ℕ) (n : RunCounts)
    → Served answers changes skipped ≡ (if some then NoMemory else Served n.answers n.changes n.skipped) → (answers ≡ n.answers) × (changes ≡ n.changes)
served_by_skips true answers changes skipped n e = absurd cc
served_by_skips false answers changes skipped n e = (ap answers_of e, ap changes_of e)

never_served : (some : Bool) (answers changes skipped : ℕ) (other : RunOutcome) → (Served answers changes skipped ≡ other → ⊥)
    → Served answers changes skipped ≡ (if some then NoMemory else other) → ⊥
never_served true answers changes skipped other never e = cc
never_served false answers changes skipped other never e = never e

served_numbers : (end : ConnectionEnd) (answers changes skipped : ℕ) (n : RunCounts) → Served answers changes skipped ≡ replay_outcome end n
    → (answers ≡ n.answers) × (changes ≡ n.changes)
served_numbers endings.Complete answers changes skipped n e = served_by_skips _ answers changes skipped n e
served_numbers endings.Cut answers changes skipped n e = absurd (never_served _ answers changes skipped Cut (λ e. cc) e)
served_numbers endings.Unlinked answers changes skipped n e = absurd (never_served _ answers changes skipped LinkFault (λ e. cc) e)
served_numbers endings.Starved answers changes skipped n e = absurd cc
served_numbers endings.Stopped answers changes skipped n e = absurd cc

first_of_one : {c d : Connection} → c ∷ [] ≡ d ∷ [] → c ≡ d
first_of_one e = cc

-- ---- one connection that was served over the store

module _ (bytes : List ℕ) (old new : Device) (given : List ℕ) (answers changes skipped n : ℕ)
    (made : IsMadeInMemory old)
    (moments : given ≡ zeros n)
    (disk : IsCounted true old.faults new.faults)
    (ends : ReplayEnds workload_base old new true [] given (Served answers changes skipped))
    (heard : HeardToItsEnd bytes new.link.connections) where
  none : NoneRose old new
  none = record {
    disk = λ rose. let same = disk.stays refl in omega (arith, rose (omega (arith, made.faults)), same);
    link = λ rose. let same = ends.causes.link in omega (arith, rose (omega (arith, made.link_faults)), same);
  }

  by_peer : OnePeer workload_base (beginning workload_start old []) new given (Served answers changes skipped)
      → HasAnswered bytes new (record { requests = answers; changes = changes })
  by_peer p =
      let ran = p.runs in
      let one = peer_answered workload_base workload_start old new [] given (Served answers changes skipped) disk none (λ e. absurd cc)
      (λ e. omega (arith, e)) p in
      let came : new.link.connections ≡ one.0 ∷ [] = ran.connections_are ∙ ap (λ (cs : List Connection). old.link.connections ++ cs) one.1
      ∙ ap (λ (cs : List Connection). cs ++ one.0 ∷ []) made.connections in
      let same : one.0 ≡ heard.connection = first_of_one (sym came ∙ heard.one) in
      let numbers = served_numbers (ending_of p.session) answers changes skipped (counts_of_run (tams_machine workload_base) workload_start
      (p.session ∷ [])) p.line in
      record {
        session = p.session;
        connection = heard.connection;
        heard = heard.heard;
        ended = heard.ended;
        answered = subst (λ (c : Connection). IsAnswered workload_base workload_start c p.session 0) same one.2;
        still = subst (All (λ moment. moment ≡ 0)) (sym moments ∙ ran.given_is) (are_zeros n);
        requests = numbers.0;
        changes = numbers.1;
        stands = rw (well_unstopped p.session 0 one.2.ends) at ran.exit;
      }

  by_nobody : NoPeer workload_base (beginning workload_start old []) new given (Served answers changes skipped) → ⊥
  by_nobody p =
      let ran = p.runs in
      let empty : ran.connections ≡ [] = none_served workload_base workload_start ran.connections ran.answers in
      let none_came : new.link.connections ≡ [] = ran.connections_are ∙ ap (λ (cs : List Connection). old.link.connections ++ cs) empty
      ∙ ap (λ (cs : List Connection). cs ++ []) made.connections in
      let both : heard.connection ∷ [] ≡ [] = sym heard.one ∙ none_came in
      cc

  pub answered_over : HasAnswered bytes new (record { requests = answers; changes = changes })
  answered_over = elim (ends.history workload_start made.begins) [ inl p ↦ by_peer p | inr p ↦ absurd (by_nobody p) ]

-- one connection, which heard these bytes to their end
pub heard_one : (cs : List Connection) (told bytes : List ℕ) → length cs ≡ 1 → slice_get (map (λ (c : Connection). c.ended) cs) 0 ≡ Some true
    → slice_get (map (λ (c : Connection). c.heard) cs) 0 ≡ Some told → told ≡ bytes → HeardToItsEnd bytes cs
heard_one [] told bytes one ended heard same = absurd (omega (arith, one))
heard_one (c ∷ []) told bytes one ended heard same =
    let all : c.heard ≡ told = cc in
    record { connection = c; one = refl; heard = all ∙ same; ended = cc }
heard_one (c ∷ d ∷ cs) told bytes one ended heard same = absurd (omega (arith, one))

-- ---- what is kept

-- the counts and the bytes of a library, from its rows
pub kept_by_rows : StoredBytesAreTheObjects → IsOneList → (library : Library) (text : List ℕ) (rows : List Row) (bytes : ℕ)
    → SpellsRows form_in_use text (rows_of library) → SpellsRows form_in_use text rows → bytes ≡ stored_bytes_of rows → bytes ≡ stored_total library.objects
kept_by_rows are one library text rows bytes spelled read is =
    is ∙ ap stored_bytes_of (one form_in_use text (rows_of library) rows spelled read) ∙ are library

-- what was opened is the library of the state for which an image stands
pub kept_is : KeptStands → IsOneState → (image : List ℕ) (view : StoreView) (from : StoreState) → IsKept image view → StandsFor image from
    → kept_of_library view.library ≡ kept_of_library from.archive.library
kept_is kept_stands one image view from kept stands =
    ap (λ (s : StoreState). kept_of_library s.archive.library) (one image form_in_use form_in_use from (kept_state view (bytes_in_image image view)) stands
    (kept_stands image view kept))

pub kept_found : KeptStands → IsOneState → (image : List ℕ) (view : StoreView) → IsKept image view → (found : Option StoreSizes)
    → IfSome found (λ (kept : StoreSizes). kept ≡ kept_of_library view.library)
    → IfSome found (λ (kept : StoreSizes). (from : StoreState) → StandsFor image from → kept ≡ kept_of_library from.archive.library)
kept_found stand one image view is None found = tt
kept_found stand one image view is (Some kept) found = λ from stands. found ∙ kept_is stand one image view from is stands

-- ---- the whole run

pub workload_run : (number count : ℕ) (bytes : List ℕ) (d : Device) (n : Answered) (kept : StoreSizes) → bytes ≡ workload_requests number count
    → HasAnswered bytes d n → ((from : StoreState) → StandsFor d.seen from → kept ≡ kept_of_library from.archive.library)
    → IsWorkloadRun number count (record {
      number = number;
      count = count;
      requests = n.requests;
      changes = n.changes;
      kept = kept.counts;
      bytes = kept.bytes;
    })
workload_run number count bytes d n kept are answered found =
    let same = found _ answered.stands.stands in
    record {
      session = answered.session;
      connection = answered.connection;
      heard = answered.heard ∙ are;
      ended = answered.ended;
      answered = answered.answered;
      still = answered.still;
      numbers = rw (answered.requests, answered.changes, same) refl;
    }
