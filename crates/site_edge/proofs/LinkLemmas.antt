-- What each link call leaves of a site in memory.
use Rattle.std.proofs.Common.{arith, ◌+◌, ◌≡◌, ◌++◌, ◌∷◌, ◌&&◌, ◌||◌, ◌/◌, [], drop, ℕ, Bool, true, false, List, length, map, Option, Some, None, Result, Ok, Err, if◌then◌else◌, unwrap_or, refl, sym, ap, ◌∙◌}
use Rattle.std.proofs.lemmas.Bool.Decides.{nat_tests}
use Rattle.std.specs.Prelude.{◌==◌, MatchOption, IfSome, is_some, is_ok}
use Rattle.std.specs.Option.{option_eq}
use mathlib.Core.Bool.{beq}
use Rattle.std.proofs.lemmas.List.{append-nil, append_assoc, map-append, take-append-drop}
use Rattle.disk_trait.specs.Device.{Connection, Dials, Left}
use Rattle.disk_trait.specs.Calls.{IsCounted, Elapses, Unchanged}
use Rattle.disk_trait.specs.History.{kept_bytes}
use Rattle.disk_trait.specs.MemoryDisk.{counted_on}
use Rattle.site_edge.specs.Links.{LinkCall, Sends, Tells, AddsConnection, Begins, NextPeer, SiteHeard, Said, change_last, fresh, after_hear, after_say}
use Rattle.site_edge.specs.Lines.{Talk, heard_more, unheard_once, with_changed_connection, with_passed, told_more}
use Rattle.site_edge.specs.Tallies.{CountsCall}
use Rattle.site_edge.specs.declared.fault.LinkFailed.{LinkFailed}
use Rattle.site_edge.specs.declared.tally.Tally.{Tally}
use Rattle.site_edge.specs.declared.span.Added.TheVariants.{Peer, Bytes}
use Rattle.site_edge.specs.MemorySite.{peers_of, sent_by, SiteState, SiteCalled, IsKeptBySite, after_heard, after_next, next_of, after_tell, is_one_left, told_of, connections_of, site_device}
use Rattle.site_edge.proofs.ConnectionLemmas.{heard_more-is, peers_kept, told-heard_more, change_last-change_last, change_last_same, connection_changed, told_changed, told_kept}
use Rattle.site_edge.proofs.MomentLemmas.{EndsBy, SameLeft, ended_time, quiet_time, same_time, with_span}

-- a link call, by its count of faults and its time
pub link_call : (so_far ended : Left → Left → Type 0) (ok : Bool) (old new : SiteState) → new.disk ≡ old.disk → IsCounted ok old.tally.faults new.tally.faults
    → Elapses so_far ended (site_device old) (site_device new) → LinkCall so_far ended ok (site_device old) (site_device new)
link_call so_far ended ok old new disk counted time = record {
  same = record { size = rw disk refl; honest = refl; shows = refl; tells = refl };
  faults = rw disk refl;
  seen = rw disk refl;
  handed = rw disk refl;
  counted = counted;
  time = time;
}

-- a call that told nothing
pub silent_call : (ok : Bool) (change : Connection → Connection) (site : SiteState) (tally : Tally) (talks : List Talk)
    → ((c : Connection) → (change c).told ≡ c.told) → talks ≡ change_last (with_changed_connection change) site.talks
    → IsCounted ok site.tally.faults tally.faults
    → LinkCall Unchanged Unchanged ok (site_device site) (site_device (record site { tally = tally; talks = talks }))
silent_call ok change site tally talks same is counted =
    let new = record site { tally = tally; talks = talks } in
    let left : SameLeft site new =
    record {
      past = refl;
      spans = refl;
      since = refl;
      told = ap (λ ts. map (λ c. c.told) (map (λ talk. talk.connection) ts)) is ∙ told_kept change site.talks
          same;
    } in
    link_call Unchanged Unchanged ok site new refl counted (quiet_time Unchanged site new (λ p. refl) left)

-- the connections after such a call
pub changed_to : (f h : Connection → Connection) (before talks : List Talk) → ((c : Connection) → f c ≡ h c) → talks ≡ change_last
    (with_changed_connection f) before
    → map (λ talk. talk.connection) talks ≡ change_last h (map (λ talk. talk.connection) before)
changed_to f h before talks same is = ap (map (λ talk. talk.connection)) is ∙ connection_changed f h before same

or_false : (b : Bool) → (b || false) ≡ b
or_false true = refl
or_false false = refl

or_true : (b : Bool) → (b || true) ≡ true
or_true true = refl
or_true false = refl

pub heard_clause : (E : Type 0) (result : Result ℕ E) (out : List ℕ) (site : SiteState) (tally : Tally) (talks : List Talk)
    → tally.peer_faults ≡ site.tally.peer_faults → map (λ talk. talk.connection) talks ≡ change_last (after_hear result out) (connections_of site)
    → SiteHeard result out (site_device site) (site_device (record site { tally = tally; talks = talks }))
heard_clause E result out site tally talks peer_faults connections = record {
  peers = record { peer_faults = peer_faults; closed = refl; dials = refl };
  under_way = refl;
  connections = λ _. connections;
}

-- a `say` sends what it keeps
sends_kept : (passes : Bool) (bytes : List ℕ) → Sends passes bytes (kept_bytes passes bytes)
sends_kept true bytes = record { prefix = ([], sym (append-nil bytes)); whole = λ _. refl }
sends_kept false bytes = record { prefix = (drop (length bytes / 2) bytes, sym (take-append-drop (length bytes / 2) bytes)); whole = λ wrong. cc }

sends_none : (bytes : List ℕ) → Sends false bytes []
sends_none bytes = record { prefix = (bytes, refl); whole = λ wrong. cc }

-- a part of what is sent is a prefix of the bytes
sends_part : (ok : Bool) (bytes sent part : List ℕ) → Sends ok bytes sent → Sends false sent part → Sends false bytes part
sends_part ok bytes sent part all some = record {
  prefix = (some.prefix.0 ++ all.prefix.0, all.prefix.1 ∙ (ap (λ s. s ++ all.prefix.0) some.prefix.1 ∙ append_assoc part some.prefix.0 all.prefix.0));
  whole = λ wrong. cc;
}

-- the last connection, once it was told bytes and with_passed
said_changed : (passes : Bool) (sent : List ℕ) (before talks : List Talk)
    → talks ≡ change_last (with_changed_connection (with_passed passes)) (change_last (with_changed_connection (told_more sent)) before)
    → talks ≡ change_last (with_changed_connection (after_say passes sent)) before
said_changed passes sent before talks is =
    is ∙ change_last-change_last (with_changed_connection (with_passed passes)) (with_changed_connection (told_more sent))
    (with_changed_connection (after_say passes sent)) before
    (λ talk. refl)

-- what was told, once the last connection was told bytes
said_told : (passes : Bool) (sent : List ℕ) (before talks : List Talk) → talks ≡ change_last (with_changed_connection (after_say passes sent)) before
    → map (λ c. c.told) (map (λ talk. talk.connection) talks) ≡ change_last (λ t. t ++ sent) (map (λ c. c.told) (map (λ talk. talk.connection) before))
said_told passes sent before talks is =
    ap (λ ts. map (λ c. c.told) (map (λ talk. talk.connection) ts)) is ∙ told_changed (after_say passes sent) (λ t. t ++ sent) before (λ c. refl)

-- a `say` that was noted
noted_say : (passes : Bool) (bytes sent : List ℕ) (site : SiteState) (tally : Tally) (talks : List Talk) → IsKeptBySite site → Sends passes bytes sent
    → talks ≡ change_last (with_changed_connection (after_say passes sent)) site.talks
    → Elapses (Tells false bytes) (Tells passes bytes) (site_device site) (site_device (record (after_tell sent site) { tally = tally; talks = talks }))
noted_say passes bytes sent site tally talks kept sends is =
    let told = said_told passes sent site.talks talks is in
    let steps : EndsBy (Tells false bytes) (Bytes sent) site talks = record {
      whole = λ image. record { image = refl; told = (sent, record { prefix = sends.prefix; whole = λ wrong. cc }, told) };
      part = λ image so_far part. record { image = refl; told = (part.0, sends_part passes bytes sent part.0 sends part.1, part.2) };
    } in
    let time =
    ended_time (Tells false bytes) (Tells passes bytes) (Bytes sent) site talks kept steps (λ image. record { image = refl; told = (sent, sends, told) }) in
    same_time (Tells false bytes) (Tells passes bytes) site (with_span (Bytes sent) site talks) (record (after_tell sent site) { tally = tally; talks = talks })
    (record { past = refl; spans = refl; since = refl; told = refl }) time

-- a step that tells nothing
tells_none : (bytes : List ℕ) (p : Left) → Tells false bytes p p
tells_none bytes p = record { image = refl; told = ([], sends_none bytes, sym (change_last_same (λ t. t ++ []) p.told append-nil)) }

pub say_call : (noted passes : Bool) (bytes : List ℕ) (site mid : SiteState) (tally : Tally) (talks : List Talk) → IsKeptBySite site
    → mid ≡ (if noted then after_tell (kept_bytes passes bytes) site else site) → talks ≡ change_last
    (with_changed_connection (with_passed (noted && passes))) mid.talks
    → IsCounted (noted && passes) mid.tally.faults tally.faults
    → LinkCall (Tells false bytes) (Tells (noted && passes) bytes) (noted && passes) (site_device site)
    (site_device (record mid { tally = tally; talks = talks }))
say_call true passes bytes site mid tally talks kept mid_is is counted =
    let sent = kept_bytes passes bytes in
    let changed = said_changed passes sent site.talks talks (is ∙ ap (λ m. change_last (with_changed_connection (with_passed passes)) m.talks) mid_is) in
    rw mid_is (link_call _ _ passes site (record (after_tell sent site) { tally = tally; talks = talks }) refl (rw mid_is at counted)
    (noted_say passes bytes sent site tally talks kept (sends_kept passes bytes) changed))
say_call false passes bytes site mid tally talks kept mid_is is counted =
    let new = record site { tally = tally; talks = talks } in
    let marks : talks ≡ change_last (with_changed_connection (with_passed false)) site.talks = is
    ∙ ap (λ m. change_last (with_changed_connection (with_passed false)) m.talks) mid_is in
    let left : SameLeft site new =
    record {
      past = refl;
      spans = refl;
      since = refl;
      told = ap (λ ts. map (λ c. c.told) (map (λ talk. talk.connection) ts)) marks ∙ told_kept (with_passed false)
          site.talks (λ c. refl);
    } in
    rw mid_is (link_call _ _ false site new refl (rw mid_is at counted) (quiet_time (Tells false bytes) site new (tells_none bytes) left))

pub said_clause : (noted passes : Bool) (bytes : List ℕ) (site mid : SiteState) (tally : Tally) (talks : List Talk)
    → mid ≡ (if noted then after_tell (kept_bytes passes bytes) site else site) → talks ≡ change_last
    (with_changed_connection (with_passed (noted && passes))) mid.talks
    → tally.peer_faults ≡ mid.tally.peer_faults → Said (noted && passes) bytes (site_device site) (site_device (record mid { tally = tally; talks = talks }))
said_clause true passes bytes site mid tally talks mid_is is peer_faults =
    let sent = kept_bytes passes bytes in
    let changed = said_changed passes sent site.talks talks (is ∙ ap (λ m. change_last (with_changed_connection (with_passed passes)) m.talks) mid_is) in
    rw mid_is (record {
      peers = record { peer_faults = rw mid_is at peer_faults; closed = refl; dials = refl };
      under_way = refl;
      connections = λ _. (sent, sends_kept passes bytes, changed_to (after_say passes sent) (after_say passes sent) site.talks talks (λ c. refl) changed);
    })
said_clause false passes bytes site mid tally talks mid_is is peer_faults =
    let marks : talks ≡ change_last (with_changed_connection (with_passed false)) site.talks = is
    ∙ ap (λ m. change_last (with_changed_connection (with_passed false)) m.talks) mid_is in
    rw mid_is (record {
      peers = record { peer_faults = rw mid_is at peer_faults; closed = refl; dials = refl };
      under_way = refl;
      connections =
          λ _. (
            [],
            sends_none bytes,
            changed_to (with_passed false) (after_say false []) site.talks talks
                (λ c. ap (λ t. record c { told = t; unsaid = c.unsaid || true }) (sym (append-nil c.told))) marks,
          );
    })

-- A call that waited for a peer and failed left the site, but for its counts.
pub failed_next : (passes : Bool) (came : Option Bool) (old mid : SiteState)
    → MatchOption came (mid ≡ old) (λ _. mid ≡ (if passes then after_next old else old)) → (is_some came && passes) ≡ false → mid ≡ old
failed_next passes None old mid next failed = next
failed_next true (Some came) old mid next failed = cc
failed_next false (Some came) old mid next failed = next

pub passed_next : (passes : Bool) (came : Option Bool) (old mid : SiteState)
    → MatchOption came (mid ≡ old) (λ _. mid ≡ (if passes then after_next old else old)) → (is_some came && passes) ≡ true → mid ≡ after_next old
passed_next passes None old mid next passed = cc
passed_next true (Some came) old mid next passed = next
passed_next false (Some came) old mid next passed = cc

pub passed_came : (passes : Bool) (came : Option Bool) (left : Bool) → IfSome came (λ b. b ≡ (passes && left)) → (is_some came && passes) ≡ true
    → unwrap_or came false ≡ left
passed_came passes None left is passed = cc
passed_came true (Some came) left is passed = is
passed_came false (Some came) left is passed = cc

-- a connection that begins adds to what was told, and nothing is told within the call
begun_time : (E : Type 0) (sends : List ℕ) (later : List (List ℕ)) (site : SiteState) (tally : Tally) → IsKeptBySite site
    → Elapses AddsConnection AddsConnection (site_device site) (site_device (record (next_of (sends ∷ later) site) { tally = tally }))
begun_time E sends later site tally kept =
    let talk : Talk = record { sends = sends; connection = fresh } in
    let talks = site.talks ++ talk ∷ [] in
    let told : map (λ c. c.told) (map (λ talk. talk.connection) talks) ≡ told_of site ++ [] ∷ [] = simp map-append in
    let adds : (image : List ℕ) → AddsConnection (record { image = image; told = told_of site })
    (record { image = image; told = map (λ c. c.told) (map (λ talk. talk.connection) talks) }) =
    λ image. record { image = refl; told = told } in
    let steps : EndsBy AddsConnection Peer site talks = record { whole = adds; part = λ image so_far none. absurd none } in
    same_time AddsConnection AddsConnection site (with_span Peer site talks) (record (next_of (sends ∷ later) site) { tally = tally })
    (record { past = refl; spans = refl; since = refl; told = refl }) (ended_time AddsConnection AddsConnection Peer site talks kept steps adds)

pub next_call : (E : Type 0) (waiting : List (List ℕ)) (site : SiteState) (tally : Tally) → IsKeptBySite site → IsCounted true site.tally.faults tally.faults
    → LinkCall (Begins {E = E} (Ok (is_one_left waiting))) (Begins {E = E} (Ok (is_one_left waiting))) true (site_device site)
    (site_device (record (next_of waiting site) { tally = tally }))
next_call E [] site tally kept counted =
    link_call Unchanged Unchanged true site (record (next_of [] site) { tally = tally }) refl counted
    (quiet_time Unchanged site (record (next_of [] site) { tally = tally }) (λ p. refl) (record { past = refl; spans = refl; since = refl; told = refl }))
next_call E (sends ∷ later) site tally kept counted =
    link_call AddsConnection AddsConnection true site (record (next_of (sends ∷ later) site) { tally = tally }) refl counted
    (begun_time E sends later site tally kept)

-- a count that rises, and one that stays
pub closes : (n : ℕ) → IsCounted false n (counted_on n)
closes n = record { never_falls = grind (arith, nat_tests); stays = λ wrong. cc; rises = λ _ room. grind (arith, nat_tests) }

pub stays_counted : (n : ℕ) → IsCounted true n n
stays_counted n = record { never_falls = omega arith; stays = λ _. refl; rises = λ wrong. cc }

pub next_clause : (E : Type 0) (waiting : List (List ℕ)) (site : SiteState) (tally : Tally)
    → NextPeer {E = E} (Ok (is_one_left waiting)) (site_device site) (site_device (record (next_of waiting site) { tally = tally }))
next_clause E [] site tally = record { under_way = refl; connections = λ _. refl; closed = λ _. closes site.closed; dials = refl }
next_clause E (sends ∷ later) site tally = record { under_way = refl; connections = λ _. simp map-append; closed = λ _. stays_counted site.closed; dials = refl }

-- all that a call which waits for a peer leaves
pub record WaitsForPeer {E : Type 0} (result : Result Bool E) (old new : SiteState) : Type 0 where
  pub call : LinkCall (Begins result) (Begins result) (is_ok result) (site_device old) (site_device new)
  pub peers : IsCounted (is_ok result) old.tally.peer_faults new.tally.peer_faults
  pub next : NextPeer result (site_device old) (site_device new)
  pub fails : SiteCalled old new (is_ok result)

failed_at : (E : Type 0) (e : E) (site : SiteState) (tally : Tally) → CountsCall site.tally tally false
    → IsCounted false site.tally.peer_faults tally.peer_faults → WaitsForPeer {E = E} (Err e) site (record site { tally = tally })
failed_at E e site tally counts peers =
    let new = record site { tally = tally } in
    record {
      call =
          link_call Unchanged Unchanged false site new refl counts.counted
          (quiet_time Unchanged site new (λ p. refl) (record { past = refl; spans = refl; since = refl; told = refl }));
      peers = peers;
      next = record { under_way = refl; connections = λ _. refl; closed = λ _. stays_counted site.closed; dials = refl };
      fails = record { counts = counts; disk = refl; piece = refl; peers = refl };
    }

pub peer_failed : (E : Type 0) (e : E) (passes : Bool) (came : Option Bool) (old mid : SiteState) (tally : Tally)
    → MatchOption came (mid ≡ old) (λ _. mid ≡ (if passes then after_next old else old)) → (is_some came && passes) ≡ false → CountsCall mid.tally tally false
    → IsCounted false mid.tally.peer_faults tally.peer_faults → WaitsForPeer {E = E} (Err e) old (record mid { tally = tally })
peer_failed E e passes came old mid tally next failed counts peers =
    let same = failed_next passes came old mid next failed in
    rw same (failed_at E e old tally (rw same at counts) (rw same at peers))

same_disk : (waiting : List (List ℕ)) (site : SiteState) → (next_of waiting site).disk ≡ site.disk
same_disk [] site = refl
same_disk (sends ∷ later) site = refl

same_piece : (waiting : List (List ℕ)) (site : SiteState) → (next_of waiting site).piece ≡ site.piece
same_piece [] site = refl
same_piece (sends ∷ later) site = refl

same_tally : (waiting : List (List ℕ)) (site : SiteState) → (next_of waiting site).tally ≡ site.tally
same_tally [] site = refl
same_tally (sends ∷ later) site = refl

same_peers : (waiting : List (List ℕ)) (site : SiteState) → site.waiting ≡ waiting → peers_of (next_of waiting site) ≡ peers_of site
same_peers [] site is = refl
same_peers (sends ∷ later) site is = rw is (simp (map-append, append_assoc))

came_at : (E : Type 0) (site : SiteState) (tally : Tally) → IsKeptBySite site → CountsCall site.tally tally true
    → IsCounted true site.tally.peer_faults tally.peer_faults
    → WaitsForPeer {E = E} (Ok (is_one_left site.waiting)) site (record (after_next site) { tally = tally })
came_at E site tally kept counts peers = record {
  call = next_call E site.waiting site tally kept counts.counted;
  peers = peers;
  next = next_clause E site.waiting site tally;
  fails = record { counts = counts; disk = same_disk site.waiting site; piece = same_piece site.waiting site; peers = same_peers site.waiting site refl };
}

pub peer_came : (E : Type 0) (passes : Bool) (came : Option Bool) (old mid : SiteState) (tally : Tally) → IsKeptBySite old
    → MatchOption came (mid ≡ old) (λ _. mid ≡ (if passes then after_next old else old)) → IfSome came (λ b. b ≡ (passes && is_one_left old.waiting))
    → (is_some came && passes) ≡ true → CountsCall mid.tally tally true → IsCounted true mid.tally.peer_faults tally.peer_faults
    → WaitsForPeer {E = E} (Ok (unwrap_or came false)) old (record mid { tally = tally })
peer_came E passes came old mid tally kept next is_left passed counts peers =
    let after = passed_next passes came old mid next passed in
    let tallies = ap (λ site. site.tally) after ∙ same_tally old.waiting old in
    rw (after, passed_came passes came (is_one_left old.waiting) is_left passed) (came_at E old tally kept (rw tallies at counts) (rw tallies at peers))

-- what a call on the last connection leaves that isn't seen in the device
pub changed_fails : (ok : Bool) (change : Connection → Connection) (site : SiteState) (tally : Tally) (talks : List Talk)
    → talks ≡ change_last (with_changed_connection change) site.talks → CountsCall site.tally tally ok
    → SiteCalled site (record site { tally = tally; talks = talks }) ok
changed_fails ok change site tally talks is counts = record {
  counts = counts;
  disk = refl;
  piece = refl;
  peers = ap (λ sends. sends ++ site.waiting) (ap (map (λ talk. talk.sends)) is ∙ peers_kept change site.talks);
}

pub said_fails : (noted passes : Bool) (bytes : List ℕ) (site mid : SiteState) (tally : Tally) (talks : List Talk)
    → mid ≡ (if noted then after_tell (kept_bytes passes bytes) site else site) → talks ≡ change_last
    (with_changed_connection (with_passed (noted && passes))) mid.talks
    → CountsCall mid.tally tally (noted && passes) → SiteCalled site (record mid { tally = tally; talks = talks }) (noted && passes)
said_fails true passes bytes site mid tally talks mid_is is counts =
    let changed =
    said_changed passes (kept_bytes passes bytes) site.talks talks (is ∙ ap (λ m. change_last (with_changed_connection (with_passed passes)) m.talks) mid_is) in
    rw mid_is (record {
      counts = rw mid_is at counts;
      disk = refl;
      piece = refl;
      peers = ap (λ sends. sends ++ site.waiting) (ap (map (λ talk. talk.sends)) changed ∙ peers_kept (after_say passes (kept_bytes passes bytes)) site.talks);
    })
said_fails false passes bytes site mid tally talks mid_is is counts =
    rw mid_is (changed_fails false (with_passed false) site tally talks
    (is ∙ ap (λ m. change_last (with_changed_connection (with_passed false)) m.talks) mid_is)
    (rw mid_is at counts))

-- what was sent, by whether the call took a number
sent_if : (noted : Bool) (n m : ℕ) (bytes : List ℕ) → m ≡ (if noted then n + 1 else n) → (if noted then bytes else []) ≡ (if m == n then [] else bytes)
sent_if true n m bytes is = rw is (grind (arith, nat_tests))
sent_if false n m bytes is = rw is (grind (arith, nat_tests))

pub said_sent : (noted passes : Bool) (bytes : List ℕ) (site mid : SiteState) (tally : Tally) (talks : List Talk)
    → mid ≡ (if noted then after_tell (kept_bytes passes bytes) site else site) → talks ≡ change_last
    (with_changed_connection (with_passed (noted && passes))) mid.talks
    → tally.made ≡ (if noted then mid.tally.made + 1 else mid.tally.made)
    → told_of (record mid { tally = tally; talks = talks }) ≡ change_last (λ t. t ++ sent_by site (record mid { tally = tally; talks = talks })
    (noted && passes) bytes) (told_of site)
said_sent true passes bytes site mid tally talks mid_is is number =
    let changed =
    said_changed passes (kept_bytes passes bytes) site.talks talks (is ∙ ap (λ m. change_last (with_changed_connection (with_passed passes)) m.talks) mid_is) in
    let sent : kept_bytes passes bytes ≡ (if tally.made == site.tally.made then [] else kept_bytes passes bytes) =
    sent_if true site.tally.made tally.made (kept_bytes passes bytes) (rw mid_is at number) in
    said_told passes (kept_bytes passes bytes) site.talks talks changed ∙ ap (λ bytes. change_last (λ t. t ++ bytes) (told_of site)) sent
said_sent false passes bytes site mid tally talks mid_is is number =
    let marks : talks ≡ change_last (with_changed_connection (with_passed false)) site.talks = is
    ∙ ap (λ m. change_last (with_changed_connection (with_passed false)) m.talks) mid_is in
    let sent : [] ≡ (if tally.made == site.tally.made then [] else kept_bytes false bytes) =
    sent_if false site.tally.made tally.made (kept_bytes false bytes) (rw mid_is at number) in
    ap (λ ts. map (λ c. c.told) (map (λ talk. talk.connection) ts)) marks ∙
    (told_kept (with_passed false) site.talks (λ c. refl) ∙ (sym (change_last_same (λ t. t ++ []) (told_of site) append-nil) ∙ ap
    (λ bytes. change_last (λ t. t ++ bytes) (told_of site)) sent))

-- ---- hearing

-- all that a `hear` leaves
pub record HearsPeer {E : Type 0} (result : Result ℕ E) (out : List ℕ) (old new : SiteState) : Type 0 where
  pub call : LinkCall Unchanged Unchanged (is_ok result) (site_device old) (site_device new)
  pub heard : SiteHeard result out (site_device old) (site_device new)
  pub fails : SiteCalled old new (is_ok result)

-- a hearing that failed left the site before its connection was marked
failed_hear : (passes : Bool) (heard : Option ℕ) (out : List ℕ) (old mid : SiteState)
    → MatchOption heard (mid ≡ old) (λ count. mid ≡ (if passes then after_heard count out old else old)) → (is_some heard && passes) ≡ false → mid ≡ old
failed_hear passes None out old mid heard failed = heard
failed_hear true (Some count) out old mid heard failed = cc
failed_hear false (Some count) out old mid heard failed = heard

passed_hear : (passes : Bool) (heard : Option ℕ) (out : List ℕ) (old mid : SiteState)
    → MatchOption heard (mid ≡ old) (λ count. mid ≡ (if passes then after_heard count out old else old)) → (is_some heard && passes) ≡ true
    → mid ≡ after_heard (unwrap_or heard 0) out old
passed_hear passes None out old mid heard passed = cc
passed_hear true (Some count) out old mid heard passed = heard
passed_hear false (Some count) out old mid heard passed = cc

heard_at : (E : Type 0) (count : ℕ) (out : List ℕ) (site : SiteState) (tally : Tally) → CountsCall site.tally tally true
    → tally.peer_faults ≡ site.tally.peer_faults → HearsPeer {E = E} (Ok count) out site (record (after_heard count out site) { tally = tally })
heard_at E count out site tally counts peer_faults =
    let talks = change_last (with_changed_connection (heard_more count out)) site.talks in
    record {
      call = silent_call true (heard_more count out) site tally talks (told-heard_more count out) refl counts.counted;
      heard = heard_clause E (Ok count) out site tally talks peer_faults
          (changed_to (heard_more count out) _ site.talks talks (heard_more-is E count out) refl);
      fails = changed_fails true (heard_more count out) site tally talks refl counts;
    }

pub peer_heard : (E : Type 0) (passes : Bool) (heard : Option ℕ) (out : List ℕ) (old mid : SiteState) (tally : Tally)
    → MatchOption heard (mid ≡ old) (λ count. mid ≡ (if passes then after_heard count out old else old)) → (is_some heard && passes) ≡ true
    → CountsCall mid.tally tally true → tally.peer_faults ≡ mid.tally.peer_faults
    → HearsPeer {E = E} (Ok (unwrap_or heard 0)) out old (record mid { tally = tally })
peer_heard E passes heard out old mid tally is passed counts peer_faults =
    let after = passed_hear passes heard out old mid is passed in
    rw after (heard_at E (unwrap_or heard 0) out old tally (rw after at counts) (rw after at peer_faults))

-- a call that fails marks the connection, and nothing else
pub peer_unheard : (E : Type 0) (e : E) (passes : Bool) (heard : Option ℕ) (out : List ℕ) (old mid : SiteState) (tally : Tally) (talks : List Talk)
    → MatchOption heard (mid ≡ old) (λ count. mid ≡ (if passes then after_heard count out old else old)) → (is_some heard && passes) ≡ false
    → CountsCall mid.tally tally false → tally.peer_faults ≡ mid.tally.peer_faults
    → talks ≡ change_last (with_changed_connection unheard_once) mid.talks
    → HearsPeer {E = E} (Err e) out old (record mid { tally = tally; talks = talks })
peer_unheard E e passes heard out old mid tally talks is failed counts peer_faults marks =
    let same = failed_hear passes heard out old mid is failed in
    let marked : talks ≡ change_last (with_changed_connection unheard_once) old.talks = marks
    ∙ ap (λ m. change_last (with_changed_connection unheard_once) m.talks) same in
    rw same (record {
      call = silent_call false unheard_once old tally talks (λ c. refl) marked (rw same at counts.counted);
      heard = heard_clause E (Err e) out old tally talks (rw same at peer_faults) (changed_to unheard_once _ old.talks talks (λ c. refl) marked);
      fails = changed_fails false unheard_once old tally talks marked (rw same at counts);
    })

-- what is known of what was heard is known of the count, where the call passed
pub heard_value : (heard : Option ℕ) (passes : Bool) (P : ℕ → Type 0) → (is_some heard && passes) ≡ true → IfSome heard P → P (unwrap_or heard 0)
heard_value None passes P passed known = cc
heard_value (Some count) passes P passed known = known

pub heard_passes : (heard : Option ℕ) (passes : Bool) → (is_some heard && passes) ≡ true → passes ≡ true
heard_passes None passes passed = cc
heard_passes (Some count) passes passed = passed

-- ---- dialling

pub dialled_one : (r : Option Bool) → option_eq beq r (Some true) ≡ true → r ≡ Some true
dialled_one None is = cc
dialled_one (Some true) is = refl
dialled_one (Some false) is = cc

-- a dial that failed left the site before its fault was counted
pub dialled_none : (r : Option Bool) (old new other : SiteState) → option_eq beq r (Some true) ≡ false → IfSome r (λ began. new ≡ (if began then other else old))
    → (r ≡ None → new ≡ old) → new ≡ old
dialled_none None old new other is some none = none refl
dialled_none (Some true) old new other is some none = cc
dialled_none (Some false) old new other is some none = some

pub dial_call : (dials : Dials) (waiting : List (List ℕ)) (site : SiteState) → is_one_left waiting ≡ true → IsKeptBySite site
    → LinkCall AddsConnection AddsConnection true (site_device site) (site_device (record (next_of waiting site) { dials = dials }))
dial_call dials [] site left kept = cc
dial_call dials (sends ∷ later) site left kept =
    let came = record (next_of (sends ∷ later) site) { tally = site.tally } in
    let new = record (next_of (sends ∷ later) site) { dials = dials } in
    link_call AddsConnection AddsConnection true site new refl (stays_counted site.tally.faults)
    (same_time AddsConnection AddsConnection site came new (record { past = refl; spans = refl; since = refl; told = refl })
    (begun_time LinkFailed sends later site site.tally kept))

-- a dial that failed told nothing
pub missed_call : (site : SiteState) (tally : Tally) (dials : Dials) → tally.faults ≡ counted_on site.tally.faults
    → LinkCall Unchanged Unchanged false (site_device site) (site_device (record site { tally = tally; dials = dials }))
missed_call site tally dials counted =
    let new = record site { tally = tally; dials = dials } in
    link_call Unchanged Unchanged false site new refl (rw counted (closes site.tally.faults))
    (quiet_time Unchanged site new (λ p. refl) (record { past = refl; spans = refl; since = refl; told = refl }))
