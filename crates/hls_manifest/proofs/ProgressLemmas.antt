-- Lines so far: that a further one leads on, that a playlist begins with them, and that no other
-- line may follow.
use Rattle.std.proofs.Common.{◌≡◌, ◌<◌, ◌^◌, ◌∙◌, ◌∷◌, ◌++◌, ℕ, Bool, true, false, List, [], length, get_or, drop, refl, ap, sym, subst, arith, append_assoc, length-append}
use Rattle.std.specs.Prelude.{IfSome, codes, slice_get}
use Rattle.std.specs.Fmt.{decimal}
use Rattle.std.specs.List.{All, flat_map}
use Rattle.std.proofs.lemmas.Bool.{false≢true}
use Rattle.std.proofs.lemmas.Grind.{flat_map-append}
use Rattle.std.proofs.lemmas.List.{append-nil, get_or_at}
use Rattle.std.proofs.lemmas.List.Elements.{All-nil, All-push}
use Rattle.hls_manifest.specs.declared.listing.Entry.{Entry}
use Rattle.hls_manifest.specs.declared.listing.Listing.{Listing}
use Rattle.hls_manifest.specs.declared.progress.Progress.{Progress}
use Rattle.hls_manifest.specs.declared.progress.Progress.TheVariants.{Begun, Opened, Versioned, Targeted, Between, Broken, Timed, Ended}
use Rattle.hls_manifest.specs.Playlists.{IsAddress, IsEntry, IsListing, break_lines, entry_lines, head_lines, playlist_lines}
use Rattle.hls_manifest.specs.Progress.{BreaksOrGoesOn, Follows, IsBegun, IsBroken, IsOpen, IsPlace, IsReached, IsStep, IsTarget, IsTargeted, IsTimed, entries_after, lines_to, timing}
use Rattle.hls_manifest.specs.Progress.BreaksOrGoesOn.{Ends, Breaks, GoesOn}
use Rattle.hls_manifest.specs.Reading.{BeginsSome}
use Rattle.hls_manifest.proofs.EntryLemmas.{Continues, break_is_no_timing, end_is_no_break, end_is_no_timing, entry_grouped, entry_lines_are, first_same, listing_front, nothing_first, others_same, parts_are_no_end, parts_lines, short_from}
use Rattle.hls_manifest.proofs.LineLemmas.{plain_line}

-- ---- a line more

-- what a line leads to is reached by the lines so far and that one
pub record Leads (progress : Progress) (entries : List Entry) (line : List ℕ) (next : Progress)
    (now : List Entry) : Type 0 where
  pub lines : lines_to next now ≡ lines_to progress entries ++ line ∷ []
  pub reached : IsReached next now

-- a line that is the wanted one
put : (front : List (List ℕ)) (line wanted : List ℕ) → line ≡ wanted
    → front ++ wanted ∷ [] ≡ front ++ line ∷ []
put front line wanted e = ap (λ l. front ++ l ∷ []) (sym e)

-- a listing of no entry
none_listed : (target : ℕ) → 0 < target → target < 2 ^ 64
    → IsListing (record { target = target; entries = [] })
none_listed target least most = record {
  least = least;
  most = most;
  entries = All-nil (IsEntry target);
  first = tt;
}

-- nothing breaks off before the first entry, with one more
first_push : (entries : List Entry) (entry : Entry) → (entry.broken ≡ true → 0 < length entries)
    → IfSome (slice_get entries 0) (λ e. e.broken ≡ false)
    → IfSome (slice_get (entries ++ entry ∷ []) 0) (λ e. e.broken ≡ false)
first_push [] entry some first = by_test entry.broken refl
  where
    by_test : (b : Bool) → entry.broken ≡ b → entry.broken ≡ false
    by_test true e = absurd (omega (arith, some e))
    by_test false e = e
first_push (x ∷ entries) entry some first = first

-- a listing with one more entry
entry_listed : (target : ℕ) (entries : List Entry) (entry : Entry)
    → IsListing (record { target = target; entries = entries }) → IsEntry target entry
    → (entry.broken ≡ true → 0 < length entries)
    → IsListing (record { target = target; entries = entries ++ entry ∷ [] })
entry_listed target entries entry listing is some = record {
  least = listing.least;
  most = listing.most;
  entries = All-push (IsEntry target) entries entry listing.entries is;
  first = first_push entries entry some listing.first;
}

-- the lines with one more entry
lines_push : (front : List (List ℕ)) (entries : List Entry) (broken : Bool) (nanos : ℕ)
    (address : List ℕ)
    → front ++ flat_map entry_lines
    (entries ++ record { nanos = nanos; broken = broken; address = address } ∷ [])
    ≡ (((front ++ flat_map entry_lines entries) ++ break_lines broken) ++ timing
    nanos ∷ []) ++ address ∷ []
lines_push front entries broken nanos address =
    let entry : Entry = record { nanos = nanos; broken = broken; address = address } in
    let own : flat_map entry_lines (entry ∷ []) ≡ break_lines broken ++ timing
    nanos ∷ address ∷ [] = append-nil (entry_lines entry) ∙ entry_lines_are entry in
    ap (λ l. front ++ l) (flat_map-append entry_lines entries (entry ∷ [])
    ∙ ap (λ l. flat_map entry_lines entries ++ l) own)
    ∙ regroup (flat_map entry_lines entries) (break_lines broken)
  where
    regroup : (es b : List (List ℕ)) → front ++ (es ++ (b ++ timing nanos ∷ address ∷ []))
        ≡ (((front ++ es) ++ b) ++ timing nanos ∷ []) ++ address ∷ []
    regroup es b = simp append_assoc

-- behind the head
leads_targeted : (target : ℕ) (entries : List Entry) (line : List ℕ) (next : Progress)
    → IsTargeted target entries
    → IsStep (codes "#EXT-X-MEDIA-SEQUENCE:0") line (Between target) next
    → Leads (Targeted target) entries line next entries
leads_targeted target entries line next reached is =
    subst (λ q. Leads (Targeted target) entries line q entries) (sym is.leads)
    (subst (λ es. Leads (Targeted target) es line (Between target) es) (sym reached.none) (record {
      lines = put (lines_to (Targeted target) []) line (codes "#EXT-X-MEDIA-SEQUENCE:0") is.text;
      reached = none_listed target reached.least reached.most;
    }))

-- behind an address or the head
leads_between : (target : ℕ) (entries : List Entry) (line : List ℕ) (next : Progress)
    → IsListing (record { target = target; entries = entries })
    → BreaksOrGoesOn target entries line next → Leads (Between target) entries line next entries
leads_between target entries line next listing (Ends is) =
    subst (λ q. Leads (Between target) entries line q entries) (sym is.leads)
    (record {
      lines = put (lines_to (Between target) entries) line (codes "#EXT-X-ENDLIST") is.text;
      reached = listing;
    })
leads_between target entries line next listing (Breaks some is) =
    subst (λ q. Leads (Between target) entries line q entries) (sym is.leads) (record {
      lines = put (lines_to (Between target) entries) line (codes "#EXT-X-DISCONTINUITY") is.text;
      reached = record { listing = listing; some = some };
    })
leads_between target entries line next listing (GoesOn is) =
    let front = head_lines target ++ flat_map entry_lines entries in
    subst (λ q. Leads (Between target) entries line q entries) (sym is.leads) (record {
      lines = ap (λ l. l ++ timing is.nanos ∷ []) (append-nil front)
          ∙ put front line (timing is.nanos) is.text;
      reached = record {
        listing = listing;
        some = λ e. absurd (false≢true e);
        duration = is.duration;
        within = is.within;
      };
    })

-- behind a break
leads_broken : (target : ℕ) (entries : List Entry) (line : List ℕ) (next : Progress)
    → IsBroken target entries
    → IsTimed target true line next → Leads (Broken target) entries line next entries
leads_broken target entries line next reached is =
    subst (λ q. Leads (Broken target) entries line q entries) (sym is.leads) (record {
      lines = put (lines_to (Broken target) entries) line (timing is.nanos) is.text;
      reached = record {
        listing = reached.listing;
        some = λ _. reached.some;
        duration = is.duration;
        within = is.within;
      };
    })

-- behind a duration
leads_timed : (target : ℕ) (broken : Bool) (nanos : ℕ) (entries : List Entry) (line : List ℕ)
    (next : Progress) → IsBegun target broken nanos entries
    → IsPlace target line next
    → Leads (Timed target broken nanos) entries line next
    (entries_after (Timed target broken nanos) entries line)
leads_timed target broken nanos entries line next reached is =
    let entry : Entry = record { nanos = nanos; broken = broken; address = line } in
    subst (λ q. Leads (Timed target broken nanos) entries line q (entries ++ entry ∷ []))
    (sym is.leads) (record {
      lines = lines_push (head_lines target) entries broken nanos line;
      reached = entry_listed target entries entry reached.listing
          (record { duration = reached.duration; within = reached.within; address = is.address })
          reached.some;
    })

pub leads : (progress : Progress) (entries : List Entry) (line : List ℕ) (next : Progress)
    → IsReached progress entries
    → Follows progress entries line next
    → Leads progress entries line next (entries_after progress entries line)
leads Begun entries line next reached is =
    subst (λ q. Leads Begun entries line q entries) (sym is.leads)
    (record { lines = put [] line (codes "#EXTM3U") is.text; reached = reached })
leads Opened entries line next reached is =
    subst (λ q. Leads Opened entries line q entries) (sym is.leads)
    (record {
      lines = put (codes "#EXTM3U" ∷ []) line (codes "#EXT-X-VERSION:3") is.text;
      reached = reached;
    })
leads Versioned entries line next reached is =
    subst (λ q. Leads Versioned entries line q entries) (sym is.leads) (record {
      lines = put (codes "#EXTM3U" ∷ codes "#EXT-X-VERSION:3" ∷ []) line
          (codes "#EXT-X-TARGETDURATION:" ++ decimal is.target) is.text.text;
      reached = record { none = reached.none; least = is.text.least; most = is.text.most };
    })
leads (Targeted target) entries line next reached is =
    leads_targeted target entries line next reached is
leads (Between target) entries line next reached is =
    leads_between target entries line next reached is
leads (Broken target) entries line next reached is =
    leads_broken target entries line next reached is
leads (Timed target broken nanos) entries line next reached is =
    leads_timed target broken nanos entries line next reached is
leads (Ended target) entries line next reached is = absurd is

-- ---- a playlist begins so

-- where one begins with a line more, one begins without it
pub begins_back : (front : List (List ℕ)) (line : List ℕ) → BeginsSome (front ++ line ∷ [])
    → BeginsSome front
begins_back front line (later, listing, is, e) =
    (line ∷ later, listing, is, e ∙ append_assoc front (line ∷ []) later)

-- where one begins with what a line leads to, one begins with the lines before it
back_by : (progress : Progress) (entries : List Entry) (line : List ℕ) (next : Progress)
    → IsReached progress entries → Follows progress entries line next
    → BeginsSome (lines_to next (entries_after progress entries line))
    → BeginsSome (lines_to progress entries)
back_by progress entries line next reached is begins =
    begins_back (lines_to progress entries) line
    (subst BeginsSome (leads progress entries line next reached is).lines begins)

-- the lines up to the last one
begins_ended : (target : ℕ) (entries : List Entry) → IsReached (Ended target) entries
    → BeginsSome (lines_to (Ended target) entries)
begins_ended target entries reached = (
  [],
  record { target = target; entries = entries },
  reached,
  sym
      (append-nil (lines_to (Ended target) entries)),
)

-- those up to an address
begins_between : (target : ℕ) (entries : List Entry) → IsReached (Between target) entries
    → BeginsSome (lines_to (Between target) entries)
begins_between target entries reached =
    back_by (Between target) entries (codes "#EXT-X-ENDLIST") (Ended target) reached
    (Ends (record { text = refl; leads = refl })) (begins_ended target entries reached)

-- an address
some_address : IsAddress (codes "x")
some_address = record { some = omega arith; no_tag = refl; line = plain_line (codes "x") refl }

-- those up to a duration
begins_timed : (target : ℕ) (broken : Bool) (nanos : ℕ) (entries : List Entry)
    → IsReached (Timed target broken nanos) entries
    → BeginsSome (lines_to (Timed target broken nanos) entries)
begins_timed target broken nanos entries reached =
    let place : IsPlace target (codes "x") (Between target) =
    record { address = some_address; leads = refl } in
    let entry : Entry = record { nanos = nanos; broken = broken; address = codes "x" } in
    back_by (Timed target broken nanos) entries (codes "x") (Between target) reached place
    (begins_between target (entries ++ entry ∷ [])
    (leads_timed target broken nanos entries (codes "x") (Between target) reached
    place).reached)

-- those up to a break
begins_broken : (target : ℕ) (entries : List Entry) → IsReached (Broken target) entries
    → BeginsSome (lines_to (Broken target) entries)
begins_broken target entries reached =
    let timed : IsTimed target true (timing 0) (Timed target true 0) =
    record { nanos = 0; text = refl; duration = omega arith; within = omega arith; leads = refl } in
    back_by (Broken target) entries (timing 0) (Timed target true 0) reached timed
    (begins_timed target true 0 entries
    (leads_broken target entries (timing 0) (Timed target true 0) reached timed).reached)

-- those up to a target duration
begins_targeted : (target : ℕ) (entries : List Entry) → IsReached (Targeted target) entries
    → BeginsSome (lines_to (Targeted target) entries)
begins_targeted target entries reached =
    let step : IsStep (codes "#EXT-X-MEDIA-SEQUENCE:0") (codes "#EXT-X-MEDIA-SEQUENCE:0")
    (Between target) (Between target) = record { text = refl; leads = refl } in
    back_by (Targeted target) entries (codes "#EXT-X-MEDIA-SEQUENCE:0") (Between target) reached
    step
    (begins_between target entries
    (leads_targeted target entries (codes "#EXT-X-MEDIA-SEQUENCE:0") (Between target) reached
    step).reached)

-- those up to the version
begins_versioned : (entries : List Entry) → IsReached Versioned entries
    → BeginsSome (lines_to Versioned entries)
begins_versioned entries reached =
    let line = codes "#EXT-X-TARGETDURATION:" ++ decimal 1 in
    let is : IsTarget line (Targeted 1) =
    record {
      target = 1;
      text = record { text = refl; least = omega arith; most = omega arith };
      leads = refl;
    } in
    back_by Versioned entries line (Targeted 1) reached is
    (begins_targeted 1 entries
    (record { none = reached.none; least = omega arith; most = omega arith }))

-- those up to the first one
begins_opened : (entries : List Entry) → IsReached Opened entries
    → BeginsSome (lines_to Opened entries)
begins_opened entries reached =
    back_by Opened entries (codes "#EXT-X-VERSION:3") Versioned reached
    (record { text = refl; leads = refl }) (begins_versioned entries reached)

-- some playlist begins with lines that are reached
pub begins : (progress : Progress) (entries : List Entry) → IsReached progress entries
    → BeginsSome (lines_to progress entries)
begins Begun entries reached =
    back_by Begun entries (codes "#EXTM3U") Opened reached (record { text = refl; leads = refl })
    (begins_opened entries reached)
begins Opened entries reached = begins_opened entries reached
begins Versioned entries reached = begins_versioned entries reached
begins (Targeted target) entries reached = begins_targeted target entries reached
begins (Between target) entries reached = begins_between target entries reached
begins (Broken target) entries reached = begins_broken target entries reached
begins (Timed target broken nanos) entries reached =
    begins_timed target broken nanos entries reached
begins (Ended target) entries reached = begins_ended target entries reached

-- ---- no other line may follow

-- no playlist begins with these lines
abbrev pub BeginsNone : List (List ℕ) → Type 0
BeginsNone front = BeginsSome front → ⊥

-- a line that may stand behind the lines so far
pub record MayFollow (progress : Progress) (entries : List Entry) (line : List ℕ) : Type 0 where
  pub next : Progress
  pub follows : Follows progress entries line next

-- the lines of entries by the parts of the first one
entry_behind : (entry : Entry) (more : List Entry)
    → flat_map entry_lines (entry ∷ more) ++ codes "#EXT-X-ENDLIST" ∷ []
    ≡ parts_lines entry.broken entry.nanos entry.address
    (flat_map entry_lines more ++ codes "#EXT-X-ENDLIST" ∷ [])
entry_behind entry more =
    append_assoc (entry_lines entry) (flat_map entry_lines more) (codes "#EXT-X-ENDLIST" ∷ [])
    ∙ entry_grouped entry (flat_map entry_lines more ++ codes "#EXT-X-ENDLIST" ∷ [])

-- no line stands behind the last one of a playlist
follows_ended : (more : List Entry) (line : List ℕ) (later : List (List ℕ))
    → codes "#EXT-X-ENDLIST" ∷ line ∷ later ≡ flat_map entry_lines more ++ codes
    "#EXT-X-ENDLIST" ∷ [] → ⊥
follows_ended [] line later e = nothing_first line later
    (sym (others_same (codes "#EXT-X-ENDLIST") (codes "#EXT-X-ENDLIST") (line ∷ later) [] e))
follows_ended (entry ∷ more) line later e =
    let behind = flat_map entry_lines more ++ codes "#EXT-X-ENDLIST" ∷ [] in
    parts_are_no_end entry.broken entry.nanos entry.address behind (line ∷ later)
    (e ∙ entry_behind entry more)

-- three lists and a line, in front of what is later
regroup_two : (front back : List (List ℕ)) (line : List ℕ) (later : List (List ℕ))
    → ((front ++ back) ++ line ∷ []) ++ later ≡ front ++ (back ++ line ∷ later)
regroup_two front back line later = simp append_assoc

regroup_three : (front b : List (List ℕ)) (t line : List ℕ) (later : List (List ℕ))
    → (((front ++ b) ++ t ∷ []) ++ line ∷ []) ++ later ≡ front ++ ((b ++ t ∷ []) ++ line ∷ later)
regroup_three front b t line later = simp append_assoc

-- what begins an entry
pub data Starts (broken : Bool) (nanos : ℕ) (line : List ℕ) : Type 0 where
  AtBreak : broken ≡ true → line ≡ codes "#EXT-X-DISCONTINUITY" → Starts broken nanos line
  AtTiming : broken ≡ false → line ≡ timing nanos → Starts broken nanos line

starts : (broken : Bool) (nanos : ℕ) (address : List ℕ) (behind : List (List ℕ)) (line : List ℕ)
    (later : List (List ℕ))
    → line ∷ later ≡ parts_lines broken nanos address behind → Starts broken nanos line
starts true nanos address behind line later e =
    AtBreak refl
    (first_same line (codes "#EXT-X-DISCONTINUITY") later (timing nanos ∷ address ∷ behind) e)
starts false nanos address behind line later e =
    AtTiming refl (first_same line (timing nanos) later (address ∷ behind) e)

-- the first entry behind others
front_of : (target : ℕ) (front : List Entry) (entry : Entry) (more : List Entry) (listing : Listing)
    → IsListing listing → listing.target ≡ target
    → listing.entries ≡ front ++ entry ∷ more → IsEntry target entry
front_of target front entry more listing is same e =
    let all : All (IsEntry target) (front ++ entry ∷ more) =
    subst (λ es. All (IsEntry target) es) e
    (subst (λ t. All (IsEntry t) listing.entries) same is.entries) in
    rw (get_or_at front entry more entry (length front) refl) at
    (all (length front) entry (omega (arith, length-append front (entry ∷ more))))

-- a break stands behind an entry
some_before : (front : List Entry) (entry : Entry) (more : List Entry) (listing : Listing)
    → IsListing listing
    → listing.entries ≡ front ++ entry ∷ more → entry.broken ≡ true → 0 < length front
some_before [] entry more listing is e broken =
    let first : entry.broken ≡ false =
    subst (λ es. IfSome (slice_get es 0) (λ x. x.broken ≡ false)) e is.first in
    absurd (false≢true (sym first ∙ broken))
some_before (x ∷ front) entry more listing is e broken = omega arith

-- behind whole entries
follows_between : (target : ℕ) (entries : List Entry) (listing : Listing) (line : List ℕ)
    (later : List (List ℕ)) → IsListing listing
    → listing.target ≡ target → (more : List Entry) → listing.entries ≡ entries ++ more
    → line ∷ later ≡ flat_map entry_lines more ++ codes "#EXT-X-ENDLIST" ∷ []
    → MayFollow (Between target) entries line
follows_between target entries listing line later is same [] all e =
    record {
      next = Ended target;
      follows = Ends (record {
        text = first_same line (codes "#EXT-X-ENDLIST") later [] e;
        leads = refl;
      });
    }
follows_between target entries listing line later is same (entry ∷ more) all e =
    let behind = flat_map entry_lines more ++ codes "#EXT-X-ENDLIST" ∷ [] in
    let own = front_of target entries entry more listing is same all in
    by_start own
    (starts entry.broken entry.nanos entry.address behind line later
    (e ∙ entry_behind entry more))
  where
    by_start : IsEntry target entry → Starts entry.broken entry.nanos line
        → MayFollow (Between target) entries line
    by_start own (AtBreak broken text) = record {
      next = Broken target;
      follows = Breaks (some_before entries entry more listing is all broken)
          (record { text = text; leads = refl });
    }
    by_start own (AtTiming broken text) = record {
      next = Timed target false entry.nanos;
      follows = GoesOn (record {
        nanos = entry.nanos;
        text = text;
        duration = own.duration;
        within = own.within;
        leads = refl;
      });
    }

-- what stands behind a break is a duration
timing_behind : (broken : Bool) (nanos : ℕ) (address : List ℕ) (behind : List (List ℕ))
    (line : List ℕ) (later : List (List ℕ))
    → codes "#EXT-X-DISCONTINUITY" ∷ line ∷ later ≡ parts_lines broken nanos address behind
    → line ≡ timing nanos
timing_behind true nanos address behind line later e =
    first_same line (timing nanos) later (address ∷ behind)
    (others_same (codes "#EXT-X-DISCONTINUITY") (codes "#EXT-X-DISCONTINUITY") (line ∷ later)
    (timing nanos ∷ address ∷ behind) e)
timing_behind false nanos address behind line later e =
    absurd (break_is_no_timing nanos
    (first_same (codes "#EXT-X-DISCONTINUITY") (timing nanos) (line ∷ later) (address ∷ behind)
    e))

follows_broken : (target : ℕ) (entries : List Entry) (listing : Listing) (line : List ℕ)
    (later : List (List ℕ)) → IsListing listing
    → listing.target ≡ target → (more : List Entry) → listing.entries ≡ entries ++ more
    → codes "#EXT-X-DISCONTINUITY" ∷ line ∷ later ≡ flat_map entry_lines more ++ codes
    "#EXT-X-ENDLIST" ∷ [] → MayFollow (Broken target) entries line
follows_broken target entries listing line later is same [] all e =
    absurd (end_is_no_break
    (sym (first_same (codes "#EXT-X-DISCONTINUITY") (codes "#EXT-X-ENDLIST") (line ∷ later) []
    e)))
follows_broken target entries listing line later is same (entry ∷ more) all e =
    let behind = flat_map entry_lines more ++ codes "#EXT-X-ENDLIST" ∷ [] in
    let own = front_of target entries entry more listing is same all in
    let text = timing_behind entry.broken entry.nanos entry.address behind line later
    (e ∙ entry_behind entry more) in
    record {
      next = Timed target true entry.nanos;
      follows = record {
        nanos = entry.nanos;
        text = text;
        duration = own.duration;
        within = own.within;
        leads = refl;
      };
    }

-- what stands behind a duration is an address
address_behind : (b c : Bool) (m n : ℕ) (address : List ℕ) (behind : List (List ℕ)) (line : List ℕ)
    (later : List (List ℕ))
    → (break_lines b ++ timing m ∷ []) ++ line ∷ later ≡ parts_lines c n address behind
    → line ≡ address
address_behind true true m n address behind line later e =
    first_same line address later behind (ap (drop 2) e)
address_behind false false m n address behind line later e =
    first_same line address later behind (ap (drop 1) e)
address_behind true false m n address behind line later e =
    absurd (break_is_no_timing n
    (first_same (codes "#EXT-X-DISCONTINUITY") (timing n) (timing m ∷ line ∷ later)
    (address ∷ behind) e))
address_behind false true m n address behind line later e =
    absurd (break_is_no_timing m
    (sym (first_same (timing m) (codes "#EXT-X-DISCONTINUITY") (line ∷ later)
    (timing n ∷ address ∷ behind) e)))

-- a duration, behind a break or not, is no last line
timed_no_end : (b : Bool) (m : ℕ) (later : List (List ℕ))
    → (break_lines b ++ timing m ∷ []) ++ later ≡ codes "#EXT-X-ENDLIST" ∷ [] → ⊥
timed_no_end true m later e =
    end_is_no_break
    (sym (first_same (codes "#EXT-X-DISCONTINUITY") (codes "#EXT-X-ENDLIST") (timing m ∷ later) []
    e))
timed_no_end false m later e =
    end_is_no_timing m (sym (first_same (timing m) (codes "#EXT-X-ENDLIST") later [] e))

follows_timed : (target : ℕ) (broken : Bool) (nanos : ℕ) (entries : List Entry) (listing : Listing)
    (line : List ℕ) (later : List (List ℕ)) → IsListing listing
    → listing.target ≡ target → (more : List Entry) → listing.entries ≡ entries ++ more
    → (break_lines broken ++ timing nanos ∷ []) ++ line ∷ later ≡ flat_map entry_lines more ++ codes
    "#EXT-X-ENDLIST" ∷ []
    → MayFollow (Timed target broken nanos) entries line
follows_timed target broken nanos entries listing line later is same [] all e = absurd
    (timed_no_end broken nanos (line ∷ later) e)
follows_timed target broken nanos entries listing line later is same (entry ∷ more) all e =
    let behind = flat_map entry_lines more ++ codes "#EXT-X-ENDLIST" ∷ [] in
    let own = front_of target entries entry more listing is same all in
    let text = address_behind broken entry.broken nanos entry.nanos entry.address behind line later
    (e ∙ entry_behind entry more) in
    record {
      next = Between target;
      follows = record { address = subst IsAddress (sym text) own.address; leads = refl };
    }

-- a listing whose lines begin with whole entries
continues : (target : ℕ) (entries : List Entry) (listing : Listing) (rest : List (List ℕ))
    → IsListing (record { target = target; entries = entries })
    → IsListing listing
    → playlist_lines listing ≡ (head_lines target ++ flat_map entry_lines entries) ++ rest
    → Continues target entries listing rest
continues target entries listing rest so is e =
    listing_front target entries listing rest so.most (short_from target entries so.entries) is e

-- what may stand behind the lines so far, in the lines of a listing
follows_in : (progress : Progress) (entries : List Entry) (line : List ℕ) (later : List (List ℕ))
    (listing : Listing) → IsReached progress entries
    → IsListing listing → playlist_lines listing ≡ (lines_to progress entries ++ line ∷ []) ++ later
    → MayFollow progress entries line
follows_in Begun entries line later listing reached is e =
    record {
      next = Opened;
      follows = record { text = sym (ap (λ l. get_or l 0 []) e); leads = refl };
    }
follows_in Opened entries line later listing reached is e =
    record {
      next = Versioned;
      follows = record { text = sym (ap (λ l. get_or l 1 []) e); leads = refl };
    }
follows_in Versioned entries line later listing reached is e = record {
  next = Targeted listing.target;
  follows = record {
    target = listing.target;
    text = record { text = sym (ap (λ l. get_or l 2 []) e); least = is.least; most = is.most };
    leads = refl;
  };
}
follows_in (Targeted target) entries line later listing reached is e =
    record {
      next = Between target;
      follows = record { text = sym (ap (λ l. get_or l 3 []) e); leads = refl };
    }
follows_in (Between target) entries line later listing reached is e =
    let front = head_lines target ++ flat_map entry_lines entries in
    let on = continues target entries listing (line ∷ later) reached is
    (e ∙ append_assoc front (line ∷ []) later) in
    follows_between target entries listing line later is on.same on.on.more on.on.entries
    on.on.lines
follows_in (Broken target) entries line later listing reached is e =
    let front = head_lines target ++ flat_map entry_lines entries in
    let on = continues target entries listing (codes "#EXT-X-DISCONTINUITY" ∷ line ∷ later)
    reached.listing is
    (e ∙ regroup_two front (codes "#EXT-X-DISCONTINUITY" ∷ []) line later) in
    follows_broken target entries listing line later is on.same on.on.more on.on.entries on.on.lines
follows_in (Timed target broken nanos) entries line later listing reached is e =
    let front = head_lines target ++ flat_map entry_lines entries in
    let on = continues target entries listing
    ((break_lines broken ++ timing nanos ∷ []) ++ line ∷ later) reached.listing is
    (e ∙ regroup_three front (break_lines broken) (timing nanos) line later) in
    follows_timed target broken nanos entries listing line later is on.same on.on.more on.on.entries
    on.on.lines
follows_in (Ended target) entries line later listing reached is e =
    let front = head_lines target ++ flat_map entry_lines entries in
    let on = continues target entries listing (codes "#EXT-X-ENDLIST" ∷ line ∷ later) reached is
    (e ∙ regroup_two front (codes "#EXT-X-ENDLIST" ∷ []) line later) in
    absurd (follows_ended on.on.more line later on.on.lines)

-- no playlist begins with the lines so far and a line that may not follow
pub begins_none : (progress : Progress) (entries : List Entry) (line : List ℕ)
    → IsReached progress entries
    → ((next : Progress) → Follows progress entries line next → ⊥)
    → BeginsNone (lines_to progress entries ++ line ∷ [])
begins_none progress entries line reached none (later, listing, is, e) =
    let may = follows_in progress entries line later listing reached is e in
    none may.next may.follows

-- ---- lines that end no playlist

-- the lines of a listing end in their last one
no_whole : (target : ℕ) (entries : List Entry) (listing : Listing) (rest : List (List ℕ))
    → IsListing (record { target = target; entries = entries })
    → IsListing listing
    → playlist_lines listing ≡ (head_lines target ++ flat_map entry_lines entries) ++ rest
    → ((more : List Entry) → rest ≡ flat_map entry_lines more ++ codes "#EXT-X-ENDLIST" ∷ [] → ⊥)
    → ⊥
no_whole target entries listing rest so is e none =
    let on = continues target entries listing rest so is e in
    none on.on.more on.on.lines

-- nothing is no lines of entries and a last one
empty_rest : (more : List Entry) → [] ≡ flat_map entry_lines more ++ codes "#EXT-X-ENDLIST" ∷ [] → ⊥
empty_rest more e =
    absurd (omega
    (arith, ap length e, length-append (flat_map entry_lines more) (codes "#EXT-X-ENDLIST" ∷ [])))

-- nor is a break alone
broken_rest : (more : List Entry)
    → codes "#EXT-X-DISCONTINUITY" ∷ [] ≡ flat_map entry_lines more ++ codes "#EXT-X-ENDLIST" ∷ []
    → ⊥
broken_rest [] e =
    end_is_no_break
    (sym (first_same (codes "#EXT-X-DISCONTINUITY") (codes "#EXT-X-ENDLIST") [] [] e))
broken_rest (entry ∷ more) e =
    let behind = flat_map entry_lines more ++ codes "#EXT-X-ENDLIST" ∷ [] in
    broken_parts entry.broken entry.nanos entry.address behind (e ∙ entry_behind entry more)
  where
    broken_parts : (b : Bool) (n : ℕ) (address : List ℕ) (behind : List (List ℕ))
        → codes "#EXT-X-DISCONTINUITY" ∷ [] ≡ parts_lines b n address behind → ⊥
    broken_parts true n address behind e = absurd (omega (arith, ap length e))
    broken_parts false n address behind e = absurd (omega (arith, ap length e))

-- nor is a duration alone, behind a break or not
timed_rest : (b : Bool) (m : ℕ) (more : List Entry)
    → break_lines b ++ timing m ∷ [] ≡ flat_map entry_lines more ++ codes "#EXT-X-ENDLIST" ∷ [] → ⊥
timed_rest b m [] e = timed_no_end b m [] (append-nil (break_lines b ++ timing m ∷ []) ∙ e)
timed_rest b m (entry ∷ more) e =
    let behind = flat_map entry_lines more ++ codes "#EXT-X-ENDLIST" ∷ [] in
    timed_parts b entry.broken entry.nanos entry.address behind (e ∙ entry_behind entry more)
  where
    timed_parts : (b c : Bool) (n : ℕ) (address : List ℕ) (behind : List (List ℕ))
        → break_lines b ++ timing m ∷ [] ≡ parts_lines c n address behind → ⊥
    timed_parts true true n address behind e = absurd (omega (arith, ap length e))
    timed_parts false false n address behind e = absurd (omega (arith, ap length e))
    timed_parts true false n address behind e =
        break_is_no_timing n
        (first_same (codes "#EXT-X-DISCONTINUITY") (timing n) (timing m ∷ []) (address ∷ behind) e)
    timed_parts false true n address behind e =
        break_is_no_timing m
        (sym (first_same (timing m) (codes "#EXT-X-DISCONTINUITY") []
        (timing n ∷ address ∷ behind) e))

-- lines that end no listing are those of none
pub open_is_none : (progress : Progress) (entries : List Entry) (listing : Listing)
    → IsReached progress entries → IsOpen progress → IsListing listing
    → playlist_lines listing ≡ lines_to progress entries → ⊥
open_is_none Begun entries listing reached is_open is e =
    absurd (omega (arith, ap length (ap (drop 3) e)))
open_is_none Opened entries listing reached is_open is e =
    absurd (omega (arith, ap length (ap (drop 3) e)))
open_is_none Versioned entries listing reached is_open is e =
    absurd (omega (arith, ap length (ap (drop 3) e)))
open_is_none (Targeted target) entries listing reached is_open is e =
    absurd (omega (arith, ap length (ap (drop 3) e)))
open_is_none (Between target) entries listing reached is_open is e =
    let front = head_lines target ++ flat_map entry_lines entries in
    no_whole target entries listing [] reached is (e ∙ sym (append-nil front)) empty_rest
open_is_none (Broken target) entries listing reached is_open is e =
    no_whole target entries listing (codes "#EXT-X-DISCONTINUITY" ∷ []) reached.listing is e
    broken_rest
open_is_none (Timed target broken nanos) entries listing reached is_open is e =
    let front = head_lines target ++ flat_map entry_lines entries in
    no_whole target entries listing (break_lines broken ++ timing nanos ∷ []) reached.listing is
    (e ∙ append_assoc front (break_lines broken) (timing nanos ∷ [])) (timed_rest broken nanos)
open_is_none (Ended target) entries listing reached is_open is e = absurd is_open
