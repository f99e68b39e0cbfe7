-- Where a command is answered with a change, the change applies.
use Rattle.library_laws.proofs.PlaceLemmas.{places_are_least}
use Rattle.library_laws.specs.Laws.{IsLeastPlace, TurnsApply, HasPlace, IsAllowedAt, AnswersApply}
use Rattle.media_rows.specs.Sound.{has_good_values, is_good_command, is_want_good, is_place, is_least_place, may_keep, may_take}
use Rattle.media_rows.specs.declared.object.Digest.{Digest}
use Rattle.media_rows.specs.declared.object.ObjectRow.{ObjectRow}
use Rattle.media_rows.specs.declared.object.ObjectState.{ObjectState}
use Rattle.media_rows.specs.declared.object.ObjectState.TheVariants.{Allocated, Stored}
use Rattle.media_rows.specs.Apply.{is_allowed, applied, passes_serials}
use Rattle.media_rows.specs.Requests.{first_unfinished}
use Rattle.media_rows.specs.Objects.{swept_objects, is_free, blocks_of, free_place, object_of, kept_digest}
use Rattle.std.proofs.Common.{subst, sym, Option, Some, None, cond, nat_lt, refl, ap, ◌∙◌, ◌≡◌, inl, inr, ℕ, zero, suc, ◌+◌, ◌<◌, ◌≤◌, ◌^◌, ◌%◌, Bool, true, false, List, [], ◌∷◌, map, length, codes, length-append, arith}
use Rattle.std.proofs.lemmas.Bool.{cond_both, ltb-false, and_from, le-leb, eq-eqb, eqb-true, false≢true, or_left, lt-ltb}
use Rattle.media_rows.specs.Changes.{moment_of, after}
use Rattle.std.specs.Prelude.{IfSome, IsTrue, MatchOption, ◌||◌, IsFalse, is_some, nat_le, ◌==◌, decimal}
use Rattle.std.specs.List.{list_all}
use Rattle.std.proofs.lemmas.Bool.Decides.{nat_tests}
use Rattle.std.proofs.lemmas.Fmt.{decimal_by_steps, length-decimal-le}
use Rattle.std.specs.Int.{w128, to_be_bytes}
use Rattle.uuid.specs.Text.{by_index, hex_digit, lower, nibble, digit_place, is_hyphen_place}
use Rattle.media_rows.proofs.IdLemmas.{length-id_text}
use Rattle.media_rows.specs.declared.change.Change.{Change}
use Rattle.media_rows.specs.declared.change.Change.TheVariants as changes
use Rattle.media_rows.specs.declared.command.Command.{Command}
use Rattle.media_rows.specs.declared.command.Command.TheVariants as commands
use Rattle.media_rows.specs.declared.command.Want.{Want}
use Rattle.media_rows.specs.declared.command.Want.TheVariants.{Count, Named}
use Rattle.media_rows.specs.declared.reply.Reply.TheVariants as replies
use Rattle.time_range.specs.declared.ranges.Span.{Span}
use Rattle.media_rows.specs.Answer.{keep_refusal, keep_state, Outcome, changed, unchanged, answer, refusal_of, answer_by, accepted_drop, accepted_cut, wanted_ids, made_id, made_prefix, shown_reply}
use Rattle.media_rows.specs.Views.{asked}
use Rattle.media_rows.specs.Good.{Good}
use Rattle.media_rows.specs.Ids.{id_text, is_id_byte, is_object_id}
use Rattle.media_rows.specs.Library.{Library, last_serial}
use Rattle.media_rows.specs.Lists.{numbers_below}
use Rattle.media_rows.specs.Moments.{is_moment}
use Rattle.media_rows.specs.Outbox.{hook_of}
use Rattle.media_rows.specs.Segments.{covered, segments_of}
use Rattle.library_laws.proofs.ListLemmas.{In, In-append}
use Rattle.library_laws.proofs.KeptLemmas.{list_all-both, list_all-mapped}
use Rattle.library_laws.proofs.AnswerLemmas.{by_refusal, answers_allowed}
use Rattle.library_laws.proofs.ChangesKept.{changes_apply}
use Rattle.library_laws.proofs.SortedLemmas.{kept_pass}
use Rattle.media_rows.specs.Ranges.{has_both_ends}

-- ---- ids that the store makes are ids

hex_is_byte : (d : ℕ) → d < 16 → is_id_byte (hex_digit lower d) ≡ true
hex_is_byte d small = grind (arith, nat_tests)

nibble_small : (xs : List ℕ) (k : ℕ) → nibble xs k < 16
nibble_small xs k = grind arith

pub place_is_byte : (xs : List ℕ) (k : ℕ) → is_id_byte (cond (is_hyphen_place k) 45 (hex_digit lower (nibble xs (digit_place k)))) ≡ true
place_is_byte xs k = cond_both (is_hyphen_place k) 45 (hex_digit lower (nibble xs (digit_place k))) (λ b. is_id_byte b ≡ true) (λ e. refl)
    (λ e. hex_is_byte (nibble xs (digit_place k)) (nibble_small xs (digit_place k)))

pub all_places : (n : ℕ) (f : ℕ → ℕ) → ((k : ℕ) → is_id_byte (f k) ≡ true) → list_all is_id_byte (by_index n f) ≡ true
unfolding by_index
all_places zero f h = refl
all_places (suc n) f h = list_all-both is_id_byte (by_index n f) (f n ∷ []) (all_places n f h) (and_from (is_id_byte (f n)) true (h n) refl)

id_is_bytes : (id : ℕ) → list_all is_id_byte (id_text id) ≡ true
unfolding id_text
id_is_bytes id = all_places 36 (λ k. cond (is_hyphen_place k) 45 (hex_digit lower (nibble (to_be_bytes w128 id) (digit_place k))))
    (place_is_byte (to_be_bytes w128 id))

digit_is_byte : (n : ℕ) → n < 10 → is_id_byte (48 + n) ≡ true
digit_is_byte n less = and_from (nat_le 33 (48 + n)) (nat_le (48 + n) 126) (le-leb 33 (48 + n) (omega arith)) (le-leb (48 + n) 126 (omega arith))

pub digits_are_bytes : (n : ℕ) → n < 2 ^ 64 → list_all is_id_byte (decimal n) ≡ true
digits_are_bytes n small =
    decimal_by_steps (λ m ds. list_all is_id_byte ds ≡ true) (λ m less. and_from (is_id_byte (48 + m)) true (digit_is_byte m less) refl)
    (λ m ds more before. list_all-both is_id_byte ds ((48 + m % 10) ∷ []) before
    (and_from (is_id_byte (48 + m % 10)) true (digit_is_byte (m % 10) (omega arith)) refl)) n small

made_is_id : (store serial : ℕ) → serial ≤ last_serial → is_object_id (made_id store serial) ≡ true
made_is_id store serial small =
    let short = length-decimal-le 20 serial (omega arith) (omega arith) (omega arith) in
    let long : length (made_id store serial) ≡ 37 + length (decimal serial) = omega
    (arith, length-append (made_prefix store) (decimal serial), length-append (id_text store) (codes "-"), length-id_text store) in
    and_from _ _ (and_from _ _ (le-leb 1 (length (made_id store serial)) (omega arith)) (le-leb (length (made_id store serial)) 200 (omega arith)))
    (list_all-both is_id_byte (made_prefix store) (decimal serial) (list_all-both is_id_byte (id_text store) (codes "-") (id_is_bytes store) refl)
    (digits_are_bytes serial (omega arith)))

below : (n i : ℕ) → In i (numbers_below n) → i < n
unfolding numbers_below
below zero i here = absurd here
below (suc n) i here = elim (In-append (numbers_below n) (n ∷ []) i here)
    [ inl front ↦ let b = below n i front in omega arith | inr (inl same) ↦ omega (arith, same) | inr (inr bad) ↦ absurd bad ]

length-below : (n : ℕ) → length (numbers_below n) ≡ n
unfolding numbers_below
length-below zero = refl
length-below (suc n) = omega (arith, length-append (numbers_below n) (n ∷ []), length-below n)

length-map_made : (store next : ℕ) (is : List ℕ) → length (map (λ i. made_id store (next + i)) is) ≡ length is
length-map_made store next [] = refl
length-map_made store next (i ∷ is) = ap suc (length-map_made store next is)

wanted_are_ids : (library : Library) (want : Want) → is_want_good want ≡ true → library.next_serial + length (wanted_ids library want) ≤ last_serial
    → list_all is_object_id (wanted_ids library want) ≡ true
wanted_are_ids library (Count n) good most =
    list_all-mapped is_object_id (λ i. made_id library.id (library.next_serial + i)) (numbers_below n) (λ i here.
    let b = below n i here in
    made_is_id library.id (library.next_serial + i) (omega (arith, length-map_made library.id library.next_serial (numbers_below n), length-below n)))
wanted_are_ids library (Named ids) good most = good

-- ---- the place of an object that is stored

-- a place that is found is free, and is block 0 for no bytes
abbrev pub IsFound : Library → ℕ → ℕ → Type 0
IsFound library size start = IsTrue (is_free library.objects library.blocks (blocks_of size) start) × IsTrue (nat_lt 0 size || (start == 0))

by_state : (state : ObjectState) (test : Bool) → may_take state test ≡ true → keep_state state ≡ None → test ≡ true
by_state Allocated test good none = good
by_state (Stored at length digest) test good none = absurd (cc)

-- an allocated object's bytes come to the place that was found
at_place : (o : Option ObjectRow) (test : Bool) → may_keep o test ≡ true → keep_refusal o ≡ None → test ≡ true
at_place None test good none = absurd (cc)
at_place (Some row) test good none = by_state row.state test good none

pub zero_or_more : (size start : ℕ) → (blocks_of size ≡ 0 → start ≡ 0) → (nat_lt 0 size || (start == 0)) ≡ true
zero_or_more zero start h = eq-eqb start 0 (h refl)
zero_or_more (suc n) start h = or_left (nat_lt 0 (suc n)) (start == 0) (lt-ltb 0 (suc n) (omega arith))

is_found : (library : Library) (size start : ℕ) (o : Option ℕ)
    → MatchOption o ((place : ℕ) → place < library.blocks → IsFalse (is_free library.objects library.blocks (blocks_of size) place))
    (IsLeastPlace library.objects library.blocks (blocks_of size))
    → is_place start o ≡ true → IsFound library size start
is_found library size start None least same = absurd (false≢true same)
is_found library size start (Some place) least same =
    let e = eqb-true start place same in
    subst (λ at. IsTrue (is_free library.objects library.blocks (blocks_of size) at) × IsTrue (nat_lt 0 size || (at == 0))) (sym e)
    (least.free, zero_or_more size place least.zero)

found_place : (library : Library) (object : List ℕ) (start size : ℕ) (digest : Digest)
    → is_good_command library (commands.Keep object start size digest) ≡ true → keep_refusal (object_of object library.objects) ≡ None
    → IsFound library size start
found_place library object start size digest good none =
    is_found library size start (free_place library.objects library.blocks (blocks_of size))
    (places_are_least library.objects library.blocks (blocks_of size))
    (at_place (object_of object library.objects) (is_least_place library start size) good none)

-- ---- what a change of an answer brings

-- the values of a change are good, where the serials don't end
Brings : Library → Change → Type 0
Brings library change = (after change library).next_serial ≤ last_serial → has_good_values change ≡ true

drop_brings : (library : Library) (flow moment : ℕ) → IfSome (accepted_drop library flow moment).change (Brings library)
unfolding Brings
drop_brings library flow moment = cond_both (nat_le (length (segments_of flow library.segments)) 32) _ _ (λ (o : Outcome). IfSome o.change (Brings library))
    (λ e m. refl) (λ e m. refl)

cut_brings : (library : Library) (flow : ℕ) (range : Option Span) (moment : ℕ) → IfSome (accepted_cut library flow range moment).change (Brings library)
unfolding Brings
cut_brings library flow range moment =
    cond_both (length (covered library.segments flow range) == 0) _ _ (λ (o : Outcome). IfSome o.change (Brings library)) (λ e. tt)
    (λ some. cond_both (nat_le (length (covered library.segments flow range)) 32) _ _ (λ (o : Outcome). IfSome o.change (Brings library)) (λ e m. refl)
    (λ e m. refl))

brings_by : (library : Library) (command : Command) (outcome : Outcome) → IfSome outcome.change (Brings library)
    → IfSome (answer_by (refusal_of library command) outcome).change (Brings library)
brings_by library command outcome h = by_refusal (Brings library) (refusal_of library command) outcome (λ none. h)

hook_brings : (library : Library) (url : List ℕ) (moment : ℕ) (kept : Bool)
    → IfSome (cond kept (changed replies.Done (changes.DropHook moment url)) (unchanged replies.Done)).change (Brings library)
unfolding Brings
hook_brings library url moment true = λ m. refl
hook_brings library url moment false = tt

answers_bring : (library : Library) (command : Command) (moment : ℕ) → is_good_command library command ≡ true
    → IfSome (answer library command moment).change (Brings library)
unfolding Brings
answers_bring library (commands.PutFlow body) moment good = brings_by library (commands.PutFlow body) _ (λ m. good)
answers_bring library (commands.SetFlow flow part) moment good = brings_by library (commands.SetFlow flow part) _ (λ m. good)
answers_bring library (commands.SetSource source part) moment good = brings_by library (commands.SetSource source part) _ (λ m. good)
answers_bring library (commands.DropFlow flow) moment good = brings_by library (commands.DropFlow flow) _ (drop_brings library flow moment)
answers_bring library (commands.Allocate flow want) moment good = brings_by library (commands.Allocate flow want) _ (λ m. wanted_are_ids library want good m)
answers_bring library (commands.Keep object start size digest) moment good =
    by_refusal (Brings library) (keep_refusal (object_of object library.objects)) (changed replies.Created (changes.Store moment object start size (kept_digest digest)))
    (λ none m. (found_place library object start size digest good none).1)
answers_bring library (commands.AddSegments flow posts) moment good = brings_by library (commands.AddSegments flow posts) _
    (λ m. kept_pass (λ post. has_both_ends post.range) library flow [] posts.segments good)
answers_bring library (commands.CutSegments flow range) moment good = brings_by library (commands.CutSegments flow range) _
    (cut_brings library flow range moment)
answers_bring library (commands.PutHook hook) moment good = λ m. good
answers_bring library (commands.DropHook url) moment good = hook_brings library url moment (is_some (hook_of url library.outbox.hooks))
answers_bring library (commands.Ask query) moment good = brings_by library (commands.Ask query) (unchanged (shown_reply (asked library query))) tt

-- ---- the law

good_place : (library : Library) (command : Command) → is_good_command library command ≡ true → HasPlace library command
good_place library (commands.PutFlow body) good = tt
good_place library (commands.SetFlow flow part) good = tt
good_place library (commands.SetSource source part) good = tt
good_place library (commands.DropFlow flow) good = tt
good_place library (commands.Allocate flow want) good = tt
good_place library (commands.Keep object start size digest) good = λ none. (found_place library object start size digest good none).0
good_place library (commands.AddSegments flow posts) good = tt
good_place library (commands.CutSegments flow range) good = tt
good_place library (commands.PutHook hook) good = tt
good_place library (commands.DropHook url) good = tt
good_place library (commands.Ask query) good = tt

both : (library : Library) (moment : ℕ) → Good library → is_moment moment ≡ true → (o : Option Change) → IfSome o (IsAllowedAt library moment)
    → IfSome o (Brings library)
    → IfSome o (λ change. IsFalse (passes_serials change library) → applied change library ≡ Some (after change library))
unfolding Brings
both library moment good at None allowed brings = tt
both library moment good at (Some change) allowed brings = λ room.
    let most = ltb-false last_serial (after change library).next_serial room in
    changes_apply library change good allowed.allowed (record { at = ap is_moment allowed.at ∙ at; values = brings most; serials = most })

pub answers_apply : AnswersApply
answers_apply library command moment good command_good at =
    both library moment good at (answer library command moment).change (answers_allowed library command moment (good_place library command command_good))
    (answers_bring library command moment command_good)

-- ---- turns

turn_by : (library : Library) (moment : ℕ) → Good library → is_moment moment ≡ true → (change : Change) → is_allowed library change ≡ true → moment_of change
    ≡ moment → has_good_values change ≡ true
    → IsFalse (passes_serials change library) → applied change library ≡ Some (after change library)
turn_by library moment good at change allowed same values room =
    changes_apply library change good allowed (record {
      at = ap is_moment same
          ∙ at;
      values = values;
      serials = ltb-false last_serial (after change library).next_serial room;
    })

pub turns_apply : TurnsApply
turns_apply library moment good at =
    cond_both (is_some (first_unfinished library.requests)) (Some (changes.DeleteStep moment))
    (cond (nat_lt 0 (length (swept_objects library.segments library.objects moment))) (Some (changes.SweepStep moment)) None)
    (λ (o : Option Change). IfSome o (λ change. IsFalse (passes_serials change library) → applied change library ≡ Some (after change library)))
    (λ due. turn_by library moment good at (changes.DeleteStep moment) due refl refl)
    (λ none. cond_both (nat_lt 0 (length (swept_objects library.segments library.objects moment))) (Some (changes.SweepStep moment)) None
    (λ (o : Option Change). IfSome o (λ change. IsFalse (passes_serials change library) → applied change library ≡ Some (after change library)))
    (λ due. turn_by library moment good at (changes.SweepStep moment) due refl refl) (λ nothing. tt))
