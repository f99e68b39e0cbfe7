-- What is answered to the bytes of an object and to a question of them has its texts, and so has what the journal refuses.
use Rattle.std.proofs.Common.{◌≡◌, ℕ, Bool, true, false, List, length, Option, Some, None, refl}
use Rattle.std.specs.Prelude.{bytes_eq}
use Rattle.std.proofs.lemmas.Bool.{cond_both}
use Rattle.change_codec.specs.Fitting.{State, fits}
use Rattle.json_replies.specs.Texts.{has_reply_texts}
use Rattle.media_rows.specs.declared.change.Change.{Change}
use Rattle.media_rows.specs.declared.object.Digest.{Digest}
use Rattle.media_rows.specs.declared.object.ObjectRow.{ObjectRow}
use Rattle.media_rows.specs.declared.object.ObjectState.{ObjectState}
use Rattle.media_rows.specs.declared.object.ObjectState.TheVariants.{Allocated, Stored}
use Rattle.media_rows.specs.declared.refusal.Refusal.TheVariants.{JournalFull, ObjectDamaged}
use Rattle.media_rows.specs.declared.reply.Reply.{Reply}
use Rattle.media_rows.specs.declared.reply.Reply.TheVariants.{Media, Refused}
use Rattle.media_rows.specs.Answer.{Outcome, unchanged, put_answer_by, put_by_state, placed_put, stored_put, digest_eq, media_answer, media_reply, whole_media}
use Rattle.media_rows.specs.Digests.{digest_of}
use Rattle.media_rows.specs.Objects.{object_of, free_place, blocks_of, bytes_of}
use Rattle.store_states.specs.Fitting.{fitted_by}
use Rattle.reply_laws.specs.Replies.{FittedHaveTexts, MediaAnswersHaveTexts}

-- a reply of an outcome has its texts
pub record Printed (outcome : Outcome) : Type 0 where
  pub is : has_reply_texts outcome.reply ≡ true

placed : (place : Option ℕ) (object bytes : List ℕ) (moment : ℕ) → Printed (placed_put place object bytes moment)
placed None object size moment = record { is = refl }
placed (Some start) object size moment = record { is = refl }

again : (same : Bool) → Printed (stored_put same)
again true = record { is = refl }
again false = record { is = refl }

by_state : (state : ObjectState) (first second : Outcome) → Printed first → Printed second → Printed (put_by_state state first second)
by_state Allocated first second h k = h
by_state (Stored start size digest) first second h k = k

by_row : (row : Option ObjectRow) (first second : Outcome) → Printed first → Printed second → Printed (put_answer_by row first second)
by_row None first second h k = record { is = refl }
by_row (Some row) first second h k = by_state row.state first second h k

by_digest : (size : ℕ) (digest : Option Digest) (found : Digest) → has_reply_texts (whole_media size digest found) ≡ true
by_digest size None found = refl
by_digest size (Some kept) found =
    cond_both (digest_eq kept found) (Media size) (Refused (ObjectDamaged kept found)) (λ (r : Reply). has_reply_texts r ≡ true) (λ same. refl) (λ other. refl)

given_state : (state : ObjectState) (bytes : List ℕ) → has_reply_texts (media_answer state bytes) ≡ true
given_state Allocated bytes = refl
given_state (Stored start size digest) bytes = by_digest size digest (digest_of bytes)

given : (row : Option ObjectRow) (bytes : List ℕ) → has_reply_texts (media_reply row bytes) ≡ true
given None bytes = refl
given (Some row) bytes = given_state row.state bytes

pub media_answers_have_texts : MediaAnswersHaveTexts
media_answers_have_texts = record {
  put = λ archive object bytes moment.
      (by_row (object_of object archive.library.objects) _ _
      (placed (free_place archive.library.objects archive.library.blocks (blocks_of (length bytes))) object bytes moment)
      (again (bytes_eq (bytes_of object archive.library.objects archive.held) bytes))).is;
  get = λ archive object moment. given (object_of object archive.library.objects) (bytes_of object archive.library.objects archive.held);
}

-- ---- the journal

by_change : (journal : State) (outcome : Outcome) (change : Option Change) → has_reply_texts outcome.reply ≡ true
    → has_reply_texts (fitted_by journal outcome change).reply ≡ true
by_change journal outcome None e = e
by_change journal outcome (Some change) e =
    cond_both (fits journal change) outcome (unchanged (Refused JournalFull)) (λ o. has_reply_texts o.reply ≡ true) (λ _. e) (λ _. refl)

pub fitted_have_texts : FittedHaveTexts
fitted_have_texts journal outcome e = by_change journal outcome outcome.change e
