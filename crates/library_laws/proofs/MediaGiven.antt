-- The bytes of an object are given where they have its digest.
use Rattle.std.proofs.Common.{◌≡◌, ◌∙◌, ℕ, true, List, Option, Some, refl, sym, ap, subst}
use Rattle.std.specs.Prelude.{◌==◌, bytes_eq, cond}
use Rattle.std.proofs.lemmas.Bool.{and_from, eq-eqb}
use Rattle.media_rows.specs.declared.object.Digest.{Digest}
use Rattle.media_rows.specs.declared.object.ObjectRow.{ObjectRow}
use Rattle.media_rows.specs.declared.object.ObjectState.TheVariants.{Stored}
use Rattle.media_rows.specs.declared.refusal.Refusal.TheVariants.{ObjectDamaged}
use Rattle.media_rows.specs.declared.reply.Reply.{Reply}
use Rattle.media_rows.specs.declared.reply.Reply.TheVariants.{Media, Refused}
use Rattle.media_rows.specs.Answer.{digest_eq, media_reply, whole_media}
use Rattle.media_rows.specs.Digests.{digest_of}
use Rattle.media_rows.specs.Media.{Archive, IsDigestOf}
use Rattle.media_rows.specs.Objects.{bytes_of, digest_in_state, is_stored, object_of}
use Rattle.library_laws.specs.MediaLaws.{WholeAreGiven}
use Rattle.library_laws.proofs.KeptLemmas.{same_text}
use Rattle.library_laws.proofs.ListLemmas.{Contains-from_In, find-In}

-- a digest is itself
pub same_digest : (digest : Digest) → digest_eq digest digest ≡ true
same_digest digest =
    and_from (digest.high == digest.high) (digest.low == digest.low) (eq-eqb digest.high digest.high refl) (eq-eqb digest.low digest.low refl)

whole : (size : ℕ) (digest : Option Digest) (bytes : List ℕ) → IsDigestOf bytes digest → whole_media size digest (digest_of bytes) ≡ Media size
whole size digest bytes is =
    ap (λ d. whole_media size d (digest_of bytes)) is
    ∙ ap (λ t. cond t (Media size) (Refused (ObjectDamaged (digest_of bytes) (digest_of bytes)))) (same_digest (digest_of bytes))

pub whole_are_given : WholeAreGiven
whole_are_given archive object row start size digest has is state =
    let objects = archive.library.objects in
    let found = find-In (λ (r : ObjectRow). bytes_eq r.id object) objects row is in
    let id : row.id ≡ object = same_text row.id object found.1 in
    let own = has row (Contains-from_In objects row found.0) (ap is_stored state) in
    let digest_is : IsDigestOf (bytes_of object objects archive.held) digest =
    sym (ap digest_in_state state) ∙ own ∙ ap (λ o. Some (digest_of (bytes_of o objects archive.held))) id in
    ap (λ r. media_reply r (bytes_of object objects archive.held)) is
    ∙ ap (λ s. media_reply (Some (record row { state = s })) (bytes_of object objects archive.held)) state
    ∙ whole size digest (bytes_of object objects archive.held) digest_is
