-- What a probe of a stored object tells is what its bytes are in the archive of which an image has the bytes.
use Rattle.std.proofs.Common.{◌≡◌, ◌∙◌, ℕ, true, List, Option, Some, None, Result, Ok, Err, refl, sym, ap, subst}
use Rattle.std.specs.Prelude.{unwrap_or}
use Rattle.media_rows.specs.declared.object.Digest.{Digest}
use Rattle.media_rows.specs.declared.object.Extent.{Extent}
use Rattle.media_rows.specs.declared.object.ObjectRow.{ObjectRow}
use Rattle.media_rows.specs.declared.object.ObjectState.{ObjectState}
use Rattle.media_rows.specs.declared.object.ObjectState.TheVariants.{Allocated, Stored}
use Rattle.media_rows.specs.declared.refusal.Refusal.{Refusal}
use Rattle.media_rows.specs.Digests.{digest_of}
use Rattle.media_rows.specs.Media.{Archive}
use Rattle.media_rows.specs.Objects.{bytes_of, digest_in_state, is_stored, is_stored_row, object_of}
use Rattle.store_states.specs.States.{held_in, state_bytes}
use Rattle.media_store.specs.declared.probes.Probe.{Probe}
use Rattle.media_store.specs.Probes.{Tells}
use Rattle.media_store.specs.Stores.{extent_in, extent_of}
use Rattle.tams_http.specs.declared.ask.Ask.{Ask}
use Rattle.tams_http.specs.declared.ask.Ask.TheVariants.{GetMedia, PutMedia, Run}
use Rattle.tams_answers.specs.Answers.{ProbeTells, TellsBytes, TellsObject, media_asked}
use Rattle.tams_answers.proofs.Following.{found_bytes, row_bytes}

-- ---- without a probe

-- nothing is to be told where no bytes are asked for
pub tells_none : (archive : Archive) (asked : Result Ask Refusal) (probe : Option Probe) → media_asked asked ≡ None → ProbeTells archive asked probe
tells_none archive (Err why) probe none = tt
tells_none archive (Ok (Run command)) probe none = tt
tells_none archive (Ok (PutMedia object)) probe none = tt
tells_none archive (Ok (GetMedia object)) probe none = absurd cc

-- what is told of the object that is asked for is told
tells_asked : (archive : Archive) (asked : Result Ask Refusal) (object : List ℕ) (probe : Option Probe) → media_asked asked ≡ Some object
    → TellsObject (bytes_of object archive.library.objects archive.held) (object_of object archive.library.objects) probe → ProbeTells archive asked probe
tells_asked archive (Err why) object probe is tells = absurd cc
tells_asked archive (Ok (Run command)) object probe is tells = absurd cc
tells_asked archive (Ok (PutMedia other)) object probe is tells = absurd cc
tells_asked archive (Ok (GetMedia other)) object probe is tells =
    let same : other ≡ object = cc in
    subst (λ o. TellsObject (bytes_of o archive.library.objects archive.held) (object_of o archive.library.objects) probe) (sym same) tells

unstored_state : (state : ObjectState) (bytes : List ℕ) (probe : Option Probe) → extent_in state ≡ None → TellsBytes bytes state probe
unstored_state Allocated bytes probe none = tt
unstored_state (Stored start size digest) bytes probe none = absurd cc

unstored : (row : Option ObjectRow) (bytes : List ℕ) (probe : Option Probe) → extent_of row ≡ None → TellsObject bytes row probe
unstored None bytes probe none = tt
unstored (Some row) bytes probe none = unstored_state row.state bytes probe none

-- nothing is to be told of an object without bytes
pub tells_unstored : (archive : Archive) (asked : Result Ask Refusal) (object : List ℕ) (probe : Option Probe) → media_asked asked ≡ Some object
    → extent_of (object_of object archive.library.objects) ≡ None → ProbeTells archive asked probe
tells_unstored archive asked object probe is none =
    tells_asked archive asked object probe is
    (unstored (object_of object archive.library.objects) (bytes_of object archive.library.objects archive.held) probe none)

-- ---- with one

stored_in : (state : ObjectState) (extent : Extent) → extent_in state ≡ Some extent → is_stored state ≡ true
stored_in Allocated extent is = absurd cc
stored_in (Stored start size digest) extent is = refl

-- what lies somewhere is stored
pub stored_found : (row : Option ObjectRow) (extent : Extent) → extent_of row ≡ Some extent → is_stored_row row ≡ true
stored_found None extent is = absurd cc
stored_found (Some row) extent is = stored_in row.state extent is

abbrev probe_by : Digest → Digest → Probe
probe_by kept found = record { kept = kept; found = found }

told_state : (area : ℕ) (image : List ℕ) (state : ObjectState) (probe : Probe) (bytes : List ℕ) → bytes ≡ state_bytes image area state
    → probe.found ≡ digest_of (state_bytes image area state) → probe.kept ≡ unwrap_or (digest_in_state state) probe.found
    → TellsBytes bytes state (Some probe)
told_state area image Allocated probe bytes is found kept = tt
told_state area image (Stored start size digest) probe bytes is found kept =
    let founds : probe.found ≡ digest_of bytes = found ∙ ap digest_of (sym is) in
    let keeps : probe.kept ≡ unwrap_or digest (digest_of bytes) = kept ∙ ap (unwrap_or digest) founds in
    ap (λ k. Some (probe_by k probe.found)) keeps ∙ ap (λ f. Some (probe_by (unwrap_or digest (digest_of bytes)) f)) founds

told : (area : ℕ) (image : List ℕ) (row : Option ObjectRow) (probe : Probe) (bytes : List ℕ) → bytes ≡ row_bytes image area row
    → Tells area image row probe → TellsObject bytes row (Some probe)
told area image None probe bytes is tells = tt
told area image (Some row) probe bytes is tells = told_state area image row.state probe bytes is tells.found tells.kept

-- a probe of an image with the bytes of the archive's objects
pub tells_stored : (archive : Archive) (asked : Result Ask Refusal) (object : List ℕ) (probe : Probe) (area : ℕ) (image : List ℕ)
    → media_asked asked ≡ Some object → held_in image area archive.library.objects ≡ archive.held
    → Tells area image (object_of object archive.library.objects) probe → ProbeTells archive asked (Some probe)
tells_stored archive asked object probe area image is held tells =
    let objects = archive.library.objects in
    tells_asked archive asked object (Some probe) is
    (told area image (object_of object objects) probe (bytes_of object objects archive.held)
    (ap (bytes_of object objects) (sym held) ∙ found_bytes image area object objects) tells)
