-- A library as the two parts of which it is made: its media, and all else. Our own rules.
use Rattle.std.specs.Prelude.{ℕ, nat_le, Option, Some, None, Result, Ok, Err, if◌then◌else◌, option_and_then, option_map}
use Rattle.media_rows.specs.declared.object.Digest.{Digest}
use Rattle.media_rows.specs.Library.{Library, last_serial}
use Rattle.object_refs.specs.References.{digested}
use Rattle.media_book.specs.Media.{HeldMedia, Media, media_of}
use Rattle.core_registry.specs.Registry.{Registry}

-- the library of this id that has these media, and all else of this registry
abbrev pub library_of_parts : ℕ → Media → Registry → Library
library_of_parts id media registry = record {
  id = id;
  blocks = media.blocks;
  catalog = registry.catalog;
  segments = media.segments;
  objects = media.objects;
  requests = registry.requests;
  outbox = registry.outbox;
  next_serial = registry.next_serial;
}

-- the same, where there is such a registry
abbrev pub made_of : ℕ → Media → Option Registry → Option Library
made_of id media None = None
made_of id media (Some registry) = Some (library_of_parts id media registry)

-- ---- a library as it is held

-- A library, and beside it the serial of the object whose row is held apart, where one is.
pub record HeldLibrary : Type 0 where
  pub library : Library
  pub apart : Option ℕ

-- the library alone, where there is one
abbrev pub only_library : Option HeldLibrary → Option Library
only_library held = option_map (λ h. h.library) held

-- the same, or what went wrong
abbrev pub given_library : {E : Type 0} → Result (Option HeldLibrary) E → Result (Option Library) E
given_library (Ok held) = Ok (only_library held)
given_library (Err fault) = Err fault

-- the serial beside it, where there is a library and a row is held apart
abbrev pub apart_in : Option HeldLibrary → Option ℕ
apart_in held = option_and_then (λ h. h.apart) held

-- a library alone, or what went wrong
abbrev pub given_parts : {E : Type 0} → Result HeldLibrary E → Result Library E
given_parts (Ok held) = Ok held.library
given_parts (Err fault) = Err fault

-- the library of this id that holds these media, and all else of this registry
abbrev pub held_of_parts : ℕ → HeldMedia → Registry → HeldLibrary
held_of_parts id media registry =
    record { library = library_of_parts id media.media registry; apart = media.apart }

-- the media that a library holds
abbrev pub held_media_of : HeldLibrary → HeldMedia
held_media_of held = record { media = media_of held.library; apart = held.apart }

-- the object whose row is held apart has this digest
abbrev pub library_digested : Digest → HeldLibrary → HeldLibrary
library_digested digest held = record {
  library = record held.library { objects = digested held.apart digest held.library.objects };
  apart = held.apart;
}

-- ---- serials

-- a library, unless its serials have ended
abbrev pub within_serials : Library → Option Library
within_serials library = if nat_le library.next_serial last_serial then Some library else None
