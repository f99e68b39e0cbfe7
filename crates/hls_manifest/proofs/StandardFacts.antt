-- Worked values, computed from the definitions: durations, rounding, and the lines of a playlist.
use Rattle.std.proofs.Common.{◌≡◌, true, false, codes, decimal, [], ◌∷◌, ◌++◌, append_assoc, refl}
use Rattle.hls_manifest.specs.declared.listing.Listing.{Listing}
use Rattle.hls_manifest.specs.Playlists.{duration_text, playlist_lines, rounded}

-- the duration of the first segment of RFC 8216, section 8.1
duration : duration_text 9_009_000_000 ≡ decimal 9 ++ codes ".009000000"
duration = append_assoc (decimal 9) (codes ".") (codes "009000000")

-- halves go up
halves : rounded 499_999_999 ∷ rounded 500_000_000 ∷ rounded 9_009_000_000 ∷ [] ≡ 0 ∷ 1 ∷ 9 ∷ []
halves = refl

-- two entries with a discontinuity between them
two : Listing
two = record {
  target = 9;
  entries =
      record { nanos = 9_009_000_000; broken = false; address = codes "http://media.example.com/first.ts" }
      ∷ record { nanos = 3_003_000_000; broken = true; address = codes "http://media.example.com/third.ts" }
      ∷ [];
}

-- their playlist, line by line
lines_of_two : playlist_lines two
    ≡ codes "#EXTM3U"
    ∷ codes "#EXT-X-VERSION:3"
    ∷ (codes "#EXT-X-TARGETDURATION:" ++ decimal 9)
    ∷ codes "#EXT-X-MEDIA-SEQUENCE:0"
    ∷ (codes "#EXTINF:" ++ duration_text 9_009_000_000 ++ codes ",")
    ∷ codes "http://media.example.com/first.ts"
    ∷ codes "#EXT-X-DISCONTINUITY"
    ∷ (codes "#EXTINF:" ++ duration_text 3_003_000_000 ++ codes ",")
    ∷ codes "http://media.example.com/third.ts"
    ∷ codes "#EXT-X-ENDLIST"
    ∷ []
unfolding two
lines_of_two = refl
