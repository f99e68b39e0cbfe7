-- The search for the end of a trailer, from where it stood.
use Rattle.std.proofs.Common.{◌≡◌, ℕ, ◌+◌, ◌<◌, ◌≤◌, ◌==◌, ◌||◌, Bool, cond, List, ◌++◌, length, take, drop, refl, sym, ap, ◌∙◌, arith, rules, nat_lt, nat_le, true, false, length-append, length-take}
use Rattle.std.proofs.Math.Seq.{take-add}
use Rattle.std.proofs.lemmas.Bool.Decides.{nat_tests}
use Rattle.std.proofs.lemmas.List.{take-append-le, take-take, take_all, take-append-drop}
use Rattle.std.proofs.lemmas.List.Sums.{count_by-le-length, sum_by-append}
use Rattle.http_wire.specs.Chunks.{count_lines, max_trailer, max_trailer_lines, trailer}
use Rattle.http_wire.specs.Lines.{line_feed, looked}
use Rattle.http_wire.specs.Within.Trailers.{FindsTrailer, IsTrailerSeen}
use Rattle.http_wire.specs.declared.chunk_line.FrontEnd.TheVariants.{Wrong}
use Rattle.http_wire.specs.declared.chunk_line.TrailerFound.TheVariants as found
use Rattle.http_wire.specs.declared.chunk_line.TrailerSeen.{TrailerSeen}
use Rattle.http_wire.specs.declared.lines.Looked.TheVariants as looks
use Rattle.http_wire.specs.declared.lines.LinePlace.{LinePlace}
use Rattle.http_wire.specs.declared.lines.LinePlace.TheVariants.{After}
use Rattle.http_wire.proofs.Ends.{looked-drop, looked_inside, on_by}

-- what was looked at stays under more bytes
pub TrailerSeen_later : (bytes later : List ℕ) (seen : TrailerSeen) → IsTrailerSeen bytes seen → IsTrailerSeen (bytes ++ later) seen
TrailerSeen_later bytes later seen known = record {
  leads = rw (take-append-le seen.at bytes later known.inside) known.leads;
  ended = rw (take-append-le seen.at bytes later known.inside) known.ended;
  inside = omega (arith, known.inside, length-append bytes later);
  few = known.few;
}

-- the lines of two parts
lines_of_both : (xs ys : List ℕ) → count_lines (xs ++ ys) ≡ count_lines xs + count_lines ys
lines_of_both xs ys = sum_by-append (λ b. cond (b == line_feed) 1 0) xs ys

or_true : (b : Bool) → (b || true) ≡ true
or_true true = refl
or_true false = refl

-- at most so many lines were seen
pub few_seen : (bytes : List ℕ) (seen : TrailerSeen) → IsTrailerSeen bytes seen → seen.lines ≤ max_trailer
few_seen bytes seen known =
    omega (arith, known.ended, count_by-le-length (λ b. b == line_feed) (take seen.at bytes), length-take seen.at bytes, known.few)

-- what was looked at lies in the bytes of the longest trailer
pub seen_inside : (bytes : List ℕ) (seen : TrailerSeen) → IsTrailerSeen bytes seen → seen.at ≤ length (take max_trailer bytes)
seen_inside bytes seen known = omega (arith, length-take max_trailer bytes, known.inside, known.few)

module _ (bytes most rest : List ℕ) (seen : TrailerSeen) (known : IsTrailerSeen bytes seen) (most_is : most ≡ take max_trailer bytes)
    (rest_is : rest ≡ drop seen.at most) where
  front_is : take seen.at most ≡ take seen.at bytes
  front_is = rw most_is (take-take seen.at max_trailer bytes known.few)

  inside : seen.at ≤ length most
  inside = rw most_is (seen_inside bytes seen known)

  -- what is found behind the bytes that were looked at is found
  found_behind : looked After most ≡ on_by seen.at (looked seen.place rest)
  found_behind = rw rest_is (looked-drop most seen.at After seen.place inside (rw front_is known.leads))

  -- and so many lines more
  lines_behind : (n : ℕ) → count_lines (take (seen.at + n) most) ≡ seen.lines + count_lines (take n rest)
  lines_behind n = rw (rest_is, take-add seen.at n most, lines_of_both, front_is, known.ended) refl

  lines_in_all : count_lines most ≡ seen.lines + count_lines rest
  lines_in_all =
      ap count_lines (sym (take-append-drop seen.at most))
      ∙ rw (lines_of_both (take seen.at most) (drop seen.at most), rest_is, front_is, known.ended) refl

  ended_at : (n : ℕ) → looked seen.place rest ≡ looks.Ended n → looked After most ≡ looks.Ended (seen.at + n)
  ended_at n ends = found_behind ∙ ap (on_by seen.at) ends

  still_at : (place : LinePlace) → looked seen.place rest ≡ looks.Still place → looked After most ≡ looks.Still place
  still_at place still = found_behind ∙ ap (on_by seen.at) still

  -- the trailer is whole, and has too many lines
  pub trailer_long : (n : ℕ) → looked seen.place rest ≡ looks.Ended n → max_trailer_lines < seen.lines + count_lines (take n rest)
      → trailer bytes ≡ Wrong
  trailer_long n ends many =
      let test : nat_lt max_trailer_lines (seen.lines + count_lines (take n rest)) ≡ true = search (arith, rules, nat_tests) in
      rw (← most_is, ended_at n ends, lines_behind n, test) refl

  -- it hasn't
  pub trailer_whole : (n : ℕ) → looked seen.place rest ≡ looks.Ended n → seen.lines + count_lines (take n rest) ≤ max_trailer_lines
      → FindsTrailer bytes (found.Whole (seen.at + n))
  trailer_whole n ends few =
      let test : nat_lt max_trailer_lines (seen.lines + count_lines (take n rest)) ≡ false = search (arith, rules, nat_tests) in
      let ended = ended_at n ends in (
        rw (← most_is, ended, lines_behind n, test) refl,
        omega (arith, looked_inside After most (seen.at + n) ended, ap length most_is, length-take max_trailer bytes),
      )

  -- it never is: too many bytes
  pub trailer_full : (place : LinePlace) → looked seen.place rest ≡ looks.Still place → max_trailer ≤ length most → trailer bytes ≡ Wrong
  trailer_full place still many =
      let test : nat_le max_trailer (length most) ≡ true = search (arith, rules, nat_tests) in
      rw (← most_is, still_at place still, test) refl

  -- it never is: too many lines
  pub trailer_lined : (place : LinePlace) → looked seen.place rest ≡ looks.Still place → max_trailer_lines ≤ seen.lines + count_lines rest
      → trailer bytes ≡ Wrong
  trailer_lined place still many =
      let test : nat_le max_trailer_lines (seen.lines + count_lines rest) ≡ true = search (arith, rules, nat_tests) in
      rw (← most_is, still_at place still, lines_in_all, test, or_true (nat_le max_trailer (length most))) refl

  -- it isn't whole as yet
  pub trailer_more : (place : LinePlace) → looked seen.place rest ≡ looks.Still place → length most < max_trailer
      → seen.lines + count_lines rest < max_trailer_lines
      → FindsTrailer bytes (found.More (record { at = length most; place = place; lines = seen.lines + count_lines rest }))
  trailer_more place still short few =
      let is_short : nat_le max_trailer (length most) ≡ false = search (arith, rules, nat_tests) in
      let is_few : nat_le max_trailer_lines (seen.lines + count_lines rest) ≡ false = search (arith, rules, nat_tests) in
      let size = ap length most_is ∙ length-take max_trailer bytes in
      let all : take (length most) bytes ≡ most =
      take_all (length most) bytes (omega (arith, size)) ∙ sym (take_all max_trailer bytes (omega (arith, size))) ∙ sym most_is in (
        rw (← most_is, still_at place still, lines_in_all, is_short, is_few) refl,
        record {
          leads = rw all (still_at place still);
          ended = rw all (sym lines_in_all);
          inside = omega (arith, size);
          few = omega arith;
        },
      )
