use Rattle.std.proofs.Common.{◌≡◌, ◌+◌, ℕ, nat_le, false, codes, refl, arith}
use Rattle.std.specs.Fmt.{digits}
use Rattle.std.proofs.lemmas.Bool.Decides.{nat_tests}
use Rattle.change_codec.specs.Fitting.{snapshot_size}
use Rattle.media_rows.specs.Library.{empty_library}
use Rattle.tams_machine.specs.Requests.{interim_text}
use Rattle.tams_machine.proofs.laws.machine_as_worked.Goals as goal

interim : interim_text ≡ codes "HTTP/1.1 100 Continue\r\n\r\n"
unfolding digits
interim = refl

-- rows and a record of 58 bytes don't fit a half of one byte
too_small : (rows : ℕ) → nat_le (rows + 58 + 14) 1 ≡ false
too_small rows = grind (arith, nat_tests)

pub returns : goal.returns
returns c =
    let size = c.fits_as_worked.ensures.plain in
    record {
      interim = interim;
      last_request = refl;
      one_before = refl;
      made = rw size refl;
      full = rw (size, too_small (snapshot_size (empty_library 1 1))) refl;
      room_left = rw size refl;
      put_handed = rw size refl;
      rows_handed = rw size refl;
      stored_handed = refl;
      none_handed = refl;
      body_heard = refl;
      head_heard = refl;
      given = refl;
      refused = refl;
      not_due = refl;
      due = refl;
      no_turn = refl;
    }
