use Rattle.core_rows.proofs.Writing.{numbers_asks}
use Rattle.core_rows.proofs.texts.append_next_serial.Goals as goal

pub encode_row-requires : goal.encode_row-requires
encode_row-requires c = numbers_asks c.args.next_serial
