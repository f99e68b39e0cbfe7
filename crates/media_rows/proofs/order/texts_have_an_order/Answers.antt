use Rattle.std.specs.Cmp.Lexicographic.{nat_list_cmp_total}
use Rattle.media_rows.proofs.order.texts_have_an_order.Goals as goal

pub returns : goal.returns
returns c = nat_list_cmp_total
