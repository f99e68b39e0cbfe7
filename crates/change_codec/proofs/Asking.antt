-- Values that can always be written.
use Rattle.std.proofs.Common.{ℕ, Bool, Option, Some, None}
use Rattle.std.specs.Prelude.{ℤ}
use Rattle.time_range.specs.declared.ranges.Span.{Span}
use Rattle.time_range.specs.declared.ends.End.{End}
use Rattle.time_range.specs.declared.ends.End.TheVariants.{Unbounded, Including, Excluding}
use Rattle.time_range.specs.Spelling.{low_end, high_end}
use Rattle.media_rows.specs.declared.event.EventKind.{EventKind}
use Rattle.media_rows.specs.declared.flow.FormatKind.{FormatKind}
use Rattle.media_rows.specs.declared.object.Digest.{Digest}
use Rattle.media_rows.specs.declared.request.DeleteStatus.{DeleteStatus}
use Rattle.field_codec.specs.Leaves.{u8_spelling, u32_spelling, u64_spelling, u128_spelling, bool_spelling, ts_spelling, end_spelling, range_spelling}
use Rattle.change_codec.specs.Rows.{status_spelling}
use Rattle.change_codec.specs.Values.{digest_spelling, event_spelling, kind_spelling}

u8_asks : (n : ℕ) → u8_spelling.asks n
unfolding u8_spelling
u8_asks n = tt

pub u32_asks : (n : ℕ) → u32_spelling.asks n
unfolding u32_spelling
u32_asks n = tt

pub u64_asks : (n : ℕ) → u64_spelling.asks n
unfolding u64_spelling
u64_asks n = tt

pub u128_asks : (n : ℕ) → u128_spelling.asks n
unfolding u128_spelling
u128_asks n = tt

pub bool_asks : (b : Bool) → bool_spelling.asks b
unfolding bool_spelling
bool_asks b = (u8_asks _, tt)

pub ts_asks : (t : ℤ) → ts_spelling.asks t
unfolding ts_spelling
ts_asks t = (u128_asks _, tt)

end_asks : (e : End) → end_spelling.asks e
unfolding end_spelling
end_asks Unbounded = tt
end_asks (Including t) = ts_asks t
end_asks (Excluding t) = ts_asks t

pub range_asks : (r : Option Span) → range_spelling.asks r
unfolding range_spelling
range_asks None = (tt, tt)
range_asks (Some s) = ((end_asks (low_end s.low), end_asks (high_end s.high)), tt)

pub kind_asks : (kind : FormatKind) → kind_spelling.asks kind
unfolding kind_spelling
kind_asks kind = (u8_asks _, tt)

pub event_asks : (kind : EventKind) → event_spelling.asks kind
unfolding event_spelling
event_asks kind = (u8_asks _, tt)

pub status_asks : (status : DeleteStatus) → status_spelling.asks status
unfolding status_spelling
status_asks status = (u8_asks _, tt)

pub digest_asks : (digest : Digest) → digest_spelling.asks digest
unfolding digest_spelling
digest_asks digest = (u128_asks digest.high, u128_asks digest.low)
