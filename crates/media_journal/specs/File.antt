-- The file: a header, a selector, two halves with rows and records, and media blocks. A half is of
-- form 1 or of form 2. Our own format. All numbers are big-endian, and a block has 4,096 bytes.
use Rattle.std.specs.Prelude.{◌≡◌, ◌≢◌, ◌<◌, ◌≤◌, ◌+◌, ◌*◌, ◌/◌, ◌%◌, ◌^◌, ◌==◌, ℕ, List, [], ◌∷◌, ◌++◌, length, slice_index, codes, Option, Some, None, if◌then◌else◌}
use Rattle.disk_trait.specs.Calls.{bytes_at}
use Rattle.disk_trait.specs.Forms.{IsForm}
use Rattle.disk_trait.specs.Numbers.{u32_bytes, u64_bytes, u128_bytes}
use Rattle.media_journal.specs.declared.header.Header.{Header}
use Rattle.media_journal.specs.declared.record.Record.{Record}

-- the eight bytes with which a store begins
unfoldable pub magic : List ℕ
magic = codes "TAMSST01"

-- the header's 40 bytes before its gate
unfoldable pub header_text : Header → List ℕ
header_text h = magic ++ (u64_bytes h.blocks ++ (u64_bytes h.half ++ u128_bytes h.id))

-- a gate is open where its byte is 1
abbrev pub IsOpenGate : List ℕ → ℕ → Type 0
IsOpenGate image at = slice_index image at ≡ 1

-- and closed at every other value and past the end
abbrev pub IsClosedGate : List ℕ → ℕ → Type 0
IsClosedGate image at = slice_index image at ≢ 1

-- the header is an open one: it begins with the magic, and its gate is open
pub record HasOpenHeader (image : List ℕ) : Type 0 where
  pub begins : bytes_at image 0 8 ≡ magic
  pub gate : IsOpenGate image 40

-- the image has this header, and it is an open one
pub record IsHeader (image : List ℕ) (h : Header) : Type 0 where
  pub gate : IsOpenGate image 40
  pub text : bytes_at image 0 40 ≡ header_text h
  pub blocks : h.blocks < 2 ^ 64
  pub half : h.half < 2 ^ 64
  pub id : h.id < 2 ^ 128

-- what is read of an image's header: none, where it isn't an open one
abbrev pub HeaderAnswer : List ℕ → Option Header → Type 0
HeaderAnswer image None = ¬ (HasOpenHeader image)
HeaderAnswer image (Some h) = IsHeader image h

-- the numbers of a header that a file of so many bytes may have
pub record AreSizes (h : Header) (size : ℕ) : Type 0 where
  pub some_half : 1 ≤ h.half
  pub half : h.half ≤ 65536
  pub blocks : h.blocks ≤ 1073741824
  pub fits : 2 * h.half + 3 ≤ h.blocks
  pub within : 4096 * h.blocks ≤ size

-- where the half begins that the selector names: A at block 2 where its byte is even, and B behind
-- A
abbrev pub active_start : List ℕ → ℕ → ℕ
active_start image half =
    if slice_index image 4096 % 2 == 0 then 8192 else 8192 + 4096 * half

-- the byte with which a half of a form begins: 0 in form 1, and 2 in form 2
abbrev pub mark : ℕ → ℕ
mark form = if form == 1 then 0 else 2

-- the first eight bytes of a half as one number: the byte of its form, and in seven bytes the
-- length of its rows
abbrev pub half_number : ℕ → ℕ → ℕ
half_number form size = mark form * 2 ^ 56 + size

-- the rows of a half with its form and their length before them
unfoldable pub rows_text : ℕ → List ℕ → List ℕ
rows_text form rows = u64_bytes (half_number form (length rows)) ++ rows

-- a record with its gate open: the gate, the length of the payload and the payload
unfoldable pub record_text : List ℕ → List ℕ
record_text payload = 1 ∷ (u32_bytes (length payload) ++ payload)

-- an open record of this payload stands at this place
pub record IsRecordAt (image : List ℕ) (at : ℕ) (payload : List ℕ) : Type 0 where
  pub text : bytes_at image at (5 + length payload) ≡ record_text payload
  pub short : length payload < 2 ^ 32

-- open records stand one behind the other from one place up to another
abbrev pub AreRecords : List ℕ → ℕ → List Record → ℕ → Type 0
AreRecords image from [] to = from ≡ to
AreRecords image from (r ∷ rs) to =
    (r.offset ≡ from) × IsRecordAt image from r.payload
    × AreRecords image (from + (5 + length r.payload)) rs to

-- A half that begins at one place and ends before another: its form, its rows, its records, and the
-- closed gate that ends them. What lies behind that gate isn't read.
pub record HasHalf (image : List ℕ) (start end gate form : ℕ) (rows : List ℕ)
    (records : List Record) : Type 0 where
  pub is : IsForm form
  pub text : bytes_at image start (8 + length rows) ≡ rows_text form rows
  pub few : length rows < 2 ^ 56
  pub chain : AreRecords image (start + (8 + length rows)) records gate
  pub closed : IsClosedGate image gate
  pub within : gate < end

-- the image reads as a store: its header, and the form, rows, records and closed gate of its active
-- half
pub record Reads (image : List ℕ) (h : Header) (gate form : ℕ) (rows : List ℕ)
    (records : List Record) : Type 0 where
  pub header : IsHeader image h
  pub sizes : AreSizes h (length image)
  pub half : HasHalf image (active_start image h.half)
      (active_start image h.half + 4096 * h.half) gate form rows records

-- the image doesn't read as a store
abbrev pub IsUnreadable : List ℕ → Type 0
IsUnreadable image =
    (h : Header) (gate form : ℕ) (rows : List ℕ) (records : List Record)
    → Reads image h gate form rows records → ⊥

-- An open record stands at this place, and its end passes the half's end: no gate fits behind a
-- payload of the length that it says.
pub record IsTornAt (image : List ℕ) (at end : ℕ) : Type 0 where
  pub gate : IsOpenGate image at
  pub passes : (n : ℕ) → n < 2 ^ 32 → bytes_at image (at + 1) 4 ≡ u32_bytes n → end < at + (6 + n)

-- A half that begins at one place and ends before another: its form, its rows, its records, and the
-- place of the torn record behind them.
pub record HasTornHalf (image : List ℕ) (start end at form : ℕ) (rows : List ℕ)
    (records : List Record) : Type 0 where
  pub is : IsForm form
  pub text : bytes_at image start (8 + length rows) ≡ rows_text form rows
  pub few : length rows < 2 ^ 56
  pub chain : AreRecords image (start + (8 + length rows)) records at
  pub torn : IsTornAt image at end
  pub within : at < end

-- A half that begins here is of no form: the first of its eight bytes is that of none.
pub record HasOtherForm (image : List ℕ) (start : ℕ) : Type 0 where
  pub number : ℕ
  pub short : number < 2 ^ 64
  pub text : bytes_at image start 8 ≡ u64_bytes number
  pub other : (form : ℕ) → IsForm form → number / 2 ^ 56 ≢ mark form

-- A half that begins at one place and ends before another: it is of a form, and says a length of
-- its rows with which no gate fits behind them.
pub record HasLongRows (image : List ℕ) (start end : ℕ) : Type 0 where
  pub form : ℕ
  pub is : IsForm form
  pub size : ℕ
  pub short : size < 2 ^ 56
  pub text : bytes_at image start 8 ≡ u64_bytes (half_number form size)
  pub passes : end < start + (9 + size)

-- the image reads as a store up to a torn record: its header, and the form, rows and records of its
-- active half before that place
pub record ReadsTorn (image : List ℕ) (h : Header) (at form : ℕ) (rows : List ℕ)
    (records : List Record) : Type 0 where
  pub header : IsHeader image h
  pub sizes : AreSizes h (length image)
  pub half : HasTornHalf image (active_start image h.half)
      (active_start image h.half + 4096 * h.half) at form rows records
