-- How far a reader of a list has come.
use Rattle.std.proofs.Common.{Option, Bor, ◌≡◌, ◌∙◌, ℕ, List, [], ◌∷◌, ◌++◌, Some, true, false, sym, refl, inl}
use Rattle.csv.specs.Reading.{ReadRecord, Reached, Ready, default_config, reader_config, reader_state, reader_trim, source_of, strip_bom, took_first}
use Rattle.csv.specs.declared.parser.State.TheVariants.{StartRecord}
use Rattle.csv.specs.declared.reader.Reader.{Reader}
use Rattle.csv.specs.declared.reader.Trim.TheVariants as trims
use Rattle.csv.proofs.ReadFacts.{rows-end, rows-more}
use Rattle.range_edit.specs.Lists.{BeginsWith, Fields, HasRecords}
use Rattle.range_edit.specs.Within.{HasGiven}

-- the bytes that a slice has left
abbrev pub bytes_left : Bor (List ℕ) → Option (List ℕ)
bytes_left slice = Some slice.now

-- a new reader has given no record
pub gives_none : (text : List ℕ) (reader : Reader (Bor (List ℕ)))
    → reader_trim reader ≡ trims.None → Ready reader → reader_config reader ≡ default_config
    → source_of bytes_left reader ≡ Some (strip_bom text)
    → reader_state reader ≡ StartRecord → HasGiven text [] reader
unfolding Reached
gives_none text reader trim ready config source state = record {
  trim = trim;
  ready = ready;
  config = config;
  rest = strip_bom text;
  source = source;
  reached = (sym state, refl);
}

-- a reader that finds a record has given one more
pub gives_more : (text : List ℕ) (records : List Fields) (fields : Fields)
    (old new : Reader (Bor (List ℕ))) → HasGiven text records old → ReadRecord bytes_left old new true fields
    → took_first new ≡ true → HasGiven text (records ++ fields ∷ []) new
gives_more text records fields old new given read first =
    let more = rows-more bytes_left old new fields default_config StartRecord (strip_bom text) given.rest
    records given.config given.source given.reached read in
    record {
      trim = read.3 ∙ given.trim;
      ready = inl first;
      config = read.2 ∙ given.config;
      rest = more.0;
      source = more.1;
      reached = more.2;
    }

-- a reader that finds none has given all
pub gives_all : (text : List ℕ) (records : List Fields) (fields : Fields)
    (old new : Reader (Bor (List ℕ))) → HasGiven text records old → ReadRecord bytes_left old new false fields
    → HasRecords text records
gives_all text records fields old new given read = (
  reader_state old,
  given.rest,
  given.reached,
  rows-end bytes_left old new fields default_config given.rest given.config given.source read,
)

-- the records that a reader has given are the first of the text
pub begins_given : (text : List ℕ) (records : List Fields) (reader : Reader (Bor (List ℕ)))
    → HasGiven text records reader → BeginsWith text records
begins_given text records reader given = (reader_state reader, given.rest, given.reached)
