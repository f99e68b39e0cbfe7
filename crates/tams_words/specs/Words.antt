-- The words of a command line, without the program's name, and the commands that they spell.
use Rattle.std.specs.Prelude.{◌≡◌, ◌≢◌, IsUtf8, ◌≤◌, ◌*◌, ◌-◌, ◌⊎◌, ℕ, List, [], ◌∷◌, length, slice_index, codes, Option, Some, None, nat_eq, IsTrue, All}
use Rattle.std.specs.List.{starts_with}
use Rattle.std.specs.Fmt.{decimal}
use Rattle.media_rows.specs.Ids.{id_of}
use Rattle.time_range.specs.Spelled.{range_in}
use Rattle.time_range.specs.declared.ranges.Span.{Span}
use Rattle.tams_words.specs.declared.words.Invocation.{Invocation}
use Rattle.tams_words.specs.declared.words.Invocation.TheVariants.{Format, Check, Migrate, Work, Deliver, Replay, Serve, Manifest, Workload}
use Rattle.tams_words.specs.declared.words.Wanted.{Wanted}
use Rattle.tams_words.specs.declared.words.Wanted.TheVariants.{Nothing, Plain, Fresh, Listen, Dial}

-- a word of text that is not empty and does not begin with `-`
pub record IsPlainWord (word : List ℕ) : Type 0 where
  pub text : IsUtf8 word
  pub some : 1 ≤ length word
  pub first : slice_index word 0 ≢ 45

-- the word is a number from 1 to the most, in decimal without sign or leading zero
pub record IsNumber (most : ℕ) (word : List ℕ) (n : ℕ) : Type 0 where
  pub text : word ≡ decimal n
  pub least : 1 ≤ n
  pub fits : n ≤ most

-- 0, or such a number
pub data IsNumberOrZero (most : ℕ) (word : List ℕ) (n : ℕ) : Type 0 where
  Zero : word ≡ codes "0" → n ≡ 0 → IsNumberOrZero most word n
  Other : IsNumber most word n → IsNumberOrZero most word n

-- a printed character of ASCII but for the quote, `<` and `>`
pub record IsBaseByte (c : ℕ) : Type 0 where
  pub least : 33 ≤ c
  pub most : c ≤ 126
  pub quote : c ≢ 34
  pub less : c ≢ 60
  pub greater : c ≢ 62

-- the word begins with one of the two schemes
abbrev pub HasScheme : List ℕ → Type 0
HasScheme word =
    IsTrue (starts_with nat_eq word (codes "http://"))
    ⊎ IsTrue (starts_with nat_eq word (codes "https://"))

-- the word is an address that paths are put behind, so it does not end in `/`
pub record IsBase (word : List ℕ) : Type 0 where
  pub least : 8 ≤ length word
  pub most : length word ≤ 200
  pub bytes : All IsBaseByte word
  pub scheme : HasScheme word
  pub last : slice_index word (length word - 1) ≢ 47

-- format PATH BLOCKS HALF STORE_ID
pub record IsFormat (words : List (List ℕ)) (path : List ℕ) (blocks half id : ℕ) : Type 0 where
  pub blocks_word : List ℕ
  pub half_word : List ℕ
  pub id_word : List ℕ
  pub words_are : words ≡ codes "format" ∷ path ∷ blocks_word ∷ half_word ∷ id_word ∷ []
  pub blocks_is : IsNumber 1073741824 blocks_word blocks
  pub half_is : IsNumber 65536 half_word half
  pub id_is : id_of id_word ≡ Some id

-- check PATH
pub record IsCheck (words : List (List ℕ)) (path : List ℕ) : Type 0 where
  pub words_are : words ≡ codes "check" ∷ path ∷ []

-- migrate PATH
pub record IsMigrate (words : List (List ℕ)) (path : List ℕ) : Type 0 where
  pub words_are : words ≡ codes "migrate" ∷ path ∷ []

-- work PATH
pub record IsWork (words : List (List ℕ)) (path : List ℕ) : Type 0 where
  pub words_are : words ≡ codes "work" ∷ path ∷ []

-- deliver PATH
pub record IsDeliver (words : List (List ℕ)) (path : List ℕ) : Type 0 where
  pub words_are : words ≡ codes "deliver" ∷ path ∷ []

-- replay PATH BASE
pub record IsReplay (words : List (List ℕ)) (path base : List ℕ) : Type 0 where
  pub words_are : words ≡ codes "replay" ∷ path ∷ base ∷ []
  pub base_is : IsBase base

-- serve PATH PORT BASE CONNECTIONS
pub record IsServe (words : List (List ℕ)) (path : List ℕ) (port : ℕ) (base : List ℕ)
    (connections : ℕ) : Type 0 where
  pub port_word : List ℕ
  pub connections_word : List ℕ
  pub words_are : words ≡ codes "serve" ∷ path ∷ port_word ∷ base ∷ connections_word ∷ []
  pub port_is : IsNumber 65535 port_word port
  pub base_is : IsBase base
  pub connections_is : IsNumber 1000000000 connections_word connections

-- manifest PATH BASE FLOW RANGE
pub record IsManifest (words : List (List ℕ)) (path base : List ℕ) (flow : ℕ)
    (range : Option Span) : Type 0 where
  pub flow_word : List ℕ
  pub range_word : List ℕ
  pub words_are : words ≡ codes "manifest" ∷ path ∷ base ∷ flow_word ∷ range_word ∷ []
  pub base_is : IsBase base
  pub flow_is : id_of flow_word ≡ Some flow
  pub range_is : range_in range_word ≡ Some range

-- workload NUMBER COUNT
pub record IsWorkload (words : List (List ℕ)) (number count : ℕ) : Type 0 where
  pub number_word : List ℕ
  pub count_word : List ℕ
  pub words_are : words ≡ codes "workload" ∷ number_word ∷ count_word ∷ []
  pub number_is : IsNumberOrZero 1000000 number_word number
  pub count_is : IsNumber 1000 count_word count

-- the words are the command's name and its own words, each of its form
abbrev pub HasForm : List (List ℕ) → Invocation → Type 0
HasForm words (Format path blocks half id) = IsFormat words path blocks half id
HasForm words (Check path) = IsCheck words path
HasForm words (Migrate path) = IsMigrate words path
HasForm words (Work path) = IsWork words path
HasForm words (Deliver path) = IsDeliver words path
HasForm words (Replay path base) = IsReplay words path base
HasForm words (Serve path port base connections) = IsServe words path port base connections
HasForm words (Manifest path base flow range) = IsManifest words path base flow range
HasForm words (Workload number count) = IsWorkload words number count

-- the words are in the command set, and spell this command
pub record IsCommand (words : List (List ℕ)) (command : Invocation) : Type 0 where
  pub plain : All IsPlainWord words
  pub form : HasForm words command

-- the command that words have the form of, or that they have the form of none
abbrev pub FormIs : List (List ℕ) → Option Invocation → Type 0
FormIs words (Some command) = HasForm words command
FormIs words None = (command : Invocation) → HasForm words command → ⊥

-- What the program opens for these words: a file of a length in bytes for `format`, a file that is
-- there for `check`, `migrate`, `work`, `replay` and `manifest`, that and a port for `serve`, that
-- and connections that it begins itself for `deliver`, and nothing for `workload` and for words
-- that are no command
abbrev pub WantedFor : List (List ℕ) → Wanted → Type 0
WantedFor words Nothing = ((command : Invocation) → IsCommand words command → ⊥)
    ⊎ ((number count : ℕ) × IsCommand words (Workload number count))
WantedFor words (Plain path) =
    IsCommand words (Check path) ⊎ (IsCommand words (Migrate path)
    ⊎ (IsCommand words (Work path) ⊎ (((base : List ℕ) × IsCommand words (Replay path base))
    ⊎ ((base : List ℕ) × (flow : ℕ) × (range : Option Span)
    × IsCommand words (Manifest path base flow range)))))
WantedFor words (Fresh path bytes) =
    (blocks half id : ℕ) × (bytes ≡ 4096 * blocks) × IsCommand words (Format path blocks half id)
WantedFor words (Listen path port) =
    (base : List ℕ) × (connections : ℕ) × IsCommand words (Serve path port base connections)
WantedFor words (Dial path) = IsCommand words (Deliver path)

-- words that are no command
abbrev pub IsNoCommand : List (List ℕ) → Type 0
IsNoCommand words = (command : Invocation) → IsCommand words command → ⊥
