-- Laws of words.
use Rattle.std.specs.Prelude.{◌≡◌, ℕ, List}
use Rattle.std.specs.Str.{is_utf8}
use Rattle.std.specs.Prelude.{true}
use Rattle.tams_words.specs.Words.{IsBase, IsCommand}
use Rattle.tams_words.specs.declared.words.Invocation.{Invocation}

-- words spell one command at most
abbrev pub SpellOneCommand : Type 0
SpellOneCommand =
    (words : List (List ℕ)) (command other : Invocation)
    → IsCommand words command → IsCommand words other → command ≡ other

-- an address is text
abbrev pub BasesAreText : Type 0
BasesAreText = (base : List ℕ) → IsBase base → is_utf8 base ≡ true
