-- What `clap` reads of the words of each command: a word that does not begin with `-` goes to the next place of the command.
use Rattle.std.proofs.Common.{◌≡◌, ◌≢◌, ◌∙◌, ◌==◌, ◌&&◌, ◌||◌, ◌+◌, ℕ, suc, Bool, true, false, not, if◌then◌else◌, List, [], ◌∷◌, Option, Some, None, is_some, unwrap_or, map, option_map, length, get_or, All, refl, sym, ap, ap₂, codes, fold, find, true≢false, arith}
use Rattle.std.specs.Str.{bytes_eq}
use Rattle.std.specs.List.{list_all}
use Rattle.std.specs.Option.{option_map_or}
use Rattle.std.proofs.lemmas.Bool.{eqb-true}
use Rattle.clap.specs.Words.{App, Row, Rule, Shape, Text, is_simple, subcommand_of, takes}
use Rattle.clap.specs.Walk.{Held, Step, Walk, after_step, idle, positional, to_positional, value, word_met, answers_to, arg_by_index, finished, is_multiple, next_position, nothing_held, positional_held, walk, walked}
use Rattle.clap.specs.Simple.{argument_words, built, entered, help_shape, label_of, names_of, rows_at}
use Rattle.clap.specs.Takes.{default_passes, entered_passes, is_valid, step_passes, word_passes, level_passes, positional_passes, settle_passes, turn_passes, walk_passes}
use Rattle.clap.proofs.OnLiterals.{clap_on_literals}
use Rattle.tams_words.specs.Commands.{IsNamed, tams_app, command_word, word_value, words_of}
use Rattle.tams_words.specs.Words.{FormIs, HasForm, IsPlainWord, IsFormat, IsCheck, IsMigrate, IsWork, IsDeliver, IsReplay, IsServe, IsManifest, IsWorkload}
use Rattle.tams_words.specs.declared.words.Invocation.{Invocation}
use Rattle.tams_words.specs.declared.words.Invocation.TheVariants.{Format, Check, Migrate, Work, Deliver, Replay, Serve, Manifest, Workload}
use Rattle.tams_words.specs.declared.commands.CommandName.{CommandName}
use Rattle.tams_words.specs.declared.commands.CommandName.TheVariants as name

-- the word is not empty and does not begin with `-`
abbrev begins_plain : Text → Bool
begins_plain [] = false
begins_plain (b ∷ rest) = not (b == 45)

both : (a b : Bool) → (a && b) ≡ true → (a ≡ true) × (b ≡ true)
both true b e = (refl, e)
both false b e = absurd (true≢false (sym e))

-- ---- the walk over such words

abbrev at_word : ℕ → Held → Walk
at_word p h = record { held = h; waiting = idle; position = p; is_trailing = false; stopped = None }

-- an argument of one value, after which the next one follows
abbrev is_single : Rule → Bool
is_single a = not (is_multiple a) && not a.trailing_var_arg

-- what is held behind these words, each at the next place
unfoldable plain_end : List Rule → ℕ → Held → List Text → Held
plain_end c p h [] = h
plain_end c p h (x ∷ xs) = option_map_or (λ a. plain_end c (next_position a p) (positional_held c a x h) xs) (arg_by_index c p) h

-- each word has its place
unfoldable has_places : Shape → ℕ → Held → List Text → Bool
has_places s p h [] = true
has_places s p h (x ∷ xs) = option_map_or (λ a. is_single a && (positional_passes s.rules s.args_override_self a h
    && has_places s (next_position a p) (positional_held s.rules a x h) xs)) (arg_by_index s.rules p) false

single : (a : Rule) → is_single a ≡ true → (is_multiple a ≡ false) × (a.trailing_var_arg ≡ false)
single a e = go (is_multiple a) (a.trailing_var_arg) e
  where
    go : (m t : Bool) → (not m && not t) ≡ true → (m ≡ false) × (t ≡ false)
    go false false e = (refl, refl)
    go false true e = absurd (true≢false (sym e))
    go true t e = absurd (true≢false (sym e))

plain_met : (c : List Rule) (p : ℕ) (b : ℕ) (t : Text) (h : Held) → (b == 45) ≡ false → word_met c [] false idle p (b ∷ t) h ≡ (h, value)
plain_met c p b t h plain = simp plain

plain_passes : (s : Shape) (b : ℕ) (t : Text) (h : Held) → (b == 45) ≡ false → word_passes s [] false idle (b ∷ t) h ≡ true
plain_passes s b t h plain = simp plain

-- a plain word goes to its place
one_walked : (c : List Rule) (p : ℕ) (h : Held) (b : ℕ) (t : Text) (a : Rule) → (b == 45) ≡ false → arg_by_index c p ≡ Some a
    → is_multiple a ≡ false → a.trailing_var_arg ≡ false
    → walked c [] (at_word p h) (b ∷ t) ≡ at_word (next_position a p) (positional_held c a (b ∷ t) h)
unfolding walked
one_walked c p h b t a plain found one last =
    let waits : (if is_multiple a then positional else idle) ≡ idle = ap (λ (x : Bool). if x then positional else idle) one in
    ap (λ (m : Held × Step). after_step c (b ∷ t) (at_word p h) m.0 m.1) (plain_met c p b t h plain)
    ∙ (ap (λ o. to_positional c o (b ∷ t) (at_word p h) h) found
    ∙ (λ i. record {
      held = positional_held c a (b ∷ t) h;
      waiting = waits i;
      position = next_position a p;
      is_trailing = last i;
      stopped = None;
    }))

one_passes : (s : Shape) (p : ℕ) (h : Held) (b : ℕ) (t : Text) (a : Rule) → (b == 45) ≡ false → arg_by_index s.rules p ≡ Some a
    → positional_passes s.rules s.args_override_self a h ≡ true → turn_passes s [] (at_word p h) (b ∷ t) ≡ true
one_passes s p h b t a plain found passes =
    ap₂ (λ (x : Bool) (m : Held × Step). x && step_passes s p m.0 m.1) (plain_passes s b t h plain) (plain_met s.rules p b t h plain)
    ∙ (ap (λ o. option_map_or (λ r. positional_passes s.rules s.args_override_self r h) o false) found ∙ passes)

-- the two together, over all the words
record Walks (s : Shape) (p : ℕ) (h : Held) (words : List Text) : Type 0 where
  pub end : (fold (walked s.rules []) (at_word p h) words).held ≡ plain_end s.rules p h words
  pub passes : walk_passes s [] (at_word p h) words ≡ true

more_walks : (s : Shape) (p : ℕ) (h : Held) (b : ℕ) (t : Text) (xs : List Text) → (b == 45) ≡ false
    → ((a : Rule) → has_places s (next_position a p) (positional_held s.rules a (b ∷ t) h) xs ≡ true
    → Walks s (next_position a p) (positional_held s.rules a (b ∷ t) h) xs)
    → (o : Option Rule) → arg_by_index s.rules p ≡ o
    → option_map_or (λ a. is_single a && (positional_passes s.rules s.args_override_self a h
    && has_places s (next_position a p) (positional_held s.rules a (b ∷ t) h) xs)) o false ≡ true
    → Walks s p h ((b ∷ t) ∷ xs)
unfolding plain_end walk_passes
more_walks s p h b t xs no_hyphen more None found places = absurd (true≢false (sym places))
more_walks s p h b t xs no_hyphen more (Some a) found places =
    let first = both _ _ places in
    let second = both _ _ first.1 in
    let one = single a first.0 in
    let later = more a second.1 in
    let step = one_walked s.rules p h b t a no_hyphen found one.0 one.1 in
    let turn = one_passes s p h b t a no_hyphen found second.0 in
    record {
      end = ap (λ (w : Walk). (fold (walked s.rules []) w xs).held) step ∙ (later.end
          ∙ sym (ap (λ o. option_map_or (λ r. plain_end s.rules (next_position r p) (positional_held s.rules r (b ∷ t) h) xs) o h) found));
      passes = ap₂ (λ (x : Bool) (w : Walk). x && walk_passes s [] w xs) turn step ∙ later.passes;
    }

is_not : (x : Bool) → not x ≡ true → x ≡ false
is_not false e = refl
is_not true e = absurd (true≢false (sym e))

walks : (s : Shape) (p : ℕ) (h : Held) (words : List Text) → list_all begins_plain words ≡ true → has_places s p h words ≡ true → Walks s p h words
unfolding plain_end has_places walk_passes
walks s p h [] plain places = record { end = refl; passes = refl }
walks s p h ([] ∷ xs) plain places = absurd (true≢false (sym plain))
walks s p h ((b ∷ t) ∷ xs) plain places =
    let begins = both _ _ plain in
    more_walks s p h b t xs (is_not (b == 45) begins.0)
    (λ a later. walks s (next_position a p) (positional_held s.rules a (b ∷ t) h) xs begins.1 later) (arg_by_index s.rules p) refl places

-- ---- a command's own level

-- what is left to ask of a command, once each word has its place
abbrev is_taken : Shape → Held → Bool
is_taken s end = settle_passes s.rules s.args_override_self end && (list_all default_passes s.rules && is_valid s (finished s.rules end) false)

level : (s : Shape) (words : List Text) → list_all begins_plain words ≡ true → has_places s 1 nothing_held words ≡ true
    → is_taken s (plain_end s.rules 1 nothing_held words) ≡ true → level_passes s [] nothing_held words false ≡ true
level s words plain places taken =
    let w = walks s 1 nothing_held words plain places in
    ap₂ (λ (x : Bool) (end : Held). x && is_taken s end) w.passes w.end ∙ taken

-- ---- the program's level

-- the words are those of a command: `clap` takes them, and gives each under its name
record Reads (name : CommandName) (rest : List Text) : Type 0 where
  pub taken : takes tams_app (command_word name ∷ rest) ≡ true
  pub values : (rows : List Row) → option_map (λ p. p.1) (subcommand_of tams_app (command_word name ∷ rest)) ≡ Some rows → map (word_value rows) (words_of name)
      ≡ rest
  pub found : option_map (λ p. p.1) (subcommand_of tams_app (command_word name ∷ rest)) ≡ None → ⊥

-- the program's own walk ends at the command's name
record Names (a : App) (words : List Text) (name : Text) (rest : List Text) (s : Shape) : Type 0 where
  simple : is_simple a ≡ true
  stopped : (walk (built a).top.rules (names_of (built a)) nothing_held (argument_words a words)).stopped ≡ Some (name, rest)
  leaf : find (λ s. answers_to name (label_of s)) (built a).subs ≡ Some s
  above : level_passes (built a).top (names_of (built a)) nothing_held (argument_words a words) true ≡ true

taken_at : (a : App) (words : List Text) (name : Text) (rest : List Text) (s : Shape) → Names a words name rest s
    → level_passes s [] nothing_held rest false ≡ true → takes a words ≡ true
taken_at a words name rest s n below =
    let b = built a in
    let ws = argument_words a words in
    ap₂ (λ (x : Bool) (stop : Option (Text × List Text)). x && (entered_passes b stop
    && level_passes b.top (names_of b) nothing_held ws (is_some (entered b stop)))) n.simple n.stopped
    ∙ (ap (λ (found : Option Shape). option_map_or (λ l. level_passes l [] nothing_held rest false) found true
    && level_passes b.top (names_of b) nothing_held ws (is_some (option_map (λ l. rows_at l rest) found))) n.leaf
    ∙ ap₂ (λ (x y : Bool). x && y) below n.above)

entered_at : (a : App) (words : List Text) (name : Text) (rest : List Text) (s : Shape) → Names a words name rest s
    → subcommand_of a words ≡ Some (s.name, finished s.rules (walk s.rules [] nothing_held rest).held)
entered_at a words name rest s n = ap (entered (built a)) n.stopped ∙ ap (option_map (λ (l : Shape). rows_at l rest)) n.leaf

some_of : {A : Type 0} (a b : A) → Some a ≡ Some b → a ≡ b
some_of a b e = ap (λ o. unwrap_or o a) e

reads : (name : CommandName) (rest : List Text) (s : Shape) → Names tams_app (command_word name ∷ rest) (command_word name) rest s
    → list_all begins_plain rest ≡ true → has_places s 1 nothing_held rest ≡ true → is_taken s (plain_end s.rules 1 nothing_held rest) ≡ true
    → map (word_value (finished s.rules (plain_end s.rules 1 nothing_held rest))) (words_of name) ≡ rest → Reads name rest
reads name rest s n plain places taken values =
    let words = command_word name ∷ rest in
    let w = walks s 1 nothing_held rest plain places in
    let enters = entered_at tams_app words (command_word name) rest s n in
    record {
      taken = taken_at tams_app words (command_word name) rest s n (level s rest plain places taken);
      values = λ rows is.
          let own = ap (option_map (λ (p : Text × List Row). p.1)) (sym enters) ∙ is in
          let same = some_of _ rows own in
          let ends = ap (finished s.rules) (sym w.end) ∙ same in
          ap (λ (r : List Row). map (word_value r) (words_of name)) (sym ends) ∙ values;
      found = λ e.
          let none = ap (option_map (λ (p : Text × List Row). p.1)) (sym enters) ∙ e in
          true≢false (ap (λ (o : Option (List Row)). is_some o) none);
    }

-- the command of this name, as it is built
abbrev leaf : CommandName → Shape
leaf n = unwrap_or (find (λ s. answers_to (command_word n) (label_of s)) (built tams_app).subs) help_shape

reads_format : (a b c d : Text) → list_all begins_plain (a ∷ b ∷ c ∷ d ∷ []) ≡ true → Reads name.Format (a ∷ b ∷ c ∷ d ∷ [])
unfolding clap_on_literals plain_end has_places
reads_format a b c d plain = reads name.Format (a ∷ b ∷ c ∷ d ∷ []) (leaf name.Format)
    (record { simple = refl; stopped = refl; leaf = refl; above = refl }) plain refl refl refl

reads_check : (a : Text) → list_all begins_plain (a ∷ []) ≡ true → Reads name.Check (a ∷ [])
unfolding clap_on_literals plain_end has_places
reads_check a plain = reads name.Check (a ∷ []) (leaf name.Check)
    (record { simple = refl; stopped = refl; leaf = refl; above = refl }) plain refl refl refl

reads_migrate : (a : Text) → list_all begins_plain (a ∷ []) ≡ true → Reads name.Migrate (a ∷ [])
unfolding clap_on_literals plain_end has_places
reads_migrate a plain = reads name.Migrate (a ∷ []) (leaf name.Migrate)
    (record { simple = refl; stopped = refl; leaf = refl; above = refl }) plain refl refl refl

reads_work : (a : Text) → list_all begins_plain (a ∷ []) ≡ true → Reads name.Work (a ∷ [])
unfolding clap_on_literals plain_end has_places
reads_work a plain = reads name.Work (a ∷ []) (leaf name.Work)
    (record { simple = refl; stopped = refl; leaf = refl; above = refl }) plain refl refl refl

reads_deliver : (a : Text) → list_all begins_plain (a ∷ []) ≡ true → Reads name.Deliver (a ∷ [])
unfolding clap_on_literals plain_end has_places
reads_deliver a plain = reads name.Deliver (a ∷ []) (leaf name.Deliver)
    (record { simple = refl; stopped = refl; leaf = refl; above = refl }) plain refl refl refl

reads_replay : (a b : Text) → list_all begins_plain (a ∷ b ∷ []) ≡ true → Reads name.Replay (a ∷ b ∷ [])
unfolding clap_on_literals plain_end has_places
reads_replay a b plain = reads name.Replay (a ∷ b ∷ []) (leaf name.Replay)
    (record { simple = refl; stopped = refl; leaf = refl; above = refl }) plain refl refl refl

reads_serve : (a b c d : Text) → list_all begins_plain (a ∷ b ∷ c ∷ d ∷ []) ≡ true → Reads name.Serve (a ∷ b ∷ c ∷ d ∷ [])
unfolding clap_on_literals plain_end has_places
reads_serve a b c d plain = reads name.Serve (a ∷ b ∷ c ∷ d ∷ []) (leaf name.Serve)
    (record { simple = refl; stopped = refl; leaf = refl; above = refl }) plain refl refl refl

reads_manifest : (a b c d : Text) → list_all begins_plain (a ∷ b ∷ c ∷ d ∷ []) ≡ true → Reads name.Manifest (a ∷ b ∷ c ∷ d ∷ [])
unfolding clap_on_literals plain_end has_places
reads_manifest a b c d plain = reads name.Manifest (a ∷ b ∷ c ∷ d ∷ []) (leaf name.Manifest)
    (record { simple = refl; stopped = refl; leaf = refl; above = refl }) plain refl refl refl

reads_workload : (a b : Text) → list_all begins_plain (a ∷ b ∷ []) ≡ true → Reads name.Workload (a ∷ b ∷ [])
unfolding clap_on_literals plain_end has_places
reads_workload a b plain = reads name.Workload (a ∷ b ∷ []) (leaf name.Workload)
    (record { simple = refl; stopped = refl; leaf = refl; above = refl }) plain refl refl refl

-- ---- words of a known number

one_word : (P : List Text → Type 0) → ((a : Text) → P (a ∷ [])) → (xs : List Text) → length xs ≡ 1 → P xs
one_word P f [] e = absurd (omega (arith, e))
one_word P f (a ∷ []) e = f a
one_word P f (a ∷ b ∷ xs) e = absurd (omega (arith, e))

two_words : (P : List Text → Type 0) → ((a b : Text) → P (a ∷ b ∷ [])) → (xs : List Text) → length xs ≡ 2 → P xs
two_words P f [] e = absurd (omega (arith, e))
two_words P f (a ∷ xs) e = one_word (λ rest. P (a ∷ rest)) (f a) xs (omega (arith, e))

four_words : (P : List Text → Type 0) → ((a b c d : Text) → P (a ∷ b ∷ c ∷ d ∷ [])) → (xs : List Text) → length xs ≡ 4 → P xs
four_words P f [] e = absurd (omega (arith, e))
four_words P f (a ∷ []) e = absurd (omega (arith, e))
four_words P f (a ∷ b ∷ xs) e = two_words (λ rest. P (a ∷ b ∷ rest)) (f a b) xs (omega (arith, e))

reads_rest : (n : CommandName) (rest : List Text) → length rest ≡ length (words_of n) → list_all begins_plain rest ≡ true → Reads n rest
reads_rest name.Format = four_words (λ rest. list_all begins_plain rest ≡ true → Reads name.Format rest) reads_format
reads_rest name.Check = one_word (λ rest. list_all begins_plain rest ≡ true → Reads name.Check rest) reads_check
reads_rest name.Migrate = one_word (λ rest. list_all begins_plain rest ≡ true → Reads name.Migrate rest) reads_migrate
reads_rest name.Work = one_word (λ rest. list_all begins_plain rest ≡ true → Reads name.Work rest) reads_work
reads_rest name.Deliver = one_word (λ rest. list_all begins_plain rest ≡ true → Reads name.Deliver rest) reads_deliver
reads_rest name.Replay = two_words (λ rest. list_all begins_plain rest ≡ true → Reads name.Replay rest) reads_replay
reads_rest name.Serve = four_words (λ rest. list_all begins_plain rest ≡ true → Reads name.Serve rest) reads_serve
reads_rest name.Manifest = four_words (λ rest. list_all begins_plain rest ≡ true → Reads name.Manifest rest) reads_manifest
reads_rest name.Workload = two_words (λ rest. list_all begins_plain rest ≡ true → Reads name.Workload rest) reads_workload

-- ---- plain words

plain_begins : (word : Text) → IsPlainWord word → begins_plain word ≡ true
plain_begins [] is = absurd (omega (arith, is.some))
plain_begins (b ∷ t) is = go (b == 45) refl
  where
    go : (x : Bool) → (b == 45) ≡ x → not x ≡ true
    go false e = refl
    go true e = absurd (is.first (eqb-true b 45 e))

plain_begin : (words : List Text) → All IsPlainWord words → list_all begins_plain words ≡ true
plain_begin [] plain = refl
plain_begin (x ∷ xs) plain =
    let later = plain_begin xs (λ k d few. plain (suc k) d (omega (arith, few))) in
    ap₂ (λ (x y : Bool). x && y) (plain_begins x (plain 0 [] (omega arith))) later

-- words that begin with a command's name, and have its number
pub record HasWords (words : List Text) (n : CommandName) : Type 0 where
  pub named : IsNamed words n
  pub many : length words ≡ length (words_of n) + 1
  pub plain : All IsPlainWord words

rest_reads : (words : List Text) (n : CommandName) (has : HasWords words n) → Reads n has.named.rest
rest_reads words n has =
    let is = has.named.words_are in
    let same : length has.named.rest ≡ length (words_of n) = omega (arith, has.many, ap (λ (ws : List Text). length ws) is) in
    let begins = (both (begins_plain (command_word n)) _ (sym (ap (list_all begins_plain) is) ∙ plain_begin words has.plain)).1 in
    reads_rest n has.named.rest same begins

words_taken : (words : List Text) (n : CommandName) → HasWords words n → takes tams_app words ≡ true
words_taken words n has = ap (takes tams_app) has.named.words_are ∙ (rest_reads words n has).taken

-- the values are the words
pub values_are : (words : List Text) (n : CommandName) (rows : List Row) → HasWords words n
    → option_map (λ p. p.1) (subcommand_of tams_app words) ≡ Some rows → command_word n ∷ map (word_value rows) (words_of n) ≡ words
values_are words n rows has is =
    let r = rest_reads words n has in
    let own = ap (λ ws. option_map (λ (p : Text × List Row). p.1) (subcommand_of tams_app ws)) (sym has.named.words_are) ∙ is in
    ap (λ (ws : List Text). command_word n ∷ ws) (r.values rows own) ∙ sym has.named.words_are

pub has_values : (words : List Text) (n : CommandName) → HasWords words n → option_map (λ p. p.1) (subcommand_of tams_app words) ≡ None → ⊥
has_values words n has none =
    (rest_reads words n has).found (ap (λ ws. option_map (λ (p : Text × List Row). p.1) (subcommand_of tams_app ws)) (sym has.named.words_are) ∙ none)

-- ---- words that are a command's

-- how many words stand behind a name
abbrev count_behind : Text → ℕ
count_behind t =
    if bytes_eq t (codes "check") || (bytes_eq t (codes "migrate") || (bytes_eq t (codes "work") || bytes_eq t (codes "deliver"))) then 1
    else (if bytes_eq t (codes "format") || (bytes_eq t (codes "serve") || bytes_eq t (codes "manifest")) then 4 else 2)

count_of_name : (n : CommandName) → count_behind (command_word n) ≡ length (words_of n)
count_of_name name.Format = refl
count_of_name name.Check = refl
count_of_name name.Migrate = refl
count_of_name name.Work = refl
count_of_name name.Deliver = refl
count_of_name name.Replay = refl
count_of_name name.Serve = refl
count_of_name name.Manifest = refl
count_of_name name.Workload = refl

-- the words are those of a command
record IsOfCommand (words : List Text) : Type 0 where
  name : CommandName
  named : IsNamed words name
  many : length words ≡ length (words_of name) + 1

of_command : (words : List Text) (command : Invocation) → HasForm words command → IsOfCommand words
of_command words (Format p m h i) x =
    let f : IsFormat words p m h i = x in
    record { name = name.Format; named = record { rest = _; words_are = f.words_are }; many = ap (λ (ws : List Text). length ws) f.words_are }
of_command words (Check p) x =
    let f : IsCheck words p = x in
    record { name = name.Check; named = record { rest = _; words_are = f.words_are }; many = ap (λ (ws : List Text). length ws) f.words_are }
of_command words (Migrate p) x =
    let f : IsMigrate words p = x in
    record { name = name.Migrate; named = record { rest = _; words_are = f.words_are }; many = ap (λ (ws : List Text). length ws) f.words_are }
of_command words (Work p) x =
    let f : IsWork words p = x in
    record { name = name.Work; named = record { rest = _; words_are = f.words_are }; many = ap (λ (ws : List Text). length ws) f.words_are }
of_command words (Deliver p) x =
    let f : IsDeliver words p = x in
    record { name = name.Deliver; named = record { rest = _; words_are = f.words_are }; many = ap (λ (ws : List Text). length ws) f.words_are }
of_command words (Replay p b) x =
    let f : IsReplay words p b = x in
    record { name = name.Replay; named = record { rest = _; words_are = f.words_are }; many = ap (λ (ws : List Text). length ws) f.words_are }
of_command words (Serve p m b k) x =
    let f : IsServe words p m b k = x in
    record { name = name.Serve; named = record { rest = _; words_are = f.words_are }; many = ap (λ (ws : List Text). length ws) f.words_are }
of_command words (Manifest p b i r) x =
    let f : IsManifest words p b i r = x in
    record { name = name.Manifest; named = record { rest = _; words_are = f.words_are }; many = ap (λ (ws : List Text). length ws) f.words_are }
of_command words (Workload m n) x =
    let f : IsWorkload words m n = x in
    record { name = name.Workload; named = record { rest = _; words_are = f.words_are }; many = ap (λ (ws : List Text). length ws) f.words_are }

-- words that name no command
pub names_none : (words : List Text) → ((n : CommandName) → IsNamed words n → ⊥) → FormIs words None
names_none words none = λ command form. let of = of_command words command form in none of.name of.named

-- words that `clap` does not take
pub not_taken : (words : List Text) → All IsPlainWord words → (takes tams_app words ≡ true → ⊥) → FormIs words None
not_taken words plain none = λ command form.
    let of = of_command words command form in
    none (words_taken words of.name (record { named = of.named; many = of.many; plain = plain }))

-- words of another number than that of the command that they name
pub other_count : (words : List Text) (n : CommandName) → IsNamed words n → length words ≢ length (words_of n) + 1 → FormIs words None
other_count words n named other = λ command form.
    let of = of_command words command form in
    let first : command_word of.name ≡ command_word n =
    ap (λ (ws : List Text). get_or ws 0 []) (sym of.named.words_are ∙ named.words_are) in
    let count : length (words_of of.name) ≡ length (words_of n) =
    sym (count_of_name of.name) ∙ (ap count_behind first ∙ count_of_name n) in
    other (of.many ∙ ap (λ k. k + 1) count)
