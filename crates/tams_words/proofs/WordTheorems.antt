-- Words spell at most one command.
use Rattle.std.proofs.Common.{◌≡◌, ◌<◌, ◌^◌, ◌∙◌, ◌∷◌, [], ℕ, List, Option, get_or, length, Some, codes, subst, sym, ap, arith}
use Rattle.std.proofs.lemmas.Fmt.{decimal_injective}
use Rattle.tams_words.specs.Words.{HasForm, IsNumber, IsNumberOrZero, IsFormat, IsCheck, IsMigrate, IsWork, IsDeliver, IsReplay, IsServe, IsManifest, IsWorkload, IsCommand}
use Rattle.tams_words.specs.Words.IsNumberOrZero.{Zero, Other}
use Rattle.media_rows.specs.Ids.{id_of}
use Rattle.time_range.specs.Spelled.{range_in}
use Rattle.time_range.specs.declared.ranges.Span.{Span}
use Rattle.tams_words.proofs.WordLemmas.{begins_as_number}
use Rattle.tams_words.specs.declared.words.Invocation.{Invocation}
use Rattle.tams_words.specs.declared.words.Invocation.TheVariants.{Format, Check, Migrate, Work, Deliver, Replay, Serve, Manifest, Workload}

-- a word is one number at most
one_number : (most : ℕ) (v w : List ℕ) (m n : ℕ) → most < 2 ^ 64 → v ≡ w → IsNumber most v m → IsNumber most w n → m ≡ n
one_number most v w m n small e a b =
    let m_fits : m < 2 ^ 64 = omega (arith, a.fits) in
    let n_fits : n < 2 ^ 64 = omega (arith, b.fits) in
    decimal_injective m n m_fits n_fits (sym a.text ∙ (e ∙ b.text))

-- 0 isn't written as a number from 1 on
not_zero : (most : ℕ) (word : List ℕ) (n : ℕ) → most < 2 ^ 64 → word ≡ codes "0" → IsNumber most word n → ⊥
not_zero most word n small zero_text is =
    let begins = (begins_as_number most word n small is).first in
    omega (arith, begins, ap (λ (w : List ℕ). get_or w 0 0) zero_text)

one_number_or_zero : (most : ℕ) (v w : List ℕ) (m n : ℕ) → most < 2 ^ 64 → v ≡ w → IsNumberOrZero most v m → IsNumberOrZero most w n → m ≡ n
one_number_or_zero most v w m n small e (Zero v_is m_is) (Zero w_is n_is) = m_is ∙ sym n_is
one_number_or_zero most v w m n small e (Zero v_is m_is) (Other b) = absurd (not_zero most w n small (sym e ∙ v_is) b)
one_number_or_zero most v w m n small e (Other a) (Zero w_is n_is) = absurd (not_zero most v m small (e ∙ w_is) a)
one_number_or_zero most v w m n small e (Other a) (Other b) = one_number most v w m n small e a b

-- a word is one id at most
one_id : (v w : List ℕ) (a b : ℕ) → v ≡ w → id_of v ≡ Some a → id_of w ≡ Some b → a ≡ b
one_id v w a b e p q = cc

-- and one range at most
one_range : (v w : List ℕ) (a b : Option Span) → v ≡ w → range_in v ≡ Some a → range_in w ≡ Some b → a ≡ b
one_range v w a b e p q = cc

-- the name of a command
abbrev name_of : Invocation → List ℕ
name_of (Format path blocks half id) = codes "format"
name_of (Check path) = codes "check"
name_of (Migrate path) = codes "migrate"
name_of (Work path) = codes "work"
name_of (Deliver path) = codes "deliver"
name_of (Replay path base) = codes "replay"
name_of (Serve path port base connections) = codes "serve"
name_of (Manifest path base flow range) = codes "manifest"
name_of (Workload number count) = codes "workload"

-- its first word is its name
first_word : (words : List (List ℕ)) (a : Invocation) → IsCommand words a → get_or words 0 [] ≡ name_of a
first_word words (Format p m h i) x = let f : IsFormat words p m h i = x.form in ap (λ (ws : List (List ℕ)). get_or ws 0 []) f.words_are
first_word words (Check p) x = let f : IsCheck words p = x.form in ap (λ (ws : List (List ℕ)). get_or ws 0 []) f.words_are
first_word words (Migrate p) x = let f : IsMigrate words p = x.form in ap (λ (ws : List (List ℕ)). get_or ws 0 []) f.words_are
first_word words (Work p) x = let f : IsWork words p = x.form in ap (λ (ws : List (List ℕ)). get_or ws 0 []) f.words_are
first_word words (Deliver p) x = let f : IsDeliver words p = x.form in ap (λ (ws : List (List ℕ)). get_or ws 0 []) f.words_are
first_word words (Replay p b) x = let f : IsReplay words p b = x.form in ap (λ (ws : List (List ℕ)). get_or ws 0 []) f.words_are
first_word words (Serve p m b k) x = let f : IsServe words p m b k = x.form in ap (λ (ws : List (List ℕ)). get_or ws 0 []) f.words_are
first_word words (Manifest p b i r) x = let f : IsManifest words p b i r = x.form in ap (λ (ws : List (List ℕ)). get_or ws 0 []) f.words_are
first_word words (Workload m n) x = let f : IsWorkload words m n = x.form in ap (λ (ws : List (List ℕ)). get_or ws 0 []) f.words_are

pub one_command : (words : List (List ℕ)) (a b : Invocation) → IsCommand words a → IsCommand words b → a ≡ b
one_command words (Format p m h i) (Format q n k j) x y =
    let f : IsFormat words p m h i = x.form in
    let g : IsFormat words q n k j = y.form in
    let same = sym f.words_are ∙ g.words_are in
    let paths : p ≡ q = cc in
    let blocks : m ≡ n = one_number 1073741824 _ _ m n (omega arith) (cc) f.blocks_is g.blocks_is in
    let halves : h ≡ k = one_number 65536 _ _ h k (omega arith) (cc) f.half_is g.half_is in
    let ids : i ≡ j = one_id f.id_word g.id_word i j (cc) f.id_is g.id_is in
    cc
one_command words (Check p) (Check q) x y =
    let f : IsCheck words p = x.form in
    let g : IsCheck words q = y.form in
    let same = sym f.words_are ∙ g.words_are in
    cc
one_command words (Migrate p) (Migrate q) x y =
    let f : IsMigrate words p = x.form in
    let g : IsMigrate words q = y.form in
    let same = sym f.words_are ∙ g.words_are in
    cc
one_command words (Work p) (Work q) x y =
    let f : IsWork words p = x.form in
    let g : IsWork words q = y.form in
    let same = sym f.words_are ∙ g.words_are in
    cc
one_command words (Deliver p) (Deliver q) x y =
    let f : IsDeliver words p = x.form in
    let g : IsDeliver words q = y.form in
    let same = sym f.words_are ∙ g.words_are in
    cc
one_command words (Serve p m b h) (Serve q n d k) x y =
    let f : IsServe words p m b h = x.form in
    let g : IsServe words q n d k = y.form in
    let same = sym f.words_are ∙ g.words_are in
    let paths : p ≡ q = cc in
    let bases : b ≡ d = cc in
    let ports : m ≡ n = one_number 65535 _ _ m n (omega arith) (cc) f.port_is g.port_is in
    let counts : h ≡ k = one_number 1000000000 _ _ h k (omega arith) (cc) f.connections_is g.connections_is in
    cc
one_command words (Replay p b) (Replay q d) x y =
    let f : IsReplay words p b = x.form in
    let g : IsReplay words q d = y.form in
    let same = sym f.words_are ∙ g.words_are in
    cc
one_command words (Manifest p b i r) (Manifest q d j s) x y =
    let f : IsManifest words p b i r = x.form in
    let g : IsManifest words q d j s = y.form in
    let same = sym f.words_are ∙ g.words_are in
    let paths : p ≡ q = cc in
    let bases : b ≡ d = cc in
    let flows : i ≡ j = one_id f.flow_word g.flow_word i j (cc) f.flow_is g.flow_is in
    let ranges : r ≡ s = one_range f.range_word g.range_word r s (cc) f.range_is g.range_is in
    cc
one_command words (Workload m h) (Workload n k) x y =
    let f : IsWorkload words m h = x.form in
    let g : IsWorkload words n k = y.form in
    let same = sym f.words_are ∙ g.words_are in
    let numbers : m ≡ n = one_number_or_zero 1000000 _ _ m n (omega arith) (cc) f.number_is g.number_is in
    let counts : h ≡ k = one_number 1000 _ _ h k (omega arith) (cc) f.count_is g.count_is in
    cc
one_command words _ _ x y =
    let same = sym (first_word words _ x) ∙ first_word words _ y in
    absurd (omega (arith, ap (λ (name : List ℕ). get_or name 0 0) same, ap (λ (name : List ℕ). length name) same))

-- words of `workload` whose first number is none
pub not_workload : (number count : List ℕ) → ((n : ℕ) → IsNumberOrZero 1000000 number n → ⊥) → (command : Invocation)
    → HasForm (codes "workload" ∷ number ∷ count ∷ []) command → ⊥
not_workload number count none (Workload m n) x =
    let f : IsWorkload (codes "workload" ∷ number ∷ count ∷ []) m n = x in
    let same : f.number_word ≡ number = let e = f.words_are in cc in
    none m (subst (λ (w : List ℕ). IsNumberOrZero 1000000 w m) same f.number_is)
not_workload number count none (Format p m h i) x =
    let f : IsFormat (codes "workload" ∷ number ∷ count ∷ []) p m h i = x in let e = f.words_are in cc
not_workload number count none (Check p) x = let f : IsCheck (codes "workload" ∷ number ∷ count ∷ []) p = x in let e = f.words_are in cc
not_workload number count none (Migrate p) x = let f : IsMigrate (codes "workload" ∷ number ∷ count ∷ []) p = x in let e = f.words_are in cc
not_workload number count none (Work p) x = let f : IsWork (codes "workload" ∷ number ∷ count ∷ []) p = x in let e = f.words_are in cc
not_workload number count none (Deliver p) x = let f : IsDeliver (codes "workload" ∷ number ∷ count ∷ []) p = x in let e = f.words_are in cc
not_workload number count none (Replay p b) x = let f : IsReplay (codes "workload" ∷ number ∷ count ∷ []) p b = x in let e = f.words_are in cc
not_workload number count none (Manifest p b i r) x = let f : IsManifest (codes "workload" ∷ number ∷ count ∷ []) p b i r = x in let e = f.words_are in cc
not_workload number count none (Serve p m b k) x =
    let f : IsServe (codes "workload" ∷ number ∷ count ∷ []) p m b k = x in let e = f.words_are in cc
