-- What the worked words spell.
use Rattle.std.proofs.Common.{◌≡◌, ◌≢◌, ◌≤◌, ◌+◌, ℕ, true, List, [], ◌∷◌, length, slice_index, codes, Some, All, refl, sym, inl, arith}
use Rattle.std.proofs.lemmas.Fmt.{decimal_digit}
use Rattle.std.proofs.lemmas.List.Elements.{All-cons, All-nil}
use Rattle.std.proofs.lemmas.Str.{IsUtf8-from_is_utf8}
use Rattle.std.specs.Char.{encode_utf8}
use Rattle.std.specs.Str.{chars, is_utf8}
use Rattle.uuid.specs.Text.{by_index}
use Rattle.media_rows.specs.Ids.{id_of}
use Rattle.time_range.specs.Points.{eternity}
use Rattle.time_range.specs.Spelled.{range_in}
use Rattle.tams_words.specs.Words.{IsBase, IsBaseByte, IsNumber, IsPlainWord}
use Rattle.tams_words.specs.Worked.{WordsAsWorked, check_line, deliver_line, manifest_line, migrate_line, replay_line, serve_line, work_line, worked_base, worked_path}

plain : (word : List ℕ) → is_utf8 word ≡ true → 1 ≤ length word → slice_index word 0 ≢ 45 → IsPlainWord word
plain word text some first = record { text = IsUtf8-from_is_utf8 word text; some = some; first = first }

check_plain : IsPlainWord (codes "check")
unfolding is_utf8 chars encode_utf8
check_plain = plain (codes "check") refl (omega arith) (λ e. omega (arith, e))

migrate_plain : IsPlainWord (codes "migrate")
unfolding is_utf8 chars encode_utf8
migrate_plain = plain (codes "migrate") refl (omega arith) (λ e. omega (arith, e))

work_plain : IsPlainWord (codes "work")
unfolding is_utf8 chars encode_utf8
work_plain = plain (codes "work") refl (omega arith) (λ e. omega (arith, e))

deliver_plain : IsPlainWord (codes "deliver")
unfolding is_utf8 chars encode_utf8
deliver_plain = plain (codes "deliver") refl (omega arith) (λ e. omega (arith, e))

manifest_plain : IsPlainWord (codes "manifest")
unfolding is_utf8 chars encode_utf8
manifest_plain = plain (codes "manifest") refl (omega arith) (λ e. omega (arith, e))

flow_plain : IsPlainWord (codes "00000000-0000-0000-0000-000000000001")
unfolding is_utf8 chars encode_utf8
flow_plain = plain (codes "00000000-0000-0000-0000-000000000001") refl (omega arith) (λ e. omega (arith, e))

flow_read : id_of (codes "00000000-0000-0000-0000-000000000001") ≡ Some 1
unfolding id_of by_index
flow_read = refl

range_read : range_in (codes "_") ≡ Some eternity
unfolding range_in
range_read = refl

range_plain : IsPlainWord (codes "_")
unfolding is_utf8 chars encode_utf8
range_plain = plain (codes "_") refl (omega arith) (λ e. omega (arith, e))

replay_plain : IsPlainWord (codes "replay")
unfolding is_utf8 chars encode_utf8
replay_plain = plain (codes "replay") refl (omega arith) (λ e. omega (arith, e))

serve_plain : IsPlainWord (codes "serve")
unfolding is_utf8 chars encode_utf8
serve_plain = plain (codes "serve") refl (omega arith) (λ e. omega (arith, e))

path_plain : IsPlainWord worked_path
unfolding is_utf8 chars encode_utf8
path_plain = plain worked_path refl (omega arith) (λ e. omega (arith, e))

base_plain : IsPlainWord worked_base
unfolding is_utf8 chars encode_utf8
base_plain = plain worked_base refl (omega arith) (λ e. omega (arith, e))

port_plain : IsPlainWord (codes "8")
unfolding is_utf8 chars encode_utf8
port_plain = plain (codes "8") refl (omega arith) (λ e. omega (arith, e))

connections_plain : IsPlainWord (codes "2")
unfolding is_utf8 chars encode_utf8
connections_plain = plain (codes "2") refl (omega arith) (λ e. omega (arith, e))

-- ---- the base

letter : (c : ℕ) → 63 ≤ c → c ≤ 126 → IsBaseByte c
letter c least most = record {
  least = omega (arith, least);
  most = most;
  quote = λ e. omega (arith, e, least);
  less = λ e. omega (arith, e, least);
  greater = λ e. omega (arith, e, least);
}

mark : (c : ℕ) → 35 ≤ c → c ≤ 59 → IsBaseByte c
mark c least most = record {
  least = omega (arith, least);
  most = omega (arith, most);
  quote = λ e. omega (arith, e, least);
  less = λ e. omega (arith, e, most);
  greater = λ e. omega (arith, e, most);
}

more : (c : ℕ) (rest : List ℕ) → IsBaseByte c → All IsBaseByte rest → All IsBaseByte (c ∷ rest)
more c rest is all = All-cons IsBaseByte c rest is all

base_bytes : All IsBaseByte worked_base
base_bytes =
    more 104 (codes "ttp://s") (letter 104 (omega arith) (omega arith))
    (more 116 (codes "tp://s") (letter 116 (omega arith) (omega arith))
    (more 116 (codes "p://s") (letter 116 (omega arith) (omega arith))
    (more 112 (codes "://s") (letter 112 (omega arith) (omega arith))
    (more 58 (codes "//s") (mark 58 (omega arith) (omega arith))
    (more 47 (codes "/s") (mark 47 (omega arith) (omega arith))
    (more 47 (codes "s") (mark 47 (omega arith) (omega arith))
    (more 115 [] (letter 115 (omega arith) (omega arith)) (All-nil IsBaseByte))))))))

base_is : IsBase worked_base
base_is = record {
  least = omega arith;
  most = omega arith;
  bytes = base_bytes;
  scheme = inl refl;
  last = λ e. omega (arith, e);
}

digit : (most n : ℕ) → 1 ≤ n → n ≤ 9 → n ≤ most → IsNumber most ((48 + n) ∷ []) n
digit most n least small fits = record { text = sym (decimal_digit n (omega (arith, small))); least = least; fits = fits }

-- ---- the lines

next : (word : List ℕ) (words : List (List ℕ)) → IsPlainWord word → All IsPlainWord words → All IsPlainWord (word ∷ words)
next word words is all = All-cons IsPlainWord word words is all

none : All IsPlainWord []
none = All-nil IsPlainWord

check_words : All IsPlainWord check_line
check_words = next (codes "check") (worked_path ∷ []) check_plain (next worked_path [] path_plain none)

migrate_words : All IsPlainWord migrate_line
migrate_words = next (codes "migrate") (worked_path ∷ []) migrate_plain (next worked_path [] path_plain none)

work_words : All IsPlainWord work_line
work_words = next (codes "work") (worked_path ∷ []) work_plain (next worked_path [] path_plain none)

deliver_words : All IsPlainWord deliver_line
deliver_words = next (codes "deliver") (worked_path ∷ []) deliver_plain (next worked_path [] path_plain none)

replay_words : All IsPlainWord replay_line
replay_words =
    next (codes "replay") (worked_path ∷ worked_base ∷ []) replay_plain
    (next worked_path (worked_base ∷ []) path_plain (next worked_base [] base_plain none))

serve_words : All IsPlainWord serve_line
serve_words =
    next (codes "serve") (worked_path ∷ codes "8" ∷ worked_base ∷ codes "2" ∷ []) serve_plain
    (next worked_path (codes "8" ∷ worked_base ∷ codes "2" ∷ []) path_plain
    (next (codes "8") (worked_base ∷ codes "2" ∷ []) port_plain
    (next worked_base (codes "2" ∷ []) base_plain (next (codes "2") [] connections_plain none))))

manifest_words : All IsPlainWord manifest_line
manifest_words =
    let flow = codes "00000000-0000-0000-0000-000000000001" in
    next (codes "manifest") (worked_path ∷ worked_base ∷ flow ∷ codes "_" ∷ []) manifest_plain
    (next worked_path (worked_base ∷ flow ∷ codes "_" ∷ []) path_plain
    (next worked_base (flow ∷ codes "_" ∷ []) base_plain
    (next flow (codes "_" ∷ []) flow_plain (next (codes "_") [] range_plain none))))

pub words_as_worked : WordsAsWorked
words_as_worked = record {
  check = record { plain = check_words; form = record { words_are = refl } };
  migrate = record { plain = migrate_words; form = record { words_are = refl } };
  work = record { plain = work_words; form = record { words_are = refl } };
  deliver = record { plain = deliver_words; form = record { words_are = refl } };
  replay = record { plain = replay_words; form = record { words_are = refl; base_is = base_is } };
  serve = record {
    plain = serve_words;
    form = record {
      port_word = codes "8";
      connections_word = codes "2";
      words_are = refl;
      port_is = digit 65535 8 (omega arith) (omega arith) (omega arith);
      base_is = base_is;
      connections_is = digit 1000000000 2 (omega arith) (omega arith) (omega arith);
    };
  };
  manifest = record {
    plain = manifest_words;
    form = record {
      flow_word = codes "00000000-0000-0000-0000-000000000001";
      range_word = codes "_";
      words_are = refl;
      base_is = base_is;
      flow_is = flow_read;
      range_is = range_read;
    };
  };
}
