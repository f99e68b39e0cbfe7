use Rattle.std.proofs.Common.{◌≡◌, All, map, take}
use Rattle.tams_words.specs.Words.{IsPlainWord}
use Rattle.tams_words.proofs.words.plain_texts.Given as goal

abbrev pub invariant-loop-word : goal.invariant-loop-word
invariant-loop-word l = (map (λ t. t.now) l.texts.items ≡ take l.word-index l.words) × All IsPlainWord (take l.word-index l.words)
