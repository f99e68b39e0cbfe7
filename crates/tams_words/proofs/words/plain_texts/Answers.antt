use Rattle.std.proofs.Common.{◌∙◌, ◌++◌, ◌∷◌, [], ℕ, List, Bor, map, sym, ap, ap₂, rules, subst}
use Rattle.std.proofs.lemmas.List.{map_push, take_more}
use Rattle.std.proofs.lemmas.List.Elements.{All-more}
use Rattle.tams_words.specs.Words.{IsPlainWord}
use Rattle.tams_words.proofs.words.plain_texts.Goals as goal

-- The word is the next of the list, and its text is added.
pub loop-word-preserved : goal.loop-word-preserved
loop-word-preserved c =
    let words = c.args.words.now in
    let i = c.loop-word.word-index in
    let word = c.word-item.result in
    let here = c.bytes.ensures ∙ c.word-item.is in
    let texts = ap (map (λ (t : Bor (List ℕ)). t.now)) c.in_ok-push.ensures.items ∙ map_push (λ (t : Bor (List ℕ)). t.now) _ _ in
    let added = ap₂ (λ (xs : List (List ℕ)) (x : List ℕ). xs ++ x ∷ []) c.loop-word.invariant.0 (c.in-Some.ensures.same ∙ here) in
    let plain = subst IsPlainWord here (c.in-Some.ensures.plain.0 (search rules)) in (
      texts ∙ (added ∙ sym (take_more words i word c.loop-word-test.true)),
      All-more IsPlainWord words i word c.loop-word-test.true c.loop-word.invariant.1 plain,
    )
