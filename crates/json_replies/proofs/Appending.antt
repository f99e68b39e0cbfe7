-- Tokens that are appended piece by piece.
use Rattle.std.proofs.Common.{List, [], ◌∷◌, ◌++◌, sym, ap, ◌∙◌}
use Rattle.std.proofs.lemmas.Grind.{flat_map-append}
use Rattle.std.proofs.lemmas.List.{append_assoc, append-nil}
use Rattle.json.specs.Token.{Token}
use Rattle.json_replies.specs.Shapes.{Appends, ObjectMember, member_tokens, members_tokens}

-- a piece behind what stood there, and the rest behind it
pub also : {o s t a r : List Token} → Appends o s a → Appends s t r → Appends o t (a ++ r)
also {o} {s} {t} {a} {r} e f = record { whole = f.whole ∙ ap (λ l. l ++ r) e.whole ∙ append_assoc o a r }

-- the last piece, with nothing behind it
pub last : {o t a : List Token} → Appends o t a → Appends o t (a ++ [])
last {o} {t} {a} e = record { whole = e.whole ∙ ap (λ l. o ++ l) (sym (append-nil a)) }

-- pieces between a first token and a last one
pub enclosed : {o s u t m : List Token} {b e : Token} → Appends o s (b ∷ []) → Appends s u m → Appends u t (e ∷ [])
    → Appends o t (b ∷ (m ++ e ∷ []))
enclosed begun more ended = also begun (also more ended)

-- members in two parts
pub joined : {o s t : List Token} (front back : List ObjectMember) → Appends o s (members_tokens front) → Appends s t (members_tokens back)
    → Appends o t (members_tokens (front ++ back))
joined {o} front back e f = record { whole = (also e f).whole ∙ ap (λ l. o ++ l) (sym (flat_map-append member_tokens front back)) }
