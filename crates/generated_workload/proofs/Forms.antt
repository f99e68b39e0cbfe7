-- The query of the first half, as it is spelled.
use Rattle.std.proofs.Common.{◌≡◌, ◌<◌, ◌+◌, ◌^◌, ◌%◌, ℕ, [], ◌∷◌, ◌++◌, true, refl, ap, ap₂, ◌∙◌, arith, codes}
use Rattle.std.proofs.lemmas.Fmt.{decimal_by_steps}
use Rattle.std.proofs.lemmas.Grind.{common_steps}
use Rattle.std.specs.Fmt.{decimal, digits}
use Rattle.form_urlencoded.specs.Form.{byte_serialize, is_unchanged}
use Rattle.form_urlencoded.proofs.FormLemmas.{byte_serialize-append}
use Rattle.percent_encoding.specs.Percent.{percent_encode_byte}
use Rattle.generated_workload.specs.Workload.{HalfQueryIsSpelled, half_end, seconds_range}

-- a digit is written as it is
unchanged : (n : ℕ) → n < 10 → is_unchanged (48 + n) ≡ true
unchanged n h = grind (arith, common_steps)

digit_stays : (n : ℕ) → n < 10 → byte_serialize ((48 + n) ∷ []) ≡ (48 + n) ∷ []
unfolding byte_serialize
digit_stays n h = rw (unchanged n h) refl

-- and so is each number
number_stays : (n : ℕ) → n < 2 ^ 64 → byte_serialize (decimal n) ≡ decimal n
number_stays =
    decimal_by_steps (λ n text. byte_serialize text ≡ text) digit_stays
    (λ n text large stays.
    byte_serialize-append text ((48 + n % 10) ∷ []) ∙ ap₂ (λ a b. a ++ b) stays (digit_stays (n % 10) (omega arith)))

-- what stands before and behind it
name_stays : byte_serialize (codes "timerange") ≡ codes "timerange"
unfolding byte_serialize
name_stays = refl

zero_is : decimal 0 ≡ codes "0"
unfolding digits
zero_is = refl

front_is : byte_serialize (codes "[0:0_") ≡ codes "%5B0%3A0_"
unfolding byte_serialize percent_encode_byte
front_is = refl

end_is : byte_serialize (codes ":0)") ≡ codes "%3A0%29"
unfolding byte_serialize percent_encode_byte
end_is = refl

-- a time range from 0 on
range_is : (end : ℕ) → end < 2 ^ 64 → byte_serialize (seconds_range 0 end) ≡ codes "%5B0%3A0_" ++ decimal end ++ codes "%3A0%29"
range_is end h =
    ap (λ zero. byte_serialize (codes "[" ++ zero ++ codes ":0_" ++ decimal end ++ codes ":0)")) zero_is
    ∙ byte_serialize-append (codes "[0:0_" ++ decimal end) (codes ":0)")
    ∙ ap₂ (λ a b. a ++ b) (byte_serialize-append (codes "[0:0_") (decimal end) ∙ ap₂ (λ a b. a ++ b) front_is (number_stays end h)) end_is

pub half_query_is_spelled : HalfQueryIsSpelled
half_query_is_spelled count few =
    ap₂ (λ name value. name ++ codes "=" ++ value) name_stays (range_is (half_end count) (omega arith))
