-- The path and the query of an address to which events go can be asked for.
use Rattle.std.proofs.Common.{◌≡◌, ℕ, ◌<◌, true, IsTrue, List, [], ◌∷◌, ◌++◌, length, Option, Some, None, codes, refl, sym, ap, ◌∙◌, subst, arith, IfSome, Ok}
use Rattle.std.specs.Prelude.{All, bytes_eq}
use Rattle.std.proofs.lemmas.Bool.{and_parts}
use Rattle.std.proofs.lemmas.List.Elements.{All-append, All-cons, All-nil}
use Rattle.std.proofs.lemmas.Slice.Eq.{bytes_eq-Decides}
use Rattle.httparse.specs.Grammar.{AllPass, is_uri_byte}
use Rattle.percent_encoding.specs.Percent.{IsKept}
use Rattle.url.specs.declared.sets.TheConstants.{PATH, SPECIAL_QUERY}
use Rattle.url.specs.Parts.{IsHierarchicalPath, IsValid, Parts, kind_of, query_set}
use Rattle.url.specs.Scheme.{default_port, is_special, scheme_type}
use Rattle.url.specs.Parser.{parse_url}
use Rattle.url.proofs.TextLemmas.{All_kept}
use Rattle.url.proofs.ValidLemmas.{base_from_authority, hierarchical, segment_list_kept, special_has_authority}
use Rattle.hook_delivery.specs.Posting.{HasTarget, IsTarget, address_in, host_name, is_own_host, is_reached, query_part}

-- a byte that a set with all of these escapes leaves can be seen, for each byte of ASCII
path_visible : (path : List ℕ) → All (IsKept PATH) path → AllPass is_uri_byte path
path_visible path kept = All_kept is_uri_byte PATH refl path kept

-- a query, behind `?`
query_visible : (query : Option (List ℕ)) → IfSome query (All (IsKept SPECIAL_QUERY)) → AllPass is_uri_byte (query_part query)
query_visible None kept = All-nil (λ b. IsTrue (is_uri_byte b))
query_visible (Some query) kept = All-cons (λ b. IsTrue (is_uri_byte b)) 63 query refl (All_kept is_uri_byte SPECIAL_QUERY refl query kept)

-- the scheme is one of those that have a host and a path
special_http : is_special (scheme_type (codes "http")) ≡ true
unfolding scheme_type default_port
special_http = refl

-- a list of some bytes has some with more behind it
some_more : (bytes more : List ℕ) → 0 < length bytes → 0 < length (bytes ++ more)
some_more [] more some = absurd (omega (arith, some))
some_more (b ∷ bytes) more some = omega arith

-- one address
is_target : (url : Parts) → IsValid url → is_reached url ≡ true → IsTarget (url.path ++ query_part url.query)
is_target url valid goes =
    let both = and_parts (bytes_eq url.scheme (codes "http")) (is_own_host (host_name url)) goes in
    let http : url.scheme ≡ codes "http" = (bytes_eq-Decides url.scheme (codes "http")).0 both.0 in
    let special : is_special (kind_of url) ≡ true = ap (λ s. is_special (scheme_type s)) http ∙ special_http in
    let base = base_from_authority url (special_has_authority url valid.head special) in
    let path : IsHierarchicalPath (kind_of url) url.path = hierarchical url valid.path base in
    let set : query_set (kind_of url) ≡ SPECIAL_QUERY = rw special refl in
    record {
      some = some_more url.path (query_part url.query) (path.1 special);
      visible = All-append (λ b. IsTrue (is_uri_byte b)) url.path (query_part url.query) (path_visible url.path (segment_list_kept (kind_of url) url.path path.0))
          (query_visible url.query (subst (λ s. IfSome url.query (All (IsKept s))) set valid.query));
    }

-- the address of a text
pub has_target : (text : List ℕ) (url : Parts) → IsValid url → is_reached url ≡ true → parse_url None text ≡ Ok url → HasTarget text
has_target text url valid goes is other is_too =
    let found : address_in text ≡ Some url = rw (is, goes) refl in
    let both : Some url ≡ Some other = sym found ∙ is_too in
    let same : url ≡ other = cc in
    subst (λ u. IsTarget (u.path ++ query_part u.query)) same (is_target url valid goes)
