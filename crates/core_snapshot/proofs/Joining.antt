-- Text of rows, one kind behind the other, and lists that a filter leaves whole.
use Rattle.std.proofs.Common.{◌≡◌, ℕ, Bool, true, List, [], ◌∷◌, ◌++◌, None, cond, filter, refl, sym, subst, ap, ◌∙◌, append_assoc}
use Rattle.media_rows.specs.declared.command.FlowFilter.{FlowFilter}
use Rattle.media_rows.specs.declared.command.SourceFilter.{SourceFilter}
use Rattle.media_rows.specs.declared.command.TagTest.{TagTest}
use Rattle.media_rows.specs.declared.flow.FlowRow.{FlowRow}
use Rattle.media_rows.specs.declared.row.Row.{Row}
use Rattle.media_rows.specs.declared.source.SourceRow.{SourceRow}
use Rattle.flow_book.specs.Listing.{flows_listed, is_flow_listed, is_source_listed, sources_listed}
use Rattle.core_rows.specs.Texts.{AddsRows}
use Rattle.core_rows.proofs.Writing.{added_behind}

-- the eight kinds of rows, behind no text
pub kinds_joined : (none catalog media all : List ℕ) (a b c d e f g h : List Row) → none ≡ [] → AddsRows none (a ++ b) catalog
    → AddsRows catalog (c ++ d) media → AddsRows media (e ++ f ++ g ++ h) all → AddsRows [] (a ++ b ++ c ++ d ++ e ++ f ++ g ++ h) all
kinds_joined none catalog media all a b c d e f g h empty first second third =
    let four : List Row = (a ++ b) ++ (c ++ d) in
    let left : four ++ (e ++ f ++ g ++ h) ≡ a ++ b ++ c ++ d ++ e ++ f ++ g ++ h =
    sym (append_assoc four (e ++ f ++ g) h) ∙ ap (λ (l : List Row). l ++ h) (sym (append_assoc four (e ++ f) g))
    ∙ ap (λ (l : List Row). l ++ g ++ h) (sym (append_assoc four e f))
    ∙ ap (λ (l : List Row). l ++ e ++ f ++ g ++ h) (sym (append_assoc (a ++ b) c d)) in
    let both = added_behind none media all four (e ++ f ++ g ++ h) (added_behind none catalog media (a ++ b) (c ++ d) first second) third in
    subst (λ (l : List Row). AddsRows [] l all) left (subst (λ (t : List ℕ). AddsRows t (four ++ (e ++ f ++ g ++ h)) all) empty both)

-- ---- filters that ask for nothing

whole : {X : Type 0} (test : X → Bool) → ((x : X) → test x ≡ true) → (xs : List X) → filter test xs ≡ xs
whole test passes [] = refl
whole test passes (x ∷ xs) = ap (λ b. cond b (x ∷ filter test xs) (filter test xs)) (passes x) ∙ ap (λ l. x ∷ l) (whole test passes xs)

any_source : List TagTest → SourceFilter
any_source tags = record { format = None; label = None; tags = tags }

any_flow : List TagTest → FlowFilter
any_flow tags = record { source = None; format = None; codec = None; label = None; tags = tags }

source_passes : (row : SourceRow) → is_source_listed (any_source []) None row ≡ true
unfolding is_source_listed any_source
source_passes row = refl

flow_passes : (row : FlowRow) → is_flow_listed (any_flow []) None row ≡ true
unfolding is_flow_listed any_flow
flow_passes row = refl

-- all sources pass, and all flows
pub all_sources : (tags : List TagTest) (list sources : List SourceRow) → tags ≡ []
    → list ≡ sources_listed (record { format = None; label = None; tags = tags }) None sources → list ≡ sources
unfolding any_source
all_sources tags list sources none is =
    is ∙ ap (λ (t : List TagTest). sources_listed (any_source t) None sources) none ∙ whole (is_source_listed (any_source []) None) source_passes sources

pub all_flows : (tags : List TagTest) (list flows : List FlowRow) → tags ≡ []
    → list ≡ flows_listed (record { source = None; format = None; codec = None; label = None; tags = tags }) None flows → list ≡ flows
unfolding any_flow
all_flows tags list flows none is =
    is ∙ ap (λ (t : List TagTest). flows_listed (any_flow t) None flows) none ∙ whole (is_flow_listed (any_flow []) None) flow_passes flows
