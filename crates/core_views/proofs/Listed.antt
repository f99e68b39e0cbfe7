-- Lists that begin behind the id before a page, and the page of the sources that pass.
use Rattle.std.proofs.Common.{◌≡◌, ℕ, ℤ, Bool, true, false, ◌&&◌, cond, int_lt, nat_lt, List, [], ◌∷◌, Option, Some, None, filter, reverse, take, refl, sym, ap, ◌∙◌}
use Rattle.std.specs.Prelude.{if◌then◌else◌, option_map}
use Rattle.media_rows.specs.declared.command.FlowFilter.{FlowFilter}
use Rattle.media_rows.specs.declared.command.Page.{Page}
use Rattle.media_rows.specs.declared.command.SourceFilter.{SourceFilter}
use Rattle.media_rows.specs.declared.flow.FlowRow.{FlowRow}
use Rattle.media_rows.specs.declared.reply.View.TheVariants.{Sources}
use Rattle.media_rows.specs.declared.source.SourceRow.{SourceRow}
use Rattle.media_rows.specs.Lists.{is_behind, is_past, items_past}
use Rattle.media_rows.specs.Views.{flow_key, id_key, passes_flow, passes_source, shown_sources, source_key}
use Rattle.id_index.proofs.Ids.{below_key}
use Rattle.flow_book.specs.Listing.{flows_listed, is_flow_listed, is_source_listed, sources_listed}
use Rattle.core_views.specs.Pages.{key_before, key_behind}

-- what a list leaves out that begins behind an id doesn't lie past its key
behind_kept : {X : Type 0} (id : X → ℕ) (start : ℕ) (passes : X → Bool) (xs : List X)
    → filter (λ x. int_lt (id_key start) (id_key (id x))) (filter (λ x. nat_lt start (id x) && passes x) xs)
    ≡ filter (λ x. int_lt (id_key start) (id_key (id x))) (filter passes xs)
behind_kept id start passes [] = refl
behind_kept {X = X} id start passes (x ∷ xs) =
    by (nat_lt start (id x)) (passes x) (sym (below_key start (id x))) (behind_kept id start passes xs)
  where
    by : (s t : Bool) → int_lt (id_key start) (id_key (id x)) ≡ s
        → filter (λ (y : X). int_lt (id_key start) (id_key (id y))) (filter (λ y. nat_lt start (id y) && passes y) xs)
        ≡ filter (λ y. int_lt (id_key start) (id_key (id y))) (filter passes xs)
        → filter (λ (y : X). int_lt (id_key start) (id_key (id y))) (cond (s && t) (x ∷ filter (λ y. nat_lt start (id y) && passes y) xs)
        (filter (λ y. nat_lt start (id y) && passes y) xs))
        ≡ filter (λ y. int_lt (id_key start) (id_key (id y))) (cond t (x ∷ filter passes xs) (filter passes xs))
    by true true e rest = rw e (ap (λ l. x ∷ l) rest)
    by true false e rest = rest
    by false true e rest = rw e rest
    by false false e rest = rest

-- so a list that begins behind the id before a page has the page's rows
behind_by : {X : Type 0} (id : X → ℕ) (back : Bool) (after : Option ℤ) (start : Option ℕ) (passes : X → Bool) (xs : List X)
    → option_map id_key start ≡ (if back then None else after)
    → filter (λ x. is_past after back (id_key (id x)))
    (if back then reverse (filter (λ x. is_behind start (id x) && passes x) xs) else filter (λ x. is_behind start (id x) && passes x) xs)
    ≡ filter (λ x. is_past after back (id_key (id x))) (if back then reverse (filter passes xs) else filter passes xs)
behind_by id back after None passes xs e = refl
behind_by id true after (Some start) passes xs e = absurd (cc)
behind_by id false None (Some start) passes xs e = absurd (cc)
behind_by id false (Some key) (Some start) passes xs e =
    let same : key ≡ id_key start = cc in
    rw same (behind_kept id start passes xs)

pub listed_behind : {X : Type 0} (id : X → ℕ) (page : Page) (start : Option ℕ) (passes : X → Bool) (xs : List X)
    → option_map id_key start ≡ key_before page
    → items_past (λ x. id_key (id x)) page (filter (λ x. is_behind start (id x) && passes x) xs) ≡ items_past (λ x. id_key (id x)) page (filter passes xs)
listed_behind id page start passes xs e = behind_by id page.reverse page.after start passes xs e

-- the sources and the flows of a page among those that are listed
sources_past : (page : Page) (wanted : SourceFilter) (start : Option ℕ) (sources : List SourceRow) → option_map id_key start ≡ key_before page
    → items_past source_key page (sources_listed wanted start sources) ≡ items_past source_key page (filter (passes_source wanted) sources)
unfolding is_source_listed
sources_past page wanted start sources e = listed_behind (λ row. row.id) page start (passes_source wanted) sources e

pub flows_past : (page : Page) (wanted : FlowFilter) (start : Option ℕ) (flows : List FlowRow) → option_map id_key start ≡ key_before page
    → items_past flow_key page (flows_listed wanted start flows) ≡ items_past flow_key page (filter (passes_flow wanted) flows)
unfolding is_flow_listed
flows_past page wanted start flows e = listed_behind (λ row. row.body.id) page start (passes_flow wanted) flows e

-- the page from what lies past its key of those that are listed
pub sources_shown : (page : Page) (wanted : SourceFilter) (start : Option ℕ) (sources listed given past rows : List SourceRow)
    → option_map id_key start ≡ key_before page → listed ≡ sources_listed wanted start sources → given ≡ listed
    → past ≡ items_past source_key page given → rows ≡ past
    → Sources (take page.limit rows) (key_behind source_key page.limit rows) ≡ shown_sources page (filter (passes_source wanted) sources)
sources_shown page wanted start sources listed given past rows begins is same lies handed =
    ap (λ (l : List SourceRow). Sources (take page.limit l) (key_behind source_key page.limit l))
    (handed ∙ lies ∙ ap (items_past source_key page) (same ∙ is) ∙ sources_past page wanted start sources begins)
