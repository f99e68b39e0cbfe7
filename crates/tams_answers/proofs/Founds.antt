-- What is planned for what was found is what is planned for what is asked for.
use Rattle.std.proofs.Common.{◌≡◌, ℕ, Bool, List, Option, Result, Ok, Err, sym, subst}
use Rattle.std.specs.Prelude.{IfOk}
use Rattle.media_rows.specs.declared.command.Command.{Command}
use Rattle.media_rows.specs.declared.refusal.Refusal.{Refusal}
use Rattle.media_store.specs.declared.probes.Probe.{Probe}
use Rattle.store_states.specs.Kept.{StoreView}
use Rattle.tams_http.specs.declared.ask.Ask.{Ask}
use Rattle.tams_http.specs.declared.ask.Ask.TheVariants.{GetMedia, Run}
use Rattle.tams_answers.specs.Within.{PlansAsked}
use Rattle.tams_answers.specs.declared.plans.PlannedAnswer.{PlannedAnswer}

pub of_command : {E : Type 0} (kept : StoreView) (moment : ℕ) (head_only : Bool) (asked : Result Ask Refusal) (probe : Option Probe) (command : Command)
    (result : Result PlannedAnswer E) → asked ≡ Ok (Run command)
    → IfOk result (λ made. (head : Bool) (probe : Option Probe) → PlansAsked kept moment head (Ok (Run command)) probe made.planned made.media)
    → IfOk result (λ made. PlansAsked kept moment head_only asked probe made.planned made.media)
of_command kept moment head_only asked probe command (Ok made) is plans =
    subst (λ (a : Result Ask Refusal). PlansAsked kept moment head_only a probe made.planned made.media) (sym is) (plans head_only probe)
of_command kept moment head_only asked probe command (Err e) is plans = tt

pub of_get : {E : Type 0} (kept : StoreView) (moment : ℕ) (head_only head : Bool) (asked : Result Ask Refusal) (probe : Option Probe) (object : List ℕ)
    (result : Result PlannedAnswer E) → asked ≡ Ok (GetMedia object) → head ≡ head_only
    → IfOk result (λ made. (moment : ℕ) → PlansAsked kept moment head (Ok (GetMedia object)) probe made.planned made.media)
    → IfOk result (λ made. PlansAsked kept moment head_only asked probe made.planned made.media)
of_get kept moment head_only head asked probe object (Ok made) is same plans =
    subst (λ (a : Result Ask Refusal). PlansAsked kept moment head_only a probe made.planned made.media) (sym is)
    (subst (λ (h : Bool). PlansAsked kept moment h (Ok (GetMedia object)) probe made.planned made.media) same (plans moment))
of_get kept moment head_only head asked probe object (Err e) is same plans = tt

pub of_refusal : {E : Type 0} (kept : StoreView) (moment : ℕ) (head_only : Bool) (asked : Result Ask Refusal) (probe : Option Probe) (why : Refusal) (result : Result PlannedAnswer E)
    → asked ≡ Err why
    → IfOk result (λ made. (moment : ℕ) (head : Bool) (probe : Option Probe) → PlansAsked kept moment head (Err why) probe made.planned made.media)
    → IfOk result (λ made. PlansAsked kept moment head_only asked probe made.planned made.media)
of_refusal kept moment head_only asked probe why (Ok made) is plans =
    subst (λ (a : Result Ask Refusal). PlansAsked kept moment head_only a probe made.planned made.media) (sym is) (plans moment head_only probe)
of_refusal kept moment head_only asked probe why (Err e) is plans = tt
