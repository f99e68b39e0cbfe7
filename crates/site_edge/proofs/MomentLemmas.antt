-- What a crash may leave of a site in memory after one more call.
use Rattle.std.proofs.Common.{◌≡◌, ◌<◌, ◌≤◌, ◌+◌, ◌++◌, ◌∷◌, [], ◌⊎◌, min, ℕ, Bool, List, length, take, get_or, inl, inr, refl, sym, ap, subst, ◌∙◌, arith}
use Rattle.std.proofs.lemmas.Bool.{cases_lt}
use Rattle.std.proofs.lemmas.List.{length_push, take_all, take-append-le, get_or_append_left, get_or_at}
use Rattle.disk_trait.specs.Device.{Left}
use Rattle.disk_trait.specs.Calls.{DiskRequest, Follows, Elapses, Unchanged, TornWrite, DiskCall, LeavesOnly}
use Rattle.disk_trait.specs.History.{call_of, Past, with_call}
use Rattle.disk_trait.specs.MemoryDisk.{DiskState, DiskCalled, LeavesAt, LeavesSince, memory_device}
use Rattle.disk_trait.specs.MemoryDiskLaws.{leaves_at_more}
use Rattle.disk_trait.specs.declared.history.Call.{Call}
use Rattle.site_edge.specs.declared.span.ToldSpan.{ToldSpan}
use Rattle.site_edge.specs.declared.span.Added.{Added}
use Rattle.site_edge.specs.Lines.{Talk}
use Rattle.site_edge.specs.MemorySite.{SiteState, SiteLeaves, LeavesIn, IsKeptBySite, SoFar, now, earlier, ending, told_after, told_of, disk_calls, end_span, site_device}

-- a site of which nothing changed that a crash may leave
pub record SameLeft (old new : SiteState) : Type 0 where
  pub past : new.disk.past ≡ old.disk.past
  pub spans : new.spans ≡ old.spans
  pub since : new.since ≡ old.since
  pub told : told_of new ≡ told_of old

same_left : (old new : SiteState) (t : ℕ) (p : Left) → SameLeft old new → SiteLeaves old t p → SiteLeaves new t p
same_left old new t p same (now left told) = now (rw (same.past, same.spans, same.since) left) (told ∙ sym same.told)
same_left old new t p same (earlier n span within at left told) =
    earlier n span (rw same.spans within) (rw same.spans at) (rw same.past left) (rw same.spans told)
same_left old new t p same (ending n span within at left so_far) =
    ending n span (rw same.spans within) (rw same.spans at) (rw same.past left) (rw same.spans so_far)

flip : (old new : SiteState) → SameLeft old new → SameLeft new old
flip old new same = record { past = sym same.past; spans = sym same.spans; since = sym same.since; told = sym same.told }

-- time over a call after which a crash leaves what it could leave before
pub quiet_time : (step : Left → Left → Type 0) (old new : SiteState) → ((p : Left) → step p p) → SameLeft old new
    → Elapses step step (site_device old) (site_device new)
quiet_time step old new itself same =
    let moments : disk_calls new + length new.spans ≡ disk_calls old + length old.spans = rw (same.past, same.spans) refl in
    record {
      later = omega arith;
      now = λ p left. (p, same_left new old _ p (flip old new same) (subst (λ t. SiteLeaves new t p) moments left), itself p);
      since = λ t p _ left. inl (same_left new old t p (flip old new same) left);
      keeps = λ t p _ left. same_left old new t p same left;
    }

-- the same image at a moment before a disk call
abbrev before_call : (call : Call) (past : Past) (from to before t : ℕ) (image : List ℕ) (left : LeavesIn (with_call call past) from to before t image)
    → left.moment ≤ length past.calls → LeavesIn past from to before t image
before_call call past from to before t image left before_it = record {
  moment = left.moment;
  begun = left.begun;
  not_over = left.not_over;
  within = before_it;
  later = left.later;
  leaves = subst (λ T. T) (leaves_at_more call past left.moment image before_it) left.leaves;
}

-- and after it
abbrev after_call : (call : Call) (past : Past) (from to before t : ℕ) (image : List ℕ) → LeavesIn past from to before t image
    → LeavesIn (with_call call past) from to before t image
after_call call past from to before t image left = record {
  moment = left.moment;
  begun = left.begun;
  not_over = left.not_over;
  within = omega (arith, left.within, length_push past.calls call);
  later = left.later;
  leaves = subst (λ T. T) (sym (leaves_at_more call past left.moment image left.within)) left.leaves;
}

-- the site over its disk after one more call
abbrev with_past : Past → SiteState → SiteState
with_past past site = record site { disk = record site.disk { past = past } }

-- a step that may be made whatever was told
pub record LeavesTold (step : Left → Left → Type 0) : Type 0 where
  pub itself : (p : Left) → step p p
  pub lifts : (old new : List ℕ) (t u : List (List ℕ)) → step (record { image = old; told = t }) (record { image = new; told = t })
      → step (record { image = old; told = u }) (record { image = new; told = u })

-- an image at the last moment follows from one before the call, with what was told
follows_now : (step : Left → Left → Type 0) (call : Call) (site : SiteState) (p : Left) → LeavesTold step → IsKeptBySite site
    → ((q : Left) → LeavesSince (with_call call site.disk.past) (length site.disk.past.calls + 1) q
    → Follows step (LeavesSince site.disk.past (length site.disk.past.calls)) q)
    → LeavesAt (with_call call site.disk.past) (length site.disk.past.calls + 1) p.image → p.told ≡ told_of site
    → Follows step (SiteLeaves site (disk_calls site + length site.spans)) p
follows_now step call site p told_stays kept inner leaves told =
    let past = site.disk.past in
    let before =
    inner (record { image = p.image; told = [] }) (record {
      moment = length past.calls + 1;
      later = omega arith;
      within =
          omega (arith, length_push past.calls call);
      image = leaves;
      told = refl;
    }) in
    let left = before.1 in
    let at_last : left.moment ≡ length past.calls = omega (arith, left.later, left.within) in
    let bare : step (record { image = before.0.image; told = [] }) (record { image = p.image; told = [] }) =
    subst (λ t. step (record { image = before.0.image; told = t }) (record { image = p.image; told = [] })) left.told before.2 in (
      record { image = before.0.image; told = told_of site },
      now (record {
        moment = length past.calls;
        begun = omega arith;
        not_over = omega arith;
        within = omega arith;
        later = omega arith;
        leaves = subst (λ n. LeavesAt past n before.0.image) at_last left.image;
      }) refl,
      subst (λ t. step (record { image = before.0.image; told = told_of site }) (record { image = p.image; told = t })) (sym told)
          (told_stays.lifts before.0.image p.image [] (told_of site) bare),
    )

-- what a crash may leave after a disk call, at the last moment or before
split_now : (step : Left → Left → Type 0) (call : Call) (site : SiteState) (t : ℕ) (p : Left) → LeavesTold step → IsKeptBySite site
    → ((q : Left) → LeavesSince (with_call call site.disk.past) (length site.disk.past.calls + 1) q
    → Follows step (LeavesSince site.disk.past (length site.disk.past.calls)) q)
    → SiteLeaves (with_past (with_call call site.disk.past) site) t p
    → (SiteLeaves site t p × (t ≤ disk_calls site + length site.spans)) ⊎ Follows step (SiteLeaves site (disk_calls site + length site.spans)) p
split_now step call site t p told_stays kept inner (now left told) =
    let past = site.disk.past in
    let one_more : length (past.calls ++ call ∷ []) ≡ length past.calls + 1 = length_push past.calls call in
    elim (cases_lt (length past.calls) left.moment) [
      | inl last ↦ inr (follows_now step call site p told_stays kept inner (subst (λ n. LeavesAt (with_call call past) n p.image)
          (omega (arith, last, left.within, one_more)) left.leaves) told)
      | inr before_it ↦
          let was = before_call call past _ _ _ t p.image left before_it in
          inl (
            now (record {
              moment = left.moment;
              begun = omega (arith, left.begun, kept.since, one_more);
              not_over = before_it;
              within = before_it;
              later = left.later;
              leaves = was.leaves;
            }) told,
            omega (arith, left.later, before_it),
          )
    ]
split_now step call site t p told_stays kept inner (earlier n span within at left told) =
    let ends : span.to ≤ disk_calls site = subst (λ s. s.to ≤ disk_calls site) at (kept.spans n span within) in
    let before_it : left.moment ≤ length site.disk.past.calls = omega (arith, ends, left.not_over) in
    inl (earlier n span within at (before_call call site.disk.past _ _ _ t p.image left before_it) told, omega (arith, left.later, before_it, within))
split_now step call site t p told_stays kept inner (ending n span within at left so_far) =
    let ends : span.to ≤ disk_calls site = subst (λ s. s.to ≤ disk_calls site) at (kept.spans n span within) in
    let before_it : left.moment ≤ length site.disk.past.calls = omega (arith, ends, left.not_over) in
    inl (ending n span within at (before_call call site.disk.past _ _ _ t p.image left before_it) so_far, omega (arith, left.later, before_it, within))

-- nothing is lost by a disk call
keeps_past : (call : Call) (site : SiteState) (t : ℕ) (p : Left) → IsKeptBySite site → SiteLeaves site t p
    → SiteLeaves (with_past (with_call call site.disk.past) site) t p
keeps_past call site t p kept (now left told) =
    let after = after_call call site.disk.past _ _ _ t p.image left in
    now (record {
      moment = left.moment;
      begun = omega (arith, left.begun, kept.since, length_push site.disk.past.calls call);
      not_over = omega (arith, left.not_over, length_push site.disk.past.calls call);
      within = after.within;
      later = left.later;
      leaves = after.leaves;
    }) told
keeps_past call site t p kept (earlier n span within at left told) = earlier n span within at (after_call call site.disk.past _ _ _ t p.image left) told
keeps_past call site t p kept (ending n span within at left so_far) = ending n span within at (after_call call site.disk.past _ _ _ t p.image left) so_far

-- time over a disk call that was noted
noted_time : (step : Left → Left → Type 0) (call : Call) (site : SiteState) → LeavesTold step → IsKeptBySite site
    → ((q : Left) → LeavesSince (with_call call site.disk.past) (length site.disk.past.calls + 1) q
    → Follows step (LeavesSince site.disk.past (length site.disk.past.calls)) q)
    → Elapses step step (site_device site) (site_device (with_past (with_call call site.disk.past) site))
noted_time step call site told_stays kept inner =
    let one_more : length (site.disk.past.calls ++ call ∷ []) ≡ length site.disk.past.calls + 1 = length_push site.disk.past.calls call in
    record {
      later = omega arith;
      now = λ p left. elim (split_now step call site _ p told_stays kept inner left) [ inl was ↦ absurd (omega (arith, was.1)) | inr after ↦ after ];
      since = λ t p _ left. elim (split_now step call site t p told_stays kept inner left) [ inl was ↦ inl was.0 | inr after ↦ inr after ];
      keeps = λ t p _ left. keeps_past call site t p kept left;
    }

-- the same, where the disk is given with its counts
noted_disk_time : (step : Left → Left → Type 0) (site : SiteState) (disk : DiskState) (call : Call) → LeavesTold step → IsKeptBySite site
    → Elapses step step (memory_device site.disk) (memory_device disk) → disk.past ≡ with_call call site.disk.past
    → Elapses step step (site_device site) (site_device (record site { disk = disk }))
noted_disk_time step site disk call told_stays kept inner is =
    let noted = noted_time step call site told_stays kept (λ q left. inner.now q (rw (is, length_push) left)) in
    let time : Elapses step step (site_device site) (site_device (with_past disk.past site)) = rw is noted in
    let new = record site { disk = disk } in
    let to_new : SameLeft (with_past disk.past site) new = record { past = refl; spans = refl; since = refl; told = refl } in
    let from_new : SameLeft new (with_past disk.past site) = record { past = refl; spans = refl; since = refl; told = refl } in
    record {
      later = time.later;
      now = λ p left. time.now p (same_left new (with_past disk.past site) _ p from_new left);
      since = λ t p le left. time.since t p le (same_left new (with_past disk.past site) t p from_new left);
      keeps = λ t p le left. same_left (with_past disk.past site) new t p to_new (time.keeps t p le left);
    }

-- time over any disk call
disk_time : (asked : DiskRequest) (step : Left → Left → Type 0) (ok : Bool) (site : SiteState) (disk : DiskState) → LeavesTold step → IsKeptBySite site
    → DiskCall step ok (memory_device site.disk) (memory_device disk) → DiskCalled asked site.disk disk ok
    → Elapses step step (site_device site) (site_device (record site { disk = disk }))
disk_time asked step ok site disk told_stays kept made called =
    elim called.past [
      | inl starved ↦ quiet_time step site (record site { disk = disk }) told_stays.itself
          (record { past = starved.past; spans = refl; since = refl; told = refl })
      | inr noted ↦ noted_disk_time step site disk (call_of asked ok) told_stays kept made.time noted
    ]

pub disk_call : (asked : DiskRequest) (step : Left → Left → Type 0) (ok : Bool) (site : SiteState) (disk : DiskState) → LeavesTold step → IsKeptBySite site
    → DiskCall step ok (memory_device site.disk) (memory_device disk) → DiskCalled asked site.disk disk ok
    → DiskCall step ok (site_device site) (site_device (record site { disk = disk }))
disk_call asked step ok site disk told_stays kept made called = record {
  same = record { size = made.same.size; honest = refl; shows = refl; tells = refl };
  link = refl;
  counted = made.counted;
  time = disk_time asked step ok site disk told_stays kept made called;
  one_moment = omega (arith, made.one_moment);
}

pub unchanged_leaves_told : LeavesTold Unchanged
unchanged_leaves_told = record {
  itself = λ p. refl;
  lifts = λ old new t u same. ap (λ p. record { image = p.image; told = u }) same;
}

pub torn_leaves_told : (at n : ℕ) → LeavesTold (TornWrite at n)
torn_leaves_told at n = record {
  itself = λ p. record { image = record { before = refl; after = refl; same_length = refl }; told = refl };
  lifts = λ old new t u torn. record { image = torn.image; told = refl };
}

durable_at : (site : SiteState) (seen : List ℕ) (p : Left) → LeavesOnly seen (memory_device site.disk) → SiteLeaves site (disk_calls site + length site.spans) p
    → p.image ≡ seen
durable_at site seen p only (now left told) =
    only (record { image = p.image; told = [] }) (record {
      moment = left.moment;
      later = omega (arith, left.later);
      within = left.within;
      image = left.leaves;
      told = refl;
    })
durable_at site seen p only (earlier n span within at left told) = absurd (omega (arith, within, left.within, left.later))
durable_at site seen p only (ending n span within at left so_far) = absurd (omega (arith, within, left.within, left.later))

-- after a sync that succeeded, a crash leaves what a read gives, whatever was told
pub durable : (site : SiteState) (seen : List ℕ) → LeavesOnly seen (memory_device site.disk) → LeavesOnly seen (site_device site)
durable site seen only = λ p left. durable_at site seen p only left

-- within a stretch that a link call ended, the moments from before it
ended_in : (past : Past) (since n before t : ℕ) (image : List ℕ) → since ≤ n → LeavesIn past (min since n) n before t image
    → LeavesIn past since n before t image
ended_in past since n before t image earlier_by left = record {
  moment = left.moment;
  begun = omega (arith, left.begun);
  not_over = left.not_over;
  within = left.within;
  later = left.later;
  leaves = left.leaves;
}

-- the span that a link call ends
abbrev pub ended_by : Added → SiteState → ToldSpan
ended_by adds site = record { from = site.since; to = disk_calls site; adds = adds }

-- what was told before a span that stood already
spans_before : (site : SiteState) (last : ToldSpan) (n : ℕ) → n ≤ length site.spans
    → told_after (take n (site.spans ++ last ∷ [])) [] ≡ told_after (take n site.spans) []
spans_before site last n within = ap (λ spans. told_after spans []) (take-append-le n site.spans (last ∷ []) within)

-- what was told before the last span
told_before_last : (site : SiteState) (last : ToldSpan) → IsKeptBySite site → told_after (take (length site.spans) (site.spans ++ last ∷ [])) [] ≡ told_of site
told_before_last site last kept =
    spans_before site last (length site.spans) (omega arith) ∙ (ap (λ spans. told_after spans []) (take_all (length site.spans) site.spans (omega arith)) ∙
    kept.told)

-- the site with one more span
abbrev pub with_span : Added → SiteState → List Talk → SiteState
with_span adds site talks = record (end_span adds site) { talks = talks }

-- nothing is lost where a span ends
keeps_ended : (adds : Added) (site : SiteState) (talks : List Talk) (t : ℕ) (p : Left) → IsKeptBySite site → SiteLeaves site t p
    → SiteLeaves (with_span adds site talks) t p
keeps_ended adds site talks t p kept (now left told) =
    let last = ended_by adds site in
    earlier (length site.spans) last (omega (arith, length_push site.spans last)) (get_or_at site.spans last [] last (length site.spans) refl)
    (ended_in _ _ _ _ t p.image kept.since left) (told ∙ sym (told_before_last site last kept))
keeps_ended adds site talks t p kept (earlier n span within at left told) =
    let last = ended_by adds site in
    earlier n span (omega (arith, within, length_push site.spans last)) (get_or_append_left site.spans (last ∷ []) span n within ∙ at) left
    (told ∙ sym (spans_before site last n (omega (arith, within))))
keeps_ended adds site talks t p kept (ending n span within at left so_far) =
    let last = ended_by adds site in
    ending n span (omega (arith, within, length_push site.spans last)) (get_or_append_left site.spans (last ∷ []) span n within ∙ at) left
    (subst (λ told. SoFar span.adds told p.told) (sym (spans_before site last n (omega (arith, within)))) so_far)

-- an image that the disk may leave now, and what was told by then
follows_at : (step : Left → Left → Type 0) (site : SiteState) (p : Left) → LeavesAt site.disk.past (disk_calls site) p.image
    → step (record { image = p.image; told = told_of site }) p → Follows step (SiteLeaves site (disk_calls site + length site.spans)) p
follows_at step site p leaves made = (
  record { image = p.image; told = told_of site },
  now (record {
    moment = disk_calls site;
    begun = omega arith;
    not_over = omega arith;
    within = omega arith;
    later = omega arith;
    leaves = leaves;
  }) refl,
  made,
)

-- the last span, by its place
is_last : (site : SiteState) (last span : ToldSpan) (n : ℕ) → n < length (site.spans ++ last ∷ []) → length site.spans ≤ n
    → get_or (site.spans ++ last ∷ []) n span ≡ span → (n ≡ length site.spans) × (span ≡ last)
is_last site last span n within past at =
    let here : n ≡ length site.spans = omega (arith, within, past, length_push site.spans last) in
    (here, sym at ∙ get_or_at site.spans last [] span n (sym here))

-- What a link call that ends a span does to what a crash leaves: what is told once it has ended, and
-- what was told so far at a moment within it.
pub record EndsBy (step : Left → Left → Type 0) (adds : Added) (site : SiteState) (talks : List Talk) : Type 0 where
  pub whole : (image : List ℕ) → step (record { image = image; told = told_of site }) (record { image = image; told = told_of (with_span adds site talks) })
  pub part : (image : List ℕ) (told : List (List ℕ)) → SoFar adds (told_of site) told
      → step (record { image = image; told = told_of site }) (record { image = image; told = told })

split_ended : (step : Left → Left → Type 0) (adds : Added) (site : SiteState) (talks : List Talk) (t : ℕ) (p : Left) → IsKeptBySite site
    → EndsBy step adds site talks
    → SiteLeaves (with_span adds site talks) t p → SiteLeaves site t p ⊎ Follows step (SiteLeaves site (disk_calls site + length site.spans)) p
split_ended step adds site talks t p kept steps (now left told) =
    let at_last : LeavesAt site.disk.past (disk_calls site) p.image =
    subst (λ n. LeavesAt site.disk.past n p.image) (omega (arith, left.begun, left.not_over)) left.leaves in
    inr (follows_at step site p at_last (subst (λ u. step (record { image = p.image; told = told_of site }) (record { image = p.image; told = u })) (sym told)
    (steps.whole p.image)))
split_ended step adds site talks t p kept steps (earlier n span within at left told) =
    let last = ended_by adds site in
    elim (cases_lt n (length site.spans)) [
      | inl old ↦ inl (earlier n span old (sym (get_or_append_left site.spans (last ∷ []) span n old) ∙ at) left
          (told ∙ spans_before site last n (omega (arith, old))))
      | inr past ↦
          let is = is_last site last span n within past at in
          let there : LeavesIn site.disk.past site.since (disk_calls site) (length site.spans) t p.image =
          subst (λ s. LeavesIn site.disk.past s.from s.to (length site.spans) t p.image) is.1
          (subst (λ m. LeavesIn site.disk.past span.from span.to m t p.image) is.0 left) in
          inl (now (record {
            moment = there.moment;
            begun = omega (arith, there.begun);
            not_over = there.not_over;
            within = there.within;
            later = there.later;
            leaves = there.leaves;
          }) (told ∙ (ap (λ m. told_after (take m (site.spans ++ last ∷ [])) []) is.0 ∙ told_before_last site last kept)))
    ]
split_ended step adds site talks t p kept steps (ending n span within at left so_far) =
    let last = ended_by adds site in
    elim (cases_lt n (length site.spans)) [
      | inl old ↦ inl (ending n span old (sym (get_or_append_left site.spans (last ∷ []) span n old) ∙ at) left
          (subst (λ told. SoFar span.adds told p.told) (spans_before site last n (omega (arith, old))) so_far))
      | inr past ↦
          let is = is_last site last span n within past at in
          let there : LeavesIn site.disk.past (disk_calls site) (disk_calls site) n t p.image =
          subst (λ s. LeavesIn site.disk.past s.to s.to n t p.image) is.1 left in
          let so : SoFar adds (told_of site) p.told =
          subst (λ told. SoFar adds told p.told) (ap (λ m. told_after (take m (site.spans ++ last ∷ [])) []) is.0 ∙ told_before_last site last kept)
          (subst (λ s. SoFar s.adds (told_after (take n (site.spans ++ last ∷ [])) []) p.told) is.1 so_far) in
          inr (follows_at step site p (subst (λ m. LeavesAt site.disk.past m p.image) (omega (arith, there.begun, there.not_over)) there.leaves)
          (steps.part p.image p.told so))
    ]

ends_now : (step : Left → Left → Type 0) (adds : Added) (site : SiteState) (talks : List Talk) (p : Left)
    → ((image : List ℕ) → step (record { image = image; told = told_of site }) (record { image = image; told = told_of (with_span adds site talks) }))
    → SiteLeaves (with_span adds site talks) (disk_calls site + (length site.spans + 1)) p
    → Follows step (SiteLeaves site (disk_calls site + length site.spans)) p
ends_now step adds site talks p whole (now left told) =
    let at_last : LeavesAt site.disk.past (disk_calls site) p.image =
    subst (λ n. LeavesAt site.disk.past n p.image) (omega (arith, left.begun, left.not_over)) left.leaves in
    follows_at step site p at_last (subst (λ u. step (record { image = p.image; told = told_of site }) (record { image = p.image; told = u })) (sym told)
    (whole p.image))
ends_now step adds site talks p whole (earlier n span within at left told) =
    absurd (omega (arith, within, left.within, left.later, length_push site.spans (ended_by adds site)))
ends_now step adds site talks p whole (ending n span within at left so_far) =
    absurd (omega (arith, within, left.within, left.later, length_push site.spans (ended_by adds site)))

-- time over a link call that ends a span
pub ended_time : (so_far ended : Left → Left → Type 0) (adds : Added) (site : SiteState) (talks : List Talk) → IsKeptBySite site → EndsBy so_far adds site talks
    → ((image : List ℕ) → ended (record { image = image; told = told_of site }) (record { image = image; told = told_of (with_span adds site talks) }))
    → Elapses so_far ended (site_device site) (site_device (with_span adds site talks))
ended_time so_far ended adds site talks kept steps whole = record {
  later = omega (arith, length_push site.spans (ended_by adds site));
  now = λ p left. ends_now ended adds site talks p whole (rw length_push at left);
  since = λ t p le left. split_ended so_far adds site talks t p kept steps left;
  keeps = λ t p le left. keeps_ended adds site talks t p kept left;
}

-- the same time, where the site is another of which a crash leaves the same
pub same_time : (so_far ended : Left → Left → Type 0) (old mid new : SiteState) → SameLeft mid new → Elapses so_far ended (site_device old) (site_device mid)
    → Elapses so_far ended (site_device old) (site_device new)
same_time so_far ended old mid new same time =
    let moments : disk_calls new + length new.spans ≡ disk_calls mid + length mid.spans = rw (same.past, same.spans) refl in
    record {
      later = omega (arith, time.later);
      now = λ p left. time.now p (same_left new mid _ p (flip mid new same) (subst (λ t. SiteLeaves new t p) moments left));
      since = λ t p le left. time.since t p le (same_left new mid t p (flip mid new same) left);
      keeps = λ t p le left. same_left mid new t p same (time.keeps t p le left);
    }
