-- The bytes of an object, said piece by piece.
use Rattle.std.proofs.Common.{◌≡◌, ◌≤◌, ◌+◌, ◌∙◌, ℕ, Bool, true, false, List, ◌++◌, Option, take, drop, refl, sym, ap, subst, arith}
use Rattle.std.proofs.lemmas.List.{take-append-drop}
use Rattle.media_rows.specs.declared.object.Extent.{Extent}
use Rattle.disk_trait.specs.Device.{Device}
use Rattle.disk_trait.specs.Calls.{bytes_at}
use Rattle.object_blobs.specs.Extents.{extent_bytes}
use Rattle.store_states.specs.Kept.{AgreesWith, StoreView}
use Rattle.store_states.specs.States.{media_start}
use Rattle.media_store.specs.Stores.{PutSeen, StoreSeen}
use Rattle.tams_service.specs.Saying.{Says}
use Rattle.tams_service.specs.Sites.{SiteCounts}
use Rattle.tams_service.proofs.Counting.{counts_none, counts_twice}
use Rattle.tams_service.proofs.Fronts.{take_more}
use Rattle.tams_service.proofs.Sayings.{says_at_most, says_none, says_twice}

-- the bytes of an object of a store that a device shows
abbrev pub object_in : StoreView → Extent → Device → List ℕ
object_in kept extent d = extent_bytes (media_start kept.journal.half) extent d.seen

-- Pieces so far: so many bytes were said, and no call failed.
pub record HasSaid (kept : StoreView) (put : Option PutSeen) (store : StoreSeen) (extent : Extent) (first now : Device) (at : ℕ) : Type 0 where
  pub unspent : store.spent ≡ false
  pub kept_is : store.kept ≡ kept
  pub put_is : store.put ≡ put
  pub within : at ≤ extent.length
  pub counts : SiteCounts true true first now
  pub seen : now.seen ≡ first.seen
  pub says : first.shows ≡ true → Says true true (take at (object_in kept extent first)) first now
  pub keeps : (held : List (List ℕ)) → AgreesWith first kept held → AgreesWith now kept held

-- none at first
pub said_first : (store : StoreSeen) (extent : Extent) (d : Device) → store.spent ≡ false → HasSaid store.kept store.put store extent d d 0
said_first store extent d unspent = record {
  unspent = unspent;
  kept_is = refl;
  put_is = refl;
  within = omega arith;
  counts = counts_none d;
  seen = refl;
  says = λ shows. says_none d;
  keeps = λ held agrees. agrees;
}

-- what is kept stays behind it
pub keeps_part : (kept : StoreView) (put : Option PutSeen) (store : StoreSeen) (extent : Extent) (first now next : Device) (at : ℕ)
    → HasSaid kept put store extent first now at
    → ((held : List (List ℕ)) → AgreesWith now store.kept held → AgreesWith next store.kept held) → (held : List (List ℕ))
    → AgreesWith first kept held → AgreesWith next kept held
keeps_part kept put store extent first now next at so_far keeps held agrees =
    subst (λ k. AgreesWith next k held) so_far.kept_is (keeps held (subst (λ k. AgreesWith now k held) (sym so_far.kept_is) (so_far.keeps held agrees)))

module _ (kept : StoreView) (put : Option PutSeen) (store : StoreSeen) (extent : Extent) (first now next : Device) (at count : ℕ)
    (so_far : HasSaid kept put store extent first now at) where
  -- the bytes that are said next, with those so far
  front : (bytes : List ℕ) → bytes ≡ bytes_at (object_in store.kept extent now) at count
      → take (at + count) (object_in kept extent first) ≡ take at (object_in kept extent first) ++ bytes
  front bytes is = take_more (object_in kept extent first) bytes at count
      (is ∙ ap (λ (k : StoreView). bytes_at (object_in k extent now) at count) so_far.kept_is
      ∙ ap (λ seen. bytes_at (extent_bytes (media_start kept.journal.half) extent seen) at count) so_far.seen)

  shows_now : first.shows ≡ true → now.shows ≡ true
  shows_now shows = so_far.counts.same.shows ∙ shows

  -- A piece more was said.
  pub said_more : (later : StoreSeen) (to : ℕ) → to ≡ at + count → to ≤ extent.length → later.spent ≡ false → later.kept ≡ store.kept → later.put ≡ store.put
      → SiteCounts true true now next → next.seen ≡ now.seen
      → (now.shows ≡ true → Says true true (bytes_at (object_in store.kept extent now) at count) now next)
      → ((held : List (List ℕ)) → AgreesWith now store.kept held → AgreesWith next store.kept held) → HasSaid kept put later extent first next to
  said_more later to behind within unspent same same_put counts seen says keeps = record {
    unspent = unspent;
    kept_is = same ∙ so_far.kept_is;
    put_is = same_put ∙ so_far.put_is;
    within = within;
    counts = counts_twice true true first now next so_far.counts counts;
    seen = seen ∙ so_far.seen;
    says = λ shows.
        subst (λ bytes. Says true true bytes first next) (sym (ap (λ n. take n (object_in kept extent first)) behind ∙ front _ refl))
        (says_twice true true _ _ first now next so_far.counts.same (so_far.says shows) (says (shows_now shows)));
    keeps = keeps_part kept put store extent first now next at so_far keeps;
  }

  -- A piece wasn't said whole, behind which no more is said.
  pub said_part : (linked : Bool) → (now.shows ≡ true → Says false linked (bytes_at (object_in store.kept extent now) at count) now next) → first.shows ≡ true
      → Says false linked (object_in kept extent first) first next
  said_part linked says shows =
      let bytes = object_in kept extent first in
      subst (λ all. Says false linked all first next) (take-append-drop (at + count) bytes)
      (says_at_most (take (at + count) bytes) (drop (at + count) bytes) linked first next
      (subst (λ part. Says false linked part first next) (sym (front _ refl))
      (says_twice false linked _ _ first now next so_far.counts.same (so_far.says shows) (says (shows_now shows)))))
