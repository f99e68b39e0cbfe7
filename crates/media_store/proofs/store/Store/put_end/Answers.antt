use Rattle.std.proofs.Common.{◌≡◌, ◌≤◌, ◌+◌, ℕ, OnOk, ap, is_ok, refl, subst, sym, ◌∙◌}
use Rattle.sha2.specs.declared.Sha256.{Sha256}
use Rattle.sha2.specs.Hashers.{Holds256}
use Rattle.media_rows.specs.Digests.{digest_of}
use Rattle.store_plans.specs.declared.outcome.Planned.{Planned}
use Rattle.store_plans.specs.declared.puts.PutPlan.{PutPlan}
use Rattle.store_states.specs.Kept.{StoreView}
use Rattle.media_store.specs.Changes.{ChangesStore, bytes_by, kept_by}
use Rattle.media_store.specs.Puts.{EndsPut, bytes_at_extent, end_handed, handed_at_end, put_change}
use Rattle.media_store.specs.Stores.{PutSeen, StoreSeen, size_of}
use Rattle.media_store.proofs.Outcomes.{changed_stands}
use Rattle.media_store.proofs.Places.{on_device}
use Rattle.media_store.proofs.PutFacts.{came_for, put_of, takes_blocks, takes_bytes, takes_change, takes_extent, takes_handed, takes_room}
use Rattle.media_store.proofs.store.Store.put_end.Goals as goal

-- the plan has room for a digest
pub finished-requires : goal.finished-requires
finished-requires g c =
    let kept : StoreView = record { library = c.self.inside.library.library; journal = c.self.inside.journal } in
    let put = c.in-Some.put in
    let there = sym c.take.ensures.value ∙ c.in-Some.is in
    let store = c.self.invariant (ap (λ (s : StoreSeen). s.spent) c.self.view_is ∙ c.requires.unspent) in
    let of_store = put_of kept c.self.inside.put put store there in
    let at = ap (λ (p : PutSeen). p.plan) (sym c.put.view_is) ∙ c.in-Write.is in
    record { takes = (takes_extent kept put c.in-Write.extent c.in-Write.plan of_store at).takes }

-- the extent lies on the device
pub store-requires-clause-place : goal.store-requires-clause-place
store-requires-clause-place g c =
    let kept : StoreView = record { library = c.self.inside.library.library; journal = c.self.inside.journal } in
    let put = c.in-Some.put in
    let there = sym c.take.ensures.value ∙ c.in-Some.is in
    let store = c.self.invariant (ap (λ (s : StoreSeen). s.spent) c.self.view_is ∙ c.requires.unspent) in
    let of_store = put_of kept c.self.inside.put put store there in
    let at = ap (λ (p : PutSeen). p.plan) (sym c.put.view_is) ∙ c.in-Write.is in
    on_device kept c.in-Write.extent _ store.sound
    (subst (λ (s : StoreSeen). size_of s.kept ≤ (g.D.Disk.device c.args.disk.now).size) (sym c.self.view_is) c.requires.device)
    (takes_extent kept put c.in-Write.extent c.in-Write.plan of_store at).within

-- the record has its room
pub store-requires-clause-fits : goal.store-requires-clause-fits
store-requires-clause-fits g c =
    let kept : StoreView = record { library = c.self.inside.library.library; journal = c.self.inside.journal } in
    let put = c.in-Some.put in
    let there = sym c.take.ensures.value ∙ c.in-Some.is in
    let store = c.self.invariant (ap (λ (s : StoreSeen). s.spent) c.self.view_is ∙ c.requires.unspent) in
    let of_store = put_of kept c.self.inside.put put store there in
    let at = ap (λ (p : PutSeen). p.plan) (sym c.put.view_is) ∙ c.in-Write.is in
    let hashed = subst (λ (h : Sha256). Holds256 h of_store.came) (ap (λ (p : PutSeen). p.hasher) (sym c.put.view_is))
    (takes_bytes kept put c.in-Write.extent c.in-Write.plan of_store at) in
    let finished = c.finished.ensures of_store.came hashed in
    takes_room kept put c.in-Write.extent c.in-Write.plan of_store at of_store.came c.finished.result finished

pub store-requires-clause-blocks : goal.store-requires-clause-blocks
store-requires-clause-blocks g c =
    let kept : StoreView = record { library = c.self.inside.library.library; journal = c.self.inside.journal } in
    let put = c.in-Some.put in
    let there = sym c.take.ensures.value ∙ c.in-Some.is in
    let store = c.self.invariant (ap (λ (s : StoreSeen). s.spent) c.self.view_is ∙ c.requires.unspent) in
    let of_store = put_of kept c.self.inside.put put store there in
    let at = ap (λ (p : PutSeen). p.plan) (sym c.put.view_is) ∙ c.in-Write.is in
    let hashed = subst (λ (h : Sha256). Holds256 h of_store.came) (ap (λ (p : PutSeen). p.hasher) (sym c.put.view_is))
    (takes_bytes kept put c.in-Write.extent c.in-Write.plan of_store at) in
    let finished = c.finished.ensures of_store.came hashed in
    takes_blocks kept put c.in-Write.extent c.in-Write.plan of_store at of_store.came c.finished.result finished

-- The change that stores its object was written.
pub returns-clause-makes : goal.returns-clause-makes
returns-clause-makes g c =
    let kept : StoreView = record { library = c.self.inside.library.library; journal = c.self.inside.journal } in
    let put = c.in-Some.put in
    let there = sym c.take.ensures.value ∙ c.in-Some.is in
    let store = c.self.invariant (ap (λ (s : StoreSeen). s.spent) c.self.view_is ∙ c.requires.unspent) in
    let of_store = put_of kept c.self.inside.put put store there in
    let at = ap (λ (p : PutSeen). p.plan) (sym c.put.view_is) ∙ c.in-Write.is in
    let old = g.D.Disk.device c.args.disk.now in
    let new = g.D.Disk.device c.store.new.disk in
    rw (← c.self.view_is)
    (λ honest shows held came agrees taken.
    let holds = came_for c.self.inside.put put c.in-Write.extent c.in-Write.plan came there at taken in
    let finished = c.finished.ensures came
    (subst (λ (h : Sha256). Holds256 h came) (ap (λ (p : PutSeen). p.hasher) (sym c.put.view_is)) holds) in
    let change = put_change put c.in-Write.extent (digest_of came) in
    rw there
    (subst (λ (p : PutPlan). EndsPut (is_ok c.store.result) put p (digest_of came) kept held old new) (sym at)
    (subst (λ (planned : Planned). ChangesStore (is_ok c.store.result) change (bytes_at_extent kept c.in-Write.extent old.seen) kept (kept_by kept planned) held old new)
    finished
    (c.store.ensures.makes honest shows held change agrees
    (takes_change kept put c.in-Write.extent c.in-Write.plan of_store at came c.finished.result finished) (refl, refl)))))

pub returns-clause-stands : goal.returns-clause-stands
returns-clause-stands g c =
    let kept : StoreView = record { library = c.self.inside.library.library; journal = c.self.inside.journal } in
    let put = c.in-Some.put in
    let there = sym c.take.ensures.value ∙ c.in-Some.is in
    let store = c.self.invariant (ap (λ (s : StoreSeen). s.spent) c.self.view_is ∙ c.requires.unspent) in
    let of_store = put_of kept c.self.inside.put put store there in
    let at = ap (λ (p : PutSeen). p.plan) (sym c.put.view_is) ∙ c.in-Write.is in
    let hashed = subst (λ (h : Sha256). Holds256 h of_store.came) (ap (λ (p : PutSeen). p.hasher) (sym c.put.view_is))
    (takes_bytes kept put c.in-Write.extent c.in-Write.plan of_store at) in
    let finished = c.finished.ensures of_store.came hashed in
    let old = g.D.Disk.device c.args.disk.now in
    let change = put_change put c.in-Write.extent (digest_of of_store.came) in
    let makes = takes_change kept put c.in-Write.extent c.in-Write.plan of_store at of_store.came c.finished.result finished in
    rw (← c.self.view_is)
    (λ honest shows stands.
    changed_stands c.store.result old (g.D.Disk.device c.store.new.disk) kept _ c.store.new.self.kept stands.held change
    (bytes_at_extent kept c.in-Write.extent old.seen)
    (c.store.ensures.makes honest shows stands.held change stands.agrees makes (refl, refl)) c.store.ensures.kept)

-- the record has as many bytes as one without a digest
pub returns-clause-handed : goal.returns-clause-handed
returns-clause-handed g c =
    let kept : StoreView = record { library = c.self.inside.library.library; journal = c.self.inside.journal } in
    let put = c.in-Some.put in
    let there = sym c.take.ensures.value ∙ c.in-Some.is in
    let store = c.self.invariant (ap (λ (s : StoreSeen). s.spent) c.self.view_is ∙ c.requires.unspent) in
    let of_store = put_of kept c.self.inside.put put store there in
    let at = ap (λ (p : PutSeen). p.plan) (sym c.put.view_is) ∙ c.in-Write.is in
    let hashed = subst (λ (h : Sha256). Holds256 h of_store.came) (ap (λ (p : PutSeen). p.hasher) (sym c.put.view_is))
    (takes_bytes kept put c.in-Write.extent c.in-Write.plan of_store at) in
    let bytes : bytes_by c.finished.result ≡ end_handed c.args.self.now.put =
    ap bytes_by (c.finished.ensures of_store.came hashed)
    ∙ takes_handed c.in-Write.plan (digest_of of_store.came) (takes_extent kept put c.in-Write.extent c.in-Write.plan of_store at).takes
    ∙ sym (ap (λ (s : StoreSeen). end_handed s.put) (sym c.self.view_is) ∙ ap end_handed there ∙ ap handed_at_end at) in
    let old = (g.D.Disk.device c.args.disk.now).handed in
    let new = (g.D.Disk.device c.store.new.disk).handed in
    λ tells. subst (λ (n : ℕ). OnOk c.store.result (new ≡ old + n)) bytes (c.store.ensures.handed tells)

pub returns-clause-handed_at_most : goal.returns-clause-handed_at_most
returns-clause-handed_at_most g c =
    let kept : StoreView = record { library = c.self.inside.library.library; journal = c.self.inside.journal } in
    let put = c.in-Some.put in
    let there = sym c.take.ensures.value ∙ c.in-Some.is in
    let store = c.self.invariant (ap (λ (s : StoreSeen). s.spent) c.self.view_is ∙ c.requires.unspent) in
    let of_store = put_of kept c.self.inside.put put store there in
    let at = ap (λ (p : PutSeen). p.plan) (sym c.put.view_is) ∙ c.in-Write.is in
    let hashed = subst (λ (h : Sha256). Holds256 h of_store.came) (ap (λ (p : PutSeen). p.hasher) (sym c.put.view_is))
    (takes_bytes kept put c.in-Write.extent c.in-Write.plan of_store at) in
    let bytes : bytes_by c.finished.result ≡ end_handed c.args.self.now.put =
    ap bytes_by (c.finished.ensures of_store.came hashed)
    ∙ takes_handed c.in-Write.plan (digest_of of_store.came) (takes_extent kept put c.in-Write.extent c.in-Write.plan of_store at).takes
    ∙ sym (ap (λ (s : StoreSeen). end_handed s.put) (sym c.self.view_is) ∙ ap end_handed there ∙ ap handed_at_end at) in
    let old = (g.D.Disk.device c.args.disk.now).handed in
    let new = (g.D.Disk.device c.store.new.disk).handed in
    λ tells. subst (λ (n : ℕ). new ≤ old + n) bytes (c.store.ensures.handed_at_most tells)
