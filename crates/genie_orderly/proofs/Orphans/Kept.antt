-- What orphans have in common, also where one comes and where bytes are stored, they have after each accepted event.
use Rattle.std.proofs.Common.{ℕ, List, [], ◌∷◌, map, refl}
use Rattle.std.specs.Prelude.{Option, Some, None}
use Rattle.genie_base.specs.Transfers.{class_of}
use Rattle.genie_base.specs.declared.event.Event.{Event}
use Rattle.genie_base.specs.declared.event.Event.TheVariants.{Spawn, Fork, Map, Alloc, Input}
use Rattle.genie_base.specs.declared.semantics.Class.{Class}
use Rattle.genie_base.specs.declared.semantics.Class.TheVariants.{WeakMove}
use Rattle.genie_model.specs.State.{State, Region, Orphan}
use Rattle.genie_model.specs.Regions.{regions_at, stored_in_orphan}
use Rattle.genie_model.specs.Space.{add_orphan, add_orphans, add_region, copy_of, add_copies, accessible, spawned}
use Rattle.genie_model.specs.Inputs.{with_buffer, weak_buffer, reusable, pages_for}
use Rattle.genie_model.specs.Step.{perform}
use Rattle.genie_orderly.proofs.Runs.Events.{IsKept, event_kept}

module _ (P : List Orphan → Type 0) (add : (r : Region) (os : List Orphan) → P os → P (add_orphan r os)) (store : (k x : ℕ) (new : List ℕ) (os : List Orphan) → P os → P (map (stored_in_orphan k x new) os)) where
  after_all : (regions : List Region) (os : List Orphan) → P os → P (add_orphans regions os)
  after_all [] os h = h
  after_all (r ∷ regions) os h = after_all regions (add_orphan r os) (add r os h)

  after_copies : (s : State) (q : ℕ) (regions : List Region) → P s.orphans → P (add_copies s q regions).orphans
  after_copies s q [] h = h
  after_copies s q (r ∷ regions) h = after_copies (add_region s q (copy_of s r)) q regions h

  after_weak : (s : State) (p n : ℕ) (o : Option ℕ) → P s.orphans → P (weak_buffer s p n o).orphans
  after_weak s p n None h = h
  after_weak s p n (Some k) h = h

  after_buffer : (s : State) (p : ℕ) (class : Class) (n : ℕ) → P s.orphans → P (with_buffer s p class n).orphans
  after_buffer s p WeakMove n h = after_weak s p n (reusable s p (pages_for s n)) h
  after_buffer s p class n h = h

  orphans_kept : IsKept (λ s. P s.orphans)
  orphans_kept = record {
    exit = λ s p h. after_all (regions_at s p) s.orphans h;
    remove = λ s r there h. add r s.orphans h;
    mode = λ s k writable h. h;
    bytes = λ s k x new h. store k x new s.orphans h;
    out = λ s k h. h;
    fill = λ s k new h. h;
    live = λ s k h. h;
    rest = λ s transfers devices next h. h;
  }

  pub orphans_keep : (s : State) (e : Event) → P s.orphans → P (perform s e).0.orphans
  orphans_keep s (Fork p q) h = after_copies (spawned s q) q (accessible (regions_at s p)) h
  orphans_keep s (Input p sem d port flow a n) h = after_buffer s p (class_of sem) n h
  orphans_keep s (Spawn p) h = h
  orphans_keep s (Map p g n) h = h
  orphans_keep s (Alloc p n) h = h
  orphans_keep s e h = event_kept (λ (t : State). P t.orphans) orphans_kept s e refl h
