-- A new region of the flat machine, moved into or removed again.
use Rattle.std.proofs.Common.{◌≡◌, ℕ, ◌+◌, zero, suc, Bool, true, false, not, cond, List, [], ◌∷◌, refl, ap, ap₂, ◌∙◌, map, filter}
use Rattle.std.specs.Prelude.{Option, Some, None, nat_le, nat_lt, ◌==◌, slice_set}
use Rattle.std.specs.List.{list_any}
use Rattle.std.proofs.lemmas.Bool.{or_parts}
use Rattle.genie_base.specs.Regions.{add_in_order}
use Rattle.genie_base.specs.declared.region.RegionState.TheVariants.{In}
use Rattle.genie_model.specs.Inputs.{moved_in, moved_in_of}
use Rattle.genie_model.specs.Pending.{names_weakly}
use Rattle.genie_model.specs.Regions.{change_process, changed, extent_of, is_region, queue_of, regions_of, with_state}
use Rattle.genie_model.specs.Space.{add_orphan, add_region, as_orphan, cut, is_named, remove, tidy, with_region, without_region}
use Rattle.genie_model.specs.State.{State, Process, Region, Orphan, Transfer}
use Rattle.genie_model.specs.Tables.{entry, put_in}

-- no region of these processes has the number, and no queue lists it
pub record Lacks (n : ℕ) (ps : List (Option Process)) : Type 0 where
  pub regions : (i : ℕ) → list_any (is_region n) (regions_of (entry ps i)) ≡ false
  pub queues : (i : ℕ) → list_any (λ m. m == n) (queue_of (entry ps i)) ≡ false

lacks_tail : (n : ℕ) (p : Option Process) (ps : List (Option Process)) → Lacks n (p ∷ ps) → Lacks n ps
lacks_tail n p ps l = record { regions = λ i. l.regions (suc i); queues = λ i. l.queues (suc i) }

module _ {X : Type 0} (p : X → Bool) where
  without_here : (x : X) (xs : List X) → p x ≡ true → filter (λ y. not (p y)) (x ∷ xs) ≡ filter (λ y. not (p y)) xs
  without_here x xs e = ap (λ b. cond (not b) (x ∷ filter (λ y. not (p y)) xs) (filter (λ y. not (p y)) xs)) e

  without_later : (x : X) (xs : List X) → p x ≡ false → filter (λ y. not (p y)) (x ∷ xs) ≡ x ∷ filter (λ y. not (p y)) xs
  without_later x xs e = ap (λ b. cond (not b) (x ∷ filter (λ y. not (p y)) xs) (filter (λ y. not (p y)) xs)) e

  none_without : (xs : List X) → list_any p xs ≡ false → filter (λ y. not (p y)) xs ≡ xs
  none_without [] e = refl
  none_without (x ∷ xs) e = let both = or_parts (p x) (list_any p xs) e in without_later x xs both.0 ∙ ap (λ l. x ∷ l) (none_without xs both.1)

module _ (n : ℕ) (z : Region) (new : is_region n z ≡ true) where
  abbrev filled : Region
  filled = with_state In z

  none_changed : (rs : List Region) → list_any (is_region n) rs ≡ false → map (changed n (with_state In)) rs ≡ rs
  none_changed [] e = refl
  none_changed (r ∷ rs) e = let both = or_parts (is_region n r) (list_any (is_region n) rs) e in ap₂ ◌∷◌ (ap (λ b. cond b (with_state In r) r) both.0) (none_changed rs both.1)

  new_changed : changed n (with_state In) z ≡ filled
  new_changed = ap (λ b. cond b filled z) new

  added_without : (rs : List Region) → list_any (is_region n) rs ≡ false → filter (λ r. not (is_region n r)) (add_in_order extent_of z rs) ≡ rs
  added_without [] e = without_here (is_region n) z [] new
  added_without (r ∷ rs) e =
      let both = or_parts (is_region n r) (list_any (is_region n) rs) e in
      elim (nat_le ((extent_of r).start + (extent_of r).pages) (extent_of z).start) as (λ b. filter (λ q. not (is_region n q)) (cond b (r ∷ add_in_order extent_of z rs) (z ∷ r ∷ rs)) ≡ r ∷ rs) [
        | true ↦ without_later (is_region n) r (add_in_order extent_of z rs) both.0 ∙ ap (λ l. r ∷ l) (added_without rs both.1)
        | false ↦ without_here (is_region n) z (r ∷ rs) new ∙ none_without (is_region n) (r ∷ rs) e
      ]

  added_changed : (rs : List Region) → list_any (is_region n) rs ≡ false → map (changed n (with_state In)) (add_in_order extent_of z rs) ≡ add_in_order extent_of filled rs
  added_changed [] e = ap (λ r. r ∷ []) new_changed
  added_changed (r ∷ rs) e =
      let both = or_parts (is_region n r) (list_any (is_region n) rs) e in
      let here : changed n (with_state In) r ≡ r = ap (λ b. cond b (with_state In r) r) both.0 in
      elim (nat_le ((extent_of r).start + (extent_of r).pages) (extent_of z).start) as (λ b. map (changed n (with_state In)) (cond b (r ∷ add_in_order extent_of z rs) (z ∷ r ∷ rs)) ≡ cond b (r ∷ add_in_order extent_of filled rs) (filled ∷ r ∷ rs)) [
        | true ↦ ap₂ ◌∷◌ here (added_changed rs both.1)
        | false ↦ ap₂ ◌∷◌ new_changed (ap₂ ◌∷◌ here (none_changed rs both.1))
      ]

  same_without : (o : Option Process) → list_any (is_region n) (regions_of o) ≡ false → list_any (λ m. m == n) (queue_of o) ≡ false → change_process (without_region n) o ≡ o
  same_without None a b = refl
  same_without (Some q) a b = λ i. Some (record { queue = none_without (λ m. m == n) q.queue b i; regions = none_without (is_region n) q.regions a i })

  same_in : (o : Option Process) → list_any (is_region n) (regions_of o) ≡ false → list_any (λ m. m == n) (queue_of o) ≡ false → change_process (moved_in_of n) o ≡ o
  same_in None a b = refl
  same_in (Some q) a b = λ i. Some (record { queue = none_without (λ m. m == n) q.queue b i; regions = none_changed q.regions a i })

  new_without : (o : Option Process) → list_any (is_region n) (regions_of o) ≡ false → list_any (λ m. m == n) (queue_of o) ≡ false → change_process (without_region n) (change_process (with_region z) o) ≡ o
  new_without None a b = refl
  new_without (Some q) a b = λ i. Some (record { queue = none_without (λ m. m == n) q.queue b i; regions = added_without q.regions a i })

  new_in : (o : Option Process) → list_any (is_region n) (regions_of o) ≡ false → list_any (λ m. m == n) (queue_of o) ≡ false → change_process (moved_in_of n) (change_process (with_region z) o) ≡ change_process (with_region filled) o
  new_in None a b = refl
  new_in (Some q) a b = λ i. Some (record { queue = none_without (λ m. m == n) q.queue b i; regions = added_changed q.regions a i })

  all_without : (ps : List (Option Process)) → Lacks n ps → map (change_process (without_region n)) ps ≡ ps
  all_without [] l = refl
  all_without (x ∷ ps) l = ap₂ ◌∷◌ (same_without x (l.regions 0) (l.queues 0)) (all_without ps (lacks_tail n x ps l))

  all_in : (ps : List (Option Process)) → Lacks n ps → map (change_process (moved_in_of n)) ps ≡ ps
  all_in [] l = refl
  all_in (x ∷ ps) l = ap₂ ◌∷◌ (same_in x (l.regions 0) (l.queues 0)) (all_in ps (lacks_tail n x ps l))

  removed_added : (ps : List (Option Process)) (p : ℕ) → Lacks n ps → map (change_process (without_region n)) (slice_set ps p (change_process (with_region z) (entry ps p))) ≡ ps
  removed_added [] p l = refl
  removed_added (x ∷ ps) zero l = ap₂ ◌∷◌ (new_without x (l.regions 0) (l.queues 0)) (all_without ps (lacks_tail n x ps l))
  removed_added (x ∷ ps) (suc p) l = ap₂ ◌∷◌ (same_without x (l.regions 0) (l.queues 0)) (removed_added ps p (lacks_tail n x ps l))

  moved_added : (ps : List (Option Process)) (p : ℕ) → Lacks n ps → map (change_process (moved_in_of n)) (slice_set ps p (change_process (with_region z) (entry ps p))) ≡ slice_set ps p (change_process (with_region filled) (entry ps p))
  moved_added [] p l = refl
  moved_added (x ∷ ps) zero l = ap₂ ◌∷◌ (new_in x (l.regions 0) (l.queues 0)) (all_in ps (lacks_tail n x ps l))
  moved_added (x ∷ ps) (suc p) l = ap₂ ◌∷◌ (same_in x (l.regions 0) (l.queues 0)) (moved_added ps p (lacks_tail n x ps l))

  -- moved into, it is a region of zeros that is In
  pub new_moved_in : (s : State) (p : ℕ) → Lacks n s.processes → moved_in (add_region s p z) n ≡ add_region s p filled
  new_moved_in s p l = ap (λ ps. record s { processes = ps }) (moved_added s.processes p l)

  unnamed_orphan : (ts : List Transfer) (o : Orphan) (os : List Orphan) → is_named ts o ≡ false → filter (is_named ts) (put_in (λ (x : Orphan). x.number) o os) ≡ filter (is_named ts) os
  unnamed_orphan ts o [] e = ap (λ b. cond b (o ∷ []) []) e
  unnamed_orphan ts o (x ∷ os) e = elim (nat_lt o.number x.number) as (λ b. filter (is_named ts) (cond b (o ∷ x ∷ os) (x ∷ put_in (λ (y : Orphan). y.number) o os)) ≡ filter (is_named ts) (x ∷ os)) [
    | true ↦ ap (λ b. cond b (o ∷ filter (is_named ts) (x ∷ os)) (filter (is_named ts) (x ∷ os))) e
    | false ↦ ap (λ l. cond (is_named ts x) (x ∷ l) l) (unnamed_orphan ts o os e)
  ]

  -- removed, it leaves nothing
  pub new_removed : (s : State) (p : ℕ) (r : Region) → r.number ≡ n → Lacks n s.processes → list_any (names_weakly n) s.transfers ≡ false → tidy s ≡ s → tidy (remove (add_region s p z) r) ≡ s
  new_removed s p r is l unnamed tidied =
      let processes : map (change_process (without_region r.number)) (slice_set s.processes p (change_process (with_region z) (entry s.processes p))) ≡ s.processes = ap (λ k. map (change_process (without_region k)) (slice_set s.processes p (change_process (with_region z) (entry s.processes p)))) is ∙ removed_added s.processes p l in
      let none : is_named s.transfers (as_orphan r) ≡ false = ap (λ k. list_any (names_weakly k) s.transfers) is ∙ unnamed in
      let orphans : map (cut s.transfers) (filter (is_named s.transfers) (add_orphan r s.orphans)) ≡ s.orphans = ap (map (cut s.transfers)) (unnamed_orphan s.transfers (as_orphan r) s.orphans none) ∙ ap (λ (x : State). x.orphans) tidied in
      λ i. record s { processes = processes i; orphans = orphans i }
