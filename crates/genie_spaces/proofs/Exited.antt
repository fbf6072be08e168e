-- A process has ended.
use Rattle.std.proofs.Common.{◌≡◌, ℕ, Bool, true, false, not, cond, List, [], ◌∷◌, refl, sym, ap, subst, arith, rules, ◌∙◌, map, filter, find, set}
use Rattle.std.specs.Prelude.{Option, Some, None, is_some, unwrap_or, if◌then◌else◌, ◌||◌, ◌==◌}
use Rattle.std.specs.List.{list_any}
use Rattle.std.specs.Option.{option_map}
use Rattle.std.proofs.lemmas.Bool.{not-false}
use Rattle.genie_base.specs.declared.event.Event.TheVariants.{Exit}
use Rattle.genie_base.specs.declared.refusal.Refusal.TheVariants as cause
use Rattle.genie_base.specs.declared.reply.Reply.TheVariants as reply
use Rattle.genie_frame.specs.FrameTable.{owner_at}
use Rattle.genie_hiding.specs.declared.hidden.Hidden.{Hidden}
use Rattle.genie_object.specs.declared.memory.Memory.{Memory}
use Rattle.genie_region.specs.declared.region.Region.{Region}
use Rattle.genie_space.specs.Spaces as spaces
use Rattle.genie_model.specs.Lemmas.Causes.{none_holds}
use Rattle.genie_model.specs.Lemmas.Lists.{all_has, find_has, find_map}
use Rattle.genie_model.specs.Pending.{is_just}
use Rattle.genie_model.specs.Refusing.{refuse, causes}
use Rattle.genie_model.specs.Regions as model
use Rattle.genie_model.specs.Space.{add_orphans, disowned as flat_disowned, exit, is_posted_by as flat_posted_by, tidy}
use Rattle.genie_model.specs.State as flat
use Rattle.genie_model.specs.Tables.{entry}
use Rattle.genie_kernel.specs.declared.kernel.Kernel.{Kernel}
use Rattle.genie_kernel.specs.declared.transfer.Transfer.{Transfer}
use Rattle.genie_kernel.specs.Calls.{first_waiting, has_number}
use Rattle.genie_kernel.specs.Good.{IsGood}
use Rattle.genie_kernel.specs.Kept.{Kept}
use Rattle.genie_kernel.specs.Loans.{frames_of, has_frame}
use Rattle.genie_kernel.specs.Regions.{region_view}
use Rattle.genie_kernel.specs.Steps.{Steps, bytes_over}
use Rattle.genie_kernel.specs.Transfers.{transfer_view}
use Rattle.genie_kernel.specs.View.{Bytes, no_bytes, outline, state_of}
use Rattle.genie_kernel.specs.Lemmas.Processes.{alive_view, regions_view}
use Rattle.genie_kernel.specs.Lemmas.Tidying.{tidy_view}
use Rattle.genie_changes.specs.Gone.{disowned, left_named, without_process}
use Rattle.genie_changes.specs.Paged.{HavePages}
use Rattle.genie_changes.specs.Settled.{IsSettled}
use Rattle.genie_spaces.specs.Clearing.{Clears}
use Rattle.genie_spaces.specs.Exiting.{Exits, StaysOwned, WasAmong, ended, is_posted_by}
use Rattle.genie_spaces.specs.ExitLaws.{ExitLaws}
use Rattle.genie_spaces.specs.ServingPaged.{IsServedPaged}
use Rattle.genie_spaces.proofs.Exiting.{exits_on, found_transfer, owners_on, pages_kept}
use Rattle.genie_spaces.proofs.Keeping.{kept_all}

pub may_exit : (k : Kernel) (p : ℕ) → refuse (outline k) (Exit p) ≡ None → spaces.is_alive p k.spaces ≡ true
may_exit k p accepted = sym (alive_view (no_bytes k.config.page).seen.entry_bytes k.spaces.processes k.queues p) ∙ not-false _ (none_holds (causes (outline k) (Exit p)) accepted 0 (true, cause.Proc) (omega arith))

some_of : (o : Option (List Region)) → is_some o ≡ true → unwrap_or o [] ≡ [] → o ≡ Some []
some_of None live e = absurd (cc)
some_of (Some rs) live e = ap (λ (l : List Region). Some l) e

none_filtered : {X Y : Type 0} (q : Y → Bool) (view : X → Y) (p : X → Bool) → ((x : X) → q (view x) ≡ p x) → (xs : List X) → list_any p xs ≡ false → filter (λ y. not (q y)) (map view xs) ≡ map view xs
none_filtered q view p same [] e = refl
none_filtered q view p same (x ∷ xs) e = elim (p x) as (λ b. q (view x) ≡ b → (b || list_any p xs) ≡ false → filter (λ y. not (q y)) (map view (x ∷ xs)) ≡ map view (x ∷ xs)) [
  | true ↦ λ s h. absurd (cc)
  | false ↦ λ s h. ap (λ b. cond (not b) (view x ∷ filter (λ y. not (q y)) (map view xs)) (filter (λ y. not (q y)) (map view xs))) s ∙ ap (λ l. view x ∷ l) (none_filtered q view p same xs h)
] (same x) e

same_frame : (p f : ℕ) (t : Transfer) → has_frame f (disowned p t) ≡ has_frame f t
same_frame p f t = elim (is_just t.owner p) as (λ b. has_frame f (if b then record t { owner = None; region = left_named t } else t) ≡ has_frame f t) [ true ↦ refl | false ↦ refl ]

same_number : (p j : ℕ) (t : Transfer) → has_number j (disowned p t) ≡ has_number j t
same_number p j t = elim (is_just t.owner p) as (λ b. has_number j (if b then record t { owner = None; region = left_named t } else t) ≡ has_number j t) [ true ↦ refl | false ↦ refl ]

-- the transfer that is seen without its owner
record IsFrom (p j : ℕ) (ts : List Transfer) (u : Transfer) : Type 0 where
  was : Transfer
  found : find (has_number j) ts ≡ Some was
  is : u ≡ disowned p was

from_map : (p j : ℕ) (ts : List Transfer) (u : Transfer) → find (has_number j) (map (disowned p) ts) ≡ Some u → IsFrom p j ts u
from_map p j ts u e = of_found (find (has_number j) ts) refl (sym (find_map (has_number j) (disowned p) (same_number p j) ts) ∙ e) where
  of_found : (o : Option Transfer) → find (has_number j) ts ≡ o → option_map (disowned p) o ≡ Some u → IsFrom p j ts u
  of_found None is h = absurd (cc)
  of_found (Some v) is h = record { was = v; found = is; is = cc }

module _ (laws : ExitLaws) (k : Kernel) (p : ℕ) (m : Memory) (hid : List Hidden) (k2 k3 : Kernel) (good : IsGood k) (accepted : refuse (outline k) (Exit p) ≡ None) (clears : Clears k (record k { memory = m; hidden = hid })) (a : Exits p (record k { memory = m; hidden = hid }) k2) (none : list_any (is_posted_by p) k2.transfers ≡ false) (b : Exits p k2 k3) (same : k3.transfers ≡ k2.transfers) (empty : spaces.regions_of p k3.spaces ≡ []) where
  abbrev k1 : Kernel
  k1 = record k { memory = m; hidden = hid }

  abbrev w : Kernel
  w = without_process k3 p

  first : IsSettled k1
  first = laws.removal.settled k1 clears.good

  all : Exits p k1 k3
  all = exits_on p k1 k2 k3 first a b

  there : entry k3.spaces.processes p ≡ Some []
  there = some_of (entry k3.spaces.processes p) (all.alive (may_exit k p accepted)) empty

  none_posted : list_any (is_posted_by p) k3.transfers ≡ false
  none_posted = ap (list_any (is_posted_by p)) same ∙ none

  -- the state at the end is that once the process is gone
  end_state : (x : Bytes) → state_of w x ≡ ended p (state_of k3 x)
  end_state x =
      let s : flat.State = state_of k3 x in
      let regions : model.regions_at s p ≡ [] = regions_view x.seen.entry_bytes k3.spaces.processes k3.queues p ∙ ap (map (region_view x.seen.entry_bytes)) empty in
      let left : filter (λ t. not (flat_posted_by p t)) s.transfers ≡ s.transfers = none_filtered (flat_posted_by p) (transfer_view x.seen.kept_bytes k3.devices k3.pools (first_waiting k3.transfers)) (is_posted_by p) (λ t. refl) k3.transfers none_posted in
      let is : (exit s p).0 ≡ state_of w x = (λ i. record s { processes = set s.processes p None; orphans = add_orphans (regions i) s.orphans; transfers = map (flat_disowned p) (left i) }) ∙ sym (laws.gone k3 p x there all.settled) in
      sym (ap tidy is ∙ tidy_view w x)

  steps : (old new : Bytes) → state_of w new ≡ ended p (state_of k old) → Steps (state_of k old) (Exit p) (state_of w new) reply.Okay
  steps old new e = record { state = e; reply_is = refl }

  step_over : (slots rests sents : ℕ → List ℕ) → HavePages k.memory slots → Steps (state_of k (bytes_over k.memory slots rests sents)) (Exit p) (state_of w (bytes_over k3.memory slots rests sents)) reply.Okay
  step_over slots rests sents paged = steps (bytes_over k.memory slots rests sents) (bytes_over k3.memory slots rests sents)
      (end_state (bytes_over k3.memory slots rests sents)
      ∙ all.told slots rests sents (pages_kept k k1 slots (laws.removal.settled k good) first refl paged)
      ∙ ap (ended p) (laws.alike k (bytes_over k.memory slots rests sents) (bytes_over m slots rests sents) (clears.bytes slots rests sents)))

  step_outline : Steps (outline k) (Exit p) (state_of w (no_bytes k.config.page)) reply.Okay
  step_outline = steps (no_bytes k.config.page) (no_bytes k.config.page) (end_state (no_bytes k.config.page) ∙ all.outlined)

  left_good : IsGood w
  left_good = laws.removal.good w (laws.goes k3 p there all.settled) (laws.removal.orderly (outline k) (outline w) (Exit p) reply.Okay refl accepted (subst (λ n. Steps (outline k) (Exit p) (state_of w (no_bytes n)) reply.Okay) (sym (ap (λ c. c.page) all.config)) step_outline) good.orderly)

  still : Kept w w
  still = kept_all w left_good

  kept : Kept k w
  kept = record {
    lent = λ j f t u is on later.
        let v = from_map p j k3.transfers u is.is in
        let on_v : has_frame f v.was ≡ true = sym (same_frame p f v.was) ∙ ap (has_frame f) (sym v.is) ∙ later in
        record {
          owner = owners_on (owner_at k.memory.frames f) (owner_at m.frames f) (owner_at k3.memory.frames f)
              (clears.kept.lent j f t t (record { was = is.was; is = is.was }) on on).owner
              (all_has (λ (x : Transfer). (h : ℕ) → has_frame h x ≡ true → StaysOwned (owner_at m.frames h) (owner_at k3.memory.frames h)) k3.transfers all.lent v.was (find_has (has_number j) k3.transfers v.was v.found).0 f on_v);
          unfreed = (still.lent j f u u (record { was = is.is; is = is.is }) later later).unfreed;
        };
    pooled = λ d f on later. record {
      owner = owners_on (owner_at k.memory.frames f) (owner_at m.frames f) (owner_at k3.memory.frames f) (clears.kept.pooled d f on on).owner (all.pooled d f on);
      unfreed = (still.pooled d f later later).unfreed;
    };
    fresh = λ j f t u is unready later.
        let v = from_map p j k3.transfers u is.is in
        let on_v : has_frame f v.was ≡ true = sym (same_frame p f v.was) ∙ ap (has_frame f) (sym v.is) ∙ later in
        let has = find_has (has_number j) k3.transfers v.was v.found in
        let before : WasAmong k.transfers v.was = all_has (WasAmong k.transfers) k3.transfers all.among v.was has.0 in
        let passes : has_number j v.was ≡ true = has.1 in
        let number : before.was.id.0 ≡ j = before.number ∙ grind (arith, rules, passes) in
        let found : find (has_number j) k.transfers ≡ Some before.was = subst (λ n. find (has_number n) k.transfers ≡ Some before.was) number (found_transfer before.was k.transfers first.rising before.there) in
        let both : Some before.was ≡ Some t = sym found ∙ is.was in
        let one : before.was ≡ t = cc in
        ap (has_frame f) (sym one) ∙ ap (λ z. list_any (λ h. h == f) (frames_of z)) before.loans ∙ on_v;
  }

  served : IsServedPaged k (Exit p) w reply.Okay
  served = record {
    good = left_good;
    step = step_over;
    kept = kept;
    config = all.config;
    unfailed = refl;
    meters = all.meters ∙ clears.meters;
    landed = all.landed ∙ clears.landed;
  }

  -- what the event's contract says
  pub exits_served : (new : Kernel) → new ≡ without_process k3 p → IsServedPaged k (Exit p) new reply.Okay
  exits_served new is = subst (λ (n : Kernel). IsServedPaged k (Exit p) n reply.Okay) (sym is) served
