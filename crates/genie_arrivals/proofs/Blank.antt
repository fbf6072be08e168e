-- What is so of every state doesn't hang on the payload of a transfer.
use Rattle.std.proofs.Common.{◌≡◌, ℕ, ◌+◌, ◌-◌, rules, find, ◌<◌, ◌≤◌, zero, suc, Bool, true, false, cond, List, [], ◌∷◌, refl, sym, ap, ap₂, subst, arith, ◌∙◌, map, length, get_or}
use Rattle.std.specs.Prelude.{Option, Some, None, nat_le, nat_lt, not, slice_index, ◌&&◌, All, AllPairs, IfSome, IsTrue, count_by, filter, sum_by, ◌||◌, ◌==◌, if◌then◌else◌}
use Rattle.std.specs.List.{list_any}
use Rattle.std.specs.Option.{option_map}
use Rattle.std.proofs.lemmas.List.Sums.{sum_by-cons}
use Rattle.genie_base.specs.Lemmas.Overlaid.{overlaid-nothing}
use Rattle.genie_base.specs.Lemmas.Places.{num}
use Rattle.genie_base.specs.declared.event.Event.TheVariants.{Finish}
use Rattle.genie_base.specs.declared.refusal.Refusal.TheVariants as cause
use Rattle.genie_model.specs.Pending.{arrived, is_numbered}
use Rattle.genie_model.specs.Pending as pending
use Rattle.genie_model.specs.Refusing.{refuse, is_finished, first_cause}
use Rattle.genie_model.specs.Regions.{is_within_range, regions_at, changed, changed_in, change_process, put, stored_at, stored_in_orphan, with_bytes}
use Rattle.genie_model.specs.State as flat
use Rattle.genie_model.specs.Tables.{change, entry, without}
use Rattle.genie_model.specs.declared.fate.Fate.{Fate}
use Rattle.genie_model.specs.declared.fate.Fate.TheVariants.{Matched, Skipped, Gathering}
use Rattle.genie_orderly.specs.Orderly.{GoesToInput, IsOrderly, IsTransfer, IsUnderWay, KeepsDepth, Lies, MayName, ReceivesForInput, WaitsBehind, fills, moves_into, receives_for}

module _ {X : Type 0} (p : X → Bool) (f : X → X) where
  length_change : (xs : List X) → length (change p f xs) ≡ length xs
  length_change [] = refl
  length_change (x ∷ xs) = elim (p x) as (λ b. length (cond b (f x ∷ xs) (x ∷ change p f xs)) ≡ length (x ∷ xs)) [ true ↦ refl | false ↦ ap suc (length_change xs) ]

  sum_change : (g : X → ℕ) → ((x : X) → g (f x) ≡ g x) → (xs : List X) → sum_by g (change p f xs) ≡ sum_by g xs
  sum_change g same [] = refl
  sum_change g same (x ∷ xs) = elim (p x) as (λ b. sum_by g (cond b (f x ∷ xs) (x ∷ change p f xs)) ≡ sum_by g (x ∷ xs)) [
    | true ↦ (let e = same x in omega (arith, e, sum_by-cons g (f x) xs, sum_by-cons g x xs))
    | false ↦ omega (arith, sum_change g same xs, sum_by-cons g x (change p f xs), sum_by-cons g x xs)
  ]

  any_change : (q : X → Bool) → ((x : X) → q (f x) ≡ q x) → (xs : List X) → list_any q (change p f xs) ≡ list_any q xs
  any_change q same [] = refl
  any_change q same (x ∷ xs) = elim (p x) as (λ b. list_any q (cond b (f x ∷ xs) (x ∷ change p f xs)) ≡ list_any q (x ∷ xs)) [
    | true ↦ ap (λ c. c || list_any q xs) (same x)
    | false ↦ ap (λ c. q x || c) (any_change q same xs)
  ]

  at_change : (P : X → Type 0) → ((x : X) → P x → P (f x)) → (xs : List X) (i : ℕ) (d : X) → P (get_or xs i d) → P (get_or (change p f xs) i d)
  at_change P still [] i d h = h
  at_change P still (x ∷ xs) zero d h = elim (p x) as (λ b. P (get_or (cond b (f x ∷ xs) (x ∷ change p f xs)) 0 d)) [ true ↦ still x h | false ↦ h ]
  at_change P still (x ∷ xs) (suc i) d h = elim (p x) as (λ b. P (get_or (cond b (f x ∷ xs) (x ∷ change p f xs)) (suc i) d)) [ true ↦ h | false ↦ at_change P still xs i d h ]

  all_change : (P : X → Type 0) → ((x : X) → P x → P (f x)) → (xs : List X) → All P xs → All P (change p f xs)
  all_change P still xs h = λ i d l. let long = length_change xs in at_change P still xs i d (h i d (omega (arith, l, long)))

  pairs_change : (R : X → X → Type 0) → ((x y : X) → R x y → R (f x) y) → ((x y : X) → R x y → R x (f y)) → (xs : List X) → AllPairs R xs → AllPairs R (change p f xs)
  pairs_change R first second xs h = λ i j d less l.
      let long = length_change xs in
      at_change (R (get_or (change p f xs) i d)) (second (get_or (change p f xs) i d)) xs j d
      (at_change (λ x. R x (get_or xs j d)) (λ x. first x (get_or xs j d)) xs i d (h i j d less (omega (arith, l, long))))

  without_change : ((x : X) → p (f x) ≡ p x) → (xs : List X) → without p (change p f xs) ≡ without p xs
  without_change same [] = refl
  without_change same (x ∷ xs) = elim (p x) as (λ b. p x ≡ b → without p (cond b (f x ∷ xs) (x ∷ change p f xs)) ≡ cond b xs (x ∷ without p xs)) [
    | true ↦ λ e. ap (λ b. cond b xs (f x ∷ without p xs)) (same x ∙ e)
    | false ↦ λ e. ap (λ b. cond b (change p f xs) (x ∷ without p (change p f xs))) e ∙ ap (λ l. x ∷ l) (without_change same xs)
  ] refl

-- the transfer without its payload
abbrev pub blank : flat.Transfer → flat.Transfer
blank t = record t { payload = [] }

-- the state with transfer n so
abbrev pub blanked : ℕ → flat.State → flat.State
blanked n s = record s { transfers = change (is_numbered n) blank s.transfers }

pub without_blank : (n : ℕ) (ts : List flat.Transfer) → without (is_numbered n) (change (is_numbered n) blank ts) ≡ without (is_numbered n) ts
without_blank n ts = without_change (is_numbered n) blank (λ t. refl) ts

module _ (n : ℕ) (s : flat.State) (o : IsOrderly s) where
  abbrev ts : List flat.Transfer
  ts = s.transfers

  abbrev new : flat.State
  new = blanked n s

  any_blank : (q : flat.Transfer → Bool) → ((t : flat.Transfer) → q (blank t) ≡ q t) → list_any q new.transfers ≡ list_any q ts
  any_blank q same = any_change (is_numbered n) blank q same ts

  count_blank : (q : flat.Transfer → Bool) → ((t : flat.Transfer) → q (blank t) ≡ q t) → count_by q new.transfers ≡ count_by q ts
  count_blank q same = sum_change (is_numbered n) blank (λ t. num (q t)) (λ t. ap num (same t)) ts

  all_blank : (P : flat.Transfer → Type 0) → ((t : flat.Transfer) → P t → P (blank t)) → All P ts → All P new.transfers
  all_blank P still h = all_change (is_numbered n) blank P still ts h

  goes_blank : (d : ℕ) (x : Fate) → GoesToInput s d x → GoesToInput new d x
  goes_blank d Skipped h = h
  goes_blank d (Matched k) h = (h.0, all_blank (λ (t : flat.Transfer). t.number ≡ k → IsTrue (pending.is_inward t.direction) × (t.device ≡ d)) (λ t x. x) h.1)
  goes_blank d Gathering h = h

  under_blank : (d : ℕ) (g : Option flat.Datagram) → IfSome g (IsUnderWay s d) → IfSome g (IsUnderWay new d)
  under_blank d None h = h
  under_blank d (Some g) h = record { left = h.left; input = goes_blank d g.fate h.input }

  receives_blank : (d : ℕ) (v : Option flat.Device) → ReceivesForInput s d v → ReceivesForInput new d v
  receives_blank d None h = h
  receives_blank d (Some v) h = under_blank d v.present h

  depth_blank : (d : ℕ) (v : Option flat.Device) → KeepsDepth (arrived s d) v → KeepsDepth (arrived new d) v
  depth_blank d v h = subst (λ m. KeepsDepth m v) (sym (count_blank (pending.has_arrived d) (λ t. refl))) h

  pub blank_orderly : IsOrderly new
  blank_orderly = record {
    config = o.config;
    places = o.places;
    devices = o.devices;
    regions = o.regions;
    wired = (let e = sum_change (is_numbered n) blank (pending.cost_of s.config.page) (λ t. refl) ts in let w = o.wired in omega (arith, e, w));
    committed = o.committed;
    transfers = record {
      few = (let e = length_change (is_numbered n) blank ts in let w = o.transfers.few in omega (arith, e, w));
      order = pairs_change (is_numbered n) blank (λ (t u : flat.Transfer). t.number < u.number) (λ t u h. h) (λ t u h. h) ts o.transfers.order;
      below = all_blank (λ (t : flat.Transfer). t.number < s.next) (λ t h. h) o.transfers.below;
    };
    numbers = o.numbers;
    orphans = λ i d l. subst (λ b. b ≡ true) (sym (any_blank (pending.names_weakly (get_or s.orphans i d).number) (λ t. refl))) (o.orphans i d l);
    rise = o.rise;
    order = o.order;
    tidied = (λ i. record new { orphans = map (λ (x : flat.Orphan). record x { bytes = filter (λ (e : ℕ × ℕ). any_blank (pending.covers x.number e.0) (λ t. refl) i) x.bytes }) (filter (λ (x : flat.Orphan). any_blank (pending.names_weakly x.number) (λ t. refl) i) s.orphans) })
        ∙ ap (λ (x : flat.State). record new { orphans = x.orphans }) o.tidied;
    ranges = all_blank (λ (t : flat.Transfer). Lies s t t.region) (λ t h. h) o.ranges;
    holds = record {
      held = all_blank (λ (t : flat.Transfer). MayName s t.class t.direction t.owner t.region) (λ t h. h) o.holds.held;
      one = λ k some. subst (λ m. m ≤ 1) (sym (count_blank (pending.names k) (λ t. refl))) (o.holds.one k (subst (λ b. b ≡ true) (any_blank (moves_into k) (λ t. refl)) some));
    };
    posted = all_blank (λ (t : flat.Transfer). IsTrue (pending.is_posted t.phase) → IsTrue (pending.is_inward t.direction)) (λ t h. h) o.posted;
    matched = λ d. receives_blank d (entry s.devices d) (o.matched d);
    below = o.below;
    filled = λ p i d l.
        let was = o.filled p i d l in
        let k : ℕ = (get_or (regions_at s p) i d).number in
        record {
          one = λ state. count_blank (fills state k) (λ t. refl) ∙ was.one state;
          own = λ state. all_blank (λ (t : flat.Transfer). fills state k t ≡ true → t.owner ≡ Some p) (λ t h. h) (was.own state);
        };
    weak = o.weak;
    calls = all_blank IsTransfer (λ t h. record { phase = h.phase; placed = h.placed; stored = h.stored }) o.calls;
    queues = pairs_change (is_numbered n) blank WaitsBehind (λ t u h. h) (λ t u h. h) ts o.queues;
    moving = all_blank (λ (t : flat.Transfer). pending.is_moving t.phase ≡ true → receives_for (entry s.devices t.device) ≡ Some t.number) (λ t h. h) o.moving;
    received = all_blank (λ (t : flat.Transfer). receives_for (entry s.devices t.device) ≡ Some t.number → pending.is_moving t.phase ≡ true) (λ t h. h) o.received;
    datagrams = o.datagrams;
    depths = λ d. depth_blank d (entry s.devices d) (o.depths d);
  }

-- nothing is put
region_nothing : (r x : ℕ) (q : flat.Region) → changed r (with_bytes x []) q ≡ q
region_nothing r x q = by (q.number == r)
  where
    by : (b : Bool) → (if b then with_bytes x [] q else q) ≡ q
    by true = ap (λ l. record q { bytes = l }) (overlaid-nothing x q.bytes)
    by false = refl

regions_nothing : (r x : ℕ) (rs : List flat.Region) → map (changed r (with_bytes x [])) rs ≡ rs
regions_nothing r x [] = refl
regions_nothing r x (q ∷ rs) = ap₂ ◌∷◌ (region_nothing r x q) (regions_nothing r x rs)

process_nothing : (r x : ℕ) (p : Option flat.Process) → change_process (changed_in r (with_bytes x [])) p ≡ p
process_nothing r x None = refl
process_nothing r x (Some p) = ap (λ rows. Some (record p { regions = rows })) (regions_nothing r x p.regions)

processes_nothing : (r x : ℕ) (ps : List (Option flat.Process)) → map (change_process (changed_in r (with_bytes x []))) ps ≡ ps
processes_nothing r x [] = refl
processes_nothing r x (p ∷ ps) = ap₂ ◌∷◌ (process_nothing r x p) (processes_nothing r x ps)

pair_nothing : (x : ℕ) (e : ℕ × ℕ) → stored_at x [] e ≡ e
pair_nothing x e =
    let outside : is_within_range x 0 e ≡ false = none_within x e.0 in
    ap (λ b. if b then (e.0, slice_index [] (e.0 - x)) else e) outside
  where
    none_within : (a y : ℕ) → (nat_le a y && nat_lt y (a + 0)) ≡ false
    none_within a y = grind (arith, rules)

pairs_nothing : (x : ℕ) (es : List (ℕ × ℕ)) → map (stored_at x []) es ≡ es
pairs_nothing x [] = refl
pairs_nothing x (e ∷ es) = ap₂ ◌∷◌ (pair_nothing x e) (pairs_nothing x es)

orphan_nothing : (r x : ℕ) (o : flat.Orphan) → stored_in_orphan r x [] o ≡ o
orphan_nothing r x o = by (o.number == r)
  where
    by : (b : Bool) → (if b then record o { bytes = map (stored_at x []) o.bytes } else o) ≡ o
    by true = ap (λ l. record o { bytes = l }) (pairs_nothing x o.bytes)
    by false = refl

orphans_nothing : (r x : ℕ) (os : List flat.Orphan) → map (stored_in_orphan r x []) os ≡ os
orphans_nothing r x [] = refl
orphans_nothing r x (o ∷ os) = ap₂ ◌∷◌ (orphan_nothing r x o) (orphans_nothing r x os)

pub put_nothing : (s : flat.State) (r x : ℕ) → put s r x [] ≡ s
put_nothing s r x = λ i. record s { processes = processes_nothing r x s.processes i; orphans = orphans_nothing r x s.orphans i }

-- the transfer is found without its payload
find_change : {X : Type 0} (p : X → Bool) (f : X → X) → ((x : X) → p (f x) ≡ p x) → (xs : List X) → find p (change p f xs) ≡ option_map f (find p xs)
find_change p f same [] = refl
find_change p f same (x ∷ xs) = elim (p x) as (λ b. p x ≡ b → find p (cond b (f x ∷ xs) (x ∷ change p f xs)) ≡ option_map f (cond b (Some x) (find p xs))) [
  | true ↦ λ e. ap (λ b. cond b (Some (f x)) (find p xs)) (same x ∙ e)
  | false ↦ λ e. ap (λ b. cond b (Some x) (find p (change p f xs))) e ∙ find_change p f same xs
] refl

pub pending_blank : (n : ℕ) (s : flat.State) → pending.pending (blanked n s) n ≡ option_map blank (pending.pending s n)
pending_blank n s = find_change (is_numbered n) blank (λ t. refl) s.transfers

finished_blank : (o : Option flat.Transfer) → is_finished (option_map blank o) ≡ is_finished o
finished_blank None = refl
finished_blank (Some t) = refl

-- and its end is accepted
pub accepts_blank : (n : ℕ) (s : flat.State) → refuse s (Finish n) ≡ None → refuse (blanked n s) (Finish n) ≡ None
accepts_blank n s h = ap (λ (b : Bool). first_cause ((not b, cause.State) ∷ [])) (ap is_finished (pending_blank n s) ∙ finished_blank (pending.pending s n)) ∙ h
