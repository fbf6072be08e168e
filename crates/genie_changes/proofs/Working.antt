-- One transfer at another point of its work: the view, and what is lent for it.
use Rattle.std.proofs.Common.{◌≡◌, ℕ, ◌+◌, zero, suc, Bool, true, false, not, cond, List, [], ◌∷◌, refl, sym, ap, subst, arith, ◌∙◌, map, filter}
use Rattle.std.specs.Prelude.{Option, Some, All, find, flat_map, sum_by, ◌&&◌, ◌||◌, ◌==◌}
use Rattle.std.specs.List.{list_any}
use Rattle.std.proofs.lemmas.List.Sums.{sum_by-cons}
use Rattle.genie_base.specs.declared.semantics.Direction.{Direction}
use Rattle.genie_base.specs.declared.semantics.Direction.TheVariants as direction
use Rattle.genie_device.specs.Device.{DeviceView}
use Rattle.genie_frame.specs.declared.frame.Counts.{Counts}
use Rattle.genie_frame.specs.declared.frame.Owner.{Owner}
use Rattle.genie_input.specs.Pools.{PoolState}
use Rattle.genie_object.specs.declared.memory.Memory.{Memory}
use Rattle.genie_plan.specs.Loans as kind
use Rattle.genie_region.specs.declared.region.Region.{Region}
use Rattle.genie_model.specs.Pending.{is_queued, is_moving, is_numbered}
use Rattle.genie_model.specs.State as flat
use Rattle.genie_model.specs.Tables.{change, entry}
use Rattle.genie_kernel.specs.declared.transfer.Loans.{Loans}
use Rattle.genie_kernel.specs.declared.transfer.Loans.TheVariants.{Nothing, Outward, Inward}
use Rattle.genie_kernel.specs.declared.transfer.Transfer.{Transfer}
use Rattle.genie_kernel.specs.Calls.{has_number, number_of, names_weakly, is_strong_call, first_waiting, receiver, waits_for, receives_from}
use Rattle.genie_kernel.specs.Counted.{AreCounted, loans_on, wires_on, pool_on}
use Rattle.genie_kernel.specs.Held.{AreHeldPages, HoldsPages}
use Rattle.genie_kernel.specs.Loans.{has_frame}
use Rattle.genie_kernel.specs.Orphans.{covers, byte_under, is_owned, orphan_byte, orphans_view, all_places, all_numbers}
use Rattle.genie_kernel.specs.Owners.{AreOwned, holders}
use Rattle.genie_kernel.specs.Planned.{ArePlanned, FitDevices, FitsDevice, Lends, LendsOut, LendsIn, LendsInput, is_early_device}
use Rattle.genie_kernel.specs.Transfers.{transfer_view, transfers_view}
use Rattle.genie_kernel.specs.Lemmas.Turning.{views_changed, find_changed}
use Rattle.genie_changes.specs.Working.{Work, at_work, worked}

-- what the change keeps of each element
module _ {X : Type 0} (p : X → Bool) (g : X → X) where
  pub sum_kept : (f : X → ℕ) → ((x : X) → f (g x) ≡ f x) → (xs : List X) → sum_by f (change p g xs) ≡ sum_by f xs
  sum_kept f same [] = refl
  sum_kept f same (x ∷ xs) =
      let rest = sum_kept f same xs in
      let here = same x in
      elim (p x) as (λ b. sum_by f (cond b (g x ∷ xs) (x ∷ change p g xs)) ≡ sum_by f (x ∷ xs)) [
        | true ↦ omega (arith, sum_by-cons f x xs, sum_by-cons f (g x) xs, here)
        | false ↦ omega (arith, sum_by-cons f x xs, sum_by-cons f x (change p g xs), rest)
      ]

  pub any_kept : (q : X → Bool) → ((x : X) → q (g x) ≡ q x) → (xs : List X) → list_any q (change p g xs) ≡ list_any q xs
  any_kept q same [] = refl
  any_kept q same (x ∷ xs) = elim (p x) as (λ b. list_any q (cond b (g x ∷ xs) (x ∷ change p g xs)) ≡ (q x || list_any q xs)) [
    | true ↦ ap (λ b. b || list_any q xs) (same x)
    | false ↦ ap (λ b. q x || b) (any_kept q same xs)
  ]

  all_first : (P : X → Type 0) (x y : X) (xs ys : List X) → All P (x ∷ xs) → (P x → P y) → (All P xs → All P ys) → All P (y ∷ ys)
  all_first P x y xs ys a f h zero d l = f (a zero d (omega arith))
  all_first P x y xs ys a f h (suc k) d l = h (λ i e n. a (suc i) e (omega (arith, n))) k d (omega (arith, l))

  pub all_kept : (P : X → Type 0) → ((x : X) → P x → P (g x)) → (xs : List X) → All P xs → All P (change p g xs)
  all_kept P keeps [] a = a
  all_kept P keeps (x ∷ xs) a = elim (p x) as (λ b. All P (cond b (g x ∷ xs) (x ∷ change p g xs))) [
    | true ↦ all_first P x (g x) xs xs a (keeps x) (λ h. h)
    | false ↦ all_first P x x xs (change p g xs) a (λ h. h) (all_kept P keeps xs)
  ]

  some_first : (P : X → Type 0) (b : Bool) (x y : X) (xs ys : List X) → All P (cond b (x ∷ xs) xs) → (P x → P y) → (All P xs → All P ys) → All P (cond b (y ∷ ys) ys)
  some_first P true x y xs ys a f h = all_first P x y xs ys a f h
  some_first P false x y xs ys a f h = h a

  pub some_kept : (P : X → Type 0) (q : X → Bool) → ((x : X) → q (g x) ≡ q x) → ((x : X) → P x → P (g x)) → (xs : List X) → All P (filter q xs) → All P (filter q (change p g xs))
  some_kept P q same keeps [] a = a
  some_kept P q same keeps (x ∷ xs) a = elim (p x) as (λ b. All P (filter q (cond b (g x ∷ xs) (x ∷ change p g xs)))) [
    | true ↦ subst (λ c. All P (cond c (g x ∷ filter q xs) (filter q xs))) (sym (same x)) (some_first P (q x) x (g x) (filter q xs) (filter q xs) a (keeps x) (λ h. h))
    | false ↦ some_first P (q x) x x (filter q xs) (filter q (change p g xs)) a (λ h. h) (some_kept P q same keeps xs)
  ]

  pub listed_kept : {Y : Type 0} (f : X → Y) (q : X → Bool) → ((x : X) → q (g x) ≡ q x) → ((x : X) → f (g x) ≡ f x) → (xs : List X) → map f (filter q (change p g xs)) ≡ map f (filter q xs)
  listed_kept f q passes same [] = refl
  listed_kept f q passes same (x ∷ xs) = elim (p x) as (λ b. map f (filter q (cond b (g x ∷ xs) (x ∷ change p g xs))) ≡ map f (cond (q x) (x ∷ filter q xs) (filter q xs))) [
    | true ↦ ap (λ c. map f (cond c (g x ∷ filter q xs) (filter q xs))) (passes x) ∙ (elim (q x) as (λ c. map f (cond c (g x ∷ filter q xs) (filter q xs)) ≡ map f (cond c (x ∷ filter q xs) (filter q xs))) [ true ↦ ap (λ y. y ∷ map f (filter q xs)) (same x) | false ↦ refl ])
    | false ↦ (elim (q x) as (λ c. map f (cond c (x ∷ filter q (change p g xs)) (filter q (change p g xs))) ≡ map f (cond c (x ∷ filter q xs) (filter q xs))) [ true ↦ ap (λ l. f x ∷ l) (listed_kept f q passes same xs) | false ↦ listed_kept f q passes same xs ])
  ]

module _ (p : Transfer → Bool) (w : Work) where
  byte_worked : (s : ℕ → List ℕ) (k x : ℕ) (ts : List Transfer) → orphan_byte s (worked p w ts) k x ≡ orphan_byte s ts k x
  byte_worked s k x [] = refl
  byte_worked s k x (t ∷ ts) = elim (p t) as (λ b. byte_under s x (find (covers k x) (cond b (at_work w t ∷ ts) (t ∷ worked p w ts))) ≡ byte_under s x (cond (covers k x t) (Some t) (find (covers k x) ts))) [
    | true ↦ (elim (covers k x t) as (λ c. byte_under s x (cond c (Some (at_work w t)) (find (covers k x) ts)) ≡ byte_under s x (cond c (Some t) (find (covers k x) ts))) [ true ↦ refl | false ↦ refl ])
    | false ↦ (elim (covers k x t) as (λ c. byte_under s x (cond c (Some t) (find (covers k x) (worked p w ts))) ≡ byte_under s x (cond c (Some t) (find (covers k x) ts))) [ true ↦ refl | false ↦ byte_worked s k x ts ])
  ]

  pub counted_worked : (ts : List Transfer) (counts : List Counts) (pools : List (Option PoolState)) → AreCounted counts ts pools → AreCounted counts (worked p w ts) pools
  counted_worked ts counts pools h f = h f ∙ sym (λ i. record {
    strong = sum_kept p (at_work w) (loans_on kind.Strong f) (λ t. refl) ts i;
    weak = sum_kept p (at_work w) (loans_on kind.Weak f) (λ t. refl) ts i;
    input = sum_kept p (at_work w) (loans_on kind.Input f) (λ t. refl) ts i + sum_by (pool_on f) pools;
    wires = sum_kept p (at_work w) (wires_on f) (λ t. refl) ts i;
  })

  holders_worked : (ts : List Transfer) (f : ℕ) → holders (worked p w ts) f ≡ holders ts f
  holders_worked ts f = listed_kept p (at_work w) number_of (has_frame f) (λ t. refl) (λ t. refl) ts

  pub owned_worked : (ts : List Transfer) (owners : List Owner) (pools : List (Option PoolState)) → AreOwned owners ts pools → AreOwned owners (worked p w ts) pools
  owned_worked ts owners pools h = record {
    system = λ f k e. holders_worked ts f ∙ h.system f k e;
    pooled = h.pooled;
    spare = λ f d e. holders_worked ts f ∙ h.spare f d e;
    pool_frames = h.pool_frames;
  }

  pub held_worked : (ts : List Transfer) (page : ℕ) (m : Memory) (regions : List Region) → AreHeldPages page m regions ts → AreHeldPages page m regions (worked p w ts)
  held_worked ts page m regions h = record {
    page_in = h.page_in;
    frame_of = h.frame_of;
    each = some_kept p (at_work w) (HoldsPages page m regions h.page_in h.frame_of) (λ t. not (is_strong_call t)) (λ t. refl) (λ t was. record { pages = was.pages; frames = was.frames; held = was.held }) ts h.each;
  }

  out_worked : (page : ℕ) (t : Transfer) (loans : Loans) → LendsOut page t loans → LendsOut page (at_work w t) loans
  out_worked page t Nothing h = h
  out_worked page t (Outward q) h = h
  out_worked page t (Inward q) h = h

  in_worked : (page : ℕ) (t : Transfer) (loans : Loans) → LendsIn page t loans → LendsIn page (at_work w t) loans
  in_worked page t Nothing h = h
  in_worked page t (Outward q) h = h
  in_worked page t (Inward q) h = h

  input_worked : (page : ℕ) (owners : List Owner) (early : Bool) (t : Transfer) (strong : Bool) → LendsInput page owners early t strong → LendsInput page owners early (at_work w t) strong
  input_worked page owners true t true h = (in_worked page t t.loans h.0, h.1)
  input_worked page owners false t true h = h
  input_worked page owners early t false h = in_worked page t t.loans h

  lends_worked : (page : ℕ) (owners : List Owner) (early : Bool) (t : Transfer) (d : Direction) → Lends page owners early t d → Lends page owners early (at_work w t) d
  lends_worked page owners early t direction.Outward h = out_worked page t t.loans h
  lends_worked page owners early t direction.Inward h = input_worked page owners early t (is_strong_call t) h

  pub planned_worked : (ts : List Transfer) (page : ℕ) (owners : List Owner) (devices : List (Option DeviceView)) → ArePlanned page owners devices ts → ArePlanned page owners devices (worked p w ts)
  planned_worked ts page owners devices h = all_kept p (at_work w) (λ (t : Transfer). Lends page owners (is_early_device (entry devices t.dev)) t t.dir) (λ t was. lends_worked page owners (is_early_device (entry devices t.dev)) t t.dir was) ts h

  pub fitting_worked : (ts : List Transfer) (devices : List (Option DeviceView)) → FitDevices devices ts → FitDevices devices (worked p w ts)
  fitting_worked ts devices h = all_kept p (at_work w) (λ (t : Transfer). FitsDevice t.len (entry devices t.dev)) (λ t was. was) ts h

pub orphans_worked : (page : ℕ) (s : ℕ → List ℕ) (regions : List Region) (p : Transfer → Bool) (w : Work) (ts : List Transfer) → orphans_view page s regions (worked p w ts) ≡ orphans_view page s regions ts
orphans_worked page s regions p w ts = λ i. map (λ k. record { number = k; bytes = flat_map (λ x. byte_worked p w s k x ts i) (all_places page) }) (filter (λ k. any_kept p (at_work w) (names_weakly k) (λ t. refl) ts i && not (is_owned regions k)) all_numbers)

pub first_worked : (p : Transfer → Bool) (w : Work) (t : Transfer) (ts : List Transfer) (d : ℕ) → find p ts ≡ Some t → is_queued t.phase ≡ false → is_queued w.phase ≡ false → first_waiting (worked p w ts) d ≡ first_waiting ts d
first_worked p w t ts d found was is = find_changed p (at_work w) t (waits_for d) (ap (λ b. b && (t.dev == d)) was) (ap (λ b. b && (t.dev == d)) is) ts found

pub receiver_worked : (p : Transfer → Bool) (w : Work) (t : Transfer) (ts : List Transfer) (d : ℕ) → find p ts ≡ Some t → is_moving t.phase ≡ false → is_moving w.phase ≡ false → receiver (worked p w ts) d ≡ receiver ts d
receiver_worked p w t ts d found was is = find_changed p (at_work w) t (receives_from d) (ap (λ b. b && (t.dev == d)) was) (ap (λ b. b && (t.dev == d)) is) ts found

pub transfers_worked : (s : ℕ → List ℕ) (devices : List (Option DeviceView)) (pools : List (Option PoolState)) (n : ℕ) (w : Work) (t : Transfer) (f : flat.Transfer → flat.Transfer) (ts : List Transfer) → find (has_number n) ts ≡ Some t → is_queued t.phase ≡ false → is_queued w.phase ≡ false
    → transfer_view s devices pools (first_waiting ts) (at_work w t) ≡ f (transfer_view s devices pools (first_waiting ts) t)
    → transfers_view s devices pools (worked (has_number n) w ts) ≡ change (is_numbered n) f (transfers_view s devices pools ts)
transfers_worked s devices pools n w t f ts found was is here =
    (λ i. map (transfer_view s devices pools (λ d. first_worked (has_number n) w t ts d found was is i)) (worked (has_number n) w ts))
    ∙ views_changed (has_number n) (at_work w) t (is_numbered n) (transfer_view s devices pools (first_waiting ts)) (transfer_view s devices pools (first_waiting ts)) f (λ x. refl) here ts found (λ x h. refl)
