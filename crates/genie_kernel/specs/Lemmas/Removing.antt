-- A transfer less.
use Rattle.std.proofs.Common.{◌≡◌, ℕ, ◌<◌, zero, suc, Bool, true, false, not, cond, List, [], ◌∷◌, refl, sym, ap, subst, arith, rules, ◌∙◌, map, get_or}
use Rattle.std.specs.Prelude.{Some, All, AllPairs, find, filter, flat_map, ◌==◌, ◌&&◌}
use Rattle.std.specs.List.{list_any}
use Rattle.genie_demux.specs.declared.input.Input.{Input}
use Rattle.genie_demux.specs.Posted as demux
use Rattle.genie_model.specs.Pending.{is_queued, is_moving, is_numbered}
use Rattle.genie_model.specs.Ending.{without_transfer}
use Rattle.genie_model.specs.Space.{cut, is_named, tidy}
use Rattle.genie_model.specs.Tables.{without}
use Rattle.genie_kernel.specs.declared.kernel.Kernel.{Kernel}
use Rattle.genie_kernel.specs.declared.transfer.Transfer.{Transfer}
use Rattle.genie_kernel.specs.Calls.{has_number, is_strong_call, is_named as names, names_weakly, waits_for, receives_from, first_waiting, receiver}
use Rattle.genie_kernel.specs.Devices.{devices_view}
use Rattle.genie_kernel.specs.Matching.{posted_as, is_posted_call}
use Rattle.genie_kernel.specs.Orphans.{covers, is_owned, byte_under, orphans_view, all_places, all_numbers}
use Rattle.genie_kernel.specs.Regions.{owned_regions}
use Rattle.genie_kernel.specs.Transfers.{transfer_view, transfers_view}
use Rattle.genie_kernel.specs.View.{Bytes, state_of}
use Rattle.genie_kernel.specs.Lemmas.Tidying.{tidy_orphans}
use Rattle.genie_kernel.specs.Lemmas.Beside.{find_beside, any_beside, map_without}

-- a strong transfer that no device works on
pub record IsAside (t : Transfer) : Type 0 where
  pub unqueued : is_queued t.phase ≡ false
  pub unmoved : is_moving t.phase ≡ false
  pub strong : is_strong_call t ≡ true

names_none : (t : Transfer) → IsAside t → (j : ℕ) → names_weakly j t ≡ false
names_none t a j = ap (λ b. not b && names t.region j) a.strong

covers_none : (t : Transfer) → IsAside t → (j x : ℕ) → covers j x t ≡ false
covers_none t a j x = grind (arith, rules, names_none t a j)

module _ (k : Kernel) (b : Bytes) (n : ℕ) (t : Transfer) (found : find (has_number n) k.transfers ≡ Some t) (aside : IsAside t) where
  abbrev left : List Transfer
  left = without (has_number n) k.transfers

  waiting_left : (d : ℕ) → first_waiting left d ≡ first_waiting k.transfers d
  waiting_left d = find_beside (has_number n) t (waits_for d) k.transfers found (ap (λ c. c && (t.dev == d)) aside.unqueued)

  receiver_left : (d : ℕ) → receiver left d ≡ receiver k.transfers d
  receiver_left d = find_beside (has_number n) t (receives_from d) k.transfers found (ap (λ c. c && (t.dev == d)) aside.unmoved)

  transfers_left : transfers_view b.seen.kept_bytes k.devices k.pools left ≡ without (is_numbered n) (transfers_view b.seen.kept_bytes k.devices k.pools k.transfers)
  transfers_left = (λ i. map (transfer_view b.seen.kept_bytes k.devices k.pools (λ d. waiting_left d i)) left) ∙ map_without (has_number n) (is_numbered n) (transfer_view b.seen.kept_bytes k.devices k.pools (first_waiting k.transfers)) (λ x. refl) k.transfers

  named_left : (j : ℕ) → list_any (names_weakly j) left ≡ list_any (names_weakly j) k.transfers
  named_left j = any_beside (has_number n) t (names_weakly j) k.transfers found (names_none t aside j)

  covered_left : (j x : ℕ) → find (covers j x) left ≡ find (covers j x) k.transfers
  covered_left j x = find_beside (has_number n) t (covers j x) k.transfers found (covers_none t aside j x)

  orphans_left : orphans_view k.config.page b.seen.kept_bytes (owned_regions k.spaces.processes) left ≡ orphans_view k.config.page b.seen.kept_bytes (owned_regions k.spaces.processes) k.transfers
  orphans_left = λ i. map (λ j. record { number = j; bytes = flat_map (λ x. byte_under b.seen.kept_bytes x (covered_left j x i)) (all_places k.config.page) }) (filter (λ j. named_left j i && not (is_owned (owned_regions k.spaces.processes) j)) all_numbers)

  pub removed_state : (posted : List Input) → state_of (record k { transfers = without (has_number n) k.transfers; posted = posted }) b ≡ tidy (without_transfer (state_of k b) n)
  removed_state posted =
      let orphans = sym (tidy_orphans k.config.page b.seen.kept_bytes k.devices k.pools (owned_regions k.spaces.processes) left) ∙ (λ i. map (cut (transfers_left i)) (filter (is_named (transfers_left i)) (orphans_left i))) in
      λ i. record (state_of k b) {
        orphans = orphans i;
        transfers = transfers_left i;
        devices = devices_view b.seen.kept_bytes 0 b.rests b.sents k.pools (λ d. receiver_left d i) k.devices;
      }

-- the posted inputs without one
later_kept : (n : ℕ) (ts : List Transfer) → All (λ (x : Transfer). n < x.id.0) ts → filter (λ p. not (demux.has_id n p)) (map posted_as (filter is_posted_call ts)) ≡ map posted_as (filter is_posted_call ts)
later_kept n [] a = refl
later_kept n (x ∷ ts) a =
    let rest = later_kept n ts (λ k d l. a (suc k) d (omega arith)) in
    let above : n < x.id.0 = a zero x (omega arith) in
    let other : not (x.id.0 == n) ≡ true = grind (arith, rules, above) in
    elim (is_posted_call x) as (λ c. filter (λ p. not (demux.has_id n p)) (map posted_as (cond c (x ∷ filter is_posted_call ts) (filter is_posted_call ts))) ≡ map posted_as (cond c (x ∷ filter is_posted_call ts) (filter is_posted_call ts))) [
      | true ↦ rw other (ap (λ l. posted_as x ∷ l) rest)
      | false ↦ rest
    ]

pub posted_left : (n : ℕ) (ts : List Transfer) → AllPairs (λ (x y : Transfer). x.id.0 < y.id.0) ts → filter (λ p. not (demux.has_id n p)) (map posted_as (filter is_posted_call ts)) ≡ map posted_as (filter is_posted_call (without (has_number n) ts))
posted_left n [] a = refl
posted_left n (x ∷ ts) a =
    let ip : Transfer → Bool = is_posted_call in
    let rest = posted_left n ts (λ i j d l m. a (suc i) (suc j) d (omega arith) (omega arith)) in
    elim (x.id.0 == n) as (λ c. (x.id.0 == n) ≡ c → filter (λ p. not (demux.has_id n p)) (map posted_as (cond (ip x) (x ∷ filter ip ts) (filter ip ts))) ≡ map posted_as (filter ip (cond c ts (x ∷ without (has_number n) ts)))) [
      | true ↦ λ e.
          let is : x.id.0 ≡ n = grind (arith, rules, e) in
          let later = later_kept n ts (λ k d l. subst (λ m. m < (get_or ts k d).id.0) is (a zero (suc k) d (omega arith) (omega arith))) in
          elim (ip x) as (λ c. filter (λ p. not (demux.has_id n p)) (map posted_as (cond c (x ∷ filter ip ts) (filter ip ts))) ≡ map posted_as (filter ip ts)) [
            | true ↦ rw e later
            | false ↦ later
          ]
      | false ↦ λ e.
          elim (ip x) as (λ c. filter (λ p. not (demux.has_id n p)) (map posted_as (cond c (x ∷ filter ip ts) (filter ip ts))) ≡ map posted_as (cond c (x ∷ filter ip (without (has_number n) ts)) (filter ip (without (has_number n) ts)))) [
            | true ↦ rw e (ap (λ l. posted_as x ∷ l) rest)
            | false ↦ rest
          ]
    ] refl
