-- The state once a transfer has ended, of a settled kernel.
use Rattle.std.proofs.Common.{◌≡◌, ℕ, true, false, List, arith, rules, ap, subst, ◌∙◌, get_or}
use Rattle.std.specs.Prelude.{Some, None, find}
use Rattle.genie_demux.specs.declared.input.Input.{Input}
use Rattle.genie_object.specs.declared.memory.Memory.{Memory}
use Rattle.genie_region.specs.declared.region.Region.{Region}
use Rattle.genie_model.specs.Ending.{without_transfer}
use Rattle.genie_model.specs.Lemmas.Lists.{Has, all_has, find_has, find_none}
use Rattle.genie_model.specs.Pending.{is_queued, is_moving}
use Rattle.genie_model.specs.Space.{tidy}
use Rattle.genie_model.specs.Tables.{without, entry}
use Rattle.genie_kernel.specs.declared.kernel.Kernel.{Kernel}
use Rattle.genie_kernel.specs.declared.transfer.Transfer.{Transfer}
use Rattle.genie_kernel.specs.Calls.{has_number, is_named, is_strong_call, region_number}
use Rattle.genie_kernel.specs.Held.{HoldsPages, IsInFrame, region_named, page_of_loan, weak_transfers}
use Rattle.genie_kernel.specs.Loans.{frames_of}
use Rattle.genie_kernel.specs.Orphans.{covers, is_owned}
use Rattle.genie_kernel.specs.Planned.{Lends, is_early_device}
use Rattle.genie_kernel.specs.Regions.{has_id, owned_regions}
use Rattle.genie_kernel.specs.View.{Bytes, state_of}
use Rattle.genie_changes.specs.Ending.{ShowsOthers, without_call}
use Rattle.genie_changes.specs.Orphans.{OrphansLie}
use Rattle.genie_changes.specs.Places.{LiesInFrames}
use Rattle.genie_changes.specs.Premises.{ShowsPages}
use Rattle.genie_changes.specs.Settled.{IsSettled}
use Rattle.genie_changes.proofs.Ended.{left_state}
use Rattle.genie_changes.proofs.GivenBack.{has_less}
use Rattle.genie_changes.proofs.Premises.{LendsFrom, begins_in, named_region, weak_has, weak_range}

module _ (k : Kernel) (s : ℕ → List ℕ) (g : IsSettled k) (shows : ShowsPages k.config.page k.memory s) where
  abbrev rs : List Region
  rs = owned_regions k.spaces.processes

  abbrev LendsIt : Transfer → Type 0
  LendsIt u = Lends k.config.page k.memory.frames.owners (is_early_device (entry k.devices u.dev)) u u.dir

  -- a weak transfer of what no process has
  lies : (t : Transfer) → Has t k.transfers → is_strong_call t ≡ false → region_named rs (region_number t) ≡ None → LiesInFrames k.config.page s g.held.frame_of t
  lies t there weak none =
      let holds = all_has (HoldsPages k.config.page k.memory rs g.held.page_in g.held.frame_of) (weak_transfers k.transfers) g.held.each t (weak_has t k.transfers weak there) in
      record {
        range = subst (λ n. LendsFrom k.config.page n t t.loans) (begins_in t weak) (weak_range k.config.page k.memory.frames.owners (is_early_device (entry k.devices t.dev)) t t.dir weak (all_has LendsIt k.transfers g.planned t there));
        frames = holds.frames;
        full = λ j l. shows (get_or (frames_of t.loans) j 0) (subst (λ o. IsInFrame k.memory o (page_of_loan k.config.page t j).index (get_or (frames_of t.loans) j 0)) none (holds.held j l));
      }

  some_lie : (us : List Transfer) → ((t : Transfer) → Has t us → Has t k.transfers) → OrphansLie k.config.page s g.held.frame_of rs us
  some_lie us among j x t orphan found =
      let is = find_has (covers j x) us t found in
      let passes : covers j x t ≡ true = is.1 in
      let weak : is_strong_call t ≡ false = grind (arith, rules, passes) in
      let named : is_named t.region j ≡ true = grind (arith, rules, passes) in
      let gone : is_owned rs j ≡ false = grind (arith, rules, orphan) in
      lies t (among t is.0) weak (ap (region_named rs) (named_region t j named) ∙ find_none (has_id j) rs gone)

pub settled_leaves : (k : Kernel) (m : Memory) (n : ℕ) (t : Transfer) (posted : List Input) (old new : Bytes) → IsSettled k → find (has_number n) k.transfers ≡ Some t → is_queued t.phase ≡ false → is_moving t.phase ≡ false → ShowsOthers k n old new
    → state_of (without_call k m n posted) new ≡ tidy (without_transfer (state_of k old) n)
settled_leaves k m n t posted old new g found unqueued unmoved shows = left_state k m n t posted old new g.held.frame_of g.has_bytes found unqueued unmoved shows.entries shows.rests shows.sents shows.frames
    (some_lie k old.seen.kept_bytes g shows.pages k.transfers (λ u h. h))
    (some_lie k old.seen.kept_bytes g shows.pages (without (has_number n) k.transfers) (λ u h. has_less (has_number n) u k.transfers h))
