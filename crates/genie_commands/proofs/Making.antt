-- How a made run ends.
use Rattle.std.proofs.Common.{◌≡◌, ◌≢◌, ℕ, codes, refl, ap, ◌∙◌, subst, arith, inl, inr}
use Rattle.std.specs.Prelude.{Option, None, Some}
use Rattle.genie_gen.specs.GenView.{GenView, fresh, host_of}
use Rattle.genie_gen.specs.Lemmas.Faultless.{faultless}
use Rattle.genie_gen.specs.Rounds.{script_text}
use Rattle.genie_gen.specs.Scripts.{SaysMade, made_part}
use Rattle.genie_host.specs.Host.{HostView}
use Rattle.genie_kernel.specs.declared.kernel.Kernel.{Kernel}
use Rattle.genie_script.specs.Judge.{Boot, Booted}
use Rattle.genie_store.specs.StoreView.{StoreView}
use Rattle.genie_replay.specs.Statuses.{status_of}
use Rattle.genie_replay.specs.declared.status.Status.{Status}
use Rattle.genie_replay.specs.declared.status.Status.TheVariants.{Done, Usage, BadLine, HostFault, NoMemory, TooLong, BadBoot}
use Rattle.genie_playing.specs.declared.costs.Listing.TheVariants.{Replies}
use Rattle.genie_running.specs.Outcome.{HandsBack, HasRunCause, IsOutcome, OutcomeOf}
use Rattle.genie_commands.specs.Makes.{MakesOf, MadeRun}

module _ (seed rounds : ℕ) (g : GenView) (kernel : Option Kernel) (v w : StoreView) where
  abbrev RanSo : Status → Type 0
  RanSo status = OutcomeOf Replies (codes "made") (Some (script_text seed rounds)) status kernel (host_of (fresh seed rounds)) (host_of g) v w

  -- what the boot part comes to
  booted : (status : Status) (says : SaysMade seed rounds) → RanSo status
      → IsOutcome Replies (codes "made") (Booted made_part 4 says.lines) status kernel (host_of (fresh seed rounds)) (host_of g) v w
  booted status says ran = subst (λ (b : Boot). IsOutcome Replies (codes "made") b status kernel (host_of (fresh seed rounds)) (host_of g) v w) says.booted ran

  -- nothing fails on the host of a made run: the store wasn't sized
  unsized : HasRunCause (host_of (fresh seed rounds)) (host_of g) v w → w.count ≡ 0
  unsized (inl rose) = let risen = rw (faultless (fresh seed rounds) rose.0, faultless g rose.0) at rose.2 in omega (arith, risen)
  unsized (inr (inl rose)) = omega (arith, rose)
  unsized (inr (inr cause)) = cause.1

  -- so there is no kernel
  unbooted : (k : Option Kernel) (host : HostView) → HandsBack k host w → w.count ≡ 0 → k ≡ None
  unbooted None host back none = refl
  unbooted (Some k) host back none = let some = back.0 in absurd (omega (arith, some, none))

  made : (status : Status) → RanSo status → MadeRun seed rounds g.replies status kernel v w
  made status ran = record { after = host_of g; ran = ran; replied = refl }

  -- a made run that isn't done came to no event
  pub unmade : (old : HostView) (status : Status) → status ≢ Done → SaysMade seed rounds → HandsBack kernel (host_of g) w
      → (status ≡ HostFault → HasRunCause (host_of (fresh seed rounds)) (host_of g) v w) → RanSo status → MakesOf seed rounds status kernel old old v w
  unmade old Done apart says back fault ran = absurd (apart refl)
  unmade old NoMemory apart says back fault ran =
      record { text = g.replies; run = made NoMemory ran; none = (booted NoMemory says ran).1.none; same = refl }
  unmade old HostFault apart says back fault ran =
      inr (record { text = g.replies; run = made HostFault ran; none = unbooted kernel (host_of g) back (unsized (fault refl)); same = refl })
  unmade old Usage apart says back fault ran = absurd (apart ((booted Usage says ran).0 ∙ ap status_of says.ending))
  unmade old TooLong apart says back fault ran = absurd (apart ((booted TooLong says ran).0 ∙ ap status_of says.ending))
  unmade old (BadLine l) apart says back fault ran = absurd (apart ((booted (BadLine l) says ran).0 ∙ ap status_of says.ending))
  unmade old (BadBoot l) apart says back fault ran = absurd (apart ((booted (BadBoot l) says ran).0 ∙ ap status_of says.ending))
