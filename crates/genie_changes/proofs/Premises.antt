-- What the invariant gives.
use Rattle.std.proofs.Common.{◌≡◌, ℕ, ◌<◌, zero, suc, Bool, true, false, not, cond, List, [], ◌∷◌, refl, sym, ap, subst, arith, rules, ◌∙◌, ⊎_elim, inl, inr, length, get_or}
use Rattle.std.specs.Prelude.{Option, Some, None, unwrap_or, if◌then◌else◌}
use Rattle.genie_base.specs.Transfers.{class_of, is_strong}
use Rattle.genie_base.specs.declared.semantics.Class.{Class}
use Rattle.genie_base.specs.declared.semantics.Class.TheVariants.{Copy, Share, Move, WeakMove}
use Rattle.genie_base.specs.declared.semantics.Direction.{Direction}
use Rattle.genie_base.specs.declared.semantics.Direction.TheVariants as direction
use Rattle.genie_frame.specs.declared.frame.Owner.{Owner}
use Rattle.genie_frame.specs.declared.frame.Owner.TheVariants.{Free, Nobody}
use Rattle.genie_frame.specs.FrameTable.{IsShaped, counts_at, bytes_at, is_held}
use Rattle.genie_object.specs.declared.memory.Memory.{Memory}
use Rattle.genie_object.specs.Memory.{seen, is_kept}
use Rattle.genie_region.specs.declared.region.Region.{Region}
use Rattle.genie_model.specs.Pending.{is_just}
use Rattle.genie_model.specs.Lemmas.Lists.{Has, all_has, has_at, find_has, find_none}
use Rattle.genie_model.specs.Tables.{without, entry}
use Rattle.genie_kernel.specs.declared.kernel.Kernel.{Kernel}
use Rattle.genie_kernel.specs.declared.transfer.Loans.{Loans}
use Rattle.genie_kernel.specs.declared.transfer.Loans.TheVariants.{Nothing, Outward, Inward}
use Rattle.genie_kernel.specs.declared.transfer.Transfer.{Transfer}
use Rattle.genie_kernel.specs.Calls.{is_copy_input, is_strong_call, is_named, region_number, begins_at}
use Rattle.genie_kernel.specs.Good.{IsGood}
use Rattle.genie_kernel.specs.Held.{HoldsPages, IsInFrame, region_named, page_of_loan, weak_transfers}
use Rattle.genie_kernel.specs.Loans.{frames_of, first_of}
use Rattle.genie_kernel.specs.Orphans.{covers, is_owned}
use Rattle.genie_kernel.specs.Planned.{Lends, LendsOut, LendsIn, LendsInput, LendsRange, is_early_device}
use Rattle.genie_kernel.specs.Regions.{has_id, owned_regions}
use Rattle.genie_kernel.specs.Lemmas.Staying.{weak_held, weak_there}
use Rattle.genie_changes.specs.Premises.{ShowsPages}
use Rattle.genie_changes.specs.Orphans.{OrphansLie}
use Rattle.genie_changes.specs.Pages.{EachFrame}
use Rattle.genie_changes.specs.Places.{LiesInFrames}

pub weak_frames_held : (k : Kernel) → IsGood k → EachFrame (λ f. is_held (counts_at k.memory.frames f) ≡ true) (weak_transfers k.transfers)
weak_frames_held k g i d l j m =
    let t : Transfer = get_or (weak_transfers k.transfers) i d in
    let there = weak_there k.transfers t (has_at (weak_transfers k.transfers) i d l) in
    let weak : is_strong_call t ≡ false = (let w = there.1 in grind (arith, rules, w)) in
    weak_held k t j g there.0 weak m

within : (owners : List Owner) (f : ℕ) → get_or owners f Free ≡ Nobody → f < length owners
within [] f e = absurd (cc)
within (x ∷ owners) zero e = omega arith
within (x ∷ owners) (suc f) e = let l = within owners f e in omega (arith, l)

pub nobodys_show : (m : Memory) (slots : ℕ → List ℕ) → IsShaped m.frames.page m.frames.owners m.frames.counts m.frames.bytes → ShowsPages m.frames.page m (seen m slots).kept_bytes
nobodys_show m slots shaped f nobody =
    let there = within m.frames.owners f nobody in
    let filled = shaped.filled in
    ap (λ o. length (if is_kept o (counts_at m.frames f) then bytes_at m.frames f else [])) nobody ∙ shaped.paged f [] (omega (arith, there, filled))

-- a weak transfer keeps no address
keeps_none : (c : Class) (d : Direction) → is_strong c ≡ false → is_copy_input c d ≡ false
keeps_none Copy d e = absurd (cc)
keeps_none Share d e = refl
keeps_none Move d e = refl
keeps_none WeakMove d e = refl

pub begins_in : (t : Transfer) → is_strong_call t ≡ false → begins_at t ≡ t.offset
begins_in t weak = ap (λ (b : Bool). unwrap_or (if b then Some t.addr else None) t.offset) (keeps_none (class_of t.sem) t.dir weak)

abbrev pub LendsFrom : ℕ → ℕ → Transfer → Loans → Type 0
LendsFrom page at t loans = LendsRange page at t.len (frames_of loans) (first_of loans) t.len

out_range : (page : ℕ) (t : Transfer) (loans : Loans) → LendsOut page t loans → LendsFrom page (begins_at t) t loans
out_range page t Nothing h = absurd h
out_range page t (Outward p) h = record { pages = h.1.pages; begins = h.1.begins; length_kept = refl }
out_range page t (Inward p) h = absurd h

in_range : (page : ℕ) (t : Transfer) (loans : Loans) → LendsIn page t loans → LendsFrom page (begins_at t) t loans
in_range page t Nothing h = absurd h
in_range page t (Outward p) h = absurd h
in_range page t (Inward p) h = record { pages = h.pages; begins = h.begins; length_kept = refl }

pub weak_range : (page : ℕ) (owners : List Owner) (early : Bool) (t : Transfer) (d : Direction) → is_strong_call t ≡ false → Lends page owners early t d → LendsFrom page (begins_at t) t t.loans
weak_range page owners early t direction.Outward weak h = out_range page t t.loans h
weak_range page owners early t direction.Inward weak h = in_range page t t.loans (subst (LendsInput page owners early t) weak h)

pub weak_has : (t : Transfer) (ts : List Transfer) → is_strong_call t ≡ false → Has t ts → Has t (weak_transfers ts)
weak_has t [] weak h = absurd h
weak_has t (x ∷ ts) weak (inl same) =
    let is : is_strong_call x ≡ false = ap is_strong_call same ∙ weak in
    subst (λ (b : Bool). Has t (if not b then x ∷ weak_transfers ts else weak_transfers ts)) (sym is) (inl same)
weak_has t (x ∷ ts) weak (inr later) =
    let rest = weak_has t ts weak later in
    elim (is_strong_call x) as (λ b. Has t (if not b then x ∷ weak_transfers ts else weak_transfers ts)) [ true ↦ rest | false ↦ inr rest ]

just_is : (o : Option ℕ) (j : ℕ) → is_just o j ≡ true → o ≡ Some j
just_is None j e = absurd (cc)
just_is (Some n) j e = let is : n ≡ j = grind (arith, rules, e) in ap (λ m. Some m) is

pub named_region : (t : Transfer) (j : ℕ) → is_named t.region j ≡ true → region_number t ≡ Some j
named_region t j e = just_is (region_number t) j e

module _ (k : Kernel) (s : ℕ → List ℕ) (g : IsGood k) (shows : ShowsPages k.config.page k.memory s) where
  abbrev rs : List Region
  rs = owned_regions k.spaces.processes

  -- a weak transfer of what no process has
  lies : (t : Transfer) → Has t k.transfers → is_strong_call t ≡ false → region_named rs (region_number t) ≡ None → LiesInFrames k.config.page s g.held.frame_of t
  lies t there weak none =
      let lends : Lends k.config.page k.memory.frames.owners (is_early_device (entry k.devices t.dev)) t t.dir = all_has (λ (u : Transfer). Lends k.config.page k.memory.frames.owners (is_early_device (entry k.devices u.dev)) u u.dir) k.transfers g.planned t there in
      let holds : HoldsPages k.config.page k.memory rs g.held.page_in g.held.frame_of t = all_has (HoldsPages k.config.page k.memory rs g.held.page_in g.held.frame_of) (weak_transfers k.transfers) g.held.each t (weak_has t k.transfers weak there) in
      record {
        range = subst (λ n. LendsFrom k.config.page n t t.loans) (begins_in t weak) (weak_range k.config.page k.memory.frames.owners (is_early_device (entry k.devices t.dev)) t t.dir weak lends);
        frames = holds.frames;
        full = λ j l. shows (get_or (frames_of t.loans) j 0) (subst (λ o. IsInFrame k.memory o (page_of_loan k.config.page t j).index (get_or (frames_of t.loans) j 0)) none (holds.held j l));
      }

  some_lie : (us : List Transfer) → ((t : Transfer) → Has t us → Has t k.transfers) → OrphansLie k.config.page s g.held.frame_of rs us
  some_lie us among j x t orphan found =
      let is = find_has (covers j x) us t found in
      let passes : covers j x t ≡ true = is.1 in
      let weak : is_strong_call t ≡ false = grind (arith, rules, passes) in
      let named : is_named t.region j ≡ true = grind (arith, rules, passes) in
      let gone : is_owned rs j ≡ false = grind (arith, rules, orphan) in
      lies t (among t is.0) weak (ap (region_named rs) (named_region t j named) ∙ find_none (has_id j) rs gone)

  pub orphans_lie : OrphansLie k.config.page s g.held.frame_of rs k.transfers
  orphans_lie = some_lie k.transfers (λ t h. h)

left_has : {X : Type 0} (p : X → Bool) (x : X) (xs : List X) → Has x (without p xs) → Has x xs
left_has p x [] h = h
left_has p x (y ∷ ys) h = elim (p y) as (λ b. Has x (cond b ys (y ∷ without p ys)) → Has x (y ∷ ys)) [
  | true ↦ λ i. inr i
  | false ↦ λ i. ⊎_elim (λ (same : y ≡ x). inl same) (λ later. inr (left_has p x ys later)) i
] h

pub others_lie : (k : Kernel) (s : ℕ → List ℕ) (p : Transfer → Bool) (g : IsGood k) → ShowsPages k.config.page k.memory s → OrphansLie k.config.page s g.held.frame_of (owned_regions k.spaces.processes) (without p k.transfers)
others_lie k s p g shows = some_lie k s g shows (without p k.transfers) (λ t h. left_has p t k.transfers h)
