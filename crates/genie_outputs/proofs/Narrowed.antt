-- Loans, and entries that permit less besides.
use Rattle.std.proofs.Common.{◌≡◌, ◌≢◌, ℕ, ◌+◌, ◌/◌, Bool, true, false, List, [], ◌∷◌, refl, sym, ap, arith, ◌∙◌, ⊎_elim, length, get_or, eqb-true, eq-eqb}
use Rattle.std.specs.Prelude.{◌==◌, ◌&&◌, nat_le, nat_lt}
use Rattle.std.specs.Option.{option_map}
use Rattle.std.proofs.lemmas.Bool.{cases_Bool}
use Rattle.genie_base.specs.Counts.{span}
use Rattle.genie_hiding.specs.Hidden.{is_among}
use Rattle.genie_store.specs.StoreView.{StoreView}
use Rattle.genie_object.specs.declared.memory.Memory.{Memory}
use Rattle.genie_object.specs.declared.objects.Entry.{Entry}
use Rattle.genie_object.specs.declared.objects.Range.{Range}
use Rattle.genie_object.specs.Memory.{seen_with, entry_frame, frame_of}
use Rattle.genie_object.specs.Objects.{entry_at, object_at}
use Rattle.genie_object.specs.Touching.{KeepsLoans, Touches}
use Rattle.genie_object.specs.Lemmas.Touching.{keeps_on, touches_more, touches_on}
use Rattle.genie_plan.specs.Loans.{Loan, LoanKind}
use Rattle.genie_region.specs.declared.region.Region.{Region}
use Rattle.genie_model.specs.Lemmas.Lists.{Has, has_at}
use Rattle.genie_kernel.specs.declared.kernel.Kernel.{Kernel}
use Rattle.genie_kernel.specs.Backed.{AreGuarded}
use Rattle.genie_kernel.specs.Good.{IsGood}
use Rattle.genie_kernel.specs.Regions.{owned_regions}
use Rattle.genie_changes.specs.Guarding.{NarrowsAll, with_entries}
use Rattle.genie_changes.specs.Lemmas.Narrowed.{narrowed_keeps, narrowed_seen, narrowed_sound, narrowed_touches}
use Rattle.genie_changes.specs.Lemmas.Once.{same_object}
use Rattle.genie_tcow.specs.Lending.{HasLent, IsTakenBack}
use Rattle.genie_tcow.specs.Owning.{AreOwnFrames}
use Rattle.genie_tcow.specs.Ranges.{is_of_range}

module _ (old m : Memory) (os : List (List Entry)) (v w : StoreView) (spoken : ℕ → ℕ → Bool) (h : NarrowsAll m.objects os) where
  abbrev new : Memory
  new = with_entries m os

  frame_same : (o i : ℕ) → entry_frame new o i ≡ entry_frame m o i
  frame_same o i = ap (frame_of m.pages.pages) (h.narrows o i).page

  pub seen_same : seen_with new w ≡ seen_with m w
  seen_same j = option_map (λ slots. narrowed_seen m os h slots j) w.slots

  touches_new : Touches spoken old m → Touches spoken old new
  touches_new t = touches_on spoken old m new t (touches_more (λ o i. false) spoken m new (λ o i e. refl) (narrowed_touches m os h))

  pub own_narrowed : (o i : ℕ) (loans : List Loan) → AreOwnFrames old m o i loans → AreOwnFrames old new o i loans
  own_narrowed o i loans x k d l free = frame_same o (i + k) ∙ x k d l free

  pub lent_narrowed : (kind : LoanKind) (id : ℕ) (loans : List Loan) → HasLent kind id spoken loans old m v w → HasLent kind id spoken loans old new v w
  lent_narrowed kind id loans x = record {
    sound = narrowed_sound m os h x.sound;
    kinds = x.kinds;
    counts = x.counts;
    owned = x.owned;
    shows = seen_same ∙ x.shows;
    keeps = record {
      entry_held = λ o i f e held. frame_same o i ∙ x.keeps.entry_held o i f e held;
      held = x.keeps.held;
      lent = x.keeps.lent;
      systems = x.keeps.systems;
      taken = x.keeps.taken;
      entries = λ o. h.sizes o ∙ x.keeps.entries o;
      number = x.keeps.number;
      page = x.keeps.page;
      slots = x.keeps.slots;
      most = x.keeps.most;
    };
    touches = touches_new x.touches;
    landed = x.landed;
    free = x.free;
    added = x.added;
  }

  pub kept_narrowed : KeepsLoans old m → KeepsLoans old new
  kept_narrowed k = keeps_on old m new k (narrowed_keeps m os h)

  pub back_narrowed : IsTakenBack spoken old m v w → IsTakenBack spoken old new v w
  back_narrowed x = record {
    sound = narrowed_sound m os h x.sound;
    counts = x.counts;
    shows = seen_same ∙ x.shows;
    keeps = kept_narrowed x.keeps;
    touches = touches_new x.touches;
    landed = x.landed;
  }

-- a range's entries are those of its object
pub only_object : (page : ℕ) (range : Range) (o i : ℕ) → o ≢ range.object.0 → is_of_range page range o i ≡ false
only_object page range o i other = ⊎_elim
    (λ (same : (o == range.object.0) ≡ true). absurd (other (eqb-true o range.object.0 same)))
    (λ e. ap (λ b. b && nat_le (range.off / page) i && nat_lt i (range.off / page + span page range.off range.len)) e)
    (cases_Bool (o == range.object.0))

-- so they are none of a hidden region's
pub only_visible : (page : ℕ) (range : Range) (hidden : List ℕ) → is_among range.object.0 hidden ≡ false → (o i : ℕ) → is_among o hidden ≡ true → is_of_range page range o i ≡ false
only_visible page range hidden out o i among = only_object page range o i (λ same. let clash : true ≡ false = sym among ∙ ap (λ n. is_among n hidden) same ∙ out in cc)

gains_none : (a b : Bool) → (b ≡ true → a ≡ true) → a ≡ false → b ≡ false
gains_none a true f e = let t = f refl in cc
gains_none a false f e = refl

-- regions stay read-only, where the call speaks of one region's entries, and these permit no writing if it is read-only
pub guards_after : (k : Kernel) (m : Memory) (r : Region) (spoken : ℕ → ℕ → Bool) → IsGood k → Has r (owned_regions k.spaces.processes) → Touches spoken k.memory m → ((o i : ℕ) → o ≢ r.object.0 → spoken o i ≡ false) → (r.writable ≡ false → (i : ℕ) → (entry_at m.objects r.object.0 i).writable ≡ false) → AreGuarded m.objects (owned_regions k.spaces.processes)
guards_after k m r spoken g owned touches only shut j d l closed i =
    let rs : List Region = owned_regions k.spaces.processes in
    let q : Region = get_or rs j d in
    ⊎_elim
    (λ (same : (q.object.0 == r.object.0) ≡ true).
    let one : q ≡ r = same_object k q r g (has_at rs j d l) owned (eqb-true q.object.0 r.object.0 same) in
    let here = shut (sym (ap (λ (z : Region). z.writable) one) ∙ closed) i in
    ap (λ (z : Region). (entry_at m.objects z.object.0 i).writable) one ∙ here)
    (λ (other : (q.object.0 == r.object.0) ≡ false).
    let apart : q.object.0 ≢ r.object.0 = λ same. let clash : false ≡ true = sym other ∙ eq-eqb q.object.0 r.object.0 same in cc in
    gains_none (entry_at k.memory.objects q.object.0 i).writable (entry_at m.objects q.object.0 i).writable (touches.entries q.object.0 i (only q.object.0 i apart)).writable (g.guarded j d l closed i))
    (cases_Bool (q.object.0 == r.object.0))

-- an object with entries is there, and stays so
pub there_still : (old new : List (List Entry)) (o : ℕ) → ((a : ℕ) → length (object_at new a) ≡ length (object_at old a)) → object_at old o ≢ [] → object_at new o ≢ []
there_still old new o sizes there gone = there (none_empty (object_at old o) (sym (sizes o) ∙ ap length gone))
  where
    none_empty : (xs : List Entry) → length xs ≡ 0 → xs ≡ []
    none_empty [] e = refl
    none_empty (x ∷ xs) e = absurd (omega (arith, e))
