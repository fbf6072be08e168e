-- One transfer, changed in what isn't asked of it.
use Rattle.std.proofs.Common.{◌≡◌, ℕ, ◌+◌, zero, suc, Bool, true, false, not, List, [], ◌∷◌, refl, sym, ap, arith, ◌∙◌, map}
use Rattle.std.specs.Prelude.{Option, All, filter, sum_by, if◌then◌else◌}
use Rattle.std.proofs.lemmas.List.Sums.{sum_by-cons}
use Rattle.genie_base.specs.declared.reply.Note.{Note}
use Rattle.genie_base.specs.declared.semantics.Direction.{Direction}
use Rattle.genie_base.specs.declared.semantics.Direction.TheVariants as direction
use Rattle.genie_frame.specs.declared.frame.Owner.{Owner}
use Rattle.genie_plan.specs.Loans as kind
use Rattle.genie_model.specs.declared.phase.Phase.{Phase}
use Rattle.genie_model.specs.Tables.{entry, change}
use Rattle.genie_kernel.specs.declared.kernel.Kernel.{Kernel}
use Rattle.genie_kernel.specs.declared.transfer.Change.TheVariants.{Progress}
use Rattle.genie_kernel.specs.declared.transfer.Transfer.{Transfer}
use Rattle.genie_kernel.specs.Calls.{has_number, is_strong_call, number_of}
use Rattle.genie_kernel.specs.Changes.{changed_by}
use Rattle.genie_kernel.specs.Counted.{loans_on, wires_on, pool_on}
use Rattle.genie_kernel.specs.Good.{IsGood}
use Rattle.genie_kernel.specs.Held.{HoldsPages, PageOf}
use Rattle.genie_kernel.specs.Laws.{KeepsLending}
use Rattle.genie_kernel.specs.Loans.{has_frame}
use Rattle.genie_kernel.specs.Planned.{Lends, LendsInput, FitsDevice, is_early_device}
use Rattle.genie_kernel.specs.Regions.{owned_regions}

module _ {X : Type 0} (p : X → Bool) (g : X → X) where
  all_first : (P : X → Type 0) (x : X) (xs : List X) → P x → All P xs → All P (x ∷ xs)
  all_first P x xs h a zero d l = h
  all_first P x xs h a (suc k) d l = a k d (omega (arith, l))

  all_rest : (P : X → Type 0) (x : X) (xs : List X) → All P (x ∷ xs) → All P xs
  all_rest P x xs a = λ k d l. a (suc k) d (omega arith)

  -- what is so of each stays so
  pub all_changed : (P : X → Type 0) → ((x : X) → P x → P (g x)) → (xs : List X) → All P xs → All P (change p g xs)
  all_changed P h [] a = a
  all_changed P h (x ∷ xs) a = elim (p x) as (λ b. All P (if b then g x ∷ xs else x ∷ change p g xs)) [
    | true ↦ all_first P (g x) xs (h x (a 0 x (omega arith))) (all_rest P x xs a)
    | false ↦ all_first P x (change p g xs) (a 0 x (omega arith)) (all_changed P h xs (all_rest P x xs a))
  ]

  -- so is what is so of those that pass a test
  pub some_all_changed : (q : X → Bool) (P : X → Type 0) → ((x : X) → q (g x) ≡ q x) → ((x : X) → P x → P (g x)) → (xs : List X) → All P (filter q xs) → All P (filter q (change p g xs))
  some_all_changed q P same h [] a = a
  some_all_changed q P same h (x ∷ xs) a = elim (p x) as (λ b. All P (filter q (if b then g x ∷ xs else x ∷ change p g xs))) [
    | true ↦ elim (q x) as (λ b. q (g x) ≡ b → All P (if b then x ∷ filter q xs else filter q xs) → All P (filter q (g x ∷ xs))) [
      | true ↦ λ e f. rw e (all_first P (g x) (filter q xs) (h x (f 0 x (omega arith))) (all_rest P x (filter q xs) f))
      | false ↦ λ e f. rw e f
    ] (same x) a
    | false ↦ elim (q x) as (λ b. All P (if b then x ∷ filter q xs else filter q xs) → All P (if b then x ∷ filter q (change p g xs) else filter q (change p g xs))) [
      | true ↦ λ f. all_first P x (filter q (change p g xs)) (f 0 x (omega arith)) (some_all_changed q P same h xs (all_rest P x (filter q xs) f))
      | false ↦ λ f. some_all_changed q P same h xs f
    ] a
  ]

  -- a sum of what stays
  pub sum_same : (f : X → ℕ) → ((x : X) → f (g x) ≡ f x) → (xs : List X) → sum_by f (change p g xs) ≡ sum_by f xs
  sum_same f h [] = refl
  sum_same f h (x ∷ xs) = elim (p x) as (λ b. sum_by f (if b then g x ∷ xs else x ∷ change p g xs) ≡ sum_by f (x ∷ xs)) [
    | true ↦ omega (arith, sum_by-cons f (g x) xs, sum_by-cons f x xs, h x)
    | false ↦ omega (arith, sum_by-cons f x (change p g xs), sum_by-cons f x xs, sum_same f h xs)
  ]

  -- a list of what stays, of those that pass a test
  pub some_same : {Y : Type 0} (q : X → Bool) (f : X → Y) → ((x : X) → q (g x) ≡ q x) → ((x : X) → f (g x) ≡ f x) → (xs : List X) → map f (filter q (change p g xs)) ≡ map f (filter q xs)
  some_same q f same h [] = refl
  some_same q f same h (x ∷ xs) = elim (p x) as (λ b. map f (filter q (if b then g x ∷ xs else x ∷ change p g xs)) ≡ map f (filter q (x ∷ xs))) [
    | true ↦ (λ i. map f (if same x i then g x ∷ filter q xs else filter q xs)) ∙ elim (q x) as (λ b. map f (if b then g x ∷ filter q xs else filter q xs) ≡ map f (if b then x ∷ filter q xs else filter q xs)) [ true ↦ ap (λ y. y ∷ map f (filter q xs)) (h x) | false ↦ refl ]
    | false ↦ elim (q x) as (λ b. map f (if b then x ∷ filter q (change p g xs) else filter q (change p g xs)) ≡ map f (if b then x ∷ filter q xs else filter q xs)) [ true ↦ ap (λ ys. f x ∷ ys) (some_same q f same h xs) | false ↦ some_same q f same h xs ]
  ]

module _ (phase : Phase) (buffer : Option ℕ) (stored : ℕ) (note : Note) where
  abbrev turned : Transfer → Transfer
  turned = changed_by (Progress phase buffer stored note)

  holds_turned : (k : Kernel) (page_in : ℕ → PageOf) (frame_of : PageOf → ℕ) (t : Transfer) → HoldsPages k.config.page k.memory (owned_regions k.spaces.processes) page_in frame_of t → HoldsPages k.config.page k.memory (owned_regions k.spaces.processes) page_in frame_of (turned t)
  holds_turned k page_in frame_of t h = record { pages = h.pages; frames = h.frames; held = h.held }

  strongly_turned : (page : ℕ) (owners : List Owner) (early : Bool) (t : Transfer) (strong : Bool) → LendsInput page owners early t strong → LendsInput page owners early (turned t) strong
  strongly_turned page owners true t true h = h
  strongly_turned page owners false t true h = h
  strongly_turned page owners early t false h = h

  lends_turned : (page : ℕ) (owners : List Owner) (early : Bool) (t : Transfer) (d : Direction) → Lends page owners early t d → Lends page owners early (turned t) d
  lends_turned page owners early t direction.Outward h = h
  lends_turned page owners early t direction.Inward h = strongly_turned page owners early t (is_strong_call t) h

  -- how far a transfer has come is no matter of its loans
  pub progress_keeps : (k : Kernel) (n : ℕ) → IsGood k → KeepsLending k (change (has_number n) turned k.transfers)
  progress_keeps k n g = record {
    counted = λ f. g.counted f ∙ sym (λ i. record {
      strong = sum_same (has_number n) turned (loans_on kind.Strong f) (λ t. refl) k.transfers i;
      weak = sum_same (has_number n) turned (loans_on kind.Weak f) (λ t. refl) k.transfers i;
      input = sum_same (has_number n) turned (loans_on kind.Input f) (λ t. refl) k.transfers i + sum_by (pool_on f) k.pools;
      wires = sum_same (has_number n) turned (wires_on f) (λ t. refl) k.transfers i;
    });
    owners = record {
      system = λ f j e. some_same (has_number n) turned (has_frame f) number_of (λ t. refl) (λ t. refl) k.transfers ∙ g.owners.system f j e;
      pooled = g.owners.pooled;
      spare = λ f d e. some_same (has_number n) turned (has_frame f) number_of (λ t. refl) (λ t. refl) k.transfers ∙ g.owners.spare f d e;
      pool_frames = g.owners.pool_frames;
    };
    held = record {
      page_in = g.held.page_in;
      frame_of = g.held.frame_of;
      each = some_all_changed (has_number n) turned (λ t. not (is_strong_call t)) (HoldsPages k.config.page k.memory (owned_regions k.spaces.processes) g.held.page_in g.held.frame_of) (λ t. refl) (holds_turned k g.held.page_in g.held.frame_of) k.transfers g.held.each;
    };
    planned = all_changed (has_number n) turned (λ (t : Transfer). Lends k.config.page k.memory.frames.owners (is_early_device (entry k.devices t.dev)) t t.dir) (λ t h. lends_turned k.config.page k.memory.frames.owners (is_early_device (entry k.devices t.dev)) t t.dir h) k.transfers g.planned;
    fitting = all_changed (has_number n) turned (λ (t : Transfer). FitsDevice t.len (entry k.devices t.dev)) (λ t h. h) k.transfers g.fitting;
  }
