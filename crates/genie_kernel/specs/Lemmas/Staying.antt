-- A call of the memory leaves the kernel good.
use Rattle.std.proofs.Common.{◌≡◌, ℕ, ◌<◌, ◌≤◌, zero, suc, Bool, true, false, not, cond, List, [], ◌∷◌, refl, sym, ap, subst, arith, rules, ◌∙◌, ◌⊎◌, map, length, get_or, ⊎_elim, inl, inr}
use Rattle.std.specs.Prelude.{Option, Some, None, All, ◌==◌, ◌&&◌, sum_by, if◌then◌else◌}
use Rattle.std.proofs.lemmas.Bool.{cond_both}
use Rattle.std.proofs.lemmas.List.Sums.{sum_by-cons}
use Rattle.genie_base.specs.declared.semantics.Direction.{Direction}
use Rattle.genie_base.specs.declared.semantics.Direction.TheVariants as direction
use Rattle.genie_base.specs.Lemmas.Places.{num}
use Rattle.genie_frame.specs.declared.frame.Counts.{Counts}
use Rattle.genie_frame.specs.declared.frame.InLoan.{InLoan}
use Rattle.genie_frame.specs.declared.frame.OutLoan.{OutLoan}
use Rattle.genie_frame.specs.declared.frame.Owner.{Owner}
use Rattle.genie_frame.specs.declared.frame.Owner.TheVariants.{Free, Page, System, Pool, Nobody}
use Rattle.genie_frame.specs.FrameTable.{no_counts, owner_at, counts_at, is_held, is_lent, is_page}
use Rattle.genie_object.specs.declared.memory.Memory.{Memory}
use Rattle.genie_object.specs.declared.objects.Entry.{Entry}
use Rattle.genie_object.specs.Objects.{object_at, is_absent}
use Rattle.genie_object.specs.Sound.{IsSound, FitsHidden}
use Rattle.genie_object.specs.Touching.{KeepsLoans, system_owner}
use Rattle.genie_hiding.specs.Hidden.{objects_of}
use Rattle.genie_plan.specs.Loans.{Loan, LoanKind, is_kind, loan_times, output_loan, output_loans, input_loan, input_loans}
use Rattle.genie_plan.specs.Loans as kind
use Rattle.genie_region.specs.declared.region.Region.{Region}
use Rattle.genie_space.specs.Translations.{IsBacked}
use Rattle.genie_model.specs.Tables.{entry}
use Rattle.genie_model.specs.Lemmas.Lists.{Has, has_at, all_has}
use Rattle.genie_kernel.specs.declared.kernel.Kernel.{Kernel}
use Rattle.genie_kernel.specs.declared.transfer.Loans.{Loans}
use Rattle.genie_kernel.specs.declared.transfer.Loans.TheVariants.{Nothing, Outward, Inward}
use Rattle.genie_kernel.specs.declared.transfer.Transfer.{Transfer}
use Rattle.genie_kernel.specs.Backed.{AreGuarded, all_regions}
use Rattle.genie_kernel.specs.Calls.{is_strong_call, number_of}
use Rattle.genie_kernel.specs.Counted.{lent_of, loans_on}
use Rattle.genie_kernel.specs.Good.{IsGood}
use Rattle.genie_kernel.specs.Held.{PageOf, HoldsPages, IsInFrame, region_named, page_of_loan, weak_transfers}
use Rattle.genie_kernel.specs.Loans.{frames_of, loans_of}
use Rattle.genie_kernel.specs.Planned.{Lends, LendsOut, LendsIn, LendsInput, LendsStrongly, is_early_device}
use Rattle.genie_kernel.specs.Regions.{owned_regions}

pub system_same : (a b : Owner) (k : ℕ) → system_owner a ≡ system_owner b → a ≡ System k → b ≡ System k
system_same a Free k e is = let h : System k ≡ Free = sym (ap system_owner is) ∙ e in cc
system_same a (Page p) k e is = let h : System k ≡ Free = sym (ap system_owner is) ∙ e in cc
system_same a (System t) k e is = let h : System k ≡ System t = sym (ap system_owner is) ∙ e in sym h
system_same a (Pool d) k e is = let h : System k ≡ Pool d = sym (ap system_owner is) ∙ e in cc
system_same a Nobody k e is = let h : System k ≡ Free = sym (ap system_owner is) ∙ e in cc

pub pool_same : (a b : Owner) (k : ℕ) → system_owner a ≡ system_owner b → a ≡ Pool k → b ≡ Pool k
pool_same a Free k e is = let h : Pool k ≡ Free = sym (ap system_owner is) ∙ e in cc
pool_same a (Page p) k e is = let h : Pool k ≡ Free = sym (ap system_owner is) ∙ e in cc
pool_same a (System t) k e is = let h : Pool k ≡ System t = sym (ap system_owner is) ∙ e in cc
pool_same a (Pool d) k e is = let h : Pool k ≡ Pool d = sym (ap system_owner is) ∙ e in sym h
pool_same a Nobody k e is = let h : Pool k ≡ Free = sym (ap system_owner is) ∙ e in cc

all_map : {X : Type 0} (P Q : X → Type 0) (xs : List X) → ((x : X) → P x → Q x) → All P xs → All Q xs
all_map P Q xs f a = λ k d l. f (get_or xs k d) (a k d l)

strongly_kept : (page : ℕ) (old new : Memory) → KeepsLoans old new → (early : Bool) (t : Transfer) (loans : Loans) → LendsStrongly page old.frames.owners early t loans → LendsStrongly page new.frames.owners early t loans
strongly_kept page old new keeps false t loans h = h
strongly_kept page old new keeps true t loans h = (
  h.0,
  record {
    own = all_map (λ f. get_or old.frames.owners f Free ≡ System (number_of t)) (λ f. get_or new.frames.owners f Free ≡ System (number_of t)) (frames_of loans) (λ f is. system_same (owner_at old.frames f) (owner_at new.frames f) (number_of t) (sym (keeps.systems f)) is) h.1.own;
    apart = h.1.apart;
  },
)

input_kept : (page : ℕ) (old new : Memory) → KeepsLoans old new → (early : Bool) (t : Transfer) (strong : Bool) → LendsInput page old.frames.owners early t strong → LendsInput page new.frames.owners early t strong
input_kept page old new keeps early t true h = strongly_kept page old new keeps early t t.loans h
input_kept page old new keeps early t false h = h

pub lends_kept : (page : ℕ) (old new : Memory) → KeepsLoans old new → (early : Bool) (t : Transfer) (d : Direction) → Lends page old.frames.owners early t d → Lends page new.frames.owners early t d
lends_kept page old new keeps early t direction.Outward h = h
lends_kept page old new keeps early t direction.Inward h = input_kept page old new keeps early t (is_strong_call t) h

-- a loan counts on its frame
counted_loan : {X : Type 0} (frame : X → ℕ) (loan : X → Loan) (wanted : LoanKind) (xs : List X) → ((x : X) → (loan x).frame ≡ frame x) → All (λ x. is_kind wanted (loan x).kind ≡ true) xs → (j : ℕ) → j < length (map frame xs) → 0 < loan_times (map loan xs) wanted (get_or (map frame xs) j 0)
counted_loan frame loan wanted [] same a j l = absurd (omega (arith, l))
counted_loan frame loan wanted (x ∷ xs) same a zero l =
    let passes : (is_kind wanted (loan x).kind && ((loan x).frame == frame x)) ≡ true = grind (arith, rules, a 0 x (omega arith), same x) in
    let one : num (is_kind wanted (loan x).kind && ((loan x).frame == frame x)) ≡ 1 = ap num passes in
    omega (arith, sum_by-cons (λ (y : Loan). cond (is_kind wanted y.kind && (y.frame == frame x)) 1 0) (loan x) (map loan xs), one)
counted_loan frame loan wanted (x ∷ xs) same a (suc j) l =
    let f : ℕ = get_or (map frame xs) j 0 in
    let later = counted_loan frame loan wanted xs same (λ k d m. a (suc k) d (omega arith)) j (omega (arith, l)) in
    omega (arith, sum_by-cons (λ (y : Loan). cond (is_kind wanted y.kind && (y.frame == f)) 1 0) (loan x) (map loan xs), later)

pub at_least : {X : Type 0} (f : X → ℕ) (xs : List X) (x : X) → Has x xs → f x ≤ sum_by f xs
at_least f [] x h = absurd h
at_least f (y ∷ ys) x (inl e) = let same : f y ≡ f x = ap f e in omega (arith, sum_by-cons f y ys, same)
at_least f (y ∷ ys) x (inr h) = omega (arith, sum_by-cons f y ys, at_least f ys x h)

weak_kind : (strong : Bool) → strong ≡ false → is_kind kind.Weak (kind.output_kind strong) ≡ true
weak_kind true e = absurd (cc)
weak_kind false e = refl

out_held : (page : ℕ) (t : Transfer) (loans : Loans) → is_strong_call t ≡ false → LendsOut page t loans → (j : ℕ) → j < length (frames_of loans) → 0 < loan_times (loans_of loans) kind.Weak (get_or (frames_of loans) j 0)
out_held page t Nothing weak h j l = absurd h
out_held page t (Outward p) weak h j l = counted_loan (λ (x : OutLoan). x.frame.0) output_loan kind.Weak p.loans.items (λ x. refl) (λ i d m. weak_kind _ (h.0 i d m ∙ weak)) j l
out_held page t (Inward p) weak h j l = absurd h

in_held : (page : ℕ) (t : Transfer) (loans : Loans) → LendsIn page t loans → (j : ℕ) → j < length (frames_of loans) → 0 < loan_times (loans_of loans) kind.Input (get_or (frames_of loans) j 0)
in_held page t Nothing h j l = absurd h
in_held page t (Outward p) h j l = absurd h
in_held page t (Inward p) h j l = counted_loan (λ (x : InLoan). x.frame.0) input_loan kind.Input p.loans.items (λ x. refl) (λ i d m. refl) j l

held_by : (page : ℕ) (owners : List Owner) (early : Bool) (t : Transfer) (d : Direction) → is_strong_call t ≡ false → Lends page owners early t d → (j : ℕ) → j < length (frames_of t.loans) → (0 < loans_on kind.Weak (get_or (frames_of t.loans) j 0) t) ⊎ (0 < loans_on kind.Input (get_or (frames_of t.loans) j 0) t)
held_by page owners early t direction.Outward weak h j l = inl (out_held page t t.loans weak h j l)
held_by page owners early t direction.Inward weak h j l = inr (in_held page t t.loans (subst (LendsInput page owners early t) weak h) j l)

held_true : (c : Counts) → (0 < c.weak) ⊎ (0 < c.input) → is_held c ≡ true
held_true c (inl l) = grind (arith, rules, l)
held_true c (inr l) = grind (arith, rules, l)

pub lent_true : (c : Counts) → is_held c ≡ true → is_lent c ≡ true
lent_true c h = grind (arith, rules, h)

-- a frame under a weak transfer's loan is held
pub weak_held : (k : Kernel) (t : Transfer) (j : ℕ) → IsGood k → Has t k.transfers → is_strong_call t ≡ false → j < length (frames_of t.loans) → is_held (counts_at k.memory.frames (get_or (frames_of t.loans) j 0)) ≡ true
weak_held k t j g there weak l =
    let f : ℕ = get_or (frames_of t.loans) j 0 in
    let lends : Lends k.config.page k.memory.frames.owners (is_early_device (entry k.devices t.dev)) t t.dir = all_has (λ (u : Transfer). Lends k.config.page k.memory.frames.owners (is_early_device (entry k.devices u.dev)) u u.dir) k.transfers g.planned t there in
    subst (λ c. is_held c ≡ true) (sym (g.counted f)) (held_true (lent_of k.transfers k.pools f) (⊎_elim
    (λ w. inl (omega (arith, w, at_least (loans_on kind.Weak f) k.transfers t there)))
    (λ i. inr (omega (arith, i, at_least (loans_on kind.Input f) k.transfers t there)))
    (held_by k.config.page k.memory.frames.owners (is_early_device (entry k.devices t.dev)) t t.dir weak lends j l)))

in_frame_kept : (old new : Memory) → KeepsLoans old new → (r : Option Region) (i f : ℕ) → is_held (counts_at old.frames f) ≡ true → IsInFrame old r i f → IsInFrame new r i f
in_frame_kept old new keeps None i f held e = ⊎_elim (λ same. same ∙ e) (λ (left : (is_page (owner_at old.frames f) ≡ true) × (owner_at new.frames f ≡ Nobody)). left.1) (keeps.lent f (lent_true (counts_at old.frames f) held)).owner
in_frame_kept old new keeps (Some r) i f held e = keeps.entry_held r.object.0 i f e held

weak_first : (ts : List Transfer) (x t : Transfer) → not (is_strong_call x) ≡ true → (Has t (weak_transfers ts) → Has t ts × (not (is_strong_call t) ≡ true)) → Has t (x ∷ weak_transfers ts) → Has t (x ∷ ts) × (not (is_strong_call t) ≡ true)
weak_first ts x t weak later (inl e) = (inl e, subst (λ u. not (is_strong_call u) ≡ true) e weak)
weak_first ts x t weak later (inr is) = let l = later is in (inr l.0, l.1)

pub weak_there : (ts : List Transfer) (t : Transfer) → Has t (weak_transfers ts) → Has t ts × (not (is_strong_call t) ≡ true)
weak_there [] t h = absurd h
weak_there (x ∷ ts) t h = cond_both (not (is_strong_call x)) (x ∷ weak_transfers ts) (weak_transfers ts) (λ l. Has t l → Has t (x ∷ ts) × (not (is_strong_call t) ≡ true))
    (λ weak. weak_first ts x t weak (weak_there ts t))
    (λ strong is. let later = weak_there ts t is in (inr later.0, later.1)) h

not_true : (b : Bool) → not b ≡ true → b ≡ false
not_true true e = absurd (cc)
not_true false e = refl

holds_kept : (k : Kernel) (new : Memory) (page_in : ℕ → PageOf) (frame_of : PageOf → ℕ) (t : Transfer) → IsGood k → KeepsLoans k.memory new → Has t (weak_transfers k.transfers) → HoldsPages k.config.page k.memory (owned_regions k.spaces.processes) page_in frame_of t → HoldsPages k.config.page new (owned_regions k.spaces.processes) page_in frame_of t
holds_kept k new page_in frame_of t g keeps there h =
    let weak = weak_there k.transfers t there in
    record {
      pages = h.pages;
      frames = h.frames;
      held = λ j l. in_frame_kept k.memory new keeps (region_named (owned_regions k.spaces.processes) (page_of_loan k.config.page t j).region) (page_of_loan k.config.page t j).index (get_or (frames_of t.loans) j 0) (weak_held k t j g weak.0 (not_true (is_strong_call t) weak.1) l) (h.held j l);
    }

absent_same : (a b : List Entry) → length b ≡ length a → is_absent a ≡ is_absent b
absent_same [] [] e = refl
absent_same [] (y ∷ b) e = absurd (omega (arith, e))
absent_same (x ∷ a) [] e = absurd (omega (arith, e))
absent_same (x ∷ a) (y ∷ b) e = refl

-- the kernel is good after a call of the memory that changes no count of loans or wires: what is left to show is that the
-- memory is sound, that the hidden regions fit it, and that no entry of a read-only region permits writing
pub memory_good : (k : Kernel) (m : Memory) → IsGood k → IsSound m → FitsHidden m (objects_of k.hidden) → AreGuarded m.objects (owned_regions k.spaces.processes) → m.frames.counts ≡ k.memory.frames.counts → KeepsLoans k.memory m → IsGood (record k { memory = m })
memory_good k m g sound cached guarded counts keeps = record {
  fits = g.fits;
  sized = record { page = keeps.page ∙ g.sized.page; frames = keeps.number ∙ g.sized.frames; slots = keeps.slots ∙ g.sized.slots; pages = keeps.most ∙ g.sized.pages };
  spaced = g.spaced;
  equipped = g.equipped;
  orderly = g.orderly;
  sound = sound;
  cached = cached;
  few = g.few;
  backed = record {
    each = all_map (IsBacked k.memory.objects) (IsBacked m.objects) (all_regions k.spaces.processes k.hidden) (λ r is. keeps.entries r.object.0 ∙ is) g.backed.each;
    some = g.backed.some;
    one = λ o. g.backed.one o ∙ ap (λ b. if b then 0 else 1) (absent_same (object_at k.memory.objects o) (object_at m.objects o) (keeps.entries o));
  };
  guarded = guarded;
  counted = λ f. ap (λ cs. get_or cs f no_counts) counts ∙ g.counted f;
  owners = record {
    system = λ f j e. g.owners.system f j (system_same (owner_at m.frames f) (owner_at k.memory.frames f) j (keeps.systems f) e);
    pooled = λ f d e. g.owners.pooled f d (pool_same (owner_at m.frames f) (owner_at k.memory.frames f) d (keeps.systems f) e);
    spare = λ f d e. g.owners.spare f d (pool_same (owner_at m.frames f) (owner_at k.memory.frames f) d (keeps.systems f) e);
    pool_frames = λ f d l. pool_same (owner_at k.memory.frames f) (owner_at m.frames f) d (sym (keeps.systems f)) (g.owners.pool_frames f d l);
  };
  held = record {
    page_in = g.held.page_in;
    frame_of = g.held.frame_of;
    each = λ i d l. holds_kept k m g.held.page_in g.held.frame_of (get_or (weak_transfers k.transfers) i d) g keeps (has_at (weak_transfers k.transfers) i d l) (g.held.each i d l);
  };
  planned = all_map (λ (u : Transfer). Lends k.config.page k.memory.frames.owners (is_early_device (entry k.devices u.dev)) u u.dir) (λ (u : Transfer). Lends k.config.page m.frames.owners (is_early_device (entry k.devices u.dev)) u u.dir) k.transfers (λ u h. lends_kept k.config.page k.memory m keeps (is_early_device (entry k.devices u.dev)) u u.dir h) g.planned;
  fitting = g.fitting;
  posted = g.posted;
  sending = g.sending;
  receiving = g.receiving;
  arrived = g.arrived;
}
