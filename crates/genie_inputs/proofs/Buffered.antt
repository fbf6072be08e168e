-- A buffer of the system's, lent for a strong input that begins.
use Rattle.std.proofs.Common.{◌≡◌, ◌≢◌, ℕ, ◌+◌, ◌<◌, Bool, true, false, List, [], ◌∷◌, refl, sym, ap, subst, arith, ◌∙◌, ◌⊎◌, inl, inr, zero, suc, length, get_or, ⊎_elim}
use Rattle.std.specs.Prelude.{Option, Some, None, IfSome, ◌==◌, ◌&&◌, ◌||◌, not, if◌then◌else◌}
use Rattle.std.specs.List.{list_any}
use Rattle.std.proofs.lemmas.Bool.{cases_Bool, eq-eqb}
use Rattle.std.proofs.lemmas.List.Sums.{sum_by-cons}
use Rattle.genie_base.specs.Lemmas.Places.{num, any_default}
use Rattle.genie_base.specs.Transfers.{is_emulated}
use Rattle.genie_base.specs.declared.semantics.Direction.TheVariants.{Inward}
use Rattle.genie_frame.specs.declared.frame.Counts.{Counts}
use Rattle.genie_frame.specs.declared.frame.InLoan.{InLoan}
use Rattle.genie_frame.specs.declared.frame.Owner.{Owner}
use Rattle.genie_frame.specs.declared.frame.Owner.TheVariants.{Free, Page, System, Pool}
use Rattle.genie_frame.specs.FrameTable.{owner_at, counts_at, is_lent, is_held}
use Rattle.genie_object.specs.declared.memory.Memory.{Memory}
use Rattle.genie_object.specs.declared.pages.PageId.{PageId}
use Rattle.genie_object.specs.declared.pages.PageInfo.{PageInfo}
use Rattle.genie_object.specs.declared.objects.Entry.{Entry}
use Rattle.genie_object.specs.Memory.{seen, entry_frame, frame_of}
use Rattle.genie_object.specs.Objects.{object_at, entry_at}
use Rattle.genie_object.specs.Pages.{page_at}
use Rattle.genie_object.specs.Sound.{IsCached}
use Rattle.genie_object.specs.Touching.{Lasts}
use Rattle.genie_hiding.specs.Hidden.{objects_of}
use Rattle.genie_plan.specs.Loans.{LoanKind, Loan, is_kind, loan_times, input_loan, input_loans, more}
use Rattle.genie_plan.specs.Loans as kind
use Rattle.genie_plan.specs.Plans.{times, input_frames, AreApart}
use Rattle.genie_plan.specs.Lemmas.Ranges.{times-cons, times_at}
use Rattle.genie_input.specs.Pools.{PoolState}
use Rattle.genie_model.specs.Lemmas.Lists.{has_any, has_at}
use Rattle.genie_model.specs.Tables.{entry}
use Rattle.genie_kernel.specs.declared.kernel.Kernel.{Kernel}
use Rattle.genie_kernel.specs.declared.transfer.Loans.{Loans}
use Rattle.genie_kernel.specs.declared.transfer.Loans.TheVariants.{Nothing, Outward}
use Rattle.genie_kernel.specs.declared.transfer.Loans.TheVariants as ways
use Rattle.genie_kernel.specs.declared.transfer.Transfer.{Transfer}
use Rattle.genie_kernel.specs.Backed.{AreGuarded}
use Rattle.genie_kernel.specs.Calls.{is_strong_call, begins_at}
use Rattle.genie_kernel.specs.Counted.{is_wiring, wires_on}
use Rattle.genie_kernel.specs.Good.{IsGood}
use Rattle.genie_kernel.specs.Lending.{LendsFor}
use Rattle.genie_kernel.specs.Loans.{frames_of, loans_of, has_frame}
use Rattle.genie_kernel.specs.Planned.{Lends, LendsStrongly, LendsInput, LendsRange, FitsDevice, is_early_device}
use Rattle.genie_kernel.specs.Regions.{owned_regions}
use Rattle.genie_kernel.specs.Counted.{pool_on}
use Rattle.genie_kernel.specs.Same.{ShowSame}
use Rattle.genie_kernel.specs.Lemmas.Alike.{lent_suffice}
use Rattle.genie_kernel.specs.Lemmas.Keeping.{transfer_lent}
use Rattle.genie_changes.specs.Beginning.{Begins, TakesFrames}
use Rattle.genie_inputs.specs.Buffers.{LendsAt, LendsBuffer}
use Rattle.genie_inputs.proofs.Answered.{ShowsLent}

pub some_or_none : (n : ℕ) → (0 < n) ⊎ (n ≡ 0)
some_or_none zero = inr refl
some_or_none (suc n) = inl (omega arith)

-- a frame is among these, or it isn't
pub any_times : (f : ℕ) (frames : List ℕ) → list_any (λ g. g == f) frames ≡ true → 0 < times frames f
any_times f [] e = absurd (cc)
any_times f (g ∷ frames) e = elim (g == f) as (λ b. (g == f) ≡ b → (b || list_any (λ h. h == f) frames) ≡ true → 0 < times (g ∷ frames) f) [
  | true ↦ λ is h. let one : num (g == f) ≡ 1 = ap num is in omega (arith, times-cons g f frames, one)
  | false ↦ λ is h. let later = any_times f frames h in omega (arith, times-cons g f frames, later)
] refl e

no_times : (f : ℕ) (frames : List ℕ) → list_any (λ g. g == f) frames ≡ false → times frames f ≡ 0
no_times f [] e = refl
no_times f (g ∷ frames) e = elim (g == f) as (λ b. (g == f) ≡ b → (b || list_any (λ h. h == f) frames) ≡ false → times (g ∷ frames) f ≡ 0) [
  | true ↦ λ is h. absurd (cc)
  | false ↦ λ is h. let none : num (g == f) ≡ 0 = ap num is in let later = no_times f frames h in omega (arith, times-cons g f frames, none, later)
] refl e

times_any : (f : ℕ) (frames : List ℕ) → 0 < times frames f → list_any (λ g. g == f) frames ≡ true
times_any f frames l = ⊎_elim (λ yes. yes) (λ none. let no = no_times f frames none in absurd (omega (arith, no, l))) (cases_Bool (list_any (λ g. g == f) frames))

none_any : (f : ℕ) (frames : List ℕ) → times frames f ≡ 0 → list_any (λ g. g == f) frames ≡ false
none_any f frames e = ⊎_elim (λ yes. let some = any_times f frames yes in absurd (omega (arith, some, e))) (λ no. no) (cases_Bool (list_any (λ g. g == f) frames))

loan_cons : (loan : Loan) (loans : List Loan) (k : LoanKind) (f : ℕ) → loan_times (loan ∷ loans) k f ≡ num (is_kind k loan.kind && (loan.frame == f)) + loan_times loans k f
loan_cons loan loans k f = sum_by-cons (λ (x : Loan). num (is_kind k x.kind && (x.frame == f))) loan loans

-- input loans are on the frames of the plan, once each
pub input_times : (f : ℕ) (loans : List InLoan) → loan_times (input_loans loans) kind.Input f ≡ times (input_frames loans) f
input_times f [] = refl
input_times f (x ∷ loans) = let later = input_times f loans in omega (arith, loan_cons (input_loan x) (input_loans loans) kind.Input f, times-cons x.frame.0 f (input_frames loans), later)

pub no_strong : (f : ℕ) (loans : List InLoan) → loan_times (input_loans loans) kind.Strong f ≡ 0
no_strong f [] = refl
no_strong f (x ∷ loans) = let later = no_strong f loans in omega (arith, loan_cons (input_loan x) (input_loans loans) kind.Strong f, later)

pub no_weak : (f : ℕ) (loans : List InLoan) → loan_times (input_loans loans) kind.Weak f ≡ 0
no_weak f [] = refl
no_weak f (x ∷ loans) = let later = no_weak f loans in omega (arith, loan_cons (input_loan x) (input_loans loans) kind.Weak f, later)

-- how an input's loans count
pub record OnlyInput (loans : Loans) (f : ℕ) : Type 0 where
  pub strong : loan_times (loans_of loans) kind.Strong f ≡ 0
  pub weak : loan_times (loans_of loans) kind.Weak f ≡ 0
  pub input : loan_times (loans_of loans) kind.Input f ≡ times (frames_of loans) f

lends_input : (page at len : ℕ) (early : Bool) (loans : Loans) (f : ℕ) → LendsAt page at len early loans → OnlyInput loans f
lends_input page at len false loans f e = subst (λ (l : Loans). OnlyInput l f) (sym e) (record { strong = refl; weak = refl; input = refl })
lends_input page at len true Nothing f h = absurd h
lends_input page at len true (Outward p) f h = absurd h
lends_input page at len true (ways.Inward p) f h = record { strong = no_strong f p.loans.items; weak = no_weak f p.loans.items; input = input_times f p.loans.items }

pub more_input : (loans : Loans) (f wires : ℕ) (c : Counts) → OnlyInput loans f → record c { input = c.input + times (frames_of loans) f; wires = wires } ≡ record (more (loans_of loans) f c) { wires = wires }
more_input loans f wires c only =
    let strong : c.strong ≡ c.strong + loan_times (loans_of loans) kind.Strong f = let e = only.strong in omega (arith, e) in
    let weak : c.weak ≡ c.weak + loan_times (loans_of loans) kind.Weak f = let e = only.weak in omega (arith, e) in
    let input : c.input + times (frames_of loans) f ≡ c.input + loan_times (loans_of loans) kind.Input f = let e = only.input in omega (arith, e) in
    λ i. record { strong = strong i; weak = weak i; input = input i; wires = wires }

-- its frames are its own, where its device is an early one
strongly : (page at : ℕ) (owners : List Owner) (t : Transfer) (early : Bool) (loans : Loans) → begins_at t ≡ at → AreApart (frames_of loans) → ((f : ℕ) → 0 < times (frames_of loans) f → get_or owners f Free ≡ System t.id.0) → LendsAt page at t.len early loans → LendsStrongly page owners early t loans
strongly page at owners t false loans from apart own h = h
strongly page at owners t true Nothing from apart own h = absurd h
strongly page at owners t true (Outward p) from apart own h = absurd h
strongly page at owners t true (ways.Inward p) from apart own h = (
  subst (λ x. LendsRange page x t.len (input_frames p.loans.items) p.first p.len) (sym from) h,
  record {
    own = λ j d l. subst (λ f. get_or owners f Free ≡ System t.id.0) (any_default (input_frames p.loans.items) j 0 d l) (own (get_or (input_frames p.loans.items) j 0) (times_at (input_frames p.loans.items) j l));
    apart = apart;
  },
)

module _ (k : Kernel) (m : Memory) (t : Transfer) (at : ℕ) (good : IsGood k) (inward : t.dir ≡ Inward) (strong : is_strong_call t ≡ true) (begins : begins_at t ≡ at) (b : LendsBuffer t.id.0 at t.len (is_early_device (entry k.devices t.dev)) k.memory m t.loans) where
  abbrev frames : List ℕ
  frames = frames_of t.loans

  abbrev early : Bool
  early = is_early_device (entry k.devices t.dev)

  -- a frame that somebody has is none of the buffer's
  other_frame : (f : ℕ) → owner_at k.memory.frames f ≢ Free → times frames f ≡ 0
  other_frame f had = ⊎_elim (λ some. absurd (had (b.fresh.were_free f some))) (λ none. none) (some_or_none (times frames f))

  lent_other : (f : ℕ) → is_lent (counts_at k.memory.frames f) ≡ true → times frames f ≡ 0
  lent_other f lent = other_frame f (λ free. let no = (good.sound.lent f).free free in cc)

  same_counts : (f : ℕ) → times frames f ≡ 0 → counts_at m.frames f ≡ counts_at k.memory.frames f
  same_counts f none = let e : (counts_at k.memory.frames f).input + times frames f ≡ (counts_at k.memory.frames f).input = omega (arith, none) in b.fresh.counts f ∙ (λ i. record (counts_at k.memory.frames f) { input = e i })

  same_frame : (o i : ℕ) → entry_frame m o i ≡ entry_frame k.memory o i
  same_frame o i = λ j. frame_of (b.pages j).pages (entry_at (b.objects j) o i).page

  cached_other : (o : ℕ) → IsCached k.memory o → IsCached m o
  cached_other o was =
      let page : (i : ℕ) → (entry_at m.objects o i).page ≡ (entry_at k.memory.objects o i).page = λ i. ap (λ (es : List (List Entry)). (entry_at es o i).page) b.objects in
      let before : (i : ℕ) (p : PageId) → (entry_at m.objects o i).page ≡ Some p → (entry_at k.memory.objects o i).page ≡ Some p = λ i p e. sym (page i) ∙ e in
      let info : (p : PageId) → page_at m.pages.pages p.0 ≡ page_at k.memory.pages.pages p.0 = λ p. ap (λ x. page_at x.pages p.0) b.pages in
      record {
        there = subst (λ (es : List (List Entry)). 0 < length (object_at es o)) (sym b.objects) was.there;
        own = λ i p e. ap (λ (q : PageInfo). q.shares) (info p) ∙ was.own i p (before i p e);
        frame = λ i p e. was.frame i p (before i p e);
        in_frame = λ i p e. ap (λ (q : PageInfo). q.place) (info p) ∙ was.in_frame i p (before i p e);
        unheld = λ i p e.
            let f = was.frame i p (before i p e) in
            let owner : owner_at k.memory.frames f.0 ≡ Page p.0 = good.sound.placed.in_frame p.0 f (was.in_frame i p (before i p e)) in
            ap is_held (same_counts f.0 (other_frame f.0 (λ free. let no : Page p.0 ≡ Free = sym owner ∙ free in cc))) ∙ was.unheld i p (before i p e);
      }

  lasts : (f : ℕ) → is_lent (counts_at k.memory.frames f) ≡ true → Lasts k.memory.frames m.frames f
  lasts f lent =
      let none = lent_other f lent in
      record {
        lent = ap is_lent (same_counts f none) ∙ lent;
        bytes = ap (λ (bs : List (List ℕ)). get_or bs f []) b.fresh.bytes;
        owner = inl (b.fresh.others f none);
      }

  unwired : (f : ℕ) → wires_on f t ≡ 0
  unwired f = let no : is_wiring t ≡ false = ap (λ s. not s && not (is_emulated t.sem)) strong in ap (λ w. if w then times frames f else 0) no

  lends : LendsFor t k.memory.frames.counts m.frames.counts
  lends f =
      let c = counts_at k.memory.frames f in
      let wires : c.wires ≡ c.wires + wires_on f t = let none = unwired f in omega (arith, none) in
      b.fresh.counts f ∙ (λ i. record c { input = c.input + times frames f; wires = wires i }) ∙ more_input t.loans f (c.wires + wires_on f t) c (lends_input k.memory.frames.page at t.len early t.loans f b.lends)

  takes : TakesFrames t k.memory.frames m.frames
  takes = record {
    system = λ f n is. ⊎_elim
        (λ some.
        let own : System t.id.0 ≡ System n = sym (b.fresh.owned f some) ∙ is in
        let number : n ≡ t.id.0 = cc in
        inr (number, times_any f frames some, (good.sound.lent f).free (b.fresh.were_free f some)))
        (λ none. inl (sym (b.fresh.others f none) ∙ is, none_any f frames none))
        (some_or_none (times frames f));
    pool = λ f d is. ⊎_elim
        (λ some. let own : System t.id.0 ≡ Pool d = sym (b.fresh.owned f some) ∙ is in absurd (cc))
        (λ none. (sym (b.fresh.others f none) ∙ is, none_any f frames none))
        (some_or_none (times frames f));
  }

  pub buffer_begins : FitsDevice t.len (entry k.devices t.dev) → Begins k m t
  buffer_begins device = record {
    sound = b.sound;
    cached = record { cached = λ j l. cached_other (get_or (objects_of k.hidden) j 0) (good.cached.cached j l); apart = good.cached.apart };
    guarded = subst (λ (es : List (List Entry)). AreGuarded es (owned_regions k.spaces.processes)) (sym b.objects) good.guarded;
    places = record {
      entries = λ o. ap (λ (es : List (List Entry)). length (object_at es o)) b.objects;
      number = b.fresh.size;
      page = b.fresh.page;
      slots = ap length b.slots;
      most = ap (λ x. x.most) b.pages;
    };
    entry_held = λ o i f e held. same_frame o i ∙ e;
    lasts = lasts;
    lends = lends;
    takes = takes;
    holds = inl strong;
    plan = subst (Lends k.config.page m.frames.owners early t) (sym inward) (subst (LendsInput k.config.page m.frames.owners early t) (sym strong) (strongly k.config.page at m.frames.owners t early t.loans begins b.fresh.apart b.fresh.owned (subst (λ page. LendsAt page at t.len early t.loans) good.sized.page b.lends)));
    device = device;
  }

  pool_shows : (slots : ℕ → List ℕ) (d : ℕ) (p : Option PoolState) → entry k.pools d ≡ p → IfSome p (λ (q : PoolState). ShowSame (seen k.memory slots).kept_bytes (seen m slots).kept_bytes (input_frames q.loans))
  pool_shows slots d None e = tt
  pool_shows slots d (Some q) e = λ j x l.
      let f = get_or (input_frames q.loans) j x in
      let on : 0 < pool_on f (entry k.pools d) = subst (λ (o : Option PoolState). 0 < pool_on f o) (sym e) (subst (λ g. 0 < times (input_frames q.loans) g) (any_default (input_frames q.loans) j 0 x l) (times_at (input_frames q.loans) j l)) in
      let owner = good.owners.pool_frames f d on in
      b.shows.others slots f (other_frame f (λ free. let no : Pool d ≡ Free = sym owner ∙ free in cc))

  -- all that earlier transfers and pools need is seen as before
  pub buffer_shows : (slots : ℕ → List ℕ) → ShowsLent k k.memory m slots
  buffer_shows slots = record {
    entries = b.shows.entries slots;
    needed = lent_suffice (owned_regions k.spaces.processes) k.transfers k.pools (seen k.memory slots).kept_bytes (seen m slots).kept_bytes (record {
      lent = λ j d l i x n.
          let u = get_or k.transfers j d in
          let f = get_or (frames_of u.loans) i x in
          let on : has_frame f u ≡ true = has_any (λ g. g == f) f (frames_of u.loans) (has_at (frames_of u.loans) i x n) (eq-eqb f f refl) in
          b.shows.others slots f (lent_other f (transfer_lent k f u good (has_at k.transfers j d l) on));
      pooled = λ d. pool_shows slots d (entry k.pools d) refl;
    });
  }
