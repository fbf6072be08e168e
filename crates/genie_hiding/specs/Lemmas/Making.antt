-- One call after another that makes room.
use Rattle.std.proofs.Common.{◌≡◌, ℕ, ◌<◌, ◌≤◌, ◌+◌, true, List, refl, arith, ap, length, get_or, sym, ◌∙◌, inl, inr, subst}
use Rattle.std.specs.Prelude.{Some, None}
use Rattle.genie_base.specs.Lemmas.Places.{same_or}
use Rattle.genie_frame.specs.declared.frame.FrameId.{FrameId}
use Rattle.genie_frame.specs.FrameTable.{owner_at, counts_at, is_lent, no_counts}
use Rattle.genie_store.specs.StoreView.{StoreView}
use Rattle.genie_object.specs.declared.pages.Place.TheVariants.{Frame}
use Rattle.genie_object.specs.declared.pages.PageId.{PageId}
use Rattle.genie_object.specs.declared.memory.Memory.{Memory}
use Rattle.genie_object.specs.Pages.{page_at}
use Rattle.genie_object.specs.Objects.{entry_at, object_at}
use Rattle.genie_object.specs.Sound.{IsSound, FitsHidden}
use Rattle.genie_object.specs.Lemmas.Entries.{naming_there}
use Rattle.genie_object.specs.Lemmas.Touching.{keeps_on, keeps_all}
use Rattle.genie_hiding.specs.Hidden.{has_hidden}
use Rattle.genie_hiding.specs.Rooms.{MakesRoom, Sweeps, IsShed, AreShed, AllShed}
use Rattle.genie_hiding.specs.Lemmas.Searching.{hidden_by}
use Rattle.genie_hiding.specs.Lemmas.Naming.{hidden_before, hidden_page, names_page}
use Rattle.genie_hiding.specs.Lemmas.Sweeping.{sweeps_none, sweeps_on}

pub rooms_none : (hidden : List ℕ) (m : Memory) (v : StoreView) → IsSound m → FitsHidden m hidden → MakesRoom hidden m m v v
rooms_none hidden m v s f = record {
  sound = s;
  sized = λ h. h;
  fits = f;
  seen = refl;
  keeps = keeps_all m;
  counts = refl;
  landed = refl;
  narrows = λ o i e. record { page = refl; readable = λ h. h; writable = λ h. h };
  shares = λ o i p e h. refl;
  reads = λ o i e h. h;
  writes = λ o i e h. h;
  pages = omega arith;
  sweeps = sweeps_none m;
  slots = λ h. h;
}

pub rooms_on : (hidden : List ℕ) (a b c : Memory) (u v w : StoreView) → MakesRoom hidden a b u v → MakesRoom hidden b c v w → MakesRoom hidden a c u w
rooms_on hidden a b c u v w x y = record {
  sound = y.sound;
  sized = λ h. y.sized (x.sized h);
  fits = y.fits;
  seen = y.seen ∙ x.seen;
  keeps = keeps_on a b c x.keeps y.keeps;
  counts = y.counts ∙ x.counts;
  landed = y.landed ∙ x.landed;
  narrows = λ o i e. let p = x.narrows o i e in let q = y.narrows o i e in record { page = q.page ∙ p.page; readable = λ h. p.readable (q.readable h); writable = λ h. p.writable (q.writable h) };
  shares = λ o i p e h. y.shares o i p e ((x.narrows o i e).page ∙ h) ∙ x.shares o i p e h;
  reads = λ o i e h. y.reads o i e (x.reads o i e h);
  writes = λ o i e h. y.writes o i e (x.writes o i e h);
  pages = omega (arith, x.pages, y.pages);
  sweeps = sweeps_on a b c x.sweeps y.sweeps;
  slots = λ h. y.slots (x.slots h);
}

-- an entry that was shed is so still
pub shed_kept : (old new : Memory) (o i : ℕ) → Sweeps old new → new.frames.counts ≡ old.frames.counts → IsShed old o i → IsShed new o i
shed_kept old new o i x k h f p owned n = ap (λ cs. is_lent (get_or cs f no_counts)) k ∙ h f p (x.pages f p owned) (x.named o i p n)

pub all_kept : (hidden : List ℕ) (old new : Memory) → Sweeps old new → new.frames.counts ≡ old.frames.counts → AllShed old hidden → AllShed new hidden
all_kept hidden old new x k h f e =
    let z = hidden_page new.objects hidden (owner_at new.frames f) e in
    let was = ap (has_hidden old.objects hidden) (x.pages f z.page z.is_page) ∙ hidden_before old new hidden z.page x z.is_hid in
    ap (λ cs. is_lent (get_or cs f no_counts)) k ∙ h f was

pub all_shed : (m : Memory) (hidden : List ℕ) (n : ℕ) → n ≡ length hidden → AreShed m hidden n → AllShed m hidden
all_shed m hidden n e h f w =
    let z = hidden_page m.objects hidden (owner_at m.frames f) w in
    let y = hidden_by m.objects hidden z.page z.is_hid in
    h y.place y.index (omega (arith, e, y.there)) f z.page z.is_page y.named

-- one region more was shed
pub shed_more : (hidden : List ℕ) (old new : Memory) (n : ℕ) → Sweeps old new → new.frames.counts ≡ old.frames.counts → ((i : ℕ) → IsShed new (get_or hidden n 0) i) → AreShed old hidden n → AreShed new hidden (n + 1)
shed_more hidden old new n x k h v a i l = elim (same_or a n) [
  | inl s ↦ subst (λ j. IsShed new (get_or hidden j 0) i) (sym s) (h i)
  | inr d ↦ shed_kept old new (get_or hidden a 0) i x k (v a i (omega (arith, l, d)))
]

-- a store of which nothing is known
pub no_store : StoreView
no_store = record { count = 0; page = 0; slots = None; faults = 0 }

-- an entry whose page is lent
pub shed_lent : (m : Memory) (o i : ℕ) (p : PageId) → IsSound m → (entry_at m.objects o i).page ≡ Some p → ((f : FrameId) → (page_at m.pages.pages p.0).place ≡ Frame f → is_lent (counts_at m.frames f.0) ≡ true) → IsShed m o i
shed_lent m o i p s is h f q owned n =
    let r : PageId = record { 0 = q } in
    let at : Some r ≡ Some p = sym (names_page r (entry_at m.objects o i) n) ∙ is in
    let same : r ≡ p = cc in
    let g : FrameId = record { 0 = f } in
    h g (ap (λ (x : PageId). (page_at m.pages.pages x.0).place) (sym same) ∙ s.placed.of_page g q owned)

-- an entry that isn't there
pub shed_past : (m : Memory) (o i : ℕ) → length (object_at m.objects o) ≤ i → IsShed m o i
shed_past m o i l f p owned n = absurd (omega (arith, l, naming_there m.objects p o i n))

pub shed_entries : (old new : Memory) (o n : ℕ) → Sweeps old new → new.frames.counts ≡ old.frames.counts → IsShed new o n → ((i : ℕ) → i < n → IsShed old o i) → (i : ℕ) → i < n + 1 → IsShed new o i
shed_entries old new o n x k here h i l = elim (same_or i n) [
  | inl s ↦ subst (IsShed new o) (sym s) here
  | inr d ↦ shed_kept old new o i x k (h i (omega (arith, l, d)))
]
