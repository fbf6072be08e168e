-- Wires that are put on frames and taken off.
use Rattle.std.proofs.Common.{◌≡◌, ◌≢◌, ℕ, ◌+◌, ◌-◌, ◌^◌, ◌<◌, ◌≤◌, true, List, [], ◌∷◌, length, refl, ap, sym, ◌∙◌, arith, get_or, set, inl, inr, length-set}
use Rattle.std.specs.Prelude.{if◌then◌else◌}
use Rattle.std.proofs.lemmas.List.{get_or-set_same, get_or-set_other}
use Rattle.genie_base.specs.Lemmas.Places.{same_or}
use Rattle.genie_frame.specs.declared.frame.Owner.{Owner}
use Rattle.genie_frame.specs.declared.frame.Owner.TheVariants.{Free, Page, System, Pool, Nobody}
use Rattle.genie_frame.specs.declared.frame.Counts.{Counts}
use Rattle.genie_frame.specs.FrameTable.{FrameTable, owner_at, counts_at, no_counts, is_held, is_lent, is_system}
use Rattle.genie_frame.specs.Frames.{one_wire_more, one_wire_less}
use Rattle.genie_object.specs.declared.memory.Memory.{Memory}
use Rattle.genie_object.specs.Objects.{entry_at}
use Rattle.genie_object.specs.Memory.{is_kept, page_bytes}
use Rattle.genie_object.specs.Sound.{IsSound, strong_at}
use Rattle.genie_object.specs.Touching.{system_owner}
use Rattle.genie_plan.specs.Plans.{times}
use Rattle.genie_plan.specs.Wiring.{wired, unwired, all_wired, all_unwired, CanWire, CanUnwire, OnlyWires, Wired, Unwired, KeepsAll, WiresKeep, UnwiresKeep}
use Rattle.genie_plan.specs.Lemmas.Ranges.{times-cons, same_num, other_num, counted_there}
use Rattle.genie_plan.specs.Lemmas.Ending.{some_or}

with_wires : (c : Counts) (m n : ℕ) → m ≡ n → record c { wires = m } ≡ record c { wires = n }
with_wires c m n e = λ k. record c { wires = e k }

more_twice : (c : Counts) (a b : ℕ) → b ≡ a + 1 → record (one_wire_more c) { wires = (one_wire_more c).wires + a } ≡ record c { wires = c.wires + b }
more_twice c a b e = with_wires c (c.wires + 1 + a) (c.wires + b) (omega arith)

less_twice : (c : Counts) (a b : ℕ) → b ≡ a + 1 → record (one_wire_less c) { wires = (one_wire_less c).wires - a } ≡ record c { wires = c.wires - b }
less_twice c a b e = with_wires c (c.wires - 1 - a) (c.wires - b) (omega arith)

-- one frame with other counts
module _ (t : FrameTable) (f : ℕ) (c : Counts) (there : f < length t.counts) where
  abbrev changed : FrameTable
  changed = record t { counts = set t.counts f c }

  pub counts_here : (g : ℕ) → g ≡ f → counts_at changed g ≡ c
  counts_here g e = ap (counts_at changed) e ∙ get_or-set_same t.counts f c no_counts there

  pub counts_else : (g : ℕ) → g ≢ f → counts_at changed g ≡ counts_at t g
  counts_else g n = get_or-set_other t.counts f g c no_counts n

times_same : (f g : ℕ) (frames : List ℕ) → g ≡ f → times (f ∷ frames) g ≡ times frames g + 1
times_same f g frames e = omega (arith, times-cons f g frames, same_num f g (sym e))

times_other : (f g : ℕ) (frames : List ℕ) → g ≢ f → times (f ∷ frames) g ≡ times frames g
times_other f g frames n = omega (arith, times-cons f g frames, other_num f g (λ e. n (sym e)))

times_first : (f : ℕ) (frames : List ℕ) → 0 < times (f ∷ frames) f
times_first f frames = omega (arith, times_same f f frames refl)

pub can_wire : (t : FrameTable) (frames : List ℕ) → length t.counts ≡ length t.owners → ((f : ℕ) → 0 < times frames f → f < length t.owners) → ((f : ℕ) → (counts_at t f).wires + times frames f < 2 ^ 32) → CanWire t frames
can_wire t [] counted there room = tt
can_wire t (f ∷ frames) counted there room =
    let l : f < length t.owners = there f (times_first f frames) in
    let l' : f < length t.counts = omega arith in (
      l,
      omega (arith, room f, times_first f frames),
      can_wire (wired t f) frames (length-set t.counts f _ ∙ counted)
          (λ g h. elim (same_or g f) [ inl e ↦ omega arith | inr n ↦ there g (omega (arith, h, times_other f g frames n)) ])
          (λ g. elim (same_or g f) [
            | inl e ↦ let w = ap (λ (c : Counts). c.wires) (counts_here t f (one_wire_more (counts_at t f)) l' g e) in omega (arith, w, room g, times_same f g frames e, ap (λ n. (counts_at t n).wires) e)
            | inr n ↦ let w = ap (λ (c : Counts). c.wires) (counts_else t f (one_wire_more (counts_at t f)) l' g n) in omega (arith, w, room g, times_other f g frames n)
          ]),
    )

wires_there : (t : FrameTable) (f : ℕ) → 0 < (counts_at t f).wires → f < length t.counts
wires_there t f h = counted_there t.counts f (λ e. absurd (omega (arith, h, ap (λ (c : Counts). c.wires) e)))

pub can_unwire : (t : FrameTable) (frames : List ℕ) → length t.counts ≡ length t.owners → ((f : ℕ) → times frames f ≤ (counts_at t f).wires) → CanUnwire t frames
can_unwire t [] counted most = tt
can_unwire t (f ∷ frames) counted most =
    let some : 0 < (counts_at t f).wires = omega (arith, most f, times_first f frames) in
    let l = wires_there t f some in (
      omega arith,
      some,
      can_unwire (unwired t f) frames (length-set t.counts f _ ∙ counted) (λ g. elim (same_or g f) [
        | inl e ↦ let w = ap (λ (c : Counts). c.wires) (counts_here t f (one_wire_less (counts_at t f)) l g e) in omega (arith, w, most g, times_same f g frames e, ap (λ n. (counts_at t n).wires) e)
        | inr n ↦ let w = ap (λ (c : Counts). c.wires) (counts_else t f (one_wire_less (counts_at t f)) l g n) in omega (arith, w, most g, times_other f g frames n)
      ]),
    )

only_same : (t : FrameTable) → OnlyWires t t
only_same t = record { page = refl; owners = refl; number = refl; bytes = refl; meters = refl; landed = refl }

only_on : (t : FrameTable) (f : ℕ) (c : Counts) (u : FrameTable) → OnlyWires (record t { counts = set t.counts f c }) u → OnlyWires t u
only_on t f c u x = record { page = x.page; owners = x.owners; number = x.number ∙ length-set t.counts f c; bytes = x.bytes; meters = x.meters; landed = x.landed }

pub wired_all : (t : FrameTable) (frames : List ℕ) → length t.counts ≡ length t.owners → ((f : ℕ) → 0 < times frames f → f < length t.owners) → Wired frames t (all_wired t frames)
wired_all t [] counted there = record { only = only_same t; counts = λ f. with_wires (counts_at t f) _ _ (omega arith) }
wired_all t (f ∷ frames) counted there =
    let l : f < length t.counts = let o : f < length t.owners = there f (times_first f frames) in omega arith in
    let c = one_wire_more (counts_at t f) in
    let x = wired_all (wired t f) frames (length-set t.counts f _ ∙ counted) (λ g h. elim (same_or g f) [ inl e ↦ omega (arith, there f (times_first f frames)) | inr n ↦ there g (omega (arith, h, times_other f g frames n)) ]) in
    record {
      only = only_on t f c (all_wired (wired t f) frames) x.only;
      counts = λ g. elim (same_or g f) [
        | inl e ↦ x.counts g ∙ ap (λ (d : Counts). record d { wires = d.wires + times frames g }) (counts_here t f c l g e) ∙ more_twice (counts_at t f) (times frames g) (times (f ∷ frames) g) (times_same f g frames e) ∙ ap (λ n. record (counts_at t n) { wires = (counts_at t n).wires + times (f ∷ frames) g }) (sym e)
        | inr n ↦ x.counts g ∙ ap (λ (d : Counts). record d { wires = d.wires + times frames g }) (counts_else t f c l g n) ∙ with_wires (counts_at t g) _ _ (omega (arith, times_other f g frames n))
      ];
    }

pub unwired_all : (t : FrameTable) (frames : List ℕ) → length t.counts ≡ length t.owners → ((f : ℕ) → times frames f ≤ (counts_at t f).wires) → Unwired frames t (all_unwired t frames)
unwired_all t [] counted most = record { only = only_same t; counts = λ f. with_wires (counts_at t f) _ _ (omega arith) }
unwired_all t (f ∷ frames) counted most =
    let some : 0 < (counts_at t f).wires = omega (arith, most f, times_first f frames) in
    let l = wires_there t f some in
    let c = one_wire_less (counts_at t f) in
    let x = unwired_all (unwired t f) frames (length-set t.counts f _ ∙ counted) (λ g. elim (same_or g f) [
      | inl e ↦ let w = ap (λ (d : Counts). d.wires) (counts_here t f c l g e) in omega (arith, w, most g, times_same f g frames e, ap (λ n. (counts_at t n).wires) e)
      | inr n ↦ let w = ap (λ (d : Counts). d.wires) (counts_else t f c l g n) in omega (arith, w, most g, times_other f g frames n)
    ]) in
    record {
      only = only_on t f c (all_unwired (unwired t f) frames) x.only;
      counts = λ g. elim (same_or g f) [
        | inl e ↦ x.counts g ∙ ap (λ (d : Counts). record d { wires = d.wires - times frames g }) (counts_here t f c l g e) ∙ less_twice (counts_at t f) (times frames g) (times (f ∷ frames) g) (times_same f g frames e) ∙ ap (λ n. record (counts_at t n) { wires = (counts_at t n).wires - times (f ∷ frames) g }) (sym e)
        | inr n ↦ x.counts g ∙ ap (λ (d : Counts). record d { wires = d.wires - times frames g }) (counts_else t f c l g n) ∙ with_wires (counts_at t g) _ _ (omega (arith, times_other f g frames n))
      ];
    }

-- frames that differ in counts of wires alone
pub record SameButWires (old new : FrameTable) : Type 0 where
  pub only : OnlyWires old new
  pub wires : ℕ → ℕ
  pub counts : (f : ℕ) → counts_at new f ≡ record (counts_at old f) { wires = wires f }

module _ (m : Memory) (t : FrameTable) (s : IsSound m) (x : SameButWires m.frames t) (held : (f : ℕ) → 0 < (counts_at t f).wires → is_held (counts_at m.frames f) ≡ true) where
  owner_same : (f : ℕ) → owner_at t f ≡ owner_at m.frames f
  owner_same f = ap (λ os. get_or os f Free) x.only.owners

  held_same : (f : ℕ) → is_held (counts_at t f) ≡ is_held (counts_at m.frames f)
  held_same f = ap is_held (x.counts f)

  strong_same : (f : ℕ) → strong_at t.counts f ≡ strong_at m.frames.counts f
  strong_same f = ap (λ (c : Counts). c.strong) (x.counts f)

  lent_same : (f : ℕ) → is_lent (counts_at t f) ≡ is_lent (counts_at m.frames f)
  lent_same f = ap is_lent (x.counts f)

  pub wires_keep : KeepsAll m (record m { frames = t })
  wires_keep = record {
    sound = record {
      shaped = record {
        size = rw x.only.page s.shaped.size;
        some = rw x.only.owners s.shaped.some;
        most = rw x.only.owners s.shaped.most;
        counted = x.only.number ∙ s.shaped.counted ∙ ap length (sym x.only.owners);
        filled = ap length x.only.bytes ∙ s.shaped.filled ∙ ap length (sym x.only.owners);
        paged = rw (x.only.page, x.only.bytes) s.shaped.paged;
      };
      placed = rw x.only.owners s.placed;
      lent = λ f. record {
        free = λ e. lent_same f ∙ (s.lent f).free (sym (owner_same f) ∙ e);
        nobody = λ e. lent_same f ∙ (s.lent f).nobody (sym (owner_same f) ∙ e);
      };
      held = record {
        alone = λ f p e h. s.held.alone f p (sym (owner_same f) ∙ e) (sym (held_same f) ∙ h);
        unlent = λ f e h. strong_same f ∙ s.held.unlent f (sym (ap is_system (owner_same f)) ∙ e) (sym (held_same f) ∙ h);
      };
      wired = λ f w. held_same f ∙ held f w;
      slotted = s.slotted;
      shared = s.shared;
      guarded = record {
        readable = s.guarded.readable;
        writable = λ o i w. let h = s.guarded.writable o i w in record { number = h.number; frame = h.frame; is_page = h.is_page; is_place = h.is_place; alone = h.alone; unlent = strong_same h.frame.0 ∙ h.unlent };
      };
    };
    is_seen = λ slots k. record {
      entry_bytes = λ a b. let u : FrameTable = record { page = x.only.page k; owners = t.owners; counts = t.counts; bytes = x.only.bytes k; meters = t.meters; landed = t.landed } in page_bytes u m.pages.pages slots (entry_at m.objects a b).page;
      kept_bytes = λ f. if kept_same f k then get_or (x.only.bytes k) f [] else [];
    };
    loans = record {
      entry_held = λ a b f e h. e;
      held = λ f h. held_same f ∙ h;
      lent = λ f l. record { lent = lent_same f ∙ l; bytes = ap (λ bs. get_or bs f []) x.only.bytes; owner = inl (owner_same f) };
      loans = λ f. record { strong = omega (arith, strong_same f); weak = omega (arith, ap (λ (c : Counts). c.weak) (x.counts f)); input = omega (arith, ap (λ (c : Counts). c.input) (x.counts f)) };
      systems = λ f. ap system_owner (owner_same f);
      entries = λ o. refl;
      number = ap length x.only.owners;
      page = x.only.page;
      slots = refl;
      most = refl;
    };
  }
    where
      kept_same : (f : ℕ) → is_kept (owner_at t f) (counts_at t f) ≡ is_kept (owner_at m.frames f) (counts_at m.frames f)
      kept_same f = (λ k. is_kept (owner_same f k) (x.counts f k)) ∙ kept_wires (owner_at m.frames f) (counts_at m.frames f) (x.wires f)
        where
          kept_wires : (o : Owner) (c : Counts) (n : ℕ) → is_kept o (record c { wires = n }) ≡ is_kept o c
          kept_wires Free c n = refl
          kept_wires (Page p) c n = refl
          kept_wires (System q) c n = refl
          kept_wires (Pool q) c n = refl
          kept_wires Nobody c n = refl

pub wires_keep_all : WiresKeep
wires_keep_all m t frames s x held = wires_keep m t s (record { only = x.only; wires = λ f. (counts_at m.frames f).wires + times frames f; counts = x.counts }) (λ f w. elim (some_or (times frames f)) [
  | inl h ↦ held f h
  | inr z ↦ s.wired f (omega (arith, w, z, ap (λ (c : Counts). c.wires) (x.counts f)))
])

pub unwires_keep_all : UnwiresKeep
unwires_keep_all m t frames s x = wires_keep m t s (record { only = x.only; wires = λ f. (counts_at m.frames f).wires - times frames f; counts = x.counts }) (λ f w. s.wired f (omega (arith, w, ap (λ (c : Counts). c.wires) (x.counts f))))
