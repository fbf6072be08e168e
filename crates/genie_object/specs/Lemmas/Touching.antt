-- What one call after another leaves as it was.
use Rattle.std.proofs.Common.{◌≡◌, ℕ, ◌<◌, Bool, true, false, refl, ap, arith, sym, ◌∙◌, inl, inr, length, subst}
use Rattle.std.specs.Prelude.{◌==◌, None, Some}
use Rattle.genie_base.specs.Lemmas.Places.{set_at}
use Rattle.genie_frame.specs.declared.frame.Counts.{Counts}
use Rattle.genie_frame.specs.FrameTable.{FrameTable, is_page, counts_at, set_counts, no_counts}
use Rattle.genie_object.specs.declared.pages.PageInfo.{PageInfo}
use Rattle.genie_object.specs.declared.memory.Memory.{Memory}
use Rattle.genie_frame.specs.declared.frame.Meters.{Meters}
use Rattle.genie_object.specs.Sound.{IsSound}
use Rattle.genie_object.specs.Steps.{metered}
use Rattle.genie_object.specs.Touching.{KeepsLoans, Touches, Lasts, NoFewer}

-- equal counts are no fewer loans
pub as_many : (old new : Counts) → new ≡ old → NoFewer old new
as_many old new e = record { strong = omega (arith, ap (λ (c : Counts). c.strong) e); weak = omega (arith, ap (λ (c : Counts). c.weak) e); input = omega (arith, ap (λ (c : Counts). c.input) e) }

pub fewer_on : (a b c : Counts) → NoFewer a b → NoFewer b c → NoFewer a c
fewer_on a b c x y = record { strong = omega (arith, x.strong, y.strong); weak = omega (arith, x.weak, y.weak); input = omega (arith, x.input, y.input) }

-- one frame that has other counts
pub fewer_set : (t : FrameTable) (f : ℕ) (new : Counts) → f < length t.counts → NoFewer (counts_at t f) new → (g : ℕ) → NoFewer (counts_at t g) (counts_at (set_counts t f new) g)
fewer_set t f new l x g = elim (set_at t.counts f g new no_counts l) [
  | inl v ↦ subst (λ c. NoFewer (counts_at t g) c) (sym v.1) (subst (λ h. NoFewer (counts_at t h) new) (sym v.0) x)
  | inr v ↦ as_many (counts_at t g) (counts_at (set_counts t f new) g) v.1
]

pub lasts_on : (a b c : FrameTable) (f : ℕ) → Lasts a b f → Lasts b c f → Lasts a c f
lasts_on a b c f x y = record {
  lent = y.lent;
  bytes = y.bytes ∙ x.bytes;
  owner = elim x.owner [
    | inl e ↦ elim y.owner [
      | inl d ↦ inl (d ∙ e)
      | inr d ↦ inr (ap is_page (sym e) ∙ d.0, d.1)
    ]
    | inr e ↦ elim y.owner [
      | inl d ↦ inr (e.0, d ∙ e.1)
      | inr d ↦ let bad : false ≡ true = sym (ap is_page e.1) ∙ d.0 in cc
    ]
  ];
}

pub keeps_on : (a b c : Memory) → KeepsLoans a b → KeepsLoans b c → KeepsLoans a c
keeps_on a b c x y = record {
  entry_held = λ o i f e h. y.entry_held o i f (x.entry_held o i f e h) (x.held f h);
  held = λ f h. y.held f (x.held f h);
  lent = λ f l. let u = x.lent f l in lasts_on a.frames b.frames c.frames f u (y.lent f u.lent);
  loans = λ f. fewer_on (counts_at a.frames f) (counts_at b.frames f) (counts_at c.frames f) (x.loans f) (y.loans f);
  systems = λ f. y.systems f ∙ x.systems f;
  entries = λ o. y.entries o ∙ x.entries o;
  number = y.number ∙ x.number;
  page = y.page ∙ x.page;
  slots = y.slots ∙ x.slots;
  most = y.most ∙ x.most;
}

pub keeps_all : (m : Memory) → KeepsLoans m m
keeps_all m = record { entry_held = λ o i f e h. e; held = λ f h. h; lent = λ f l. record { lent = l; bytes = refl; owner = inl refl }; loans = λ f. as_many (counts_at m.frames f) (counts_at m.frames f) refl; systems = λ f. refl; entries = λ o. refl; number = refl; page = refl; slots = refl; most = refl }

pub touches_on : (spoken : ℕ → ℕ → Bool) (a b c : Memory) → Touches spoken a b → Touches spoken b c → Touches spoken a c
touches_on spoken a b c x y = record {
  entries = λ o i e. let u = x.entries o i e in let v = y.entries o i e in record { page = v.page ∙ u.page; readable = λ h. u.readable (v.readable h); writable = λ h. u.writable (v.writable h) };
  pages = λ p u. y.pages p (x.outside p u) ∙ x.pages p u;
  outside = λ p u. y.outside p (x.outside p u);
  counts = λ p f u e. y.counts p f (x.outside p u) (ap (λ (q : PageInfo). q.place) (x.pages p u) ∙ e) ∙ x.counts p f u e;
}

pub touches_none : (spoken : ℕ → ℕ → Bool) (m : Memory) → Touches spoken m m
touches_none spoken m = record { entries = λ o i e. record { page = refl; readable = λ h. h; writable = λ h. h }; pages = λ p u. refl; outside = λ p u. u; counts = λ p f u e. refl }

-- a call that speaks of fewer entries leaves more as it was
pub touches_more : (few many : ℕ → ℕ → Bool) (a b : Memory) → ((o i : ℕ) → many o i ≡ false → few o i ≡ false) → Touches few a b → Touches many a b
touches_more few many a b h x = record {
  entries = λ o i e. x.entries o i (h o i e);
  pages = λ p u. x.pages p (record { there = u.there; named = λ o i e. h o i (u.named o i e) });
  outside = λ p u.
      let v = x.outside p (record { there = u.there; named = λ o i e. h o i (u.named o i e) }) in
      record {
        there = v.there;
        named = λ o i e. u.named o i (ap (λ page. elim page [ None ↦ false | Some q ↦ q.0 == p ]) (sym ((x.entries o i (v.named o i e)).page)) ∙ e);
      };
  counts = λ p f u e. x.counts p f (record { there = u.there; named = λ o i e. h o i (u.named o i e) }) e;
}

-- meters don't matter
pub sound_metered : (m : Memory) (t : Meters) → IsSound m → IsSound (metered m t)
sound_metered m t s = record { shaped = s.shaped; placed = s.placed; lent = s.lent; held = s.held; wired = s.wired; slotted = s.slotted; shared = s.shared; guarded = s.guarded }

pub keeps_metered : (a b : Memory) (t : Meters) → KeepsLoans a b → KeepsLoans a (metered b t)
keeps_metered a b t x = record {
  entry_held = x.entry_held;
  held = x.held;
  lent = λ f l. let u = x.lent f l in record { lent = u.lent; bytes = u.bytes; owner = u.owner };
  loans = x.loans;
  systems = x.systems;
  entries = x.entries;
  number = x.number;
  page = x.page;
  slots = x.slots;
  most = x.most;
}

pub touches_metered : (spoken : ℕ → ℕ → Bool) (a b : Memory) (t : Meters) → Touches spoken a b → Touches spoken a (metered b t)
touches_metered spoken a b t x = record { entries = x.entries; pages = x.pages; outside = λ p u. let v = x.outside p u in record { there = v.there; named = v.named }; counts = x.counts }
