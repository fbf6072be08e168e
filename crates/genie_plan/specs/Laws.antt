-- The laws of landings over frames.
use Rattle.std.proofs.Common.{zero, suc, [], ◌∷◌, ◌≡◌, ℕ, ◌≤◌, List, length, drop, refl, ap, sym, ◌∙◌, arith, length-take, length-drop}
use Rattle.genie_base.specs.Bytes.{overlaid, part}
use Rattle.genie_base.specs.Lemmas.Overlaid.{length-overlaid}
use Rattle.genie_frame.specs.FrameTable.{FrameTable}
use Rattle.genie_plan.specs.declared.landing.FrameLanding.{FrameLanding}
use Rattle.genie_plan.specs.Plans.{input_frames, joined, range_bytes, OnlyRange}
use Rattle.genie_plan.specs.LandingKept.{LandingKept}

-- what is stored last stands
pub overlaid-again : (x : ℕ) (a b old : List ℕ) → length a ≤ length b → overlaid x b (overlaid x a old) ≡ overlaid x b old
overlaid-again x a b [] h = refl
overlaid-again (suc x) a b (o ∷ old) h = ap (λ l. o ∷ l) (overlaid-again x a b old h)
overlaid-again zero [] b (o ∷ old) h = refl
overlaid-again zero (c ∷ a) [] (o ∷ old) h = absurd (omega arith)
overlaid-again zero (c ∷ a) (d ∷ b) (o ∷ old) h = ap (λ l. d ∷ l) (overlaid-again zero a b old (omega arith))

-- a part stored where it stands
pub overlaid-same : (x n : ℕ) (all : List ℕ) → overlaid x (part x n all) all ≡ all
overlaid-same x n [] = refl
overlaid-same (suc x) n (o ∷ all) = ap (λ l. o ∷ l) (overlaid-same x n all)
overlaid-same zero zero (o ∷ all) = refl
overlaid-same zero (suc n) (o ∷ all) = ap (λ l. o ∷ l) (overlaid-same zero n all)

pub only_none : (frames : List ℕ) (first len : ℕ) (t : FrameTable) → OnlyRange frames first len t t
only_none frames first len t = record {
  page = refl;
  owners = refl;
  counts = refl;
  meters = refl;
  count = refl;
  sizes = λ f. refl;
  others = λ f n. refl;
  range = sym (overlaid-same first len (joined t.bytes frames));
}

length_part : (x n : ℕ) (a b : List ℕ) → length a ≡ length b → length (part x n a) ≡ length (part x n b)
length_part x n a b e = omega (arith, length-take n (drop x a), length-take n (drop x b), length-drop x a, length-drop x b, e)

pub only_more : (frames : List ℕ) (first len : ℕ) (t u v : FrameTable) → OnlyRange frames first len t u → OnlyRange frames first len u v → OnlyRange frames first len t v
only_more frames first len t u v a b =
    let same : length (joined v.bytes frames) ≡ length (joined u.bytes frames) = ap length b.range ∙ length-overlaid first _ (joined u.bytes frames) in
    let size : length (range_bytes u frames first len) ≡ length (range_bytes v frames first len) = length_part first len (joined u.bytes frames) (joined v.bytes frames) (sym same) in
    record {
      page = b.page ∙ a.page;
      owners = b.owners ∙ a.owners;
      counts = b.counts ∙ a.counts;
      meters = b.meters ∙ a.meters;
      count = b.count ∙ a.count;
      sizes = λ f. b.sizes f ∙ a.sizes f;
      others = λ f n. b.others f n ∙ a.others f n;
      range = b.range ∙ ap (overlaid first (range_bytes v frames first len)) a.range ∙ overlaid-again first (range_bytes u frames first len) (range_bytes v frames first len) (joined t.bytes frames) (omega arith);
    }

pub landing_same : (a : FrameLanding) → LandingKept a a
landing_same a = record { same_reference = refl; loans = refl; first = refl; len = refl; range = only_none (input_frames a.loans.now) a.first a.len a.frames.now }

pub landing_more : (a b c : FrameLanding) → LandingKept a b → LandingKept b c → LandingKept a c
landing_more a b c p q = record {
  same_reference = q.same_reference ∙ p.same_reference;
  loans = q.loans ∙ p.loans;
  first = q.first ∙ p.first;
  len = q.len ∙ p.len;
  range = only_more (input_frames a.loans.now) a.first a.len a.frames.now b.frames.now c.frames.now p.range (rw (p.loans, p.first, p.len) at q.range);
}
