-- The first pending transfer goes, with its loans.
use Rattle.std.proofs.Common.{◌≡◌, ℕ, ◌+◌, ◌<◌, ◌≤◌, true, cond, List, [], ◌∷◌, refl, sym, ap, subst, arith, rules, ◌∙◌, length, get_or, find, AllPairs}
use Rattle.std.specs.Prelude.{Some}
use Rattle.genie_demux.specs.Posted as demux
use Rattle.genie_demux.specs.declared.input.Input.{Input}
use Rattle.genie_frame.specs.declared.frame.Counts.{Counts}
use Rattle.genie_frame.specs.FrameTable.{FrameTable, IsShaped, AreLoansOwned, counts_at}
use Rattle.genie_plan.specs.Loans.{AreOut}
use Rattle.genie_plan.specs.Loans as kind
use Rattle.genie_object.specs.declared.memory.Memory.{Memory}
use Rattle.genie_model.specs.Lemmas.Lists.{Has, find_has, pairs_tail}
use Rattle.genie_model.specs.Tables.{without}
use Rattle.genie_kernel.specs.declared.kernel.Kernel.{Kernel}
use Rattle.genie_kernel.specs.declared.transfer.Transfer.{Transfer}
use Rattle.genie_kernel.specs.Calls.{has_number}
use Rattle.genie_kernel.specs.Counted.{loans_on, wires_on}
use Rattle.genie_kernel.specs.Loans.{loans_of}
use Rattle.genie_kernel.specs.Lemmas.Staying.{at_least}
use Rattle.genie_changes.specs.Ending.{IsGivenBack, LeavesOthers, LendsSoundly, without_call}
use Rattle.genie_calls.specs.CloseLaws.{CloseLaws}
use Rattle.genie_calls.specs.Closing.{IsLent, KeepsPages, KeepsRest}

abbrev Rises : Transfer → Transfer → Type 0
Rises x y = x.id.0 < y.id.0

-- the first transfer has the number that it has
pub record IsFirstCall (n : ℕ) (ts : List Transfer) : Type 0 where
  pub call : Transfer
  pub rest : List Transfer
  pub first : ts ≡ call ∷ rest
  pub found : find (has_number n) ts ≡ Some call
  pub others : without (has_number n) ts ≡ rest

pub first_call : (n : ℕ) (ts : List Transfer) (t : Transfer) → 0 < length ts → ((d : Transfer) → get_or ts 0 d ≡ t) → t.id.0 ≡ n → IsFirstCall n ts
first_call n [] t some at is = absurd (omega (arith, some))
first_call n (x ∷ ts) t some at is =
    let same : x ≡ t = at x in
    let number : x.id.0 ≡ n = ap (λ (u : Transfer). u.id.0) same ∙ is in
    let passes : has_number n x ≡ true = grind (arith, rules, number) in
    record { call = x; rest = ts; first = refl; found = ap (λ b. cond b (Some x) (find (has_number n) ts)) passes; others = ap (λ b. cond b ts (x ∷ without (has_number n) ts)) passes }

-- the others are one less, and their numbers still rise
pub one_fewer : (n : ℕ) (ts : List Transfer) → IsFirstCall n ts → length (without (has_number n) ts) + 1 ≡ length ts
one_fewer n ts is = let l : length (without (has_number n) ts) ≡ length is.rest = ap (λ (us : List Transfer). length us) is.others in let all : length ts ≡ length (is.call ∷ is.rest) = ap (λ (us : List Transfer). length us) is.first in omega (arith, l, all)

rising_rest : (n : ℕ) (ts : List Transfer) → IsFirstCall n ts → AllPairs Rises ts → AllPairs Rises (without (has_number n) ts)
rising_rest n ts is rise = subst (AllPairs Rises) (sym is.others) (pairs_tail Rises is.call is.rest (subst (AllPairs Rises) is.first rise))

module _ (k : Kernel) (n : ℕ) (t : Transfer) (l : IsLent k) (found : find (has_number n) k.transfers ≡ Some t) where
  there : Has t k.transfers
  there = (find_has (has_number n) k.transfers t found).0

  pub loans_out : AreOut k.memory.frames (loans_of t.loans)
  loans_out kind.Strong f = subst (λ (c : Counts). loans_on kind.Strong f t ≤ c.strong) (sym (l.counted f)) (at_least (loans_on kind.Strong f) k.transfers t there)
  loans_out kind.Weak f = subst (λ (c : Counts). loans_on kind.Weak f t ≤ c.weak) (sym (l.counted f)) (at_least (loans_on kind.Weak f) k.transfers t there)
  loans_out kind.Input f = subst (λ (c : Counts). loans_on kind.Input f t ≤ c.input) (sym (l.counted f)) (omega (arith, at_least (loans_on kind.Input f) k.transfers t there))

  pub wires_out : (f : ℕ) → wires_on f t ≤ (counts_at k.memory.frames f).wires
  wires_out f = subst (λ (c : Counts). wires_on f t ≤ c.wires) (sym (l.counted f)) (at_least (wires_on f) k.transfers t there)

-- the kernel without it, and with these frames
abbrev pub ended_as : Kernel → ℕ → FrameTable → Kernel
ended_as k n new = without_call k (record (k.memory) { frames = new }) n (demux.without n k.posted)

module _ (laws : CloseLaws) (k : Kernel) (n : ℕ) (t : Transfer) (new : FrameTable) (l : IsLent k) (found : find (has_number n) k.transfers ≡ Some t) (shaped : IsShaped new.page new.owners new.counts new.bytes) (lent : AreLoansOwned new.owners new.counts) (back : IsGivenBack t k.memory.frames new) where
  lends : LendsSoundly k.config.page k.memory k.devices n k.transfers k.pools
  lends = record { sound = l.sound; counted = l.counted; owners = l.owners; rise = l.rising; others = laws.planned k.config.page k.memory.frames.owners k.devices (has_number n) k.transfers l.planned }

  leaves : LeavesOthers n t k.transfers k.pools k.memory (record (k.memory) { frames = new })
  leaves = laws.others k.config.page k.memory k.devices n t k.transfers k.pools new lends found shaped lent back

  pub ended_lent : IsFirstCall n k.transfers → IsLent (ended_as k n new)
  ended_lent first = record {
    sound = leaves.sound;
    counted = laws.counts (has_number n) t k.transfers k.pools k.memory.frames.counts new.counts found leaves.counts l.counted;
    owners = laws.owners n t k.transfers k.pools k.memory.frames.owners new.owners found leaves.owners l.owners;
    rising = rising_rest n k.transfers first l.rising;
    planned = laws.stay k.config.page k.memory.frames.owners new.owners k.devices (without (has_number n) k.transfers) leaves.own lends.others;
    posted = laws.posted n k.posted k.transfers l.rising l.posted;
    pool_places = l.pool_places;
  }

  pub ended_pages : KeepsPages k.memory (record (k.memory) { frames = new })
  ended_pages = record {
    only = refl;
    entries = leaves.entries;
    meters = back.loans.meters ∙ back.wires.only.meters;
    landed = back.loans.landed ∙ back.wires.only.landed;
  }

pub pages_refl : (m : Memory) → KeepsPages m m
pages_refl m = record { only = refl; entries = λ slots. refl; meters = refl; landed = refl }

pub pages_trans : (a b c : Memory) → KeepsPages a b → KeepsPages b c → KeepsPages a c
pages_trans a b c x y = record {
  only = y.only ∙ ap (λ (m : Memory). record m { frames = c.frames }) x.only;
  entries = λ slots. y.entries slots ∙ x.entries slots;
  meters = y.meters ∙ x.meters;
  landed = y.landed ∙ x.landed;
}

pub rest_refl : (k : Kernel) → KeepsRest k k
rest_refl k = record { only = refl; pages = pages_refl k.memory }

pub rest_trans : (a b c : Kernel) → KeepsRest a b → KeepsRest b c → KeepsRest a c
rest_trans a b c x y = record {
  only = y.only ∙ ap (λ (k : Kernel). record k { memory = c.memory; transfers = c.transfers; posted = c.posted; pools = c.pools }) x.only;
  pages = pages_trans a.memory b.memory c.memory x.pages y.pages;
}

-- so it is of the kernel with its tables as the calls leave them
pub ended_as_lent : (laws : CloseLaws) (k : Kernel) (n : ℕ) (t : Transfer) (new : FrameTable) (ts : List Transfer) (posted : List Input) → IsLent k → IsFirstCall n k.transfers → find (has_number n) k.transfers ≡ Some t → IsShaped new.page new.owners new.counts new.bytes → AreLoansOwned new.owners new.counts → IsGivenBack t k.memory.frames new → ts ≡ without (has_number n) k.transfers → posted ≡ demux.without n k.posted
    → IsLent (record k { memory = record (k.memory) { frames = new }; transfers = ts; posted = posted })
ended_as_lent laws k n t new ts posted l first found shaped lent back others left = subst (λ us. IsLent (record k { memory = record (k.memory) { frames = new }; transfers = us; posted = posted })) (sym others) (subst (λ ps. IsLent (record k { memory = record (k.memory) { frames = new }; transfers = without (has_number n) k.transfers; posted = ps })) (sym left) (ended_lent laws k n t new l found shaped lent back first))

pub ended_as_rest : (laws : CloseLaws) (k : Kernel) (n : ℕ) (t : Transfer) (new : FrameTable) (ts : List Transfer) (posted : List Input) → IsLent k → find (has_number n) k.transfers ≡ Some t → IsShaped new.page new.owners new.counts new.bytes → AreLoansOwned new.owners new.counts → IsGivenBack t k.memory.frames new
    → KeepsRest k (record k { memory = record (k.memory) { frames = new }; transfers = ts; posted = posted })
ended_as_rest laws k n t new ts posted l found shaped lent back = record { only = refl; pages = ended_pages laws k n t new l found shaped lent back }
